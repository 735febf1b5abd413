use Rattle.std.proofs.Common.{List, take}
use Rattle.jcard_files.specs.FileDeeds.{FileDeed}
use Rattle.jcard_test.specs.Sources.{AreNoted, names_of}
use Rattle.jcard_test.specs.Tests.{AreFilesRead}
use Rattle.jcard_test.proofs.files_read.named_files.Given as goal

abbrev pub invariant-loop-name : goal.invariant-loop-name
invariant-loop-name g l = (deeds : List FileDeed) × g.D.Disk.does l.fn.disk deeds l.disk × AreNoted l.fn.sources.items l.sources.items deeds
    × AreFilesRead (names_of (take l.name-index l.names)) l.files.items deeds
