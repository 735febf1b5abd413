use Rattle.std.proofs.Common.{List, take}
use Rattle.jcard_files.specs.FileDeeds.{FileDeed}
use Rattle.jcard_test.specs.Sources.{AreNoted}
use Rattle.jcard_test.specs.Tests.{AreIncluded}
use Rattle.jcard_test.proofs.rows_file.with_included.Given as goal

abbrev pub invariant-loop-line : goal.invariant-loop-line
invariant-loop-line g l = (deeds : List FileDeed) × g.D.Disk.does l.fn.disk deeds l.disk × AreNoted l.fn.sources.items l.sources.items deeds
    × AreIncluded l.name (take l.line-index l.own) l.lines.items deeds
