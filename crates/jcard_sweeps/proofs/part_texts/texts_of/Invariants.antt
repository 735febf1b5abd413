use Rattle.std.proofs.Common.{List, map, take}
use Rattle.jcard_files.specs.FileDeeds.{FileDeed}
use Rattle.jcard_sweeps.specs.PartTexts.{AreRead}
use Rattle.jcard_sweeps.specs.Texts.{texts_of}
use Rattle.jcard_sweeps.proofs.part_texts.texts_of.Given as goal

abbrev pub invariant-loop-file : goal.invariant-loop-file
invariant-loop-file g l = (deeds : List FileDeed) × g.D.Disk.does l.fn.disk deeds l.disk
    × AreRead (texts_of (take l.file-index l.files)) (map (λ t. t.items) l.texts.items) deeds
