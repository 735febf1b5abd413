use Rattle.std.proofs.Common.{◌≤◌, ◌-◌}
use Rattle.jc_objects.specs.Records.{record_words}
use Rattle.jcard_dump.specs.Packages.{parts_lines}
use Rattle.jcard_dump.proofs.LineLists.{IsTelling}
use Rattle.jcard_dump.proofs.PartLines.{parts_from}
use Rattle.jcard_dump.proofs.packages.push_parts.Given as goal

abbrev pub invariant-loop-offset : goal.invariant-loop-offset
invariant-loop-offset g l =
    let words = record_words (g.S.WordStore.words l.store) l.found.at in
    record {
      low : 1 ≤ l.offset;
      high : l.offset ≤ l.found.size;
      told : IsTelling l.fn.text.items l.text.items (parts_lines l.references words) (parts_from l.references words l.offset);
    }

abbrev pub decreases-loop-offset : goal.decreases-loop-offset
decreases-loop-offset g l = l.found.size - l.offset
