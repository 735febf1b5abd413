use Rattle.std.proofs.Common.{◌≤◌, ◌-◌}
use Rattle.jc_words.specs.Layout.{text_start}
use Rattle.jcard_dump.specs.Objects.{item_text, objects_lines}
use Rattle.jcard_dump.proofs.LineLists.{IsTelling}
use Rattle.jcard_dump.proofs.ObjectLines.{lines_from}
use Rattle.jcard_dump.proofs.objects.push_objects.Given as goal

abbrev pub invariant-loop-at : goal.invariant-loop-at
invariant-loop-at g l = record {
  low : text_start ≤ l.at;
  high : l.at ≤ l.top;
  told : IsTelling l.fn.text.items l.text.items (objects_lines l.image) (lines_from (item_text l.image) l.image.words l.at);
}

abbrev pub decreases-loop-at : goal.decreases-loop-at
decreases-loop-at g l = l.top - l.at
