use Rattle.std.proofs.Common.{◌≤◌, ◌-◌}
use Rattle.jc_words.specs.Layout.{text_start}
use Rattle.jc_objects.specs.Places.{IsPlaceFor}
use Rattle.jcard_dump.specs.Compared.{compared_lines, compared_text}
use Rattle.jcard_dump.proofs.LineLists.{IsTelling}
use Rattle.jcard_dump.proofs.ObjectLines.{lines_from}
use Rattle.jcard_dump.proofs.compared.Comparison.push_all.Given as goal

abbrev pub invariant-loop-at : goal.invariant-loop-at
invariant-loop-at g l =
    let i = l.self.image.now in
    let j = l.self.other.now in
    record {
      low : text_start ≤ l.at;
      high : l.at ≤ l.top;
      place : IsPlaceFor j.words l.place l.at;
      told : IsTelling l.fn.text.items l.text.items (compared_lines l.self.side i j) (lines_from (compared_text l.self.side i j) i.words l.at);
    }

abbrev pub decreases-loop-at : goal.decreases-loop-at
decreases-loop-at g l = l.top - l.at
