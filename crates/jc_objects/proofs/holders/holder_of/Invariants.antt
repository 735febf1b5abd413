use Rattle.std.proofs.Common.{◌≡◌, ◌≤◌, ◌-◌}
use Rattle.jc_words.specs.Layout.{text_start}
use Rattle.jc_objects.specs.Holders.{holder_in}
use Rattle.jc_objects.specs.Records.{items_from, standing_items}
use Rattle.jc_objects.proofs.holders.holder_of.Given as goal

-- what is left of the walk has the answer
abbrev pub invariant-loop-at : goal.invariant-loop-at
invariant-loop-at g l =
    let w = g.W.ImageWords.words l.words in
    record {
      low : text_start ≤ l.at;
      high : l.at ≤ l.top;
      left : holder_in (items_from w l.at) l.address ≡ holder_in (standing_items w) l.address;
    }

abbrev pub decreases-loop-at : goal.decreases-loop-at
decreases-loop-at g l = l.top - l.at
