use Rattle.std.proofs.Common.{◌≡◌, ◌≤◌, ◌-◌, ◌++◌}
use Rattle.jc_words.specs.Layout.{text_start}
use Rattle.jc_objects.specs.Keys.{key_arrays}
use Rattle.jc_objects.proofs.Arrays.{arrays_from}
use Rattle.jc_objects.proofs.keys.push_key_arrays.Given as goal

abbrev pub invariant-loop-at : goal.invariant-loop-at
invariant-loop-at g l =
    let w = g.W.ImageWords.words l.words in
    record {
      low : text_start ≤ l.at;
      high : l.at ≤ l.top;
      left : l.fn.found.items ++ key_arrays l.platform w ≡ l.found.items ++ arrays_from l.platform w l.at;
    }

abbrev pub decreases-loop-at : goal.decreases-loop-at
decreases-loop-at g l = l.top - l.at
