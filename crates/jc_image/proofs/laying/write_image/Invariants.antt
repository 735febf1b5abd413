-- The words before the index are written.
use Rattle.std.proofs.Common.{◌≡◌, ◌+◌, ◌*◌, ◌<◌, ◌≤◌, ℕ, false, length, get_or}
use Rattle.jc_words.specs.Count.{saturating_count}
use Rattle.jc_words.specs.Layout.{text_start}
use Rattle.jc_image.specs.Laying.{written_image_prefix}
use Rattle.jc_image.proofs.laying.write_image.Given as goal

abbrev pub invariant-loop-i : goal.invariant-loop-i
invariant-loop-i g l =
    let now = g.S.WordStore.words l.store in
    let first = g.S.WordStore.words l.initial.store in
    record {
      words : now ≡ written_image_prefix l.i (length first) l.room l.text first;
      size : length now ≡ length first;
      up : 1 ≤ l.i → g.S.WordStore.down l.store ≡ false;
      passed : g.S.WordStore.passed l.store ≡ saturating_count (g.S.WordStore.passed l.initial.store) l.i;
      down : g.S.WordStore.down l.store ≡ g.S.WordStore.down l.initial.store;
      refusals : g.S.WordStore.refusals l.store ≡ g.S.WordStore.refusals l.initial.store;
      bytes : (k : ℕ) → text_start + k < l.i → (get_or l.text (2 * k) 0 < 256) × (get_or l.text (2 * k + 1) 0 < 256);
    }
