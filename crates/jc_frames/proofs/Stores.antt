-- A write to a local.
use Rattle.std.proofs.Common.{◌≡◌, ℕ, ◌+◌, ◌<◌, ◌≤◌, List, [], ◌∷◌, ◌++◌, length, take, drop, refl, sym, ap, arith, set, true, length-set, length-take}
use Rattle.std.proofs.Common.{length-drop}
use Rattle.std.specs.Prelude.{nat_lt}
use Rattle.std.proofs.Math.Seq.{take-set-lt}
use Rattle.std.proofs.lemmas.List.{drop-set-lt, drop-set-add, take-set-le}
use Rattle.std.proofs.lemmas.Bool.Decides.{nat_tests}
use Rattle.jc_frames.specs.declared.cell.Cell.{Cell}
use Rattle.jc_frames.specs.declared.frames.Region.{Region}
use Rattle.jc_frames.specs.declared.frames.SavedFrame.{SavedFrame}
use Rattle.jc_frames.specs.Frames.{Frames, GoesOn, in_frame, store_local, frame_in, frames_of}

is_below : (n k : ℕ) → n < k → nat_lt n k ≡ true
is_below n k h = grind (arith, nat_tests)

store_is : (xs : List Cell) (r : Region) (sv : List SavedFrame) (n : ℕ) (c : Cell) → r.base + n < r.bottom → r.bottom ≤ length xs →
    GoesOn (frames_of (set xs (r.base + n) c) r sv) ≡ in_frame (frames_of xs r sv) (store_local n c (frame_in xs r))
store_is xs r sv n c h fits =
    let low : r.base ≤ r.base + n = omega arith in
    let below : n < length (drop r.base (take r.bottom xs)) = omega (arith, length-drop r.base (take r.bottom xs), length-take r.bottom xs) in
    rw (
      is_below n (length (drop r.base (take r.bottom xs))) below,
      take-set-lt r.bottom xs (r.base + n) c h,
      drop-set-add r.base (take r.bottom xs) n c,
      drop-set-lt r.bottom xs (r.base + n) c h,
      take-set-le r.base xs (r.base + n) c low,
    ) refl

pub store_through : (xs ys : List Cell) (r : Region) (sv : List SavedFrame) (n m : ℕ) (c : Cell) (s : Frames) → ys ≡ set xs (r.base + m) c → m ≡ n
    → frames_of xs r sv ≡ s → r.base + m < r.bottom → r.bottom ≤ length xs → GoesOn (frames_of ys r sv) ≡ in_frame s (store_local n c s.current)
store_through xs ys r sv n m c s written number is h fits = rw (written, ← number, ← is) (store_is xs r sv m c h fits)
