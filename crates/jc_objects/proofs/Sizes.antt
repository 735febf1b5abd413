-- Records whose words lie below the top, and others.
use Rattle.std.proofs.Common.{◌≡◌, ℕ, ◌-◌, ◌<◌, ◌≤◌, Bool, inl, inr, List, Option, Some, None, ap, sym, if◌then◌else◌, is_some, arith}
use Rattle.std.specs.Prelude.{nat_le, unwrap_or}
use Rattle.std.proofs.Common.{◌∙◌}
use Rattle.std.proofs.lemmas.Bool.{cases_Bool, false≢true, leb-false, leb-true}
use Rattle.jc_commit.specs.Image.{top_of}
use Rattle.jc_words.specs.Layout.{text_start}
use Rattle.jc_objects.specs.Records.{IsRecord, record_size, whole_size}

pub size_none : (w : List ℕ) (at : ℕ) → None ≡ whole_size w at → top_of w - at < record_size w at
size_none w at e = elim (cases_Bool (nat_le (record_size w at) (top_of w - at))) [
  | inl holds ↦ absurd (false≢true (ap is_some (e ∙ ap (λ (b : Bool). if b then Some (record_size w at) else None) holds)))
  | inr fails ↦ leb-false (record_size w at) (top_of w - at) fails
]

pub size_some : (w : List ℕ) (at n : ℕ) → Some n ≡ whole_size w at → (n ≡ record_size w at) × (record_size w at ≤ top_of w - at)
size_some w at n e = elim (cases_Bool (nat_le (record_size w at) (top_of w - at))) [
  | inl holds ↦ (
    ap (λ (o : Option ℕ). unwrap_or o n) (e ∙ ap (λ (b : Bool). if b then Some (record_size w at) else None) holds),
    leb-true (record_size w at) (top_of w - at) holds,
  )
  | inr fails ↦ absurd (false≢true (sym (ap is_some (e ∙ ap (λ (b : Bool). if b then Some (record_size w at) else None) fails))))
]

-- a record of which all words lie below the top
pub record_of : (w : List ℕ) (at n : ℕ) → text_start ≤ at → at < top_of w → Some n ≡ whole_size w at → IsRecord w at
record_of w at n low below e = let size = size_some w at n e in record { low = low; whole = omega (arith, size.1, below) }
