-- Records of packages whose words all lie in the heap.
use Rattle.std.proofs.Common.{◌≡◌, ◌∙◌, ℕ, ◌+◌, ◌-◌, ◌<◌, ◌≤◌, ◌&&◌, Bool, true, false, inl, inr, List, Option, Some, None, ap, refl, sym, subst, arith, if◌then◌else◌, is_some}
use Rattle.std.specs.Prelude.{nat_le, nat_lt, slice_index, unwrap_or}
use Rattle.std.proofs.lemmas.Bool.{cases_Bool, false≢true, leb-true, ltb-true}
use Rattle.jc_words.specs.Layout.{addresses_start, most_packages}
use Rattle.jc_commit.specs.Image.{top_of}
use Rattle.jc_objects.specs.Bounds.{first_record}
use Rattle.jc_objects.specs.Records.{IsRecord, record_size, whole_size}
use Rattle.jc_objects.proofs.Sizes.{size_some}
use Rattle.jcard_dump.specs.Packages.{record_at, record_from, sized}
use Rattle.jcard_dump.specs.declared.packages.Record.{Record}

-- nothing is no record
not_some : {A : Type 0} (x : A) → Some x ≡ None → ⊥
not_some x e = false≢true (sym (ap is_some e))

-- its words lie in the heap, and it has this many
pub record IsPlaced (w : List ℕ) (f : Record) : Type 0 where
  pub there : IsRecord w f.at
  pub size : f.size ≡ record_size w f.at

sized_is : (a : ℕ) (o : Option ℕ) (f : Record) → Some f ≡ sized a o → (n : ℕ) × (o ≡ Some n) × ((let made : Record = record { at = a; size = n } in made) ≡ f)
sized_is a (Some n) f e = (n, refl, sym (ap (λ (p : Option Record). unwrap_or p f) e))
sized_is a None f e = absurd (not_some f e)

from_is : (w : List ℕ) (a : ℕ) (f : Record) → Some f ≡ record_from w a → IsPlaced w f
from_is w a f e = elim (cases_Bool (nat_le (first_record w) a)) [
  | inl low ↦ elim (cases_Bool (nat_lt a (top_of w))) [
    | inl high ↦
        let here : Some f ≡ sized a (whole_size w a) = e
        ∙ ap (λ (b : Bool). if b && nat_lt a (top_of w) then sized a (whole_size w a) else None) low
        ∙ ap (λ (b : Bool). if b then sized a (whole_size w a) else None) high in
        let is = sized_is a (whole_size w a) f here in
        let size = size_some w a is.0 (sym is.1) in
        let first : first_record w ≤ a = leb-true (first_record w) a low in
        let below : a < top_of w = ltb-true a (top_of w) high in
        subst (IsPlaced w) is.2 (record {
          there = record { low = omega (arith, first); whole = omega (arith, size.1, below) };
          size = size.0;
        })
    | inr high ↦ absurd (not_some f (e
        ∙ ap (λ (b : Bool). if b && nat_lt a (top_of w) then sized a (whole_size w a) else None) low
        ∙ ap (λ (b : Bool). if b then sized a (whole_size w a) else None) high))
  ]
  | inr low ↦ absurd (not_some f (e ∙ ap (λ (b : Bool). if b && nat_lt a (top_of w) then sized a (whole_size w a) else None) low))
]

pub record_is : (w : List ℕ) (before : ℕ) (f : Record) → Some f ≡ record_at w before → IsPlaced w f
record_is w before f e = elim (cases_Bool (nat_lt before most_packages)) [
  | inl few ↦ from_is w (slice_index w (addresses_start + before)) f (e
      ∙ ap (λ (b : Bool). if b then record_from w (slice_index w (addresses_start + before)) else None) few)
  | inr many ↦ absurd (not_some f (e ∙ ap (λ (b : Bool). if b then record_from w (slice_index w (addresses_start + before)) else None) many))
]
