-- What the first word of a header says of a persistent instance.
use Rattle.std.proofs.Common.{◌≡◌, ℕ, List, ◌/◌, ◌%◌, ◌<◌, ◌==◌, ◌&&◌, ◌||◌, Bool, true, false, inl, inr, length, get_or, refl, sym, ◌∙◌, ap, arith, if◌then◌else◌, None, Some, nat_lt}
use Rattle.std.proofs.lemmas.Bool.{cases_eq, ne_eqb, or_from, and_parts, ltb-true}
use Rattle.jc_transient.specs.declared.cell.ClearEvent.TheVariants.{Reset, Deselect}
use Rattle.jc_heap.specs.declared.object.Kind.{Kind}
use Rattle.jc_heap.specs.declared.object.Kind.TheVariants.{Instance, BooleanArray, ByteArray, ShortArray, ReferenceArray}
use Rattle.jc_heap.specs.Object.{is_header, is_packed_header, kind_of, event_of}
use Rattle.jc_heap.specs.Heap.{heap_of, facts, IsObject}
use Rattle.jc_heap.specs.Image.{IsWellFormed}
use Rattle.jc_heap.proofs.Reading.{facts_are, header_said}

no_event : (b : Bool) → (if b then Some Reset else Some Deselect) ≡ None → ⊥
no_event true e = cc
no_event false e = cc

none_event : (n : ℕ) → event_of n ≡ None → n ≡ 0
none_event n e = elim (cases_eq n 0) [
  | inl z ↦ z
  | inr m ↦ absurd (no_event (n == 1) (rw (ne_eqb n 0 m) at e))
]

array_kind : (k : Kind) → (k ≡ Instance → ⊥) → (m : ℕ) → kind_of m ≡ k → (n : ℕ) → kind_of n ≡ Instance → n ≡ m → ⊥
array_kind k other m is n e same = other (sym is ∙ ap kind_of (sym same) ∙ e)

boolean_array : BooleanArray ≡ Instance → ⊥
boolean_array e = cc

byte_array : ByteArray ≡ Instance → ⊥
byte_array e = cc

short_array : ShortArray ≡ Instance → ⊥
short_array e = cc

reference_array : ReferenceArray ≡ Instance → ⊥
reference_array e = cc

-- the first word of a header that says so is 1
said_instance : (w : ℕ) → is_header w ≡ true → event_of (w / 256) ≡ None → kind_of (w % 256) ≡ Instance → w ≡ 1
said_instance w header e k =
    let zero : w / 256 ≡ 0 = none_event (w / 256) e in
    let two : w % 256 ≡ 2 → ⊥ = array_kind BooleanArray boolean_array 2 refl (w % 256) k in
    let three : w % 256 ≡ 3 → ⊥ = array_kind ByteArray byte_array 3 refl (w % 256) k in
    let four : w % 256 ≡ 4 → ⊥ = array_kind ShortArray short_array 4 refl (w % 256) k in
    let five : w % 256 ≡ 5 → ⊥ = array_kind ReferenceArray reference_array 5 refl (w % 256) k in
    let six : w % 256 ≡ 6 → ⊥ = array_kind BooleanArray boolean_array 6 refl (w % 256) k in
    let seven : w % 256 ≡ 7 → ⊥ = array_kind ByteArray byte_array 7 refl (w % 256) k in
    let single : is_packed_header w ≡ false =
    or_from (w == 6) (w == 7) (ne_eqb w 6 (λ q. six (omega (arith, q)))) (ne_eqb w 7 (λ q. seven (omega (arith, q)))) in
    let parts : (nat_lt 0 (w % 256) && (nat_lt (w % 256) 6 && nat_lt (w / 256) 3)) ≡ true =
    ap (λ b. b || (nat_lt 0 (w % 256) && (nat_lt (w % 256) 6 && nat_lt (w / 256) 3))) (sym single) ∙ header in
    let low : 0 < w % 256 = ltb-true 0 (w % 256) ((and_parts (nat_lt 0 (w % 256)) (nat_lt (w % 256) 6 && nat_lt (w / 256) 3) parts).0) in
    let high : w % 256 < 6 = ltb-true (w % 256) 6 ((and_parts (nat_lt (w % 256) 6) (nat_lt (w / 256) 3)
    ((and_parts (nat_lt 0 (w % 256)) (nat_lt (w % 256) 6 && nat_lt (w / 256) 3) parts).1)).0) in
    omega (arith, zero, two, three, four, five, low, high)

-- so of an object's
pub instance_word : (ws : List ℕ) (r : ℕ) (laid : IsWellFormed ws) (there : IsObject (heap_of ws) r) → length ws < 65536
    → (facts (heap_of ws) r).event ≡ None → (facts (heap_of ws) r).kind ≡ Instance → get_or ws r 0 ≡ 1
instance_word ws r laid there small e k =
    said_instance (get_or ws r 0) (header_said ws r laid there small) (ap (λ f. f.event) (sym (facts_are ws r laid there)) ∙ e)
    (ap (λ f. f.kind) (sym (facts_are ws r laid there)) ∙ k)

pub word_instance : (ws : List ℕ) (r : ℕ) (laid : IsWellFormed ws) (there : IsObject (heap_of ws) r) → get_or ws r 0 ≡ 1
    → ((facts (heap_of ws) r).event ≡ None) × ((facts (heap_of ws) r).kind ≡ Instance)
word_instance ws r laid there one = (
  ap (λ f. f.event) (facts_are ws r laid there) ∙ ap (λ w. event_of (w / 256)) one,
  ap (λ f. f.kind) (facts_are ws r laid there) ∙ ap (λ w. kind_of (w % 256)) one,
)
