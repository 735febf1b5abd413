-- How many bytes initialised arrays have together.
use Rattle.std.proofs.Common.{◌≡◌, ℕ, ◌+◌, ◌-◌, ◌≤◌, ◌<◌, List, [], ◌∷◌, length, get_or, drop, Ok, Err, sym, ap, subst, ◌∙◌, arith}
use Rattle.std.proofs.lemmas.List.{drop_more, drop_all, length-append}
use Rattle.jc_cap.specs.declared.fault.CapFault.{CapFault}
use Rattle.jc_cap.specs.Reading.{many_at, rest_after, list_or_empty, BeginsWithList}
use Rattle.jc_cap.specs.Places.{IsList}
use Rattle.jc_cap.proofs.Many.{Begins-no_fault, BeginsWithList-length, ok_is}
use Rattle.jc_cap.proofs.Walk.{begins_at, step_at}
use Rattle.jc_cap.specs.StaticValues.{StaticArray}
use Rattle.jc_cap.specs.StaticReading.{static_array_at, values_size}
use Rattle.jc_cap.proofs.StaticTelling.{array_tells}

abbrev pub all_arrays : ℕ → List ℕ → List StaticArray
all_arrays n bytes = list_or_empty (many_at static_array_at n bytes)

-- how far a walk over the arrays has come
pub record Walks (n i : ℕ) (bytes rest : List ℕ) (size : ℕ) : Type 0 where
  pub held : BeginsWithList static_array_at (n - i) rest (drop i (all_arrays n bytes))
  pub sum : size + values_size (drop i (all_arrays n bytes)) ≡ values_size (all_arrays n bytes)
  pub room : size + length rest ≤ length bytes

pub walks_first : (n : ℕ) (bytes : List ℕ) → IsList static_array_at n bytes → Walks n 0 bytes bytes 0
walks_first n bytes h = record {
  held = subst (λ (k : ℕ). BeginsWithList static_array_at k bytes (all_arrays n bytes)) (let e : n ≡ n - 0 = omega arith in e) h;
  sum = omega arith;
  room = omega arith;
}

pub array_long : (bytes next : List ℕ) (a : StaticArray) → static_array_at bytes ≡ Ok (a, next) → length a.values + length next ≤ length bytes
array_long bytes next a e =
    let t = array_tells.takes bytes a next e in
    omega (arith, ap length t.parts, length-append t.text next, ap length t.is.3, length-append t.is.0 a.values)

front : (x y : StaticArray) (xs ys : List StaticArray) → x ∷ xs ≡ y ∷ ys → x ≡ y
front x y xs ys e = cc

size_there : (i n : ℕ) (bytes next : List ℕ) (xs : List StaticArray) (a : StaticArray) → length xs ≡ n → i < n
    → BeginsWithList static_array_at (n - i) bytes (drop i xs) → static_array_at bytes ≡ Ok (a, next)
    → values_size (drop i xs) ≡ length a.values + values_size (drop (i + 1) xs)
size_there i n bytes next xs a len lt h e =
    let b = begins_at static_array_at i n bytes xs lt h in
    let more : drop i xs ≡ get_or xs i a ∷ drop (i + 1) xs = drop_more xs i a (omega (arith, len, lt)) in
    let first : get_or xs i a ≡ b.first = front (get_or xs i a) b.first (drop (i + 1) xs) b.others (sym more ∙ b.parts) in
    let same : b.first ≡ a = ap (λ (p : StaticArray × List ℕ). p.0) (ok_is (b.first, b.next) (a, next) (sym b.reads ∙ e)) in
    ap values_size more ∙ ap (λ (x : StaticArray). length x.values + values_size (drop (i + 1) xs)) (first ∙ same)

pub walks_on : (n i : ℕ) (bytes rest next : List ℕ) (size : ℕ) (a : StaticArray) → IsList static_array_at n bytes → i < n → Walks n i bytes rest size
    → static_array_at rest ≡ Ok (a, next) → Walks n (i + 1) bytes next (size + length a.values)
walks_on n i bytes rest next size a list lt w e =
    let len = BeginsWithList-length static_array_at n bytes (all_arrays n bytes) list in
    let here = size_there i n rest next (all_arrays n bytes) a len lt w.held e in
    record {
      held = step_at static_array_at i n rest next (all_arrays n bytes) len lt w.held (ap rest_after e);
      sum = omega (arith, w.sum, here);
      room = omega (arith, w.room, array_long rest next a e);
    }

pub walks_never : (n i : ℕ) (bytes rest : List ℕ) (size : ℕ) (f : CapFault) → i < n → Walks n i bytes rest size → static_array_at rest ≡ Err f → ⊥
walks_never n i bytes rest size f lt w e = Begins-no_fault static_array_at (n - (i + 1)) rest (drop i (all_arrays n bytes)) f
    (begins_at static_array_at i n rest (all_arrays n bytes) lt w.held) e

pub walks_to_end : (n i : ℕ) (bytes rest : List ℕ) (size : ℕ) → IsList static_array_at n bytes → n ≤ i → Walks n i bytes rest size
    → size ≡ values_size (all_arrays n bytes)
walks_to_end n i bytes rest size list le w =
    let none : drop i (all_arrays n bytes) ≡ [] = drop_all i (all_arrays n bytes) (omega
    (arith, le, BeginsWithList-length static_array_at n bytes (all_arrays n bytes) list)) in
    omega (arith, w.sum, ap values_size none)
