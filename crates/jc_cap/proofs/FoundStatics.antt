-- Where the fields of a StaticField component stand.
use Rattle.std.proofs.Common.{◌≡◌, ℕ, ◌-◌, ◌+◌, ◌≤◌, List, [], ◌∷◌, ◌++◌, length, drop, Ok, refl, sym, ap, subst, ◌∙◌}
use Rattle.std.proofs.Common.{arith, length-append, append_assoc}
use Rattle.jc_cap.specs.Places.{IsList}
use Rattle.jc_cap.specs.Reading.{many_at, list_or_empty, value_of_whole}
use Rattle.jc_cap.proofs.Many.{listed_as}
use Rattle.jc_cap.proofs.Telling.{many_again}
use Rattle.jc_cap.proofs.Wholes.{whole_takes}
use Rattle.jc_cap.specs.Statics.{AreStatics, IsStaticArray}
use Rattle.jc_cap.specs.StaticReading.{static_array_at, statics_at}
use Rattle.jc_cap.specs.StaticValues.{StaticArray, StaticParts}
use Rattle.jc_cap.specs.StaticViews.{static_counts}
use Rattle.jc_cap.specs.declared.statics.StaticCounts.{StaticCounts}
use Rattle.jc_cap.proofs.StaticTelling.{array_tells, statics_tells}

front_joined : (a b c d e v : List ℕ) → (a ++ (b ++ (c ++ (d ++ e)))) ++ v ≡ a ++ (b ++ (c ++ (d ++ (e ++ v))))
front_joined a b c d e v = rw (
  append_assoc a (b ++ (c ++ (d ++ e))) v,
  append_assoc b (c ++ (d ++ e)) v,
  append_assoc c (d ++ e) v,
  append_assoc d e v,
) refl

-- the values stand after all else, and the arrays after six bytes
record Placed (s : StaticParts) (info : List ℕ) : Type 0 where
  front : List ℕ
  whole : info ≡ front ++ s.non_default_values
  b0 : ℕ
  b1 : ℕ
  b2 : ℕ
  b3 : ℕ
  b4 : ℕ
  b5 : ℕ
  arrays : List ℕ
  rest : List ℕ
  parts : info ≡ b0 ∷ b1 ∷ b2 ∷ b3 ∷ b4 ∷ b5 ∷ arrays
  read : many_at static_array_at (length s.arrays) arrays ≡ Ok (s.arrays, rest)

placed : (info : List ℕ) (s : StaticParts) → value_of_whole (statics_at info) ≡ Ok s → Placed s info
placed info s e =
    let is = whole_takes statics_at AreStatics statics_tells info s e in
    let tail : List ℕ = is.3 ++ (is.4 ++ s.non_default_values) in
    record {
      front = is.0 ++ (is.1 ++ (is.2 ++ (is.3 ++ is.4)));
      whole = is.11 ∙ sym (front_joined is.0 is.1 is.2 is.3 is.4 s.non_default_values);
      b0 = is.5.0;
      b1 = is.5.1;
      b2 = is.6.0;
      b3 = is.6.1;
      b4 = is.7.3.0;
      b5 = is.7.3.1;
      arrays = is.7.1 ++ tail;
      rest = tail;
      parts = is.11
          ∙ ap (λ (t : List ℕ). t ++ (is.1 ++ (is.2 ++ tail))) is.5.2
          ∙ ap (λ (t : List ℕ). is.5.0 ∷ is.5.1 ∷ (t ++ (is.2 ++ tail))) is.6.2
          ∙ ap (λ (t : List ℕ). is.5.0 ∷ is.5.1 ∷ is.6.0 ∷ is.6.1 ∷ (t ++ tail)) (is.7.5 ∙ ap (λ (t : List ℕ). t ++ is.7.1) is.7.3.2);
      read = many_again static_array_at IsStaticArray array_tells s.arrays is.7.1 tail is.7.4;
    }

pub long_enough : (info : List ℕ) (s : StaticParts) → value_of_whole (statics_at info) ≡ Ok s → 6 ≤ length info
long_enough info s e = let p = placed info s e in let long = ap length p.parts in omega (arith, long)

whole_long : (info : List ℕ) (s : StaticParts) (p : Placed s info) → length info ≡ length p.front + length s.non_default_values
whole_long info s p = ap length p.whole ∙ length-append p.front s.non_default_values

pub has_values : (info : List ℕ) (s : StaticParts) → value_of_whole (statics_at info) ≡ Ok s → length s.non_default_values ≤ length info
has_values info s e = let long = whole_long info s (placed info s e) in omega (arith, long)

back_of : (xs ys : List ℕ) → drop (length xs) (xs ++ ys) ≡ ys
back_of [] ys = refl
back_of (x ∷ xs) ys = back_of xs ys

values_behind : (info : List ℕ) (s : StaticParts) (p : Placed s info) → drop (length info - length s.non_default_values) info ≡ s.non_default_values
values_behind info s p =
    let long = whole_long info s p in
    let n : length info - length s.non_default_values ≡ length p.front = omega (arith, long) in
    ap (λ (k : ℕ). drop k info) n ∙ ap (drop (length p.front)) p.whole ∙ back_of p.front s.non_default_values

pub values_are : (info values : List ℕ) (n : ℕ) (s : StaticParts) → value_of_whole (statics_at info) ≡ Ok s → n ≡ length s.non_default_values
    → values ≡ drop (length info - n) info → values ≡ s.non_default_values
values_are info values n s e same there = there ∙ ap (λ (k : ℕ). drop (length info - k) info) same ∙ values_behind info s (placed info s e)

arrays_there : (info arrays : List ℕ) (n : ℕ) (s : StaticParts) (p : Placed s info) → n ≡ length s.arrays → arrays ≡ drop 6 info
    → many_at static_array_at n arrays ≡ Ok (s.arrays, p.rest)
arrays_there info arrays n s p same there =
    ap (λ (k : ℕ). many_at static_array_at k arrays) same ∙ ap (many_at static_array_at (length s.arrays)) (there ∙ ap (drop 6) p.parts) ∙ p.read

pub arrays_are : (info arrays : List ℕ) (n : ℕ) (s : StaticParts) → value_of_whole (statics_at info) ≡ Ok s → n ≡ length s.arrays → arrays ≡ drop 6 info
    → list_or_empty (many_at static_array_at n arrays) ≡ s.arrays
arrays_are info arrays n s e same there =
    let p = placed info s e in
    listed_as (many_at static_array_at n arrays) s.arrays p.rest (arrays_there info arrays n s p same there)

pub are_arrays : (info arrays : List ℕ) (n : ℕ) (s : StaticParts) → value_of_whole (statics_at info) ≡ Ok s → n ≡ length s.arrays → arrays ≡ drop 6 info
    → IsList static_array_at n arrays
are_arrays info arrays n s e same there =
    let p = placed info s e in
    (p.rest, arrays_there info arrays n s p same there ∙ ap (λ (xs : List StaticArray). Ok (xs, p.rest)) (sym (arrays_are info arrays n s e same there)))

-- the fields of one that stand at their places
pub statics_found : (info arrays values : List ℕ) (counts : StaticCounts) (s : StaticParts) → value_of_whole (statics_at info) ≡ Ok s
    → counts ≡ static_counts s → arrays ≡ drop 6 info → values ≡ drop (length info - counts.non_default_count) info
    → value_of_whole (statics_at info) ≡ Ok (record {
      image_size = counts.image_size;
      reference_count = counts.reference_count;
      arrays = list_or_empty (many_at static_array_at counts.array_count arrays);
      default_value_count = counts.default_value_count;
      non_default_values = values;
    })
statics_found info arrays values counts s e told there behind =
    let a = arrays_are info arrays counts.array_count s e (ap (λ (c : StaticCounts). c.array_count) told) there in
    let v = values_are info values counts.non_default_count s e (ap (λ (c : StaticCounts). c.non_default_count) told) behind in
    e ∙ sym (rw (a, v, told) refl)
