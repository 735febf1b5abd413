-- The StaticField component: what is read stands in the bytes, and what stands there is read.
use Rattle.std.proofs.Common.{◌≡◌, ℕ, ◌+◌, ◌*◌, ◌%◌, ◌≤◌, ltb, eqb, List, ◌∷◌, ◌++◌, length, Ok, refl, sym, ap, subst, ◌∙◌, append_assoc, arith, inl, inr}
use Rattle.std.proofs.lemmas.Bool.{ltb-false, le-ltb, eqb-true, eq-eqb}
use Rattle.jc_cap.specs.declared.fault.CapFault.TheVariants.{BadOffset, SizesDisagree}
use Rattle.jc_cap.specs.Reading.{u1_at, u2_at, run_at}
use Rattle.jc_cap.specs.Grammar.{IsU2, IsPrefixEncoding, ReadsEncodings}
use Rattle.jc_cap.proofs.Many.{bind_ok, ok_is}
use Rattle.jc_cap.proofs.Telling.{guard_ok, wanted_ok, chosen, u1_takes, u2_takes, u2_again, run_takes, run_again, many_takes, many_again}
use Rattle.jc_cap.specs.declared.static_arrays.ElementType.{ElementType}
use Rattle.jc_cap.specs.declared.static_arrays.ElementType.TheVariants.{Boolean, Byte, Short}
use Rattle.jc_cap.specs.StaticValues.{StaticArray, StaticParts}
use Rattle.jc_cap.specs.StaticReading.{element_type_at, element_size, static_array_at, static_arrays_at, value_counts_at, statics_at}
use Rattle.jc_cap.specs.Statics.{element_type_number, IsStaticArray, AreStaticArrays, AreStatics}
use Rattle.jc_cap.proofs.AdjacentTexts.{joined, headed}

-- ---- one array

type_takes : (bytes : List ℕ) (t : ElementType) (rest : List ℕ) → element_type_at bytes ≡ Ok (t, rest) → bytes ≡ element_type_number t ∷ rest
unfolding element_type_at
type_takes bytes t rest e =
    let n = bind_ok (u1_at bytes) _ (t, rest) e in
    let front = u1_takes bytes n.0.0 n.0.1 n.1 in
    let Goal : ElementType × List ℕ → Type 0 = λ y. bytes ≡ element_type_number y.0 ∷ y.1 in
    elim (chosen (eqb n.0.0 2) _ _ _ n.2) [
      | inl is2 ↦ subst Goal (ok_is (Boolean, n.0.1) (t, rest) is2.1) (front ∙ ap (λ (k : ℕ). k ∷ n.0.1) (eqb-true _ _ is2.0))
      | inr not2 ↦ elim (chosen (eqb n.0.0 3) _ _ _ not2.1) [
        | inl is3 ↦ subst Goal (ok_is (Byte, n.0.1) (t, rest) is3.1) (front ∙ ap (λ (k : ℕ). k ∷ n.0.1) (eqb-true _ _ is3.0))
        | inr not3 ↦
            let is4 = wanted_ok (eqb n.0.0 4) BadOffset _ _ not3.1 in
            subst Goal (ok_is (Short, n.0.1) (t, rest) is4.1) (front ∙ ap (λ (k : ℕ). k ∷ n.0.1) (eqb-true _ _ is4.0))
      ]
    ]

type_again : (t : ElementType) (rest : List ℕ) → element_type_at (element_type_number t ∷ rest) ≡ Ok (t, rest)
unfolding element_type_at
type_again Boolean rest = refl
type_again Byte rest = refl
type_again Short rest = refl

array_takes : (bytes : List ℕ) (a : StaticArray) (rest : List ℕ) → static_array_at bytes ≡ Ok (a, rest) → IsPrefixEncoding IsStaticArray bytes a rest
unfolding static_array_at
array_takes bytes a rest e =
    let kind = bind_ok (element_type_at bytes) _ (a, rest) e in
    let count = bind_ok (u2_at kind.0.1) _ (a, rest) kind.2 in
    let even = wanted_ok (eqb (count.0.0 % element_size kind.0.0) 0) BadOffset _ _ count.2 in
    let values = bind_ok (run_at count.0.0 count.0.1) _ (a, rest) even.1 in
    let made : StaticArray × List ℕ = (record { element_type = kind.0.0; values = values.0.0 }, values.0.1) in
    let c = u2_takes kind.0.1 count.0.0 count.0.1 count.1 in
    let run = run_takes count.0.0 count.0.1 values.0.0 values.0.1 values.1 in
    let is : IsStaticArray made.0 (element_type_number kind.0.0 ∷ (c.text ++ values.0.0)) =
    (c.text, subst (λ (k : ℕ). IsU2 k c.text) (sym run.1) c.is, ap (λ (k : ℕ). k % element_size kind.0.0) run.1 ∙ eqb-true _ _ even.0, refl) in
    subst (λ (y : StaticArray × List ℕ). IsPrefixEncoding IsStaticArray bytes y.0 y.1) (ok_is made (a, rest) values.2)
    (record {
      text = element_type_number kind.0.0 ∷ (c.text ++ values.0.0);
      is = is;
      parts = headed bytes (element_type_number kind.0.0) kind.0.1 (c.text ++ values.0.0) values.0.1 (type_takes bytes kind.0.0 kind.0.1 kind.1)
          (joined kind.0.1 c.text count.0.1 values.0.0 values.0.1 c.parts run.0);
    })

array_again : (a : StaticArray) (text rest : List ℕ) → IsStaticArray a text → static_array_at (text ++ rest) ≡ Ok (a, rest)
unfolding static_array_at
array_again a text rest is =
    rw (
      is.3,
      append_assoc is.0 a.values rest,
      type_again a.element_type (is.0 ++ (a.values ++ rest)),
      u2_again (length a.values) is.0 (a.values ++ rest) is.1,
      eq-eqb _ _ is.2,
      run_again a.values rest,
    ) refl

pub array_tells : ReadsEncodings static_array_at IsStaticArray
array_tells = record { takes = array_takes; again = array_again }

-- ---- all arrays

arrays_take : (references : ℕ) (bytes : List ℕ) (xs : List StaticArray) (rest : List ℕ) → static_arrays_at references bytes ≡ Ok (xs, rest)
    → IsPrefixEncoding (AreStaticArrays references) bytes xs rest
unfolding static_arrays_at
arrays_take references bytes xs rest e =
    let count = bind_ok (u2_at bytes) _ (xs, rest) e in
    let few = guard_ok (ltb references count.0.0) BadOffset _ _ count.2 in
    let c = u2_takes bytes count.0.0 count.0.1 count.1 in
    let t = many_takes static_array_at IsStaticArray array_tells count.0.0 count.0.1 xs rest few.1 in
    let within : count.0.0 ≤ references = ltb-false _ _ few.0 in
    record {
      text = c.text ++ t.0.text;
      is = (c.text, t.0.text, omega (arith, within, t.1), subst (λ (k : ℕ). IsU2 k c.text) (sym t.1) c.is, t.0.is, refl);
      parts = joined bytes c.text count.0.1 t.0.text rest c.parts t.0.parts;
    }

arrays_again : (references : ℕ) (xs : List StaticArray) (text rest : List ℕ) → AreStaticArrays references xs text
    → static_arrays_at references (text ++ rest) ≡ Ok (xs, rest)
unfolding static_arrays_at
arrays_again references xs text rest is =
    rw (is.5, append_assoc is.0 is.1 rest, u2_again (length xs) is.0 (is.1 ++ rest) is.3, le-ltb references (length xs) is.2)
    (many_again static_array_at IsStaticArray array_tells xs is.1 rest is.4)

-- ---- the counts

record Counts (image_size references : ℕ) (x : ℕ × ℕ) (text : List ℕ) : Type 0 where
  zeros : List ℕ
  others : List ℕ
  zeros_is : IsU2 x.0 zeros
  others_is : IsU2 x.1 others
  adds_up : image_size ≡ 2 * references + x.0 + x.1
  parts : text ≡ zeros ++ others

counts_take : (image_size references : ℕ) (bytes : List ℕ) (x : ℕ × ℕ) (rest : List ℕ) → value_counts_at image_size references bytes ≡ Ok (x, rest)
    → IsPrefixEncoding (Counts image_size references) bytes x rest
unfolding value_counts_at
counts_take image_size references bytes x rest e =
    let zeros = bind_ok (u2_at bytes) _ (x, rest) e in
    let others = bind_ok (u2_at zeros.0.1) _ (x, rest) zeros.2 in
    let sum = wanted_ok (eqb image_size (2 * references + zeros.0.0 + others.0.0)) SizesDisagree _ _ others.2 in
    let z = u2_takes bytes zeros.0.0 zeros.0.1 zeros.1 in
    let o = u2_takes zeros.0.1 others.0.0 others.0.1 others.1 in
    let made : (ℕ × ℕ) × List ℕ = ((zeros.0.0, others.0.0), others.0.1) in
    subst (λ (y : (ℕ × ℕ) × List ℕ). IsPrefixEncoding (Counts image_size references) bytes y.0 y.1) (ok_is made (x, rest) sum.1)
    (record {
      text = z.text ++ o.text;
      is = record {
        zeros = z.text;
        others = o.text;
        zeros_is = z.is;
        others_is = o.is;
        adds_up = eqb-true _ _ sum.0;
        parts = refl;
      };
      parts = joined bytes z.text zeros.0.1 o.text others.0.1 z.parts o.parts;
    })

counts_again : (image_size references zeros others : ℕ) (a b rest : List ℕ) → IsU2 zeros a → IsU2 others b → image_size ≡ 2 * references + zeros + others
    → value_counts_at image_size references (a ++ (b ++ rest)) ≡ Ok ((zeros, others), rest)
unfolding value_counts_at
counts_again image_size references zeros others a b rest za ob sum = rw (u2_again zeros a (b ++ rest) za, u2_again others b rest ob, eq-eqb _ _ sum) refl

-- ---- the component

statics_take : (bytes : List ℕ) (s : StaticParts) (rest : List ℕ) → statics_at bytes ≡ Ok (s, rest) → IsPrefixEncoding AreStatics bytes s rest
unfolding statics_at
statics_take bytes s rest e =
    let size = bind_ok (u2_at bytes) _ (s, rest) e in
    let references = bind_ok (u2_at size.0.1) _ (s, rest) size.2 in
    let arrays = bind_ok (static_arrays_at references.0.0 references.0.1) _ (s, rest) references.2 in
    let counts = bind_ok (value_counts_at size.0.0 references.0.0 arrays.0.1) _ (s, rest) arrays.2 in
    let values = bind_ok (run_at counts.0.0.1 counts.0.1) _ (s, rest) counts.2 in
    let made : StaticParts × List ℕ = (
      record {
        image_size = size.0.0;
        reference_count = references.0.0;
        arrays = arrays.0.0;
        default_value_count = counts.0.0.0;
        non_default_values = values.0.0;
      },
      values.0.1,
    ) in
    let a = u2_takes bytes size.0.0 size.0.1 size.1 in
    let b = u2_takes size.0.1 references.0.0 references.0.1 references.1 in
    let c = arrays_take references.0.0 references.0.1 arrays.0.0 arrays.0.1 arrays.1 in
    let d = counts_take size.0.0 references.0.0 arrays.0.1 counts.0.0 counts.0.1 counts.1 in
    let f = run_takes counts.0.0.1 counts.0.1 values.0.0 values.0.1 values.1 in
    let tail : arrays.0.1 ≡ (d.is.zeros ++ (d.is.others ++ values.0.0)) ++ values.0.1 =
    joined arrays.0.1 d.is.zeros (d.is.others ++ counts.0.1) (d.is.others ++ values.0.0) values.0.1
    (d.parts ∙ ap (λ (t : List ℕ). t ++ counts.0.1) d.is.parts ∙ append_assoc d.is.zeros d.is.others counts.0.1)
    (joined (d.is.others ++ counts.0.1) d.is.others counts.0.1 values.0.0 values.0.1 refl f.0) in
    let after_size : size.0.1 ≡ (b.text ++ (c.text ++ (d.is.zeros ++ (d.is.others ++ values.0.0)))) ++ values.0.1 =
    joined size.0.1 b.text references.0.1 (c.text ++ (d.is.zeros ++ (d.is.others ++ values.0.0))) values.0.1 b.parts
    (joined references.0.1 c.text arrays.0.1 (d.is.zeros ++ (d.is.others ++ values.0.0)) values.0.1 c.parts tail) in
    let is : AreStatics made.0 (a.text ++ (b.text ++ (c.text ++ (d.is.zeros ++ (d.is.others ++ values.0.0))))) = (
      a.text,
      b.text,
      c.text,
      d.is.zeros,
      d.is.others,
      a.is,
      b.is,
      c.is,
      d.is.zeros_is,
      subst (λ (k : ℕ). IsU2 k d.is.others) (sym f.1) d.is.others_is,
      d.is.adds_up ∙ ap (λ (k : ℕ). 2 * references.0.0 + counts.0.0.0 + k) (sym f.1),
      refl,
    ) in
    subst (λ (y : StaticParts × List ℕ). IsPrefixEncoding AreStatics bytes y.0 y.1) (ok_is made (s, rest) values.2)
    (record {
      text = a.text ++ (b.text ++ (c.text ++ (d.is.zeros ++ (d.is.others ++ values.0.0))));
      is = is;
      parts = joined bytes a.text size.0.1 (b.text ++ (c.text ++ (d.is.zeros ++ (d.is.others ++ values.0.0)))) values.0.1 a.parts after_size;
    })

five : (text a b c d e v rest : List ℕ) → text ≡ a ++ (b ++ (c ++ (d ++ (e ++ v)))) → text ++ rest ≡ a ++ (b ++ (c ++ (d ++ (e ++ (v ++ rest)))))
five text a b c d e v rest is =
    rw (
      is,
      append_assoc a (b ++ (c ++ (d ++ (e ++ v)))) rest,
      append_assoc b (c ++ (d ++ (e ++ v))) rest,
      append_assoc c (d ++ (e ++ v)) rest,
      append_assoc d (e ++ v) rest,
      append_assoc e v rest,
    ) refl

statics_again : (s : StaticParts) (text rest : List ℕ) → AreStatics s text → statics_at (text ++ rest) ≡ Ok (s, rest)
unfolding statics_at
statics_again s text rest is =
    let v = s.non_default_values in
    rw (
      five text is.0 is.1 is.2 is.3 is.4 v rest is.11,
      u2_again s.image_size is.0 (is.1 ++ (is.2 ++ (is.3 ++ (is.4 ++ (v ++ rest))))) is.5,
      u2_again s.reference_count is.1 (is.2 ++ (is.3 ++ (is.4 ++ (v ++ rest)))) is.6,
      arrays_again s.reference_count s.arrays is.2 (is.3 ++ (is.4 ++ (v ++ rest))) is.7,
      counts_again s.image_size s.reference_count s.default_value_count (length v) is.3 is.4 (v ++ rest) is.8 is.9 is.10,
      run_again v rest,
    ) refl

pub statics_tells : ReadsEncodings statics_at AreStatics
statics_tells = record { takes = statics_take; again = statics_again }
