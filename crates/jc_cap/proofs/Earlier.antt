-- Superclasses and superinterfaces of this package are earlier records.
use Rattle.std.proofs.Common.{◌≡◌, ℕ, zero, suc, ◌+◌, Bool, true, false, ◌||◌, eqb, List, [], ◌∷◌, ◌++◌, length, take, Option, Some, Ok, refl, sym, ap, subst}
use Rattle.std.proofs.Common.{◌∙◌, append_assoc, arith}
use Rattle.std.specs.Prelude.{slice_get}
use Rattle.std.proofs.lemmas.List.{append-nil}
use Rattle.std.proofs.lemmas.Bool.{ne_eqb}
use Rattle.jc_cap.specs.declared.formats.Format.{Format}
use Rattle.jc_cap.specs.declared.class_records.ClassRecord.{ClassRecord}
use Rattle.jc_cap.specs.ClassValues.{RecordAt, offsets_of, contents_of}
use Rattle.jc_cap.specs.ClassReading.{is_among, classes_of}
use Rattle.jc_cap.specs.Classes.{LooksBack, AreRecords}
use Rattle.jc_cap.proofs.RecordWalk.{classes_take}

some_is : (x y : ClassRecord) → ◌≡◌ {A = Option ClassRecord} (Some x) (Some y) → x ≡ y
some_is x y e = cc

-- each record looks back to those before it
back_from : (at : ℕ) (before : List ℕ) (rs : List RecordAt) (text : List ℕ) (i : ℕ) (r : ClassRecord) → AreRecords at before rs text
    → slice_get (contents_of rs) i ≡ Some r → LooksBack (before ++ take i (offsets_of rs)) r
back_from at before [] text i r are e = absurd cc
back_from at before (x ∷ rs) text zero r are e =
    subst (λ (b : List ℕ). LooksBack b r) (sym (append-nil before)) (subst (λ (y : ClassRecord). LooksBack before y) (some_is x.contents r e) are.4)
back_from at before (x ∷ rs) text (suc i) r are e =
    let there = back_from (at + length are.0) (before ++ at ∷ []) rs are.1 i r are.6 e in
    let here : (before ++ at ∷ []) ++ take i (offsets_of rs) ≡ before ++ x.offset ∷ take i (offsets_of rs) =
    append_assoc before (at ∷ []) (take i (offsets_of rs)) ∙ ap (λ (k : ℕ). before ++ k ∷ take i (offsets_of rs)) (sym are.2) in
    subst (λ (b : List ℕ). LooksBack b r) here there

pub looks_back_to : (format : Format) (info : List ℕ) (rs value : List RecordAt) (i : ℕ) (r : ClassRecord) → classes_of format info ≡ Ok rs → rs ≡ value
    → slice_get (contents_of value) i ≡ Some r → LooksBack (take i (offsets_of value)) r
looks_back_to format info rs value i r e same there =
    let are = classes_take format info value (e ∙ ap Ok same) in
    back_from (length are.0) [] value are.1 i r are.5 there

-- ---- the first place of an offset

both_false : (a b : Bool) → (a || b) ≡ false → (a ≡ false) × (b ≡ false)
both_false true b e = absurd cc
both_false false b e = (refl, e)

some_offset : (x y : ℕ) → ◌≡◌ {A = Option ℕ} (Some x) (Some y) → x ≡ y
some_offset x y e = cc

not_among : (n : ℕ) (xs : List ℕ) (i x : ℕ) → slice_get xs i ≡ Some x → eqb n x ≡ false → is_among n (take i xs) ≡ false → is_among n (take (suc i) xs) ≡ false
not_among n [] i x e other before = absurd cc
not_among n (y ∷ xs) zero x e other before = (let y-is : y ≡ x = some_offset y x e in rw (y-is, other) refl)
not_among n (y ∷ xs) (suc i) x e other before =
    let parts = both_false (eqb n y) (is_among n (take i xs)) before in
    rw parts.0 (not_among n xs i x e other parts.1)

pub none_before : (n : ℕ) (xs : List ℕ) (i x : ℕ) → slice_get xs i ≡ Some x → ¬ (x ≡ n) → is_among n (take i xs) ≡ false → is_among n (take (i + 1) xs) ≡ false
none_before n xs i x e other before =
    ap (λ (k : ℕ). is_among n (take k xs)) (let z : i + 1 ≡ suc i = omega arith in z) ∙ not_among n xs i x e (ne_eqb n x (λ h. other (sym h))) before
