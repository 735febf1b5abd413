-- What the classes of a package that is linked inherit: the cells of superclasses that stand before them, or in other packages.
use Rattle.std.proofs.Common.{◌≡◌, ℕ, zero, suc, ◌+◌, ◌*◌, ◌/◌, ◌%◌, ◌<◌, ◌≤◌, ◌⊎◌, inl, inr, ◌==◌, true, false, List, [], ◌∷◌, ◌++◌, Option, Some, None}
use Rattle.std.proofs.Common.{get_or, length, length-append, map, refl, sym, subst, ap, ◌∙◌, arith, if◌then◌else◌}
use Rattle.std.specs.Prelude.{Contains, min, slice_get, unwrap_or}
use Rattle.std.specs.Option.{option_map}
use Rattle.std.proofs.lemmas.Bool.{cases_eq, cases_lt, eq-eqb, false≢true, ne_eqb}
use Rattle.std.proofs.lemmas.List.{get_or-map, get_or_append_left}
use Rattle.std.proofs.lemmas.List.Quantifiers.{position-Some}
use Rattle.jc_cap.specs.declared.class_refs.ClassRef.{ClassRef}
use Rattle.jc_cap.specs.declared.class_refs.ClassRef.TheVariants.{External, Internal}
use Rattle.jc_cap.specs.declared.formats.Format.{Format}
use Rattle.jc_cap.specs.declared.class_records.ClassRecord.{ClassRecord}
use Rattle.jc_cap.specs.declared.class_records.ClassRecord.TheVariants as records
use Rattle.jc_cap.specs.Classes.{AreClasses, AreRecords, IsEarlier, IsRecord, LooksBack}
use Rattle.jc_cap.specs.ClassValues.{RecordAt, offsets_of}
use Rattle.jc_linker.specs.Classes.{size_of}
use Rattle.jc_linker.specs.Resolve.{class_at_offset, class_named, class_of, class_with_token, import_of, import_by_token, class_index}
use Rattle.jc_linker.specs.Values.{ClassValue, PackageValue, Packages}
use Rattle.jc_linker.specs.Values.{LinkerComponents}
use Rattle.jc_linker.specs.Linking.{cells_above, cells_in, class_by_record, classes_behind, next_number, with_package, word_of}
use Rattle.jc_linker.specs.Outlines.{outline_of, package_outline}
use Rattle.law_code.proofs.ClosedPackages.{Beside, IsBeside, IsClosed, alike, names}
use Rattle.law_code.proofs.Entries.{token_alike}
use Rattle.law_code.proofs.ResolutionLaws.{package_last}
use Rattle.law_code.proofs.Lists.{AllOf, IfThere, all_at, all_behind, all_more, then_there}
use Rattle.law_code.proofs.Numbers.{Stands, stands_beside}

-- a class, after these of the package with this number, inherits its superclass's cells, and holds references in cells of its own
pub record Inherits (p : Packages) (number : ℕ) (done : List ClassValue) (c : ClassValue) : Type 0 where
  pub cells : c.is_interface ≡ false → c.inherited_cells ≡ cells_above p number done c.superclass
  pub back : c.is_interface ≡ false → c.superclass / 256 ≡ number → c.superclass % 256 < length done
  pub bare : c.is_interface ≡ true → c.declared_cells ≡ 0
  pub fits : (c.reference_count ≡ 0) ⊎ (c.first_reference + c.reference_count ≤ c.declared_cells)

slice_front : {A : Type 0} (xs ys : List A) (i : ℕ) → i < length xs → slice_get (xs ++ ys) i ≡ slice_get xs i
slice_front [] ys i less = absurd (omega (arith, less))
slice_front (x ∷ xs) ys zero less = refl
slice_front (x ∷ xs) ys (suc i) less = slice_front xs ys i (omega (arith, less))

above_still : (p : Packages) (number : ℕ) (done : List ClassValue) (d : ClassValue) (word : ℕ) → (word / 256 ≡ number → word % 256 < length done)
    → cells_above p number done word ≡ cells_above p number (done ++ d ∷ []) word
above_still p number done d word back = elim (cases_eq (word / 256) number) [
  | inl here ↦ ap (λ o. min 65536 (if word / 256 == number then cells_in o else size_of p word)) (sym (slice_front done (d ∷ []) (word % 256) (back here)))
  | inr other ↦ rw (ne_eqb (word / 256) number other) refl
]

inherits_still : (p : Packages) (number : ℕ) (done : List ClassValue) (d c : ClassValue) → Inherits p number done c → Inherits p number (done ++ d ∷ []) c
inherits_still p number done d c i = record {
  cells = λ class. i.cells class ∙ above_still p number done d c.superclass (i.back class);
  back = λ class here. let less = i.back class here in let one = length-append done (d ∷ []) in omega (arith, less, one);
  bare = i.bare;
  fits = i.fits;
}

-- ---- a superclass that stands before

offset_at : (before rest : List ℕ) (k d : ℕ) → k < length before → (get_or (map outline_of (before ++ rest)) k (outline_of d)).offset ≡ get_or before k d
offset_at before rest k d less =
    let long = length-append before rest in
    ap (λ c. c.offset) (get_or-map outline_of (before ++ rest) k d (outline_of d) (omega (arith, less, long))) ∙ get_or_append_left before rest d k less

place_before : (before rest : List ℕ) (offset place : ℕ) → Contains before offset → class_index offset (map outline_of (before ++ rest)) ≡ Some place
    → place < length before
unfolding class_index
place_before before rest offset place there is =
    let found = position-Some (λ c. c.offset == offset) (map outline_of (before ++ rest)) place (outline_of offset) is in
    let same : (get_or (map outline_of (before ++ rest)) there.0 (outline_of offset)).offset ≡ offset = offset_at before rest there.0 offset there.1
    ∙ there.2 in
    elim (cases_lt place (length before)) [
      | inl less ↦ less
      | inr past ↦ absurd (false≢true (sym (found.2 there.0 (let less = there.1 in omega (arith, less, past)))
          ∙ eq-eqb (get_or (map outline_of (before ++ rest)) there.0 (outline_of offset)).offset offset same))
    ]

module _ (p : Packages) (c : LinkerComponents) (imports : List ℕ) (closed : IsClosed p) (room : length p.loaded < 32)
    (imported : AllOf (Stands (length p.loaded)) imports) where
  abbrev sketch : PackageValue
  sketch = package_outline c imports

  abbrev sketched : Packages
  sketched = with_package p sketch

  abbrev number : ℕ
  number = next_number p

  -- what stands in another package is no class of this one
  beside_or : (o : Option ℕ) → IfThere (IsBeside p sketch closed room) o → unwrap_or o 0 / 256 ≡ number → ⊥
  beside_or None there e = absurd (omega (arith, e))
  beside_or (Some w) there e = there e

  token_beside : (n token : ℕ) → Stands (length p.loaded) n → IfThere (IsBeside p sketch closed room) (class_with_token sketched n token)
  token_beside n token stands =
      let good : Beside p sketch closed room n = stands_beside (length p.loaded) n room stands in
      let named = names p sketch closed room in
      subst (IfThere (IsBeside p sketch closed room))
      (sym (token_alike p (p.loaded ++ sketch ∷ []) (IsBeside p sketch closed room) (Beside p sketch closed room)
      (alike p sketch closed room) named n token good))
      (named.named n token good)

  imports_stand : (token : ℕ) → IfThere (Stands (length p.loaded)) (import_by_token sketched number token)
  unfolding import_by_token
  imports_stand token = subst (λ o. IfThere (Stands (length p.loaded)) (import_of o token)) (sym (package_last p sketch))
      (all_at (Stands (length p.loaded)) imports token imported)

  external_beside : (package_token class_token : ℕ) → IfThere (IsBeside p sketch closed room) (class_named sketched number (External package_token class_token))
  unfolding class_named
  external_beside package_token class_token =
      then_there (Stands (length p.loaded)) (IsBeside p sketch closed room) (λ n. class_with_token sketched n class_token)
      (import_by_token sketched number package_token) (imports_stand package_token) (λ n stands. token_beside n class_token stands)

  low_word : (o : Option ℕ) (many : ℕ) → many ≤ 256 → ((place : ℕ) → o ≡ Some place → place < many)
      → unwrap_or (option_map (λ place. 256 * number + place) o) 0 / 256 ≡ number →
      unwrap_or (option_map (λ place. 256 * number + place) o) 0 % 256 < many
  low_word None many few low e = absurd (omega (arith, e))
  low_word (Some place) many few low e = let less = low place refl in omega (arith, few, less)

  looks_back : (before rest : List ℕ) (ref : ClassRef) → offsets_of c.classes ≡ before ++ rest → length before ≤ 256 → IsEarlier before ref
      → word_of sketched number ref / 256 ≡ number → word_of sketched number ref % 256 < length before
  unfolding class_named class_at_offset
  looks_back before rest (External package_token class_token) all few earlier e =
      absurd (beside_or (class_named sketched number (External package_token class_token)) (external_beside package_token class_token) e)
  looks_back before rest (Internal offset) all few earlier e =
      let here : class_at_offset sketched number offset ≡ option_map (λ place. 256 * number + place) (class_index offset (map outline_of (before ++ rest))) =
      ap (λ o. class_of number o offset) (package_last p sketch) ∙ ap (λ l. option_map (λ place. 256 * number + place)
      (class_index offset (map outline_of l))) all in
      subst (λ o. unwrap_or o 0 % 256 < length before) (sym here)
      (low_word (class_index offset (map outline_of (before ++ rest))) (length before) few (λ place is. place_before before rest offset place earlier is)
      (ap (λ o. unwrap_or o 0 / 256) (sym here) ∙ e))

  -- ---- one record after the other

  one_more : (before rest : List ℕ) (done : List ClassValue) (offset : ℕ) (contents : ClassRecord) (text : List ℕ) → offsets_of c.classes ≡ before ++ rest
      → length before ≤ 256 → length before ≡ length done →
      IsRecord contents text → LooksBack before contents → Inherits p number done (class_by_record p sketched number done offset contents)
  one_more before rest done offset (records.Class i) text all few long is earlier = record {
    cells = λ class. refl;
    back = λ class here. subst (λ n. word_of sketched number i.superclass % 256 < n) long (looks_back before rest i.superclass all few earlier here);
    bare = λ interface. absurd (false≢true interface);
    fits = is.2.4;
  }
  one_more before rest done offset (records.Interface i) text all few long is earlier = record {
    cells = λ class. absurd (false≢true (sym class));
    back = λ class. absurd (false≢true (sym class));
    bare = λ interface. refl;
    fits = inl refl;
  }

  -- what each class adds to, after those that stand before it, is so of all
  each_more : (P : List ClassValue → Type 0) → ((done : List ClassValue) (new : ClassValue) → Inherits p number done new → P done → P (done ++ new ∷ []))
      → (at : ℕ) (before : List ℕ) (done : List ClassValue) (rs : List RecordAt) (text : List ℕ) → AreRecords at before rs text →
      offsets_of c.classes ≡ before ++ offsets_of rs → length before + length rs ≤ 256 → length before ≡ length done → P done
      → P (classes_behind p sketched number done rs)
  unfolding classes_behind
  each_more P step at before done [] text are all few long each = each
  each_more P step at before done (r ∷ rs) text are all few long each =
      let new = class_by_record p sketched number done r.offset r.contents in
      let one : Inherits p number done new = one_more before (offsets_of (r ∷ rs)) done r.offset r.contents are.0 all (omega (arith, few)) long are.3 are.4 in
      let longer = length-append done (new ∷ []) in
      let further = length-append before (at ∷ []) in
      each_more P step (at + length are.0) (before ++ at ∷ []) (done ++ new ∷ []) rs are.1 are.6
      (all ∙ behind before r.offset at (offsets_of rs) are.2) (omega (arith, few, further)) (omega (arith, long, longer, further)) (step done new one each)
    where
      behind : (xs : List ℕ) (x y : ℕ) (ys : List ℕ) → x ≡ y → xs ++ x ∷ ys ≡ (xs ++ y ∷ []) ++ ys
      behind [] x y ys e = ap (λ z. z ∷ ys) e
      behind (w ∷ xs) x y ys e = ap (λ l. w ∷ l) (behind xs x y ys e)

  pub one_by_one : (P : List ClassValue → Type 0) → ((done : List ClassValue) (new : ClassValue) → Inherits p number done new → P done
      → P (done ++ new ∷ [])) → P [] →
      (format : Format) (info : List ℕ) → AreClasses format c.classes info → P (classes_behind p sketched number [] c.classes)
  one_by_one P step none format info are =
      each_more P step (length are.0) [] [] c.classes are.1 are.5 refl (let few = are.4 in omega (arith, few)) refl none

  pub all_inherit : (format : Format) (info : List ℕ) → AreClasses format c.classes info
      → AllOf (Inherits p number (classes_behind p sketched number [] c.classes)) (classes_behind p sketched number [] c.classes)
  all_inherit format info are = one_by_one (λ done. AllOf (Inherits p number done) done) further tt format info are
    where
      further : (done : List ClassValue) (new : ClassValue) → Inherits p number done new → AllOf (Inherits p number done) done
          → AllOf (Inherits p number (done ++ new ∷ [])) (done ++ new ∷ [])
      further done new one each = all_behind (Inherits p number (done ++ new ∷ [])) done new
          (all_more (Inherits p number done) (Inherits p number (done ++ new ∷ [])) (inherits_still p number done new) done each)
          (inherits_still p number done new new one)
