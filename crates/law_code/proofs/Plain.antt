-- A table without the line `extended` has no name but those that each table has.
use Rattle.std.proofs.Common.{◌≡◌, ◌+◌, ◌==◌, ◌&&◌, ◌||◌, not, ℕ, Bool, true, false, List, [], ◌∷◌, ◌++◌, Option, Some, None, refl, ap, sym, subst, ◌∙◌}
use Rattle.std.proofs.Common.{inl, inr, if◌then◌else◌, reverse, take, drop}
use Rattle.std.specs.Prelude.{codes, find, is_some, nat_le, nat_lt, position, unwrap_or}
use Rattle.std.specs.List.{list_all}
use Rattle.std.specs.Option.{option_and_then}
use Rattle.std.specs.Str.{bytes_eq}
use Rattle.std.proofs.lemmas.Bool.{and_from, and_parts, eqb-true, false≢true, or_cases}
use Rattle.jc_platform.specs.declared.names.PlatformPackage.{PlatformPackage}
use Rattle.jc_platform.specs.declared.names.PlatformPackage.TheVariants.{JavaLang, JavacardFramework, JavacardxApdu, JavacardSecurity, JavacardxCrypto}
use Rattle.jc_platform.specs.declared.names.PlatformClass.{PlatformClass}
use Rattle.jc_platform.specs.declared.names.PlatformMethod.{PlatformMethod}
use Rattle.jc_platform.specs.NamePlaces.{is_needed_class, is_needed_method}
use Rattle.jc_platform.specs.Names.{ClassEntry, MethodEntry, classes, methods, packages}
use Rattle.jc_platform.specs.Names.{objects_rows, exceptions_rows, utilities_rows, system_rows, aids_rows, pins_rows, applets_rows, apdus_rows, events_rows, engines_rows}
use Rattle.jc_platform.specs.Names.{keys_rows, key_interfaces_rows, ciphers_rows}
use Rattle.jc_platform.specs.Names.{rsa_keys_rows, ec_keys_rows, rsa_interfaces_rows, ec_interfaces_rows, key_pairs_rows}
use Rattle.jc_platform.specs.Numbers.{class_number, is_needed_package, method_number, package_number, same_class, same_kind, same_method, same_package}
use Rattle.jc_platform.specs.PackedEntry.{is_packed}
use Rattle.jc_platform.specs.Rows.{Above, above, allows, class_row, has_class_token, has_method_token, has_needed_packages, has_supertypes, is_package}
use Rattle.jc_platform.specs.Rows.{kind_of, largest_token, may_be_class, may_be_extended, may_be_method, may_be_package, method_named, method_row}
use Rattle.jc_platform.specs.Rows.{bytes_of, may_be_random, number_of, package_row, parts_at, random_row, row_of}
use Rattle.jc_platform.specs.Table.{Say, no_random}
use Rattle.jc_platform.proofs.Distinct.{class_by_number, found_has, method_by_number}
use Rattle.jc_platform.proofs.Lines.{are_lines, read_as_line, reverse-cons}
use Rattle.jc_platform.proofs.Lists.{parts_cut, parts_uncut}
use Rattle.law_code.specs.MethodLaws.{ArePlain}
use Rattle.law_code.proofs.ByteTokens.{one_of_two, where_so}
use Rattle.law_code.proofs.Fields.{some_there}
use Rattle.law_code.proofs.Lists.{IfThere}

-- ---- a line that is one word

no_parts : (c : ℕ) (bytes : List ℕ) (at : Option ℕ) → at ≡ position (λ b. b == c) bytes → parts_at c bytes ≡ [] → ⊥
no_parts c bytes None at none = absurd (let e : bytes ∷ [] ≡ [] = sym (parts_uncut c bytes None at refl) ∙ none in cc)
no_parts c bytes (Some i) at none =
    absurd (let e : take i bytes ∷ parts_at c (drop (i + 1) bytes) ≡ [] = sym (parts_cut c bytes (Some i) i at refl) ∙ none in cc)

one_part : (c : ℕ) (bytes word : List ℕ) (at : Option ℕ) → at ≡ position (λ b. b == c) bytes → parts_at c bytes ≡ word ∷ [] → bytes ≡ word
one_part c bytes word None at one = let e : bytes ∷ [] ≡ word ∷ [] = sym (parts_uncut c bytes None at refl) ∙ one in cc
one_part c bytes word (Some i) at one =
    let e : take i bytes ∷ parts_at c (drop (i + 1) bytes) ≡ word ∷ [] = sym (parts_cut c bytes (Some i) i at refl) ∙ one in
    let rest : parts_at c (drop (i + 1) bytes) ≡ [] = cc in
    absurd (no_parts c (drop (i + 1) bytes) (position (λ b. b == c) (drop (i + 1) bytes)) refl rest)

-- ---- what each table has, by the lists

class_entries : list_all (λ e. not e.needed || is_needed_class e.class) classes ≡ true
unfolding classes
class_entries = refl

method_entries : list_all (λ e. not e.needed || is_needed_method e.method) methods ≡ true
unfolding objects_rows exceptions_rows utilities_rows system_rows aids_rows pins_rows applets_rows apdus_rows events_rows engines_rows keys_rows key_interfaces_rows ciphers_rows rsa_keys_rows ec_keys_rows rsa_interfaces_rows ec_interfaces_rows key_pairs_rows
method_entries = refl

-- where only that may stand which each table has, another has no token
allowed : (needed extended other : Bool) → (needed || extended) ≡ true → extended ≡ false → (not needed || other) ≡ true → other ≡ true
allowed true extended other may plain is = is
allowed false extended other may plain is = absurd (false≢true (sym plain ∙ may))

none_new : {X : Type 0} (b : Bool) (x : X) (o : Option X) → (b ≡ true → ⊥) → o ≡ None → (if b then Some x else o) ≡ None
none_new true x o never none = absurd (never refl)
none_new false x o never none = none

each_there : {A B : Type 0} (Q : B → Type 0) (f : A → Option B) (o : Option A) → ((a : A) → o ≡ Some a → IfThere Q (f a)) → IfThere Q (option_and_then f o)
each_there Q f None each = tt
each_there Q f (Some x) each = each x refl

-- ---- rows

-- above a line is no `extended` and no `random`, and no name but those that each table has
abbrev IsBare : Above → Type 0
IsBare a = (a.extended ≡ false) × ((p : PlatformPackage) → is_needed_package p ≡ false → a.version p ≡ None)
    × ((c : PlatformClass) → is_needed_class c ≡ false → a.class_token c ≡ None)
    × ((m : PlatformMethod) → is_needed_method m ≡ false → a.method_token m ≡ None) × (a.random ≡ None)

needed_number : (p : PlatformPackage) → is_needed_package p ≡ nat_lt (package_number p) 2
needed_number JavaLang = refl
needed_number JavacardFramework = refl
needed_number JavacardxApdu = refl
needed_number JavacardSecurity = refl
needed_number JavacardxCrypto = refl

same_needed : (p q : PlatformPackage) → same_package p q ≡ true → is_needed_package p ≡ is_needed_package q
same_needed p q same = needed_number p ∙ ap (λ n. nat_lt n 2) (eqb-true (package_number p) (package_number q) same) ∙ sym (needed_number q)

-- what is so of rows is so with this row in front too
abbrev KeepsBare : {R : Type 0} → (List R → Above) → R → Type 0
KeepsBare {R = R} told row = (rest : List R) → IsBare (told rest) → IsBare (told (row ∷ rest))

abbrev other_line : List ℕ → Bool
other_line line = not (bytes_eq line (codes "extended"))

not_both : (b : Bool) → b ≡ true → not b ≡ true → ⊥
not_both true is other = false≢true other
not_both false is other = false≢true is

module _ (a : Above) (plain : a.extended ≡ false) where
  no_class : (e : ClassEntry) (name : List ℕ) (t : ℕ) → find (λ f. bytes_eq f.name name) classes ≡ Some e → may_be_class a e t ≡ true
      → (c : PlatformClass) → is_needed_class c ≡ false → same_class e.class c ≡ true → ⊥
  no_class e name t found may c optional same =
      let home = is_package a.home e.home in
      let stands = has_supertypes a e.class in
      let new = not (is_some (a.class_token e.class)) in
      let one = (and_parts (allows a e.needed && home && stands && new) (not (has_class_token a e.home t)) may).0 in
      let two = (and_parts (allows a e.needed && home) stands (and_parts (allows a e.needed && home && stands) new one).0).0 in
      let needed : is_needed_class e.class ≡ true = allowed e.needed a.extended (is_needed_class e.class) (and_parts (allows a e.needed) home two).0 plain
      (found_has (λ f. not f.needed || is_needed_class f.class) (λ f. bytes_eq f.name name) classes e class_entries found) in
      let its : e.class ≡ c = class_by_number e.class c (eqb-true (class_number e.class) (class_number c) same) in
      false≢true (sym optional ∙ ap is_needed_class (sym its) ∙ needed)

  no_method : (e : MethodEntry) (class : PlatformClass) (kind : _) (name : List ℕ) (t : ℕ) → method_named class kind name ≡ Some e
      → may_be_method a e t ≡ true → (m : PlatformMethod) → is_needed_method m ≡ false → same_method e.method m ≡ true → ⊥
  no_method e class kind name t found may m optional same =
      let low = nat_le t (largest_token e.kind) in
      let new = not (is_some (a.method_token e.method)) in
      let one = (and_parts (allows a e.needed && low && new) (not (has_method_token a e.class e.kind t)) may).0 in
      let two = (and_parts (allows a e.needed && low) new one).0 in
      let needed : is_needed_method e.method ≡ true = allowed e.needed a.extended (is_needed_method e.method) (and_parts (allows a e.needed) low two).0 plain
      (found_has (λ f. not f.needed || is_needed_method f.method) (λ f. same_class f.class class && same_kind f.kind kind && bytes_eq f.name name) methods e
      method_entries found) in
      let its : e.method ≡ m = method_by_number e.method m (eqb-true (method_number e.method) (method_number m) same) in
      false≢true (sym optional ∙ ap is_needed_method (sym its) ∙ needed)

  no_package : (p q : PlatformPackage) → may_be_package a p ≡ true → is_needed_package q ≡ false → same_package p q ≡ true → ⊥
  no_package p q may other same =
      let there = a.extended && has_needed_packages a in
      let free = (and_parts (not (is_some (a.version p))) (is_needed_package p || there) may).1 in
      elim (or_cases (is_needed_package p) there free) [
        | inl needed ↦ false≢true (sym other ∙ sym (same_needed p q same) ∙ needed)
        | inr line_above ↦ false≢true (sym plain ∙ (and_parts a.extended (has_needed_packages a) line_above).0)
      ]

  class_keeps : (token name : List ℕ) → IfThere (KeepsBare above) (class_row a token name)
  class_keeps token name =
      some_there _ _ (number_of token) (λ t. each_there _ _ (find (λ e. bytes_eq e.name name) classes)
      (λ e found. where_so _ (may_be_class a e t) _ (λ may rest bare. (
        bare.0,
        bare.1,
        (λ c optional. none_new (same_class e.class c) t ((above rest).class_token c) (no_class e name t found may c optional) (bare.2 c optional)),
        bare.3,
        bare.4,
      ))))

  method_keeps : (keyword token name : List ℕ) → IfThere (KeepsBare above) (method_row a keyword token name)
  method_keeps keyword token name =
      some_there _ _ (kind_of keyword) (λ kind. some_there _ _ (number_of token) (λ t. some_there _ _ a.class (λ d. each_there _ _ (method_named d kind name)
      (λ e found. where_so _ (may_be_method a e t) _ (λ may rest bare. (
        bare.0,
        bare.1,
        bare.2,
        (λ m optional. none_new (same_method e.method m) t ((above rest).method_token m) (no_method e d kind name t found may m optional)
            (bare.3 m optional)),
        bare.4,
      ))))))

  package_keeps : (aid major minor : List ℕ) → IfThere (KeepsBare above) (package_row a aid major minor)
  package_keeps aid major minor =
      some_there _ _ (find (λ e. bytes_eq e.aid_text aid) packages) (λ e. some_there _ _ (number_of major) (λ j. some_there _ _ (number_of minor)
      (λ n. where_so _ (may_be_package a e.package_id) _ (λ may rest bare. (
        bare.0,
        (λ q optional. none_new (same_package e.package_id q) (record { major = j; minor = n }) ((above rest).version q)
            (no_package e.package_id q may optional) (bare.1 q optional)),
        bare.2,
        bare.3,
        bare.4,
      )))))

  random_keeps : (keyword word : List ℕ) → IfThere (KeepsBare above) (random_row a keyword word)
  random_keeps keyword word =
      one_of_two _ (bytes_eq keyword (codes "random")) _ None
      (some_there _ _ (bytes_of word) (λ bytes. where_so _ (may_be_random a) _
      (λ may rest bare. absurd (false≢true (sym plain ∙ (and_parts a.extended (not (is_some a.random)) may).0))))) tt

  row_keeps : (words : List (List ℕ)) → ((word : List ℕ) → words ≡ word ∷ [] → other_line word ≡ true) → IfThere (KeepsBare above) (row_of a words)
  row_keeps [] other = tt
  row_keeps (word ∷ []) other = where_so _ (bytes_eq word (codes "extended") && may_be_extended a) _
      (λ may rest bare. absurd (not_both (bytes_eq word (codes "extended")) (and_parts (bytes_eq word (codes "extended")) (may_be_extended a) may).0
      (other word refl)))
  row_keeps (k ∷ x ∷ []) other = random_keeps k x
  row_keeps (k ∷ x ∷ y ∷ []) other = one_of_two _ (bytes_eq k (codes "class")) (class_row a x y) (method_row a k x y) (class_keeps x y) (method_keeps k x y)
  row_keeps (k ∷ x ∷ y ∷ z ∷ []) other = one_of_two _ (bytes_eq k (codes "package")) (package_row a x y z) None (package_keeps x y z) tt
  row_keeps (k ∷ x ∷ y ∷ z ∷ v ∷ more) other = tt

rows_bare : (text : List ℕ) → is_packed text ≡ false → (lines : List (List ℕ)) (rows : _) → Say text lines rows → list_all other_line lines ≡ true
    → IsBare (above rows)
rows_bare text unpacked [] [] say plain = (refl, (λ p optional. refl), (λ c optional. refl), (λ m optional. refl), refl)
rows_bare text unpacked [] (row ∷ rows) say plain = absurd say
rows_bare text unpacked (line ∷ lines) [] say plain = absurd say
rows_bare text unpacked (line ∷ lines) (row ∷ rows) say plain =
    let parts = and_parts (other_line line) (list_all other_line lines) plain in
    let rest = rows_bare text unpacked lines rows say.1 parts.1 in
    subst (IfThere (KeepsBare above)) (sym (read_as_line text (above rows) line unpacked) ∙ say.0) (row_keeps (above rows) rest.0 (parts_at 32 line) (λ word one.
    subst (λ l. other_line l ≡ true) (one_part 32 line word (position (λ b. b == 32) line) refl one) parts.0)) rows rest

-- what all lines are from the first on, they are from the last up
all_reversed : (lines more : List (List ℕ)) → list_all other_line (reverse lines ++ more) ≡ true
    → (list_all other_line lines ≡ true) × (list_all other_line more ≡ true)
all_reversed [] more all = (refl, all)
all_reversed (line ∷ lines) more all =
    let rest = all_reversed lines (line ∷ more) (ap (list_all other_line) (sym (reverse-cons line lines more)) ∙ all) in
    let first = and_parts (other_line line) (list_all other_line more) rest.1 in
    (and_from (other_line line) (list_all other_line lines) first.0 rest.0, first.1)

not_true : (b : Bool) → not b ≡ true → b ≡ false
not_true true e = absurd (false≢true e)
not_true false e = refl

pub are_plain : ArePlain
are_plain text t reads none =
    let (rows, spells, are) = reads.1 in
    let plain = and_parts (not (is_packed text)) (list_all other_line (parts_at 10 text)) none in
    let unpacked = not_true (is_packed text) plain.0 in
    let others = (all_reversed spells.0 ([] ∷ []) (ap (list_all other_line) (sym spells.1 ∙ are_lines text unpacked) ∙ plain.1)).0 in
    let bare = rows_bare text unpacked spells.0 rows spells.2 others in
    record {
      packages = λ p optional. sym (are.versions p) ∙ bare.1 p optional;
      classes = λ c optional. sym (are.class_tokens c) ∙ bare.2 c optional;
      methods = λ m optional. sym (are.method_tokens m) ∙ bare.3 m optional;
      random = sym are.random ∙ ap (λ o. unwrap_or o no_random) bare.4;
    }
