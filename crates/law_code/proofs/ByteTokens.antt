-- The tokens of a platform table that was read are bytes.
use Rattle.std.proofs.Common.{◌≡◌, ◌<◌, ◌==◌, ℕ, Bool, true, false, List, [], ◌∷◌, ◌&&◌, Option, Some, None, length, refl, subst, arith, if◌then◌else◌}
use Rattle.std.specs.Prelude.{codes, find, nat_lt, slice_get, unwrap_or}
use Rattle.std.specs.Str.{all_ascii_digits, bytes_eq}
use Rattle.std.specs.Str.Parse.{digits_value}
use Rattle.std.proofs.lemmas.Bool.{and_parts, ltb-true}
use Rattle.jc_platform.specs.declared.names.PlatformClass.{PlatformClass}
use Rattle.jc_platform.specs.Names.{classes, packages}
use Rattle.jc_platform.specs.Numbers.{same_class}
use Rattle.jc_platform.specs.PackedEntry.{class_entry, is_packed, method_entry, package_entry, row_in, row_of_entry, row_of_kind}
use Rattle.jc_platform.specs.Rows.{Above, above, bytes_of, class_row, class_token_in, classes_of, kind_of, may_be_class, may_be_extended, may_be_method, may_be_package, may_be_random}
use Rattle.jc_platform.specs.Rows.{method_named, method_row, methods_of, number_of, package_row, parts_at, random_row, row_of, row_of_line}
use Rattle.jc_platform.specs.Table.{Say}
use Rattle.jc_platform.specs.Tokens.{token_of_class}
use Rattle.law_code.proofs.Fields.{some_there}
use Rattle.law_code.proofs.Lists.{IfThere, then_there}
use Rattle.law_code.specs.MethodLaws.{HaveBytes}

abbrev IsByte : ℕ → Type 0
IsByte n = n < 256

pub where_so : {A : Type 0} (P : A → Type 0) (b : Bool) (x : A) → (b ≡ true → P x) → IfThere P (if b then Some x else None)
where_so P true x is = is refl
where_so P false x is = tt

pub one_of_two : {A : Type 0} (P : A → Type 0) (b : Bool) (x y : Option A) → IfThere P x → IfThere P y → IfThere P (if b then x else y)
one_of_two P true x y first second = first
one_of_two P false x y first second = second

number_low : (word : List ℕ) → IfThere IsByte (number_of word)
number_low word = where_so IsByte (nat_lt 0 (length word) && all_ascii_digits word && nat_lt (digits_value 10 word) 256) (digits_value 10 word)
    (λ all. ltb-true (digits_value 10 word) 256 (and_parts (nat_lt 0 (length word) && all_ascii_digits word) (nat_lt (digits_value 10 word) 256) all).1)

-- ---- rows

-- what rows say, where it is a byte or nothing, is so with this row in front too
abbrev KeepsByte : {R : Type 0} → (List R → Option ℕ) → R → Type 0
KeepsByte {R = R} told row = (rest : List R) → IfThere IsByte (told rest) → IfThere IsByte (told (row ∷ rest))

module _ (c : PlatformClass) where
  class_low : (a : Above) (token name : List ℕ) → IfThere (KeepsByte (λ rows. class_token_in rows c)) (class_row a token name)
  class_low a token name =
      then_there IsByte _ _ (number_of token) (number_low token) (λ t low. some_there _ _ (find (λ e. bytes_eq e.name name) classes)
      (λ e. where_so _ (may_be_class a e t) _ (λ may rest is.
      one_of_two IsByte (same_class e.class c) (Some t) (class_token_in rest c) low is)))

  method_low : (a : Above) (keyword token name : List ℕ) → IfThere (KeepsByte (λ rows. class_token_in rows c)) (method_row a keyword token name)
  method_low a keyword token name =
      some_there _ _ (kind_of keyword) (λ kind. some_there _ _ (number_of token) (λ t. some_there _ _ a.class (λ d. some_there _ _ (method_named d kind name)
      (λ e. where_so _ (may_be_method a e t) _ (λ may rest is. is)))))

  package_low : (a : Above) (aid major minor : List ℕ) → IfThere (KeepsByte (λ rows. class_token_in rows c)) (package_row a aid major minor)
  package_low a aid major minor =
      some_there _ _ (find (λ e. bytes_eq e.aid_text aid) packages) (λ e. some_there _ _ (number_of major) (λ j. some_there _ _ (number_of minor)
      (λ n. where_so _ (may_be_package a e.package_id) _ (λ may rest is. is))))

  random_low : (a : Above) (keyword word : List ℕ) → IfThere (KeepsByte (λ rows. class_token_in rows c)) (random_row a keyword word)
  random_low a keyword word =
      one_of_two _ (bytes_eq keyword (codes "random")) _ None
      (some_there _ _ (bytes_of word) (λ bytes. where_so _ (may_be_random a) _ (λ may rest is. is))) tt

  row_low : (a : Above) (words : List (List ℕ)) → IfThere (KeepsByte (λ rows. class_token_in rows c)) (row_of a words)
  row_low a [] = tt
  row_low a (keyword ∷ []) = where_so _ (bytes_eq keyword (codes "extended") && may_be_extended a) _ (λ may rest is. is)
  row_low a (keyword ∷ x ∷ []) = random_low a keyword x
  row_low a (keyword ∷ x ∷ y ∷ []) = one_of_two _ (bytes_eq keyword (codes "class")) (class_row a x y) (method_row a keyword x y) (class_low a x y)
      (method_low a keyword x y)
  row_low a (keyword ∷ x ∷ y ∷ z ∷ []) = one_of_two _ (bytes_eq keyword (codes "package")) (package_row a x y z) None (package_low a x y z) tt
  row_low a (keyword ∷ x ∷ y ∷ z ∷ v ∷ more) = tt

  package_entry_low : (a : Above) (n major minor : ℕ) → IfThere (KeepsByte (λ rows. class_token_in rows c)) (package_entry a n major minor)
  package_entry_low a n major minor =
      some_there _ _ (slice_get packages n) (λ e. where_so _ (may_be_package a e.package_id) _ (λ may rest is. is))

  class_entry_low : (a : Above) (n token : ℕ) → IfThere (KeepsByte (λ rows. class_token_in rows c)) (class_entry a n token)
  class_entry_low a n token =
      some_there _ _ a.home (λ home. some_there _ _ (slice_get (classes_of home) n)
      (λ e. where_so _ (nat_lt token 256 && may_be_class a e token) _ (λ may rest is.
      one_of_two IsByte (same_class e.class c) (Some token) (class_token_in rest c)
      (ltb-true token 256 (and_parts (nat_lt token 256) (may_be_class a e token) may).0) is)))

  method_entry_low : (a : Above) (n token : ℕ) → IfThere (KeepsByte (λ rows. class_token_in rows c)) (method_entry a n token)
  method_entry_low a n token =
      some_there _ _ a.class (λ d. some_there _ _ (slice_get (methods_of d) n) (λ e. where_so _ (may_be_method a e token) _ (λ may rest is. is)))

  kind_low : (a : Above) (kind x y z : ℕ) → IfThere (KeepsByte (λ rows. class_token_in rows c)) (row_of_kind a kind x y z)
  kind_low a kind x y z =
      one_of_two _ (kind == 0) _ _ (where_so _ (x == 0 && y == 0 && z == 0 && may_be_extended a) _ (λ may rest is. is))
      (one_of_two _ (kind == 1) (package_entry a x y z) _ (package_entry_low a x y z)
      (one_of_two _ (kind == 2) _ _ (one_of_two _ (z == 0) (class_entry a x y) None (class_entry_low a x y) tt)
      (one_of_two _ (kind == 3) _ None (one_of_two _ (z == 0) (method_entry a x y) None (method_entry_low a x y) tt) tt)))

  entry_low : (a : Above) (entry : List ℕ) → IfThere (KeepsByte (λ rows. class_token_in rows c)) (row_of_entry a entry)
  entry_low a [] = tt
  entry_low a (kind ∷ []) = tt
  entry_low a (kind ∷ x ∷ []) = tt
  entry_low a (kind ∷ x ∷ y ∷ []) = tt
  entry_low a (kind ∷ x ∷ y ∷ z ∷ []) = kind_low a kind x y z
  entry_low a (kind ∷ x ∷ y ∷ z ∷ v ∷ more) = tt

  part_low : (text : List ℕ) (a : Above) (part : List ℕ) → IfThere (KeepsByte (λ rows. class_token_in rows c)) (row_in text a part)
  part_low text a part = one_of_two _ (is_packed text) (row_of_entry a part) (row_of_line a part) (entry_low a part) (row_low a (parts_at 32 part))

  rows_low : (text : List ℕ) (lines : List (List ℕ)) (rows : _) → Say text lines rows → IfThere IsByte (class_token_in rows c)
  rows_low text [] [] say = tt
  rows_low text [] (row ∷ rows) say = absurd say
  rows_low text (line ∷ lines) [] say = absurd say
  rows_low text (line ∷ lines) (row ∷ rows) say = subst (IfThere (KeepsByte (λ l. class_token_in l c))) say.0 (part_low text (above rows) line) rows
      (rows_low text lines rows say.1)

pub have_bytes : HaveBytes
have_bytes text t reads c =
    let (rows, spells, are) = reads.1 in
    or_zero (token_of_class t c) (subst (IfThere IsByte) (are.class_tokens c) (rows_low c text spells.0 rows spells.2))
  where
    or_zero : (o : Option ℕ) → IfThere IsByte o → unwrap_or o 0 < 256
    or_zero None low = omega arith
    or_zero (Some k) low = low
