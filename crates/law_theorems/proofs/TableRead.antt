-- The text of the table reads as what it tells.
use Rattle.hex.specs.Hex.{encode_with}
use Rattle.std.proofs.Common.{◌≡◌, ℕ, ◌==◌, Bool, true, false, List, [], ◌∷◌, Option, None, Some, refl, sym, subst, ap, ◌∙◌, arith, inl, inr, length}
use Rattle.std.specs.List.{list_all}
use Rattle.std.specs.Option.{option_and_then}
use Rattle.std.specs.Prelude.{Ok, ◌⊎◌, ◌≢◌, reverse}
use Rattle.std.proofs.lemmas.Bool.{false≢true, true≢false}
use Rattle.std.proofs.lemmas.Bool.Decides.{eqb_tells}
use Rattle.std.proofs.lemmas.Option.{option_and_then_some, same_Some}
use Rattle.jc_platform.specs.declared.names.PlatformClass.{PlatformClass}
use Rattle.jc_platform.specs.declared.names.PlatformMethod.{PlatformMethod}
use Rattle.jc_platform.specs.declared.names.PlatformPackage.{PlatformPackage}
use Rattle.jc_platform.specs.declared.names.PlatformPackage.TheVariants.{JavaLang, JavacardFramework, JavacardxApdu, JavacardSecurity, JavacardxCrypto}
use Rattle.jc_platform.specs.Hierarchy.{interfaces_of, superclass_of}
use Rattle.jc_platform.specs.Names.{packages, classes, methods, objects_rows, exceptions_rows, utilities_rows, system_rows, aids_rows, pins_rows}
use Rattle.jc_platform.specs.Names.{applets_rows, apdus_rows, events_rows, engines_rows, keys_rows, key_interfaces_rows, ciphers_rows}
use Rattle.jc_platform.specs.Names.{rsa_keys_rows, ec_keys_rows, rsa_interfaces_rows, ec_interfaces_rows, key_pairs_rows}
use Rattle.jc_platform.specs.Rows.{Above, above, row_of_line}
use Rattle.jc_platform.specs.Table.{Reads}
use Rattle.jc_platform.specs.Tokens.{token_of_class, token_of_method, version_of_package}
use Rattle.jc_platform.proofs.EveryRow.{every_class, every_method}
use Rattle.jc_platform.proofs.Facts.{class_at_place, method_at_place}
use Rattle.law_theorems.proofs.TableText.{table, table_lines, table_text}
use Rattle.law_theorems.proofs.Ways.{or_else, there}

-- ---- rows of lines, whatever a row is, by what reads a line below the rows above it

-- the rows that lines are after these, the last one first
abbrev rows_after : {R : Type 0} → (List R → List ℕ → Option R) → List (List ℕ) → List R → Option (List R)
rows_after read [] rows = Some rows
rows_after read (line ∷ more) rows = option_and_then (λ row. rows_after read more (row ∷ rows)) (read rows line)

-- each line is its row; lines and rows from the last one up
abbrev AreRows : {R : Type 0} → (List R → List ℕ → Option R) → List (List ℕ) → List R → Type 0
AreRows read [] [] = Unit {0}
AreRows read [] (row ∷ rows) = ⊥
AreRows read (line ∷ lines) [] = ⊥
AreRows read (line ∷ lines) (row ∷ rows) = (read rows line ≡ Some row) × AreRows read lines rows

-- lines after others that stand from the last one up
abbrev turned : List (List ℕ) → List (List ℕ) → List (List ℕ)
turned [] lines = lines
turned (line ∷ more) lines = turned more (line ∷ lines)

are_rows : {R : Type 0} (read : List R → List ℕ → Option R) (more lines : List (List ℕ)) (rows all : List R) → AreRows read lines rows
    → rows_after read more rows ≡ Some all → AreRows read (turned more lines) all
are_rows read [] lines rows all are is = subst (AreRows read lines) (same_Some rows all is) are
are_rows read (line ∷ more) lines rows all are is = option_and_then_some (λ row. rows_after read more (row ∷ rows)) (read rows line) all is
    (λ row reads rest. are_rows read more (line ∷ lines) (row ∷ rows) all (reads, are) rest)

-- ---- tokens

abbrev same_token : Option ℕ → Option ℕ → Bool
same_token None None = true
same_token None (Some b) = false
same_token (Some a) None = false
same_token (Some a) (Some b) = a == b

token_is : (a b : Option ℕ) → same_token a b ≡ true → a ≡ b
token_is None None same = refl
token_is None (Some b) same = absurd (false≢true same)
token_is (Some a) None same = absurd (false≢true same)
token_is (Some a) (Some b) same = ap (λ x. Some x) (by (eqb_tells a b))
  where
    by : ((a == b ≡ true) × (a ≡ b)) ⊎ ((a == b ≡ false) × (a ≢ b)) → a ≡ b
    by (inl is) = is.1
    by (inr not) = absurd (true≢false (sym same ∙ not.0))

-- ---- tokens that rows above tell, with the rows found once

abbrev tell_classes : {R : Type 0} → (List R → Above) → Option (List R) → Bool
tell_classes above None = false
tell_classes above (Some rows) = list_all (λ e. same_token ((above rows).class_token e.class) (token_of_class table e.class)) classes

abbrev tell_methods : {R : Type 0} → (List R → Above) → Option (List R) → Bool
tell_methods above None = false
tell_methods above (Some rows) = list_all (λ e. same_token ((above rows).method_token e.method) (token_of_method table e.method)) methods

classes_told : {R : Type 0} (above : List R → Above) (o : Option (List R)) (rows : List R) → o ≡ Some rows → tell_classes above o ≡ true
    → (c : PlatformClass) → (above rows).class_token c ≡ token_of_class table c
classes_told above o rows is told c =
    let all : tell_classes above (Some rows) ≡ true = subst (λ x. tell_classes above x ≡ true) is told in
    subst (λ (d : PlatformClass). (above rows).class_token d ≡ token_of_class table d) (class_at_place c)
    (token_is _ _ (every_class (λ e. same_token ((above rows).class_token e.class) (token_of_class table e.class)) all c))

methods_told : {R : Type 0} (above : List R → Above) (o : Option (List R)) (rows : List R) → o ≡ Some rows → tell_methods above o ≡ true
    → (m : PlatformMethod) → (above rows).method_token m ≡ token_of_method table m
methods_told above o rows is told m =
    let all : tell_methods above (Some rows) ≡ true = subst (λ x. tell_methods above x ≡ true) is told in
    subst (λ (d : PlatformMethod). (above rows).method_token d ≡ token_of_method table d) (method_at_place m)
    (token_is _ _ (every_method (λ e. same_token ((above rows).method_token e.method) (token_of_method table e.method)) all m))

-- all that the reading of the text computes with
other_names : Unit {0}
unfolding applets_rows apdus_rows events_rows engines_rows keys_rows key_interfaces_rows ciphers_rows rsa_keys_rows ec_keys_rows rsa_interfaces_rows ec_interfaces_rows key_pairs_rows
other_names = tt

names : Unit {0}
unfolding encode_with superclass_of interfaces_of packages classes objects_rows exceptions_rows utilities_rows system_rows aids_rows pins_rows other_names
names = tt

pub reads : Reads table_text (Ok table)
unfolding names
reads =
    let rows = or_else [] (rows_after (λ rows line. row_of_line (above rows) line) table_lines []) in
    let is = there [] (rows_after (λ rows line. row_of_line (above rows) line) table_lines []) refl in
    let long : length table_text ≡ 2436 = refl in (
      omega (arith, long),
      (
        rows,
        (reverse table_lines, refl, are_rows (λ rows line. row_of_line (above rows) line) table_lines [] [] rows tt is),
        record {
          first = refl;
          versions = versions;
          class_tokens = classes_told above (rows_after (λ rows line. row_of_line (above rows) line) table_lines []) rows is refl;
          method_tokens = methods_told above (rows_after (λ rows line. row_of_line (above rows) line) table_lines []) rows is refl;
          random = refl;
          needed_packages = refl;
          needed_classes = refl;
          needed_methods = refl;
          as_many_versions = refl;
          as_many_classes = refl;
          as_many_methods = refl;
        },
      ),
    )
  where
    versions : (p : PlatformPackage)
        → (above (or_else [] (rows_after (λ rows line. row_of_line (above rows) line) table_lines []))).version p ≡ version_of_package table p
    versions JavaLang = refl
    versions JavacardFramework = refl
    versions JavacardxApdu = refl
    versions JavacardSecurity = refl
    versions JavacardxCrypto = refl
