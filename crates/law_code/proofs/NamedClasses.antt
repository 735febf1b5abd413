-- A class that an entry names is there.
use Rattle.std.proofs.Common.{◌≡◌, ℕ, ◌+◌, ◌*◌, ◌%◌, ◌<◌, ◌≤◌, ◌==◌, ◌-◌, Bool, true, false, List, [], Option, Some, None, length, refl, subst, ap, ◌∙◌}
use Rattle.std.proofs.Common.{arith, if◌then◌else◌}
use Rattle.std.specs.Prelude.{is_some, slice_get}
use Rattle.std.specs.Option.{option_map, option_and_then}
use Rattle.std.proofs.lemmas.Bool.{or_left, or_right}
use Rattle.std.proofs.lemmas.Option.{none-some}
use Rattle.std.proofs.lemmas.List.Quantifiers.{position-Some}
use Rattle.jc_cap.specs.declared.class_refs.ClassRef.{ClassRef}
use Rattle.jc_cap.specs.declared.class_refs.ClassRef.TheVariants.{External, Internal}
use Rattle.jc_platform.specs.declared.names.PlatformClass.{PlatformClass}
use Rattle.jc_platform.specs.NamePlaces.{class_word}
use Rattle.jc_platform.specs.Platform.{TellNames, class_by_token, class_by_word, package_by_number}
use Rattle.jc_linker.specs.declared.target.Target.{Target}
use Rattle.jc_linker.specs.declared.target.Target.TheVariants as targets
use Rattle.jc_linker.specs.Classes.{class_in, is_class, package_in}
use Rattle.jc_linker.specs.Lookups.{target_at}
use Rattle.jc_linker.specs.Resolve.{class_at_offset, class_by, class_named, class_of, class_with_token, exported_class, import_by_token, class_index}
use Rattle.jc_linker.specs.Values.{PackageValue, Packages}
use Rattle.jc_linker.specs.Values.{LinkerComponents}
use Rattle.jc_linker.specs.Outlines.{outline_of}
use Rattle.law_code.proofs.ClosedPackages.{IsClosed, IsClosedPackage, if_each}
use Rattle.law_code.proofs.EntryTargets.{entered, there as some_at}
use Rattle.law_code.proofs.Fields.{any_field, any_foreign, any_super, of_entry, some_there}
use Rattle.law_code.proofs.ResolutionLaws.{linked_closed}
use Rattle.law_code.proofs.Lists.{IfThere, all_at, map_there}
use Rattle.law_code.specs.ReadPackages.{AreRead, HasByteTokens}
use Rattle.law_code.proofs.Tokens.{HasToken, class_is, word_parts, word_told}

abbrev IsThere : Packages → ℕ → Type 0
IsThere p w = is_class p w ≡ true

-- a package's class by its place

place_there : (p : Packages) (number place : ℕ) (q : PackageValue) → package_in p number ≡ Some q → place < length q.classes → length q.classes ≤ 256
    → IsThere p (256 * number + place)
unfolding is_class class_in
place_there p number place q is less few =
    let parts = word_parts number place (omega (arith, less, few)) in
    let at = some_at q.classes place less in
    let found : class_in p (256 * number + place) ≡ Some at.0 =
    ap (λ n. option_and_then (λ r. slice_get r.classes ((256 * number + place) % 256)) (package_in p n)) parts.0
    ∙ ap (option_and_then (λ r. slice_get r.classes ((256 * number + place) % 256))) is ∙ ap (slice_get q.classes) parts.1 ∙ at.1 in
    or_left (is_some (class_in p (256 * number + place))) (is_some (class_by_word p.platform (256 * number + place))) (ap is_some found)

offset_there : (p : Packages) (number offset : ℕ) (q : PackageValue) → package_in p number ≡ Some q → length q.classes ≤ 256 → (o : Option ℕ)
    → class_index offset q.classes ≡ o → IfThere (IsThere p) (option_map (λ place. 256 * number + place) o)
unfolding class_index
offset_there p number offset q is few None at = tt
offset_there p number offset q is few (Some place) at = place_there p number place q is
    (position-Some (λ c. c.offset == offset) q.classes place (outline_of 0) at).0 few

few_in : (p : Packages) (number : ℕ) (q : PackageValue) → IsClosed p → package_in p number ≡ Some q → length q.classes ≤ 256
unfolding package_in
few_in p number q closed is = by_none (number == 0) is
  where
    by_none : (b : Bool) → (if b then None else slice_get p.loaded (number - 1)) ≡ Some q → length q.classes ≤ 256
    by_none true e = absurd (none-some q e)
    by_none false e = (subst (IfThere (IsClosedPackage (length p.loaded))) e (all_at (IsClosedPackage (length p.loaded)) p.loaded (number - 1) closed)).few

module _ (p : Packages) (names : TellNames p.platform) (bytes : HasByteTokens p.platform) (closed : IsClosed p) where
  platform_there : (c : PlatformClass) → HasToken p.platform c → IsThere p (class_word p.platform c)
  unfolding is_class
  platform_there c stands = or_right (is_some (class_in p (class_word p.platform c))) (is_some (class_by_word p.platform (class_word p.platform c)))
      (ap is_some (word_told p.platform names bytes c stands))

  token_there : (n token : ℕ) (o : Option PackageValue) → package_in p n ≡ o → IfThere (IsThere p) (class_by p n token o)
  token_there n token None is = some_there (IsThere p) (λ home. option_map (class_word p.platform) (class_by_token p.platform home token))
      (package_by_number p.platform n)
      (λ home. map_there (HasToken p.platform) (IsThere p) (class_word p.platform) (class_by_token p.platform home token)
      (if_each (HasToken p.platform) (class_by_token p.platform home token) (λ c at. (token, (class_is p.platform home token c at).1))) platform_there)
  token_there n token (Some q) is = some_there (IsThere p) (exported_class n q) (slice_get q.exports token)
      (λ e. offset_there p n e.class_offset q is (few_in p n q closed is) (class_index e.class_offset q.classes) refl)

  offset_named : (number offset : ℕ) (o : Option PackageValue) → package_in p number ≡ o → IfThere (IsThere p) (class_of number o offset)
  offset_named number offset None is = tt
  offset_named number offset (Some q) is = offset_there p number offset q is (few_in p number q closed is) (class_index offset q.classes) refl

  ref_there : (number : ℕ) (c : ClassRef) → IfThere (IsThere p) (class_named p number c)
  unfolding class_named class_at_offset class_with_token
  ref_there number (Internal offset) = offset_named number offset (package_in p number) refl
  ref_there number (External package_token class_token) = some_there (IsThere p) (λ n. class_with_token p n class_token)
      (import_by_token p number package_token) (λ n. token_there n class_token (package_in p n) refl)

  -- ---- an entry that resolves to a class

  abbrev NamesOne : Target → Type 0
  NamesOne (targets.Class w) = IsThere p w
  NamesOne _ = Unit {0}

  class_one : (o : Option ℕ) → IfThere (IsThere p) o → IfThere NamesOne (option_map targets.Class o)
  class_one None is = tt
  class_one (Some w) is = is

pub named_there : (cs : List LinkerComponents) (p : Packages) → AreRead cs p → (number index class : ℕ) → target_at p number index ≡ Some (targets.Class class)
    → IsThere p class
named_there cs p read number index class is =
    let closed = linked_closed cs (record p { loaded = [] }) p tt read.linked in
    let entry = entered cs p read.linked number index (targets.Class class) is in
    subst (IfThere (NamesOne p read.names read.bytes closed)) entry.1 (of_entry p number (NamesOne p read.names read.bytes closed) (record {
      classes = λ c. class_one p read.names read.bytes closed (class_named p number c) (ref_there p read.names read.bytes closed number c);
      fields = any_field p (NamesOne p read.names read.bytes closed) (λ w cell reference. tt);
      virtual = λ w token m plain found. tt;
      super = any_super p (NamesOne p read.names read.bytes closed) (λ w m. tt);
      statics = λ n offset. tt;
      own = λ offset. tt;
      foreign = any_foreign p (NamesOne p read.names read.bytes closed) (λ w m. tt);
    }) entry.0)
