-- What is looked up is what an entry resolves to.
use Rattle.std.proofs.Common.{◌≡◌, ℕ, zero, suc, ◌+◌, ◌-◌, ◌<◌, ◌≤◌, ◌==◌, Bool, true, false, List, [], ◌∷◌, Option, Some, None, length, refl, sym, subst, ap}
use Rattle.std.proofs.Common.{◌∙◌, arith, if◌then◌else◌}
use Rattle.std.specs.Prelude.{slice_get}
use Rattle.std.proofs.lemmas.Option.{none-some, slice_get_within}
use Rattle.std.proofs.lemmas.Bool.{eqb-false}
use Rattle.jc_cap.specs.declared.pool.Entry.{Entry}
use Rattle.jc_linker.specs.declared.target.Target.{Target}
use Rattle.jc_linker.specs.Classes.{package_in}
use Rattle.jc_linker.specs.Lookups.{target_at, target_of}
use Rattle.jc_linker.specs.Resolve.{resolution}
use Rattle.jc_linker.specs.Values.{PackageValue, Packages}
use Rattle.jc_linker.specs.Values.{LinkerComponents}
use Rattle.jc_linker.specs.Linking.{with_package}
use Rattle.law_code.specs.LinkedPackages.{AreLinked, AreLinkedAgainst}
use Rattle.law_code.specs.ResolutionLaws.{Resolve}
use Rattle.law_code.proofs.ResolutionLaws.{all_resolve}
use Rattle.law_code.proofs.LinkAnswers.{longer}

-- as many packages as components, and no more than there are places for
counted : (cs : List LinkerComponents) (p all : Packages) → AreLinkedAgainst p cs all → length all.loaded ≡ length p.loaded + length cs
counted [] p all linked = let same = ap (λ r. length r.loaded) linked in omega (arith, same)
counted (c ∷ cs) p all linked = let rest = counted cs (with_package p linked.0) all linked.2 in let one = longer p linked.0 in omega (arith, rest, one)

placed : (cs : List LinkerComponents) (p all : Packages) → length p.loaded ≤ 32 → AreLinkedAgainst p cs all → length all.loaded ≤ 32
placed [] p all few linked = let same = ap (λ r. length r.loaded) linked in omega (arith, same, few)
placed (c ∷ cs) p all few linked =
    let one = longer p linked.0 in let room = linked.1.0 in placed cs (with_package p linked.0) all (omega (arith, one, room)) linked.2

pub few_packages : (cs : List LinkerComponents) (p : Packages) → AreLinked cs p → length p.loaded ≤ 32
few_packages cs p linked = placed cs (record p { loaded = [] }) p (omega arith) linked

abbrev IsEntered : Packages → ℕ → Target → Type 0
IsEntered p number t = (e : Entry) × (resolution p number e ≡ Some t)

by_entry : (p : Packages) (number index : ℕ) (pool : List Entry) (t : Target) → Resolve p number pool → target_at p number index ≡ Some t → (o : Option Entry)
    → slice_get pool index ≡ o → IsEntered p number t
by_entry p number index pool t resolves is None at = absurd (none-some t (sym (resolves.ends index at) ∙ is))
by_entry p number index pool t resolves is (Some e) at =
    let found = resolves.entries index e at in
    (e, found.1 ∙ (sym found.2 ∙ is))

-- a number under which something is looked up has a package
low_in : (loaded : List PackageValue) (number index : ℕ) (b : Bool) → (number == 0) ≡ b → (t : Target)
    → target_of (if b then None else slice_get loaded (number - 1)) index ≡ Some t → (0 < number) × (number ≤ length loaded)
low_in loaded number index true none t is = absurd (none-some t is)
low_in loaded number index false some t is = by_package (slice_get loaded (number - 1)) refl is
  where
    by_package : (o : Option PackageValue) → slice_get loaded (number - 1) ≡ o → target_of o index ≡ Some t → (0 < number) × (number ≤ length loaded)
    by_package None at e = absurd (none-some t e)
    by_package (Some q) at e =
        let less = slice_get_within loaded (number - 1) q at in let ne = eqb-false number 0 some in (omega (arith, ne), omega (arith, less, ne))

low : (p : Packages) (number index : ℕ) (t : Target) → target_at p number index ≡ Some t → (0 < number) × (number ≤ length p.loaded)
unfolding target_at package_in
low p number index t is = low_in p.loaded number index (number == 0) refl t is

pub there : {A : Type 0} (xs : List A) (i : ℕ) → i < length xs → (x : A) × (slice_get xs i ≡ Some x)
there [] i less = absurd (omega (arith, less))
there (x ∷ xs) zero less = (x, refl)
there (x ∷ xs) (suc i) less = there xs i (omega (arith, less))

pub entered : (cs : List LinkerComponents) (p : Packages) → AreLinked cs p → (number index : ℕ) (t : Target) → target_at p number index ≡ Some t
    → IsEntered p number t
entered cs p linked number index t is =
    let within = low p number index t is in
    let many = counted cs (record p { loaded = [] }) p linked in
    let lower = within.0 in
    let upper = within.1 in
    let component = there cs (number - 1) (omega (arith, lower, upper, many)) in
    let here : number - 1 + 1 ≡ number = omega (arith, lower) in
    by_entry p number index (component.0).pool t (subst (λ n. Resolve p n (component.0).pool) here
    (all_resolve cs p linked (number - 1) component.0 component.1)) is (slice_get (component.0).pool index) refl
