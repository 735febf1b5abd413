-- The AIDs of the applets of linked packages.
use Rattle.std.proofs.Common.{◌≡◌, ℕ, suc, ◌-◌, ◌<◌, ◌≤◌, ◌==◌, Bool, true, false, List, [], ◌∷◌, ◌++◌, Option, Some, None, length, map, refl, sym, subst}
use Rattle.std.proofs.Common.{if◌then◌else◌}
use Rattle.std.specs.Prelude.{All, slice_get}
use Rattle.std.proofs.lemmas.Bool.{and_from, le-leb}
use Rattle.std.proofs.lemmas.List.Elements.{All-cons, All-head, All-nil, All-tail}
use Rattle.jc_cap.specs.Grammar.{AreEncodedInTurn}
use Rattle.jc_cap.specs.Applets.{AppletNamed, IsApplet}
use Rattle.jc_linker.specs.Classes.{package_in}
use Rattle.jc_linker.specs.Lookups.{applet_entry}
use Rattle.jc_linker.specs.Values.{AppletEntry, PackageValue, Packages}
use Rattle.jc_linker.specs.Values.{LinkerComponents}
use Rattle.jc_linker.specs.Linking.{with_package}
use Rattle.jc_linker.specs.Outlines.{all_of, applet_of}
use Rattle.law_code.specs.LinkedPackages.{AreLinkedAgainst}
use Rattle.law_code.proofs.LinkAnswers.{made}
use Rattle.law_code.proofs.Lists.{AllOf, IfThere, all_at, all_behind, then_there}
use Rattle.law_code.specs.ReadPackages.{HasAppletComponent}
use Rattle.law_code.specs.ClassLaws.{HaveAids}

abbrev IsByte : ℕ → Type 0
IsByte b = b < 256

abbrev IsAidOfBytes : List ℕ → Type 0
IsAidOfBytes aid = (5 ≤ length aid) × (length aid ≤ 16) × All IsByte aid

abbrev IsNamed : AppletEntry → Type 0
IsNamed a = IsAidOfBytes a.aid

parts : (xs ys : List ℕ) → All IsByte (xs ++ ys) → All IsByte xs × All IsByte ys
parts [] ys all = (All-nil IsByte, all)
parts (x ∷ xs) ys all =
    let rest = parts xs ys (All-tail IsByte x (xs ++ ys) all) in
    (All-cons IsByte x xs (All-head IsByte x (xs ++ ys) all) rest.0, rest.1)

applet_named : (a : AppletNamed) (text : List ℕ) → IsApplet a text → All IsByte text → IsNamed (applet_of a)
applet_named a text is bytes =
    let aid = (parts is.0 is.1 (subst (All IsByte) is.4 bytes)).0 in
    (is.2.1, is.2.2, All-tail IsByte (length a.aid) a.aid (subst (All IsByte) is.2.0 aid))

applets_named : (xs : List AppletNamed) (text : List ℕ) → AreEncodedInTurn IsApplet xs text → All IsByte text → AllOf IsNamed (map applet_of xs)
applets_named [] text are bytes = tt
applets_named (x ∷ xs) text are bytes =
    let both = parts are.0 are.1 (subst (All IsByte) are.3 bytes) in
    (applet_named x are.0 are.2 both.0, applets_named xs are.1 are.4 both.1)

component_named : (o : Option (List AppletNamed)) → HasAppletComponent o → AllOf IsNamed (map applet_of (all_of o))
component_named None has = tt
component_named (Some xs) has =
    let listed = has.2 in
    applets_named xs listed.0 listed.1 (All-tail IsByte (length xs) listed.0 (subst (All IsByte) listed.2 has.1))

abbrev AreNamed : PackageValue → Type 0
AreNamed q = AllOf IsNamed q.applets

loaded_named : (cs : List LinkerComponents) (p all : Packages) → AllOf AreNamed p.loaded
    → ((i : ℕ) (c : LinkerComponents) → slice_get cs i ≡ Some c → HasAppletComponent c.applets) → AreLinkedAgainst p cs all → AllOf AreNamed all.loaded
loaded_named [] p all named has linked = subst (λ r. AllOf AreNamed r.loaded) (sym linked) named
loaded_named (c ∷ cs) p all named has linked =
    let m = made p c linked.0 linked.1.2 in
    let one : AreNamed linked.0 = subst AreNamed (sym m.is) (component_named c.applets (has 0 c refl)) in
    loaded_named cs (with_package p linked.0) all (all_behind AreNamed p.loaded linked.0 named one) (λ i d at. has (suc i) d at) linked.2

unless_none : (none : Bool) (o : Option PackageValue) → IfThere AreNamed o → IfThere AreNamed (if none then None else o)
unless_none true o is = tt
unless_none false o is = is

entry_named : (p : Packages) (number entry : ℕ) → AllOf AreNamed p.loaded → IfThere IsNamed (applet_entry p number entry)
unfolding applet_entry package_in
entry_named p number entry named =
    then_there AreNamed IsNamed (λ q. slice_get q.applets entry) (if number == 0 then None else slice_get p.loaded (number - 1))
    (unless_none (number == 0) (slice_get p.loaded (number - 1)) (all_at AreNamed p.loaded (number - 1) named)) (λ q each. all_at IsNamed q.applets entry each)

pub have_aids : HaveAids
have_aids cs p linked has =
    let named = loaded_named cs (record p { loaded = [] }) p tt has linked in
    let each : (number entry : ℕ) (a : AppletEntry) → applet_entry p number entry ≡ Some a
    → IsNamed a = λ number entry a is. subst (IfThere IsNamed) is (entry_named p number entry named) in
    record {
      long = λ number entry a is. and_from _ _ (le-leb 5 (length a.aid) (each number entry a is).0) (le-leb (length a.aid) 16 (each number entry a is).1);
      bytes = λ number entry i a is less. (each number entry a is).2 i 0 less;
    }
