-- The laws.
use Rattle.std.proofs.Common.{◌≡◌, ℕ, zero, suc, ◌+◌, ◌-◌, ◌/◌, ◌%◌, ◌<◌, ◌≤◌, ◌==◌, Bool, true, false, List, [], ◌∷◌, ◌++◌, Option, Some, None, length, refl}
use Rattle.std.proofs.Common.{sym, subst, ap, ◌∙◌, arith, if◌then◌else◌, drop}
use Rattle.std.specs.Prelude.{nat_lt, slice_get, position}
use Rattle.std.specs.List.{position_or_len}
use Rattle.std.proofs.Common.{length-append}
use Rattle.std.proofs.lemmas.Bool.{lt-ltb, ltb-true, ne_eqb}
use Rattle.std.proofs.lemmas.List.Folds.{position_or_len_push}
use Rattle.std.specs.Option.{option_map, option_and_then, option_or}
use Rattle.std.specs.Str.{bytes_eq}
use Rattle.jc_platform.specs.Platform.{package_by_aid}
use Rattle.jc_platform.specs.Tokens.{number_in}
use Rattle.jc_cap.specs.declared.pool.Entry.{Entry}
use Rattle.jc_linker.specs.declared.target.Target.{Target}
use Rattle.jc_linker.specs.Classes.{class_in, interfaces_in, package_in, superclass_in}
use Rattle.jc_linker.specs.Lookups.{applet_entry, applet_of, code_at, entry_at, entry_with_aid, package_with_aid, if_entry, methods_of, statics_at, statics_of}
use Rattle.jc_linker.specs.Lookups.{target_at, target_of}
use Rattle.jc_linker.specs.Resolve.{class_at_offset, class_with_token, import_by_token, resolution}
use Rattle.jc_linker.specs.Values.{PackageValue, Packages}
use Rattle.jc_linker.specs.Values.{LinkerComponents}
use Rattle.jc_linker.specs.Linking.{next_number, with_classes, with_package}
use Rattle.law_code.specs.LinkedPackages.{AreLinkedAgainst, IsLinkedAgainst}
use Rattle.law_code.specs.ResolutionLaws.{AddingKeeps, PackageStays, Stays, AllResolve, Resolve}
use Rattle.law_code.proofs.Lists.{AllOf}
use Rattle.law_code.proofs.Alike.{AreAlike, class_stays}
use Rattle.law_code.proofs.Entries.{NamesAlike, bare, resolves_alike}
use Rattle.law_code.proofs.ClosedPackages.{Beside, IsBeside, IsClosed, alike, anything, names, package_same}
use Rattle.law_code.proofs.LinkAnswers.{IsMade, IsSome, closed_next, some_value, longer, made, target_of_entry, target_past}

-- ---- what an AID finds

from_front : {A : Type 0} (test : A → Bool) (xs : List A) (y : A) (i : ℕ) → position test xs ≡ Some i → position test (xs ++ y ∷ []) ≡ Some i
from_front test xs y i is = by_order (nat_lt (position_or_len test xs) (length xs)) refl is
  where
    by_order : (b : Bool) → nat_lt (position_or_len test xs) (length xs) ≡ b → (if b then Some (position_or_len test xs) else None) ≡ Some i →
        (if nat_lt (position_or_len test (xs ++ y ∷ [])) (length (xs ++ y ∷ [])) then Some (position_or_len test (xs ++ y ∷ [])) else None) ≡ Some i
    by_order true low package_with_aid =
        let less : position_or_len test xs < length xs = ltb-true (position_or_len test xs) (length xs) low in
        let same : position_or_len test (xs ++ y ∷ []) ≡ position_or_len test xs = position_or_len_push test xs y
        ∙ ap (λ b. if b then length xs + (if test y then 0 else 1) else position_or_len test xs)
        (ne_eqb (position_or_len test xs) (length xs) (λ e. omega (arith, less, e))) in
        let longer : length (xs ++ y ∷ []) ≡ length xs + 1 = length-append xs (y ∷ []) in
        rw (same, longer, lt-ltb (position_or_len test xs) (length xs + 1) (omega (arith, less))) package_with_aid
    by_order false high package_with_aid = absurd (subst IsSome (sym package_with_aid) tt)

found_first : {A : Type 0} (a b c : Option A) (x : A) → (b ≡ Some x → c ≡ Some x) → option_or a b ≡ Some x → option_or a c ≡ Some x
found_first None b c x more is = more is
found_first (Some y) b c x more is = is

counted : (o r : Option ℕ) (n : ℕ) → ((i : ℕ) → o ≡ Some i → r ≡ Some i) → option_map (λ i. i + 1) o ≡ Some n → option_map (λ i. i + 1) r ≡ Some n
counted None r n more is = absurd (subst IsSome (sym is) tt)
counted (Some i) r n more is = ap (option_map (λ j. j + 1)) (more i refl) ∙ is

found_still : (p : Packages) (q : PackageValue) (aid : List ℕ) (n : ℕ) → package_with_aid p aid ≡ Some n → package_with_aid (with_package p q) aid ≡ Some n
unfolding package_with_aid
found_still p q aid n is =
    found_first (option_map (number_in p.platform) (package_by_aid p.platform aid)) (option_map (λ i. i + 1) (position (λ r. bytes_eq r.name.aid aid) p.loaded))
    (option_map (λ i. i + 1) (position (λ r. bytes_eq r.name.aid aid) (p.loaded ++ q ∷ []))) n
    (counted (position (λ r. bytes_eq r.name.aid aid) p.loaded) (position (λ r. bytes_eq r.name.aid aid) (p.loaded ++ q ∷ [])) n
    (from_front (λ r. bytes_eq r.name.aid aid) p.loaded q)) is

-- ---- one more package

module _ (p : Packages) (q : PackageValue) (closed : IsClosed p) (room : length p.loaded < 32) where
  package_stays : (n : ℕ) → Beside p q closed room n → PackageStays p (with_package p q) n
  unfolding target_at code_at statics_at entry_at applet_entry entry_with_aid
  package_stays n other =
      let same = package_same p q n other in
      record {
        itself = same;
        entries = λ e. resolves_alike p (p.loaded ++ q ∷ []) (IsBeside p q closed room) (Beside p q closed room) (alike p q closed room)
            (names p q closed room) n e other;
        targets = λ index. ap (λ o. target_of o index) same;
        code = λ offset. ap (λ o. drop offset (methods_of o)) same;
        statics = ap statics_of same;
        installs = λ aid. ap (λ o. option_map (λ a. a.install_offset) (applet_of o aid)) same;
        applets = λ entry. ap (option_and_then (λ r. slice_get r.applets entry)) same;
        applet_numbers = λ aid. ap (λ o. option_and_then if_entry (option_and_then (λ r. position (λ a. bytes_eq a.aid aid) r.applets) o)) same;
      }

  pub stays : Stays p (with_package p q) (next_number p)
  stays = record {
    packages = package_stays;
    classes = λ class other. class_stays p (p.loaded ++ q ∷ []) (IsBeside p q closed room) (alike p q closed room) class other;
    names = λ aid n is. found_still p q aid n is;
  }

pub linked_closed : (cs : List LinkerComponents) (p all : Packages) → IsClosed p → AreLinkedAgainst p cs all → IsClosed all
linked_closed [] p all closed linked = subst IsClosed (sym linked) closed
linked_closed (c ∷ cs) p all closed linked = linked_closed cs (with_package p linked.0) all (closed_next p c linked.0 closed linked.1) linked.2

pub adding_keeps : AddingKeeps
adding_keeps cs p q linked room = stays p q (linked_closed cs (record p { loaded = [] }) p tt linked) room

-- ---- what entries resolve to is no part of how they resolve

everywhere : {A : Type 0} (xs : List A) → AllOf (λ x. Unit {0}) xs
everywhere [] = tt
everywhere (x ∷ xs) = (tt, everywhere xs)

bare_behind : (xs : List PackageValue) (q : PackageValue) (ts : List Target) (i : ℕ)
    → bare (slice_get (xs ++ record q { targets = ts } ∷ []) i) ≡ bare (slice_get (xs ++ q ∷ []) i)
bare_behind [] q ts zero = refl
bare_behind [] q ts (suc i) = refl
bare_behind (x ∷ xs) q ts zero = refl
bare_behind (x ∷ xs) q ts (suc i) = bare_behind xs q ts i

bare_unless : (none : Bool) (a b : Option PackageValue) → bare a ≡ bare b → bare (if none then None else a) ≡ bare (if none then None else b)
bare_unless true a b same = refl
bare_unless false a b same = same

class_of_bare : (place : ℕ) (o : Option PackageValue) → option_and_then (λ r. slice_get r.classes place) o
    ≡ option_and_then (λ r. slice_get r.classes place) (bare o)
class_of_bare place None = refl
class_of_bare place (Some r) = refl

module _ (p : Packages) (q : PackageValue) (ts : List Target) where
  abbrev told : PackageValue
  told = record q { targets = ts }

  bare_same : (n : ℕ) → bare (package_in (with_package p told) n) ≡ bare (package_in (with_package p q) n)
  unfolding package_in
  bare_same n = bare_unless (n == 0) (slice_get (p.loaded ++ told ∷ []) (n - 1)) (slice_get (p.loaded ++ q ∷ []) (n - 1)) (bare_behind p.loaded q ts (n - 1))

  class_same : (w : ℕ) → class_in (with_package p told) w ≡ class_in (with_package p q) w
  unfolding class_in
  class_same w =
      class_of_bare (w % 256) (package_in (with_package p told) (w / 256)) ∙ ap (option_and_then (λ r. slice_get r.classes (w % 256))) (bare_same (w / 256))
      ∙ sym (class_of_bare (w % 256) (package_in (with_package p q) (w / 256)))

  pub told_alike : AreAlike (with_package p q) (with_package p told) (λ w. Unit {0})
  told_alike = record {
    class = λ w any. class_same w;
    above = λ w any. anything (superclass_in (with_package p q) w);
    interfaces = λ w any. everywhere (interfaces_in (with_package p q) w);
  }

  told_names : NamesAlike (with_package p q) (with_package p told) (λ w. Unit {0}) (λ n. Unit {0})
  told_names = record {
    packages = λ n any. bare_same n;
    imports = λ n token any. anything (import_by_token (with_package p q) n token);
    named = λ n token any. anything (class_with_token (with_package p q) n token);
    offsets = λ n offset any. anything (class_at_offset (with_package p q) n offset);
  }

  pub told_resolves : (n : ℕ) (e : Entry) → resolution (with_package p told) n e ≡ resolution (with_package p q) n e
  told_resolves n e = resolves_alike (with_package p q) (p.loaded ++ told ∷ []) (λ w. Unit {0}) (λ m. Unit {0}) told_alike told_names n e tt

-- ---- the package that came in, after the others and once more came in

last_of : (xs : List PackageValue) (q : PackageValue) → slice_get (xs ++ q ∷ []) (length xs) ≡ Some q
last_of [] q = refl
last_of (x ∷ xs) q = last_of xs q

pub package_last : (p : Packages) (q : PackageValue) → package_in (with_package p q) (next_number p) ≡ Some q
unfolding package_in
package_last p q =
    ap (λ b. if b then None else slice_get (p.loaded ++ q ∷ []) (length p.loaded + 1 - 1)) (ne_eqb (length p.loaded + 1) 0 (λ e. absurd (omega (arith, e))))
    ∙ ap (slice_get (p.loaded ++ q ∷ [])) (let less : length p.loaded + 1 - 1 ≡ length p.loaded = omega arith in less) ∙ last_of p.loaded q

abbrev StaysAs : Packages → Packages → ℕ → Type 0
StaysAs p all n = (package_in all n ≡ package_in p n) × ((e : Entry) → resolution all n e ≡ resolution p n e)

after : (cs : List LinkerComponents) (p all : Packages) → IsClosed p → AreLinkedAgainst p cs all → (n : ℕ) → n ≤ length p.loaded → StaysAs p all n
after [] p all closed linked n low = (ap (λ r. package_in r n) linked, λ e. ap (λ r. resolution r n e) linked)
after (c ∷ cs) p all closed linked n low =
    let next = with_package p linked.0 in
    let long : length next.loaded ≡ length p.loaded + 1 = longer p linked.0 in
    let still = package_stays p linked.0 closed linked.1.0 n (λ e. absurd (omega (arith, low, e))) in
    let rest = after cs next all (closed_next p c linked.0 closed linked.1) linked.2 n (omega (arith, low, long)) in
    (rest.0 ∙ still.itself, λ e. rest.1 e ∙ still.entries e)

-- ---- each entry

resolved_now : (p : Packages) (c : LinkerComponents) (q : PackageValue) → IsMade p c q → (index : ℕ) (e : Entry) → slice_get c.pool index ≡ Some e →
    (t : Target) × (resolution (with_package p q) (next_number p) e ≡ Some t) × (slice_get q.targets index ≡ Some t)
resolved_now p c q m index e at =
    let first = with_classes p c m.imports in
    let package_with_aid = target_of_entry (with_package p first) (next_number p) 0 c.pool m.targets m.resolves index e at in (
      package_with_aid.0,
      ap (λ r. resolution (with_package p r) (next_number p) e) m.is ∙ told_resolves p first m.targets (next_number p) e
          ∙ package_with_aid.1,
      ap (λ r. slice_get r.targets index) m.is ∙ package_with_aid.2,
    )

resolve_first : (cs : List LinkerComponents) (p all : Packages) (c : LinkerComponents) (q : PackageValue) → IsClosed p → IsLinkedAgainst p c q
    → AreLinkedAgainst (with_package p q) cs all → Resolve all (next_number p) c.pool
unfolding target_at
resolve_first cs p all c q closed linked rest =
    let m = made p c q linked.2 in
    let long : length (with_package p q).loaded ≡ length p.loaded + 1 = longer p q in
    let still = after cs (with_package p q) all (closed_next p c q closed linked) rest (next_number p) (omega (arith, long)) in
    let there = still.0 ∙ package_last p q in
    record {
      entries = λ index e at.
          let package_with_aid = resolved_now p c q m index e at in
          (package_with_aid.0, still.1 e ∙ package_with_aid.1, ap (λ o. target_of o index) there ∙ package_with_aid.2);
      ends = λ index at. ap (λ o. target_of o index) there ∙ (ap (λ r. slice_get r.targets index) m.is
          ∙ target_past (with_package p (with_classes p c m.imports)) (next_number p) 0 c.pool m.targets m.resolves index at);
    }

resolve_each : (cs : List LinkerComponents) (p all : Packages) → IsClosed p → AreLinkedAgainst p cs all → (i : ℕ) (c : LinkerComponents)
    → slice_get cs i ≡ Some c → Resolve all (length p.loaded + (i + 1)) c.pool
resolve_each [] p all closed linked i c at = absurd (subst IsSome (sym at) tt)
resolve_each (first ∷ cs) p all closed linked zero c at =
    subst (λ d. Resolve all (next_number p) d.pool) (some_value first c at) (resolve_first cs p all first linked.0 closed linked.1 linked.2)
resolve_each (first ∷ cs) p all closed linked (suc i) c at =
    let long : length (with_package p linked.0).loaded ≡ length p.loaded + 1 = longer p linked.0 in
    let number : length (with_package p linked.0).loaded + (i + 1) ≡ length p.loaded + (suc i + 1) = omega (arith, long) in
    subst (λ n. Resolve all n c.pool) number (resolve_each cs (with_package p linked.0) all (closed_next p first linked.0 closed linked.1) linked.2 i c at)

pub all_resolve : AllResolve
all_resolve cs all linked i c at =
    let number : 0 + (i + 1) ≡ i + 1 = omega arith in
    subst (λ n. Resolve all n c.pool) number (resolve_each cs (record all { loaded = [] }) all tt linked i c at)
