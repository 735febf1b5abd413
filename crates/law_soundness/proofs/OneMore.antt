-- One more package that is linked as those before it.
use Rattle.std.proofs.Common.{◌≡◌, ℕ, zero, suc, ◌<◌, List, [], ◌∷◌, ◌++◌, Option, Some, None, drop, refl, ap, subst}
use Rattle.std.specs.Prelude.{All, slice_get}
use Rattle.std.proofs.lemmas.List.Elements.{All-nil, All-tail}
use Rattle.jc_linker.specs.Values.{PackageValue, Packages}
use Rattle.jc_linker.specs.Values.{LinkerComponents}
use Rattle.jc_linker.specs.Linking.{with_package}
use Rattle.jc_packages.specs.LinkerView.{linker_view}
use Rattle.law_code.specs.LinkedPackages.{AreLinkedAgainst, IsLinkedAgainst}
use Rattle.law_code.proofs.LinkAnswers.{some_value}
use Rattle.law_code.proofs.Lists.{IfThere}
use Rattle.law_code.specs.ReadPackages.{HasAppletComponent, HasClassComponent}
use Rattle.law_soundness.specs.Growth.{GrowthKeepsRead}
use Rattle.law_soundness.proofs.Prepares.{prepares}
use Rattle.law_soundness.proofs.GrowthRecords.{components_good, linked_onto}
use Rattle.law_soundness.proofs.GrowthTexts.{IsOfBytes}

each_behind : {A : Type 0} (P : A → Type 0) (xs : List A) (y : A) → ((i : ℕ) (x : A) → slice_get xs i ≡ Some x → P x) → P y → (i : ℕ) (x : A)
    → slice_get (xs ++ y ∷ []) i ≡ Some x → P x
each_behind P [] y each last zero x at = subst P (some_value y x at) last
each_behind P [] y each last (suc i) x at = absurd cc
each_behind P (z ∷ xs) y each last zero x at = each 0 x at
each_behind P (z ∷ xs) y each last (suc i) x at = each_behind P xs y (λ j. each (suc j)) last i x at

linked_behind : (cs : List LinkerComponents) (p all : Packages) (c : LinkerComponents) (q : PackageValue) → AreLinkedAgainst p cs all → IsLinkedAgainst all c q
    → AreLinkedAgainst p (cs ++ c ∷ []) (with_package all q)
linked_behind [] p all c q linked one = (q, subst (λ r. IsLinkedAgainst r c q) linked one, ap (λ r. with_package r q) linked)
linked_behind (d ∷ cs) p all c q linked one = (linked.0, linked.1, linked_behind cs (with_package p linked.0) all c q linked.2 one)

drop_all : (n : ℕ) (text : List ℕ) → All (λ b. b < 256) text → All (λ b. b < 256) (drop n text)
drop_all zero text all = all
drop_all (suc n) [] all = All-nil (λ b. b < 256)
drop_all (suc n) (b ∷ text) all = drop_all n text (All-tail (λ b. b < 256) b text all)

bytes_there : (o : Option (List ℕ)) → ((text : List ℕ) → o ≡ Some text → All (λ b. b < 256) text) → IfThere IsOfBytes o
bytes_there None bytes = tt
bytes_there (Some text) bytes = drop_all 3 text (bytes text refl)

pub growth_keeps_read : GrowthKeepsRead
growth_keeps_read cs p load q read applets bytes made =
    let i = prepares p load q made in
    let c = linker_view i.texts i.contents in
    let good = components_good p load q (bytes_there load.applets bytes) i in (
      c,
      record {
        names = read.names;
        bytes = read.bytes;
        classes = each_behind HasClassComponent cs c read.classes good.classes;
        linked = linked_behind cs (record p { loaded = [] }) p c q.linked read.linked (linked_onto p load q i good);
      },
      each_behind (λ (x : LinkerComponents). HasAppletComponent x.applets) cs c applets good.applets,
    )
