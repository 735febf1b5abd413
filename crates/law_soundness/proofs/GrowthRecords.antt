-- Packages that a heap's records are linked to.
use Rattle.std.proofs.Common.{◌≡◌, ℕ, suc, ◌<◌, List, [], ◌∷◌, Option, Some, None, Result, Ok, Err, length, map, get_or, refl, sym, ap, subst, ◌∙◌, arith}
use Rattle.std.specs.Prelude.{slice_get}
use Rattle.std.specs.Option.{option_and_then}
use Rattle.jc_heap.specs.Component.{record_of}
use Rattle.jc_heap.specs.Heap.{HeapState}
use Rattle.jc_platform.specs.Platform.{TellNames}
use Rattle.jc_platform.proofs.NamesTold.{names_told}
use Rattle.jc_linker.specs.Values.{Packages}
use Rattle.jc_cap.specs.declared.texts.LoadedComponents.{LoadedComponents}
use Rattle.jc_linker.specs.Values.{LinkerComponents}
use Rattle.jc_linker.specs.Linking.{with_package}
use Rattle.jc_packages.specs.PendingPackages.{PendingPackageValue, linked_components}
use Rattle.jc_packages.specs.Reading.{load_of, packages_of, with_prepared, with_records}
use Rattle.jc_packages.specs.LinkerView.{linker_view}
use Rattle.jc_packages.specs.declared.load_refusal.LoadRefusal.{LoadRefusal}
use Rattle.law_code.specs.LinkedPackages.{AreLinkedAgainst, IsLinkedAgainst}
use Rattle.law_code.proofs.LinkAnswers.{some_value}
use Rattle.law_code.proofs.Lists.{AllOf, IfThere, all_at}
use Rattle.law_code.specs.ReadPackages.{HasAppletComponent, HasByteTokens, HasClassComponent}
use Rattle.law_soundness.specs.GrowthLaws.{AreWords, RecordsAreRead}
use Rattle.law_soundness.proofs.Prepares.{IsPrepared, prepares}
use Rattle.law_soundness.proofs.GrowthTexts.{IsOfBytes, applet_component, applets_said, assembled_applets, class_component, few_classes, text_bytes}

-- class records and applets of components
pub record IsOfComponents (c : LinkerComponents) : Type 0 where
  pub classes : HasClassComponent c
  pub applets : HasAppletComponent c.applets

-- packages of such components are linked onto these
pub record IsReadOnto (p all : Packages) : Type 0 where
  pub components : List LinkerComponents
  pub linked : AreLinkedAgainst p components all
  pub good : AllOf IsOfComponents components
  pub platform : all.platform ≡ p.platform

then_some : {A B : Type 0} (f : A → Option B) (o : Option A) (r : B) → option_and_then f o ≡ Some r → (x : A) × (o ≡ Some x) × (f x ≡ Some r)
then_some f None r e = absurd cc
then_some f (Some x) r e = (x, refl, e)

prepared_some : (p all : Packages) (r : Result PendingPackageValue LoadRefusal) → with_prepared p r ≡ Some all
    → (x : PendingPackageValue) × (r ≡ Ok x) × (with_package p x.linked ≡ all)
prepared_some p all (Err why) e = absurd cc
prepared_some p all (Ok x) e = (x, refl, some_value (with_package p x.linked) all e)

pub components_good : (p : Packages) (load : LoadedComponents) (x : PendingPackageValue) → IfThere IsOfBytes load.applets → (i : IsPrepared p load x.linked)
    → IsOfComponents (linker_view i.texts i.contents)
components_good p load x bytes i =
    let classes = class_component load i.texts i.contents i.assembles i.reads in
    record {
      classes = (i.contents.header.format, classes.0, classes.1);
      applets = applet_component i.texts.applets i.contents.applets (subst (IfThere IsOfBytes) (assembled_applets load i.texts i.assembles) bytes)
          (applets_said i.texts i.contents i.reads);
    }

pub linked_onto : (p : Packages) (load : LoadedComponents) (x : PendingPackageValue) (i : IsPrepared p load x.linked)
    → IsOfComponents (linker_view i.texts i.contents) → IsLinkedAgainst p (linker_view i.texts i.contents) x.linked
linked_onto p load x i good =
    let few = few_classes good.classes.0 i.contents.classes good.classes.1 good.classes.2 in
    (i.few, omega (arith, few), i.links)

read_onto : (rs : List (List ℕ)) (p all : Packages) → AllOf AreWords rs → with_records p rs ≡ Some all → IsReadOnto p all
read_onto [] p all small e =
    let same : p ≡ all = some_value p all e in
    record { components = []; linked = sym same; good = tt; platform = ap (λ (x : Packages). x.platform) (sym same) }
read_onto (words ∷ rs) p all small e =
    let s = then_some (λ r. with_records r rs) (with_prepared p (linked_components p (load_of words))) all e in
    let x = prepared_some p s.0 (linked_components p (load_of words)) s.1 in
    let i = prepares p (load_of words) x.0 x.1 in
    let c = linker_view i.texts i.contents in
    let rest = read_onto rs (with_package p x.0.linked) all small.1 (ap (λ r. with_records r rs) x.2 ∙ s.2) in
    let good = components_good p (load_of words) x.0 (text_bytes words 3 small.0) i in
    record {
      components = c ∷ rest.components;
      linked = (x.0.linked, linked_onto p (load_of words) x.0 i good, rest.linked);
      good = (good, rest.good);
      platform = rest.platform;
    }

records_small : (h : HeapState) (ps : List ℕ) → ((k : ℕ) → k < length ps → AreWords (record_of h (get_or ps k 0))) → AllOf AreWords (map (record_of h) ps)
records_small h [] small = tt
records_small h (at ∷ ps) small = (small 0 (omega arith), records_small h ps (λ k lt. small (suc k) (omega (arith, lt))))

pub records_are_read : RecordsAreRead
unfolding packages_of
records_are_read text t h p reads bytes small is =
    let r = read_onto (map (record_of h) h.packages) (record { platform = t; loaded = [] }) p (records_small h h.packages small) is in
    let each : (i : ℕ) (c : LinkerComponents) → slice_get r.components i ≡ Some c → IsOfComponents c =
    λ i c at. subst (IfThere IsOfComponents) at (all_at IsOfComponents r.components i r.good) in (
      r.components,
      record {
        names = subst TellNames (sym r.platform) (names_told text t reads);
        bytes = subst HasByteTokens (sym r.platform) bytes;
        classes = λ i c at. (each i c at).classes;
        linked = subst (λ s. AreLinkedAgainst (record { platform = s; loaded = [] }) r.components p) (sym r.platform) r.linked;
      },
      λ i c at. (each i c at).applets,
    )
