-- What is known of a package that was put together and linked.
use Rattle.std.proofs.Common.{◌≡◌, ℕ, ◌+◌, ◌*◌, ◌<◌, Bool, true, false, List, [], ◌∷◌, map, length, get_or, suc, refl, sym, ◌∙◌, ap, subst, arith, Result, Ok}
use Rattle.std.proofs.Common.{Err, if◌then◌else◌}
use Rattle.std.specs.Prelude.{is_some, nat_le}
use Rattle.jc_cap.specs.declared.static_arrays.ElementType.{ElementType}
use Rattle.jc_cap.specs.declared.static_arrays.ElementType.TheVariants.{Boolean, Byte, Short}
use Rattle.jc_cap.specs.StaticValues.{StaticArray}
use Rattle.jc_cap.specs.declared.texts.LoadedComponents.{LoadedComponents}
use Rattle.jc_cap.specs.declared.texts.PackageBytes.{PackageBytes}
use Rattle.jc_cap.specs.Assembling.{assembly_of, IsPackage}
use Rattle.jc_cap.specs.Contents.{PackageContents}
use Rattle.jc_cap.specs.PackageReading.{contents_of}
use Rattle.jc_cap.proofs.Named.{is_assembled}
use Rattle.jc_heap.specs.Package.{AreComponents, is_array_init}
use Rattle.jc_linker.specs.Lookups.{package_with_aid}
use Rattle.jc_linker.specs.Values.{PackageValue, Packages}
use Rattle.jc_linker.specs.Linking.{link_result}
use Rattle.law_code.proofs.LinkAnswers.{made}
use Rattle.jc_packages.specs.declared.load_refusal.LoadRefusal.{LoadRefusal}
use Rattle.jc_packages.specs.declared.load_refusal.LoadRefusal.TheVariants.{AidTaken, Full}
use Rattle.jc_packages.specs.RecordContents.{array_of, kind_of, parts_of, statics_of, zeros_of}
use Rattle.jc_packages.specs.PendingPackages.{PendingPackageValue, if_read, linked_components, linked_package}
use Rattle.jc_packages.specs.LinkerView.{linker_view}
use Rattle.jc_packages.proofs.Fit.{parts_fit}
use Rattle.jc_packages.proofs.StaticCells.{image_adds_up, statics_read}
use Rattle.jc_packages.proofs.RecordArrays.{AreInitial}
use Rattle.jc_packages.proofs.LoadImages.{AreTagged}
use Rattle.law_soundness.proofs.RecordPackages.{linked_ok, read_ok}

-- ---- what answered

abbrev IsOk : {A : Type 0} → Result A LoadRefusal → Type 0
IsOk (Ok x) = Unit {0}
IsOk (Err e) = ⊥

no_refusal : {A : Type 0} (e : LoadRefusal) (x : A) → Err e ≡ Ok x → ⊥
no_refusal e x is = subst IsOk (sym is) tt

abbrev value_or : {A : Type 0} → A → Result A LoadRefusal → A
value_or d (Ok x) = x
value_or d (Err e) = d

abbrev as_ok : {A : Type 0} → A → Result A LoadRefusal
as_ok x = Ok x

ok_value : {A : Type 0} (x y : A) → as_ok x ≡ as_ok y → x ≡ y
ok_value x y is = ap (value_or x) is

unless_ok : {A : Type 0} (b : Bool) (e : LoadRefusal) (r : Result A LoadRefusal) (y : A) → (if b then Err e else r) ≡ Ok y → r ≡ Ok y
unless_ok true e r y is = absurd (no_refusal e y is)
unless_ok false e r y is = is

-- its components are a package, and say what the linker got
pub record IsPrepared (p : Packages) (q : PendingPackageValue) : Type 0 where
  pub contents : PackageContents
  pub read : contents_of q.texts ≡ Ok contents
  pub links : link_result p (linker_view q.texts contents) ≡ Ok q.linked
  pub sound : IsPackage q.texts

of_contents : (p : Packages) (t : PackageBytes) (c : PackageContents) (q : PendingPackageValue) → linked_package p t c ≡ Ok q
    → (l : PackageValue) × (link_result p (linker_view t c) ≡ Ok l) × (q ≡ record { texts = t; linked = l })
unfolding linked_package
of_contents p t c q is =
    let first = unless_ok (is_some (package_with_aid p c.header.this_package.aid)) AidTaken _ q is in
    let second = unless_ok (nat_le 32 (length p.loaded)) Full _ q first in
    let l = linked_ok (link_result p (linker_view t c)) (λ x. Ok (record { texts = t; linked = x })) q second in
    (l.0, l.1, sym (ok_value (record { texts = t; linked = l.0 }) q l.2))

pub is_prepared : (p : Packages) (load : LoadedComponents) (q : PendingPackageValue) → linked_components p load ≡ Ok q → IsPrepared p q
unfolding linked_components
is_prepared p load q is =
    let t = read_ok (assembly_of load) (λ x. if_read (contents_of x) (λ c. linked_package p x c)) q is in
    let c = read_ok (contents_of t.0) (λ x. linked_package p t.0 x) q t.2 in
    let l = of_contents p t.0 c.0 q c.2 in
    subst (IsPrepared p) (sym l.2) (record { contents = c.0; read = c.1; links = l.1; sound = is_assembled load t.0 t.1 })

-- ---- its record

initial_kind : (e : ElementType) → is_array_init (kind_of e) ≡ true
initial_kind Boolean = refl
initial_kind Byte = refl
initial_kind Short = refl

pub initial_arrays : (xs : List StaticArray) → AreInitial (map array_of xs)
initial_arrays [] = tt
initial_arrays (a ∷ xs) = (initial_kind a.element_type, initial_arrays xs)

tagged : (cs : List (ℕ × List ℕ)) → ((k : ℕ) → k < length cs → 0 < (get_or cs k (0, [])).0) → AreTagged cs
tagged [] all = tt
tagged (c ∷ cs) all = (all 0 (omega arith), tagged cs (λ k lt. all (suc k) (omega arith)))

pub tagged_parts : (t : PackageBytes) → AreTagged (parts_of t)
tagged_parts t = let fit : AreComponents (parts_of t) = parts_fit t in tagged (parts_of t) (λ k lt. (fit.tags k lt).0)

pub some_parts : (t : PackageBytes) → 0 < length (parts_of t)
unfolding parts_of
some_parts t = omega arith

-- the linker got what the static image is
module _ (p : Packages) (q : PendingPackageValue) (is : IsPrepared p q) where
  pub image_size_is : q.linked.image_size ≡ (statics_of q.texts).image_size
  image_size_is = ap (λ v. v.image_size) (made p (linker_view q.texts is.contents) q.linked is.links).is
      ∙ ap (λ s. s.image_size) (sym (statics_read q.texts is.contents is.read))

  pub image_references_is : q.linked.image_references ≡ (statics_of q.texts).reference_count
  image_references_is = ap (λ v. v.image_references) (made p (linker_view q.texts is.contents) q.linked is.links).is
      ∙ ap (λ s. s.reference_count) (sym (statics_read q.texts is.contents is.read))

  pub adds_up : 2 * length (statics_of q.texts).arrays + (zeros_of (statics_of q.texts) + length (statics_of q.texts).non_default_values)
      ≡ (statics_of q.texts).image_size
  adds_up = image_adds_up q.texts is.sound
