-- As many packages are linked as a heap lists.
use Rattle.std.proofs.Common.{◌≡◌, ℕ, ◌+◌, List, [], ◌∷◌, ◌++◌, length, map, refl, Option, Some, None, Result, Ok, Err, ap, arith, length-append}
use Rattle.std.proofs.lemmas.List.{length-map}
use Rattle.std.specs.Option.{option_and_then}
use Rattle.jc_heap.specs.Component.{record_of}
use Rattle.jc_heap.specs.Heap.{HeapState}
use Rattle.jc_linker.specs.Values.{Packages}
use Rattle.jc_platform.specs.Tokens.{Tokens}
use Rattle.jc_packages.specs.PendingPackages.{PendingPackageValue, linked_components}
use Rattle.jc_packages.specs.Reading.{load_of, packages_of, with_prepared, with_records}
use Rattle.jc_packages.specs.declared.load_refusal.LoadRefusal.{LoadRefusal}

one_more : (p q : Packages) (r : Result PendingPackageValue LoadRefusal) → with_prepared p r ≡ Some q → length q.loaded ≡ length p.loaded + 1
one_more p q (Err e) h = absurd (let g : None ≡ Some q = h in cc)
one_more p q (Ok x) h =
    let same : record p { loaded = p.loaded ++ x.linked ∷ [] } ≡ q = (let g : Some (record p { loaded = p.loaded ++ x.linked ∷ [] }) ≡ Some q = h in cc) in
    omega (arith, ap (λ (y : Packages). length y.loaded) same, length-append p.loaded (x.linked ∷ []))

then_some : {A B : Type 0} (f : A → Option B) (o : Option A) (r : B) → option_and_then f o ≡ Some r → (x : A) × (o ≡ Some x) × (f x ≡ Some r)
then_some f None r e = absurd (let g : None ≡ Some r = e in cc)
then_some f (Some x) r e = (x, refl, e)

all_more : (p q : Packages) (ws : List (List ℕ)) → with_records p ws ≡ Some q → length q.loaded ≡ length p.loaded + length ws
all_more p q [] h = let same : p ≡ q = (let g : Some p ≡ Some q = h in cc) in omega (arith, ap (λ (y : Packages). length y.loaded) same)
all_more p q (w ∷ ws) h =
    let s = then_some (λ r. with_records r ws) (with_prepared p (linked_components p (load_of w))) q h in
    omega (arith, one_more p s.0 (linked_components p (load_of w)) s.1, all_more s.0 q ws s.2)

pub as_many : (t : Tokens) (h : HeapState) (q : Packages) → packages_of t h ≡ Some q → length q.loaded ≡ length h.packages
unfolding packages_of
as_many t h q linked = omega (
  arith,
  all_more (record { platform = t; loaded = [] }) q (map (record_of h) h.packages) linked,
  length-map h.packages (record_of h),
)
