-- A heap beside one more package.
use Rattle.std.proofs.Common.{◌≡◌, ℕ, ◌+◌, ◌<◌, ◌==◌, ◌&&◌, ◌||◌, true, length, refl, sym, ap, subst, ◌∙◌, arith, nat_le}
use Rattle.std.specs.Prelude.{not, slice_index}
use Rattle.std.proofs.lemmas.Bool.{and_parts}
use Rattle.jc_heap.specs.declared.object.Kind.{Kind}
use Rattle.jc_heap.specs.declared.object.Kind.TheVariants.{Instance, BooleanArray, ByteArray, ShortArray, ReferenceArray}
use Rattle.jc_heap.specs.Heap.{HeapState, cells, facts}
use Rattle.jc_platform.specs.declared.names.PlatformClass.{PlatformClass}
use Rattle.jc_platform.specs.declared.names.PlatformClass.TheVariants.{Aid, Applet, OwnerPin}
use Rattle.jc_platform.specs.NamePlaces.{class_word}
use Rattle.jc_linker.specs.Classes.{is_class, size_of, is_a}
use Rattle.jc_linker.specs.Resolve.{names_interface}
use Rattle.jc_linker.specs.Values.{PackageValue, Packages}
use Rattle.jc_linker.specs.Linking.{next_number, with_package}
use Rattle.jc_packages.specs.Objects.{HoldsValues, fits_class, has_value, is_instance, is_object_address}
use Rattle.jc_packages.specs.Sound.{HoldsStatics, IsRegistered, entry_word, package_record_at}
use Rattle.law_code.specs.ResolutionLaws.{ClassStays, Stays}
use Rattle.law_code.proofs.ResolutionLaws.{adding_keeps}
use Rattle.law_soundness.specs.MemoryLaws.State.{IsFitObject, IsSoundUpTo}
use Rattle.law_soundness.specs.Growth.{GrowthKeepsSound}
use Rattle.law_soundness.proofs.Names.{a_beside, class_beside}
use Rattle.law_soundness.proofs.Prepares.{prepares}

module _ (p : Packages) (q : PackageValue) (room : length p.loaded < 32) (stays : Stays p (with_package p q) (next_number p)) where
  abbrev more : Packages
  more = with_package p q

  class_stays : (w : ℕ) → is_class p w ≡ true → ClassStays p more w
  class_stays w there = stays.classes w (class_beside p room w there)

  is_a_still : (w : ℕ) (of : PlatformClass) → is_class p w ≡ true → is_a more w of ≡ is_a p w of
  is_a_still w of there = (class_stays w there).below (class_word p.platform of)

  -- an instance's class is there
  class_there : (kind : Kind) (w long : ℕ) → is_instance kind ≡ true → fits_class p kind w long ≡ true → is_class p w ≡ true
  class_there Instance w long e fits = (and_parts (is_class p w) _ fits).0
  class_there BooleanArray w long e fits = absurd cc
  class_there ByteArray w long e fits = absurd cc
  class_there ShortArray w long e fits = absurd cc
  class_there ReferenceArray w long e fits = absurd cc

  fits_still : (kind : Kind) (w long : ℕ) → fits_class p kind w long ≡ true → fits_class more kind w long ≡ true
  fits_still Instance w long fits =
      let s = class_stays w (and_parts (is_class p w) _ fits).0 in
      ap (λ b. b && (not (names_interface more w) && long == size_of more w)) s.there
      ∙ ap (λ b. is_class p w && (not b && long == size_of more w)) s.interface
      ∙ ap (λ n. is_class p w && (not (names_interface p w) && long == n)) s.size ∙ fits
  fits_still BooleanArray w long fits = refl
  fits_still ByteArray w long fits = refl
  fits_still ShortArray w long fits = refl
  fits_still ReferenceArray w long fits = (class_stays w fits).there ∙ fits

  module _ (most : ℕ) (h : HeapState) where
    holds_still : (r : ℕ) → is_class p (facts h r).class ≡ true → HoldsValues p h r → HoldsValues more h r
    holds_still r there holds =
        let w = (facts h r).class in
        record {
          references = λ i lt e. holds.references i lt (sym ((class_stays w there).references i) ∙ e);
          aid = ap (λ b. not b || nat_le (slice_index (cells h r) 0) 16) (is_a_still w Aid there) ∙ holds.aid;
          pin = ap (λ b. not b || (nat_le (slice_index (cells h r) 3) (slice_index (cells h r) 1) && has_value h (cells h r))) (is_a_still w OwnerPin there)
              ∙ holds.pin;
        }

    object_still : (r : ℕ) → IsFitObject most p h r → IsFitObject most more h r
    object_still r o =
        let f = facts h r in
        record {
          class = fits_still f.kind f.class f.length o.class;
          owner = o.owner;
          values = λ kept. holds_still r (class_there f.kind f.class f.length (and_parts (is_instance f.kind) _ kept).0 o.class) (o.values kept);
          cells = o.cells;
          small = o.small;
          persistent = o.persistent;
        }

    registered_still : (a : ℕ) → IsRegistered p h a → IsRegistered more h a
    registered_still a i =
        let w = (facts h (entry_word h a 2)).class in
        let stands_there = and_parts (is_object_address h (entry_word h a 2)) _ i.instance in
        let below = and_parts (is_instance (facts h (entry_word h a 2)).kind) (is_a p w Applet) stands_there.1 in
        record {
          aid = i.aid;
          number = i.number;
          instance = ap (λ b. is_object_address h (entry_word h a 2) && (is_instance (facts h (entry_word h a 2)).kind && b))
              ((stays.classes w (a_beside p room w Applet below.1)).below (class_word p.platform Applet)) ∙ i.instance;
        }

    pub sound_still : (own : ℕ) → length h.packages ≡ length p.loaded → IsSoundUpTo most p h own → IsSoundUpTo most more h own
    sound_still own loaded s = record {
      objects = λ r above there. object_still r (s.objects r above there);
      statics = λ k lt. subst (HoldsStatics h (package_record_at h k)) (sym (stays.packages (k + 1) (λ e. omega (arith, lt, loaded, e))).statics)
          (s.statics k lt);
      applets = λ a lt. registered_still a (s.applets a lt);
      distinct = s.distinct;
      aids = s.aids;
    }

pub growth_keeps : GrowthKeepsSound
growth_keeps cs most p load q h own linked made loaded s =
    let room = (prepares p load q made).few in
    sound_still p q.linked room (adding_keeps cs p q.linked linked room) most h own loaded s
