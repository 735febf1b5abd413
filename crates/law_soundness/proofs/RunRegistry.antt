-- The registry: an AID that no applet has is none of its AID objects'.
use Rattle.std.proofs.Common.{◌≡◌, ℕ, ◌+◌, ◌-◌, ◌*◌, ◌<◌, ◌≤◌, Bool, true, false, List, Option, Some, None, refl, sym, ◌∙◌, ap, subst, arith, if◌then◌else◌}
use Rattle.std.proofs.lemmas.Bool.{and_from, and_parts, both_ways, cond-true, eq-eqb, eqb-true, le-leb, leb-true, lt-ltb, true≢false}
use Rattle.std.proofs.lemmas.List.FromFn.{fill_by_all}
use Rattle.std.proofs.lemmas.Slice.Eq.{bytes_eq-Decides}
use Rattle.std.specs.Option.{option_and_then, option_map}
use Rattle.std.specs.Prelude.{◌==◌, is_some, min, nat_le, nat_lt, slice_index}
use Rattle.std.specs.Str.{bytes_eq}
use Rattle.jc_words.specs.Layout.{most_applets}
use Rattle.jc_heap.specs.Heap.{IsObject, cells, facts, heap_item_at}
use Rattle.jc_heap.specs.Object.{is_object}
use Rattle.jc_transient.specs.declared.owner.AppletNumber.{AppletNumber}
use Rattle.jc_memory.specs.State.{MemoryState}
use Rattle.jc_memory.specs.Cells.{word_at, word_in, words_at}
use Rattle.jc_linker.specs.Classes.{is_class, size_of}
use Rattle.jc_linker.specs.Values.{Packages}
use Rattle.jc_platform.specs.declared.names.PlatformClass.TheVariants.{Aid}
use Rattle.jc_platform.specs.NamePlaces.{class_word}
use Rattle.jc_platform.specs.Hierarchy.{cells_of, is_interface}
use Rattle.jc_platform.specs.Names.{classes}
use Rattle.jc_heap.specs.declared.object.Kind.TheVariants.{Instance}
use Rattle.jc_packages.specs.Objects.{fits_class, is_instance, is_persistent_instance, is_object_address}
use Rattle.jc_packages.specs.Sound.{aid_in, aid_of_entry, entry_word, holds_aid}
use Rattle.jc_environment.specs.Aid.{aid_at, aid_behind, aid_of_cells}
use Rattle.jc_environment.specs.Registry.{applet_count, applet_entry, applet_with_aid, aid_of_applet, first_with_aid, has_aid, is_aid, is_applet}
use Rattle.law_code.specs.Classes.{KnowsClasses}
use Rattle.law_soundness.specs.MemoryLaws.State.{IsSoundMemory}
use Rattle.law_soundness.proofs.RunObjects.{instance_kind, kept_behind}
use Rattle.law_soundness.proofs.RunCells.{aid_of, none_found}
use Rattle.law_soundness.proofs.Values.{none_of}

numbered : ℕ → AppletNumber
numbered n = record { 0 = n }

no_applet : (o : Option ℕ) → is_some (option_map numbered o) ≡ false → o ≡ None
unfolding numbered
no_applet None e = refl
no_applet (Some n) e = absurd cc

module _ (p : Packages) (m : MemoryState) (known : KnowsClasses p) (sound : IsSoundMemory p m) where
  -- the AID object of an applet has its nine cells
  module _ (r : ℕ) (there : IsObject m.heap.now r) (holds : holds_aid p (facts m.heap.now r) (cells m.heap.now r) ≡ true) where
    kept : is_persistent_instance (facts m.heap.now r) ≡ true
    kept = (and_parts (is_persistent_instance (facts m.heap.now r)) _ holds).0

    is_aid_class : (facts m.heap.now r).class ≡ class_word p.platform Aid
    is_aid_class = eqb-true (facts m.heap.now r).class (class_word p.platform Aid)
        (and_parts ((facts m.heap.now r).class == class_word p.platform Aid) _ (and_parts (is_persistent_instance (facts m.heap.now r)) _ holds).1).0

    short : slice_index (cells m.heap.now r) 0 ≤ 16
    short = leb-true (slice_index (cells m.heap.now r) 0) 16 (and_parts (nat_le 5 (slice_index (cells m.heap.now r) 0)) _
        (and_parts ((facts m.heap.now r).class == class_word p.platform Aid) _ (and_parts (is_persistent_instance (facts m.heap.now r)) _ holds).1).1).1

    no_event : (facts m.heap.now r).event ≡ None
    no_event = none_of (facts m.heap.now r).event (and_parts (is_instance (facts m.heap.now r).kind) _ kept).1

    has_nine : (facts m.heap.now r).length ≡ 9
    unfolding cells_of is_interface classes
    has_nine =
        let fit = sound.now.objects r (kept_behind p m sound r there kept) there in
        let instance = instance_kind (facts m.heap.now r).kind (and_parts (is_instance (facts m.heap.now r).kind) _ kept).0 in
        let whole : fits_class p Instance (facts m.heap.now r).class (facts m.heap.now r).length ≡ true =
        subst (λ k. fits_class p k (facts m.heap.now r).class (facts m.heap.now r).length ≡ true) instance fit.class in
        let one = and_parts (is_class p (facts m.heap.now r).class) _ whole in
        let two = and_parts _ ((facts m.heap.now r).length == size_of p (facts m.heap.now r).class) one.1 in
        eqb-true (facts m.heap.now r).length (size_of p (facts m.heap.now r).class) two.1 ∙ ap (size_of p) is_aid_class ∙ known.platform.exact Aid (known.platform.needed Aid refl)

    words_are : words_at m r 0 9 ≡ cells m.heap.now r
    words_are =
        let long = (sound.now.objects r (kept_behind p m sound r there kept) there).cells no_event in
        sym (fill_by_all (word_at m r) (cells m.heap.now r) 9 0 (long ∙ has_nine) (λ k lt. sym (ap (λ e. word_in e m r k) no_event)))

    behind_header : (b : Bool) → is_object (heap_item_at m.heap.now r) ≡ b → b ≡ true
        → aid_behind m r (if b then Some (facts m.heap.now r) else None) ≡ Some (aid_in (cells m.heap.now r))
    behind_header true is stood = cond-true ((facts m.heap.now r).length == 9) _ _ (eq-eqb (facts m.heap.now r).length 9 has_nine) ∙ ap aid_of_cells words_are
        ∙ aid_of (cells m.heap.now r) short
    behind_header false is stood = absurd (true≢false (sym stood))

    aid_read : aid_at m r ≡ Some (aid_in (cells m.heap.now r))
    aid_read = behind_header (is_object (heap_item_at m.heap.now r)) refl there

  same_bytes : (xs : List ℕ) → bytes_eq xs xs ≡ true
  same_bytes xs = (bytes_eq-Decides xs xs).1 refl

  entry_there : (a : ℕ) → a < m.heap.now.counts.1 → m.heap.now.counts.1 < most_applets → aid_of_applet m.heap.now (a + 1) ≡ Some (entry_word m.heap.now a 0)
  unfolding applet_entry
  entry_there a lt few =
      let least : a + 1 ≤ min m.heap.now.counts.1 most_applets = omega (arith, lt, few) in
      let is : is_applet m.heap.now (a + 1) ≡ true = and_from (nat_lt 0 (a + 1)) _ (lt-ltb 0 (a + 1) (omega arith))
      (le-leb (a + 1) (applet_count m.heap.now) least) in
      let place : 3 * (a + 1 - 1) + 0 ≡ 3 * a + 0 = omega arith in
      ap (option_map (λ e. e.aid)) (cond-true (is_applet m.heap.now (a + 1)) _ _ is) ∙ ap (λ n. Some (slice_index m.heap.now.applets n)) place

  -- where no applet has an AID, no AID object of the registry holds it
  pub unlike : (aid : List ℕ) (a : ℕ) → is_some (applet_with_aid m aid) ≡ false → m.heap.now.counts.1 < most_applets → a < m.heap.now.counts.1
      → aid_of_entry m.heap.now a ≡ aid → ⊥
  unfolding applet_with_aid numbered
  unlike aid a none few lt same =
      let r = entry_word m.heap.now a 0 in
      let parts = and_parts (is_object_address m.heap.now r) (holds_aid p (facts m.heap.now r) (cells m.heap.now r)) (sound.now.applets a lt).aid in
      let told : has_aid m aid (a + 1) ≡ true =
      ap (λ o. is_aid aid (option_and_then (λ x. aid_at m x) o)) (entry_there a lt few)
      ∙ ap (is_aid aid) (aid_read r parts.0 parts.1 ∙ ap Some same)
      ∙ same_bytes aid in
      let least : a + 1 < 1 + applet_count m.heap.now = omega (arith, lt, few) in
      both_ways (has_aid m aid (a + 1)) (none_found (λ k. has_aid m aid k) (applet_count m.heap.now) 1 (a + 1)
      (no_applet (first_with_aid m aid 1 (applet_count m.heap.now)) none) (omega arith) least) told
