-- Whole commands keep the order of transactions.
use Rattle.std.proofs.Common.{◌≡◌, ℕ, zero, suc, ◌==◌, ◌<◌, nat_le, Bool, true, false, inl, inr, List, [], ◌∷◌, Some, None, refl, ◌∙◌, ap, arith, if◌then◌else◌}
use Rattle.std.proofs.lemmas.Bool.{and_from, and_parts, eqb-true, le-leb}
use Rattle.std.specs.Prelude.{is_none, slice_index}
use Rattle.jc_heap.specs.declared.object.Kind.{Kind}
use Rattle.jc_heap.specs.declared.object.Kind.TheVariants.{Instance, ByteArray}
use Rattle.jc_heap.specs.Object.{AnObject, APackage, Item, facts_of, is_object, kind_number}
use Rattle.jc_heap.specs.Heap.{IsObject, cells, facts, heap_item_at}
use Rattle.jc_heap.specs.Moves.{WriteNonAtomic, AddPackage, Begin, Commit, Abort}
use Rattle.jc_memory.specs.Cells.{header_at}
use Rattle.jc_memory.specs.Reading.{AllEffectsDue, HasTracePrefix}
use Rattle.jc_memory.specs.State.{MemoryState, Effect, HeapMove, apply_effect}
use Rattle.jc_linker.specs.Values.{Packages}
use Rattle.jc_platform.specs.Tokens.{Tokens}
use Rattle.jc_platform.specs.declared.names.PlatformClass.TheVariants.{OwnerPin}
use Rattle.jc_environment.specs.Pins.{has_value, is_persistent_with, is_pin, record_of as pin_of}
use Rattle.jc_packages.specs.Objects.{is_bytes, is_instance}
use Rattle.jc_linker.specs.Classes.{is_a}
use Rattle.jc_card.specs.Answers.{exchange}
use Rattle.jc_card.specs.Card.{CardState}
use Rattle.law_code.specs.Orderly.{KeepsTransactionOrder}
use Rattle.law_code.proofs.AtomicEffects.{due_begun}
use Rattle.law_soundness.specs.MachineLaws.Commands.{IsServed}
use Rattle.law_soundness.specs.MemoryLaws.Fit.{IsPinObject}
use Rattle.law_soundness.specs.MemoryLaws.State.{IsSoundMemory}
use Rattle.law_soundness.proofs.CommandEffects.{serving_keeps}
use Rattle.law_soundness.specs.LoadedPackages.{AreBytes}
use Rattle.law_theorems.specs.Cards.{IsOwnCard}
use Rattle.law_theorems.proofs.EffectWords.{is_value, when_not, word_is}
use Rattle.law_theorems.proofs.ServedEffects.{AddsPackage, IsFine, commands_fine}

-- ---- the object that fits is a PIN

instance_number : (kind : Kind) → is_instance kind ≡ true → (kind_number kind == kind_number Instance) ≡ true
instance_number Instance is = refl
instance_number _ is = absurd cc

bytes_number : (kind : Kind) → is_bytes kind ≡ true → (kind_number kind == kind_number ByteArray) ≡ true
bytes_number ByteArray is = refl
bytes_number _ is = absurd cc

bytes_there : (t : Item) → is_bytes (facts_of t).kind ≡ true → is_object t ≡ true
bytes_there (AnObject o) is = refl
bytes_there (APackage words) is = absurd cc

header_there : (m : MemoryState) (r : ℕ) → IsObject m.heap.now r → header_at m r ≡ Some (facts m.heap.now r)
header_there m r there = ap (λ b. if b then Some (facts m.heap.now r) else None) there

module _ (p : Packages) (m : MemoryState) (s : IsSoundMemory p m) (r : ℕ) (object : IsPinObject p m r) where
  itself : is_persistent_with Instance 5 (header_at m r) ≡ true
  itself =
      let f = facts m.heap.now r in
      let kept = and_parts (is_instance f.kind) (is_none f.event) object.kept in
      ap (is_persistent_with Instance 5) (header_there m r object.there)
      ∙ and_from (kind_number f.kind == kind_number Instance) _ (instance_number f.kind kept.0)
      (and_from (is_none f.event) _ kept.1 (le-leb 5 f.length object.long))

  short : nat_le (pin_of m r).length (pin_of m r).maximum ≡ true
  short =
      let held = cells m.heap.now r in
      let pins = when_not (is_a p (facts m.heap.now r).class OwnerPin) _ ((s.now.objects r object.behind object.there).values object.kept).pin object.pin in
      (λ t. nat_le (word_is p m s r 3 object.kept t) (word_is p m s r 1 object.kept t)) ∙ (and_parts (nat_le (slice_index held 3) (slice_index held 1)) _ pins).0

  valued : (b : Bool) → ((pin_of m r).maximum == 0) ≡ b
      → (if b then true else is_persistent_with ByteArray (pin_of m r).maximum (header_at m (pin_of m r).value)) ≡ true
  valued true none = refl
  valued false some =
      let v = (pin_of m r).value in
      let f = facts m.heap.now v in
      let array = is_value p m s r object (positive (pin_of m r).maximum some) in
      let bytes = and_parts (is_bytes f.kind) _ array in
      let long = and_parts (is_none f.event) (f.length == (pin_of m r).maximum) bytes.1 in
      ap (is_persistent_with ByteArray (pin_of m r).maximum) (header_there m v (bytes_there (heap_item_at m.heap.now v) bytes.0))
      ∙ and_from (kind_number f.kind == kind_number ByteArray) _ (bytes_number f.kind bytes.0)
      (and_from (is_none f.event) _ long.0 (le-leb (pin_of m r).maximum f.length (let e = eqb-true f.length (pin_of m r).maximum long.1 in omega (arith, e))))
    where
      positive : (n : ℕ) → (n == 0) ≡ false → 0 < n
      positive zero some = absurd cc
      positive (suc n) some = omega arith

  counts : is_pin m r ≡ true
  unfolding is_pin
  counts = (λ t. if itself t then has_value m (pin_of m r) else false)
      ∙ and_from (nat_le (pin_of m r).length (pin_of m r).maximum) _ short (valued ((pin_of m r).maximum == 0) refl)

-- ---- effects that are served keep the order

orderly : (p : Packages) (e : Effect) (m : MemoryState) → IsServed p e m → IsSoundMemory p m → KeepsTransactionOrder e m
orderly p (HeapMove (WriteNonAtomic place v)) m (inl fits) s = inl (fits.0, fits.1, counts p m s fits.0 fits.2)
orderly p (HeapMove (WriteNonAtomic place v)) m (inr element) s = inr element
orderly p (HeapMove Begin) m fits s = fits
orderly p (HeapMove Commit) m fits s = fits.0
orderly p (HeapMove Abort) m fits s = fits
orderly p e m fits s = tt

all_orderly : (p : Packages) (es : List Effect) (m : MemoryState) → AllEffectsDue (IsServed p) es m → IsSoundMemory p m
    → AllEffectsDue KeepsTransactionOrder es m
all_orderly p [] m due s = tt
all_orderly p (e ∷ es) m due s = (orderly p e m due.0 s, all_orderly p es (apply_effect e m) due.1 (serving_keeps.sound p e m due.0 s))

adds_orderly : (es : List Effect) (m : MemoryState) → AllEffectsDue AddsPackage es m → AllEffectsDue KeepsTransactionOrder es m
adds_orderly [] m due = tt
adds_orderly (HeapMove (AddPackage components arrays image) ∷ es) m due = (tt, adds_orderly es _ due.1)
adds_orderly (e ∷ es) m due = absurd due.0

pub commands_orderly : (t : Tokens) (card : CardState) → IsOwnCard t card → (bytes : List ℕ) (es : List Effect) → AreBytes bytes
    → HasTracePrefix (exchange bytes card) card.memory es → AllEffectsDue KeepsTransactionOrder es card.memory
commands_orderly t card own bytes es are begins = by (commands_fine t card own bytes are)
  where
    by : IsFine card.packages (exchange bytes card) card.memory → AllEffectsDue KeepsTransactionOrder es card.memory
    by (inl served) = all_orderly card.packages es card.memory (due_begun (IsServed card.packages) (exchange bytes card) card.memory es served begins)
        own.ready.sound
    by (inr adds) = adds_orderly es card.memory (due_begun AddsPackage (exchange bytes card) card.memory es adds begins)
