-- The forms of calls on a pair, of any class whose objects are pairs: what is to be shown of them, and that the calls of KeyPair have these forms.
use Rattle.std.proofs.Common.{◌≡◌, ◌+◌, ◌≤◌, ◌<◌, inl, inr, ℕ, zero, suc, pos, true, false, List, [], ◌∷◌, ◌++◌, length, map, None, Some, refl, arith}
use Rattle.std.specs.Prelude.{◌⊎◌}
use Rattle.jc_transient.specs.Cell.{number_of}
use Rattle.jc_transient.specs.declared.cell.ClearEvent.{ClearEvent}
use Rattle.jc_heap.specs.Heap.{facts}
use Rattle.jc_heap.specs.Moves.{SetPlaces}
use Rattle.jc_heap.specs.Place.{cell_changes}
use Rattle.jc_heap.specs.declared.object.Kind.TheVariants.{ByteArray}
use Rattle.jc_heap.specs.declared.place.Place.{Place}
use Rattle.jc_heap.specs.declared.place.Place.TheVariants as place
use Rattle.jc_firewall.specs.FirewallLaws.{IsInReach}
use Rattle.jc_memory.specs.Cells.{word_at}
use Rattle.jc_memory.specs.State.{Effect, HeapMove, MemoryState, SetTransient, apply_effect}
use Rattle.jc_platform.specs.NamePlaces.{class_word}
use Rattle.jc_platform.specs.Hierarchy.{cells_of, holds_reference}
use Rattle.jc_platform.specs.Names.{classes}
use Rattle.jc_platform.specs.Signatures.{sets_receiver}
use Rattle.jc_platform.specs.declared.names.PlatformClass.{PlatformClass}
use Rattle.jc_platform.specs.declared.names.PlatformClass.TheVariants.{KeyPair}
use Rattle.jc_platform.specs.declared.names.PlatformMethod.{PlatformMethod}
use Rattle.jc_linker.specs.Values.{Packages}
use Rattle.jc_frames.specs.declared.cell.Cell.{Cell}
use Rattle.jc_world.specs.Contexts.{situation_of}
use Rattle.jc_world.specs.Instances.{IsInstanceWith}
use Rattle.jc_world.specs.Objects.{is_instance_of}
use Rattle.jc_world.specs.declared.arrays.Stretch.{Stretch}
use Rattle.jc_api.specs.Factory.{HasState}
use Rattle.jc_api.specs.Pairing.{pair_cells}
use Rattle.jc_api.specs.declared.pairing.NewPair.{NewPair}
use Rattle.jc_api_pairs.proofs.PairingCalls.{IsReceiverOf, PairsSo}
use Rattle.jc_api_pairs.specs.KeyPair.{of_given_keys, of_new_keys}
use Rattle.jc_api_pairs.specs.KeyPair.Changes.{both_changes, counts_once, places_in, public_changes}
use Rattle.jc_api_pairs.proofs.KeyPairClasses.{pairs_have_state}
use Rattle.jc_api_pairs.proofs.PairPasses.{AreKeys, AreReached, IsOwnPair, PairPasses}

-- ---- classes

-- a class of pairs: it has a number first, and then two references
pub record IsPairClass (class : PlatformClass) : Type 0 where
  pub state : HasState class
  pub cells : pair_cells ≤ cells_of class
  pub number : holds_reference class 0 ≡ false
  pub named : (i : ℕ) → i ≤ 1 → holds_reference class (suc i) ≡ true

named_of_key_pair : (i : ℕ) → i ≤ 1 → holds_reference KeyPair (suc i) ≡ true
unfolding holds_reference classes
named_of_key_pair zero few = refl
named_of_key_pair (suc zero) few = refl
named_of_key_pair (suc (suc i)) few = absurd (omega (arith, few))

key_pairs : IsPairClass KeyPair
unfolding cells_of holds_reference classes
key_pairs = record { state = pairs_have_state; cells = omega arith; number = refl; named = named_of_key_pair }

-- ---- places

-- an element of a persistent array of bytes within reach
pub record IsReachedByte (p : Packages) (m : MemoryState) (r i : ℕ) : Type 0 where
  pub kind : (facts m.heap.now r).kind ≡ ByteArray
  pub event : (facts m.heap.now r).event ≡ None
  pub reach : IsInReach (situation_of p m (facts m.heap.now r))
  pub within : i < (facts m.heap.now r).length

-- the number of a persistent pair within reach
pub record IsPairNumber (p : Packages) (m : MemoryState) (r i : ℕ) : Type 0 where
  pub class : PlatformClass
  pub pairs : IsPairClass class
  pub there : IsInstanceWith m r pair_cells
  pub instance : is_instance_of p (facts m.heap.now r) (class_word p.platform class) ≡ true
  pub event : (facts m.heap.now r).event ≡ None
  pub reach : IsInReach (situation_of p m (facts m.heap.now r))
  pub first : i ≡ 0

-- the places of such a change are these
abbrev pub IsOfPair : Packages → MemoryState → Place → Type 0
IsOfPair p m (place.Cell r i) = IsReachedByte p m r i ⊎ IsPairNumber p m r i
IsOfPair p m (place.Static r j) = ⊥
IsOfPair p m (place.Registry i) = ⊥
IsOfPair p m place.AppletCount = ⊥

abbrev pub AreOfPairs : Packages → MemoryState → List (Place × ℕ) → Type 0
AreOfPairs p m [] = Unit {0}
AreOfPairs p m (c ∷ cs) = IsOfPair p m c.0 × AreOfPairs p m cs

-- ---- what is to be shown

-- such places may be set together, and elements of a transient array of bytes after them; the receiver of a constructor may name two objects; and so
-- it is of those that a pair names
pub record FormsPass (P : Effect → MemoryState → Type 0) (L : MemoryState → ℕ → Type 0) (method : PlatformMethod) (args : List Cell) (p : Packages)
    (m : MemoryState) : Type 0 where
  pub places : (cs : List (Place × ℕ)) → AreOfPairs p m cs → P (HeapMove (SetPlaces cs)) m
  pub after : (cs : List (Place × ℕ)) → AreOfPairs p m cs → (e : Stretch) (bytes : List ℕ) → AreReached p m e bytes → (event : ClearEvent)
      → (facts m.heap.now e.array).event ≡ Some event → P (SetTransient e.array e.start (map number_of bytes)) (apply_effect (HeapMove (SetPlaces cs)) m)
  pub names : sets_receiver method ≡ true → (a : NewPair) → IsPairClass a.class → a.number ≡ pos 0 → PairsSo P args p a m
  pub named : (class : PlatformClass) → IsPairClass class → (i own : ℕ) → i ≤ 1 → IsReceiverOf class (suc i + 1) args p m own
      → (facts m.heap.now own).event ≡ None → L m (word_at m own (suc i))

-- ---- the calls of KeyPair

module _ (p : Packages) (m : MemoryState) where
  all_of_pair : (e : Stretch) (bytes : List ℕ) → AreReached p m e bytes → (facts m.heap.now e.array).event ≡ None → (rest : List (Place × ℕ))
      → AreOfPairs p m rest → (i : ℕ) (vs : List ℕ) → i + length vs ≤ e.start + length bytes → AreOfPairs p m (cell_changes e.array i vs ++ rest)
  all_of_pair e bytes is event rest so i [] few = so
  all_of_pair e bytes is event rest so i (v ∷ vs) few = (
    inl (record { kind = is.kind; event = event; reach = is.reach; within = let all = is.within in omega (arith, all, few) }),
    all_of_pair e bytes is event rest so (suc i) vs (omega (arith, few)),
  )

  elements_and : (e : Stretch) (bytes : List ℕ) → AreReached p m e bytes → (facts m.heap.now e.array).event ≡ None → (rest : List (Place × ℕ))
      → AreOfPairs p m rest → AreOfPairs p m (places_in e bytes ++ rest)
  elements_and e bytes is event rest so = all_of_pair e bytes is event rest so e.start bytes (omega arith)

  count_of_pair : (own : ℕ) → IsOwnPair p m own → AreOfPairs p m (counts_once m own)
  count_of_pair own is = (
    inr (record {
      class = KeyPair;
      pairs = key_pairs;
      there = is.there;
      instance = is.instance;
      event = is.event;
      reach = is.reach;
      first = refl;
    }),
    tt,
  )

  public_of_pair : (own : ℕ) (public : Stretch) (bytes : List ℕ) (private : Stretch) (number : List ℕ) → AreKeys p m own public bytes private number
      → AreOfPairs p m (public_changes m own public bytes)
  public_of_pair own public bytes private number are = elements_and public bytes are.public are.event (counts_once m own) (count_of_pair own are.pair)

  both_of_pair : (own : ℕ) (public : Stretch) (bytes : List ℕ) (private : Stretch) (number : List ℕ) → AreKeys p m own public bytes private number
      → (facts m.heap.now private.array).event ≡ None → AreOfPairs p m (both_changes m own public bytes private number)
  both_of_pair own public bytes private number are event = elements_and public bytes are.public are.event _
      (elements_and private number are.private event (counts_once m own) (count_of_pair own are.pair))

  module _ (P : Effect → MemoryState → Type 0) (L : MemoryState → ℕ → Type 0) (method : PlatformMethod) (args : List Cell) where
    -- what is shown of the forms is so of the calls
    pub of_forms : FormsPass P L method args p m → PairPasses P L method args p m
    of_forms forms = record {
      both = λ own public bytes private number are event. forms.places _ (both_of_pair own public bytes private number are event);
      public = λ own public bytes private number are. forms.places _ (public_of_pair own public bytes private number are);
      private = λ own public bytes private number are event kept.
          forms.after _ (public_of_pair own public bytes private number are) private number are.private event kept;
      given = λ sets. forms.names sets of_given_keys key_pairs refl;
      new = λ sets public private. forms.names sets (of_new_keys public private) key_pairs refl;
      keys = λ i own few is event. forms.named KeyPair key_pairs i own few is event;
    }
