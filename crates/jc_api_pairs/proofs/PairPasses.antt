-- What is to be shown of something that is to hold of each effect of a call on a pair, beside what other calls have; and what calls do that make new
-- keys of a pair.
use Rattle.std.proofs.Common.{◌≡◌, ◌∙◌, ◌+◌, ◌≤◌, ℕ, suc, pos, Bool, true, false, List, length, map, Option, Some, None, Result, Ok, refl, ap, subst, sym}
use Rattle.std.proofs.lemmas.Bool.{and_parts, eq-eqb, false≢true}
use Rattle.std.proofs.lemmas.Option.{same_Some}
use Rattle.std.specs.Prelude.{◌==◌, is_none, not}
use Rattle.jc_transient.specs.Cell.{number_of}
use Rattle.jc_transient.specs.declared.cell.ClearEvent.{ClearEvent}
use Rattle.jc_heap.specs.Heap.{facts}
use Rattle.jc_heap.specs.Moves.{SetPlaces, refusal_of_places}
use Rattle.jc_heap.specs.Place.{places_of}
use Rattle.jc_heap.specs.declared.object.Kind.TheVariants.{ByteArray}
use Rattle.jc_firewall.specs.FirewallLaws.{IsInReach}
use Rattle.jc_firewall.specs.declared.access.Access.TheVariants.{InstanceField}
use Rattle.jc_memory.specs.Cells.{word_at}
use Rattle.jc_memory.specs.State.{Effect, HeapMove, MemoryState, SetTransient, apply_effect}
use Rattle.jc_platform.specs.NamePlaces.{class_word}
use Rattle.jc_platform.specs.Signatures.{sets_receiver}
use Rattle.jc_platform.specs.declared.names.PlatformClass.TheVariants.{KeyPair}
use Rattle.jc_platform.specs.declared.names.PlatformMethod.{PlatformMethod}
use Rattle.jc_linker.specs.Values.{Packages}
use Rattle.jc_frames.specs.declared.cell.Cell.{Cell}
use Rattle.jc_frames.specs.declared.outcome.FrameExit.{FrameExit}
use Rattle.jc_world.specs.Contexts.{firewall_check, situation_of}
use Rattle.jc_world.specs.Instances.{IsInstanceWith}
use Rattle.jc_world.specs.Objects.{check_or_fault, is_instance_of}
use Rattle.jc_world.specs.declared.arrays.Stretch.{Stretch}
use Rattle.jc_api.specs.Exits.{plainly}
use Rattle.jc_api.specs.Forms.{Output}
use Rattle.jc_api.specs.Keeping.{persistent_called}
use Rattle.jc_api.specs.Pairing.{pair_cells}
use Rattle.jc_api.specs.declared.factory.NewEngine.{NewEngine}
use Rattle.jc_api.proofs.Due.{IsPlainCall, called_ok, called_unless}
use Rattle.jc_api.proofs.Exits.{FaultsOnly, plain_check, plain_firewall, plain_then}
use Rattle.jc_api.proofs.Forms.{at_is}
use Rattle.jc_api_pairs.proofs.PairingCalls.{IsReceiverOf, PairsSo, persistent_is, plain_persistent}
use Rattle.jc_api.proofs.Plain.{at_faults, plainly_faults}
use Rattle.jc_api.proofs.Reaching.{err_not_ok, field_allowed, same_Ok}
use Rattle.jc_api.proofs.Stretches.{both_ok}
use Rattle.jc_api_pairs.specs.KeyPair.{of_given_keys, of_new_keys}
use Rattle.jc_api_pairs.specs.KeyPair.Changes.{PairChange, are_two, both_changes, elements_of_output, generating_call, public_changes, sets_keys_in}
use Rattle.jc_api_pairs.specs.KeyPair.Keys.{own_if, own_pair}

-- a persistent pair within reach
pub record IsOwnPair (p : Packages) (m : MemoryState) (own : ℕ) : Type 0 where
  pub there : IsInstanceWith m own pair_cells
  pub instance : is_instance_of p (facts m.heap.now own) (class_word p.platform KeyPair) ≡ true
  pub event : (facts m.heap.now own).event ≡ None
  pub reach : IsInReach (situation_of p m (facts m.heap.now own))

-- elements of an array of bytes within reach, for these bytes
pub record AreReached (p : Packages) (m : MemoryState) (e : Stretch) (bytes : List ℕ) : Type 0 where
  pub kind : (facts m.heap.now e.array).kind ≡ ByteArray
  pub reach : IsInReach (situation_of p m (facts m.heap.now e.array))
  pub within : e.start + length bytes ≤ (facts m.heap.now e.array).length

-- the data of two keys may be set, those of the public one in a persistent array, and the number of a pair
pub record AreKeys (p : Packages) (m : MemoryState) (own : ℕ) (first : Stretch) (bytes : List ℕ) (second : Stretch) (number : List ℕ) : Type 0 where
  pub pair : IsOwnPair p m own
  pub public : AreReached p m first bytes
  pub private : AreReached p m second number
  pub apart : first.array ≡ second.array → ⊥
  pub event : (facts m.heap.now first.array).event ≡ None

-- they may be set together, or those of a transient private key after the others; the receiver of a constructor may name two keys, given or new; and
-- so it is of the keys that a pair names
pub record PairPasses (P : Effect → MemoryState → Type 0) (L : MemoryState → ℕ → Type 0) (method : PlatformMethod) (args : List Cell) (p : Packages)
    (m : MemoryState) : Type 0 where
  pub both : (own : ℕ) (public : Stretch) (bytes : List ℕ) (private : Stretch) (number : List ℕ) → AreKeys p m own public bytes private number
      → (facts m.heap.now private.array).event ≡ None → P (HeapMove (SetPlaces (both_changes m own public bytes private number))) m
  pub public : (own : ℕ) (public : Stretch) (bytes : List ℕ) (private : Stretch) (number : List ℕ) → AreKeys p m own public bytes private number
      → P (HeapMove (SetPlaces (public_changes m own public bytes))) m
  pub private : (own : ℕ) (public : Stretch) (bytes : List ℕ) (private : Stretch) (number : List ℕ) → AreKeys p m own public bytes private number
      → (event : ClearEvent) → (facts m.heap.now private.array).event ≡ Some event
      → P (SetTransient private.array private.start (map number_of number)) (apply_effect (HeapMove (SetPlaces (public_changes m own public bytes))) m)
  pub given : sets_receiver method ≡ true → PairsSo P args p of_given_keys m
  pub new : sets_receiver method ≡ true → (public private : NewEngine) → PairsSo P args p (of_new_keys public private) m
  pub keys : (i own : ℕ) → i ≤ 1 → IsReceiverOf KeyPair (suc i + 1) args p m own → (facts m.heap.now own).event ≡ None → L m (word_at m own (suc i))

-- ---- what the checks give

none_is : {A : Type 0} (o : Option A) → is_none o ≡ true → o ≡ None
none_is None e = refl
none_is (Some a) e = absurd (false≢true e)

pub two_are : (m : MemoryState) (first second : ℕ) → check_or_fault (are_two m first second) ≡ Ok tt → (first ≡ second → ⊥) × ((facts m.heap.now first).event ≡ None)
two_are m first second fine = by (are_two m first second) refl fine
  where
    by : (b : Bool) → are_two m first second ≡ b → check_or_fault b ≡ Ok tt → (first ≡ second → ⊥) × ((facts m.heap.now first).event ≡ None)
    by true is fine =
        let parts = and_parts (not (first == second)) _ is in
        (λ same. false≢true (sym (ap not (eq-eqb first second same)) ∙ parts.0), none_is (facts m.heap.now first).event parts.1)
    by false is fine = absurd (err_not_ok fine)

module _ (args : List Cell) (p : Packages) (m : MemoryState) where
  plain_own : FaultsOnly (own_pair args p m)
  unfolding own_pair
  plain_own = plain_then (persistent_called KeyPair pair_cells args p m) _ (plain_persistent KeyPair pair_cells args p m) (λ own.
      plain_then (firewall_check InstanceField p m (facts m.heap.now own)) _ (plain_firewall InstanceField p m (facts m.heap.now own)) (λ u. tt))

  own_is : (own : ℕ) → own_pair args p m ≡ Ok own → IsOwnPair p m own
  unfolding own_pair
  own_is own e =
      let first = both_ok (persistent_called KeyPair pair_cells args p m) (own_if p m) own e in
      let is = persistent_is KeyPair pair_cells args p m first.0 first.1 in
      let allowed = both_ok (firewall_check InstanceField p m (facts m.heap.now first.0)) _ own first.2 in
      subst (IsOwnPair p m) (same_Ok first.0 own allowed.2)
      (record { there = (is.0).there; instance = (is.0).instance; event = is.1; reach = field_allowed p m (facts m.heap.now first.0) allowed.1 })

reached : (p : Packages) (m : MemoryState) (o : Output) (e : Stretch) → elements_of_output p m o ≡ Ok e → AreReached p m e o.bytes
reached p m o e fine =
    let is = at_is p m o e fine in
    let counted = same_Some (length o.bytes) e.count (is.0).counted in
    subst (λ r. (facts m.heap.now r).kind ≡ ByteArray → IsInReach (situation_of p m (facts m.heap.now r)) → e.start + e.count ≤ (facts m.heap.now r).length
    → AreReached p m e o.bytes) (is.0).array (λ kind reach within. record {
      kind = kind;
      reach = reach;
      within = subst (λ n. e.start + n ≤ (facts m.heap.now e.array).length) (sym counted) within;
    }) is.1 (is.0).reach (is.0).within

-- ---- the call

module _ (P : Effect → MemoryState → Type 0) (L : MemoryState → ℕ → Type 0) (method : PlatformMethod) (args : List Cell) (p : Packages) (m : MemoryState)
    (pass : PairPasses P L method args p m) where
  keys_due : (own : ℕ) (public : Stretch) (bytes : List ℕ) (private : Stretch) (number : List ℕ) → AreKeys p m own public bytes private number
      → (event : Option ClearEvent) → (facts m.heap.now private.array).event ≡ event
      → IsPlainCall P L (sets_keys_in event m own public bytes private number) m
  keys_due own public bytes private number are None event = called_unless P L m (refusal_of_places m.heap (places_of (both_changes m own public bytes private number))) _
      (λ room. (pass.both own public bytes private number are event, tt))
  keys_due own public bytes private number are (Some kept) event = called_unless P L m (refusal_of_places m.heap (places_of (public_changes m own public bytes))) _
      (λ room. (pass.public own public bytes private number are, (pass.private own public bytes private number are kept event, tt)))

  -- each effect of a call that makes new keys of a pair is due, and it answers plainly
  pub generating_due : (answer : Result PairChange FrameExit) → IsPlainCall P L (generating_call answer args p m) m
  generating_due answer = called_ok P L m (plainly answer) _ (plainly_faults answer) (λ a fine.
      called_ok P L m (own_pair args p m) _ (plain_own args p m) (λ own own_fine.
      called_ok P L m (elements_of_output p m a.public) _ (at_faults p m a.public.array a.public.start (pos (length a.public.bytes))) (λ public public_fine.
      called_ok P L m (elements_of_output p m a.private) _ (at_faults p m a.private.array a.private.start (pos (length a.private.bytes))) (λ private private_fine.
      called_ok P L m (check_or_fault (are_two m public.array private.array)) _ (plain_check (are_two m public.array private.array)) (λ u two.
      let apart = two_are m public.array private.array two in
      keys_due own public a.public.bytes private a.private.bytes (record {
        pair = own_is args p m own own_fine;
        public = reached p m a.public public public_fine;
        private = reached p m a.private private private_fine;
        apart = apart.0;
        event = apart.1;
      }) (facts m.heap.now private.array).event refl)))))
