-- KeyPair: what its constructors are answered.
use Rattle.std.proofs.Common.{◌≡◌, ℤ, pos, List, Option, Some, None, Ok, refl, subst, arith}
use Rattle.jc_memory.specs.State.{MemoryState}
use Rattle.jc_platform.specs.Hierarchy.{cells_of, holds_reference, is_interface}
use Rattle.jc_platform.specs.Names.{classes}
use Rattle.jc_platform.specs.declared.names.PlatformClass.TheVariants as class
use Rattle.jc_linker.specs.Values.{Packages}
use Rattle.jc_frames.specs.declared.cell.Cell.{Cell}
use Rattle.jc_world.specs.Objects.{short_argument, some_or_fault}
use Rattle.jc_api.specs.Factory.{HasState}
use Rattle.jc_api.specs.Pairing.{HasStateIfNew}
use Rattle.jc_api.specs.declared.factory.NewEngine.{NewEngine}
use Rattle.jc_api.specs.declared.pairing.NewPair.{NewPair}
use Rattle.jc_api.proofs.Reaching.{err_not_ok, same_Ok}
use Rattle.jc_api.proofs.Stretches.{both_ok}
use Rattle.jc_api_keys.specs.KeyBuilder.{key_named}
use Rattle.jc_api_keys.specs.KeyObjects.Arguments.{key_argument}
use Rattle.jc_api_keys.specs.Receivers.{named_or_throw}
use Rattle.jc_api_keys.proofs.KeyClasses.{of_named}
use Rattle.jc_api_pairs.specs.KeyPair.{given_if, key_pair_init, key_pair_init_of_keys, keys_of_length, of_given_keys, of_new_keys}
use Rattle.jc_api_pairs.specs.KeyPair.Kinds.{kind_named, kind_of_keys, private_type, public_type}
use Rattle.jc_api_pairs.specs.declared.key_pair.kinds.PairKind.{PairKind}

-- a pair has a number and its keys
pub pairs_have_state : HasState class.KeyPair
unfolding is_interface cells_of holds_reference classes
pairs_have_state = record { instances = refl; cells = omega arith; number = refl; state = refl }

-- a pair of two new keys
pub record IsOfNewKeys (a : NewPair) : Type 0 where
  pub public : NewEngine
  pub private : NewEngine
  pub public_state : HasState public.class
  pub private_state : HasState private.class
  pub is : of_new_keys public private ≡ a

pub first_state : (a : NewPair) → IsOfNewKeys a → HasStateIfNew a.first
first_state a made = subst (λ (x : NewPair). HasStateIfNew x.first) made.is made.public_state

pub second_state : (a : NewPair) → IsOfNewKeys a → HasStateIfNew a.second
second_state a made = subst (λ (x : NewPair). HasStateIfNew x.second) made.is made.private_state

of_kind : (bits : ℤ) (p : Packages) (m : MemoryState) (kind : PairKind) (a : NewPair) → keys_of_length bits p m kind ≡ Ok a → IsOfNewKeys a
of_kind bits p m kind a is =
    let public = both_ok (key_named (public_type kind) bits (pos 0) p m) _ a is in
    let private = both_ok (key_named (private_type kind) bits (pos 0) p m) _ a public.2 in
    record {
      public = public.0;
      private = private.0;
      public_state = of_named (public_type kind) bits (pos 0) p m public.0 public.1;
      private_state = of_named (private_type kind) bits (pos 0) p m private.0 private.1;
      is = same_Ok (of_new_keys public.0 private.0) a private.2;
    }

pub made_pair : (args : List Cell) (p : Packages) (m : MemoryState) (a : NewPair) → key_pair_init args p m ≡ Ok a → IsOfNewKeys a
unfolding key_pair_init
made_pair args p m a is =
    let number = both_ok (some_or_fault (short_argument args 1)) _ a is in
    let bits = both_ok (some_or_fault (short_argument args 2)) _ a number.2 in
    let kind = both_ok (named_or_throw (kind_named number.0)) (keys_of_length bits.0 p m) a bits.2 in
    of_kind bits.0 p m kind.0 a kind.2

of_given : (kind : Option PairKind) (a : NewPair) → given_if kind ≡ Ok a → of_given_keys ≡ a
of_given (Some kind) a is = same_Ok of_given_keys a is
of_given None a is = absurd (err_not_ok is)

-- a pair of the keys among the arguments
pub given_pair : (args : List Cell) (p : Packages) (m : MemoryState) (a : NewPair) → key_pair_init_of_keys args p m ≡ Ok a → of_given_keys ≡ a
unfolding key_pair_init_of_keys
given_pair args p m a is =
    let public = both_ok (key_argument 1 args p m) _ a is in
    let private = both_ok (key_argument 2 args p m) _ a public.2 in
    of_given (kind_of_keys public.0 private.0) a private.2
