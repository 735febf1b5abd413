-- The classes of key objects that calls make: each has a number and its data.
use Rattle.std.specs.Ordering.{int_eq}
use Rattle.std.specs.Prelude.{ℤ, pos}
use Rattle.std.proofs.Common.{◌≡◌, ℕ, List, Bool, true, false, Result, Ok, Err, refl, subst, arith, if◌then◌else◌}
use Rattle.jc_platform.specs.Hierarchy.{cells_of, holds_reference, is_interface}
use Rattle.jc_platform.specs.Names.{classes}
use Rattle.jc_frames.specs.declared.cell.Cell.{Cell}
use Rattle.jc_frames.specs.declared.outcome.FrameExit.{FrameExit}
use Rattle.jc_frames.specs.declared.outcome.FrameExit.TheVariants.{Throw}
use Rattle.jc_memory.specs.State.{MemoryState}
use Rattle.jc_linker.specs.Values.{Packages}
use Rattle.jc_world.specs.Answers.{and_then}
use Rattle.jc_world.specs.Objects.{short_argument, some_or_fault}
use Rattle.jc_api.specs.Factory.{HasState}
use Rattle.jc_api.specs.declared.factory.NewEngine.{NewEngine}
use Rattle.jc_api.proofs.Reaching.{err_not_ok, same_Ok}
use Rattle.jc_api.proofs.Stretches.{both_ok}
use Rattle.jc_api_keys.specs.Exceptions.{no_such_algorithm}
use Rattle.jc_api_keys.specs.KeyBuilder.{allowed_with, data_named, if_in_table, key_builder_build_key, key_named, new_key}
use Rattle.jc_api_keys.specs.KeyTypes.{key_class, key_type_named, pair_class, secret_class}
use Rattle.jc_api_keys.specs.Receivers.{named_or_throw}
use Rattle.jc_api_keys.specs.declared.key_types.KeyAlgorithm.{KeyAlgorithm}
use Rattle.jc_api_keys.specs.declared.key_types.KeyAlgorithm.TheVariants.{Aes, Des, Hmac}
use Rattle.jc_api_keys.specs.declared.key_types.KeyKind.{KeyKind}
use Rattle.jc_api_keys.specs.declared.key_types.KeyKind.TheVariants.{Secret, OfPair}
use Rattle.jc_api_keys.specs.declared.key_types.KeyType.{KeyType}
use Rattle.jc_api_keys.specs.declared.key_types.PairKey.{PairKey}
use Rattle.jc_api_keys.specs.declared.key_types.PairKey.TheVariants.{RsaPublic, RsaPrivate, RsaCrtPrivate, EcPublic, EcPrivate}

secrets_have_state : (a : KeyAlgorithm) → HasState (secret_class a)
unfolding is_interface cells_of holds_reference classes
secrets_have_state Des = record { instances = refl; cells = omega arith; number = refl; state = refl }
secrets_have_state Aes = record { instances = refl; cells = omega arith; number = refl; state = refl }
secrets_have_state Hmac = record { instances = refl; cells = omega arith; number = refl; state = refl }

pairs_have_state : (k : PairKey) → HasState (pair_class k)
unfolding is_interface cells_of holds_reference classes
pairs_have_state RsaPublic = record { instances = refl; cells = omega arith; number = refl; state = refl }
pairs_have_state RsaPrivate = record { instances = refl; cells = omega arith; number = refl; state = refl }
pairs_have_state RsaCrtPrivate = record { instances = refl; cells = omega arith; number = refl; state = refl }
pairs_have_state EcPublic = record { instances = refl; cells = omega arith; number = refl; state = refl }
pairs_have_state EcPrivate = record { instances = refl; cells = omega arith; number = refl; state = refl }

pub keys_have_state : (kind : KeyKind) → HasState (key_class kind)
keys_have_state (Secret a) = secrets_have_state a
keys_have_state (OfPair k) = pairs_have_state k

if_made : (b : Bool) (number : ℤ) (t : KeyType) (n : ℕ) (m : MemoryState) (e : NewEngine)
    → ◌≡◌ {A = Result NewEngine FrameExit} (if b then and_then (allowed_with t.event m) (λ u. Ok (new_key number t n)) else Err (Throw no_such_algorithm)) (Ok e)
    → HasState e.class
if_made true number t n m e is =
    let allowed = both_ok (allowed_with t.event m) _ e is in
    subst (λ (x : NewEngine). HasState x.class) (same_Ok (new_key number t n) e allowed.2) (keys_have_state t.kind)
if_made false number t n m e is = absurd (err_not_ok is)

-- what is made of a type and a length is of such a class
pub of_named : (number bits encrypts : ℤ) (p : Packages) (m : MemoryState) (e : NewEngine) → key_named number bits encrypts p m ≡ Ok e → HasState e.class
unfolding key_named
of_named number bits encrypts p m e is =
    let named = both_ok (named_or_throw (if_in_table p (key_type_named number))) _ e is in
    let long = both_ok (named_or_throw (data_named (named.0).kind bits)) _ e named.2 in
    if_made (int_eq encrypts (pos 0)) number named.0 long.0 m e long.2

-- what buildKey makes is of such a class
pub made_key : (args : List Cell) (p : Packages) (m : MemoryState) (e : NewEngine) → key_builder_build_key args p m ≡ Ok e → HasState e.class
unfolding key_builder_build_key
made_key args p m e is =
    let number = both_ok (some_or_fault (short_argument args 0)) _ e is in
    let bits = both_ok (some_or_fault (short_argument args 1)) _ e number.2 in
    let encrypts = both_ok (some_or_fault (short_argument args 2)) _ e bits.2 in
    of_named number.0 bits.0 encrypts.0 p m e encrypts.2
