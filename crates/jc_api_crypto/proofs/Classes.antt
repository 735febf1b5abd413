-- The classes of the objects that calls make: each has a number and a state, and no other cell.
use Rattle.std.proofs.Common.{◌≡◌, List, Bool, true, false, Some, Result, Ok, Err, refl, subst, arith, if◌then◌else◌}
use Rattle.jc_transient.specs.declared.cell.ClearEvent.TheVariants.{Reset}
use Rattle.jc_platform.specs.Hierarchy.{cells_of, holds_reference, is_interface}
use Rattle.jc_platform.specs.Names.{classes}
use Rattle.jc_platform.specs.declared.names.PlatformClass.{PlatformClass}
use Rattle.jc_platform.specs.declared.names.PlatformClass.TheVariants as class
use Rattle.jc_frames.specs.declared.cell.Cell.{Cell}
use Rattle.jc_frames.specs.declared.outcome.FrameExit.{FrameExit}
use Rattle.jc_frames.specs.declared.outcome.FrameExit.TheVariants.{Throw}
use Rattle.jc_world.specs.Objects.{short_argument, some_or_fault}
use Rattle.jc_api.specs.Factory.{HasState}
use Rattle.jc_api.specs.declared.factory.NewEngine.{NewEngine}
use Rattle.jc_api.specs.declared.factory.StateKind.TheVariants.{Shorts}
use Rattle.jc_api.proofs.Reaching.{err_not_ok, same_Ok}
use Rattle.jc_api.proofs.Stretches.{both_ok}
use Rattle.jc_api_crypto.specs.Checksum.{checksum_get_instance, checksum_named}
use Rattle.jc_api_keys.specs.Exceptions.{no_such_algorithm}
use Rattle.jc_api_crypto.specs.MessageDigest.{hash_named, message_digest_get_initialized_message_digest_instance, message_digest_get_instance, new_digest}
use Rattle.jc_api_crypto.specs.RandomData.{is_random_algorithm, random_data_get_instance, random_shorts}
use Rattle.jc_api_keys.specs.Receivers.{named_or_throw}

pub digests_have_state : HasState class.MessageDigest
unfolding is_interface cells_of holds_reference classes
digests_have_state = record { instances = refl; cells = omega arith; number = refl; state = refl }

pub initialized_digests_have_state : HasState class.InitializedMessageDigest
unfolding is_interface cells_of holds_reference classes
initialized_digests_have_state = record { instances = refl; cells = omega arith; number = refl; state = refl }

pub checksums_have_state : HasState class.Checksum
unfolding is_interface cells_of holds_reference classes
checksums_have_state = record { instances = refl; cells = omega arith; number = refl; state = refl }

pub random_data_have_state : HasState class.RandomData
unfolding is_interface cells_of holds_reference classes
random_data_have_state = record { instances = refl; cells = omega arith; number = refl; state = refl }

-- what a call makes is of its class
made_of : (c : PlatformClass) → HasState c → (args : List Cell) (e : NewEngine) → new_digest c args ≡ Ok e → HasState e.class
unfolding new_digest
made_of c has args e is =
    let number = both_ok (some_or_fault (short_argument args 0)) _ e is in
    let external = both_ok (some_or_fault (short_argument args 1)) _ e number.2 in
    let named = both_ok (named_or_throw (hash_named number.0)) _ e external.2 in
    subst (λ (x : NewEngine). HasState x.class) (same_Ok _ e named.2) has

pub made_digest : (args : List Cell) (e : NewEngine) → message_digest_get_instance args ≡ Ok e → HasState e.class
made_digest args e is = made_of class.MessageDigest digests_have_state args e is

pub made_initialized_digest : (args : List Cell) (e : NewEngine) → message_digest_get_initialized_message_digest_instance args ≡ Ok e → HasState e.class
made_initialized_digest args e is = made_of class.InitializedMessageDigest initialized_digests_have_state args e is

pub made_checksum : (args : List Cell) (e : NewEngine) → checksum_get_instance args ≡ Ok e → HasState e.class
unfolding checksum_get_instance
made_checksum args e is =
    let number = both_ok (some_or_fault (short_argument args 0)) _ e is in
    let external = both_ok (some_or_fault (short_argument args 1)) _ e number.2 in
    let named = both_ok (named_or_throw (checksum_named number.0)) _ e external.2 in
    subst (λ (x : NewEngine). HasState x.class) (same_Ok _ e named.2) checksums_have_state

if_random : (b : Bool) (made e : NewEngine) → HasState made.class
    → ◌≡◌ {A = Result NewEngine FrameExit} (if b then Ok made else Err (Throw no_such_algorithm)) (Ok e) → HasState e.class
if_random true made e has is = subst (λ (x : NewEngine). HasState x.class) (same_Ok made e is) has
if_random false made e has is = absurd (err_not_ok is)

pub made_random : (args : List Cell) (e : NewEngine) → random_data_get_instance args ≡ Ok e → HasState e.class
unfolding random_data_get_instance
made_random args e is =
    let number = both_ok (some_or_fault (short_argument args 0)) _ e is in
    if_random (is_random_algorithm number.0) (record { class = class.RandomData; number = number.0; elements = Shorts; event = Some Reset; state = random_shorts }) e random_data_have_state number.2
