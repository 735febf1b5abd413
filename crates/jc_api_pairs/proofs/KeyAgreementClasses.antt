-- KeyAgreement: the class of the objects that its calls make, and the cells that init sets.
use Rattle.std.proofs.Common.{◌≡◌, ℕ, List, [], ◌∷◌, Ok, refl, subst, arith}
use Rattle.jc_platform.specs.Hierarchy.{cells_of, holds_reference, is_interface}
use Rattle.jc_platform.specs.Names.{classes}
use Rattle.jc_platform.specs.declared.names.PlatformClass.TheVariants as class
use Rattle.jc_memory.specs.State.{MemoryState}
use Rattle.jc_linker.specs.Values.{Packages}
use Rattle.jc_frames.specs.declared.cell.Cell.{Cell}
use Rattle.jc_world.specs.Objects.{short_argument, some_or_fault}
use Rattle.jc_api.specs.Factory.{HasState}
use Rattle.jc_api.specs.Initializing.{FieldsAnswer, FitsFields, sets_fields}
use Rattle.jc_api.specs.declared.factory.NewEngine.{NewEngine}
use Rattle.jc_api.specs.declared.initializing.FieldValue.TheVariants.{Argument}
use Rattle.jc_api.proofs.Reaching.{same_Ok}
use Rattle.jc_api.proofs.Stretches.{both_ok}
use Rattle.jc_api_keys.specs.Receivers.{named_or_throw}
use Rattle.jc_api_pairs.specs.KeyAgreement.{agreement_of, key_agreement_get_instance, key_agreement_init, key_cell, new_agreement}
use Rattle.jc_api_pairs.specs.KeyAgreement.Keys.{key_given}
use Rattle.jc_api_pairs.specs.KeyAgreement.Algorithms.{agreement_named}

pub agreements_have_state : HasState class.KeyAgreement
unfolding is_interface cells_of holds_reference classes
agreements_have_state = record { instances = refl; cells = omega arith; number = refl; state = refl }

-- what a call makes is of the class
pub made_agreement : (args : List Cell) (e : NewEngine) → key_agreement_get_instance args ≡ Ok e → HasState e.class
unfolding key_agreement_get_instance
made_agreement args e is =
    let number = both_ok (some_or_fault (short_argument args 0)) _ e is in
    let external = both_ok (some_or_fault (short_argument args 1)) _ e number.2 in
    let named = both_ok (named_or_throw (agreement_named number.0)) _ e external.2 in
    subst (λ (x : NewEngine). HasState x.class) (same_Ok (new_agreement number.0) e named.2) agreements_have_state

-- the key fits in its cell
fits_key : (array : ℕ) → FitsFields (sets_fields class.KeyAgreement key_cell (Argument 1 ∷ []) array [])
unfolding cells_of classes
fits_key array = record { class = agreements_have_state; within = omega arith; fields = tt }

pub fits_init : (args : List Cell) (p : Packages) (m : MemoryState) (a : FieldsAnswer) → key_agreement_init args p m ≡ Ok a → FitsFields a
unfolding key_agreement_init
fits_init args p m a is =
    let own = both_ok (agreement_of args p m) _ a is in
    let named = both_ok (some_or_fault (agreement_named (own.0).number)) _ a own.2 in
    let given = both_ok (key_given named.0 args p m) _ a named.2 in
    subst FitsFields (same_Ok (sets_fields class.KeyAgreement key_cell (Argument 1 ∷ []) (own.0).array []) a given.2) (fits_key (own.0).array)
