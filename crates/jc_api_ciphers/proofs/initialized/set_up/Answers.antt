use Rattle.std.proofs.Common.{◌≡◌, ◌∙◌, ◌∷◌, ℕ, Ok, map, replicate, subst, take}
use Rattle.std.proofs.lemmas.Int.{to_z-of_z}
use Rattle.std.proofs.lemmas.List.{take-replicate}
use Rattle.std.specs.Int.{cast_unsigned, w16}
use Rattle.jc_memory.specs.Programs.{Executes}
use Rattle.jc_world.specs.NativeCalls.{after_call}
use Rattle.jc_api.specs.Initializing.{FieldsAnswer, initializing_call, sets_fields}
use Rattle.jc_api.specs.declared.initializing.FieldValue.TheVariants.{Argument, Word}
use Rattle.jc_api_ciphers.specs.Initialized.{key_cell, values_given}
use Rattle.jc_api_ciphers.proofs.initialized.set_up.Goals as goal

-- the values are those of the mode and the vector, and the first of these zeros are as many zeros
pub returns : goal.returns
returns g c =
    let m = c.args.memory.now in
    let n = c.args.setup.shorts in
    let mode = to_z-of_z w16 c.args.mode c.ranges.mode in
    let values : c.put_values.new.values ≡ values_given c.args.mode c.args.setup.vector.now =
    c.put_values.ensures ∙ (λ j. Argument 1 ∷ Word (cast_unsigned w16 (mode j)) ∷ map Word (c.put_vector.ensures j)) in
    let zeros : take {A = ℕ} n (replicate 303 0) ≡ replicate n 0 = take-replicate n 303 0 c.requires.state in
    subst (λ (a : FieldsAnswer). Executes (initializing_call (Ok a) c.args.args.now c.args.linked.now m) m
    (after_call c.initialize.result c.initialize.new.memory))
    (λ j. sets_fields c.args.setup.class key_cell (values j) c.args.own.now.array (zeros j)) c.initialize.ensures
