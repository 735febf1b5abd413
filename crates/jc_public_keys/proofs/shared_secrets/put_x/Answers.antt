use Rattle.std.proofs.Common.{◌∙◌, ℕ, List, length, refl, sym, ap, arith}
use Rattle.std.specs.Prelude.{Option, option_and_then}
use Rattle.std.proofs.Math.Facts.{Fits-lt-pow}
use Rattle.jc_numbers.specs.Numbers.{number_of_bytes}
use Rattle.jc_public_keys.specs.CurveBytes.{bytes_of, x_bytes}
use Rattle.jc_public_keys.specs.SharedSecrets.{secret_x, shared_point}
use Rattle.jc_public_keys.proofs.SecretsFound.{agreed, no_curve, not_shared}
use Rattle.jc_public_keys.proofs.shared_secrets.put_x.Goals as goal

pub returns-in_default : goal.returns-in_default
unfolding secret_x
returns-in_default c = sym (ap (option_and_then (x_bytes (length c.args.parameters.now.field.now)))
    (no_curve c.args.parameters.now (number_of_bytes c.args.private.now) c.args.parameters.now.cofactor c.args.public.now c.in_default.ensures))

pub returns-in-Ok : goal.returns-in-Ok
unfolding secret_x
returns-in-Ok c =
    let k = c.in-Some.ensures in
    let size = k.0.size in
    let pars = c.args.parameters.now in
    let d = number_of_bytes c.args.private.now in
    let by : ℕ → Option (List ℕ) = λ n. option_and_then (x_bytes (length pars.field.now)) (shared_point (bytes_of pars) d n c.args.public.now) in
    sym (ap by (sym (k.0.described).h)
    ∙ agreed pars c.in-Some.curve k.0 k.1 d (c.in-Some.curve).h c.args.public.now c.agree_by_cofactor.new.to
    (λ i. Fits-lt-pow (c.type_inv.to i)) (omega (arith, c.agree_by_cofactor.auto.to, c.requires.room, size)) c.in-Ok.ensures)

pub returns-in-Err : goal.returns-in-Err
unfolding secret_x
returns-in-Err c =
    let k = c.in-Some.ensures in
    let pars = c.args.parameters.now in
    let d = number_of_bytes c.args.private.now in
    let by : ℕ → Option (List ℕ) = λ n. option_and_then (x_bytes (length pars.field.now)) (shared_point (bytes_of pars) d n c.args.public.now) in
    sym (ap by (sym (k.0.described).h)
    ∙ not_shared pars c.in-Some.curve k.0 k.1 d (c.in-Some.curve).h c.args.public.now c.in-Err.field-0 c.in-Err.ensures (x_bytes _) refl)
