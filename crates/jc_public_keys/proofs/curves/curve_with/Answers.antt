use Rattle.std.proofs.Common.{◌<◌, ℕ, get_or, ap, ◌∙◌, subst}
use Rattle.std.proofs.Math.Facts.{Fits-lt-pow}
use Rattle.jc_public_keys.proofs.CurvesFound.{curve_found, curve_passes, curve_refused, some_first_byte}
use Rattle.jc_public_keys.proofs.curves.curve_with.Goals as goal

pub returns-in-Ok : goal.returns-in-Ok
returns-in-Ok c =
    let pars = c.args.parameters.now in
    let small : (k : ℕ) → get_or pars.field.now k 0 < 256 = λ k. subst (λ bs. get_or bs k 0 < 256) c.requires.field (Fits-lt-pow (c.type_inv.field k)) in
    let some : 0 < get_or pars.field.now 0 0 = some_first_byte pars.field.now (λ zero_is. c.if-field-eq0.false (ap (λ bs. get_or bs 0 0) c.requires.field ∙ zero_is)) in
    (curve_found pars small some c.in-Ok.curve c.in-Ok.ensures, curve_passes pars small some c.in-Ok.curve c.in-Ok.ensures)

pub returns-in-Err : goal.returns-in-Err
returns-in-Err c =
    let pars = c.args.parameters.now in
    let small : (k : ℕ) → get_or pars.field.now k 0 < 256 = λ k. subst (λ bs. get_or bs k 0 < 256) c.requires.field (Fits-lt-pow (c.type_inv.field k)) in
    let some : 0 < get_or pars.field.now 0 0 = some_first_byte pars.field.now (λ zero_is. c.if-field-eq0.false (ap (λ bs. get_or bs 0 0) c.requires.field ∙ zero_is)) in
    curve_refused pars small some c.requires.short c.in-Err.field-0 c.in-Err.ensures
