use Rattle.std.proofs.Common.{[], ◌++◌, refl, inl, inr, subst, sym}
use Rattle.std.proofs.lemmas.Result.{err_from_is_err_and}
use Rattle.jcard_texts.proofs.Known.{appends_same}
use Rattle.jcard_sweeps.specs.SweepAsked.{sweep_asked_by}
use Rattle.jcard_sweeps.specs.Subject.{IsProbeRead}
use Rattle.jcard_sweeps.specs.Texts.{text_of}
use Rattle.jcard_sweeps.proofs.NamedParts.{among}
use Rattle.jcard_files.proofs.Effects.{unfailed}
use Rattle.jcard_sweeps.proofs.image_sweep.sweep_subject.Goals as goal

pub returns-in_err-carry_through : goal.returns-in_err-carry_through
returns-in_err-carry_through g c =
    let fault = c.in_err-carry_through.field-0.0 in
    let p = err_from_is_err_and c.from_residual.result c.from_residual.ensures.1 in
    rw (p.1, p.2) (
      ([], [], appends_same _, inl (fault, refl, refl, refl, c.in_err-carry_through.ensures.carried), g.met.D.Disk.none _),
      unfailed _ fault c.in_err-carry_through.ensures.unwritten,
    )

pub returns-in_err-target : goal.returns-in_err-target
returns-in_err-target g c =
    let carried = c.in_ok-carry_through.ensures.carried in
    let fault = c.in_err-target.field-0.0 in
    let p = err_from_is_err_and c.from_residual-in_err-target.result c.from_residual-in_err-target.ensures.1 in
    rw (p.1, p.2) (
      ([], [], appends_same _, inr (tt, carried, inl (fault, refl, refl, refl, c.in_err-target.ensures.found)), g.met.D.Disk.none _),
      unfailed _ fault c.in_err-target.ensures.unwritten,
    )

pub returns-in_err-probe : goal.returns-in_err-probe
returns-in_err-probe g c =
    let carried = c.in_ok-carry_through.ensures.carried in
    let read = c.in_err-probe.ensures.read in
    let fault = c.in_err-probe.field-0.0 in
    let p = err_from_is_err_and c.from_residual-in_err-probe.result c.from_residual-in_err-probe.ensures.1 in
    rw (p.1, p.2) (
      (
        [],
        read.0,
        appends_same _,
        inr (tt, carried, inr (c.in_ok-target.target, c.in_ok-target.ensures.found, inl (fault, refl, refl, read.2))),
        read.1,
      ),
      unfailed _ fault c.in_err-probe.ensures.unwritten,
    )

pub sweep-requires-clause-among : goal.sweep-requires-clause-among
sweep-requires-clause-among g c =
    among (sweep_asked_by c.args.asked) c.args.subject.commands.now c.in_ok-target.target c.in_ok-target.ensures.found

pub returns : goal.returns
returns g c =
    let carried = c.in_ok-carry_through.ensures.carried in
    let read = c.in_ok-probe.ensures.read in
    let given = subst (λ given. IsProbeRead (text_of c.args.asked.probe) given read.0) (sym c.lent.ensures) read.2 in
    let on = c.sweep.ensures.0 in (
      (
        on.0,
        read.0 ++ [],
        on.1,
        inr (tt, carried, inr (c.in_ok-target.target, c.in_ok-target.ensures.found, inr (_, read.0, [], (refl, refl, given), refl, on.2))),
        g.met.D.Disk.then _ _ _ read.0 [] read.1 (g.met.D.Disk.none _),
      ),
      c.sweep.ensures.1,
    )
