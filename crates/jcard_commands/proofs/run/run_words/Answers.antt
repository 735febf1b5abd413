use Rattle.std.specs.Prelude.{map}
use Rattle.std.specs.String.{string_bytes}
use Rattle.std.proofs.Common.{[], ◌∙◌, Err, ap, refl, inl, subst}
use Rattle.jcard_commands.specs.Commands.{IsPerformed}
use Rattle.jcard_files.specs.declared.fault.Fault.TheVariants.{NoMemory}
use Rattle.jcard_commands.proofs.run.run_words.Goals as goal

pub returns-in-Ok : goal.returns-in-Ok
returns-in-Ok g c =
    let done = c.run_joined.ensures in (
      done.0,
      done.1,
      done.2,
      done.3,
      done.4,
      done.5,
      subst (λ words. IsPerformed words done.2 done.0 done.3) (ap (map string_bytes) c.deref.ensures.value ∙ c.in-Ok.ensures) done.6,
      done.7,
      done.8,
      done.9,
      done.10,
    )

pub returns-in-Err : goal.returns-in-Err
returns-in-Err g c =
    let told = c.tell.ensures.line in
    ([], told.0, Err NoMemory, [], told.1, told.2, inl (refl, refl, refl), told.3, told.4, g.met.D.Disk.none c.args.disk.now, c.tell.ensures.status)
