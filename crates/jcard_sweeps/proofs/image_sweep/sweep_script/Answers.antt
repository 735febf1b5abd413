use Rattle.std.proofs.Common.{◌∙◌, [], ap, refl, inl, inr, map}
use Rattle.jcard_texts.proofs.Known.{appends_same}
use Rattle.jcard_sweeps.specs.ScriptLines.{line_of}
use Rattle.jcard_sweeps.specs.declared.subject.Subject.{Subject}
use Rattle.jcard_sweeps.proofs.image_sweep.sweep_script.Goals as goal

pub returns-in_default : goal.returns-in_default
returns-in_default g c = (([], [], appends_same _, inl (_, refl, refl, refl, refl), g.met.D.Disk.none _), refl)

pub returns : goal.returns
returns g c =
    let subject : Subject = record {
      names = c.args.read.names;
      words = c.args.read.words;
      script = c.args.read.script;
      commands = c.deref.result;
    } in
    let on = c.sweep_subject.ensures.0 in
    ((on.0, on.1, on.2, inr (subject, (refl, refl, refl, ap (map line_of) c.deref.ensures.value ∙ c.in-Ok.ensures), on.3), on.4), c.sweep_subject.ensures.1)
