use Rattle.std.proofs.Common.{refl, sym, subst, ◌∙◌, arith, rules}
use Rattle.jc_platform.specs.Reading.{above_of}
use Rattle.jc_platform.specs.Table.{AreThoseOf}
use Rattle.jc_platform.specs.Tokens.{Tokens}
use Rattle.jc_platform.proofs.reading.Reading.finish.Goals as goal

pub returns : goal.returns
returns c =
    let r = c.args.self.now in
    subst (λ (t : Tokens). AreThoseOf (above_of r) t) (sym c.new.ensures) (record {
      first = c.in_ok-first.was;
      versions = λ p. refl;
      class_tokens = λ d. refl;
      method_tokens = λ m. refl;
      random = search rules;
      needed_packages = sym c.has_needed_packages.ensures ∙ search rules;
      needed_classes = sym c.has_needed_classes.ensures ∙ search rules;
      needed_methods = sym c.has_needed_methods.ensures ∙ search rules;
      as_many_versions = omega arith;
      as_many_classes = omega arith;
      as_many_methods = omega arith;
    })
