use Rattle.std.proofs.Common.{◌∙◌, inl, inr, refl, ap, subst}
use Rattle.jcard_test.specs.Lines.{Says}
use Rattle.jcard_test.specs.declared.line.Line.{Line}
use Rattle.jcard_test.specs.declared.line.Line.TheVariants.{For, End}
use Rattle.jcard_test.proofs.Numbering.{none_of, ok_then}
use Rattle.jcard_test.proofs.lines.take_line.Goals as goal

pub returns-in_ok-push-in-For : goal.returns-in_ok-push-in-For
returns-in_ok-push-in-For c = (
  For c.in-For.name c.in-For.first c.in-For.last,
  subst (λ (l : Line). Says c.args.line.now l) c.in-For.is c.read_line.ensures,
  (
    _,
    record {
      line = refl;
      named = c.in_ok-from_str-in-For.ensures.ok;
      from_first = refl;
      to_last = refl;
      behind = ap (λ v. v.items) c.replace-before.ensures.value;
    },
    c.in_ok-push-in-For.ensures.items,
    ap (λ v. v.items) c.replace-before.ensures.after ∙ c.new.ensures.items,
  ),
)

pub returns-in-Some : goal.returns-in-Some
returns-in-Some c =
    let says = subst (λ (l : Line). Says c.args.line.now l) c.in-End.is c.read_line.ensures in
    ok_then c.end_loop.result c.end_loop.ensures (λ all. (End, says, inl (c.in-Some.ended, all.0, c.in-Some.ensures.items, all.1, all.2)))

pub returns-in-None : goal.returns-in-None
returns-in-None c =
    let says = subst (λ (l : Line). Says c.args.line.now l) c.in-End.is c.read_line.ensures in
    ok_then c.add_line.result c.add_line.ensures
    (λ more. (
      End,
      says,
      inr (
        none_of c.args.loops.now.items c.args.loops.now.len c.args.loops.now.ok.0 c.in-None.ensures.cases.0,
        none_of c.pop.new.self.items c.pop.new.self.len c.pop.new.self.ok.0 c.in-None.ensures.cases.1,
        more,
      ),
    ))
