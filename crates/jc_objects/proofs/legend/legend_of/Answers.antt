use Rattle.std.proofs.Common.{◌∙◌, sym, subst, None, Option}
use Rattle.std.proofs.lemmas.Result.{IfOk-weaker}
use Rattle.jc_linker.specs.Values.{Packages}
use Rattle.jc_platform.specs.Tokens.{Tokens}
use Rattle.jc_objects.specs.Legend.{ArePackagesIn, IsLegend}
use Rattle.jc_objects.proofs.Opened.{none_found}
use Rattle.jc_objects.proofs.legend.legend_of.Goals as goal

pub returns-in-Err : goal.returns-in-Err
returns-in-Err c = IfOk-weaker c.without_packages.result _ (λ l. IsLegend c.args.platform c.args.words.items l) (λ l e. (
  e.0,
  subst (λ (o : Option Packages). ArePackagesIn c.args.platform c.args.words.items o) (sym e.1)
      (subst (λ (t : Tokens). ArePackagesIn t c.args.words.items None) (c.platform.ensures ∙ c.table.ensures) (none_found c.in-Err.fault _ c.args.words.items e.2 c.in-Err.ensures)),
)) c.without_packages.ensures
