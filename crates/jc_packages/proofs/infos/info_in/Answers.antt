use Rattle.std.proofs.Common.{[], take, ap, sym, ◌∙◌, arith}
use Rattle.std.specs.Result.{result_unwrap_or}
use Rattle.std.proofs.lemmas.List.{take_all}
use Rattle.jc_packages.proofs.infos.info_in.Goals as goal

pub returns-in-Ok : goal.returns-in-Ok
returns-in-Ok c = sym (ap (λ r. take 65535 (result_unwrap_or r [])) c.in-Ok.ensures.exact
    ∙ take_all 65535 c.in-Ok.info.now (omega (arith, c.in-Ok.ensures.small)))
