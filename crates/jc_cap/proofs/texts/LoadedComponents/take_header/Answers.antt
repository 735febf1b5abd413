use Rattle.jc_cap.specs.ComponentViews.{head}
use Rattle.jc_cap.proofs.ReadAgain.{header_kept}
use Rattle.jc_cap.proofs.texts.LoadedComponents.take_header.Goals as goal

pub returns : goal.returns
returns c = header_kept c.args.self.now c.args.format c.args.bytes.items c.in_ok-component.component (head c.header-format.result)
    c.in_ok-component.ensures.0 c.header-format.ensures
