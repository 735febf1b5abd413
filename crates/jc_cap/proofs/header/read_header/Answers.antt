use Rattle.jc_cap.proofs.Wholes.{is_found, is_only}
use Rattle.jc_cap.specs.Header.{header_at, IsHeader}
use Rattle.jc_cap.proofs.ToldHeader.{header_tells}
use Rattle.jc_cap.specs.ComponentViews.{head}
use Rattle.jc_cap.proofs.header.read_header.Goals as goal

pub returns-clause-found : goal.returns-clause-found
returns-clause-found c = is_found head header_at IsHeader header_tells c.args.info.now c.whole_header.result c.whole_header.ensures

pub returns-clause-only : goal.returns-clause-only
returns-clause-only c = is_only head header_at IsHeader header_tells c.args.info.now c.whole_header.result c.whole_header.ensures
