use Rattle.jc_cap.proofs.Told.{is_found, is_only}
use Rattle.jc_cap.proofs.texts.LoadedComponents.take.Goals as goal

pub returns-clause-found : goal.returns-clause-found
returns-clause-found c = is_found c.args.format c.args.tag c.args.bytes.items c.args.self.now c.take_by_tag.new.self c.take_by_tag.result c.take_by_tag.ensures

pub returns-clause-only : goal.returns-clause-only
returns-clause-only c = is_only c.args.format c.args.tag c.args.bytes.items c.args.self.now c.take_by_tag.new.self c.take_by_tag.result c.take_by_tag.ensures
