use Rattle.std.proofs.Common.{[]}
use Rattle.jcard_files.proofs.UsualTables.{usual_platform}
use Rattle.jcard_files.proofs.usual_table.platform_of.Goals as goal

pub returns-in-Some : goal.returns-in-Some
returns-in-Some g c = rw c.in-Some.is c.text_of.ensures

pub returns-in-None : goal.returns-in-None
returns-in-None g c = rw c.in-None.is ([], g.met.D.Disk.none c.args.disk.now, usual_platform (λ t. t.items) c.usual_platform.result c.usual_platform.ensures)
