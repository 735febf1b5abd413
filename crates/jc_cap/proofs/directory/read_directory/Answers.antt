use Rattle.jc_cap.proofs.Wholes.{is_found, is_only}
use Rattle.jc_cap.specs.Directory.{directory_at, IsDirectory}
use Rattle.jc_cap.proofs.ToldDirectory.{directory_tells}
use Rattle.jc_cap.proofs.directory.read_directory.Goals as goal

pub returns-clause-found : goal.returns-clause-found
returns-clause-found c = is_found (λ y. y) (directory_at c.args.format) (IsDirectory c.args.format)
    (directory_tells c.args.format) c.args.info.now c.whole_directory.result c.whole_directory.ensures

pub returns-clause-only : goal.returns-clause-only
returns-clause-only c = is_only (λ y. y) (directory_at c.args.format) (IsDirectory c.args.format)
    (directory_tells c.args.format) c.args.info.now c.whole_directory.result c.whole_directory.ensures
