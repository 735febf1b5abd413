use Rattle.jc_cap.proofs.Wholes.{is_found, is_only}
use Rattle.jc_cap.specs.Imports.{imports_at, IsImports}
use Rattle.jc_cap.proofs.ToldLists.{imports_tells}
use Rattle.jc_cap.proofs.imports.read_imports.Goals as goal

pub returns-clause-found : goal.returns-clause-found
returns-clause-found c = is_found (λ y. y) imports_at IsImports imports_tells c.args.info.now c.whole_imports.result c.whole_imports.ensures

pub returns-clause-only : goal.returns-clause-only
returns-clause-only c = is_only (λ y. y) imports_at IsImports imports_tells c.args.info.now c.whole_imports.result c.whole_imports.ensures
