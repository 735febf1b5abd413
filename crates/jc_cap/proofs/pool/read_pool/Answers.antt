use Rattle.jc_cap.proofs.Wholes.{is_found, is_only}
use Rattle.jc_cap.specs.Pool.{pool_at, IsPool}
use Rattle.jc_cap.proofs.ToldPool.{pool_tells}
use Rattle.jc_cap.proofs.pool.read_pool.Goals as goal

pub returns-clause-found : goal.returns-clause-found
returns-clause-found c = is_found (λ y. y) pool_at IsPool pool_tells c.args.info.now c.whole_pool.result c.whole_pool.ensures

pub returns-clause-only : goal.returns-clause-only
returns-clause-only c = is_only (λ y. y) pool_at IsPool pool_tells c.args.info.now c.whole_pool.result c.whole_pool.ensures
