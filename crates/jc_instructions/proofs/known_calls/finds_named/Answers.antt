use Rattle.std.proofs.Common.{rules, ◌≡◌, refl}
use Rattle.jc_linker.specs.declared.target.Method.TheVariants.{Native}
use Rattle.jc_world.proofs.Below.{below_same}
use Rattle.jc_instructions.proofs.Same.{method_itself}
use Rattle.jc_instructions.proofs.known_calls.finds_named.Goals as goal

pub returns-then-eq : goal.returns-then-eq
returns-then-eq c = λ yes.
    let same : c.args.own ≡ c.args.class = search rules in (
      below_same c.args.linked.now c.args.own c.args.class same,
      method_itself c.args.linked.now c.args.own c.args.class c.args.token (Native c.args.method) same,
      refl,
    )
