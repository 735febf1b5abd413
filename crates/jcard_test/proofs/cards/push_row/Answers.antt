use Rattle.std.proofs.Common.{◌≡◌, ◌∙◌, ◌-◌, ◌++◌, ◌∷◌, [], length, take, ap, inl, inr, arith, subst, vec_len}
use Rattle.std.specs.String.{string_bytes}
use Rattle.jcard_test.specs.Cards.{IsSweptBehind, IsUnswept, sweep_of}
use Rattle.jcard_test.proofs.cards.push_row.Goals as goal

pub returns-in_default : goal.returns-in_default
returns-in_default c =
    let unswept = rw c.in_default.is at c.in_ok-sweep.ensures in
    inr (
      subst (λ rows. IsUnswept rows (string_bytes c.args.row.command)) c.deref.ensures.value
          (subst (λ command. IsUnswept c.deref.result.now command) c.as_str.ensures.value unswept),
      c.in_ok-push.ensures.items,
    )

pub returns : goal.returns
returns c =
    let rows = c.args.rows.now.items in
    let sweep = sweep_of c.in-Some.sweep in
    let last : vec_len c.args.rows.now - 1 ≡ length rows - 1 = omega (arith, c.args.rows.now.ok.0) in
    let behind = subst (λ rs. IsSweptBehind rs (string_bytes c.args.row.command) sweep) c.deref.ensures.value
    (subst (λ command. IsSweptBehind c.deref.result.now command sweep) c.as_str.ensures.value (rw c.in-Some.is at c.in_ok-sweep.ensures)) in
    inl (
      sweep,
      c.swept.result,
      behind,
      c.swept.ensures,
      c.in_ok-push-2.ensures.items ∙ ap (λ l. l ++ c.swept.result ∷ [])
          (c.pop-directive.ensures.rest ∙ ap (λ n. take n rows) last),
    )
