use Rattle.std.proofs.Common.{◌≡◌, ◌≤◌, ◌∙◌, ◌+◌, ◌-◌, [], ◌∷◌, ◌++◌, ℕ, List, append_assoc, length, replicate, take, sym, ap, arith}
use Rattle.std.proofs.lemmas.List.{length-set, take_all, take_more_set}
use Rattle.std.proofs.lemmas.List.{replicate_more}
use Rattle.jc_ciphers.proofs.bytes.clear_from.Goals as goal

pub bytes-preserved : goal.bytes-preserved
bytes-preserved c =
    let i = c.bytes.i in
    let at = c.args.at in
    let first : List ℕ = take at c.args.to.now in
    let inv = c.bytes.invariant in
    let low : at ≤ i = omega arith in
    let more : i - at + 1 ≡ i + 1 - at = omega (arith, low) in (
      take_more_set c.bytes.to i 0 (omega (arith, inv.1)) ∙ (λ j. inv.0 j ++ 0 ∷ []) ∙ append_assoc first (replicate (i - at) 0) (0 ∷ [])
          ∙ ap (λ (xs : List ℕ). first ++ xs) (replicate_more (i - at) 0 ∙ ap (λ (n : ℕ). replicate n 0) more),
      length-set c.bytes.to i 0 ∙ inv.1,
    )

pub returns : goal.returns
returns c =
    let inv = c.bytes.invariant in
    let within = c.requires in
    let all : c.bytes.i ≡ length c.args.to.now = omega (arith, within) in
    sym (take_all c.bytes.i c.bytes.to (omega (arith, inv.1, all))) ∙ inv.0
    ∙ ap (λ (n : ℕ). take c.args.at c.args.to.now ++ replicate (n - c.args.at) 0) all
