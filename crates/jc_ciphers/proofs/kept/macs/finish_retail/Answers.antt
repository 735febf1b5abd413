use Rattle.std.proofs.Common.{◌≡◌, ◌∙◌, ◌≤◌, ℕ, Bool, List, Option, Some, None, true, false, length, length-take-le, take, sym, ap, arith, if◌then◌else◌}
use Rattle.std.specs.Option.{option_map}
use Rattle.jc_ciphers.specs.declared.kept.BlockAlgorithm.TheVariants as algorithm
use Rattle.jc_ciphers.specs.Kept.Macs.{finished_by, is_closed, last_chain}
use Rattle.jc_ciphers.proofs.kept.macs.finish_retail.Goals as goal

pub returns-then-is_closed : goal.returns-then-is_closed
returns-then-is_closed c =
    let p = c.args.padding in
    let block = c.args.block.now in
    let key = c.args.key.now in
    let rest : List ℕ = take c.args.used block in
    let end : List ℕ = last_chain p algorithm.Des (take 8 key) c.args.chain.now rest in
    let long : length rest ≡ c.args.used = length-take-le c.args.used block (omega (arith, c.requires.used, c.requires.block)) in
    let closed : is_closed p 8 (length rest) ≡ true =
    ap (is_closed p 8) long ∙ sym (ap (λ (n : ℕ). is_closed p n c.args.used) c.requires.chain) ∙ sym c.is_closed.ensures ∙ c.if-is_closed.true in
    ap Some (c.finish_by.ensures ∙ ap (finished_by key) c.close_des.ensures)
    ∙ sym (ap (λ (b : Bool). option_map (finished_by key) (if b then Some end else None)) closed)

pub returns : goal.returns
returns c =
    let p = c.args.padding in
    let block = c.args.block.now in
    let key = c.args.key.now in
    let rest : List ℕ = take c.args.used block in
    let end : List ℕ = last_chain p algorithm.Des (take 8 key) c.args.chain.now rest in
    let long : length rest ≡ c.args.used = length-take-le c.args.used block (omega (arith, c.requires.used, c.requires.block)) in
    let closed : is_closed p 8 (length rest) ≡ false =
    ap (is_closed p 8) long ∙ sym (ap (λ (n : ℕ). is_closed p n c.args.used) c.requires.chain) ∙ sym c.is_closed.ensures ∙ c.if-is_closed.false in
    sym (ap (λ (b : Bool). option_map (finished_by key) (if b then Some end else None)) closed)
