use Rattle.std.proofs.Common.{◌≡◌, ◌∙◌, ◌≤◌, ℕ, Bool, List, Option, Some, None, true, false, length, length-take-le, take, sym, ap, arith, if◌then◌else◌}
use Rattle.jc_ciphers.specs.Kept.{block_size}
use Rattle.jc_ciphers.specs.Kept.Macs.{is_closed, last_chain}
use Rattle.jc_ciphers.proofs.kept.macs.finish_cbc.Goals as goal

pub returns-then-is_closed : goal.returns-then-is_closed
returns-then-is_closed c =
    let a = c.args.algorithm in
    let p = c.args.padding in
    let block = c.args.block.now in
    let rest : List ℕ = take c.args.used block in
    let end : List ℕ = last_chain p a c.args.key.now c.args.chain.now rest in
    let long : length rest ≡ c.args.used = length-take-le c.args.used block (omega (arith, c.requires.used, c.requires.block)) in
    let closed : is_closed p (block_size a) (length rest) ≡ true =
    ap (is_closed p (block_size a)) long ∙ sym (ap (λ (n : ℕ). is_closed p n c.args.used) c.requires.chain) ∙ sym c.is_closed.ensures ∙ c.if-is_closed.true in
    ap Some c.close_blocks.ensures ∙ sym (ap (λ (b : Bool). if b then Some end else None) closed)

pub returns : goal.returns
returns c =
    let a = c.args.algorithm in
    let p = c.args.padding in
    let block = c.args.block.now in
    let rest : List ℕ = take c.args.used block in
    let end : List ℕ = last_chain p a c.args.key.now c.args.chain.now rest in
    let long : length rest ≡ c.args.used = length-take-le c.args.used block (omega (arith, c.requires.used, c.requires.block)) in
    let closed : is_closed p (block_size a) (length rest) ≡ false =
    ap (is_closed p (block_size a)) long ∙ sym (ap (λ (n : ℕ). is_closed p n c.args.used) c.requires.chain) ∙ sym c.is_closed.ensures ∙ c.if-is_closed.false in
    sym (ap (λ (b : Bool). if b then Some end else None) closed)
