use Rattle.std.proofs.Common.{◌≡◌, ◌∙◌, ◌+◌, ◌≤◌, [], ◌∷◌, ◌++◌, ℕ, List, append-nil, append_assoc, length, length-append, length-take-le, slice_index, take, subst, sym, ap, arith}
use Rattle.std.proofs.lemmas.List.{take_all, take_more}
use Rattle.jc_ciphers.specs.Modes.{IsUnderWay}
use Rattle.jc_ciphers.proofs.KeptBlocks.{taken}
use Rattle.jc_ciphers.proofs.Pieces.{open_block}
use Rattle.jc_ciphers.proofs.kept.macs.take_in.Goals as goal

pub bytes-init : goal.bytes-init
bytes-init g c =
    let f = g.S.Step.chained c.args.step.now in
    let w = g.S.Step.written c.args.step.now in
    let size = g.S.Step.size in
    let chain = c.args.chain.now in
    let block = c.args.block.now in
    let used = c.args.used in
    let fits : used ≤ length block = omega (arith, c.requires.used, c.requires.block) in
    let P : List ℕ → Type 0 = λ m. IsUnderWay f w size chain m chain block used [] in
    record {
      chain = c.requires.chain;
      block = c.requires.block;
      within = c.requires.used;
      some = λ any. omega (arith, any);
      under = ([], subst P (sym (append-nil (take used block))) (open_block f w size chain block used fits));
    }

pub bytes-preserved : goal.bytes-preserved
bytes-preserved g c =
    let f = g.S.Step.chained c.args.step.now in
    let w = g.S.Step.written c.args.step.now in
    let size = g.S.Step.size in
    let i = c.bytes.i in
    let piece = c.args.piece.now in
    let front : List ℕ = take c.args.used c.args.block.now in
    let byte = slice_index piece i in
    let inv = c.bytes.invariant in
    let next = c.take_byte-filled in
    let more = next.ensures.under c.args.chain.now (front ++ take i piece) inv.under.0 inv.under.1 in
    let joined : (front ++ take i piece) ++ byte ∷ [] ≡ front ++ take (i + 1) piece =
    append_assoc front (take i piece) (byte ∷ []) ∙ ap (λ (xs : List ℕ). front ++ xs) (sym (take_more piece i 0 (omega arith))) in
    let P : List ℕ → Type 0 = λ m. IsUnderWay f w size c.args.chain.now m next.new.chain next.new.block next.result more.0 in
    record {
      chain = next.auto.chain ∙ inv.chain;
      block = next.auto.block ∙ inv.block;
      within = next.ensures.within;
      some = λ any. next.ensures.some;
      under = (more.0, subst P joined more.1);
    }

pub returns-clause-chain : goal.returns-clause-chain
returns-clause-chain g c =
    let f = g.S.Step.chained c.args.step.now in
    let w = g.S.Step.written c.args.step.now in
    let piece = c.args.piece.now in
    let block = c.args.block.now in
    let used = c.args.used in
    let front : List ℕ = take used block in
    let inv = c.bytes.invariant in
    let all : c.bytes.i ≡ length piece = omega arith in
    let whole : front ++ take c.bytes.i piece ≡ front ++ piece = ap (λ (xs : List ℕ). front ++ xs) (take_all c.bytes.i piece (omega (arith, all))) in
    let long : used + length piece ≡ length (front ++ piece) =
    omega (arith, length-append front piece, length-take-le used block (omega (arith, c.requires.used, c.requires.block))) in
    let P : List ℕ → Type 0 = λ m. IsUnderWay f w g.S.Step.size c.args.chain.now m c.bytes.chain c.bytes.block c.bytes.filled inv.under.0 in
    (taken f w g.S.Step.size c.args.chain.now (front ++ piece) c.bytes.chain c.bytes.block c.bytes.filled inv.under.0 (used + length piece)
    c.requires.some (subst P whole inv.under.1) inv.within long (λ any. inv.some (omega (arith, any, all)))).0

pub returns-clause-rest : goal.returns-clause-rest
returns-clause-rest g c =
    let f = g.S.Step.chained c.args.step.now in
    let w = g.S.Step.written c.args.step.now in
    let piece = c.args.piece.now in
    let block = c.args.block.now in
    let used = c.args.used in
    let front : List ℕ = take used block in
    let inv = c.bytes.invariant in
    let all : c.bytes.i ≡ length piece = omega arith in
    let whole : front ++ take c.bytes.i piece ≡ front ++ piece = ap (λ (xs : List ℕ). front ++ xs) (take_all c.bytes.i piece (omega (arith, all))) in
    let long : used + length piece ≡ length (front ++ piece) =
    omega (arith, length-append front piece, length-take-le used block (omega (arith, c.requires.used, c.requires.block))) in
    let P : List ℕ → Type 0 = λ m. IsUnderWay f w g.S.Step.size c.args.chain.now m c.bytes.chain c.bytes.block c.bytes.filled inv.under.0 in
    (taken f w g.S.Step.size c.args.chain.now (front ++ piece) c.bytes.chain c.bytes.block c.bytes.filled inv.under.0 (used + length piece)
    c.requires.some (subst P whole inv.under.1) inv.within long (λ any. inv.some (omega (arith, any, all)))).1
