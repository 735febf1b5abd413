use Rattle.std.proofs.Common.{◌≡◌, ◌+◌, [], ◌∷◌, ◌++◌, take, get_or, sym, ◌∙◌, ap, subst, append_assoc}
use Rattle.std.proofs.lemmas.List.{take_all, take_more}
use Rattle.jcard_script.specs.Word.{IsWordOf}
use Rattle.jcard_script.proofs.word.Word.push_all.Goals as goal

pub loop-byte-preserved : goal.loop-byte-preserved
loop-byte-preserved c =
    let bytes = c.args.bytes.now in
    let at = c.loop-byte.byte-index in
    let next : take (at + 1) bytes ≡ take at bytes ++ get_or bytes at 0 ∷ [] = take_more bytes at 0 c.loop-byte-test.true in
    record {
      kept = λ line h. subst (IsWordOf c.push.new.self)
          (append_assoc line (take at bytes) (get_or bytes at 0 ∷ []) ∙ ap (λ l. line ++ l) (sym next))
          (c.push.ensures (line ++ take at bytes) (c.loop-byte.invariant.kept line h));
    }

pub returns : goal.returns
returns c = λ line w.
    subst (λ bytes. IsWordOf c.loop-byte.self (line ++ bytes)) (take_all c.loop-byte.byte-index c.args.bytes.now c.loop-byte-test.false)
    (c.loop-byte.invariant.kept line w)
