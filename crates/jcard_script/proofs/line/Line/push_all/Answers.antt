use Rattle.std.proofs.Common.{◌≡◌, ◌+◌, [], ◌∷◌, ◌++◌, take, get_or, sym, ◌∙◌, ap, subst, append_assoc}
use Rattle.std.proofs.lemmas.List.{take_more}
use Rattle.jcard_script.specs.Session.{IsKeptOf}
use Rattle.jcard_script.proofs.line.Line.push_all.Goals as goal

pub loop-byte-preserved : goal.loop-byte-preserved
loop-byte-preserved c =
    let bytes = c.args.bytes.now in
    let at = c.loop-byte.byte-index in
    let next : take (at + 1) bytes ≡ take at bytes ++ get_or bytes at 0 ∷ [] = take_more bytes at 0 c.loop-byte-test.true in
    record {
      kept = λ line h. subst (IsKeptOf c.push.new.self)
          (append_assoc line (take at bytes) (get_or bytes at 0 ∷ []) ∙ ap (λ l. line ++ l) (sym next))
          (c.push.ensures (line ++ take at bytes) (c.loop-byte.invariant.kept line h));
    }
