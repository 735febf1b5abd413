use Rattle.std.proofs.Common.{◌≡◌, Bool, false, sym, subst, rules}
use Rattle.std.specs.Prelude.{is_ok}
use Rattle.jc_words.specs.HeldWrites.{PutsBoth}
use Rattle.jc_words.proofs.HeldWrites.{first_failed}
use Rattle.jc_words.proofs.file.FileStore.put_both.Goals as goal

pub returns-in_err-put_word-clause-bytes : goal.returns-in_err-put_word-clause-bytes
returns-in_err-put_word-clause-bytes g c =
    let bytes = g.F.WordFile.bytes in
    let old = bytes c.args.file.now in
    let new = bytes c.put_word.new.self in
    let failed : is_ok c.from_residual.result ≡ false = search rules in
    subst (λ (b : Bool). PutsBoth c.args.first.0 c.args.first.1 c.args.second.0 c.args.second.1 b old new) (sym failed)
    (first_failed c.args.first.0 c.args.first.1 c.args.second.0 c.args.second.1 c.in_err-put_word.field-0 old new c.in_err-put_word.ensures.bytes)
