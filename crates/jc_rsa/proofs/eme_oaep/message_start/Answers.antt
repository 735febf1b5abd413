use Rattle.std.proofs.Common.{◌≡◌, ◌+◌, ◌∙◌, true, false, ℕ, length, subst, sym}
use Rattle.std.proofs.lemmas.List.{take_rest}
use Rattle.jc_rsa.specs.Bytes.{HasNone, IsFirst, IsOther}
use Rattle.jc_rsa.specs.EmeOaep.{data_block}
use Rattle.jc_rsa.proofs.OaepBlocks.{data_has_end, data_rest}
use Rattle.jc_rsa.proofs.eme_oaep.message_start.Goals as goal

pub returns-in_default-clause-cases : goal.returns-in_default-clause-cases
returns-in_default-clause-cases c = λ m is.
    let P : ℕ → Type 0 = λ start. HasNone (IsOther 0) start c.args.block.now in
    data_has_end c.args.algorithm m c.args.block.now is (subst P c.digest_size.ensures c.in_default.ensures)

pub returns-else-is_data_block-clause-cases : goal.returns-else-is_data_block-clause-cases
returns-else-is_data_block-clause-cases c = λ m is.
    let a = c.args.algorithm in
    let block = c.args.block.now in
    let end = c.in-Some.end in
    let P : ℕ → Type 0 = λ start. IsFirst (IsOther 0) start block end in
    let rest = take_rest block (end + 1) ∙ data_rest a m block end is (subst P c.digest_size.ensures c.in-Some.ensures) in
    let yes : c.is_data_block.result ≡ true = c.is_data_block.ensures.1 (is.is ∙ (λ j. data_block a (sym rest j) (length block))) in
    let no : c.is_data_block.result ≡ false = c.if-is_data_block.false in
    cc (yes, no)
