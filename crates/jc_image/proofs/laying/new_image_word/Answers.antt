use Rattle.std.proofs.Common.{◌∙◌, sym, ap, get_or, arith}
use Rattle.jc_image.proofs.LaidImages.{front-word, zero-word, text-word}
use Rattle.jc_image.proofs.laying.new_image_word.Goals as goal

pub returns-then-i-lt-FRONT_LENGTH-clause-word : goal.returns-then-i-lt-FRONT_LENGTH-clause-word
returns-then-i-lt-FRONT_LENGTH-clause-word c = ap (λ l. get_or l c.args.i 0) c.front_of.ensures
    ∙ sym (front-word c.args.n c.args.room c.args.text.now c.args.i c.if-i-lt-FRONT_LENGTH.true)

pub returns-then-from-lt-TEXT_START-clause-word : goal.returns-then-from-lt-TEXT_START-clause-word
returns-then-from-lt-TEXT_START-clause-word c = sym (zero-word c.args.n c.args.room c.args.text.now c.args.i (omega arith) (omega arith))

pub returns-clause-word : goal.returns-clause-word
returns-clause-word c = c.packed_word.ensures.word ∙ sym (text-word c.args.n c.args.room c.args.text.now c.args.i (omega arith))
