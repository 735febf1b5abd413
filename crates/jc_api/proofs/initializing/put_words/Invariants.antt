use Rattle.std.proofs.Common.{◌≡◌, length, take}
use Rattle.jc_api.specs.Initializing.{words_given}
use Rattle.jc_api.proofs.initializing.put_words.Given as goal

abbrev pub invariant-values : goal.invariant-values
invariant-values l = (take l.i l.words ≡ words_given l.args (take l.i l.values)) × (length l.words ≡ length l.values)
