use Rattle.std.proofs.Common.{◌≡◌, length, map, take}
use Rattle.jc_api.specs.declared.initializing.FieldValue.TheVariants.{Word}
use Rattle.jc_api_ciphers.proofs.initialized.put_words.Given as goal

abbrev pub invariant-words : goal.invariant-words
invariant-words l = (take l.i l.values ≡ map Word (take l.i l.words)) × (length l.values ≡ length l.words)
