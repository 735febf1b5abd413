use Rattle.std.proofs.Common.{sym, subst}
use Rattle.jc_numbers.specs.Numbers.{IsBitLength}
use Rattle.jc_public_keys.proofs.CurvesFound.{bits_are}
use Rattle.jc_public_keys.proofs.curves.bits_of.Goals as goal

pub returns : goal.returns
returns c = sym (bits_are _ c.bit_length.result (subst (λ n. IsBitLength n c.bit_length.result) c.from_bytes.ensures c.bit_length.ensures))
