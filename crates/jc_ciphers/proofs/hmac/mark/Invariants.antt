use Rattle.std.proofs.Common.{◌≡◌, ℕ, bit_xor, length, slice_index, take}
use Rattle.jc_ciphers.specs.Macs.{listed}
use Rattle.jc_ciphers.proofs.hmac.mark.Given as goal

abbrev pub invariant-bytes : goal.invariant-bytes
invariant-bytes l = (take l.i l.to ≡ listed (λ (i : ℕ). bit_xor (slice_index l.key i) l.pad) l.i) × (length l.to ≡ length l.key)
