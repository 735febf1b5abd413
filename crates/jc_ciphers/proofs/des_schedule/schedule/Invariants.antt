use Rattle.std.proofs.Common.{◌≡◌, ◌*◌, length, take}
use Rattle.jc_ciphers.specs.Des.{halves, schedule}
use Rattle.jc_ciphers.proofs.des_schedule.schedule.Given as goal

abbrev pub invariant-keys : goal.invariant-keys
invariant-keys l = (l.halves ≡ halves l.key l.n) × (take (48 * l.n) l.keys ≡ schedule l.key l.n) × (length l.keys ≡ 768)
