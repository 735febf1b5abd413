use Rattle.std.proofs.Common.{◌≡◌, ◌-◌, length, take}
use Rattle.sha2.specs.Sha512.{first_words, schedule}
use Rattle.jc_digests.proofs.sha_512.schedule.Given as goal

abbrev pub invariant-first : goal.invariant-first
invariant-first l = (take l.i l.words ≡ first_words l.block l.i) × (length l.words ≡ 80)

abbrev pub invariant-next : goal.invariant-next
invariant-next l = (take l.t l.words ≡ schedule l.block (l.t - 16)) × (length l.words ≡ 80)
