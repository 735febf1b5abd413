use Rattle.std.proofs.Common.{◌≡◌, ◌*◌, ◌/◌, length, take}
use Rattle.jc_ciphers.specs.Aes.{schedule, word_before}
use Rattle.jc_ciphers.specs.AesPlace.{IsPlace}
use Rattle.jc_ciphers.proofs.aes.expanded.Given as goal

abbrev pub invariant-expansion : goal.invariant-expansion
invariant-expansion l = record {
  scheduled : take (4 * l.i) l.words ≡ schedule l.key l.i;
  place : IsPlace (length l.key / 4) l.i l.place;
  before : l.before ≡ word_before (take (4 * l.i) l.words) l.i;
}
