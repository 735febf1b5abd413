use Rattle.std.proofs.Common.{◌≡◌, ◌<◌, ◌/◌, ◌+◌, ◌*◌, ◌%◌, ◌^◌, ◌-◌, ◌∙◌, List, ℕ, bit_xor, slice_index, sym, ap, arith}
use Rattle.jc_ciphers.specs.Des.{keyed, select, substituted_bit}
use Rattle.jc_ciphers.specs.DesNumbers.{number_of, source}
use Rattle.jc_ciphers.specs.DesTables.{expansion, permutation}
use Rattle.jc_ciphers.proofs.DesGatherings.{box_entry-is}
use Rattle.jc_ciphers.proofs.DesHalves.{groups_permutation, key_bit, key_bit-lt, keyed-at, mangled-number, six-is}
use Rattle.jc_ciphers.proofs.DesNumbers.{gathered_all, gathered_bit, gathered_more, gathered_none}
use Rattle.jc_ciphers.proofs.des.mangled.Goals as goal

pub boxes-init : goal.boxes-init
boxes-init c = λ half bits bh bb whole is.
    sym (gathered_none (λ j. source permutation j / 4) (λ j. substituted_bit (keyed (select expansion half) bits c.args.n) (source permutation j)) 32)

pub boxes-preserved : goal.boxes-preserved
boxes-preserved c = λ half bits bh bb whole is.
    let i = c.boxes.i in
    let n = c.args.n in
    let w = c.wide-wide.result in
    let low : i < 8 = omega arith in
    let kd : List ℕ = keyed (select expansion half) bits n in
    let v : ℕ → ℕ = λ j. substituted_bit kd (source permutation j) in
    let six : bit_xor (w / 2 ^ (28 - 4 * i)) c.from.result % 64 ≡ number_of (key_bit half bits n i) 6 =
    ap (λ (k : ℕ). bit_xor (w / 2 ^ (28 - 4 * i)) k % 64) c.from.ensures
    ∙ six-is half bits c.args.keys.now n i w bh bb is c.requires low (c.wide-wide.ensures (slice_index half) bh whole) in
    let at = ap (λ (k : ℕ). 64 * i + k) six in
    let made = c.substituted-mixed.ensures
    ∙ box_entry-is kd (key_bit half bits n i) i _ (key_bit-lt half bits n i bh bb) low (λ t lt. keyed-at half bits n i t bh bb low lt) at in
    (λ t. bit_xor (c.boxes.invariant half bits bh bb whole is t) (made t))
    ∙ gathered_more (λ j. source permutation j / 4) v i 32 (λ j. omega arith)

pub returns : goal.returns
returns c = λ half bits bh bb whole is.
    let all : c.boxes.i ≡ 8 = omega arith in
    let v : ℕ → ℕ = λ j. substituted_bit (keyed (select expansion half) bits c.args.n) (source permutation j) in
    c.boxes.invariant half bits bh bb whole is
    ∙ ap (λ (n : ℕ). number_of (gathered_bit (λ j. source permutation j / 4) v n) 32) all
    ∙ gathered_all (λ j. source permutation j / 4) v 8 32 groups_permutation
    ∙ mangled-number half bits c.args.n
