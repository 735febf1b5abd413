use Rattle.std.proofs.Common.{◌≡◌, ◌≤◌, ◌+◌, ◌-◌, ◌*◌, ◌∙◌, ℕ, List, drop, length, refl, take, ap, subst, sym, arith}
use Rattle.jc_digests.specs.Kept.{digest_size}
use Rattle.jc_rsa.specs.EmeOaep.{IsDataBlock, IsOaep}
use Rattle.jc_rsa.proofs.Digests.{digest_few}
use Rattle.jc_rsa.proofs.OaepBlocks.{block_in, oaep_has, oaep_of, oaep_zero, rest_of_part, unmasked}
use Rattle.jc_rsa.proofs.eme_oaep.decode.Goals as goal
use Rattle.jc_rsa.proofs.eme_oaep.decode.Goals.{then-encoding-size-via-then-encoding-size, then-encoding-size-via-else-encoding-size+then-encoding-ne0}

pub returns-then-encoding-size : goal.returns-then-encoding-size
returns-then-encoding-size c = λ m is.
    let em = c.args.encoding.now in
    let zero = oaep_zero c.args.algorithm m em is in
    elim c.then-encoding-size.branch [
      | then-encoding-size-via-then-encoding-size w ↦ omega (arith, is.fits)
      | then-encoding-size-via-else-encoding-size+then-encoding-ne0 w ↦ omega (arith, zero)
    ]

pub overflow_add-result-in-Some : goal.overflow_add-result-in-Some
overflow_add-result-in-Some c =
    let few = digest_few c.args.algorithm in
    omega (arith, few, c.in-Some.ensures.within, c.requires)

pub returns-in-Some : goal.returns-in-Some
returns-in-Some c =
    let a = c.args.algorithm in
    let em = c.args.encoding.now in
    let size = c.digest_size-size.result in
    let start = c.in-Some.start in
    let middle : List ℕ = take (length em - (size + 1)) (drop (size + 1) em) in
    let long : 2 * digest_size a + 2 ≤ length em = omega (arith, c.if-encoding-size.false, c.digest_size-size.ensures) in
    let room : size + 1 ≤ length em = omega (arith, long, c.digest_size-size.ensures) in
    let block_is : c.mask-2.new.to ≡ block_in a em =
    unmasked a em c.copy_from_slice.new.self middle c.mask.new.to c.mask-2.new.to size c.digest_size-size.ensures room c.copy_from_slice.ensures.after refl
    c.mask.ensures c.mask-2.ensures in
    let P : List ℕ → Type 0 = λ b. IsDataBlock a (drop start b) b in
    let Q : List ℕ → Type 0 = λ m. IsOaep a m em in
    let is = oaep_of a (drop start (block_in a em)) em long c.if-encoding-ne0.false (subst P block_is c.in-Some.ensures.cases) in
    subst Q (sym (rest_of_part (size + 1) start em c.mask-2.new.to room ∙ ap (drop start) block_is)) is

pub returns-in-None : goal.returns-in-None
returns-in-None c = λ m is.
    let a = c.args.algorithm in
    let em = c.args.encoding.now in
    let size = c.digest_size-size.result in
    let middle : List ℕ = take (length em - (size + 1)) (drop (size + 1) em) in
    let fits = is.fits in
    let room : size + 1 ≤ length em = omega (arith, fits, c.digest_size-size.ensures) in
    let block_is : c.mask-2.new.to ≡ block_in a em =
    unmasked a em c.copy_from_slice.new.self middle c.mask.new.to c.mask-2.new.to size c.digest_size-size.ensures room c.copy_from_slice.ensures.after refl
    c.mask.ensures c.mask-2.ensures in
    let P : List ℕ → Type 0 = λ b. IsDataBlock a m b in
    c.in-None.ensures.cases m (subst P (sym block_is) (oaep_has a m em is))
