use Rattle.std.proofs.Common.{◌≡◌, ◌≤◌, ◌+◌, ◌-◌, ◌∙◌, ℕ, List, drop, length, length-drop, take, refl, ap, sym, arith}
use Rattle.jc_digests.specs.Kept.{digest_size}
use Rattle.jc_rsa.specs.EmsaPss.{pss}
use Rattle.jc_rsa.proofs.PssBlocks.{length-unmasked_in, salt_found, unmasked_in, unmasked_is}
use Rattle.jc_rsa.proofs.emsa_pss.verify.Goals as goal

pub returns : goal.returns
returns c =
    let a = c.args.algorithm in
    let em = c.args.encoding.now in
    let digest = c.args.digest.now in
    let spare = c.args.spare in
    let salt_size = c.args.salt_size in
    let n = length em - digest_size a - 1 in
    let end = length em - (c.digest_size-overhead.result + 2) + 1 in
    let size_is = c.digest_size-overhead.ensures in
    let long : digest_size a + salt_size + 2 ≤ length em = omega (arith, size_is, c.if-encoding-overhead.false, c.if-encoding-overhead-2.false) in
    let end_is : end ≡ n = omega (arith, size_is, long) in
    let room : digest_size a + 1 ≤ length em = omega (arith, long) in
    let hash : List ℕ = take (length em - 1 - end) (drop end em) in
    let block_is : c.mask.new.to ≡ unmasked_in a em =
    unmasked_is a em c.copy_from_slice.new.self hash c.mask.new.to end end_is room c.copy_from_slice.ensures.after refl
    c.mask.ensures in
    let place : length c.mask.new.to - salt_size ≡ n - salt_size =
    ap (λ (xs : List ℕ). length xs - salt_size) block_is ∙ ap (λ (k : ℕ). k - salt_size) (length-unmasked_in a em) in
    let salt : List ℕ = drop (n - salt_size) (unmasked_in a em) in
    let salt_is : drop (length c.mask.new.to - salt_size) c.mask.new.to ≡ salt = (λ j. drop (place j) (block_is j)) in
    let f : List ℕ → List ℕ = λ xs. pss a digest xs spare (length em) in (
      λ yes. record {
        salt = salt;
        whole = omega (arith, length-drop (n - salt_size) (unmasked_in a em), length-unmasked_in a em, long);
        fits = long;
        is = c.has_last_salt.ensures.0 yes ∙ ap f salt_is;
      },
      λ is. c.has_last_salt.ensures.1 (is.is ∙ ap f (sym (salt_is ∙ salt_found a digest salt_size spare em is))),
    )
