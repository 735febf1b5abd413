-- Tests of encodings, by what the library says of them.
use Rattle.std.proofs.Common.{◌≡◌, ◌∙◌, ◌+◌, ◌-◌, ◌≤◌, ℕ, Bool, List, length, length-drop, sym, ap, arith}
use Rattle.std.specs.Prelude.{nat_le, ◌&&◌, ◌↔◌, IsTrue}
use Rattle.std.specs.Bool.{Decides}
use Rattle.std.specs.Str.{bytes_eq}
use Rattle.std.proofs.lemmas.Bool.{le-leb, leb-true}
use Rattle.std.proofs.lemmas.Bool.Decides.{Decides-and, Decides-like, same_from_decides}
use Rattle.std.proofs.lemmas.Slice.Eq.{bytes_eq-Decides}
use Rattle.jc_digests.specs.Kept.{digest_size}
use Rattle.jc_digests.specs.declared.kept.HashAlgorithm.{HashAlgorithm}
use Rattle.jc_rsa.specs.EmsaPkcs1.{IsSignatureBlock, digest_info, signature_block}
use Rattle.jc_rsa.specs.EmsaPss.{IsPss, pss}
use Rattle.jc_rsa.proofs.PssBlocks.{length-unmasked_in, salt_found, unmasked_in}
use Rattle.jc_public_keys.specs.RsaSignatures.{is_pkcs1, is_pss, salt_in}

fits_and_is : (a b : ℕ) (xs ys : List ℕ) → Decides (nat_le a b && bytes_eq xs ys) ((a ≤ b) × (xs ≡ ys))
fits_and_is a b xs ys = Decides-and (nat_le a b) (bytes_eq xs ys) (leb-true a b, le-leb a b) (bytes_eq-Decides xs ys)

pub pkcs1_tested : (h : HashAlgorithm) (digest em : List ℕ) (r : Bool) → (IsTrue r ↔ IsSignatureBlock (digest_info h digest) em) → r ≡ is_pkcs1 h digest em
unfolding is_pkcs1
pkcs1_tested h digest em r is =
    let t : List ℕ = digest_info h digest in
    let block : List ℕ = signature_block t (length em) in
    same_from_decides r (nat_le (length t + 11) (length em) && bytes_eq em block) is
    (Decides-like (nat_le (length t + 11) (length em) && bytes_eq em block) (λ (both : (length t + 11 ≤ length em) × (em ≡ block)). record { fits = both.0; is = both.1 })
    (λ (b : IsSignatureBlock t em). (b.fits, b.is)) (fits_and_is (length t + 11) (length em) em block))

pub pss_tested : (h : HashAlgorithm) (digest em : List ℕ) (r : Bool) → (IsTrue r ↔ IsPss h digest (digest_size h) 1 em) → r ≡ is_pss h digest em
unfolding is_pss
pss_tested h digest em r is =
    let size = digest_size h in
    let block : List ℕ = pss h digest (salt_in h em) 1 (length em) in
    let test : Bool = nat_le (size + size + 2) (length em) && bytes_eq em block in
    same_from_decides r test is
    (Decides-like test (λ (both : (size + size + 2 ≤ length em) × (em ≡ block)). record {
      salt = salt_in h em;
      whole = omega (arith, length-drop (length em - size - 1 - size) (unmasked_in h em), length-unmasked_in h em, both.0);
      fits = both.0;
      is = both.1;
    })
    (λ (b : IsPss h digest size 1 em). (b.fits, b.is ∙ ap (λ (xs : List ℕ). pss h digest xs 1 (length em)) (sym (salt_found h digest size 1 em b))))
    (fits_and_is (size + size + 2) (length em) em block))
