use Rattle.std.proofs.Common.{◌≡◌, ◌∙◌, ◌*◌, ◌%◌, ◌^◌, ℕ, List, length, ap, arith}
use Rattle.std.specs.Int.{to_be_bytes, w64, w128}
use Rattle.sha2.specs.Sha512.{initial_hash_384}
use Rattle.jc_digests.specs.Pieces.{bytes_of_words}
use Rattle.jc_digests.proofs.StandardFacts.{digest-sha384}
use Rattle.jc_digests.proofs.sha_512.Sha384Digest.finish.Goals as goal

pub returns : goal.returns
returns c = λ m held.
    let kept = held.count in
    let bits : c.args.self.count * 8 % 2 ^ 128 ≡ length m * 8 % 2 ^ 128 = omega (arith, kept) in
    let field = c.to_be_bytes-field.ensures ∙ ap (to_be_bytes w128) bits in
    c.put_words_64.ensures
    ∙ ap (λ (h : List ℕ). bytes_of_words (to_be_bytes w64) h 6) (c.close_128.ensures initial_hash_384 m held)
    ∙ digest-sha384 m c.to_be_bytes-field.result field
