use Rattle.std.proofs.Common.{◌≡◌, ◌∙◌, ◌*◌, ◌%◌, ◌^◌, ℕ, List, length, ap, arith}
use Rattle.std.specs.Int.{to_be_bytes, w32, w64}
use Rattle.sha2.specs.Sha256.{initial_hash_256}
use Rattle.jc_digests.specs.Pieces.{bytes_of_words}
use Rattle.jc_digests.proofs.StandardFacts.{digest-sha256}
use Rattle.jc_digests.proofs.sha_256.Sha256Digest.finish.Goals as goal

pub returns : goal.returns
returns c = λ m held.
    let kept = held.count in
    let bits : c.args.self.count * 8 % 2 ^ 64 ≡ length m * 8 % 2 ^ 64 = omega (arith, kept) in
    let field = c.to_be_bytes-field.ensures ∙ ap (to_be_bytes w64) bits in
    c.put_words_32.ensures
    ∙ ap (λ (h : List ℕ). bytes_of_words (to_be_bytes w32) h 8) (c.close_64.ensures initial_hash_256 m held)
    ∙ digest-sha256 m c.to_be_bytes-field.result field
