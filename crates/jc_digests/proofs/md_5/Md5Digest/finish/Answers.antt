use Rattle.std.proofs.Common.{◌≡◌, ◌∙◌, ◌*◌, ◌%◌, ◌^◌, ℕ, List, length, ap, arith}
use Rattle.std.specs.Int.{to_le_bytes, w32, w64}
use Rattle.md5.specs.Md5.{initial_hash}
use Rattle.jc_digests.specs.Pieces.{bytes_of_words}
use Rattle.jc_digests.proofs.StandardFacts.{digest-md5}
use Rattle.jc_digests.proofs.md_5.Md5Digest.finish.Goals as goal

pub returns : goal.returns
returns c = λ m held.
    let kept = held.count in
    let bits : c.args.self.count * 8 % 2 ^ 64 ≡ length m * 8 % 2 ^ 64 = omega (arith, kept) in
    let field = c.length_field-field.ensures ∙ ap (to_le_bytes w64) bits in
    c.put_words_32_low_first.ensures
    ∙ ap (λ (h : List ℕ). bytes_of_words (to_le_bytes w32) h 4) (c.close_64.ensures initial_hash m held)
    ∙ digest-md5 m c.length_field-field.result field
