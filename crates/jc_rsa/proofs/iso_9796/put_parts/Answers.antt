use Rattle.std.proofs.Common.{◌≤◌, ◌-◌, ◌∙◌, ◌++◌, ℕ, List, length, ap, sym, arith}
use Rattle.std.proofs.lemmas.List.{take_all}
use Rattle.jc_rsa.specs.Iso9796.{heading, representative, trailer_bytes}
use Rattle.jc_rsa.proofs.iso_9796.put_parts.Goals as goal

pub returns : goal.returns
unfolding representative
returns c =
    let m = c.args.recoverable.now in
    let digest = c.args.digest.now in
    let ending : List ℕ = trailer_bytes c.args.trailer in
    let count = ap (λ (k : ℕ). length c.args.to.now - length m - length digest - k) c.size.ensures in
    let room = c.requires in
    let all : length c.put_trailer.new.to ≤ c.put_trailer.result = omega (arith, count, room) in
    sym (take_all c.put_trailer.result c.put_trailer.new.to all) ∙ c.put_trailer.ensures.written
    ∙ ap (λ (xs : List ℕ). xs ++ ending) (
    c.put-end.ensures.written
    ∙ ap (λ (xs : List ℕ). xs ++ digest) (
    c.put-middle.ensures.written
    ∙ ap (λ (xs : List ℕ). xs ++ m) (c.put_heading-start.ensures.written ∙ ap (heading c.args.more) count)
    )
    )
