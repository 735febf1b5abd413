use Rattle.std.proofs.Common.{◌∙◌, ℕ, ap, take, drop}
use Rattle.jc_ciphers.proofs.triple_des.TripleDes.new.Goals as goal

pub returns : goal.returns
returns c =
    let key = c.args.key.now in
    λ i. record {
      first = (c.new.ensures ∙ c.part.ensures) i;
      second = (c.new-2.ensures ∙ c.part-2.ensures) i;
      third = (c.new-3.ensures ∙ c.part-3.ensures ∙ ap (λ (n : ℕ). take 8 (drop n key)) c.third_place.ensures) i;
    }
