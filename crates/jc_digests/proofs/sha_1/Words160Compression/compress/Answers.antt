use Rattle.std.proofs.Common.{◌∙◌, refl, ap}
use Rattle.sha1.specs.Sha1.{add_state, compress, rounds}
use Rattle.jc_digests.proofs.sha_1.Words160Compression.compress.Goals as goal

pub returns : goal.returns
unfolding compress rounds
returns c =
    let h = c.args.self.now.words in
    let after_20 = c.rounds-v.ensures h refl in
    ap (add_state h) (c.rounds-v-4.ensures h (c.rounds-v-3.ensures h (c.rounds-v-2.ensures h after_20)) ∙ ap (λ w. rounds h w 80) c.schedule.ensures)
