use Rattle.std.proofs.Common.{◌≡◌, length, slice_index, sym, ap, subst, ◌∙◌, arith}
use Rattle.jc_commit.specs.Image.{IsReadable, limit_of}
use Rattle.jc_commit.specs.State.{State}
use Rattle.jc_commit.proofs.InPlace.{limit_is, plain_word}
use Rattle.jc_commit.proofs.Words.{bounds_of}
use Rattle.jc_commit.proofs.journal.Journal.read_at.Goals as goal

pub read_at-requires : goal.read_at-requires
read_at-requires g c =
    let w = g.S.WordStore.words c.self.inside.store in
    let readable = c.requires in
    let below = readable.below in
    let same : length c.args.self.now.plain ≡ limit_of w = limit_is c.args.self.now w (ap (λ (s : State). s.plain) c.self.view_is) in
    let limit = (bounds_of w c.self.invariant.good).limit in
    omega arith

pub returns : goal.returns
returns g c =
    let w = g.S.WordStore.words c.self.inside.store in
    let a = c.args.address in
    let same = limit_is c.args.self.now w (ap (λ (s : State). s.plain) c.self.view_is) in
    c.read_at.ensures ∙ sym (plain_word w a c.self.invariant.good (subst (λ n. IsReadable n a) same c.requires))
    ∙ ap (λ (s : State). slice_index s.plain a) c.self.view_is
