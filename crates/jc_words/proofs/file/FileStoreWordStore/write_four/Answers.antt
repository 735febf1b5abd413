use Rattle.std.proofs.Common.{◌≡◌, ℕ, ◌+◌, ◌<◌, length, length-set, get_or, set, slice_index, false, sym, ◌∙◌, ap, subst, arith, rules}
use Rattle.std.proofs.lemmas.Grind.{get_or_default_zero}
use Rattle.std.specs.Prelude.{is_err, Some, None}
use Rattle.jc_words.specs.HeldWrites.{IsInStep}
use Rattle.jc_words.proofs.HeldWrites.{Within, held_in_step, pair_step}
use Rattle.jc_words.proofs.file.FileStoreWordStore.write_four.Goals as goal

pub returns-clause-in_step : goal.returns-clause-in_step
returns-clause-in_step g c = λ is.
    let bytes = g.F.WordFile.bytes in
    let old = c.args.self.now in
    let next = c.put_pair.new.self in
    let pair = c.args.pair in
    let within = subst (λ s. Within s.held s.words) c.self.view_is c.self.invariant.1 in
    let good : is_err c.put_pair.result ≡ false = search rules in
    let step = pair_step old.held old.words c.args.i pair.0 pair.1 c.put_pair.result (bytes old.file) (bytes next.file) good within c.requires.there
    c.put_pair.ensures.file is in
    let both = subst (λ f. IsInStep (bytes next.file) (set (set f.words c.args.i pair.0) (c.args.i + 1) pair.1) None) (sym c.put_pair.ensures.same) step in
    let here = subst (λ f. IsInStep (bytes f.file) (set (set f.words c.args.i pair.0) (c.args.i + 1) pair.1) None) (sym c.self-2.view_is) both in
    let words = set (set c.self-2.inside.words.items c.args.i pair.0) (c.args.i + 1) pair.1 in
    let first = set c.self-2.inside.words.items c.args.i pair.0 in
    let long : length words ≡ length old.words =
    length-set first (c.args.i + 1) pair.1 ∙ length-set c.self-2.inside.words.items c.args.i pair.0
    ∙ ap (λ s. length s.words) c.self-2.view_is ∙ ap (λ s. length s.words) c.put_pair.ensures.same in
    let is : (m x : ℕ) → m < length old.words → x ≡ get_or words m x → x ≡ slice_index words m = λ m x there at.
    at ∙ get_or_default_zero words m x (omega (arith, there, long)) in
    let mark = is c.args.third.0 c.index.result.now c.requires.third c.index.ensures in
    let place = is c.args.fourth.0 c.index-2.result.now c.requires.fourth c.index-2.ensures in
    held_in_step c.args.third.0 c.args.fourth.0 c.args.third.1 c.args.fourth.1 words
    (Some (record { mark = c.args.third.0; mark_before = c.index.result.now; place = c.args.fourth.0; place_before = c.index-2.result.now }))
    (bytes c.self-2.inside.file) (λ j. Some (record { mark = c.args.third.0; mark_before = mark j; place = c.args.fourth.0; place_before = place j })) here
