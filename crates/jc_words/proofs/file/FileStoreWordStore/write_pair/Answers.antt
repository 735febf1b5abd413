use Rattle.std.proofs.Common.{◌≡◌, ◌+◌, set, false, sym, subst, rules}
use Rattle.std.specs.Prelude.{is_err}
use Rattle.jc_words.specs.HeldWrites.{IsInStep}
use Rattle.jc_words.proofs.HeldWrites.{Within, holds_none, pair_step}
use Rattle.jc_words.proofs.file.FileStoreWordStore.write_pair.Goals as goal

pub returns-clause-in_step : goal.returns-clause-in_step
returns-clause-in_step g c = λ is.
    let bytes = g.F.WordFile.bytes in
    let old = c.args.self.now in
    let next = c.put_pair.new.self in
    let within = subst (λ s. Within s.held s.words) c.self.view_is c.self.invariant.1 in
    let good : is_err c.put_pair.result ≡ false = search rules in
    let none = holds_none c.put_pair.result old.held next.held good c.put_pair.ensures.held in
    let step = pair_step old.held old.words c.args.i c.args.first c.args.second c.put_pair.result (bytes old.file) (bytes next.file) good within c.requires
    c.put_pair.ensures.file is in
    subst (λ f. IsInStep (bytes f.file) (set (set f.words c.args.i c.args.first) (c.args.i + 1) c.args.second) f.held) (sym c.self-2.view_is)
    (subst (λ f. IsInStep (bytes f.file) (set (set f.words c.args.i c.args.first) (c.args.i + 1) c.args.second) f.held) (sym c.put_pair.ensures.same)
    (subst (λ h. IsInStep (bytes next.file) (set (set old.words c.args.i c.args.first) (c.args.i + 1) c.args.second) h) (sym none) step))
