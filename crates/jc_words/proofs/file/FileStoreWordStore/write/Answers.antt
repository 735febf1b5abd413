use Rattle.std.proofs.Common.{◌≡◌, set, false, true, sym, ap, subst, rules}
use Rattle.std.specs.Prelude.{is_err, Ok, Err}
use Rattle.jc_words.specs.declared.store.StoreDown.{StoreDown}
use Rattle.jc_words.specs.HeldWrites.{HandsOver, IsInStep}
use Rattle.jc_words.proofs.HeldWrites.{Within, hands_done, hands_failed, holds_none, word_step}
use Rattle.jc_words.proofs.file.FileStoreWordStore.write.Goals as goal

pub returns-then-is_err-clause-file : goal.returns-then-is_err-clause-file
returns-then-is_err-clause-file g c = λ up.
    let bytes = g.F.WordFile.bytes in
    let old = c.args.self.now in
    let bad : is_err c.put_word.result ≡ true = search rules in
    subst (λ f. HandsOver old.held old.words old.faults c.args.i c.args.v (Err c.fail.result) (bytes old.file) (bytes f)) (sym (ap (λ s. s.file) c.fail.ensures))
    (hands_failed old.held old.words old.faults c.args.i c.args.v c.put_word.result c.fail.result (bytes old.file) (bytes c.put_word.new.self.file) bad c.put_word.ensures.file)

pub returns-clause-file : goal.returns-clause-file
returns-clause-file g c = λ up.
    let bytes = g.F.WordFile.bytes in
    let old = c.args.self.now in
    let good : is_err c.put_word.result ≡ false = search rules in
    subst (λ s. HandsOver {E = StoreDown} old.held old.words old.faults c.args.i c.args.v (Ok tt) (bytes old.file) (bytes s.file)) (sym c.self-2.view_is)
    (hands_done StoreDown old.held old.words old.faults c.args.i c.args.v c.put_word.result (bytes old.file) (bytes c.put_word.new.self.file) good c.put_word.ensures.file)

pub returns-clause-in_step : goal.returns-clause-in_step
returns-clause-in_step g c = λ is.
    let bytes = g.F.WordFile.bytes in
    let old = c.args.self.now in
    let next = c.put_word.new.self in
    let within = subst (λ s. Within s.held s.words) c.self.view_is c.self.invariant.1 in
    let good : is_err c.put_word.result ≡ false = search rules in
    let none = holds_none c.put_word.result old.held next.held good c.put_word.ensures.held in
    let step = word_step old.held old.words old.faults c.args.i c.args.v c.put_word.result (bytes old.file) (bytes next.file) good within c.requires
    c.put_word.ensures.file is in
    subst (λ f. IsInStep (bytes f.file) (set f.words c.args.i c.args.v) f.held) (sym c.self-2.view_is)
    (subst (λ f. IsInStep (bytes f.file) (set f.words c.args.i c.args.v) f.held) (sym c.put_word.ensures.same)
    (subst (λ h. IsInStep (bytes next.file) (set old.words c.args.i c.args.v) h) (sym none) step))
