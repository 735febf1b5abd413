use Rattle.std.proofs.Common.{◌∙◌, arith, refl}
use Rattle.std.proofs.lemmas.Result.{err_from_is_err_and}
use Rattle.jcard_outcomes.proofs.Ends.{lent, lent_length}
use Rattle.jcard_outcomes.proofs.LineReads.{ended_of_fault, ended_read, ended_whole, next_of_fault, no_room, reads_begun, reads_fault, reads_next, refused_on}
use Rattle.jcard_outcomes.proofs.join.read_lines.Goals as goal

pub loop-number-init : goal.loop-number-init
loop-number-init c = reads_begun (lent c.args.rests.now.items) c.args.lines.now.items c.args.rests.now.items c.requires.none refl

pub loop-number-preserved : goal.loop-number-preserved
loop-number-preserved c = reads_next (lent c.args.rests.now.items) c.loop-number.lines.items c.loop-number.rests.items c.push_text.new.texts.items
    c.next_line.new.rests.items c.loop-number.number c.in-Some.told c.loop-number.invariant
    (omega (arith, lent_length c.args.rests.now.items, c.requires.some)) (rw c.in-Some.is at c.in_ok-told.ensures)
    c.in_ok-push_text-in-Some.ensures.pushed

pub returns-in-None-clause-read : goal.returns-in-None-clause-read
returns-in-None-clause-read c = ended_read (lent c.args.rests.now.items) c.loop-number.lines.items c.loop-number.rests.items
    c.next_line.new.rests.items c.loop-number.number c.ended.result c.loop-number.invariant
    (omega (arith, lent_length c.args.rests.now.items, c.requires.some)) (rw c.in-None.is at c.in_ok-told.ensures)
    (rw c.deref.ensures.value at c.ended.ensures.whole)

pub returns-in-None-clause-whole : goal.returns-in-None-clause-whole
returns-in-None-clause-whole c = ended_whole (lent c.args.rests.now.items) c.loop-number.lines.items c.loop-number.rests.items
    c.next_line.new.rests.items c.loop-number.number c.ended.result c.loop-number.invariant
    (omega (arith, lent_length c.args.rests.now.items, c.requires.some)) (rw c.in-None.is at c.in_ok-told.ensures)
    (rw c.deref.ensures.value at c.ended.ensures.whole) (rw c.deref.ensures.value at c.ended.ensures.missing)

pub returns-in_err-told-clause-whole : goal.returns-in_err-told-clause-whole
returns-in_err-told-clause-whole c =
    let p = err_from_is_err_and c.from_residual.result c.from_residual.ensures.1 in
    rw (p.1, p.2) (reads_fault (lent c.args.rests.now.items) c.loop-number.lines.items c.loop-number.rests.items c.next_line.new.rests.items
    c.loop-number.number c.in_err-told.field-0.0 c.loop-number.invariant (omega (arith, lent_length c.args.rests.now.items, c.requires.some))
    c.in_err-told.ensures)

pub returns-in-None-clause-fault : goal.returns-in-None-clause-fault
returns-in-None-clause-fault c = ended_of_fault (lent c.args.rests.now.items) c.loop-number.lines.items c.loop-number.rests.items
    c.next_line.new.rests.items c.loop-number.number c.ended.result c.loop-number.invariant
    (rw c.in-None.is at c.in_ok-told.ensures) (rw c.deref.ensures.value at c.ended.ensures.missing)

pub returns-in_err-told-clause-fault : goal.returns-in_err-told-clause-fault
returns-in_err-told-clause-fault c =
    let p = err_from_is_err_and c.from_residual.result c.from_residual.ensures.1 in
    rw (p.1, p.2) (next_of_fault (lent c.args.rests.now.items) c.loop-number.lines.items c.loop-number.rests.items c.next_line.new.rests.items
    c.loop-number.number c.in_err-told.field-0.0 c.loop-number.invariant c.in_err-told.ensures)

pub returns-in_err-push_text-in-Some-clause-fault : goal.returns-in_err-push_text-in-Some-clause-fault
returns-in_err-push_text-in-Some-clause-fault c = refused_on _ c.from_residual-in_err-push_text-in-Some.result
    c.from_residual-in_err-push_text-in-Some.ensures.1
    (λ fault e. no_room (lent c.args.rests.now.items) fault (e ∙ c.in_err-push_text-in-Some.ensures.refused))
