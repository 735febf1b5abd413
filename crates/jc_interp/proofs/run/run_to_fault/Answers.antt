use Rattle.std.proofs.Common.{◌-◌, Ok, Some, ap, ◌∙◌, sym}
use Rattle.jc_heap.specs.Completions.{Completed}
use Rattle.jc_frames.specs.declared.outcome.Outcome.TheVariants.{Fault}
use Rattle.jc_interp.specs.Attacks.{faulted}
use Rattle.jc_interp.specs.Step.{code_of}
use Rattle.jc_interp.proofs.Struck.{on_from_struck, struck, struck_ends, up_to}
use Rattle.jc_interp.proofs.run.run_to_fault.Goals as goal

pub returns-in-Some : goal.returns-in-Some
returns-in-Some g c = rw (c.in_ok-end.was ∙ ap (λ e. Ok e) c.in-Some.is) at (up_to c.run_whole.result c.args.attack c.args.budget c.requires.within
    c.args.lent.now c.args.linked.now c.args.frames.now c.run_whole.new.frames c.args.memory.now c.run_whole.new.memory c.run_whole.ensures)

pub note_end-requires : goal.note_end-requires
note_end-requires g c =
    let part = rw (c.in_ok-end.was ∙ ap (λ e. Ok e) c.in_default.is) at (up_to c.run_whole.result c.args.attack c.args.budget c.requires.within
    c.args.lent.now c.args.linked.now c.args.frames.now c.run_whole.new.frames c.args.memory.now c.run_whole.new.memory c.run_whole.ensures) in
    record { up = part.0 ∙ c.requires.up }

pub returns-in-Ok : goal.returns-in-Ok
returns-in-Ok g c =
    let a = c.args.attack in
    let s = c.run_whole.new.frames in
    let m = c.run_whole.new.memory in
    let part = rw (c.in_ok-end.was ∙ ap (λ e. Ok e) c.in_default.is) at (up_to c.run_whole.result a c.args.budget c.requires.within c.args.lent.now
    c.args.linked.now c.args.frames.now s c.args.memory.now m c.run_whole.ensures) in
    let goes = ap (λ code. faulted a.model code s) (sym (c.code_of-code.ensures.code
    ∙ ap (λ o. code_of c.args.lent.now c.args.linked.now o.package_number) c.origin.ensures)) ∙ sym c.in-Ok.ensures in (
      part.0,
      on_from_struck (Some a) c.args.budget a c.args.lent.now c.args.linked.now c.args.frames.now s c.strike.new.frames c.args.memory.now m part.1
          (struck a c.args.lent.now c.args.linked.now s m c.requires.comes c.strike.new.frames goes),
    )

pub returns-after-are_kept : goal.returns-after-are_kept
returns-after-are_kept g c =
    let a = c.args.attack in
    let s = c.run_whole.new.frames in
    let m = c.run_whole.new.memory in
    let part = rw (c.in_ok-end.was ∙ ap (λ e. Ok e) c.in_default.is) at (up_to c.run_whole.result a c.args.budget c.requires.within c.args.lent.now
    c.args.linked.now c.args.frames.now s c.args.memory.now m c.run_whole.ensures) in
    let ends = ap (λ code. faulted a.model code s) (sym (c.code_of-code.ensures.code
    ∙ ap (λ o. code_of c.args.lent.now c.args.linked.now o.package_number) c.origin.ensures)) ∙ sym c.in-Err.ensures in
    part.1 (Completed (a.left - 1, Fault) m) (struck_ends a c.args.lent.now c.args.linked.now s m c.requires.comes ends)
