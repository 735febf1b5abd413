use Rattle.std.proofs.Common.{arith}
use Rattle.std.proofs.lemmas.Result.{err_from_is_err_and}
use Rattle.jc_commit.specs.Image.{count_of}
use Rattle.jcard_dump.specs.Entries.{entry_lines}
use Rattle.jcard_dump.proofs.LineLists.{next_listed, next_stopped, none_listed}
use Rattle.jcard_dump.proofs.entries.push_entries.Goals as goal

pub loop-i-init : goal.loop-i-init
loop-i-init g c = none_listed _ _

pub loop-i-preserved : goal.loop-i-preserved
loop-i-preserved g c = next_listed (entry_lines c.args.platform.now (g.S.WordStore.words c.args.store.now)) c.loop-i.i _ _ _ c.loop-i.invariant c.in_ok-push_entry_at.ensures

pub returns-in_err-push_entry_at : goal.returns-in_err-push_entry_at
returns-in_err-push_entry_at g c =
    let p = err_from_is_err_and c.from_residual.result c.from_residual.ensures.1 in
    let stop = c.in_err-push_entry_at.field-0.0 in
    rw (p.1, p.2) (next_stopped (entry_lines c.args.platform.now (g.S.WordStore.words c.args.store.now)) (count_of (g.S.WordStore.words c.args.store.now)) c.loop-i.i stop _ _ _ (omega (arith, c.read-count.ensures))
    c.loop-i.invariant c.in_err-push_entry_at.ensures)
