use Rattle.std.proofs.Common.{◌<◌, ◌+◌, ◌*◌, ◌≤◌, length, List, ℕ, sym, subst, arith}
use Rattle.jc_words.specs.Image.{log_of}
use Rattle.jc_words.specs.declared.log.Log.{Log}
use Rattle.jc_commit.proofs.Words.{Bounds, bounds}
use Rattle.jcard_dump.proofs.entries.push_entry.Goals as goal

pub address_word-at-requires-clause-small : goal.address_word-at-requires-clause-small
address_word-at-requires-clause-small g c =
    let w : List ℕ = g.S.WordStore.words c.args.store.now in
    let b : Bounds (length w) (log_of w) = bounds (length w) (log_of w) c.requires.size.enough c.requires.size.journal in
    let within : c.args.log.start + 2 * c.args.log.capacity ≤ length w = subst (λ (l : Log). l.start + 2 * l.capacity ≤ length w) (sym c.requires.log) b.within in
    omega (arith, within, c.size.ensures)

pub overflow_add-at : goal.overflow_add-at
overflow_add-at g c =
    let w : List ℕ = g.S.WordStore.words c.args.store.now in
    let b : Bounds (length w) (log_of w) = bounds (length w) (log_of w) c.requires.size.enough c.requires.size.journal in
    let within : c.args.log.start + 2 * c.args.log.capacity ≤ length w = subst (λ (l : Log). l.start + 2 * l.capacity ≤ length w) (sym c.requires.log) b.within in
    let capacity = subst (λ (l : Log). c.args.before < l.capacity) (sym c.requires.log) c.requires.entry in
    omega (arith, within, capacity, c.size.ensures, c.address_word-at.ensures)
