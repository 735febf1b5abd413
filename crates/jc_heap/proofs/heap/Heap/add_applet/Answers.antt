use Rattle.std.proofs.Common.{◌≡◌, ◌*◌, arith}
use Rattle.jc_heap.proofs.heap.Heap.add_applet.Goals as goal

pub overflow_add-number : goal.overflow_add-number
overflow_add-number g c =
    let count : c.applets-number.result ≡ c.args.self.now.now.counts.1 = c.applets-number.ensures in
    omega (arith, count, c.requires.few)

pub overflow_add-first : goal.overflow_add-first
overflow_add-first g c =
    let count : c.applets-number.result ≡ c.args.self.now.now.counts.1 = c.applets-number.ensures in
    let first : c.entry_start-first.result ≡ 3 * c.applets-number.result = c.entry_start-first.ensures in
    omega (arith, count, first, c.requires.few)

pub overflow_add-first-2 : goal.overflow_add-first-2
overflow_add-first-2 g c =
    let count : c.applets-number.result ≡ c.args.self.now.now.counts.1 = c.applets-number.ensures in
    let first : c.entry_start-first.result ≡ 3 * c.applets-number.result = c.entry_start-first.ensures in
    omega (arith, count, first, c.requires.few)
