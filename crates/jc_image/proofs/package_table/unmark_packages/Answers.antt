use Rattle.std.proofs.Common.{arith, ◌≡◌, ◌<◌, ◌≤◌, ◌∙◌, sym, get_or, length, min}
use Rattle.jc_words.specs.Layout.{packages_address, most_packages, text_start, top_address}
use Rattle.jc_heap.specs.Image.{image, package_addresses}
use Rattle.jc_heap.specs.Heap.{heap_of}
use Rattle.jc_heap.proofs.Walks.{length-packages, package_read}
use Rattle.jc_image.proofs.PackageTable.{table_long, table_short, table_readable}
use Rattle.jc_image.proofs.Naming.{unmark_one, objects_left}
use Rattle.jc_image.proofs.package_table.unmark_packages.Goals as goal

pub overflow_add-k : goal.overflow_add-k
overflow_add-k g c = omega (arith, table_long c.args.journal.now.plain c.requires.laid c.requires.few, table_short c.args.journal.now.plain c.requires.laid)

pub read-requires : goal.read-requires
read-requires g c =
    let long : length ((heap_of c.args.journal.now.plain).packages) ≡ get_or c.args.journal.now.plain packages_address 0 =
    table_long c.args.journal.now.plain c.requires.laid c.requires.few in
    table_readable c.args.journal.now.plain c.requires.laid c.loop-k.k (omega (arith, long, c.read-count.ensures, c.loop-k-test.true))

pub loop-k-init : goal.loop-k-init
loop-k-init g c = record { long = c.requires.long; others = λ r other. c.requires.marks r; left = λ r listed marked. listed }

pub loop-k-preserved : goal.loop-k-preserved
loop-k-preserved g c =
    let wide : text_start ≤ get_or c.args.journal.now.plain top_address 0 = omega (arith, c.requires.laid.based) in
    let table : length ((heap_of c.args.journal.now.plain).packages) ≡ get_or c.args.journal.now.plain packages_address 0 =
    table_long c.args.journal.now.plain c.requires.laid c.requires.few in
    let near : c.loop-k.k < min (get_or c.args.journal.now.plain packages_address 0) most_packages =
    omega (arith, table, c.read-count.ensures, c.loop-k-test.true, table_short c.args.journal.now.plain c.requires.laid) in
    let long : c.loop-k.k < length (package_addresses (image c.args.journal.now.plain)) =
    omega (arith, near, length-packages c.args.journal.now.plain wide c.requires.laid.fits) in
    unmark_one c.args.journal.now.plain c.loop-k.marks c.loop-k.k c.from.result c.loop-k.invariant long
    (package_read c.args.journal.now.plain c.loop-k.k wide c.requires.laid.fits near ∙ sym (c.from.ensures ∙ c.read.ensures)) (omega arith)

pub returns : goal.returns
returns g c =
    let wide : text_start ≤ get_or c.args.journal.now.plain top_address 0 = omega (arith, c.requires.laid.based) in
    record {
      long = c.loop-k.invariant.long;
      objects = objects_left c.args.journal.now.plain c.loop-k.marks c.loop-k.k c.requires.laid c.loop-k.invariant (omega
          (arith, c.read-count.ensures, length-packages c.args.journal.now.plain wide c.requires.laid.fits));
    }
