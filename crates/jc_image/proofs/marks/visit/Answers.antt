use Rattle.std.proofs.Common.{arith, ◌≡◌, ◌∙◌, ap, sym, true}
use Rattle.jc_transient.specs.declared.cell.ClearEvent.TheVariants.{Reset, Deselect}
use Rattle.jc_transient.specs.declared.sizes.RamSizes.{RamSizes}
use Rattle.jc_heap.specs.Image.{image, package_addresses, is_package}
use Rattle.jc_heap.specs.Heap.{area_limit, heap_of}
use Rattle.jc_image.proofs.Filling.{package_cells, package_fits}
use Rattle.jc_image.proofs.Referring.{holds_package}
use Rattle.jc_image.proofs.marks.visit.Goals as goal

pub returns-then-begins_package-clause-fits : goal.returns-then-begins_package-clause-fits
returns-then-begins_package-clause-fits g c =
    let there : is_package (package_addresses (image c.args.journal.now.plain)) c.args.at ≡ true = sym c.begins_package.ensures
    ∙ c.if-begins_package.true in (
      package_fits c.args.journal.now.plain c.args.at Reset c.requires.bounds.fits c.requires.here
          (area_limit (heap_of c.args.journal.now.plain) Reset) c.args.places.reset (omega (arith, c.requires.room.0, ap (λ (s : RamSizes). s.reset) c.requires.sizes)) there,
      package_fits c.args.journal.now.plain c.args.at Deselect c.requires.bounds.fits c.requires.here
          (area_limit (heap_of c.args.journal.now.plain) Deselect) c.args.places.deselect (omega (arith, c.requires.room.1, ap (λ (s : RamSizes). s.deselect) c.requires.sizes)) there,
    )

pub returns-then-begins_package-clause-next : goal.returns-then-begins_package-clause-next
returns-then-begins_package-clause-next g c =
    let there : is_package (package_addresses (image c.args.journal.now.plain)) c.args.at ≡ true = sym c.begins_package.ensures
    ∙ c.if-begins_package.true in (
      omega (arith, package_cells c.args.journal.now.plain c.args.at Reset c.requires.bounds.fits c.requires.here there),
      omega (arith, package_cells c.args.journal.now.plain c.args.at Deselect c.requires.bounds.fits c.requires.here there),
    )

pub returns-then-begins_package-clause-held : goal.returns-then-begins_package-clause-held
returns-then-begins_package-clause-held g c =
    let there : is_package (package_addresses (image c.args.journal.now.plain)) c.args.at ≡ true = sym c.begins_package.ensures
    ∙ c.if-begins_package.true in (
      (λ all. (
        all,
        holds_package (heap_of c.args.journal.now.plain) c.args.journal.now.plain c.args.at c.requires.bounds.fits c.requires.here there,
      )),
      λ both. both.0,
    )
