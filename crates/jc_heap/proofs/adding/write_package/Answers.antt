use Rattle.std.proofs.Common.{◌≡◌, ◌+◌, ◌∙◌, length, refl, sym, ap, arith}
use Rattle.jc_heap.specs.Package.{parts, array_inits, package_record, package_size, arrays_words}
use Rattle.jc_heap.proofs.Packing.{length-arrays_words}
use Rattle.jc_heap.proofs.NewPackages.{length-package_record}
use Rattle.jc_heap.proofs.Streams.{Stands, first_piece, next_piece, stands_below, stands_free}
use Rattle.jc_heap.proofs.FreshRuns.{anyway, torn_piece}
use Rattle.jc_heap.proofs.adding.write_package.Goals as goal

pub write_arrays-requires-clause-free : goal.write_arrays-requires-clause-free
write_arrays-requires-clause-free g c =
    let rec = package_record c.args.at (parts c.args.components.now) (array_inits c.args.arrays.now) c.args.image.now in
    let size : c.args.at + c.args.size ≡ c.args.at + length rec = ap (λ n. c.args.at + n)
    (c.requires.size ∙ sym (length-package_record c.args.at (parts c.args.components.now) (array_inits c.args.arrays.now) c.args.image.now)) in
    let s1 : Stands c.args.at (c.args.at + c.args.size) rec c.args.journal.now c.write_package_record.new.journal =
    first_piece c.args.at (c.args.at + c.args.size) rec c.args.journal.now c.write_package_record.new.journal c.write_package_record.ensures.below
    c.in_ok-write_package_record.ensures.done size in
    stands_free c.args.at (c.args.at + c.args.size) (package_size (parts c.args.components.now) (array_inits c.args.arrays.now) c.args.image.now)
    (length (arrays_words (256 + c.args.number) (array_inits c.args.arrays.now))) rec c.args.journal.now c.write_package_record.new.journal c.requires.free
    s1
    (omega (
      arith,
      length-arrays_words (256 + c.args.number) (array_inits c.args.arrays.now),
      length-package_record c.args.at (parts c.args.components.now) (array_inits c.args.arrays.now) c.args.image.now,
    ))

pub returns-in_err-write_arrays-clause-below : goal.returns-in_err-write_arrays-clause-below
returns-in_err-write_arrays-clause-below g c =
    let rec = package_record c.args.at (parts c.args.components.now) (array_inits c.args.arrays.now) c.args.image.now in
    let size : c.args.at + c.args.size ≡ c.args.at + length rec = ap (λ n. c.args.at + n)
    (c.requires.size ∙ sym (length-package_record c.args.at (parts c.args.components.now) (array_inits c.args.arrays.now) c.args.image.now)) in
    let s1 : Stands c.args.at (c.args.at + c.args.size) rec c.args.journal.now c.write_package_record.new.journal =
    first_piece c.args.at (c.args.at + c.args.size) rec c.args.journal.now c.write_package_record.new.journal c.write_package_record.ensures.below
    c.in_ok-write_package_record.ensures.done size in
    stands_below c.args.at (c.args.at + c.args.size) rec c.args.journal.now c.write_package_record.new.journal c.write_arrays.new.journal s1
    c.write_arrays.ensures.below

pub returns-clause-below : goal.returns-clause-below
returns-clause-below g c =
    let rec = package_record c.args.at (parts c.args.components.now) (array_inits c.args.arrays.now) c.args.image.now in
    let size : c.args.at + c.args.size ≡ c.args.at + length rec = ap (λ n. c.args.at + n)
    (c.requires.size ∙ sym (length-package_record c.args.at (parts c.args.components.now) (array_inits c.args.arrays.now) c.args.image.now)) in
    let s1 : Stands c.args.at (c.args.at + c.args.size) rec c.args.journal.now c.write_package_record.new.journal =
    first_piece c.args.at (c.args.at + c.args.size) rec c.args.journal.now c.write_package_record.new.journal c.write_package_record.ensures.below
    c.in_ok-write_package_record.ensures.done size in
    stands_below c.args.at (c.args.at + c.args.size) rec c.args.journal.now c.write_package_record.new.journal c.write_arrays.new.journal s1
    c.write_arrays.ensures.below

pub returns-clause-done : goal.returns-clause-done
returns-clause-done g c =
    let rec = package_record c.args.at (parts c.args.components.now) (array_inits c.args.arrays.now) c.args.image.now in
    let arrays = arrays_words (256 + c.args.number) (array_inits c.args.arrays.now) in
    let size : c.args.at + c.args.size ≡ c.args.at + length rec = ap (λ n. c.args.at + n)
    (c.requires.size ∙ sym (length-package_record c.args.at (parts c.args.components.now) (array_inits c.args.arrays.now) c.args.image.now)) in
    let s1 : Stands c.args.at (c.args.at + c.args.size) rec c.args.journal.now c.write_package_record.new.journal =
    first_piece c.args.at (c.args.at + c.args.size) rec c.args.journal.now c.write_package_record.new.journal c.write_package_record.ensures.below
    c.in_ok-write_package_record.ensures.done size in
    (next_piece c.args.at (c.args.at + c.args.size) (c.args.at + c.args.size + length arrays) rec arrays c.args.journal.now c.write_package_record.new.journal
    c.write_arrays.new.journal s1 c.write_arrays.ensures.below c.in_ok-write_arrays.ensures.done refl).words

pub returns-in_err-write_arrays-clause-stopped : goal.returns-in_err-write_arrays-clause-stopped
returns-in_err-write_arrays-clause-stopped g c =
    let rec = package_record c.args.at (parts c.args.components.now) (array_inits c.args.arrays.now) c.args.image.now in
    anyway c.from_residual-in_err-write_arrays.result _ (torn_piece c.args.at _ _ rec c.args.journal.now c.write_package_record.new.journal
    c.write_arrays.new.journal c.in_ok-write_package_record.ensures.done c.in_err-write_arrays.ensures.stopped
    (omega (
      arith,
      length-arrays_words (256 + c.args.number) (array_inits c.args.arrays.now),
      length-package_record c.args.at (parts c.args.components.now) (array_inits c.args.arrays.now) c.args.image.now,
    )))
