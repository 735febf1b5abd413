use Rattle.std.proofs.Common.{◌+◌, List, ℕ, [], ◌∷◌, ◌++◌, length, refl, ◌∙◌, ap, subst, arith, append_assoc}
use Rattle.std.proofs.lemmas.List.{length-append}
use Rattle.jc_heap.specs.Fresh.{Fills}
use Rattle.jc_heap.specs.Package.{parts, array_inits, components_words, image_words, record_size, package_record}
use Rattle.jc_heap.specs.Packed.{packed_words}
use Rattle.jc_heap.proofs.Packing.{length-array_inits}
use Rattle.jc_heap.proofs.Streams.{Stands, first_piece, next_piece, stands_below, stands_free, free_fewer}
use Rattle.jc_heap.proofs.FreshRuns.{anyway, torn_piece}
use Rattle.jc_heap.proofs.record.write_package_record.Goals as goal

pub write_run-requires : goal.write_run-requires
unfolding record_size
write_run-requires g c = free_fewer c.args.at c.args.size 1 c.args.journal.now c.requires.free (omega (arith, c.requires.size))

pub write_components-requires-clause-free : goal.write_components-requires-clause-free
unfolding record_size
write_components-requires-clause-free g c =
    let s1 : Stands c.args.at (c.args.at + 1) (c.args.size ∷ []) c.args.journal.now c.write_run.new.journal =
    first_piece c.args.at (c.args.at + 1) (c.args.size ∷ []) c.args.journal.now c.write_run.new.journal c.write_run.ensures.below
    c.in_ok-write_run.ensures.done refl in
    stands_free c.args.at (c.args.at + 1) c.args.size (length (components_words (parts c.args.components.now)))
    (c.args.size ∷ []) c.args.journal.now c.write_run.new.journal c.requires.free s1 (omega (arith, c.requires.size))

pub returns-in_err-next-clause-below : goal.returns-in_err-next-clause-below
returns-in_err-next-clause-below g c =
    let s1 : Stands c.args.at (c.args.at + 1) (c.args.size ∷ []) c.args.journal.now c.write_run.new.journal =
    first_piece c.args.at (c.args.at + 1) (c.args.size ∷ []) c.args.journal.now c.write_run.new.journal c.write_run.ensures.below
    c.in_ok-write_run.ensures.done refl in
    stands_below c.args.at (c.args.at + 1) (c.args.size ∷ []) c.args.journal.now c.write_run.new.journal c.write_components.new.journal s1
    c.write_components.ensures.below

pub write_run-requires-2 : goal.write_run-requires-2
unfolding record_size
write_run-requires-2 g c =
    let comps : List ℕ = components_words (parts c.args.components.now) in
    let s1 : Stands c.args.at (c.args.at + 1) (c.args.size ∷ []) c.args.journal.now c.write_run.new.journal =
    first_piece c.args.at (c.args.at + 1) (c.args.size ∷ []) c.args.journal.now c.write_run.new.journal c.write_run.ensures.below
    c.in_ok-write_run.ensures.done refl in
    let s2 : Stands c.args.at c.in_ok-next.next (c.args.size ∷ comps) c.args.journal.now c.write_components.new.journal =
    next_piece c.args.at (c.args.at + 1) c.in_ok-next.next (c.args.size ∷ []) comps c.args.journal.now c.write_run.new.journal
    c.write_components.new.journal s1 c.write_components.ensures.below c.in_ok-next.ensures.done c.in_ok-next.ensures.behind in
    stands_free c.args.at c.in_ok-next.next c.args.size 1 (c.args.size ∷ comps) c.args.journal.now c.write_components.new.journal c.requires.free s2
    (omega (arith, c.requires.size))

pub returns-in_err-write_run-2-clause-below : goal.returns-in_err-write_run-2-clause-below
returns-in_err-write_run-2-clause-below g c =
    let comps : List ℕ = components_words (parts c.args.components.now) in
    let s1 : Stands c.args.at (c.args.at + 1) (c.args.size ∷ []) c.args.journal.now c.write_run.new.journal =
    first_piece c.args.at (c.args.at + 1) (c.args.size ∷ []) c.args.journal.now c.write_run.new.journal c.write_run.ensures.below
    c.in_ok-write_run.ensures.done refl in
    let s2 : Stands c.args.at c.in_ok-next.next (c.args.size ∷ comps) c.args.journal.now c.write_components.new.journal =
    next_piece c.args.at (c.args.at + 1) c.in_ok-next.next (c.args.size ∷ []) comps c.args.journal.now c.write_run.new.journal
    c.write_components.new.journal s1 c.write_components.ensures.below c.in_ok-next.ensures.done c.in_ok-next.ensures.behind in
    stands_below c.args.at c.in_ok-next.next (c.args.size ∷ comps) c.args.journal.now c.write_components.new.journal c.write_run-2.new.journal s2
    c.write_run-2.ensures.below

pub write_static_image-requires-clause-free : goal.write_static_image-requires-clause-free
unfolding record_size
write_static_image-requires-clause-free g c =
    let comps : List ℕ = components_words (parts c.args.components.now) in
    let s1 : Stands c.args.at (c.args.at + 1) (c.args.size ∷ []) c.args.journal.now c.write_run.new.journal =
    first_piece c.args.at (c.args.at + 1) (c.args.size ∷ []) c.args.journal.now c.write_run.new.journal c.write_run.ensures.below
    c.in_ok-write_run.ensures.done refl in
    let s2 : Stands c.args.at c.in_ok-next.next (c.args.size ∷ comps) c.args.journal.now c.write_components.new.journal =
    next_piece c.args.at (c.args.at + 1) c.in_ok-next.next (c.args.size ∷ []) comps c.args.journal.now c.write_run.new.journal
    c.write_components.new.journal s1 c.write_components.ensures.below c.in_ok-next.ensures.done c.in_ok-next.ensures.behind in
    let s3 : Stands c.args.at (c.in_ok-next.next + 1) ((c.args.size ∷ comps) ++ 0 ∷ []) c.args.journal.now c.write_run-2.new.journal =
    next_piece c.args.at c.in_ok-next.next (c.in_ok-next.next + 1) (c.args.size ∷ comps)
    (0 ∷ []) c.args.journal.now c.write_components.new.journal c.write_run-2.new.journal s2 c.write_run-2.ensures.below c.in_ok-write_run-2.ensures.done
    refl in
    stands_free c.args.at (c.in_ok-next.next + 1) c.args.size (length c.args.arrays.now + length (packed_words c.args.image.now))
    ((c.args.size ∷ comps) ++ 0 ∷ []) c.args.journal.now c.write_run-2.new.journal c.requires.free s3
    (omega (arith, c.requires.size, length-append (c.args.size ∷ comps) (0 ∷ []), length-array_inits c.args.arrays.now))

pub returns-in_err-write_static_image-clause-below : goal.returns-in_err-write_static_image-clause-below
returns-in_err-write_static_image-clause-below g c =
    let comps : List ℕ = components_words (parts c.args.components.now) in
    let s1 : Stands c.args.at (c.args.at + 1) (c.args.size ∷ []) c.args.journal.now c.write_run.new.journal =
    first_piece c.args.at (c.args.at + 1) (c.args.size ∷ []) c.args.journal.now c.write_run.new.journal c.write_run.ensures.below
    c.in_ok-write_run.ensures.done refl in
    let s2 : Stands c.args.at c.in_ok-next.next (c.args.size ∷ comps) c.args.journal.now c.write_components.new.journal =
    next_piece c.args.at (c.args.at + 1) c.in_ok-next.next (c.args.size ∷ []) comps c.args.journal.now c.write_run.new.journal
    c.write_components.new.journal s1 c.write_components.ensures.below c.in_ok-next.ensures.done c.in_ok-next.ensures.behind in
    let s3 : Stands c.args.at (c.in_ok-next.next + 1) ((c.args.size ∷ comps) ++ 0 ∷ []) c.args.journal.now c.write_run-2.new.journal =
    next_piece c.args.at c.in_ok-next.next (c.in_ok-next.next + 1) (c.args.size ∷ comps)
    (0 ∷ []) c.args.journal.now c.write_components.new.journal c.write_run-2.new.journal s2 c.write_run-2.ensures.below c.in_ok-write_run-2.ensures.done
    refl in
    stands_below c.args.at (c.in_ok-next.next + 1) ((c.args.size ∷ comps) ++ 0 ∷ []) c.args.journal.now c.write_run-2.new.journal
    c.write_static_image.new.journal s3 c.write_static_image.ensures.below

pub returns-clause-below : goal.returns-clause-below
returns-clause-below g c =
    let comps : List ℕ = components_words (parts c.args.components.now) in
    let s1 : Stands c.args.at (c.args.at + 1) (c.args.size ∷ []) c.args.journal.now c.write_run.new.journal =
    first_piece c.args.at (c.args.at + 1) (c.args.size ∷ []) c.args.journal.now c.write_run.new.journal c.write_run.ensures.below
    c.in_ok-write_run.ensures.done refl in
    let s2 : Stands c.args.at c.in_ok-next.next (c.args.size ∷ comps) c.args.journal.now c.write_components.new.journal =
    next_piece c.args.at (c.args.at + 1) c.in_ok-next.next (c.args.size ∷ []) comps c.args.journal.now c.write_run.new.journal
    c.write_components.new.journal s1 c.write_components.ensures.below c.in_ok-next.ensures.done c.in_ok-next.ensures.behind in
    let s3 : Stands c.args.at (c.in_ok-next.next + 1) ((c.args.size ∷ comps) ++ 0 ∷ []) c.args.journal.now c.write_run-2.new.journal =
    next_piece c.args.at c.in_ok-next.next (c.in_ok-next.next + 1) (c.args.size ∷ comps)
    (0 ∷ []) c.args.journal.now c.write_components.new.journal c.write_run-2.new.journal s2 c.write_run-2.ensures.below c.in_ok-write_run-2.ensures.done
    refl in
    stands_below c.args.at (c.in_ok-next.next + 1) ((c.args.size ∷ comps) ++ 0 ∷ []) c.args.journal.now c.write_run-2.new.journal
    c.write_static_image.new.journal s3 c.write_static_image.ensures.below

pub returns-clause-done : goal.returns-clause-done
unfolding package_record
returns-clause-done g c =
    let comps : List ℕ = components_words (parts c.args.components.now) in
    let img : List ℕ = image_words (c.args.at + c.args.size) (array_inits c.args.arrays.now) c.args.image.now in
    let s1 : Stands c.args.at (c.args.at + 1) (c.args.size ∷ []) c.args.journal.now c.write_run.new.journal =
    first_piece c.args.at (c.args.at + 1) (c.args.size ∷ []) c.args.journal.now c.write_run.new.journal c.write_run.ensures.below
    c.in_ok-write_run.ensures.done refl in
    let s2 : Stands c.args.at c.in_ok-next.next (c.args.size ∷ comps) c.args.journal.now c.write_components.new.journal =
    next_piece c.args.at (c.args.at + 1) c.in_ok-next.next (c.args.size ∷ []) comps c.args.journal.now c.write_run.new.journal
    c.write_components.new.journal s1 c.write_components.ensures.below c.in_ok-next.ensures.done c.in_ok-next.ensures.behind in
    let s3 : Stands c.args.at (c.in_ok-next.next + 1) ((c.args.size ∷ comps) ++ 0 ∷ []) c.args.journal.now c.write_run-2.new.journal =
    next_piece c.args.at c.in_ok-next.next (c.in_ok-next.next + 1) (c.args.size ∷ comps)
    (0 ∷ []) c.args.journal.now c.write_components.new.journal c.write_run-2.new.journal s2 c.write_run-2.ensures.below c.in_ok-write_run-2.ensures.done
    refl in
    let s4 : Stands c.args.at (c.in_ok-next.next + 1 + length img) (((c.args.size ∷ comps) ++ 0 ∷ []) ++ img) c.args.journal.now
    c.write_static_image.new.journal = next_piece c.args.at (c.in_ok-next.next + 1) (c.in_ok-next.next + 1 + length img)
    ((c.args.size ∷ comps) ++ 0 ∷ []) img c.args.journal.now c.write_run-2.new.journal c.write_static_image.new.journal s3
    c.write_static_image.ensures.below c.in_ok-write_static_image.ensures.done refl in
    subst (λ l. Fills c.args.at l c.args.journal.now c.write_static_image.new.journal)
    (append_assoc (c.args.size ∷ comps) (0 ∷ []) img ∙ ap (λ n. n ∷ (comps ++ 0 ∷ image_words (c.args.at + n) (array_inits c.args.arrays.now) c.args.image.now))
    c.requires.size)
    s4.words

pub returns-in_err-write_run-clause-stopped : goal.returns-in_err-write_run-clause-stopped
unfolding record_size
returns-in_err-write_run-clause-stopped g c =
    let comps : List ℕ = components_words (parts c.args.components.now) in
    let st = c.in_err-write_run.ensures.stopped in
    anyway c.from_residual.result _ (record { down = st.down; from = st.from; short = λ small. omega (arith, small, st.short small, c.requires.size); refusals = st.refusals })

pub returns-in_err-next-clause-stopped : goal.returns-in_err-next-clause-stopped
unfolding record_size
returns-in_err-next-clause-stopped g c =
    let comps : List ℕ = components_words (parts c.args.components.now) in
    let s1 : Stands c.args.at (c.args.at + 1) (c.args.size ∷ []) c.args.journal.now c.write_run.new.journal =
    first_piece c.args.at (c.args.at + 1) (c.args.size ∷ []) c.args.journal.now c.write_run.new.journal c.write_run.ensures.below
    c.in_ok-write_run.ensures.done refl in
    anyway c.from_residual-in_err-next.result _ (torn_piece c.args.at c.args.size _ (c.args.size ∷ []) c.args.journal.now c.write_run.new.journal
    c.write_components.new.journal s1.words c.in_err-next.ensures.stopped (omega (arith, c.requires.size)))

pub returns-in_err-write_run-2-clause-stopped : goal.returns-in_err-write_run-2-clause-stopped
unfolding record_size
returns-in_err-write_run-2-clause-stopped g c =
    let comps : List ℕ = components_words (parts c.args.components.now) in
    let s1 : Stands c.args.at (c.args.at + 1) (c.args.size ∷ []) c.args.journal.now c.write_run.new.journal =
    first_piece c.args.at (c.args.at + 1) (c.args.size ∷ []) c.args.journal.now c.write_run.new.journal c.write_run.ensures.below
    c.in_ok-write_run.ensures.done refl in
    let s2 : Stands c.args.at c.in_ok-next.next (c.args.size ∷ comps) c.args.journal.now c.write_components.new.journal =
    next_piece c.args.at (c.args.at + 1) c.in_ok-next.next (c.args.size ∷ []) comps c.args.journal.now c.write_run.new.journal
    c.write_components.new.journal s1 c.write_components.ensures.below c.in_ok-next.ensures.done c.in_ok-next.ensures.behind in
    anyway c.from_residual-in_err-write_run-2.result _ (torn_piece c.args.at c.args.size _ (c.args.size ∷ comps) c.args.journal.now c.write_components.new.journal
    c.write_run-2.new.journal s2.words c.in_err-write_run-2.ensures.stopped (omega (arith, c.requires.size)))

pub returns-in_err-write_static_image-clause-stopped : goal.returns-in_err-write_static_image-clause-stopped
unfolding record_size
returns-in_err-write_static_image-clause-stopped g c =
    let comps : List ℕ = components_words (parts c.args.components.now) in
    let s1 : Stands c.args.at (c.args.at + 1) (c.args.size ∷ []) c.args.journal.now c.write_run.new.journal =
    first_piece c.args.at (c.args.at + 1) (c.args.size ∷ []) c.args.journal.now c.write_run.new.journal c.write_run.ensures.below
    c.in_ok-write_run.ensures.done refl in
    let s2 : Stands c.args.at c.in_ok-next.next (c.args.size ∷ comps) c.args.journal.now c.write_components.new.journal =
    next_piece c.args.at (c.args.at + 1) c.in_ok-next.next (c.args.size ∷ []) comps c.args.journal.now c.write_run.new.journal
    c.write_components.new.journal s1 c.write_components.ensures.below c.in_ok-next.ensures.done c.in_ok-next.ensures.behind in
    let s3 : Stands c.args.at (c.in_ok-next.next + 1) ((c.args.size ∷ comps) ++ 0 ∷ []) c.args.journal.now c.write_run-2.new.journal =
    next_piece c.args.at c.in_ok-next.next (c.in_ok-next.next + 1) (c.args.size ∷ comps)
    (0 ∷ []) c.args.journal.now c.write_components.new.journal c.write_run-2.new.journal s2 c.write_run-2.ensures.below c.in_ok-write_run-2.ensures.done
    refl in
    anyway c.from_residual-in_err-write_static_image.result _ (torn_piece c.args.at c.args.size _ ((c.args.size ∷ comps) ++ 0 ∷ []) c.args.journal.now
    c.write_run-2.new.journal c.write_static_image.new.journal s3.words c.in_err-write_static_image.ensures.stopped
    (omega (arith, c.requires.size, length-append (c.args.size ∷ comps) (0 ∷ []), length-array_inits c.args.arrays.now)))
