use Rattle.std.proofs.Common.{[], ◌<◌, ℕ, List, arith, get_or, length, refl, sym}
use Rattle.std.specs.Borrow.{Bor}
use Rattle.std.proofs.lemmas.List.{get_or-map, length-map}
use Rattle.jcard_sweeps.proofs.PartJoins.{nothing}
use Rattle.jcard_sweeps.proofs.part_texts.head_fault.Goals as goal

pub bounds-files-place : goal.bounds-files-place
bounds-files-place c =
    let others = rw c.in-OtherSweep.is at c.requires.others in
    omega (arith, others.0, length-map c.args.texts.now (λ t. t.items), c.requires.all)

pub returns-in-OtherSweep-clause-told : goal.returns-in-OtherSweep-clause-told
returns-in-OtherSweep-clause-told c =
    let others = rw c.in-OtherSweep.is at c.requires.others in
    let within : c.in-OtherSweep.place < length c.args.files.now = omega (arith, others.0, length-map c.args.texts.now (λ t. t.items), c.requires.all) in
    rw c.in-OtherSweep.is (
      get_or c.args.files.now c.in-OtherSweep.place nothing,
      refl,
      sym (get_or-map (λ (f : Bor (List ℕ)). f.now) c.args.files.now c.in-OtherSweep.place nothing [] within),
    )
