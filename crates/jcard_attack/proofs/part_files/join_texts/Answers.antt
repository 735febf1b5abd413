use Rattle.std.proofs.Common.{[], ℕ, List, arith, map}
use Rattle.std.specs.Borrow.{Bor}
use Rattle.std.proofs.lemmas.List.{length-map}
use Rattle.jcard_texts.proofs.Known.{appends_same}
use Rattle.jcard_sweeps.specs.Texts.{texts_of}
use Rattle.jcard_attack.proofs.FileJoins.{heads_joined, others_told}
use Rattle.jcard_files.proofs.Effects.{unfailed}
use Rattle.jcard_attack.proofs.part_files.join_texts.Goals as goal

pub join_named-requires : goal.join_named-requires
join_named-requires g c =
    let behind = c.in-Ok.ensures in
    rw c.deref.ensures.value (omega (
      arith,
      behind.all,
      length-map c.args.texts.now (λ t. t.items),
      length-map c.in-Ok.bodies.texts.items (λ (t : Bor (List ℕ)). t.now),
      c.requires.some,
    ))

pub returns-in-Ok : goal.returns-in-Ok
returns-in-Ok g c =
    let told = c.join_named.ensures.0 in
    let behind = c.in-Ok.ensures in (
      (
        told.0,
        told.1,
        heads_joined (texts_of c.args.files.now) (map (λ t. t.items) c.args.texts.now)
            (texts_of c.in-Ok.bodies.texts.items) c.in-Ok.bodies.name.now c.join_named.result told.0
            (omega (arith, length-map c.args.texts.now (λ t. t.items), c.requires.some)) behind (rw c.deref.ensures.value at told.2),
      ),
      c.join_named.ensures.1,
    )

pub returns-in-Err : goal.returns-in-Err
returns-in-Err g c = (
  (
    [],
    appends_same _,
    others_told (texts_of c.args.files.now) (map (λ t. t.items) c.args.texts.now) c.in-Err.cause c.head_fault.result
        (omega (arith, length-map c.args.texts.now (λ t. t.items), c.requires.some)) c.in-Err.ensures c.head_fault.ensures.told,
  ),
  unfailed _ c.head_fault.result c.head_fault.ensures.unwritten,
)
