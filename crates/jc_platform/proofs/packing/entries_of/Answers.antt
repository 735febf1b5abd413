use Rattle.std.proofs.Common.{◌≡◌, ◌++◌, ◌∷◌, List, Some, ap, reverse, sym, ◌∙◌}
use Rattle.jc_platform.specs.declared.row.Row.{Row}
use Rattle.jc_platform.proofs.Lines.{reverse-cons}
use Rattle.jc_platform.proofs.Packed.{next_entry, no_entries}
use Rattle.jc_platform.proofs.packing.entries_of.Goals as goal

pub returns-in_default-entry_of : goal.returns-in_default-entry_of
returns-in_default-entry_of c =
    let done = c.loop-row.invariant.0 in
    let row = c.in-Some.row.now in
    let more = c.in-Some.more.now in
    let is : c.args.rows.now ≡ reverse done ++ row ∷ more =
    c.loop-row.invariant.1 ∙ ap (λ (left : List Row). reverse done ++ left) c.in-Some.ensures.cases.0 in
    sym (no_entries c.args.rows.now done more row is (sym c.entry_of.ensures ∙ c.in_default-entry_of.is))

pub loop-row-preserved : goal.loop-row-preserved
loop-row-preserved c =
    let done = c.loop-row.invariant.0 in
    let row = c.in-Some.row.now in
    let more = c.in-Some.more.now in
    let entry = c.in-Some-entry_of.entry in
    let is : c.args.rows.now ≡ reverse done ++ row ∷ more =
    c.loop-row.invariant.1 ∙ ap (λ (left : List Row). reverse done ++ left) c.in-Some.ensures.cases.0 in (
      row ∷ done,
      is ∙ sym (reverse-cons row done more),
      next_entry done row c.loop-row.bytes.items entry c.loop-row.invariant.2 (sym c.entry_of.ensures ∙ c.in-Some-entry_of.is)
          ∙ ap Some (sym c.in_ok-extend_from_slice.ensures.items),
    )
