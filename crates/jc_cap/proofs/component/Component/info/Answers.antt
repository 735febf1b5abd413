use Rattle.std.proofs.Common.{ℕ, List, sym, subst}
use Rattle.jc_cap.specs.Reading.{IsReadable}
use Rattle.jc_cap.specs.Envelope.{info_at}
use Rattle.jc_cap.specs.Component.{component_at}
use Rattle.jc_cap.proofs.ReadAgain.{has_info, in_info}
use Rattle.jc_cap.proofs.component.Component.info.Goals as goal

pub info_found_in-requires : goal.info_found_in-requires
info_found_in-requires g c = subst (λ (t : List ℕ). IsReadable (info_at g.row.TAG t)) (sym c.as_slice.ensures.value)
    (has_info c.self.inside.format g.row.TAG c.self.inside.bytes.items c.self.invariant)

pub returns-clause-readable : goal.returns-clause-readable
returns-clause-readable g c = (
  c.self.inside.format,
  in_info c.self.inside.format g.row.TAG c.as_slice.result.now c.info_found_in.result.now
      (subst (λ (t : List ℕ). IsReadable (component_at c.self.inside.format g.row.TAG t)) (sym c.as_slice.ensures.value) c.self.invariant)
      c.info_found_in.ensures.found,
)
