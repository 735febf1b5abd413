use Rattle.std.proofs.Common.{ℕ, List, sym, subst}
use Rattle.jc_cap.specs.Reading.{IsReadable}
use Rattle.jc_cap.specs.Envelope.{info_at}
use Rattle.jc_cap.specs.Component.{component_at}
use Rattle.jc_cap.proofs.ReadAgain.{has_info, in_info, of_directory}
use Rattle.jc_cap.proofs.component.Component+DIRECTORY.directory.Goals as goal

pub info_found_in-info-requires : goal.info_found_in-info-requires
info_found_in-info-requires c = subst (λ (t : List ℕ). IsReadable (info_at 2 t)) (sym c.as_slice.ensures.value)
    (has_info c.self.inside.format 2 c.self.inside.bytes.items c.self.invariant)

pub found_in-requires : goal.found_in-requires
found_in-requires c = of_directory c.self.inside.format c.info_found_in-info.result.now
    (in_info c.self.inside.format 2 c.as_slice.result.now c.info_found_in-info.result.now
    (subst (λ (t : List ℕ). IsReadable (component_at c.self.inside.format 2 t)) (sym c.as_slice.ensures.value) c.self.invariant)
    c.info_found_in-info.ensures.found)
