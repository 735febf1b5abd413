use Rattle.std.proofs.Common.{◌∙◌, ◌+◌, ◌≤◌, ap, arith, length, map, subst}
use Rattle.jc_transient.specs.Cell.{number_of}
use Rattle.jc_transient.specs.State.{HasSizes, RamState, area, area_size, size_in, with_area, with_cells}
use Rattle.jc_transient.specs.declared.sizes.RamSizes.{RamSizes}
use Rattle.jc_memory.specs.State.{MemoryState}
use Rattle.jc_memory.proofs.Running.{filled_from}
use Rattle.jc_memory.proofs.Usable.{within_area}
use Rattle.jc_memory.proofs.memory.Memory.fill.Goals as goal

pub returns : goal.returns
returns g c =
    let ram = ap (λ s. s.ram) c.self.view_is in
    let is = c.facts-place.ensures.is in
    let fits : c.facts-place.result.place + length c.args.bytes.now ≤ area_size c.args.self.now.ram c.args.event = omega
    (arith, c.facts-place.ensures.transient c.args.event (ap (λ f. f.event) is ∙ c.requires.transient), ap (λ f. f.length) is, c.requires.cells) in
    let mid = c.put_bytes.ensures.done ∙ ap (λ r. with_area r c.args.event (with_cells (area r c.args.event) c.facts-place.result.place
    (map number_of c.args.bytes.now))) ram in
    ap {A = MemoryState} (λ s. record s { ram = c.fill_zeros.new.self }) c.self.view_is
    ∙ ap {A = RamState} (λ r. record c.args.self.now { ram = r }) (filled_from c.args.event c.args.self.now c.put_bytes.new.self c.fill_zeros.new.self c.args.object
    c.facts-place.result.place c.args.zeros c.args.bytes.now (subst HasSizes ram c.self.invariant.0.ram) c.requires.transient
    (ap (λ f. f.place) is) fits mid c.fill_zeros.ensures.done)

pub put_bytes-requires : goal.put_bytes-requires
put_bytes-requires g c =
    let within = within_area c.args.self.now c.self.inside.ram c.args.object 0 (length c.args.bytes.now) c.facts-place.result c.args.event
    (ap (λ s. s.ram) c.self.view_is) c.facts-place.ensures (ap (λ f. f.event) c.facts-place.ensures.is ∙ c.requires.transient)
    (omega (arith, c.requires.cells)) in omega (arith, within)

pub overflow_add-after : goal.overflow_add-after
overflow_add-after g c = omega (
  arith,
  c.facts-place.ensures.small c.args.event (ap (λ f. f.event) c.facts-place.ensures.is ∙ c.requires.transient),
  ap (λ f. f.length) c.facts-place.ensures.is,
  c.requires.cells,
)

pub fill_zeros-requires : goal.fill_zeros-requires
fill_zeros-requires g c =
    let within = within_area c.args.self.now c.self.inside.ram c.args.object 0 (length c.args.bytes.now + c.args.zeros) c.facts-place.result c.args.event
    (ap (λ s. s.ram) c.self.view_is) c.facts-place.ensures (ap (λ f. f.event) c.facts-place.ensures.is ∙ c.requires.transient)
    (omega (arith, c.requires.cells)) in
    let same = ap (λ (z : RamSizes). size_in z c.args.event) c.put_bytes.ensures.same in omega (arith, within, same)
