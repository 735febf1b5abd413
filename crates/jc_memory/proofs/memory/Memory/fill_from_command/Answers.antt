use Rattle.std.proofs.Common.{◌≡◌, ◌∙◌, ◌+◌, ◌≤◌, ℕ, List, ap, arith, length, map, subst, sym, take, pos, replicate}
use Rattle.std.proofs.lemmas.List.{length-take-le}
use Rattle.jc_transient.specs.Cell.{number_of}
use Rattle.jc_transient.specs.declared.cell.CellValue.TheVariants.{Short}
use Rattle.jc_transient.specs.State.{HasSizes, RamState, area, area_size, size_in, with_area, with_cells}
use Rattle.jc_transient.specs.declared.sizes.RamSizes.{RamSizes}
use Rattle.jc_memory.specs.State.{MemoryState}
use Rattle.jc_memory.proofs.Running.{filled_from}
use Rattle.jc_memory.proofs.Usable.{within_area}
use Rattle.jc_memory.proofs.memory.Memory.fill_from_command.Goals as goal

pub returns : goal.returns
returns g c =
    let ram = ap (λ s. s.ram) c.self.view_is in
    let is = c.facts-place.ensures.is in
    let bytes : List ℕ = take c.args.count c.args.self.now.command in
    let long : length bytes ≡ c.args.count = length-take-le c.args.count c.args.self.now.command c.requires.bytes in
    let cut : take c.from.result c.as_slice.result.now ≡ bytes =
    ap (λ n. take n c.as_slice.result.now) c.from.ensures
    ∙ ap (take c.args.count) (c.as_slice.ensures.bytes ∙ ap (λ s. s.command) c.self.view_is) in
    let fits : c.facts-place.result.place + length bytes ≤ area_size c.args.self.now.ram c.args.event = omega
    (arith, long, c.facts-place.ensures.transient c.args.event (ap (λ f. f.event) is ∙ c.requires.transient), ap (λ f. f.length) is, c.requires.cells) in
    let mid = c.put_bytes.ensures.done ∙ ap (λ r. with_area r c.args.event (with_cells (area r c.args.event) c.facts-place.result.place
    (map number_of (take c.from.result c.as_slice.result.now)))) ram
    ∙ ap (λ bs. with_area c.args.self.now.ram c.args.event (with_cells (area c.args.self.now.ram c.args.event) c.facts-place.result.place
    (map number_of bs))) cut in
    let last = c.fill_zeros.ensures.done ∙ ap (λ n. with_area c.put_bytes.new.self c.args.event (with_cells (area c.put_bytes.new.self c.args.event)
    (c.facts-place.result.place + n) (replicate c.args.zeros (Short (pos 0))))) (sym long) in
    ap {A = MemoryState} (λ s. record s { ram = c.fill_zeros.new.self }) c.self.view_is
    ∙ ap {A = RamState} (λ r. record c.args.self.now { ram = r }) (filled_from c.args.event c.args.self.now c.put_bytes.new.self
    c.fill_zeros.new.self c.args.object c.facts-place.result.place c.args.zeros bytes (subst HasSizes ram c.self.invariant.0.ram) c.requires.transient
    (ap (λ f. f.place) is) fits mid last)

pub put_bytes-requires : goal.put_bytes-requires
put_bytes-requires g c =
    let within = within_area c.args.self.now c.self.inside.ram c.args.object 0 c.args.count c.facts-place.result c.args.event
    (ap (λ s. s.ram) c.self.view_is) c.facts-place.ensures (ap (λ f. f.event) c.facts-place.ensures.is ∙ c.requires.transient)
    (omega (arith, c.requires.cells)) in
    let same : length c.as_slice.result.now ≡ length c.args.self.now.command =
    ap length (c.as_slice.ensures.bytes ∙ ap (λ s. s.command) c.self.view_is) in
    let long : length (take c.from.result c.as_slice.result.now) ≡ c.from.result =
    length-take-le c.from.result c.as_slice.result.now (omega (arith, same, c.from.ensures, c.requires.bytes)) in
    omega (arith, within, long, c.from.ensures)

pub overflow_add-place : goal.overflow_add-place
overflow_add-place g c = omega (
  arith,
  c.facts-place.ensures.small c.args.event (ap (λ f. f.event) c.facts-place.ensures.is ∙ c.requires.transient),
  ap (λ f. f.length) c.facts-place.ensures.is,
  c.requires.cells,
)

pub fill_zeros-requires : goal.fill_zeros-requires
fill_zeros-requires g c =
    let within = within_area c.args.self.now c.self.inside.ram c.args.object 0 (c.args.count + c.args.zeros) c.facts-place.result c.args.event
    (ap (λ s. s.ram) c.self.view_is) c.facts-place.ensures (ap (λ f. f.event) c.facts-place.ensures.is ∙ c.requires.transient)
    (omega (arith, c.requires.cells)) in
    let same = ap (λ (z : RamSizes). size_in z c.args.event) c.put_bytes.ensures.same in omega (arith, within, same)
