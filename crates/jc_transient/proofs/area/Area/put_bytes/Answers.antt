use Rattle.std.proofs.Common.{◌∙◌, ◌+◌, ap, arith, length, max, sym}
use Rattle.std.proofs.lemmas.List.{length-map}
use Rattle.jc_transient.specs.Cell.{number_of}
use Rattle.jc_transient.proofs.Clearing.{lent_put}
use Rattle.jc_transient.proofs.Numbers.{lent_numbers, numbers_words}
use Rattle.jc_transient.proofs.Zeros.{lent_zeros}
use Rattle.jc_transient.proofs.area.Area.put_bytes.Goals as goal

pub invariant_of-self : goal.invariant_of-self
invariant_of-self c =
    let area =
    lent_put c.self.inside.used c.max-self-inside.result c.args.place c.self.inside.cells.len c.self.inside.cells.items c.as_mut_slice.result.now _
    c.write_bytes.new.cells c.self.inside.cells.ok.0 c.as_mut_slice.ensures.value c.write_bytes.ensures c.write_bytes.auto.cells
    (omega (arith, length-map c.args.bytes.now number_of, ap length c.as_mut_slice.ensures.value, ap length c.self.view_is, c.requires))
    (c.max-self-inside.ensures ∙ ap (λ k. max c.self.inside.used (c.args.place + k)) (sym (length-map c.args.bytes.now number_of))) (c.self.invariant.0, c.self.invariant.1) in (
      area.0,
      area.1,
      λ e. lent_numbers c.args.place c.self.inside.cells.len c.self.inside.cells.items c.as_mut_slice.result.now _ c.write_bytes.new.cells
          c.self.inside.cells.ok.0 c.as_mut_slice.ensures.value c.write_bytes.ensures c.write_bytes.auto.cells (numbers_words c.args.bytes.now) (c.self.invariant.2 e),
      lent_zeros c.self.inside.zeros.start c.self.inside.zeros.end c.args.place (c.args.place + (length c.args.bytes.now)) c.without-self-inside.result.start c.without-self-inside.result.end
          c.self.inside.cells.len c.self.inside.cells.items c.as_mut_slice.result.now _ c.write_bytes.new.cells c.self.inside.cells.ok.0 c.as_mut_slice.ensures.value
          c.write_bytes.ensures c.write_bytes.auto.cells
          (omega (arith, length-map c.args.bytes.now number_of, ap length c.as_mut_slice.ensures.value, ap length c.self.view_is, c.requires))
          (ap (λ k. c.args.place + k) (sym (length-map c.args.bytes.now number_of))) c.without-self-inside.ensures c.self.invariant.3,
    )
