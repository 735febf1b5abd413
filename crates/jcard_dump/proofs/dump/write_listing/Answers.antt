use Rattle.std.proofs.Common.{List, ℕ, ◌∙◌, ap, subst, sym}
use Rattle.std.specs.Io.KnownBytes.{Appends}
use Rattle.jc_words.specs.Count.{failures_after}
use Rattle.jcard_texts.specs.Texts.{AppendsCut}
use Rattle.jcard_dump.specs.InventoryLines.{Lines}
use Rattle.jcard_dump.proofs.ListingEnds.{told_whole, whole_unwritten}
use Rattle.jcard_dump.proofs.dump.write_listing.Goals as goal

pub returns-in-Ok : goal.returns-in-Ok
returns-in-Ok g c =
    let l : Lines = record { text = c.args.listing.now.text.items; readable = c.args.listing.now.readable } in (
      (
        l.text,
        subst (λ (t : List ℕ). Appends (g.W.TextOut.contents c.args.out.now) (g.W.TextOut.contents c.write_all.new.writer) t) c.deref.ensures.value
            c.in-Ok.ensures.text,
        told_whole l c.end_of.result c.end_of.ensures,
      ),
      c.in-Ok.ensures.count ∙ ap (failures_after (g.W.TextOut.failures c.args.out.now)) (sym (whole_unwritten l.readable c.end_of.result c.end_of.ensures)),
    )

pub returns-in-Err : goal.returns-in-Err
returns-in-Err g c = (
  subst (λ (t : List ℕ). AppendsCut (g.W.TextOut.contents c.args.out.now) (g.W.TextOut.contents c.write_all.new.writer) t) c.deref.ensures.value
      c.in-Err.ensures.text,
  c.in-Err.ensures.count,
)
