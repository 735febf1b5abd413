use Rattle.std.proofs.Common.{List, ℕ, refl, subst}
use Rattle.std.specs.Io.KnownBytes.{Appends}
use Rattle.jcard_texts.specs.Texts.{AppendsCut}
use Rattle.jcard_dump.specs.Pairs.{unread_text}
use Rattle.jcard_dump.proofs.comparison.tell_no_image.Goals as goal

pub returns-in-Ok : goal.returns-in-Ok
returns-in-Ok g c = (
  (
    unread_text c.args.side,
    subst (λ (t : List ℕ). Appends (g.W.TextOut.contents c.args.out.now) (g.W.TextOut.contents c.write_all.new.writer) t) c.unread.ensures
        c.in-Ok.ensures.text,
    (c.damage_by.ensures, refl),
  ),
  c.in-Ok.ensures.count,
)

pub returns-in-Err : goal.returns-in-Err
returns-in-Err g c = (
  subst (λ (t : List ℕ). AppendsCut (g.W.TextOut.contents c.args.out.now) (g.W.TextOut.contents c.write_all.new.writer) t) c.unread.ensures
      c.in-Err.ensures.text,
  c.in-Err.ensures.count,
)
