use Rattle.std.proofs.Common.{◌≡◌, [], ℕ, List, Err, ap, inl, inr, length, refl, subst, sym}
use Rattle.std.specs.Borrow.{Bor}
use Rattle.std.proofs.lemmas.List.{length-map}
use Rattle.jcard_texts.proofs.Known.{appends_same}
use Rattle.jcard_attack.specs.PartFiles.{AreLinesJoinedTo}
use Rattle.jcard_sweeps.specs.Texts.{texts_of}
use Rattle.jcard_files.proofs.Effects.{unfailed}
use Rattle.jcard_attack.proofs.part_files.join_faults.Goals as goal

pub returns-in-Ok : goal.returns-in-Ok
returns-in-Ok g c =
    let written = c.report_lines.ensures.0 in
    let all : length c.args.texts.now ≡ length (texts_of c.args.texts.now) =
    sym (length-map c.args.texts.now (λ (t : Bor (List ℕ)). t.now)) in
    let lines = subst (λ l. AreLinesJoinedTo (length c.args.texts.now) l c.report_lines.result written.0) c.deref.ensures.value written.2 in
    let told = subst (λ n. AreLinesJoinedTo n c.in-Ok.joined.text.items c.report_lines.result written.0) all lines in
    ((written.0, written.1, inl (c.in-Ok.joined, c.in-Ok.ensures, told)), c.report_lines.ensures.1)

pub returns-in-Err : goal.returns-in-Err
returns-in-Err g c = (
  ([], appends_same _, inr (c.in-Err.cause, c.in-Err.ensures, ap Err c.share_fault.ensures.told, refl)),
  unfailed _ c.share_fault.result c.share_fault.ensures.unwritten,
)
