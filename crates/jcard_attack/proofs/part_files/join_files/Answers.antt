use Rattle.std.proofs.Common.{ℕ, List, arith, [], map, inr, subst}
use Rattle.std.specs.Borrow.{Bor}
use Rattle.std.proofs.lemmas.List.{length-map}
use Rattle.std.proofs.lemmas.Result.{err_from_is_err_and}
use Rattle.jcard_texts.proofs.Known.{appends_same}
use Rattle.jcard_attack.specs.PartFiles.{IsJoinedTo}
use Rattle.jcard_sweeps.specs.Texts.{texts_of}
use Rattle.jcard_sweeps.proofs.PartJoins.{read_lengths}
use Rattle.jcard_attack.proofs.FileJoins.{unread_joining}
use Rattle.jcard_files.proofs.Effects.{unfailed}
use Rattle.jcard_attack.proofs.part_files.join_files.Goals as goal

pub join_texts-requires-clause-some : goal.join_texts-requires-clause-some
join_texts-requires-clause-some g c =
    let read = c.in_ok-texts.ensures.read in
    rw c.deref.ensures.value (omega (
      arith,
      read_lengths (texts_of c.args.files.now) (map (λ t. t.items) c.in_ok-texts.texts.items) read.0 read.2,
      length-map c.args.files.now (λ (f : Bor (List ℕ)). f.now),
      length-map c.in_ok-texts.texts.items (λ t. t.items),
      c.requires,
    ))

pub join_texts-requires-clause-all : goal.join_texts-requires-clause-all
join_texts-requires-clause-all g c =
    let read = c.in_ok-texts.ensures.read in
    rw c.deref.ensures.value (omega (
      arith,
      read_lengths (texts_of c.args.files.now) (map (λ t. t.items) c.in_ok-texts.texts.items) read.0 read.2,
      length-map c.args.files.now (λ (f : Bor (List ℕ)). f.now),
      length-map c.in_ok-texts.texts.items (λ t. t.items),
    ))

pub returns-in_err-texts : goal.returns-in_err-texts
returns-in_err-texts g c =
    let read = c.in_err-texts.ensures.read in
    let fault = c.in_err-texts.field-0.0 in
    let p = err_from_is_err_and c.from_residual.result c.from_residual.ensures.1 in
    rw (p.1, p.2) (
      ([], read.0, appends_same _, unread_joining (texts_of c.args.files.now) fault read.0 read.2, read.1),
      unfailed _ fault c.in_err-texts.ensures.unwritten,
    )

pub returns : goal.returns
returns g c =
    let read = c.in_ok-texts.ensures.read in
    let done = c.join_texts.ensures.0 in
    let joined = subst (λ ts. IsJoinedTo (texts_of c.args.files.now) (map (λ t. t.items) ts) c.join_texts.result done.0) c.deref.ensures.value done.2 in
    ((done.0, read.0, done.1, inr (inr (map (λ t. t.items) c.in_ok-texts.texts.items, read.2, joined)), read.1), c.join_texts.ensures.1)
