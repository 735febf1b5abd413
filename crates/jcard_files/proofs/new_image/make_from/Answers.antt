use Rattle.std.proofs.Common.{ℕ, ◌≡◌, ◌∙◌, List, [], ◌∷◌, Ok, Err, refl, subst, ap, inl, inr, length}
use Rattle.std.proofs.lemmas.List.{length-replicate}
use Rattle.std.proofs.lemmas.Result.{err_from_is_err_and}
use Rattle.jc_words.specs.Store.{store_value}
use Rattle.jc_platform.specs.Table.{Reads}
use Rattle.jc_platform.specs.declared.fault.TableFault.{TableFault}
use Rattle.jc_platform.specs.declared.fault.TableFault.TheVariants.{BadTable as BadLine}
use Rattle.jcard_files.specs.FileDeeds.{FileDeed, ClosesImage, MakesImage}
use Rattle.jcard_files.specs.NewImage.{IsLaid}
use Rattle.jcard_files.proofs.new_image.make_from.Goals as goal

pub returns : goal.returns
returns g c =
    let image = c.args.image.now in
    let n = c.args.extent.count in
    let I = g.D.Image.WordStore in
    let value = store_value I.words I.down I.passed I.refusals in
    let store = value c.lay_image-store.result.0 in
    let closed = subst (λ s. g.D.Disk.does c.make_image.new.self (ClosesImage image (value s) ∷ []) c.close_image.new.self) c.new.ensures
    c.close_image.ensures in
    let size : length (g.D.Image.WordStore.words c.in_ok-store.store) ≡ n = ap length c.in_ok-store.ensures.words ∙ length-replicate n 0 in
    let laid = subst (λ k. IsLaid image k c.args.extent.room c.args.text.now c.lay_image-store.result.1 store) size c.lay_image-store.ensures in
    let makes : List FileDeed = MakesImage image n (Ok tt) ∷ [] in (
      MakesImage image n (Ok tt) ∷ ClosesImage image store ∷ [],
      g.met.D.Disk.then _ _ _ makes _ c.in_ok-store.ensures.does closed,
      inr (inr (store, (c.in-Ok.field-0, c.in-Ok.ensures), laid, refl)),
    )

pub returns-in_err-store : goal.returns-in_err-store
returns-in_err-store g c =
    let p = err_from_is_err_and c.from_residual.result c.from_residual.ensures.1 in
    rw (p.1, p.2) (
      MakesImage c.args.image.now c.args.extent.count (Err c.in_err-store.field-0.0) ∷ [],
      c.in_err-store.ensures.does,
      inr (inl (c.in_err-store.field-0.0, refl, (c.in-Ok.field-0, c.in-Ok.ensures), c.in_err-store.ensures.refused, refl)),
    )

-- the number that the fault of a table has
abbrev line_of : TableFault → ℕ
line_of (BadLine line) = line

-- there is no other fault of a table
bad_line : (fault : TableFault) → fault ≡ BadLine (line_of fault)
bad_line (BadLine line) = refl

pub returns-in-Err-BadTable : goal.returns-in-Err-BadTable
returns-in-Err-BadTable g c =
    let fault = c.in-Err-BadTable.field-0 in
    rw (bad_line fault) (
      [],
      g.met.D.Disk.none c.args.disk.now,
      inl (line_of fault, refl, subst (λ f. Reads c.args.text.now (Err f)) (bad_line fault) c.in-Err-BadTable.ensures, refl),
    )
