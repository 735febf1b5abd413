use Rattle.std.proofs.Common.{ℕ, List, [], ◌++◌, refl, sym, subst, inl, inr}
use Rattle.std.proofs.lemmas.Result.{err_from_is_err_and}
use Rattle.std.specs.Prelude.{option_map}
use Rattle.std.specs.Borrow.{Bor}
use Rattle.jcard_files.specs.ImageSize.{IsNoExtent}
use Rattle.jcard_files.specs.UsualTable.{IsNoPlatform, IsPlatform}
use Rattle.jcard_files.proofs.new_image.make_image.Goals as goal

pub returns-in_err-extent : goal.returns-in_err-extent
returns-in_err-extent g c =
    let p = err_from_is_err_and c.from_residual.result c.from_residual.ensures.1 in
    let cells = option_map (λ (name : Bor (List ℕ)). name.now) c.args.size.cells in
    let buffer = option_map (λ (name : Bor (List ℕ)). name.now) c.args.size.buffer in
    let none = subst (IsNoExtent c.args.size.words.now c.args.size.journal.now cells buffer) (sym p.2) c.in_err-extent.ensures in
    ([], g.met.D.Disk.none c.args.disk.now, inl (p.0, p.1, none, refl))

pub returns-in_err-text : goal.returns-in_err-text
returns-in_err-text g c =
    let p = err_from_is_err_and c.from_residual-in_err-text.result c.from_residual-in_err-text.ensures.1 in
    let table = option_map (λ (name : Bor (List ℕ)). name.now) c.args.table in
    let unread = c.in_err-text.ensures in
    let none = subst (λ fault. IsNoPlatform table fault unread.0) (sym p.2) unread.2 in
    (unread.0, unread.1, inr (c.in_ok-extent.extent, c.in_ok-extent.ensures, inl (p.0, p.1, none)))

pub returns : goal.returns
returns g c =
    let table = option_map (λ (name : Bor (List ℕ)). name.now) c.args.table in
    let text = c.in_ok-text.ensures in
    let made = c.make_from.ensures in
    let is_text = subst (λ t. IsPlatform table t text.0) (sym c.deref.ensures.value) text.2 in (
      text.0 ++ made.0,
      g.met.D.Disk.then _ _ _ text.0 made.0 text.1 made.1,
      inr (c.in_ok-extent.extent, c.in_ok-extent.ensures, inr (c.deref.result.now, text.0, made.0, is_text, made.2, refl)),
    )
