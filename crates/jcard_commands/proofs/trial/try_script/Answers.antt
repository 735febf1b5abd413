use Rattle.std.proofs.Common.{[], ◌++◌, Ok, refl, sym, subst, ◌∙◌, inl, inr, rules, arith}
use Rattle.std.proofs.lemmas.Grind.{common_steps}
use Rattle.std.proofs.lemmas.Result.{err_from_is_err_and}
use Rattle.jc_platform.specs.Table.{Reads}
use Rattle.jcard_texts.proofs.Known.{appends_same}
use Rattle.jcard_files.specs.ImageSize.{IsNoExtent}
use Rattle.jcard_files.specs.UsualTable.{IsNoPlatform, IsPlatform}
use Rattle.jcard_arguments.specs.CommandLine.{text_of}
use Rattle.jcard_files.proofs.Effects.{unfailed}
use Rattle.jcard_files.proofs.ImageEnds.{no_extent_unwritten, platform_unwritten}
use Rattle.jcard_commands.proofs.trial.try_script.Goals as goal

pub returns-in_err-extent : goal.returns-in_err-extent
returns-in_err-extent g c =
    let size = c.args.asked.size in
    let p = err_from_is_err_and c.from_residual.result c.from_residual.ensures.1 in
    let none = subst (IsNoExtent size.words.now size.journal.now (text_of size.cells) (text_of size.buffer)) (sym p.2) c.in_err-extent.ensures in (
      ([], [], appends_same _, inl (p.0, p.1, none, refl, refl), g.met.D.Disk.none c.args.disk.now),
      rw p.1 (unfailed _ p.0 (no_extent_unwritten _ _ _ _ p.0 none)),
    )

pub returns-in_err-text : goal.returns-in_err-text
returns-in_err-text g c =
    let unread = c.in_err-text.ensures in
    let p = err_from_is_err_and c.from_residual-in_err-text.result c.from_residual-in_err-text.ensures.1 in
    let none = subst (λ fault. IsNoPlatform (text_of c.args.asked.table) fault unread.0) (sym p.2) unread.2 in (
      ([], unread.0, appends_same _, inr (c.in_ok-extent.extent, c.in_ok-extent.ensures, inl (p.0, p.1, refl, none)), unread.1),
      rw p.1 (unfailed _ p.0 (platform_unwritten (text_of c.args.asked.table) p.0 unread.0 none)),
    )

pub returns-in-Ok : goal.returns-in-Ok
returns-in-Ok g c =
    let done = c.try_on.ensures.0 in
    let text = c.in_ok-text.ensures in
    let platform = c.deref-in-Ok.result.now in
    let is_platform = subst (λ t. IsPlatform (text_of c.args.asked.table) t text.0) (sym c.deref-in-Ok.ensures.value) text.2 in
    let is_table = subst (λ t. Reads t (Ok c.in-Ok.field-0)) (c.deref.ensures.value ∙ sym c.deref-in-Ok.ensures.value) c.in-Ok.ensures in (
      (
        done.0,
        text.0 ++ done.1,
        done.2,
        inr (
          c.in_ok-extent.extent,
          c.in_ok-extent.ensures,
          inr (inr (
            platform,
            text.0,
            done.1,
            is_platform,
            (c.in-Ok.field-0, is_table),
            done.3,
            refl,
          )),
        ),
        g.met.D.Disk.then _ _ _ text.0 done.1 text.1 done.4,
      ),
      c.try_on.ensures.1,
    )

pub returns : goal.returns
returns g c =
    let text = c.in_ok-text.ensures in
    let is_platform = subst (λ t. IsPlatform (text_of c.args.asked.table) t text.0) (sym c.deref.ensures.value) text.2 in (
      (
        [],
        text.0,
        appends_same _,
        inr (
          c.in_ok-extent.extent,
          c.in_ok-extent.ensures,
          inr (inl (c.deref.result.now, _, refl, is_platform, first_of (search rules, grind (arith, common_steps)), refl)),
        ),
        text.1,
      ),
      refl,
    )
