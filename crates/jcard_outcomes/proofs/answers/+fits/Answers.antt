use Rattle.std.proofs.Common.{◌≡◌, ◌↔◌, true, refl, subst}
use Rattle.std.proofs.lemmas.Bool.{iff_false, ne_eqb}
use Rattle.jcard_outcomes.specs.Answers.{Fits, unspaced}
use Rattle.jcard_outcomes.proofs.AnswerFit.{first_kept, fit_any_none, fit_any_one, fit_any_other, fit_any_short, fit_byte, fit_none, fit_other, fit_short, none_kept, whether_kept}
use Rattle.jcard_outcomes.proofs.answers.+fits.Goals as goal

pub returns-in_default : goal.returns-in_default
returns-in_default t c = fit_none (unspaced c.args.wanted.now) (unspaced c.args.told.now) _
    (none_kept c.args.wanted.now c.behind_spaces-wanted.result.now c.behind_spaces-wanted.ensures.same c.in_default.ensures.cases)
    (whether_kept c.args.told.now c.behind_spaces-told.result.now _ c.behind_spaces-told.ensures.same c.behind_spaces-told.ensures.plain c.is_empty.ensures)

pub returns-then-byte-first : goal.returns-then-byte-first
returns-then-byte-first t c = fit_byte (unspaced c.args.wanted.now) (unspaced c.args.told.now) c.in-Some.first.now c.in-Some-split_first.byte.now (unspaced c.in-Some.more.now) (unspaced c.in-Some-split_first.rest.now) _
    (first_kept c.args.wanted.now c.behind_spaces-wanted.result.now c.in-Some.first.now c.in-Some.more.now c.behind_spaces-wanted.ensures.same c.behind_spaces-wanted.ensures.plain c.in-Some.ensures.cases.0)
    (first_kept c.args.told.now c.behind_spaces-told.result.now c.in-Some-split_first.byte.now c.in-Some-split_first.rest.now c.behind_spaces-told.ensures.same c.behind_spaces-told.ensures.plain c.in-Some-split_first.ensures.cases.0)
    c.if-first-ne42.true c.if-byte-first.true c.fits.ensures

pub returns-else-byte-first : goal.returns-else-byte-first
returns-else-byte-first t c = fit_other (unspaced c.args.wanted.now) (unspaced c.args.told.now) c.in-Some.first.now c.in-Some-split_first.byte.now (unspaced c.in-Some.more.now) (unspaced c.in-Some-split_first.rest.now) _
    (first_kept c.args.wanted.now c.behind_spaces-wanted.result.now c.in-Some.first.now c.in-Some.more.now c.behind_spaces-wanted.ensures.same c.behind_spaces-wanted.ensures.plain c.in-Some.ensures.cases.0)
    (first_kept c.args.told.now c.behind_spaces-told.result.now c.in-Some-split_first.byte.now c.in-Some-split_first.rest.now c.behind_spaces-told.ensures.same c.behind_spaces-told.ensures.plain c.in-Some-split_first.ensures.cases.0)
    c.if-first-ne42.true c.if-byte-first.false (ne_eqb c.in-Some-split_first.byte.now c.in-Some.first.now c.if-byte-first.false)

pub returns-in-None : goal.returns-in-None
returns-in-None t c = fit_short (unspaced c.args.wanted.now) (unspaced c.args.told.now) c.in-Some.first.now (unspaced c.in-Some.more.now) _
    (first_kept c.args.wanted.now c.behind_spaces-wanted.result.now c.in-Some.first.now c.in-Some.more.now c.behind_spaces-wanted.ensures.same c.behind_spaces-wanted.ensures.plain c.in-Some.ensures.cases.0)
    (none_kept c.args.told.now c.behind_spaces-told.result.now c.behind_spaces-told.ensures.same c.in-None.ensures.cases)
    c.if-first-ne42.true refl

pub returns-then-fits : goal.returns-then-fits
returns-then-fits t c =
    let inner : (c.fits-2.result ≡ true) ↔ Fits (unspaced c.in-Some.more.now) (unspaced c.args.told.now) =
    subst (λ s. (c.fits-2.result ≡ true) ↔ Fits (unspaced c.in-Some.more.now) s) c.behind_spaces-told.ensures.same c.fits-2.ensures in
    fit_any_none (unspaced c.args.wanted.now) (unspaced c.args.told.now) c.in-Some.first.now (unspaced c.in-Some.more.now) _
    (first_kept c.args.wanted.now c.behind_spaces-wanted.result.now c.in-Some.first.now c.in-Some.more.now c.behind_spaces-wanted.ensures.same c.behind_spaces-wanted.ensures.plain c.in-Some.ensures.cases.0)
    c.if-first-ne42.false (inner.0 c.if-fits.true) refl

pub returns-then-is_digit : goal.returns-then-is_digit
returns-then-is_digit t c =
    let inner : (c.fits-2.result ≡ true) ↔ Fits (unspaced c.in-Some.more.now) (unspaced c.args.told.now) =
    subst (λ s. (c.fits-2.result ≡ true) ↔ Fits (unspaced c.in-Some.more.now) s) c.behind_spaces-told.ensures.same c.fits-2.ensures in
    fit_any_one (unspaced c.args.wanted.now) (unspaced c.args.told.now) c.in-Some.first.now c.in-Some-split_first-2.byte.now (unspaced c.in-Some.more.now) (unspaced c.in-Some-split_first-2.rest.now) _
    (first_kept c.args.wanted.now c.behind_spaces-wanted.result.now c.in-Some.first.now c.in-Some.more.now c.behind_spaces-wanted.ensures.same c.behind_spaces-wanted.ensures.plain c.in-Some.ensures.cases.0)
    (first_kept c.args.told.now c.behind_spaces-told.result.now c.in-Some-split_first-2.byte.now c.in-Some-split_first-2.rest.now c.behind_spaces-told.ensures.same c.behind_spaces-told.ensures.plain c.in-Some-split_first-2.ensures.cases.0)
    c.if-first-ne42.false (iff_false inner c.if-fits.false) (c.is_digit.ensures.0 c.if-is_digit.true)
    (subst (λ s. (c.fits-then-is_digit.result ≡ true) ↔ Fits s (unspaced c.in-Some-split_first-2.rest.now)) c.behind_spaces-wanted.ensures.same c.fits-then-is_digit.ensures)

pub returns-else-is_digit : goal.returns-else-is_digit
returns-else-is_digit t c =
    let inner : (c.fits-2.result ≡ true) ↔ Fits (unspaced c.in-Some.more.now) (unspaced c.args.told.now) =
    subst (λ s. (c.fits-2.result ≡ true) ↔ Fits (unspaced c.in-Some.more.now) s) c.behind_spaces-told.ensures.same c.fits-2.ensures in
    fit_any_other (unspaced c.args.wanted.now) (unspaced c.args.told.now) c.in-Some.first.now c.in-Some-split_first-2.byte.now (unspaced c.in-Some.more.now) (unspaced c.in-Some-split_first-2.rest.now) _
    (first_kept c.args.wanted.now c.behind_spaces-wanted.result.now c.in-Some.first.now c.in-Some.more.now c.behind_spaces-wanted.ensures.same c.behind_spaces-wanted.ensures.plain c.in-Some.ensures.cases.0)
    (first_kept c.args.told.now c.behind_spaces-told.result.now c.in-Some-split_first-2.byte.now c.in-Some-split_first-2.rest.now c.behind_spaces-told.ensures.same c.behind_spaces-told.ensures.plain c.in-Some-split_first-2.ensures.cases.0)
    c.if-first-ne42.false (iff_false inner c.if-fits.false) (iff_false c.is_digit.ensures c.if-is_digit.false) c.if-is_digit.false

pub returns-in-None-split_first : goal.returns-in-None-split_first
returns-in-None-split_first t c =
    let inner : (c.fits-2.result ≡ true) ↔ Fits (unspaced c.in-Some.more.now) (unspaced c.args.told.now) =
    subst (λ s. (c.fits-2.result ≡ true) ↔ Fits (unspaced c.in-Some.more.now) s) c.behind_spaces-told.ensures.same c.fits-2.ensures in
    fit_any_short (unspaced c.args.wanted.now) (unspaced c.args.told.now) c.in-Some.first.now (unspaced c.in-Some.more.now) _
    (first_kept c.args.wanted.now c.behind_spaces-wanted.result.now c.in-Some.first.now c.in-Some.more.now c.behind_spaces-wanted.ensures.same c.behind_spaces-wanted.ensures.plain c.in-Some.ensures.cases.0)
    (none_kept c.args.told.now c.behind_spaces-told.result.now c.behind_spaces-told.ensures.same c.in-None-split_first.ensures.cases)
    c.if-first-ne42.false (iff_false inner c.if-fits.false) refl
