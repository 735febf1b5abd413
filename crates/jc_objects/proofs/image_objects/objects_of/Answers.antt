use Rattle.std.proofs.Common.{◌∙◌, ℕ, List, ap, sym, subst, arith}
use Rattle.std.proofs.lemmas.Bool.{false≢true}
use Rattle.std.proofs.lemmas.Result.{err_from_is_err_and}
use Rattle.jc_words.specs.Store.{MemStoreValue}
use Rattle.jc_commit.specs.Image.{recovered_of}
use Rattle.jc_platform.specs.Tokens.{Tokens}
use Rattle.jc_objects.specs.ImageObjects.{IsImage, IsWhole}
use Rattle.jc_objects.proofs.Opened.{heap_behind, image_before, image_untold, no_image, whole_untold}
use Rattle.jc_objects.proofs.image_objects.objects_of.Goals as goal

pub returns-in_err-table : goal.returns-in_err-table
returns-in_err-table c =
    let p = err_from_is_err_and c.from_residual-in_err-table.result c.from_residual-in_err-table.ensures.1 in
    let words : List ℕ = c.args.words.now in
    let plain : List ℕ = c.in_ok-recovered.recovered.plain in
    let opened = rw c.in_ok-copy.ensures.items at c.in_ok-recovered.ensures in
    rw (p.1, p.2) (image_untold c.in_err-table.field-0.0 words plain opened.plain (whole_untold c.in_err-table.field-0.0 plain c.in_err-table.ensures))

pub returns-then-not-is_whole : goal.returns-then-not-is_whole
returns-then-not-is_whole c =
    let words : List ℕ = c.args.words.now in
    let opened = rw c.in_ok-copy.ensures.items at c.in_ok-recovered.ensures in
    no_image words c.in_ok-recovered.recovered.plain opened.plain
    (λ t whole. false≢true (sym c.if-not-is_whole.true ∙ c.is_whole.ensures.1 (whole.formed, whole.consistent)))

pub returns : goal.returns
returns c =
    let words : List ℕ = c.args.words.now in
    let plain : List ℕ = c.in_ok-recovered.recovered.plain in
    let opened = rw c.in_ok-copy.ensures.items at c.in_ok-recovered.ensures in
    let is = c.is_whole.ensures.0 c.if-not-is_whole.false in
    let whole : IsWhole plain c.in_ok-table.table = record { formed = is.0; consistent = is.1; table = c.in_ok-table.ensures.1 } in
    record {
      stored = ap (λ (m : MemStoreValue). m.words) c.of-store.ensures ∙ c.in_ok-from_slice.ensures.items;
      long = omega (arith, opened.good.size.enough);
      image = subst (λ (t : Tokens). IsImage words t) (sym c.platform.ensures) (image_before words plain c.in_ok-table.table opened.good opened.plain whole);
      heap = heap_behind (recovered_of words) plain opened.plain;
      formed = is.0;
    }
