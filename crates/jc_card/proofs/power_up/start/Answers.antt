use Rattle.std.proofs.Common.{◌≡◌, ◌∙◌, ◌++◌, ap, subst, sym, length, take, drop}
use Rattle.std.proofs.Math.Seq.{take-append_seam}
use Rattle.jc_commit.specs.Image.{recovered_of}
use Rattle.jc_heap.specs.Heap.{heap_of}
use Rattle.jc_packages.specs.Objects.{MarksObjects}
use Rattle.jc_card.specs.PowerUp.Reset.{ArePartsOf}
use Rattle.jc_card.proofs.power_up.start.Goals as goal

pub card_over-requires-clause-marked : goal.card_over-requires-clause-marked
card_over-requires-clause-marked g c =
    let set = c.read_parts.new.marks in
    let back : c.of_flags.result ≡ set = c.of_flags.ensures ∙ (ap (λ n. take n (set ++ drop (length set) c.in-Ok.marks.items))
    (c.in-Ok.ensures.long ∙ sym c.in-Ok-read_parts.ensures.long) ∙ take-append_seam set (drop (length set) c.in-Ok.marks.items)) in
    let same = ap (λ j. heap_of (j.plain)) c.resume-image.ensures ∙ ap (λ v. heap_of (recovered_of v)) c.of.ensures.words in
    subst (λ h. MarksObjects c.of_flags.result h) same (subst (λ l. MarksObjects l (heap_of (c.resume-image.result.plain))) (sym back) c.in-Ok-read_parts.ensures.marked)

pub card_over-requires-clause-parts : goal.card_over-requires-clause-parts
card_over-requires-clause-parts g c =
    subst (λ h. ArePartsOf h c.in-Ok-read_parts.parts) (ap (λ j. heap_of (j.plain)) c.resume-image.ensures
    ∙ ap (λ v. heap_of (recovered_of v)) c.of.ensures.words) c.in-Ok-read_parts.ensures.parts
