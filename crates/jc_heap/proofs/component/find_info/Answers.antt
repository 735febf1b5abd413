use Rattle.std.proofs.Common.{◌≡◌, ◌+◌, ◌-◌, ℕ, List, length, take, drop, get_or, refl, sym, ◌∙◌, ap, arith}
use Rattle.std.proofs.lemmas.List.{drop-drop}
use Rattle.jc_heap.specs.Walk.{records_from}
use Rattle.jc_heap.specs.Component.{words_for, part_sizes, info_span, info_of}
use Rattle.jc_heap.proofs.RecordReading.{word_in, length_left, info-here, info-next, info-image, info-records_from}
use Rattle.jc_heap.proofs.component.find_info.Goals as goal
use Rattle.jc_heap.proofs.component.find_info.Goals.{then-word-eq0-via-then-word-eq0, then-word-eq0-via-else-word-eq0+then-at-from}

pub loop-at-init : goal.loop-at-init
unfolding info_of
loop-at-init g c = record { low = omega arith; high = omega arith; left = refl }

pub returns-then-word-tag : goal.returns-then-word-tag
returns-then-word-tag g c =
    let ws : List ℕ = drop c.loop-at.at (take c.args.long (drop c.args.base c.args.journal.now.plain)) in
    let long : length ws ≡ c.args.long - c.loop-at.at = length_left c.args.journal.now.plain c.args.base c.args.long c.loop-at.at c.requires.there in
    let first : get_or ws 0 0 ≡ get_or c.args.journal.now.plain (c.args.base + (c.loop-at.at + 0)) 0 =
    word_in c.args.journal.now.plain c.args.base c.args.long c.loop-at.at 0 (omega arith) in
    let place : c.args.base + (c.loop-at.at + 0) ≡ c.args.base + c.loop-at.at = omega arith in
    let word : get_or ws 0 0 ≡ c.read-word.result = first ∙ ap (λ n. get_or c.args.journal.now.plain n 0) place ∙ sym c.read-word.ensures in
    c.span_at.ensures ∙ sym (info-here c.args.tag c.loop-at.at ws c.requires.tag (omega arith) (word ∙ c.if-word-tag.true)) ∙ c.loop-at.invariant.left

pub returns-then-word-eq0 : goal.returns-then-word-eq0
returns-then-word-eq0 g c =
    let ws : List ℕ = drop c.loop-at.at (take c.args.long (drop c.args.base c.args.journal.now.plain)) in
    let long : length ws ≡ c.args.long - c.loop-at.at = length_left c.args.journal.now.plain c.args.base c.args.long c.loop-at.at c.requires.there in
    let first : get_or ws 0 0 ≡ get_or c.args.journal.now.plain (c.args.base + (c.loop-at.at + 0)) 0 =
    word_in c.args.journal.now.plain c.args.base c.args.long c.loop-at.at 0 (omega arith) in
    let place : c.args.base + (c.loop-at.at + 0) ≡ c.args.base + c.loop-at.at = omega arith in
    let word : get_or ws 0 0 ≡ c.read-word.result = first ∙ ap (λ n. get_or c.args.journal.now.plain n 0) place ∙ sym c.read-word.ensures in
    elim c.then-word-eq0.branch [
      | then-word-eq0-via-then-word-eq0 w ↦ sym (info-image c.args.tag c.loop-at.at ws (omega arith) (λ e. c.if-word-tag.false (sym word ∙ e))
          (word ∙ w.if-word-eq0.true)) ∙ c.loop-at.invariant.left
      | then-word-eq0-via-else-word-eq0+then-at-from w ↦ sym (info-records_from c.args.tag c.loop-at.at ws
          (omega (arith, long, w.if-at-from.true, w.from-else-word-eq0.ensures)) (λ e. c.if-word-tag.false (sym word ∙ e))
          (λ e. w.if-word-eq0.false (sym word ∙ e))) ∙ c.loop-at.invariant.left
    ]

pub loop-at-preserved : goal.loop-at-preserved
loop-at-preserved g c =
    let all : List ℕ = take c.args.long (drop c.args.base c.args.journal.now.plain) in
    let ws : List ℕ = drop c.loop-at.at (take c.args.long (drop c.args.base c.args.journal.now.plain)) in
    let long : length ws ≡ c.args.long - c.loop-at.at = length_left c.args.journal.now.plain c.args.base c.args.long c.loop-at.at c.requires.there in
    let first : get_or ws 0 0 ≡ get_or c.args.journal.now.plain (c.args.base + (c.loop-at.at + 0)) 0 =
    word_in c.args.journal.now.plain c.args.base c.args.long c.loop-at.at 0 (omega arith) in
    let second : get_or ws 1 0 ≡ get_or c.args.journal.now.plain (c.args.base + (c.loop-at.at + 1)) 0 =
    word_in c.args.journal.now.plain c.args.base c.args.long c.loop-at.at 1 (omega arith) in
    let place : c.args.base + (c.loop-at.at + 0) ≡ c.args.base + c.loop-at.at = omega arith in
    let place2 : c.args.base + (c.loop-at.at + 1) ≡ c.args.base + c.loop-at.at + 1 = omega arith in
    let word : get_or ws 0 0 ≡ c.read-word.result = first ∙ ap (λ n. get_or c.args.journal.now.plain n 0) place ∙ sym c.read-word.ensures in
    let size : get_or ws 1 0 ≡ c.read.result = second ∙ ap (λ n. get_or c.args.journal.now.plain n 0) place2 ∙ sym c.read.ensures in
    let step : info_span (records_from part_sizes 0 c.loop-at.at ws) c.args.tag ≡ info_span
    (records_from part_sizes 0 (c.loop-at.at + (2 + words_for (get_or ws 1 0))) (drop (2 + words_for (get_or ws 1 0)) ws)) c.args.tag =
    info-next c.args.tag c.loop-at.at ws (omega arith) (λ e. c.if-word-tag.false (sym word ∙ e)) (λ e. c.if-word-eq0.false (sym word ∙ e)) in
    let more : words_for (get_or ws 1 0) ≡ c.words_for.result = ap words_for size ∙ sym c.words_for.ensures in
    record {
      low = omega arith;
      high = omega arith;
      left =
          ap (λ l. info_span (records_from part_sizes 0 (c.loop-at.at + (2 + c.words_for.result)) l) c.args.tag)
          (sym (drop-drop (2 + c.words_for.result) c.loop-at.at all))
          ∙ ap (λ n. info_span (records_from part_sizes 0 (c.loop-at.at + (2 + n)) (drop (2 + n) ws)) c.args.tag) (sym more)
          ∙ sym step
          ∙ c.loop-at.invariant.left;
    }
