use Rattle.std.proofs.Common.{◌≡◌, ◌<◌, ◌≤◌, ◌+◌, ◌-◌, ◌/◌, ℕ, List, length, take, drop, get_or, sym, ◌∙◌, ap, Some, arith}
use Rattle.std.proofs.lemmas.List.{drop-drop}
use Rattle.jc_heap.specs.Walk.{records_from}
use Rattle.jc_heap.specs.Component.{words_for, part_sizes, record_parts}
use Rattle.jc_heap.specs.Statics.{image_from}
use Rattle.jc_heap.proofs.RecordReading.{word_in, length_left}
use Rattle.jc_heap.proofs.StaticImages.{image-here, image-next, image-none, image-records_from}
use Rattle.jc_heap.proofs.statics.find_image.Goals as goal
use Rattle.jc_heap.proofs.statics.find_image.Goals.{else-second-end-via-then-second-end+else-read-eq0-2, else-second-end-via-else-second-end}

-- a part begins with this word
first_of : (plain : List ℕ) (base long second : ℕ) → base + long ≤ length plain → base + 2 ≤ second → second ≤ base + long
    → get_or (drop (second - (base + 1)) (take long (drop base plain))) 0 0 ≡ get_or plain (second - 1) 0
first_of plain base long second there low high =
    word_in plain base long (second - (base + 1)) 0 (omega arith)
    ∙ ap (λ n. get_or plain n 0) (let e : base + ((second - (base + 1)) + 0) ≡ second - 1 = omega arith in e)

-- and has this size
second_of : (plain : List ℕ) (base long second : ℕ) → base + long ≤ length plain → base + 2 ≤ second → second < base + long
    → get_or (drop (second - (base + 1)) (take long (drop base plain))) 1 0 ≡ get_or plain second 0
second_of plain base long second there low high =
    word_in plain base long (second - (base + 1)) 1 (omega arith)
    ∙ ap (λ n. get_or plain n 0) (let e : base + ((second - (base + 1)) + 1) ≡ second = omega arith in e)

-- at a part that begins with 0 the image begins
found : (plain : List ℕ) (base long second : ℕ) → base + long ≤ length plain → base + 2 ≤ second → second ≤ base + long → get_or plain (second - 1) 0 ≡ 0
    → Some (second - base) ≡ image_from (records_from part_sizes 0 (second - (base + 1)) (drop (second - (base + 1)) (take long (drop base plain))))
found plain base long second there low high is =
    let left : length (drop (second - (base + 1)) (take long (drop base plain))) ≡ long - (second - (base + 1)) =
    length_left plain base long (second - (base + 1)) there in
    ap Some (let e : second - base ≡ (second - (base + 1)) + 1 = omega arith in e)
    ∙ sym (image-here (second - (base + 1)) (drop (second - (base + 1)) (take long (drop base plain))) (omega arith)
    (first_of plain base long second there low high ∙ is))

-- the next part, after this one
next : (plain : List ℕ) (base long second : ℕ) → base + long ≤ length plain → base + 2 ≤ second → second < base + long
    → (get_or plain (second - 1) 0 ≡ 0 → ⊥) → (after : ℕ) → after ≡ second + (2 + words_for (get_or plain second 0))
    → image_from (records_from part_sizes 0 (after - (base + 1)) (drop (after - (base + 1)) (take long (drop base plain))))
    ≡ image_from (records_from part_sizes 0 (second - (base + 1)) (drop (second - (base + 1)) (take long (drop base plain))))
next plain base long second there low high more after is =
    let at : ℕ = second - (base + 1) in
    let all : List ℕ = take long (drop base plain) in
    let ws : List ℕ = drop (second - (base + 1)) (take long (drop base plain)) in
    let left : length ws ≡ long - (second - (base + 1)) = length_left plain base long (second - (base + 1)) there in
    let first : get_or ws 0 0 ≡ get_or plain (second - 1) 0 = first_of plain base long second there low (omega arith) in
    let size : get_or ws 1 0 ≡ get_or plain second 0 = second_of plain base long second there low high in
    let step : image_from (records_from part_sizes 0 at ws) ≡ image_from
    (records_from part_sizes 0 (at + (2 + words_for (get_or ws 1 0))) (drop (2 + words_for (get_or ws 1 0)) ws)) =
    image-next at ws (omega arith) (λ e. more (sym first ∙ e)) in
    let there_after : after - (base + 1) ≡ at + (2 + words_for (get_or plain second 0)) = omega (arith, is) in
    ap (λ n. image_from (records_from part_sizes 0 n (drop n all))) there_after
    ∙ ap (λ l. image_from (records_from part_sizes 0 (at + (2 + words_for (get_or plain second 0))) l))
    (sym (drop-drop (2 + words_for (get_or plain second 0)) at all))
    ∙ ap (λ n. image_from (records_from part_sizes 0 (at + (2 + words_for n)) (drop (2 + words_for n) ws))) (sym size)
    ∙ sym step

-- two words and those of n bytes
stride : (n : ℕ) → (n + 5) / 2 ≡ 2 + words_for n
stride n = omega arith

-- src/statics.rt:24:13
pub returns-then-read-eq0 : goal.returns-then-read-eq0
returns-then-read-eq0 g c =
    found c.args.journal.now.plain c.args.base c.args.long c.loop-second.second c.requires.there c.loop-second.invariant.low
    (omega (arith, c.loop-second-test.true, c.from-end.ensures)) (sym c.read.ensures ∙ c.if-read-eq0.true)
    ∙ c.loop-second.invariant.left

-- src/statics.rt:22:5
pub loop-second-preserved : goal.loop-second-preserved
loop-second-preserved g c =
    let inside : c.loop-second.second < c.args.base + c.args.long = omega (arith, c.loop-second-test.true, c.from-end.ensures) in
    record {
      low = omega (arith, c.loop-second.invariant.low);
      high = omega (arith, inside);
      left = next c.args.journal.now.plain c.args.base c.args.long c.loop-second.second c.requires.there c.loop-second.invariant.low inside
          (λ e. c.if-read-eq0.false (c.read.ensures ∙ e)) _
          (ap (λ n. c.loop-second.second + n) (stride c.from.result
          ∙ ap (λ n. 2 + words_for n) (c.from.ensures ∙ c.read-in-loop-second.ensures)))
          ∙ c.loop-second.invariant.left;
    }

-- src/statics.rt:29:9
pub returns-then-read-eq0-2 : goal.returns-then-read-eq0-2
returns-then-read-eq0-2 g c =
    found c.args.journal.now.plain c.args.base c.args.long c.loop-second.second c.requires.there c.loop-second.invariant.low
    (omega (arith, c.if-second-end.true, c.from-end.ensures)) (sym c.read-then-second-end.ensures ∙ c.if-read-eq0-2.true)
    ∙ c.loop-second.invariant.left

-- src/statics.rt:14:1
pub returns : goal.returns
returns g c =
    let at : ℕ = c.loop-second.second - (c.args.base + 1) in
    let ws : List ℕ = drop (c.loop-second.second - (c.args.base + 1)) (take c.args.long (drop c.args.base c.args.journal.now.plain)) in
    let left : length ws ≡ c.args.long - at =
    length_left c.args.journal.now.plain c.args.base c.args.long (c.loop-second.second - (c.args.base + 1)) c.requires.there in
    elim c.else-second-end.branch [
      | else-second-end-via-then-second-end+else-read-eq0-2 w ↦
          sym (image-records_from at ws (omega (arith, left, w.if-second-end.true, c.from-end.ensures, c.loop-second.invariant.low))
          (λ e. w.if-read-eq0-2.false (w.read-then-second-end.ensures ∙ sym (first_of c.args.journal.now.plain c.args.base c.args.long c.loop-second.second
          c.requires.there c.loop-second.invariant.low (omega (arith, w.if-second-end.true, c.from-end.ensures))) ∙ e)))
          ∙ c.loop-second.invariant.left
      | else-second-end-via-else-second-end w ↦
          sym (image-none at ws (omega (arith, left, w.if-second-end.false, c.loop-second-test.false, c.from-end.ensures, c.loop-second.invariant.low)))
          ∙ c.loop-second.invariant.left
    ]
