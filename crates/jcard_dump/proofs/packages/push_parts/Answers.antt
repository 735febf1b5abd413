use Rattle.std.proofs.Common.{arith, refl, ◌≡◌, ◌<◌, ◌+◌, ◌-◌, ◌∙◌, ◌++◌, ap, sym, subst, get_or, length, take, drop, List, ℕ, Ok, Err, true}
use Rattle.jc_heap.specs.Component.{words_for}
use Rattle.jc_objects.specs.Records.{record_size, record_words}
use Rattle.jc_objects.proofs.HeapBounds.{bounds}
use Rattle.jc_objects.proofs.ItemWords.{length-words}
use Rattle.jcard_dump.specs.InventoryLines.{Lines}
use Rattle.jcard_dump.specs.Packages.{component_text, image_text, parts_lines}
use Rattle.jcard_dump.specs.Fault.{Lists}
use Rattle.jcard_dump.specs.declared.fault.ListFault.TheVariants.{Unreadable}
use Rattle.jcard_dump.proofs.LineLists.{IsTelling, lists_none, lists_unread, telling_more, telling_none, telling_then}
use Rattle.jcard_dump.proofs.PartLines.{bytes_some, component_step, image_step, image_words, lacks_words, part_word, parts_end, parts_from, parts_short}
use Rattle.jcard_dump.proofs.packages.push_parts.Goals as goal

pub loop-offset-init : goal.loop-offset-init
loop-offset-init g c = record {
  low = omega arith;
  high = omega (arith, c.requires.size);
  told = telling_none c.args.text.now.items (parts_lines c.args.references (record_words (g.S.WordStore.words c.args.store.now) c.args.found.at));
}

pub returns : goal.returns
returns g c =
    let w : List ℕ = g.S.WordStore.words c.args.store.now in
    let words : List ℕ = record_words w c.args.found.at in
    let o : ℕ = c.loop-offset.offset in
    let long : length words ≡ record_size w c.args.found.at = length-words w c.args.found.at c.requires.bounds c.requires.record in
    let none = parts_end c.args.references words o (omega (arith, long, c.requires.size)) in
    telling_then (Ok tt) c.args.text.now.items c.loop-offset.text.items c.loop-offset.text.items (parts_lines c.args.references words) (parts_from c.args.references words o)
    c.loop-offset.invariant.told (lists_none c.loop-offset.text.items (parts_from c.args.references words o) none.0 none.1)

pub returns-then-tag-eq0 : goal.returns-then-tag-eq0
returns-then-tag-eq0 g c =
    let w : List ℕ = g.S.WordStore.words c.args.store.now in
    let words : List ℕ = record_words w c.args.found.at in
    let o : ℕ = c.loop-offset.offset in
    let left : ℕ = c.args.found.size - o - 1 in
    let long : length words ≡ record_size w c.args.found.at = length-words w c.args.found.at c.requires.bounds c.requires.record in
    let below : o < length words = omega (arith, long, c.requires.size) in
    let place : c.args.found.at + o + 0 ≡ c.args.found.at + o = omega arith in
    let tag : get_or (drop o words) 0 0 ≡ 0 = part_word w c.args.found.at o 0 c.requires.bounds c.requires.record (omega (arith, long, below))
    ∙ ap (λ (n : ℕ). get_or w n 0) place ∙ sym c.read-tag.ensures ∙ c.if-tag-eq0.true in
    let step = image_step c.args.references words o below tag in
    let same : drop 1 (drop o words) ≡ take left (drop (c.args.found.at + o + 1) w) = image_words w c.args.found.at o left c.requires.bounds c.requires.record
    (omega (arith, below, long, c.requires.size)) in
    telling_then (Ok tt) c.args.text.now.items c.loop-offset.text.items c.push_image.new.text.items (parts_lines c.args.references words) (parts_from c.args.references words o)
    c.loop-offset.invariant.told (subst (λ (l : Lines). Lists c.loop-offset.text.items c.push_image.new.text.items l (Ok tt)) (sym step)
    (refl, c.in_ok-push_image.ensures ∙ ap (λ (l : List ℕ). c.loop-offset.text.items ++ image_text c.args.references l) (sym same)))

pub returns-in_default : goal.returns-in_default
returns-in_default g c =
    let w : List ℕ = g.S.WordStore.words c.args.store.now in
    let words : List ℕ = record_words w c.args.found.at in
    let o : ℕ = c.loop-offset.offset in
    let left : ℕ = c.args.found.size - o in
    let long : length words ≡ record_size w c.args.found.at = length-words w c.args.found.at c.requires.bounds c.requires.record in
    let lacks = lacks_words w c.args.found.at o left c.requires.bounds c.requires.record (omega (arith, long, c.requires.size)) (omega arith)
    (λ e. c.if-tag-eq0.false (c.read-tag.ensures ∙ e)) c.in_default.ensures in
    let none = parts_short c.args.references words o (omega (arith, long, c.requires.size)) lacks in
    telling_then (Err Unreadable) c.args.text.now.items c.loop-offset.text.items c.loop-offset.text.items (parts_lines c.args.references words) (parts_from c.args.references words o)
    c.loop-offset.invariant.told (lists_unread c.loop-offset.text.items (parts_from c.args.references words o) none.0 none.1)

pub loop-offset-preserved : goal.loop-offset-preserved
loop-offset-preserved g c =
    let w : List ℕ = g.S.WordStore.words c.args.store.now in
    let words : List ℕ = record_words w c.args.found.at in
    let o : ℕ = c.loop-offset.offset in
    let long : length words ≡ record_size w c.args.found.at = length-words w c.args.found.at c.requires.bounds c.requires.record in
    let bytes = bytes_some w (c.args.found.at + o) (c.args.found.size - o) c.in-Some.bytes c.in-Some.ensures in
    let place : c.args.found.at + o + 0 ≡ c.args.found.at + o = omega arith in
    let tag : get_or (drop o words) 0 0 ≡ c.read-tag.result = part_word w c.args.found.at o 0 c.requires.bounds c.requires.record
    (omega (arith, long, c.requires.size)) ∙ ap (λ (n : ℕ). get_or w n 0) place ∙ sym c.read-tag.ensures in
    let second : get_or (drop o words) 1 0 ≡ c.in-Some.bytes = part_word w c.args.found.at o 1 c.requires.bounds c.requires.record
    (omega (arith, long, c.requires.size, bytes.1)) ∙ sym bytes.0 in
    let step = component_step c.args.references words o c.read-tag.result c.in-Some.bytes tag c.if-tag-eq0.false second (omega (arith, long, c.requires.size, bytes.1)) in
    record {
      low = omega arith;
      high = omega (arith, bytes.1, c.words_for.ensures);
      told = subst (λ (n : ℕ). IsTelling c.args.text.now.items c.push_component.new.text.items (parts_lines c.args.references words) (parts_from c.args.references words (o + (2 + n))))
          (sym c.words_for.ensures)
          (telling_more c.args.text.now.items c.loop-offset.text.items c.push_component.new.text.items (component_text c.read-tag.result c.in-Some.bytes)
          (parts_lines c.args.references words) (parts_from c.args.references words o) (parts_from c.args.references words (o + (2 + words_for c.in-Some.bytes))) c.loop-offset.invariant.told step
          c.in_ok-push_component.ensures);
    }
