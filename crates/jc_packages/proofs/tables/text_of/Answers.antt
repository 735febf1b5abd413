use Rattle.std.proofs.Common.{◌<◌, ◌∙◌, ◌++◌, ◌∷◌, [], List, ℕ, ap, sym, get_or, take, arith}
use Rattle.std.proofs.lemmas.List.{take_all, take_more}
use Rattle.jc_words.specs.Layout.{text_length_address}
use Rattle.jc_heap.specs.Image.{table_text}
use Rattle.jc_image.proofs.TextBytes.{length-table_text, table_text-byte}
use Rattle.jc_packages.proofs.tables.text_of.Goals as goal

pub loop-i-preserved : goal.loop-i-preserved
loop-i-preserved g c =
    let w : List ℕ = g.W.ImageWords.words c.args.image.now in
    let i = c.loop-i.i in
    let near : i < get_or w text_length_address 0 = omega (arith, c.word-count.ensures) in
    c.in_ok-push.ensures.items
    ∙ ap (λ (l : List ℕ). l ++ c.text_byte.result ∷ []) c.loop-i.invariant
    ∙ ap (λ (v : ℕ). take i (table_text w) ++ v ∷ []) (c.text_byte.ensures ∙ sym (table_text-byte w i near))
    ∙ sym (take_more (table_text w) i 0 (omega (arith, near, length-table_text w)))

pub returns : goal.returns
returns g c =
    let w : List ℕ = g.W.ImageWords.words c.args.image.now in
    c.loop-i.invariant ∙ take_all c.loop-i.i (table_text w) (omega (arith, c.word-count.ensures, length-table_text w))
