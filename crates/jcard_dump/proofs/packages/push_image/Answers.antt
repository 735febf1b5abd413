use Rattle.std.proofs.Common.{arith, ◌≡◌, ◌+◌, ◌∙◌, ◌++◌, ap, ap₂, sym, get_or, length, take, drop, Bool, List, ℕ}
use Rattle.std.specs.Prelude.{codes, nat_lt}
use Rattle.std.proofs.lemmas.List.{get_or-drop, get_or-take, length-drop, length-take-le}
use Rattle.jcard_dump.specs.Packages.{static_at, static_text}
use Rattle.jcard_dump.specs.Texts.{each_text}
use Rattle.jcard_dump.proofs.EachText.{text_begun, text_grown}
use Rattle.jcard_dump.proofs.packages.push_image.Goals as goal

pub loop-i-init : goal.loop-i-init
loop-i-init g c =
    let words : List ℕ = take c.args.count (drop c.args.at (g.S.WordStore.words c.args.store.now)) in
    text_begun (static_at c.args.references words) c.args.text.now.items (codes ", static image") _ c.in_ok-extend_from_slice.ensures.items

pub loop-i-preserved : goal.loop-i-preserved
loop-i-preserved g c =
    let w : List ℕ = g.S.WordStore.words c.args.store.now in
    let i : ℕ = c.loop-i.i in
    let now : List ℕ = c.loop-i.text.items in
    let words : List ℕ = take c.args.count (drop c.args.at w) in
    let here : get_or words i 0 ≡ get_or w (c.args.at + i) 0 = get_or-take c.args.count (drop c.args.at w) i 0 (omega arith)
    ∙ get_or-drop c.args.at w i 0 in
    text_grown (static_at c.args.references words) c.args.text.now.items (codes ", static image") now _ i c.loop-i.invariant
    (c.in_ok-push_static.ensures ∙ ap (λ (v : ℕ). now ++ static_text (nat_lt i c.args.references) v) (c.read.ensures ∙ sym here))

pub returns : goal.returns
returns g c =
    let w : List ℕ = g.S.WordStore.words c.args.store.now in
    let words : List ℕ = take c.args.count (drop c.args.at w) in
    let long : length words ≡ c.args.count = length-take-le c.args.count (drop c.args.at w) (omega (arith, c.requires, length-drop c.args.at w)) in
    let last : c.loop-i.i ≡ length words = omega (arith, long) in
    c.loop-i.invariant ∙ ap (λ (n : ℕ). c.args.text.now.items ++ (codes ", static image" ++ each_text (static_at c.args.references words) n)) last
