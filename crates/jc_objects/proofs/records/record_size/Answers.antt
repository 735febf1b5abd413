use Rattle.std.proofs.Common.{arith, length, refl, ◌+◌, ◌≡◌, ◌/◌, ◌∙◌, ◌==◌, ap, sym, get_or, true, false, drop, Bool, List, ℕ}
use Rattle.std.proofs.lemmas.Bool.{ne_eqb, eq-eqb}
use Rattle.std.proofs.lemmas.List.{length-drop, length-take, get_or_past}
use Rattle.jc_words.specs.Layout.{top_address}
use Rattle.jc_heap.specs.Object.{is_header, is_packed_header, words_of_cells}
use Rattle.jc_heap.specs.Image.{image, package_addresses, is_package}
use Rattle.jc_heap.proofs.Views.{readable}
use Rattle.jc_heap.proofs.Walks.{word_at, word_from}
use Rattle.jc_objects.proofs.HeapBounds.{Bounds, bounds}
use Rattle.jc_objects.proofs.records.record_size.Goals as goal

pub word-word-requires : goal.word-word-requires
word-word-requires g c =
    let b : Bounds (g.W.ImageWords.words c.args.words.now) = bounds (g.W.ImageWords.words c.args.words.now) c.requires.bounds in
    readable (length (g.W.ImageWords.words c.args.words.now)) c.args.at (omega (arith, b.fits, c.requires.is_top)) c.requires.low

pub word-requires : goal.word-requires
word-requires g c =
    let b : Bounds (g.W.ImageWords.words c.args.words.now) = bounds (g.W.ImageWords.words c.args.words.now) c.requires.bounds in
    readable (length (g.W.ImageWords.words c.args.words.now)) (c.args.at + 3) (omega (arith, b.fits, c.requires.is_top)) (omega (arith, c.requires.low))

pub returns-then-begins_package : goal.returns-then-begins_package
returns-then-begins_package g c =
    let w : List ℕ = g.W.ImageWords.words c.args.words.now in
    let is : is_package (package_addresses (image w)) c.args.at ≡ true = sym c.begins_package.ensures ∙ c.if-begins_package.true in
    rw is (omega (arith, word_at w c.args.at (omega arith)))

pub returns-then-not-begins_header : goal.returns-then-not-begins_header
returns-then-not-begins_header g c =
    let w : List ℕ = g.W.ImageWords.words c.args.words.now in
    let is : is_package (package_addresses (image w)) c.args.at ≡ false = sym c.begins_package.ensures ∙ c.if-begins_package.false in
    let word : c.word-word.result ≡ get_or (drop c.args.at (image w)) 0 0 = c.word-word.ensures
    ∙ sym (word_at w c.args.at (omega arith)) in
    let none : is_header (get_or (drop c.args.at (image w)) 0 0) ≡ false = ap is_header (sym word) ∙ sym c.begins_header.ensures
    ∙ c.if-not-begins_header.true in
    rw (is, none) refl

pub returns-then-word-ne0 : goal.returns-then-word-ne0
returns-then-word-ne0 g c =
    let w : List ℕ = g.W.ImageWords.words c.args.words.now in
    let is : is_package (package_addresses (image w)) c.args.at ≡ false = sym c.begins_package.ensures ∙ c.if-begins_package.false in
    let word : c.word-word.result ≡ get_or (drop c.args.at (image w)) 0 0 = c.word-word.ensures
    ∙ sym (word_at w c.args.at (omega arith)) in
    let header : is_header (get_or (drop c.args.at (image w)) 0 0) ≡ true = ap is_header (sym word) ∙ sym c.begins_header.ensures
    ∙ c.if-not-begins_header.false in
    let transient : (get_or (drop c.args.at (image w)) 0 0 / 256 == 0) ≡ false =
    ne_eqb _ _ (λ e. c.if-word-ne0.true (ap (λ w. w / 256) word ∙ e)) in
    rw (is, header, transient) (omega arith)

pub returns-then-top-at-lt-HEADER : goal.returns-then-top-at-lt-HEADER
returns-then-top-at-lt-HEADER g c =
    let w : List ℕ = g.W.ImageWords.words c.args.words.now in
    let is : is_package (package_addresses (image w)) c.args.at ≡ false = sym c.begins_package.ensures ∙ c.if-begins_package.false in
    let word : c.word-word.result ≡ get_or (drop c.args.at (image w)) 0 0 = c.word-word.ensures
    ∙ sym (word_at w c.args.at (omega arith)) in
    let header : is_header (get_or (drop c.args.at (image w)) 0 0) ≡ true = ap is_header (sym word) ∙ sym c.begins_header.ensures
    ∙ c.if-not-begins_header.false in
    let persistent : (get_or (drop c.args.at (image w)) 0 0 / 256 == 0) ≡ true =
    eq-eqb _ _ (ap (λ w. w / 256) (sym word) ∙ (omega arith)) in
    let behind : get_or (drop c.args.at (image w)) 3 0 ≡ 0 =
    get_or_past (drop c.args.at (image w)) 3 0 (omega (
      arith,
      length-drop c.args.at (image w),
      length-take (get_or w top_address 0) w,
    )) in
    let cells : (packed : Bool) → words_of_cells packed 0 ≡ 0 = λ packed. elim packed as (λ b. words_of_cells b 0 ≡ 0) [ true ↦ refl | false ↦ refl ] in
    rw (is, header, persistent, behind, cells) (omega arith)

pub returns : goal.returns
returns g c =
    let w : List ℕ = g.W.ImageWords.words c.args.words.now in
    let is : is_package (package_addresses (image w)) c.args.at ≡ false = sym c.begins_package.ensures ∙ c.if-begins_package.false in
    let word : c.word-word.result ≡ get_or (drop c.args.at (image w)) 0 0 = c.word-word.ensures
    ∙ sym (word_at w c.args.at (omega arith)) in
    let header : is_header (get_or (drop c.args.at (image w)) 0 0) ≡ true = ap is_header (sym word) ∙ sym c.begins_header.ensures
    ∙ c.if-not-begins_header.false in
    let persistent : (get_or (drop c.args.at (image w)) 0 0 / 256 == 0) ≡ true =
    eq-eqb _ _ (ap (λ w. w / 256) (sym word) ∙ (omega arith)) in
    let fourth : get_or (drop c.args.at (image w)) 3 0 ≡ get_or w (c.args.at + 3) 0 =
    word_from w c.args.at 3 (omega arith) in
    let cells : c.words_of_cells.result ≡ words_of_cells (is_packed_header (get_or (drop c.args.at (image w)) 0 0))
    (get_or w (c.args.at + 3) 0) =
    c.words_of_cells.ensures
    ∙ (λ i. words_of_cells ((c.is_packed_header.ensures ∙ ap is_packed_header word) i) (c.word.ensures i)) in
    rw (is, header, persistent, fourth) (omega (arith, cells))
