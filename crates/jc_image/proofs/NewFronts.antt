-- The first words of an image, as its heap gives them.
use Rattle.std.proofs.Common.{◌≡◌, ◌∙◌, ℕ, ◌<◌, ◌≤◌, List, [], ◌∷◌, length, take, get_or, map, ap, sym, arith, lit<}
use Rattle.std.specs.List.{range_with_len}
use Rattle.std.specs.Prelude.{Bool, if◌then◌else◌}
use Rattle.std.proofs.lemmas.Bool.{lt-ltb}
use Rattle.std.proofs.lemmas.List.{ext_get_or, get_or-take, length-take-le}
use Rattle.std.proofs.lemmas.List.FromFn.{length-map-range_with_len, get_or-map-range_with_len}
use Rattle.jc_words.specs.Layout.{magic_address, version_address, size_address, count_address, capacity_address, journal_address, top_address, packages_address}
use Rattle.jc_words.specs.Layout.{applets_address, front_capacity, version}
use Rattle.jc_words.specs.Image.{log_of, journal_start}
use Rattle.jc_words.specs.declared.log.Log.{Log}
use Rattle.jc_commit.proofs.Words.{bounds_of, log_told}
use Rattle.jc_words.specs.Layout.{reset_end_address, deselect_end_address, text_length_address, front_length}
use Rattle.jc_commit.specs.Image.{IsGoodLog, count_of, capacity_of, recovered_of}
use Rattle.jc_commit.proofs.InPlace.{plain_word}
use Rattle.jc_commit.proofs.Steps.{recovered_plain}
use Rattle.jc_heap.specs.Image.{IsWellFormed, image, capacity_in, text_words, table_text}
use Rattle.jc_heap.specs.Packed.{packed_byte, bytes_of_packed}
use Rattle.jc_heap.specs.Heap.{heap_of, read_image}
use Rattle.jc_image.specs.Laying.{first_words_of}

-- the first words, one after another
words_to : (w : List ℕ) (n : ℕ) → n ≤ length w → take n w ≡ map (λ a. get_or w a 0) (range_with_len 0 n)
words_to w n fits =
    let f : ℕ → ℕ = λ a. get_or w a 0 in
    let long : length (take n w) ≡ n = length-take-le n w fits in
    ext_get_or 0 (take n w) (map f (range_with_len 0 n)) (long ∙ sym (length-map-range_with_len f 0 n))
    (λ i below. let near : i < n = omega (arith, below, long) in
    get_or-take n w i 0 near ∙ sym (get_or-map-range_with_len f 0 n i i 0 near (omega arith)))

length-text : (img : List ℕ) → length (table_text img) ≡ get_or img text_length_address 0
unfolding bytes_of_packed
length-text img = length-map-range_with_len (packed_byte (text_words img)) 0 (get_or img text_length_address 0)

module _ (w : List ℕ) (good : IsGoodLog w) (laid : IsWellFormed (recovered_of w)) (none : count_of w ≡ 0)
    (current : get_or w version_address 0 ≡ version) where
  abbrev img : List ℕ
  img = image (recovered_of w)

  -- a word of the front but the count, in the image
  word : (a : ℕ) → a < front_length → (a ≡ count_address → ⊥) → get_or img a 0 ≡ get_or w a 0
  word a near other =
      let room = (bounds_of w good).room in
      let inside : a < get_or (recovered_of w) top_address 0 = omega (arith, laid.based) in
      get_or-take (get_or (recovered_of w) top_address 0) (recovered_of w) a 0 inside
      ∙ ap (λ (l : List ℕ). get_or l a 0) (recovered_plain w none)
      ∙ plain_word w a good (record { below = omega (arith, room); not_count = other; beside = λ le. absurd (omega (arith, le)) })

  -- the first words of words in which no entry of the log counts
  pub front-words : take front_length w ≡ first_words_of (heap_of (recovered_of w))
  unfolding read_image
  front-words =
      let size = good.size.enough in
      words_to w front_length (omega (arith, size)) ∙ (λ i.
      sym (word magic_address (lit< tt) (λ e. omega (arith, e))) i
      ∷ current i
      ∷ sym (word size_address (lit< tt) (λ e. omega (arith, e))) i
      ∷ none i
      ∷ sym (word 4 (lit< tt) (λ e. omega (arith, e))) i
      ∷ (sym (word top_address (lit< tt) (λ e. omega (arith, e))) ∙ top-word) i
      ∷ sym (word packages_address (lit< tt) (λ e. omega (arith, e))) i
      ∷ sym (word applets_address (lit< tt) (λ e. omega (arith, e))) i
      ∷ sym (word reset_end_address (lit< tt) (λ e. omega (arith, e))) i
      ∷ sym (word deselect_end_address (lit< tt) (λ e. omega (arith, e))) i
      ∷ (sym (word text_length_address (lit< tt) (λ e. omega (arith, e))) ∙ sym (length-text img)) i
      ∷ (sym (word capacity_address (lit< tt) (λ e. omega (arith, e))) ∙ sym told) i
      ∷ start-word i
      ∷ sym (word 13 (lit< tt) (λ e. omega (arith, e))) i
      ∷ sym (word 14 (lit< tt) (λ e. omega (arith, e))) i
      ∷ sym (word 15 (lit< tt) (λ e. omega (arith, e))) i
      ∷ [])
    where
      log : log_of img ≡ record { version = version; start = get_or img journal_address 0; capacity = get_or img capacity_address 0 }
      log = log_told img (word version_address (lit< tt) (λ e. omega (arith, e)) ∙ current)

      told : capacity_in img ≡ get_or img capacity_address 0
      told =
          ap (λ (b : Bool). if b then capacity_of img else front_capacity) (lt-ltb journal_address (length img) (omega
          (arith, laid.based, length-take-le (get_or (recovered_of w) top_address 0) (recovered_of w) laid.fits)))
          ∙ ap (λ (l : Log). l.capacity) log

      long : get_or img size_address 0 ≡ length w
      long = word size_address (lit< tt) (λ e. omega (arith, e)) ∙ good.size.told

      log-now : log_of w ≡ record { version = version; start = get_or w journal_address 0; capacity = get_or w capacity_address 0 }
      log-now = log_told w current

      start-word : get_or w journal_address 0 ≡ journal_start (get_or img size_address 0) (capacity_in img)
      start-word =
          sym (ap (λ (l : Log). l.start) log-now) ∙ good.size.journal.start
          ∙ (λ i. journal_start (sym long i) ((ap (λ (l : Log). l.capacity) log-now ∙ sym (word capacity_address (lit< tt) (λ e. omega (arith, e))) ∙ sym told) i))

      top-word : get_or img top_address 0 ≡ length img
      top-word =
          get_or-take (get_or (recovered_of w) top_address 0) (recovered_of w) top_address 0 (omega (arith, laid.based))
          ∙ sym (length-take-le (get_or (recovered_of w) top_address 0) (recovered_of w) laid.fits)
