-- The words of a store under a heap: the magic word and the number of words stand for themselves.
use Rattle.std.proofs.Common.{◌≡◌, ℕ, ◌+◌, ◌-◌, ◌/◌, ◌<◌, ◌≤◌, Bool, true, false, List, length, take, drop, get_or, refl, ◌∙◌, ap, sym}
use Rattle.std.proofs.Common.{arith, if◌then◌else◌, lit<}
use Rattle.std.proofs.lemmas.List.{get_or-take, take-take, drop-take, length-take, length-take-le}
use Rattle.std.proofs.lemmas.Bool.{lt-ltb}
use Rattle.std.proofs.lemmas.List.FromFn.{get_or-map-range_with_len}
use Rattle.jc_words.specs.Layout.{magic_address, version_address, size_address, capacity_address, journal_address, front_capacity, top_address, text_length_address, text_start}
use Rattle.jc_words.specs.Image.{log_of}
use Rattle.jc_words.specs.declared.log.Log.{Log}
use Rattle.jc_commit.specs.Image.{capacity_of, is_log, limit_of, plain_of, recovered_of, words_by, IsGoodLog}
use Rattle.jc_commit.proofs.Words.{log-same}
use Rattle.jc_commit.proofs.InPlace.{IsFront, plain_front, recovered_front}
use Rattle.jc_heap.specs.Image.{image, table_text, IsWellFormed}
use Rattle.jc_heap.specs.Heap.{head_of, read_image, heap_of}
use Rattle.jc_heap.proofs.Images.{head-same, text-same}

-- a word that is 0 counts as 0, whether it is the journal's or not
pub plain_zero : (w : List ℕ) (a : ℕ) → a < limit_of w → get_or w a 0 ≡ 0 → get_or (plain_of w) a 0 ≡ 0
unfolding plain_of words_by
plain_zero w a below z =
    get_or-map-range_with_len (λ b. if is_log (log_of w) b then 0 else get_or w b 0) 0 (limit_of w) a a 0 below (omega arith)
    ∙ elim (is_log (log_of w) a) as (λ b. (if b then 0 else get_or w a 0) ≡ 0) [ true ↦ refl | false ↦ z ]

front_magic : IsFront magic_address
front_magic = record { below = lit< tt; not_count = λ e. absurd (omega (arith, e)); unnamed = λ h. absurd (omega (arith, h)) }

front_size : IsFront size_address
front_size = record { below = lit< tt; not_count = λ e. absurd (omega (arith, e)); unnamed = λ h. absurd (omega (arith, h)) }

pub plain-head : (w : List ℕ) → IsGoodLog w → head_of (plain_of w) ≡ head_of w
plain-head w good =
    head-same w (plain_of w) (plain_front w magic_address good front_magic) (plain_front w size_address good front_size)

pub recovered-head : (w : List ℕ) → IsGoodLog w → head_of (recovered_of w) ≡ head_of w
recovered-head w good =
    head-same w (recovered_of w) (recovered_front w magic_address good front_magic) (recovered_front w size_address good front_size)

-- the heap's head is that of its words
pub head_is : (ws : List ℕ) → IsWellFormed ws → (heap_of ws).head ≡ head_of ws
unfolding read_image
head_is ws laid =
    head-same ws (image ws)
    (get_or-take (get_or ws top_address 0) ws magic_address 0 (omega (arith, laid.based)))
    (get_or-take (get_or ws top_address 0) ws size_address 0 (omega (arith, laid.based)))

-- and it can keep as many old values as they say
pub capacity-image : (ws : List ℕ) → journal_address < length (image ws) → capacity_of (image ws) ≡ capacity_of ws
capacity-image ws h =
    let long : journal_address < get_or ws top_address 0 = omega (arith, h, length-take (get_or ws top_address 0) ws) in
    ap (λ (l : Log). l.capacity) (log-same ws (image ws)
    (get_or-take (get_or ws top_address 0) ws version_address 0 (omega (arith, long)))
    (get_or-take (get_or ws top_address 0) ws capacity_address 0 (omega (arith, long)))
    (get_or-take (get_or ws top_address 0) ws journal_address 0 long))

pub capacity_is : (ws : List ℕ) → IsWellFormed ws → (heap_of ws).capacity ≡ capacity_of ws
unfolding read_image
capacity_is ws laid =
    let long : journal_address < length (image ws) = omega (arith, laid.based, length-take-le (get_or ws top_address 0) ws laid.fits) in
    ap (λ (b : Bool). if b then capacity_of (image ws) else front_capacity) (lt-ltb journal_address (length (image ws)) long) ∙ capacity-image ws long

-- and its text the table text
pub text_is : (ws : List ℕ) → IsWellFormed ws → (heap_of ws).text ≡ table_text ws
unfolding read_image
text_is ws laid =
    let long : get_or (image ws) text_length_address 0 ≡ get_or ws text_length_address 0 =
    get_or-take (get_or ws top_address 0) ws text_length_address 0 (omega (arith, laid.based)) in
    let based : text_start + (get_or ws text_length_address 0 + 1) / 2 ≤ get_or ws top_address 0 = omega (arith, laid.based, ap (λ n. (n + 1) / 2) long) in
    let split : text_start + (get_or ws top_address 0 - text_start) ≡ get_or ws top_address 0 = omega (arith, based) in
    text-same ws (image ws) long
    (ap (λ t. take ((get_or ws text_length_address 0 + 1) / 2) (drop text_start (take t ws))) (sym split)
    ∙ ap (take ((get_or ws text_length_address 0 + 1) / 2)) (drop-take text_start (get_or ws top_address 0 - text_start) ws)
    ∙ take-take ((get_or ws text_length_address 0 + 1) / 2) (get_or ws top_address 0 - text_start) (drop text_start ws) (omega (arith, based)))
