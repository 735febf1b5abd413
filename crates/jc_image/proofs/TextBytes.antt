-- The table text, byte by byte.
use Rattle.std.proofs.Common.{◌≡◌, ℕ, ◌+◌, ◌/◌, ◌%◌, ◌==◌, ◌<◌, List, length, drop, get_or, ◌∙◌, ap, arith, if◌then◌else◌}
use Rattle.std.proofs.lemmas.List.{get_or-take, get_or-drop}
use Rattle.std.proofs.lemmas.List.FromFn.{length-map-range_with_len, get_or-map-range_with_len}
use Rattle.jc_words.specs.Layout.{text_length_address, text_start}
use Rattle.jc_heap.specs.Image.{text_words, text_byte, table_text}
use Rattle.jc_heap.specs.Packed.{packed_byte, bytes_of_packed}

pub length-table_text : (ws : List ℕ) → length (table_text ws) ≡ get_or ws text_length_address 0
unfolding bytes_of_packed
length-table_text ws = length-map-range_with_len (packed_byte (text_words ws)) 0 (get_or ws text_length_address 0)

pub table_text-byte : (ws : List ℕ) (i : ℕ) → i < get_or ws text_length_address 0 → get_or (table_text ws) i 0 ≡ text_byte ws i
unfolding bytes_of_packed
table_text-byte ws i h =
    get_or-map-range_with_len (packed_byte (text_words ws)) 0 (get_or ws text_length_address 0) i i 0 h (omega arith)
    ∙ ap (λ w. if i % 2 == 0 then w / 256 else w % 256)
    (get_or-take ((get_or ws text_length_address 0 + 1) / 2) (drop text_start ws) (i / 2) 0 (omega (arith, h)) ∙ get_or-drop text_start ws (i / 2) 0)
