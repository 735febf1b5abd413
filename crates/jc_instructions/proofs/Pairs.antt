-- Two bytes that are one word.
use Rattle.std.proofs.Common.{◌≡◌, ℕ, ◌+◌, ◌*◌, ◌/◌, ◌%◌, ◌==◌, Bool, true, false, Option, Some, None, refl, ap, ◌∙◌, arith, eq-eqb, ne_eqb}
use Rattle.std.specs.Prelude.{if◌then◌else◌}
use Rattle.std.specs.Option.{option_map, option_and_then}
use Rattle.jc_heap.specs.Heap.{HeapState}
use Rattle.jc_instructions.specs.declared.static_images.ImageWord.{ImageWord}
use Rattle.jc_instructions.specs.StaticImages.{byte_of, word_value, image_word, image_byte, image_pair}

both : (v o : ℕ) → o % 2 ≡ 0 → 256 * byte_of v o + byte_of v (o + 1) ≡ v
both v o even =
    let high : (o % 2 == 0) ≡ true = eq-eqb (o % 2) 0 even in
    let low : ((o + 1) % 2 == 0) ≡ false = ne_eqb ((o + 1) % 2) 0 (λ same. absurd (omega (arith, even, same))) in
    ap (λ (b : Bool). 256 * (if b then v / 256 else v % 256) + byte_of v (o + 1)) high ∙ ap (λ (b : Bool). 256 * (v / 256) + (if b then v / 256 else v % 256)) low ∙ omega arith

joined : (h : HeapState) (o : ℕ) (w : Option ImageWord) → o % 2 ≡ 0
    → option_and_then (λ high. option_map (λ low. 256 * high + low) (option_map (λ x. byte_of (word_value h x) (o + 1)) w)) (option_map (λ x. byte_of (word_value h x) o) w)
    ≡ option_map (word_value h) w
joined h o None even = refl
joined h o (Some w) even = ap Some (both (word_value h w) o even)

-- at an even offset two bytes are a word of the image
pub even_pair : (h : HeapState) (package_number offset : ℕ) → offset % 2 ≡ 0 → image_pair h package_number offset ≡ option_map (word_value h)
    (image_word h package_number (offset / 2))
unfolding image_pair image_byte
even_pair h package_number offset even =
    let half : (offset + 1) / 2 ≡ offset / 2 = omega (arith, even) in
    ap (λ (k : ℕ). option_and_then (λ high. option_map (λ low. 256 * high + low) (option_map (λ x. byte_of (word_value h x) (offset + 1)) (image_word h package_number k)))
    (option_map (λ x. byte_of (word_value h x) offset) (image_word h package_number (offset / 2)))) half
    ∙ joined h offset (image_word h package_number (offset / 2)) even
