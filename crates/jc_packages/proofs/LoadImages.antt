-- The static image of a package's record that was written.
use Rattle.std.proofs.Common.{◌≡◌, ℕ, suc, ◌+◌, ◌-◌, ◌*◌, ◌/◌, ◌<◌, ◌≤◌, List, [], ◌∷◌, ◌++◌, length, drop, get_or, replicate, refl, ◌∙◌, ap, arith}
use Rattle.std.proofs.Common.{append_assoc, Some}
use Rattle.jc_cap.proofs.FoundHeader.{back_of}
use Rattle.std.proofs.lemmas.List.{length-append, length-replicate, get_or_append_left, get_or-append_right}
use Rattle.jc_heap.specs.declared.object.Kind.{Kind}
use Rattle.jc_heap.specs.Component.{part_sizes, words_for}
use Rattle.jc_heap.specs.Walk.{records_from}
use Rattle.jc_heap.specs.Package.{array_addresses, component_words, components_words, image_words, package_record, record_size}
use Rattle.jc_heap.specs.Packed.{packed_words}
use Rattle.jc_heap.specs.Statics.{image_from, statics_of}
use Rattle.jc_heap.proofs.NewPackages.{length-package_record}
use Rattle.jc_heap.proofs.Packing.{length-array_addresses, length-packed_words, packed_words-word}
use Rattle.jc_heap.proofs.StaticImages.{image-here, image-next, statics-walk}
use Rattle.jc_packages.proofs.Lists.{zeros}

word_behind : (xs ys : List ℕ) (i : ℕ) → get_or (xs ++ ys) (length xs + i) 0 ≡ get_or ys i 0
word_behind xs ys i = get_or-append_right xs ys (length xs) (length xs + i) 0 refl (omega arith) ∙ ap (λ n. get_or ys n 0) (omega arith)

-- no tag is 0
abbrev pub AreTagged : List (ℕ × List ℕ) → Type 0
AreTagged [] = Unit {0}
AreTagged (c ∷ cs) = (0 < c.0) × AreTagged cs

-- the image begins after the 0 that follows the components
walk : (at : ℕ) (cs : List (ℕ × List ℕ)) (image : List ℕ) → AreTagged cs → image_from (records_from part_sizes 0 at (components_words cs ++ 0 ∷ image))
    ≡ Some (at + length (components_words cs) + 1)
walk at [] image tagged = image-here at (0 ∷ image) (omega arith) refl ∙ ap Some (omega arith)
walk at (c ∷ cs) image tagged =
    let more : List ℕ = components_words cs ++ 0 ∷ image in
    let ws : List ℕ = component_words c ++ more in
    let whole : components_words (c ∷ cs) ++ 0 ∷ image ≡ ws = append_assoc (component_words c) (components_words cs) (0 ∷ image) in
    let words : words_for (length c.1) ≡ length (packed_words c.1) = omega (arith, length-packed_words c.1) in
    let size : 2 + length (packed_words c.1) ≡ length (component_words c) = omega arith in
    let some : 0 < c.0 = tagged.0 in
    ap (λ l. image_from (records_from part_sizes 0 at l)) whole
    ∙ image-next at ws (omega arith) (λ e. omega (arith, e, some))
    ∙ ap (λ m. image_from (records_from part_sizes 0 (at + (2 + m)) (drop (2 + m) ws))) words
    ∙ ap (λ l. image_from (records_from part_sizes 0 (at + (2 + length (packed_words c.1))) l)) (ap (λ m. drop m ws) size ∙ back_of (component_words c) more)
    ∙ walk (at + (2 + length (packed_words c.1))) cs image tagged.1
    ∙ ap Some (omega (arith, length-append (component_words c) (components_words cs)))

module _ (at : ℕ) (cs : List (ℕ × List ℕ)) (xs : List (Kind × List ℕ)) (rest : List ℕ) where
  -- where it begins
  abbrev pub begin : ℕ
  begin = 2 + length (components_words cs)

  -- where the first array stands
  abbrev pub first : ℕ
  first = at + record_size cs xs rest

  pub image_begins : AreTagged cs → 0 < length cs → statics_of (package_record at cs xs rest) ≡ Some begin
  unfolding package_record
  image_begins tagged some = elim cs as (λ l. AreTagged l → 0 < length l → statics_of
      (record_size l xs rest ∷ (components_words l ++ 0 ∷ image_words (at + record_size l xs rest) xs rest)) ≡ Some (2 + length (components_words l))) [
        | [] ↦ λ tagged some. absurd (omega (arith, some))
        | c ∷ more ↦ λ tagged some.
            let positive : 0 < c.0 = tagged.0 in
            statics-walk (record_size (c ∷ more) xs rest ∷ (components_words (c ∷ more) ++ 0 ∷ image_words (at + record_size (c ∷ more) xs rest) xs rest))
            (λ e. omega (arith, e, positive))
            ∙ walk 1 (c ∷ more) (image_words (at + record_size (c ∷ more) xs rest) xs rest) tagged
            ∙ ap Some (omega arith)
      ] tagged some

  -- and how far it goes
  pub image_ends : begin + (length xs + (length rest + 1) / 2) ≡ length (package_record at cs xs rest)
  unfolding record_size
  image_ends = omega (arith, length-package_record at cs xs rest, length-packed_words rest)

  word_is : (i : ℕ) → get_or (package_record at cs xs rest) (begin + i) 0 ≡ get_or (image_words first xs rest) i 0
  unfolding package_record
  word_is i =
      let e : begin + i ≡ suc (length (components_words cs) + suc i) = omega arith in
      ap (λ n. get_or (record_size cs xs rest ∷ (components_words cs ++ 0 ∷ image_words first xs rest)) n 0) e
      ∙ word_behind (components_words cs) (0 ∷ image_words first xs rest) (suc i)

  -- its first words are the addresses of the arrays
  pub address_is : (i : ℕ) → i < length xs → get_or (package_record at cs xs rest) (begin + i) 0 ≡ get_or (array_addresses first xs) i 0
  address_is i lt = word_is i ∙ get_or_append_left (array_addresses first xs) (packed_words rest) 0 i (omega (arith, lt, length-array_addresses first xs))

  behind_addresses : (i : ℕ) → length xs ≤ i → get_or (package_record at cs xs rest) (begin + i) 0 ≡ get_or (packed_words rest) (i - length xs) 0
  behind_addresses i le = word_is i ∙ get_or-append_right (array_addresses first xs) (packed_words rest) (length xs) i 0 (length-array_addresses first xs) le

-- and after them, where the bytes begin with this many zeros, stand zeros
pub null_is : (at : ℕ) (cs : List (ℕ × List ℕ)) (xs : List (Kind × List ℕ)) (n : ℕ) (values : List ℕ) (i : ℕ) → length xs ≤ i → 2 * (i - length xs) + 1 < n →
    get_or (package_record at cs xs (replicate n 0 ++ values)) (2 + length (components_words cs) + i) 0 ≡ 0
null_is at cs xs n values i le lt =
    let k : ℕ = i - length xs in
    let zero_at : (j : ℕ) → j < n → get_or (replicate n 0 ++ values) j 0 ≡ 0 = λ j less. get_or_append_left (replicate n 0) values 0 j
    (omega (arith, less, length-replicate {A = ℕ} n 0)) ∙ zeros n j in
    let high : get_or (replicate n 0 ++ values) (2 * k) 0 ≡ 0 = zero_at (2 * k) (omega (arith, lt)) in
    let low : get_or (replicate n 0 ++ values) (2 * k + 1) 0 ≡ 0 = zero_at (2 * k + 1) lt in
    behind_addresses at cs xs (replicate n 0 ++ values) i le ∙ packed_words-word (replicate n 0 ++ values) k ∙ (omega (arith, high, low))
