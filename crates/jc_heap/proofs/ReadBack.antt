-- What is read of a record that was written.
use Rattle.std.proofs.Common.{◌≡◌, ℕ, zero, suc, ◌+◌, ◌<◌, ◌==◌, inl, inr, get_or, List, [], ◌∷◌, ◌++◌, length, take, drop, refl, sym, ◌∙◌, ap}
use Rattle.std.proofs.Common.{arith, append_assoc, Option, Some, None, if◌then◌else◌}
use Rattle.std.proofs.lemmas.List.{length-append, drop-drop}
use Rattle.std.proofs.lemmas.Bool.{cases_eq, eq-eqb, ne_eqb}
use Rattle.jc_heap.specs.declared.object.Kind.{Kind}
use Rattle.jc_heap.specs.declared.component.Span.{Span}
use Rattle.jc_heap.specs.Walk.{records_from}
use Rattle.jc_heap.specs.Packed.{packed_byte, packed_words}
use Rattle.jc_heap.specs.Package.{component_words, components_words, image_words, record_size, package_record, AreComponents}
use Rattle.jc_heap.specs.Component.{words_for, part_sizes, info_span, info_of, ReadsBack}
use Rattle.jc_heap.proofs.Packing.{length-packed_words}
use Rattle.jc_heap.proofs.PackedBytes.{packed_byte-is}
use Rattle.jc_heap.proofs.RecordReading.{info-here, info-next, info-image, span-whole}

drop-front : (xs ys : List ℕ) → drop (length xs) (xs ++ ys) ≡ ys
drop-front [] ys = refl
drop-front (x ∷ xs) ys = drop-front xs ys

-- where a component's info stands, by the components before it
abbrev found : ℕ → List (ℕ × List ℕ) → ℕ → Option Span
found at [] tag = None
found at (c ∷ cs) tag = if c.0 == tag then Some (record { at = at + 2; size = length c.1 }) else found (at + (2 + length (packed_words c.1))) cs tag

-- no tag is 0
abbrev AreTagged : List (ℕ × List ℕ) → Type 0
AreTagged cs = (k : ℕ) → k < length cs → 0 < (get_or cs k (0, [])).0

-- a walk over written components finds what is there
walk : (tag at : ℕ) (cs : List (ℕ × List ℕ)) (img : List ℕ) → 0 < tag → AreTagged cs
    → info_span (records_from part_sizes 0 at (components_words cs ++ 0 ∷ img)) tag ≡ found at cs tag
walk tag at [] img some all = info-image tag at (0 ∷ img) (omega arith) (λ e. omega arith) refl
walk tag at (c ∷ cs) img some all =
    let more : List ℕ = components_words cs ++ 0 ∷ img in
    let ws : List ℕ = component_words c ++ more in
    let whole : components_words (c ∷ cs) ++ 0 ∷ img ≡ ws = append_assoc (component_words c) (components_words cs) (0 ∷ img) in
    let words : words_for (length c.1) ≡ length (packed_words c.1) = omega (arith, length-packed_words c.1) in
    let long : length ws ≡ 2 + length (packed_words c.1) + length more = omega (arith, length-append (component_words c) more) in
    let tagged : 0 < c.0 = all 0 (omega arith) in
    let size : 2 + length (packed_words c.1) ≡ length (component_words c) = omega arith in
    ap (λ l. info_span (records_from part_sizes 0 at l) tag) whole
    ∙ elim (cases_eq c.0 tag) [
      | inl e ↦
          info-here tag at ws some (omega arith) e
          ∙ span-whole at (length c.1) ws refl (omega (arith, long, words))
          ∙ ap (λ b. if b then Some (record { at = at + 2; size = length c.1 }) else found (at + (2 + length (packed_words c.1))) cs tag)
          (sym (eq-eqb c.0 tag e))
      | inr n ↦
          info-next tag at ws (omega arith) n (λ e. omega (arith, e, tagged))
          ∙ ap (λ m. info_span (records_from part_sizes 0 (at + (2 + m)) (drop (2 + m) ws)) tag) words
          ∙ ap (λ l. info_span (records_from part_sizes 0 (at + (2 + length (packed_words c.1))) l) tag)
          (ap (λ m. drop m ws) size ∙ drop-front (component_words c) more)
          ∙ walk tag (at + (2 + length (packed_words c.1))) cs img some (λ k h. all (suc k) (omega arith))
          ∙ ap (λ b. if b then Some (record { at = at + 2; size = length c.1 }) else found (at + (2 + length (packed_words c.1))) cs tag)
          (sym (ne_eqb c.0 tag n))
    ]

-- where the component at an index is found
found-at : (at : ℕ) (cs : List (ℕ × List ℕ)) (k : ℕ) → k < length cs → ((i : ℕ) → i < k → (get_or cs i (0, [])).0 ≡ (get_or cs k (0, [])).0 → ⊥) →
    found at cs ((get_or cs k (0, [])).0) ≡ Some (record { at = at + (length (components_words (take k cs)) + 2); size = length ((get_or cs k (0, [])).1) })
found-at at [] k h other = absurd (omega arith)
found-at at (c ∷ cs) zero h other =
    ap (λ b. if b then Some (record { at = at + 2; size = length c.1 }) else found (at + (2 + length (packed_words c.1))) cs c.0) (eq-eqb c.0 c.0 refl)
found-at at (c ∷ cs) (suc k) h other =
    let tag : ℕ = (get_or cs k (0, [])).0 in
    let n : c.0 ≡ tag → ⊥ = other 0 (omega arith) in
    let here : at + (2 + length (packed_words c.1)) + (length (components_words (take k cs)) + 2) ≡ at
    + (length (component_words c ++ components_words (take k cs)) + 2) =
    omega (arith, length-append (component_words c) (components_words (take k cs))) in
    ap (λ b. if b then Some (record { at = at + 2; size = length c.1 }) else found (at + (2 + length (packed_words c.1))) cs tag) (ne_eqb c.0 tag n)
    ∙ found-at (at + (2 + length (packed_words c.1))) cs k (omega arith) (λ i lt. other (suc i) (omega arith))
    ∙ ap (λ a. Some (record { at = a; size = length ((get_or cs k (0, [])).1) })) here

found-none : (at : ℕ) (cs : List (ℕ × List ℕ)) (tag : ℕ) → ((k : ℕ) → k < length cs → (get_or cs k (0, [])).0 ≡ tag → ⊥) → found at cs tag ≡ None
found-none at [] tag none = refl
found-none at (c ∷ cs) tag none =
    ap (λ b. if b then Some (record { at = at + 2; size = length c.1 }) else found (at + (2 + length (packed_words c.1))) cs tag)
    (ne_eqb c.0 tag (none 0 (omega arith)))
    ∙ found-none (at + (2 + length (packed_words c.1))) cs tag (λ k h. none (suc k) (omega arith))

-- the words after a component's tag and size
info_words_at : (cs : List (ℕ × List ℕ)) (k : ℕ) (tail : List ℕ) → k < length cs
    → (more : List ℕ) × (drop (length (components_words (take k cs)) + 2) (components_words cs ++ tail) ≡ packed_words ((get_or cs k (0, [])).1) ++ more)
info_words_at [] k tail h = absurd (omega arith)
info_words_at (c ∷ cs) zero tail h =
    (components_words cs ++ tail, ap (drop 2) (append_assoc (component_words c) (components_words cs) tail))
info_words_at (c ∷ cs) (suc k) tail h =
    let ih : (more : List ℕ) × (drop (length (components_words (take k cs)) + 2) (components_words cs ++ tail) ≡ packed_words ((get_or cs k (0, [])).1)
    ++ more) = info_words_at cs k tail (omega arith) in
    let n : ℕ = length (components_words (take k cs)) + 2 in
    let long : length (component_words c ++ components_words (take k cs)) + 2 ≡ length (component_words c) + n =
    omega (arith, length-append (component_words c) (components_words (take k cs))) in (
      ih.0,
      ap (λ m. drop m ((component_words c ++ components_words cs) ++ tail)) long
          ∙ ap (drop (length (component_words c) + n)) (append_assoc (component_words c) (components_words cs) tail)
          ∙ sym (drop-drop n (length (component_words c)) (component_words c ++ (components_words cs ++ tail)))
          ∙ ap (drop n) (drop-front (component_words c) (components_words cs ++ tail))
          ∙ ih.1,
    )

-- the record's words after its length
behind_length : (at : ℕ) (cs : List (ℕ × List ℕ)) (xs : List (Kind × List ℕ)) (rest : List ℕ) (n : ℕ)
    → drop (suc n) (package_record at cs xs rest) ≡ drop n (components_words cs ++ 0 ∷ image_words (at + record_size cs xs rest) xs rest)
unfolding package_record
behind_length at cs xs rest n = refl

tagged : (cs : List (ℕ × List ℕ)) → AreComponents cs → AreTagged cs
tagged cs a = λ k h. (a.tags k h).0

look_up : (at : ℕ) (cs : List (ℕ × List ℕ)) (xs : List (Kind × List ℕ)) (rest : List ℕ) (tag : ℕ) → AreComponents cs → 0 < tag
    → info_of (package_record at cs xs rest) tag ≡ found 1 cs tag
unfolding info_of
look_up at cs xs rest tag a some =
    ap (λ l. info_span (records_from part_sizes 0 1 l) tag) (behind_length at cs xs rest 0)
    ∙ walk tag 1 cs (image_words (at + record_size cs xs rest) xs rest) some (tagged cs a)

pub reads_back : ReadsBack
reads_back = record {
  each = λ at cs xs rest a small k h.
      let bs : List ℕ = (get_or cs k (0, [])).1 in
      let n : ℕ = length (components_words (take k cs)) + 2 in
      let s : Span = record { at = 1 + n; size = length bs } in
      let tail : List ℕ = 0 ∷ image_words (at + record_size cs xs rest) xs rest in
      let apart : (i : ℕ) → i < k → (get_or cs i (0, [])).0 ≡ (get_or cs k (0, [])).0 → ⊥ = λ i lt e. omega (arith, a.ascending i k lt h, e) in
      let words : (more : List ℕ) × (drop (length (components_words (take k cs)) + 2) (components_words cs ++ tail) ≡ packed_words bs ++ more) =
      info_words_at cs k tail h in
      let one : 1 + n ≡ suc n = omega arith in
      let there : drop (1 + n) (package_record at cs xs rest) ≡ packed_words bs ++ words.0 = ap (λ m. drop m (package_record at cs xs rest)) one
      ∙ behind_length at cs xs rest n ∙ words.1 in (
        s,
        (
          look_up at cs xs rest ((get_or cs k (0, [])).0) a ((a.tags k h).0) ∙ found-at 1 cs k h apart,
          record {
            size = refl;
            bytes = λ i lt. ap (λ l. packed_byte l i) there ∙ packed_byte-is bs words.0 i lt (λ j. small k j h);
          },
        ),
      );
  no_other = λ at cs xs rest a tag some none. look_up at cs xs rest tag a some ∙ found-none 1 cs tag none;
}
