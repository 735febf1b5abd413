-- A word of a package's static image says nothing of its components.
use Rattle.std.proofs.Common.{◌≡◌, ℕ, zero, suc, ◌+◌, ◌-◌, ◌/◌, ◌%◌, ◌<◌, ◌≤◌, inl, inr, List, [], ◌∷◌, length, take, drop, set, get_or, refl, sym, ◌∙◌, ap}
use Rattle.std.proofs.Common.{arith, Option, Some, None, if◌then◌else◌, nat_lt}
use Rattle.std.specs.Option.{option_map}
use Rattle.std.proofs.lemmas.List.{get_or-drop, get_or-set_other, get_or-take, take-set-le}
use Rattle.std.proofs.lemmas.Bool.{cases_Bool, cases_eq, eq-eqb, ne_eqb}
use Rattle.std.proofs.lemmas.Option.{none-some, same_Some}
use Rattle.jc_cap.specs.declared.texts.LoadedComponents.{LoadedComponents}
use Rattle.jc_heap.specs.declared.component.Span.{Span}
use Rattle.jc_heap.specs.Component.{info_of, info_span, part_sizes, record_parts, span_in, words_for}
use Rattle.jc_heap.specs.Walk.{records_from}
use Rattle.jc_heap.specs.Packed.{packed_byte, bytes_of_packed}
use Rattle.jc_heap.specs.Statics.{IsStatic, image_from, statics_of}
use Rattle.jc_heap.proofs.StaticImages.{static_behind, statics-walk, statics-zero}
use Rattle.jc_packages.proofs.Lists.{byte_same, map_same}
use Rattle.jc_packages.specs.Reading.{load_of, text_at, text_in}

-- words that all belong to an earlier part begin none
none_left : (s at : ℕ) (ws : List ℕ) → length ws ≤ s → records_from part_sizes s at ws ≡ []
none_left s at [] le = refl
none_left zero at (w ∷ ws) le = absurd (omega (arith, le))
none_left (suc s) at (w ∷ ws) le = none_left s (suc at) ws (omega (arith, le))

-- ---- the first of a record's parts: the static image, or a component

abbrev more_of : ℕ → ℕ → List ℕ → List (ℕ × List ℕ)
more_of at w ws = records_from part_sizes (part_sizes at (w ∷ ws)) (suc at) ws

-- the parts after a component with this many bytes
abbrev behind_info : ℕ → ℕ → List ℕ → List (ℕ × List ℕ)
behind_info at size ws = records_from part_sizes (1 + words_for size) (suc at) ws

module _ (at w : ℕ) (ws : List ℕ) where
  module _ (z : w ≡ 0) where
    image_here : image_from (records_from part_sizes 0 at (w ∷ ws)) ≡ Some (at + 1)
    image_here = ap (λ c. if c then Some (at + 1) else image_from (more_of at w ws)) (eq-eqb w 0 z)

    no_span : (tag : ℕ) → 0 < tag → info_span (records_from part_sizes 0 at (w ∷ ws)) tag ≡ None
    no_span tag some =
        let size : part_sizes at (w ∷ ws) ≡ length (w ∷ ws) - 1 = ap (λ c. if c then length (w ∷ ws) - 1 else 1 + words_for (get_or ws 0 0)) (eq-eqb w 0 z) in
        ap (λ c. if c then span_in (at, w ∷ take (part_sizes at (w ∷ ws)) ws) else info_span (more_of at w ws) tag)
        (ne_eqb w tag (λ e. omega (arith, e, z, some)))
        ∙ ap (λ l. info_span l tag) (none_left (part_sizes at (w ∷ ws)) (suc at) ws (omega (arith, size)))

  module _ (n : w ≡ 0 → ⊥) where
    size_is : part_sizes at (w ∷ ws) ≡ 1 + words_for (get_or ws 0 0)
    size_is = ap (λ c. if c then length (w ∷ ws) - 1 else 1 + words_for (get_or ws 0 0)) (ne_eqb w 0 n)

    image_more : image_from (records_from part_sizes 0 at (w ∷ ws)) ≡ image_from (behind_info at (get_or ws 0 0) ws)
    image_more = ap (λ c. if c then Some (at + 1) else image_from (more_of at w ws)) (ne_eqb w 0 n)
        ∙ ap (λ s. image_from (records_from part_sizes s (suc at) ws)) size_is

    span_here : (tag : ℕ) → w ≡ tag → info_span (records_from part_sizes 0 at (w ∷ ws)) tag ≡ span_in (at, w ∷ take (1 + words_for (get_or ws 0 0)) ws)
    span_here tag is =
        ap (λ c. if c then span_in (at, w ∷ take (part_sizes at (w ∷ ws)) ws) else info_span (more_of at w ws) tag) (eq-eqb w tag is)
        ∙ ap (λ s. span_in (at, w ∷ take s ws)) size_is

    span_more : (tag : ℕ) → (w ≡ tag → ⊥) → info_span (records_from part_sizes 0 at (w ∷ ws)) tag ≡ info_span (behind_info at (get_or ws 0 0) ws) tag
    span_more tag other =
        ap (λ c. if c then span_in (at, w ∷ take (part_sizes at (w ∷ ws)) ws) else info_span (more_of at w ws) tag) (ne_eqb w tag other)
        ∙ ap (λ s. info_span (records_from part_sizes s (suc at) ws) tag) size_is

-- ---- where the parts lie

-- the image begins after what belongs to an earlier part
image_behind : (s at : ℕ) (ws : List ℕ) (b : ℕ) → image_from (records_from part_sizes s at ws) ≡ Some b → at + s + 1 ≤ b
image_behind s at [] b e = absurd (none-some b e)
image_behind (suc s) at (w ∷ ws) b e = let low = image_behind s (suc at) ws b e in omega (arith, low)
image_behind zero at (w ∷ ws) b e = elim (cases_eq w 0) [
  | inl z ↦ let is : at + 1 ≡ b = same_Some (at + 1) b (sym (image_here at w ws z) ∙ e) in omega (arith, is)
  | inr n ↦ let low = image_behind (1 + words_for (get_or ws 0 0)) (suc at) ws b (sym (image_more at w ws n) ∙ e) in omega (arith, low)
]

-- a word of the image doesn't say where an info stands
span_set : (tag s at : ℕ) (ws : List ℕ) (q v b : ℕ) → 0 < tag → image_from (records_from part_sizes s at ws) ≡ Some b → b ≤ at + q
    → info_span (records_from part_sizes s at (set ws q v)) tag ≡ info_span (records_from part_sizes s at ws) tag
span_set tag s at [] q v b some e le = refl
span_set tag (suc s) at (w ∷ ws) zero v b some e le = absurd (let low = image_behind s (suc at) ws b e in omega (arith, low, le))
span_set tag (suc s) at (w ∷ ws) (suc q) v b some e le = span_set tag s (suc at) ws q v b some e (omega (arith, le))
span_set tag zero at (w ∷ ws) zero v b some e le = absurd (let low = image_behind zero at (w ∷ ws) b e in omega (arith, low, le))
span_set tag zero at (w ∷ ws) (suc q) v b some e le = elim (cases_eq w 0) [
  | inl z ↦ no_span at w (set ws q v) z tag some ∙ sym (no_span at w ws z tag some)
  | inr n ↦
      let rest : image_from (behind_info at (get_or ws 0 0) ws) ≡ Some b = sym (image_more at w ws n) ∙ e in
      let low = image_behind (1 + words_for (get_or ws 0 0)) (suc at) ws b rest in
      let same : get_or (set ws q v) 0 0 ≡ get_or ws 0 0 = get_or-set_other ws q 0 v 0 (λ z. omega (arith, z, low, le)) in
      elim (cases_eq w tag) [
        | inl is ↦
            span_here at w (set ws q v) n tag is
            ∙ ap (λ k. span_in (at, w ∷ take (1 + words_for k) (set ws q v))) same
            ∙ ap (λ l. span_in (at, w ∷ l)) (take-set-le (1 + words_for (get_or ws 0 0)) ws q v (omega (arith, low, le)))
            ∙ sym (span_here at w ws n tag is)
        | inr other ↦
            span_more at w (set ws q v) n tag other
            ∙ ap (λ k. info_span (behind_info at k (set ws q v)) tag) same
            ∙ span_set tag (1 + words_for (get_or ws 0 0)) (suc at) ws q v b some rest (omega (arith, le))
            ∙ sym (span_more at w ws n tag other)
      ]
]

span_is : (p : ℕ × List ℕ) (sp : Span) → span_in p ≡ Some sp → record { at = p.0 + 2; size = get_or p.1 1 0 } ≡ sp
span_is p sp e = elim (cases_Bool (nat_lt (length p.1) (2 + words_for (get_or p.1 1 0)))) [
  | inl short ↦ absurd (none-some sp (sym (ap (λ c. if c then None else Some (record { at = p.0 + 2; size = get_or p.1 1 0 })) short) ∙ e))
  | inr long ↦ same_Some (record { at = p.0 + 2; size = get_or p.1 1 0 }) sp (sym
      (ap (λ c. if c then None else Some (record { at = p.0 + 2; size = get_or p.1 1 0 })) long) ∙ e)
]

-- an info ends before the image begins
span_before : (tag s at : ℕ) (ws : List ℕ) (b : ℕ) (sp : Span) → 0 < tag → image_from (records_from part_sizes s at ws) ≡ Some b
    → info_span (records_from part_sizes s at ws) tag ≡ Some sp → sp.at + words_for sp.size < b
span_before tag s at [] b sp some e is = absurd (none-some b e)
span_before tag (suc s) at (w ∷ ws) b sp some e is = span_before tag s (suc at) ws b sp some e is
span_before tag zero at (w ∷ ws) b sp some e is = elim (cases_eq w 0) [
  | inl z ↦ absurd (none-some sp (sym (no_span at w ws z tag some) ∙ is))
  | inr n ↦
      let rest : image_from (behind_info at (get_or ws 0 0) ws) ≡ Some b = sym (image_more at w ws n) ∙ e in
      elim (cases_eq w tag) [
        | inl here ↦
            let long : ℕ = 1 + words_for (get_or ws 0 0) in
            let low = image_behind (1 + words_for (get_or ws 0 0)) (suc at) ws b rest in
            let found : record { at = at + 2; size = get_or (take (1 + words_for (get_or ws 0 0)) ws) 0 0 } ≡ sp =
            span_is (at, w ∷ take (1 + words_for (get_or ws 0 0)) ws) sp (sym (span_here at w ws n tag here) ∙ is) in
            let size : sp.size ≡ get_or ws 0 0 = sym (ap (λ x. x.size) found) ∙ get_or-take (1 + words_for (get_or ws 0 0)) ws 0 0 (omega arith) in
            let begin : at + 2 ≡ sp.at = ap (λ x. x.at) found in
            omega (arith, low, size, begin)
        | inr other ↦ span_before tag (1 + words_for (get_or ws 0 0)) (suc at) ws b sp some rest (sym (span_more at w ws n tag other) ∙ is)
      ]
]

-- ---- the bytes of an info

bytes_same : (n : ℕ) (xs ys : List ℕ) → ((i : ℕ) → i < n → packed_byte xs i ≡ packed_byte ys i) → bytes_of_packed n xs ≡ bytes_of_packed n ys
unfolding bytes_of_packed
bytes_same n xs ys same = map_same (packed_byte xs) (packed_byte ys) 0 n n (omega arith) same

text_same : (tag : ℕ) (words : List ℕ) (j v : ℕ) (sp : Span) → sp.at + words_for sp.size < j → text_at tag (set words j v) sp ≡ text_at tag words sp
text_same tag words j v sp before =
    ap (λ l. tag ∷ sp.size / 256 ∷ sp.size % 256 ∷ l)
    (bytes_same sp.size (drop sp.at (set words j v)) (drop sp.at words) (λ i lt. byte_same (drop sp.at (set words j v)) (drop sp.at words) i
    (get_or-drop sp.at (set words j v) (i / 2) 0 ∙ get_or-set_other words j (sp.at + i / 2) v 0 (λ e. omega (arith, e, before, lt))
    ∙ sym (get_or-drop sp.at words (i / 2) 0))))

-- ---- a whole record

image_there : (words : List ℕ) (b : ℕ) → statics_of words ≡ Some b → image_from (record_parts words) ≡ Some b
image_there words b e = elim (cases_eq (get_or words 1 0) 0) [
  | inl z ↦ absurd (none-some b (sym (statics-zero words z) ∙ e))
  | inr n ↦ sym (statics-walk words n) ∙ e
]

info_set : (tag : ℕ) (words : List ℕ) (j v : ℕ) → 0 < tag → IsStatic words j → info_of (set words j v) tag ≡ info_of words tag
unfolding info_of
info_set tag [] j v some static = refl
info_set tag (w ∷ ws) zero v some static = absurd (let four = static_behind (w ∷ ws) zero static in omega (arith, four))
info_set tag (w ∷ ws) (suc q) v some static =
    let behind = static.behind in span_set tag 0 1 ws q v static.begin some (image_there (w ∷ ws) static.begin static.image) (omega (arith, behind))

info_before : (tag : ℕ) (words : List ℕ) (j : ℕ) (sp : Span) → 0 < tag → IsStatic words j → info_of words tag ≡ Some sp → sp.at + words_for sp.size < j
unfolding info_of
info_before tag words j sp some static is =
    let before = span_before tag 0 1 (drop 1 words) static.begin sp some (image_there words static.begin static.image) is in
    let behind = static.behind in
    omega (arith, before, behind)

of_span : (f g : Span → List ℕ) (o : Option Span) → ((sp : Span) → o ≡ Some sp → f sp ≡ g sp) → option_map f o ≡ option_map g o
of_span f g None same = refl
of_span f g (Some sp) same = ap Some (same sp refl)

text_set : (tag : ℕ) (words : List ℕ) (j v : ℕ) → 0 < tag → IsStatic words j → text_in (set words j v) tag ≡ text_in words tag
text_set tag words j v some static =
    ap (option_map (text_at tag (set words j v))) (info_set tag words j v some static)
    ∙ of_span (text_at tag (set words j v)) (text_at tag words) (info_of words tag)
    (λ sp is. text_same tag words j v sp (info_before tag words j sp some static is))

-- the components of a record, by what is read with each tag
pub load_is : (words : List ℕ) (l : LoadedComponents) → text_in words 1 ≡ l.header → text_in words 2 ≡ l.directory → text_in words 3 ≡ l.applets
    → text_in words 4 ≡ l.imports → text_in words 5 ≡ l.pool → text_in words 6 ≡ l.classes →
    text_in words 7 ≡ l.methods → text_in words 8 ≡ l.statics → text_in words 10 ≡ l.exports
    → load_of words ≡ record l { reference_location = None; descriptor = None }
load_is words l e1 e2 e3 e4 e5 e6 e7 e8 e10 = λ k. record (load_of words) {
  header = e1 k;
  directory = e2 k;
  applets = e3 k;
  imports = e4 k;
  pool = e5 k;
  classes = e6 k;
  methods = e7 k;
  statics = e8 k;
  exports = e10 k;
}

-- the components of a record are the same, whatever is set in a word of its image
pub load_set : (words : List ℕ) (j v : ℕ) → IsStatic words j → load_of (set words j v) ≡ load_of words
load_set words j v static =
    let same : (tag : ℕ) → 0 < tag → text_in (set words j v) tag ≡ text_in words tag = λ tag some. text_set tag words j v some static in
    load_is (set words j v) (load_of words) (same 1 (omega arith)) (same 2 (omega arith)) (same 3 (omega arith)) (same 4 (omega arith)) (same 5 (omega arith))
    (same 6 (omega arith)) (same 7 (omega arith)) (same 8 (omega arith)) (same 10 (omega arith))
