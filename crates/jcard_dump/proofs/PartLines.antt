-- The lines of a record's parts from an offset on.
use Rattle.std.proofs.Common.{◌≡◌, ◌∙◌, ◌⊎◌, Option, Some, None, inl, inr, is_some, lt-ltb, subst, ℕ, ◌+◌, ◌-◌, ◌<◌, ◌≤◌, ◌==◌, Bool, true, false, List, [], ◌++◌, length, take, drop, get_or, ap, ap₂, append-nil, refl, sym, arith, if◌then◌else◌}
use Rattle.std.specs.List.{flat_map}
use Rattle.std.specs.Prelude.{nat_lt, unwrap_or}
use Rattle.std.proofs.lemmas.Bool.{cases_lt, eq-eqb, false≢true, le-ltb, ne_eqb}
use Rattle.std.proofs.lemmas.List.{drop-drop, drop-take, get_or-drop, get_or-take, length-drop, take_all}
use Rattle.jc_heap.specs.Component.{part_sizes, words_for}
use Rattle.jc_objects.specs.Bounds.{IsBounded}
use Rattle.jc_objects.specs.Records.{IsRecord, are_whole_from, record_size, record_words, whole_from}
use Rattle.jc_objects.proofs.ItemWords.{length-words, word_is, words_raw}
use Rattle.jc_objects.proofs.Standing.{whole_end, whole_short, whole_step}
use Rattle.jcard_dump.specs.InventoryLines.{Lines}
use Rattle.jcard_dump.specs.Packages.{component_bytes, component_text, image_text, part_text, parts_lines}

-- those of the words of a record from an offset on
abbrev pub parts_from : ℕ → List ℕ → ℕ → Lines
parts_from k words at = record {
  text = flat_map (part_text k) (whole_from part_sizes at (drop at words));
  readable = are_whole_from part_sizes at (drop at words);
}

abbrev both : List ℕ → Bool → Lines
both text readable = record { text = text; readable = readable }

pub parts_first : (k : ℕ) (words : List ℕ) → parts_from k words 1 ≡ parts_lines k words
parts_first k words = refl

-- after the last word
pub parts_end : (k : ℕ) (words : List ℕ) (at : ℕ) → length words ≤ at → ((parts_from k words at).text ≡ []) × ((parts_from k words at).readable ≡ true)
parts_end k words at past =
    let last = whole_end part_sizes at (drop at words) (omega (arith, length-drop at words, past)) in
    (ap (flat_map (part_text k)) last.0, last.1)

-- a part that lacks words
pub parts_short : (k : ℕ) (words : List ℕ) (at : ℕ) → at < length words → length words - at ≤ part_sizes at (drop at words)
    → ((parts_from k words at).text ≡ []) × ((parts_from k words at).readable ≡ false)
parts_short k words at below short =
    let last = whole_short part_sizes at (drop at words) (omega (arith, length-drop at words, below)) (omega (arith, length-drop at words, short)) in
    (ap (flat_map (part_text k)) last.0, last.1)

-- one that has them all, and those after it
parts_step : (k : ℕ) (words : List ℕ) (at size : ℕ) → size ≡ part_sizes at (drop at words) + 1 → at + size ≤ length words
    → parts_from k words at ≡ both (part_text k (at, take size (drop at words)) ++ (parts_from k words (at + size)).text) (parts_from k words (at + size)).readable
parts_step k words at size is fits =
    let near : part_sizes at (drop at words) < length (drop at words) = omega (arith, length-drop at words, fits, is) in
    let step = whole_step part_sizes at (drop at words) near in
    ap₂ both (ap (flat_map (part_text k)) step.0) step.1
    ∙ ap (λ (n : ℕ). both (part_text k (at, take n (drop at words)) ++ flat_map (part_text k) (whole_from part_sizes (at + n) (drop n (drop at words))))
    (are_whole_from part_sizes (at + n) (drop n (drop at words)))) (sym is)
    ∙ ap (λ (l : List ℕ). both (part_text k (at, take size (drop at words)) ++ flat_map (part_text k) (whole_from part_sizes (at + size) l))
    (are_whole_from part_sizes (at + size) l)) (drop-drop size at words)

-- a component
pub component_step : (k : ℕ) (words : List ℕ) (at tag bytes : ℕ) → get_or (drop at words) 0 0 ≡ tag → (tag ≡ 0 → ⊥) → get_or (drop at words) 1 0 ≡ bytes
    → at + (2 + words_for bytes) ≤ length words
    → parts_from k words at ≡ both (component_text tag bytes ++ (parts_from k words (at + (2 + words_for bytes))).text)
    (parts_from k words (at + (2 + words_for bytes))).readable
component_step k words at tag bytes first other second fits =
    let ws : List ℕ = drop at words in
    let size : ℕ = 2 + words_for bytes in
    let no : (get_or ws 0 0 == 0) ≡ false = ne_eqb (get_or ws 0 0) 0 (λ e. other (sym first ∙ e)) in
    let is : size ≡ part_sizes at ws + 1 = sym (ap (λ (b : Bool). (if b then length ws - 1 else 1 + words_for (get_or ws 1 0)) + 1) no
    ∙ ap (λ (n : ℕ). (1 + words_for n) + 1) second
    ∙ (omega arith)) in
    let tagged : get_or (take size ws) 0 0 ≡ get_or ws 0 0 = get_or-take size ws 0 0 (omega arith) in
    let sized : get_or (take size ws) 1 0 ≡ get_or ws 1 0 = get_or-take size ws 1 0 (omega arith) in
    let text : part_text k (at, take size ws) ≡ component_text tag bytes =
    ap (λ (b : Bool). if b then image_text k (drop 1 (take size ws)) else component_text (get_or (take size ws) 0 0) (get_or (take size ws) 1 0))
    (ap (λ (n : ℕ). n == 0) tagged ∙ no)
    ∙ ap₂ component_text (tagged ∙ first) (sized ∙ second) in
    parts_step k words at size is fits
    ∙ ap (λ (l : List ℕ). both (l ++ (parts_from k words (at + size)).text) (parts_from k words (at + size)).readable) text

-- a static image, which is the last part
pub image_step : (k : ℕ) (words : List ℕ) (at : ℕ) → at < length words → get_or (drop at words) 0 0 ≡ 0
    → parts_from k words at ≡ both (image_text k (drop 1 (drop at words))) true
image_step k words at below first =
    let ws : List ℕ = drop at words in
    let size : ℕ = length words - at in
    let yes : (get_or ws 0 0 == 0) ≡ true = eq-eqb (get_or ws 0 0) 0 first in
    let is : size ≡ part_sizes at ws + 1 = sym (ap (λ (b : Bool). (if b then length ws - 1 else 1 + words_for (get_or ws 1 0)) + 1) yes
    ∙ omega (arith, length-drop at words, below)) in
    let whole : take size ws ≡ ws = take_all size ws (omega (arith, length-drop at words)) in
    let text : part_text k (at, take size ws) ≡ image_text k (drop 1 ws) =
    ap (λ (l : List ℕ). part_text k (at, l)) whole
    ∙ ap (λ (b : Bool). if b then image_text k (drop 1 ws) else component_text (get_or ws 0 0) (get_or ws 1 0)) yes in
    let last = parts_end k words (at + size) (omega (arith, below)) in
    parts_step k words at size is (omega (arith, below))
    ∙ ap₂ both (ap₂ (λ (l m : List ℕ). l ++ m) text last.0 ∙ append-nil (image_text k (drop 1 ws))) last.1

-- its words
pub image_words : (w : List ℕ) (at o left : ℕ) → IsBounded w → IsRecord w at → o + (1 + left) ≡ record_size w at
    → drop 1 (drop o (record_words w at)) ≡ take left (drop (at + o + 1) w)
image_words w at o left h there e =
    let size : record_size w at ≡ (o + 1) + left = omega (arith, e) in
    let place : at + (o + 1) ≡ at + o + 1 = omega arith in
    drop-drop 1 o (record_words w at)
    ∙ ap (drop (o + 1)) (words_raw w at h there)
    ∙ ap (λ (n : ℕ). drop (o + 1) (take n (drop at w))) size
    ∙ drop-take (o + 1) left (drop at w)
    ∙ ap (take left) (drop-drop (o + 1) at w ∙ ap (λ (n : ℕ). drop n w) place)

-- a word of a record
pub part_word : (w : List ℕ) (at o k : ℕ) → IsBounded w → IsRecord w at → o + k < record_size w at
    → get_or (drop o (record_words w at)) k 0 ≡ get_or w (at + o + k) 0
part_word w at o k h there near =
    let place : at + (o + k) ≡ at + o + k = omega arith in
    get_or-drop o (record_words w at) k 0 ∙ word_is w at h there (o + k) near ∙ ap (λ (n : ℕ). get_or w n 0) place

-- a component whose words are not all there, and one whose words are
pub bytes_none : (w : List ℕ) (a left : ℕ) → None ≡ component_bytes w a left → (left < 2) ⊎ (left < 2 + words_for (get_or w (a + 1) 0))
bytes_none w a left e = elim (cases_lt left 2) [
  | inl low ↦ inl low
  | inr high ↦ elim (cases_lt left (2 + words_for (get_or w (a + 1) 0))) [
    | inl short ↦ inr short
    | inr long ↦ absurd (false≢true (ap is_some (e
        ∙ ap (λ (b : Bool). if b then None else (if nat_lt left (2 + words_for (get_or w (a + 1) 0)) then None else Some (get_or w (a + 1) 0)))
        (le-ltb left 2 high)
        ∙ ap (λ (b : Bool). if b then None else Some (get_or w (a + 1) 0)) (le-ltb left (2 + words_for (get_or w (a + 1) 0)) long))))
  ]
]

pub bytes_some : (w : List ℕ) (a left n : ℕ) → Some n ≡ component_bytes w a left → (n ≡ get_or w (a + 1) 0) × (2 + words_for n ≤ left)
bytes_some w a left n e = elim (cases_lt left 2) [
  | inl low ↦ absurd (false≢true (sym (ap is_some (e
      ∙ ap (λ (b : Bool). if b then None else (if nat_lt left (2 + words_for (get_or w (a + 1) 0)) then None else Some (get_or w (a + 1) 0)))
      (lt-ltb left 2 low)))))
  | inr high ↦
      let more : Some n ≡ (if nat_lt left (2 + words_for (get_or w (a + 1) 0)) then None else Some (get_or w (a + 1) 0)) = e
      ∙ ap (λ (b : Bool). if b then None else (if nat_lt left (2 + words_for (get_or w (a + 1) 0)) then None else Some (get_or w (a + 1) 0)))
      (le-ltb left 2 high) in
      elim (cases_lt left (2 + words_for (get_or w (a + 1) 0))) [
        | inl short ↦ absurd (false≢true (sym (ap is_some (more
            ∙ ap (λ (b : Bool). if b then None else Some (get_or w (a + 1) 0)) (lt-ltb left (2 + words_for (get_or w (a + 1) 0)) short)))))
        | inr long ↦
            let same : n ≡ get_or w (a + 1) 0 = ap (λ (o : Option ℕ). unwrap_or o n) (more
            ∙ ap (λ (b : Bool). if b then None else Some (get_or w (a + 1) 0)) (le-ltb left (2 + words_for (get_or w (a + 1) 0)) long)) in
            (same, subst (λ (v : ℕ). 2 + words_for v ≤ left) (sym same) long)
      ]
]

-- so the part is the last, and lacks words
pub lacks_words : (w : List ℕ) (at o left : ℕ) → IsBounded w → IsRecord w at → o + left ≡ record_size w at → 0 < left
    → (get_or w (at + o) 0 ≡ 0 → ⊥) → None ≡ component_bytes w (at + o) left
    → length (record_words w at) - o ≤ part_sizes o (drop o (record_words w at))
lacks_words w at o left h there e some other none =
    let ws : List ℕ = drop o (record_words w at) in
    let long : length (record_words w at) ≡ record_size w at = length-words w at h there in
    let place : at + o + 0 ≡ at + o = omega arith in
    let tag : get_or ws 0 0 ≡ get_or w (at + o) 0 = part_word w at o 0 h there (omega (arith, e, some)) ∙ ap (λ (n : ℕ). get_or w n 0) place in
    let not_image : (get_or ws 0 0 == 0) ≡ false = ne_eqb (get_or ws 0 0) 0 (λ z. other (sym tag ∙ z)) in
    let size : part_sizes o ws ≡ 1 + words_for (get_or ws 1 0) =
    ap (λ (b : Bool). if b then length ws - 1 else 1 + words_for (get_or ws 1 0)) not_image in
    elim (cases_lt left 2) [
      | inl low ↦ omega (arith, low, long, e, size)
      | inr high ↦
          let bytes : get_or ws 1 0 ≡ get_or w (at + o + 1) 0 = part_word w at o 1 h there (omega (arith, e, high)) in
          elim (bytes_none w (at + o) left none) [
            | inl low ↦ absurd (omega (arith, low, high))
            | inr short ↦ omega (arith, short, long, e, size, ap words_for bytes)
          ]
    ]
