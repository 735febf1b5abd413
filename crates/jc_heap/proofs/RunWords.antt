-- The words of a run that is set, and what they leave.
use Rattle.std.proofs.Common.{◌≡◌, ℕ, zero, suc, ◌+◌, ◌-◌, ◌*◌, ◌/◌, ◌%◌, ◌<◌, ◌==◌, Bool, true, false, inl, inr, List, [], ◌∷◌, ◌++◌, length, get_or, set, refl}
use Rattle.std.proofs.Common.{sym, ◌∙◌, ap, arith, if◌then◌else◌, Option, Some, None, get_or-set_other}
use Rattle.std.specs.List.{range_with_len}
use Rattle.std.proofs.lemmas.Bool.{cases_Bool, cases_eq, eq-eqb, ne_eqb}
use Rattle.jc_commit.specs.Image.{with_words}
use Rattle.jc_commit.specs.Entries.{addresses_of}
use Rattle.jc_commit.specs.Runs.{run_words}
use Rattle.jc_heap.specs.declared.changes.Packing.TheVariants.{Single, Double}
use Rattle.jc_heap.specs.Object.{is_packed}
use Rattle.jc_heap.specs.Packed.{packed_words, byte_in, with_byte}
use Rattle.jc_heap.specs.Heap.{heap_of, facts, cell_address}
use Rattle.jc_heap.specs.Place.{words_at, cells_from}
use Rattle.jc_heap.specs.Elements.{byte_or_none, bytes_with, packing_words, byte_before, byte_behind, run_for}
use Rattle.jc_heap.proofs.Runs.{addresses-run, length-double}
use Rattle.jc_heap.proofs.WordsAt.{words_at-single, words_at-double}

-- the words by whether two elements stand in one
pub run_for-single : (ws : List ℕ) (r i : ℕ) (vs : List ℕ) → is_packed (facts (heap_of ws) r) ≡ false → (length vs ≡ 0 → ⊥)
    → run_for ws r i vs ≡ run_words (cell_address r i) vs
run_for-single ws r i [] plain some = absurd (some refl)
run_for-single ws r i (v ∷ vs) plain some =
    ap (λ b. run_words (cell_address r (if b then i / 2 else i)) (packing_words
    (if b then Double (byte_before ws r i) (byte_behind ws r (i + length (v ∷ vs))) else Single) (v ∷ vs))) plain

pub run_for-double : (ws : List ℕ) (r i : ℕ) (vs : List ℕ) → is_packed (facts (heap_of ws) r) ≡ true → (length vs ≡ 0 → ⊥)
    → run_for ws r i vs ≡ run_words (cell_address r (i / 2)) (packed_words (bytes_with (byte_before ws r i) vs (byte_behind ws r (i + length vs))))
run_for-double ws r i [] packed some = absurd (some refl)
run_for-double ws r i (v ∷ vs) packed some =
    ap (λ b. run_words (cell_address r (if b then i / 2 else i)) (packing_words
    (if b then Double (byte_before ws r i) (byte_behind ws r (i + length (v ∷ vs))) else Single) (v ∷ vs))) packed

-- the bytes that stay
before_even : (ws : List ℕ) (r i : ℕ) → i % 2 ≡ 0 → byte_before ws r i ≡ None
before_even ws r i e = ap (λ b. if b then None else Some (byte_in (get_or ws (cell_address r (i / 2)) 0) 0)) (eq-eqb (i % 2) 0 e)

before_odd : (ws : List ℕ) (r i : ℕ) → (i % 2 ≡ 0 → ⊥) → byte_before ws r i ≡ Some (get_or ws (cell_address r (i / 2)) 0 / 256)
before_odd ws r i e = ap (λ b. if b then None else Some (byte_in (get_or ws (cell_address r (i / 2)) 0) 0)) (ne_eqb (i % 2) 0 e)

pub behind_even : (ws : List ℕ) (r i : ℕ) → i % 2 ≡ 0 → byte_behind ws r i ≡ None
behind_even ws r i e = ap (λ b. if b then None else Some (byte_in (get_or ws (cell_address r (i / 2)) 0) 1)) (eq-eqb (i % 2) 0 e)

behind_odd : (ws : List ℕ) (r i : ℕ) → (i % 2 ≡ 0 → ⊥) → byte_behind ws r i ≡ Some (get_or ws (cell_address r (i / 2)) 0 % 256)
behind_odd ws r i e = ap (λ b. if b then None else Some (byte_in (get_or ws (cell_address r (i / 2)) 0) 1)) (ne_eqb (i % 2) 0 e)

count_before : (ws : List ℕ) (r i : ℕ) → length (byte_or_none (byte_before ws r i)) ≡ i % 2
count_before ws r i = elim (cases_eq (i % 2) 0) [
  | inl e ↦ ap (λ b. length (byte_or_none b)) (before_even ws r i e) ∙ sym e
  | inr e ↦ ap (λ b. length (byte_or_none b)) (before_odd ws r i e) ∙ (omega (arith, e))
]

count_behind : (ws : List ℕ) (r i : ℕ) → length (byte_or_none (byte_behind ws r i)) ≡ i % 2
count_behind ws r i = elim (cases_eq (i % 2) 0) [
  | inl e ↦ ap (λ b. length (byte_or_none b)) (behind_even ws r i e) ∙ sym e
  | inr e ↦ ap (λ b. length (byte_or_none b)) (behind_odd ws r i e) ∙ (omega (arith, e))
]

-- how many words bytes take: one for each word that holds an element
pub count_words : (ws : List ℕ) (r i n : ℕ) (vs : List ℕ) → length vs ≡ suc n
    → i / 2 + length (packed_words (bytes_with (byte_before ws r i) vs (byte_behind ws r (i + length vs)))) ≡ suc ((i + n) / 2)
count_words ws r i n vs long = omega (
  arith,
  long,
  count_before ws r i,
  count_behind ws r (i + length vs),
  length-double (byte_before ws r i) vs (byte_behind ws r (i + length vs)) _ refl,
)

-- a run's words are those of its places
pub addresses-run_for : (ws : List ℕ) (r i : ℕ) (vs : List ℕ) → addresses_of (run_for ws r i vs) ≡ words_at (heap_of ws) (cells_from r i (length vs))
addresses-run_for ws r i [] = refl
addresses-run_for ws r i (v ∷ vs) = elim (cases_Bool (is_packed (facts (heap_of ws) r))) [
  | inl packed ↦
      let bytes : List ℕ = bytes_with (byte_before ws r i) (v ∷ vs) (byte_behind ws r (i + length (v ∷ vs))) in
      let words : i / 2 + length (packed_words bytes) ≡ suc ((i + length vs) / 2) = count_words ws r i (length vs) (v ∷ vs) refl in
      let m : ℕ = length (packed_words bytes) - 1 in
      let size : length (packed_words bytes) ≡ suc m = omega (arith, words) in
      ap addresses_of (run_for-double ws r i (v ∷ vs) packed (λ e. omega (arith, e)))
      ∙ addresses-run (cell_address r (i / 2)) (packed_words bytes)
      ∙ ap (range_with_len (cell_address r (i / 2))) size
      ∙ sym (words_at-double (heap_of ws) r i (length vs) m packed (omega (arith, words, size)))
  | inr plain ↦
      ap addresses_of (run_for-single ws r i (v ∷ vs) plain (λ e. omega (arith, e)))
      ∙ addresses-run (cell_address r i) (v ∷ vs)
      ∙ sym (words_at-single (heap_of ws) r i (length (v ∷ vs)) plain)
]

-- a cell set in words, where two elements stand in a word or not
abbrev pub cell_step : Bool → List ℕ → ℕ → ℕ → ℕ → List ℕ
cell_step packed ws r i v = set ws (cell_address r (if packed then i / 2 else i)) (if packed then with_byte (get_or ws (cell_address r (i / 2)) 0) i v else v)

-- cells set one after another
abbrev pub cell_steps : Bool → List ℕ → ℕ → ℕ → List ℕ → List ℕ
cell_steps packed ws r i [] = ws
cell_steps packed ws r i (v ∷ vs) = cell_steps packed (cell_step packed ws r i v) r (suc i) vs

steps-single : (ws : List ℕ) (r i : ℕ) (vs : List ℕ) → cell_steps false ws r i vs ≡ with_words ws (run_words (cell_address r i) vs)
unfolding cell_address
steps-single ws r i [] = refl
steps-single ws r i (v ∷ vs) =
    let next : r + (4 + suc i) ≡ suc (r + (4 + i)) = omega arith in
    steps-single (set ws (r + (4 + i)) v) r (suc i) vs ∙ ap (λ a. with_words (set ws (r + (4 + i)) v) (run_words a vs)) next

-- a word set twice, the second time by what it says then
set_twice : (ws : List ℕ) (a x : ℕ) (f : ℕ → ℕ) → set (set ws a x) a (f (get_or (set ws a x) a 0)) ≡ set ws a (f x)
set_twice [] a x f = refl
set_twice (w ∷ ws) zero x f = refl
set_twice (w ∷ ws) (suc a) x f = ap (λ l. w ∷ l) (set_twice ws a x f)

byte_even : (w i v : ℕ) → i % 2 ≡ 0 → with_byte w i v ≡ 256 * v + w % 256
byte_even w i v e = ap (λ (b : Bool). if b then 256 * v + w % 256 else w / 256 * 256 + v) (eq-eqb (i % 2) 0 e)

byte_odd : (w i v : ℕ) → (i % 2 ≡ 0 → ⊥) → with_byte w i v ≡ w / 256 * 256 + v
byte_odd w i v e = ap (λ (b : Bool). if b then 256 * v + w % 256 else w / 256 * 256 + v) (ne_eqb (i % 2) 0 e)

-- both elements of a word
step_both : (ws : List ℕ) (r i v u : ℕ) → i % 2 ≡ 0 → cell_step true (cell_step true ws r i v) r (suc i) u ≡ set ws (cell_address r (i / 2)) (256 * v + u)
step_both ws r i v u e =
    let a : ℕ = cell_address r (i / 2) in
    let w : ℕ = get_or ws a 0 in
    let us : List ℕ = set ws a (with_byte w i v) in
    let same : suc i / 2 ≡ i / 2 = omega (arith, e) in
    let first : with_byte w i v ≡ 256 * v + w % 256 = byte_even w i v e in
    let second : with_byte (with_byte w i v) (suc i) u ≡ with_byte w i v / 256 * 256 + u = byte_odd (with_byte w i v) (suc i) u (λ f. omega (arith, e, f)) in
    ap (λ (m : ℕ). set us (cell_address r m) (with_byte (get_or us (cell_address r m) 0) (suc i) u)) same
    ∙ set_twice ws a (with_byte w i v) (λ x. with_byte x (suc i) u)
    ∙ ap (set ws a) (omega (arith, first, second))

-- a byte after a run stays where words before its own are set
behind-set : (ws : List ℕ) (r m x e : ℕ) → m < e / 2 → byte_behind (set ws (cell_address r m) x) r e ≡ byte_behind ws r e
unfolding cell_address
behind-set ws r m x e lt =
    ap (λ (w : ℕ). if e % 2 == 0 then None else Some (byte_in w 1)) (get_or-set_other ws (r + (4 + m)) (r + (4 + e / 2)) x 0 (λ f. omega (arith, f, lt)))

next_pair : (r i : ℕ) → cell_address r (suc (suc i) / 2) ≡ suc (cell_address r (i / 2))
unfolding cell_address
next_pair r i = omega arith

next_odd : (r i : ℕ) → (i % 2 ≡ 0 → ⊥) → cell_address r (suc i / 2) ≡ suc (cell_address r (i / 2))
unfolding cell_address
next_odd r i odd = omega (arith, odd)

steps-even : (ws : List ℕ) (r i : ℕ) (vs : List ℕ) → i % 2 ≡ 0
    → cell_steps true ws r i vs ≡ with_words ws (run_words (cell_address r (i / 2)) (packed_words (vs ++ byte_or_none (byte_behind ws r (i + length vs)))))
steps-even ws r i [] e = sym (ap (λ b. with_words ws (run_words (cell_address r (i / 2)) (packed_words (byte_or_none b))))
    (behind_even ws r (i + 0) (omega (arith, e))))
steps-even ws r i (v ∷ []) e =
    let a : ℕ = cell_address r (i / 2) in
    let same : (i + 1) / 2 ≡ i / 2 = omega (arith, e) in
    let behind : byte_behind ws r (i + 1) ≡ Some (get_or ws (cell_address r (i / 2)) 0 % 256) =
    behind_odd ws r (i + 1) (λ f. omega (arith, e, f)) ∙ ap (λ (m : ℕ). Some (get_or ws (cell_address r m) 0 % 256)) same in
    ap (set ws a) (byte_even (get_or ws a 0) i v e)
    ∙ sym (ap (λ b. with_words ws (run_words a (packed_words (v ∷ byte_or_none b)))) behind)
steps-even ws r i (v ∷ u ∷ vs) e =
    let a : ℕ = cell_address r (i / 2) in
    let us : List ℕ = set ws a (256 * v + u) in
    let end : suc (suc i) + length vs ≡ i + length (v ∷ u ∷ vs) = omega arith in
    let behind : byte_behind us r (suc (suc i) + length vs) ≡ byte_behind ws r (i + length (v ∷ u ∷ vs)) =
    behind-set ws r (i / 2) (256 * v + u) (suc (suc i) + length vs) (omega arith) ∙ ap (byte_behind ws r) end in
    ap (λ l. cell_steps true l r (suc (suc i)) vs) (step_both ws r i v u e)
    ∙ steps-even us r (suc (suc i)) vs (omega (arith, e))
    ∙ ap (λ b. with_words us (run_words (cell_address r (suc (suc i) / 2)) (packed_words (vs ++ byte_or_none b)))) behind
    ∙ ap (λ at. with_words us (run_words at (packed_words (vs ++ byte_or_none (byte_behind ws r (i + length (v ∷ u ∷ vs))))))) (next_pair r i)

steps-odd : (ws : List ℕ) (r i v : ℕ) (vs : List ℕ) → (i % 2 ≡ 0 → ⊥)
    → cell_steps true ws r i (v ∷ vs) ≡ with_words ws (run_words (cell_address r (i / 2)) (packed_words
    (get_or ws (cell_address r (i / 2)) 0 / 256 ∷ v ∷ (vs ++ byte_or_none (byte_behind ws r (i + length (v ∷ vs)))))))
steps-odd ws r i v vs odd =
    let a : ℕ = cell_address r (i / 2) in
    let w : ℕ = get_or ws a 0 in
    let one : with_byte w i v ≡ 256 * (w / 256) + v = omega (arith, byte_odd w i v odd) in
    let us : List ℕ = set ws a (256 * (w / 256) + v) in
    let end : suc i + length vs ≡ i + length (v ∷ vs) = omega arith in
    let behind : byte_behind us r (suc i + length vs) ≡ byte_behind ws r (i + length (v ∷ vs)) =
    behind-set ws r (i / 2) (256 * (w / 256) + v) (suc i + length vs) (omega (arith, odd)) ∙ ap (byte_behind ws r) end in
    ap (λ x. cell_steps true (set ws a x) r (suc i) vs) one
    ∙ steps-even us r (suc i) vs (omega (arith, odd))
    ∙ ap (λ b. with_words us (run_words (cell_address r (suc i / 2)) (packed_words (vs ++ byte_or_none b)))) behind
    ∙ ap (λ at. with_words us (run_words at (packed_words (vs ++ byte_or_none (byte_behind ws r (i + length (v ∷ vs))))))) (next_odd r i odd)

-- a run's words written are its cells set one after another
pub steps_run : (ws : List ℕ) (r i : ℕ) (vs : List ℕ) → cell_steps (is_packed (facts (heap_of ws) r)) ws r i vs ≡ with_words ws (run_for ws r i vs)
steps_run ws r i [] = refl
steps_run ws r i (v ∷ vs) = elim (cases_Bool (is_packed (facts (heap_of ws) r))) [
  | inl packed ↦
      let behind : Option ℕ = byte_behind ws r (i + length (v ∷ vs)) in
      let words : with_words ws (run_for ws r i (v ∷ vs)) ≡ with_words ws (run_words (cell_address r (i / 2)) (packed_words
      (bytes_with (byte_before ws r i) (v ∷ vs) behind))) = ap (with_words ws) (run_for-double ws r i (v ∷ vs) packed (λ e. omega (arith, e))) in
      ap (λ b. cell_steps b ws r i (v ∷ vs)) packed ∙ elim (cases_eq (i % 2) 0) [
        | inl e ↦ steps-even ws r i (v ∷ vs) e
            ∙ sym (words ∙ ap (λ b. with_words ws (run_words (cell_address r (i / 2)) (packed_words (bytes_with b (v ∷ vs) behind)))) (before_even ws r i e))
        | inr e ↦ steps-odd ws r i v vs e
            ∙ sym (words ∙ ap (λ b. with_words ws (run_words (cell_address r (i / 2)) (packed_words (bytes_with b (v ∷ vs) behind)))) (before_odd ws r i e))
      ]
  | inr plain ↦
      ap (λ b. cell_steps b ws r i (v ∷ vs)) plain ∙ steps-single ws r i (v ∷ vs)
      ∙ sym (ap (with_words ws) (run_for-single ws r i (v ∷ vs) plain (λ e. omega (arith, e))))
]
