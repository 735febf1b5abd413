-- The words of places: of those that have words of their own, of runs of cells, and of both.
use Rattle.std.proofs.Common.{◌≡◌, ℕ, zero, suc, ◌+◌, ◌/◌, ◌<◌, ◌≤◌, ◌==◌, ◌&&◌, Bool, true, false, inl, inr, List, [], ◌∷◌, ◌++◌, length, map, get_or, refl, sym, ◌∙◌}
use Rattle.std.proofs.Common.{ap, arith, if◌then◌else◌}
use Rattle.std.specs.List.{range_with_len}
use Rattle.std.proofs.Math.Bool.{and-false}
use Rattle.std.proofs.lemmas.Bool.{cases_eq, eq-eqb, ne_eqb}
use Rattle.jc_heap.specs.declared.place.Place.{Place}
use Rattle.jc_heap.specs.declared.place.Place.TheVariants.{Cell, Static, Registry, AppletCount}
use Rattle.jc_heap.specs.Object.{is_packed}
use Rattle.jc_heap.specs.Heap.{HeapState, facts, cell_address}
use Rattle.jc_heap.proofs.Places.{plain_at}
use Rattle.jc_heap.specs.Place.{place_word, place_at, IsPlain, ArePlain, share_word, words_at, cells_from, cell_changes, places_of}

-- a place with a word of its own shares it with none
pub shares_none : (h : HeapState) (p q : Place) → IsPlain h q → share_word h p q ≡ false
shares_none h (Cell r i) (Cell q k) plain = elim (cases_eq r q) [
  | inl e ↦
      let single : is_packed (facts h r) ≡ false = ap (λ (m : ℕ). is_packed (facts h m)) e ∙ plain in
      ap (λ b. (r == q) && (b && (i / 2 == k / 2))) single ∙ and-false (r == q)
  | inr n ↦ ap (λ b. b && (is_packed (facts h r) && (i / 2 == k / 2))) (ne_eqb r q n)
]
shares_none h (Cell r i) (Static q k) plain = refl
shares_none h (Cell r i) (Registry k) plain = refl
shares_none h (Cell r i) AppletCount plain = refl
shares_none h (Static r i) q plain = refl
shares_none h (Registry i) q plain = refl
shares_none h AppletCount q plain = refl

-- places that have words of their own
pub words_at-plain : (h : HeapState) (ps : List Place) → ArePlain h ps → words_at h ps ≡ map place_word ps
words_at-plain h [] plain = refl
words_at-plain h (p ∷ []) plain = ap (λ a. a ∷ []) (plain_at h p plain.0)
words_at-plain h (p ∷ q ∷ ps) plain =
    ap (λ b. if b then words_at h (q ∷ ps) else place_at h p ∷ words_at h (q ∷ ps)) (shares_none h p q plain.1.0)
    ∙ (λ k. plain_at h p plain.0 k ∷ words_at-plain h (q ∷ ps) plain.1 k)

if-append : (b : Bool) (a : ℕ) (xs ys : List ℕ) → (if b then xs ++ ys else a ∷ (xs ++ ys)) ≡ (if b then xs else a ∷ xs) ++ ys
if-append true a xs ys = refl
if-append false a xs ys = refl

-- and such places after others
pub words_at-append : (h : HeapState) (ps qs : List Place) → ArePlain h qs → words_at h (ps ++ qs) ≡ words_at h ps ++ words_at h qs
words_at-append h [] qs plain = refl
words_at-append h (p ∷ []) [] plain = refl
words_at-append h (p ∷ []) (q ∷ qs) plain = ap (λ b. if b then words_at h (q ∷ qs) else place_at h p ∷ words_at h (q ∷ qs)) (shares_none h p q plain.0)
words_at-append h (p ∷ r ∷ ps) qs plain =
    ap (λ l. if share_word h p r then l else place_at h p ∷ l) (words_at-append h (r ∷ ps) qs plain)
    ∙ if-append (share_word h p r) (place_at h p) (words_at h (r ∷ ps)) (words_at h qs)

-- each of these
abbrev pub Each : (Place → Type 0) → List Place → Type 0
Each P [] = Unit {0}
Each P (p ∷ ps) = P p × Each P ps

pub each_append : (P : Place → Type 0) (ps qs : List Place) → Each P ps → Each P qs → Each P (ps ++ qs)
each_append P [] qs first second = second
each_append P (p ∷ ps) qs first second = (first.0, each_append P ps qs first.1 second)

-- places after cells of an object, of which none stands in the word of one
pub words_at-after : (h : HeapState) (r i n : ℕ) (qs : List Place) → Each (λ q. (k : ℕ) → share_word h (Cell r k) q ≡ false) qs
    → words_at h (cells_from r i n ++ qs) ≡ words_at h (cells_from r i n) ++ words_at h qs
words_at-after h r i zero qs other = refl
words_at-after h r i (suc zero) [] other = refl
words_at-after h r i (suc zero) (q ∷ qs) other = ap (λ b. if b then words_at h (q ∷ qs) else place_at h (Cell r i) ∷ words_at h (q ∷ qs)) (other.0 i)
words_at-after h r i (suc (suc n)) qs other =
    ap (λ l. if share_word h (Cell r i) (Cell r (i + 1)) then l else place_at h (Cell r i) ∷ l) (words_at-after h r (i + 1) (suc n) qs other)
    ∙ if-append (share_word h (Cell r i) (Cell r (i + 1))) (place_at h (Cell r i)) (words_at h (cells_from r (i + 1) (suc n))) (words_at h qs)

each_if : (P : ℕ → Type 0) (b : Bool) (a d : ℕ) (l : List ℕ) (k : ℕ) → P a → ((m : ℕ) → m < length l → P (get_or l m d))
    → k < length (if b then l else a ∷ l) → P (get_or (if b then l else a ∷ l) k d)
each_if P true a d l k here all lt = all k lt
each_if P false a d l zero here all lt = here
each_if P false a d l (suc k) here all lt = all k (omega (arith, lt))

-- what holds of the word of each place holds of each of their words
pub each_word : (P : ℕ → Type 0) (h : HeapState) (ps : List Place) (k d : ℕ) → Each (λ p. P (place_at h p)) ps → k < length (words_at h ps)
    → P (get_or (words_at h ps) k d)
each_word P h [] k d all lt = absurd (omega arith)
each_word P h (p ∷ []) zero d all lt = all.0
each_word P h (p ∷ []) (suc k) d all lt = absurd (omega arith)
each_word P h (p ∷ q ∷ ps) k d all lt =
    each_if P (share_word h p q) (place_at h p) d (words_at h (q ∷ ps)) k all.0 (λ m under. each_word P h (q ∷ ps) m d all.1 under) lt

-- the places of a run are an object's cells
pub places_of-cells : (r i : ℕ) (vs : List ℕ) → places_of (cell_changes r i vs) ≡ cells_from r i (length vs)
places_of-cells r i [] = refl
places_of-cells r i (v ∷ vs) =
    let next : suc i ≡ i + 1 = omega arith in
    ap (λ l. Cell r i ∷ l) (places_of-cells r (suc i) vs ∙ ap (λ m. cells_from r m (length vs)) next)

pub each_cell : (P : Place → Type 0) (r i n : ℕ) → ((k : ℕ) → i ≤ k → k < i + n → P (Cell r k)) → Each P (cells_from r i n)
each_cell P r i zero all = tt
each_cell P r i (suc n) all = (all i (omega arith) (omega arith), each_cell P r (i + 1) n (λ k low high. all k (omega (arith, low)) (omega (arith, high))))

-- a run of cells that have words of their own
pub plain_cells : (h : HeapState) (r i n : ℕ) → is_packed (facts h r) ≡ false → ArePlain h (cells_from r i n)
plain_cells h r i zero plain = tt
plain_cells h r i (suc n) plain = (plain, plain_cells h r (i + 1) n plain)

words_of_cells : (r i n : ℕ) → map place_word (cells_from r i n) ≡ range_with_len (cell_address r i) n
unfolding cell_address
words_of_cells r i zero = refl
words_of_cells r i (suc n) =
    let next : r + (4 + (i + 1)) ≡ r + (4 + i) + 1 = omega arith in
    ap (λ l. (r + (4 + i)) ∷ l) (words_of_cells r (i + 1) n ∙ ap (λ a. range_with_len a n) next)

pub words_at-single : (h : HeapState) (r i n : ℕ) → is_packed (facts h r) ≡ false → words_at h (cells_from r i n) ≡ range_with_len (cell_address r i) n
words_at-single h r i n plain = words_at-plain h (cells_from r i n) (plain_cells h r i n plain) ∙ words_of_cells r i n

next_word : (r i k : ℕ) → k ≡ i + 1 → cell_address r k ≡ cell_address r i + 1
unfolding cell_address
next_word r i k e = omega (arith, e)

one_more : (r i n m : ℕ) (rest : List ℕ) → i / 2 + m ≡ (i + suc n) / 2 → (i / 2 ≡ (i + 1) / 2 → ⊥)
    → ((k : ℕ) → (i + 1) / 2 + k ≡ (i + 1 + n) / 2 → rest ≡ range_with_len (cell_address r ((i + 1) / 2)) (suc k))
    → cell_address r (i / 2) ∷ rest ≡ range_with_len (cell_address r (i / 2)) (suc m)
one_more r i n zero rest e other behind = absurd (omega (arith, e, other))
one_more r i n (suc m) rest e other behind =
    let next : cell_address r ((i + 1) / 2) ≡ cell_address r (i / 2) + 1 = next_word r (i / 2) ((i + 1) / 2) (omega (arith, other)) in
    ap (λ l. cell_address r (i / 2) ∷ l) (behind m (omega (arith, e, other)) ∙ ap (λ a. range_with_len a (suc m)) next)

-- and of cells of which two stand in a word
pub words_at-double : (h : HeapState) (r i n m : ℕ) → is_packed (facts h r) ≡ true → i / 2 + m ≡ (i + n) / 2
    → words_at h (cells_from r i (suc n)) ≡ range_with_len (cell_address r (i / 2)) (suc m)
words_at-double h r i zero m packed e =
    let none : 0 ≡ m = omega (arith, e) in
    ap (λ b. cell_address r (if b then i / 2 else i) ∷ []) packed ∙ ap (λ k. range_with_len (cell_address r (i / 2)) (suc k)) none
words_at-double h r i (suc n) m packed e =
    let rest : List ℕ = words_at h (cells_from r (i + 1) (suc n)) in
    let first : place_at h (Cell r i) ≡ cell_address r (i / 2) = ap (λ b. cell_address r (if b then i / 2 else i)) packed in
    elim (cases_eq (i / 2) ((i + 1) / 2)) [
      | inl same ↦
          let shared : share_word h (Cell r i) (Cell r (i + 1)) ≡ true =
          ap (λ b. b && (is_packed (facts h r) && (i / 2 == (i + 1) / 2))) (eq-eqb r r refl)
          ∙ ap (λ b. b && (i / 2 == (i + 1) / 2)) packed ∙ eq-eqb (i / 2) ((i + 1) / 2) same in
          ap (λ b. if b then rest else place_at h (Cell r i) ∷ rest) shared
          ∙ words_at-double h r (i + 1) n m packed (omega (arith, e, same))
          ∙ ap (λ k. range_with_len (cell_address r k) (suc m)) (sym same)
      | inr other ↦
          let apart : share_word h (Cell r i) (Cell r (i + 1)) ≡ false =
          ap (λ b. (r == r) && (is_packed (facts h r) && b)) (ne_eqb (i / 2) ((i + 1) / 2) other)
          ∙ ap (λ b. (r == r) && b) (and-false (is_packed (facts h r))) ∙ and-false (r == r) in
          ap (λ b. if b then rest else place_at h (Cell r i) ∷ rest) apart
          ∙ ap (λ a. a ∷ rest) first
          ∙ one_more r i n m rest e other (λ k f. words_at-double h r (i + 1) n k packed f)
    ]
