-- Blocks that are converted as they are whole, states after them, and ends of messages.
use Rattle.std.proofs.Common.{◌≡◌, ◌≢◌, ◌∙◌, ℕ, zero, suc, ◌+◌, ◌-◌, ◌*◌, ◌/◌, ◌%◌, ◌≤◌, ◌<◌, Bool, true, false, inl, inr, List, [], ◌∷◌, ◌++◌, bytes_eq, drop, eq-eqb, length, mod-eq_of_lt, mul-div_cancel, nat_eq, ne_eqb, replicate, take, if◌then◌else◌, refl, sym, ap, arith}
use Rattle.std.specs.Prelude.{IfSome, Option, Some, None}
use Rattle.std.specs.Option.{option_map}
use Rattle.std.specs.Bool.{Decides}
use Rattle.std.proofs.lemmas.Bool.{cases_lt}
use Rattle.std.proofs.lemmas.List.{take-append-drop, take-append-le}
use Rattle.std.proofs.lemmas.Nat.{div-mul-add, mod-mul-add}
use Rattle.std.proofs.lemmas.Slice.Eq.{bytes_eq-Decides}
use Rattle.jc_ciphers.specs.declared.padding.Padding.{Padding}
use Rattle.jc_ciphers.specs.Kept.Conversion.{last_size, unpadded_from, whole_output}
use Rattle.jc_ciphers.specs.Kept.{chain_in, next_output, next_state, open_in, ready_blocks, state_of}
use Rattle.jc_ciphers.specs.Modes.{IsUnderWay, chain_after, output}
use Rattle.jc_ciphers.specs.Padding.{EndsByPadding, padding_of, space}
use Rattle.jc_ciphers.proofs.Pieces.{rows_more}

-- ---- how many blocks

pub whole_before : (size n blocks used : ℕ) → used < size → blocks * size + used ≡ n → n / size ≡ blocks
whole_before size n blocks used low all = ap (λ (k : ℕ). k / size) (sym all) ∙ div-mul-add blocks size used low

pub left_over : (size n blocks used : ℕ) → used < size → blocks * size + used ≡ n → n % size ≡ used
left_over size n blocks used low all = ap (λ (k : ℕ). k % size) (sym all) ∙ mod-mul-add blocks size used low

-- where the last block is held back
pub whole_held : (size n blocks used : ℕ) → 1 ≤ size → used ≤ size → (1 ≤ n → 1 ≤ used) → blocks * size + used ≡ n → (n - 1) / size ≡ blocks
whole_held size zero blocks used some fits filled all = whole_before size (0 - 1) blocks 0 (omega arith) (omega (arith, all))
whole_held size (suc n) blocks used some fits filled all =
    let one = filled (omega arith) in
    whole_before size (suc n - 1) blocks (used - 1) (omega (arith, one, fits)) (omega (arith, all, one))

pub ready_zero : (holds : Bool) (size : ℕ) → 1 ≤ size → ready_blocks holds size 0 ≡ 0
ready_zero true size some = whole_before size (0 - 1) 0 0 (omega arith) (omega arith)
ready_zero false size some = whole_before size 0 0 0 (omega arith) (omega arith)

same_blocks : (size a b : ℕ) → 0 < size → a * size ≡ b * size → a ≡ b
same_blocks size a b some same = sym (mul-div_cancel a some) ∙ ap (λ (k : ℕ). k / size) same ∙ mul-div_cancel b some

pub blocks_by_bytes : (f g : List ℕ → List ℕ → List ℕ) (size : ℕ) (first m c b : List ℕ) (used : ℕ) (w : List ℕ) (k written : ℕ)
    → 1 ≤ size → (was : IsUnderWay f g size first m c b used w) → written + used ≡ length m → written ≡ k * size → was.blocks ≡ k
blocks_by_bytes f g size first m c b used w k written some was bytes counted =
    same_blocks size was.blocks k (omega (arith, some)) (omega (arith, was.long, bytes, counted))

pub written_by_blocks : (size n k blocks used written : ℕ) → k ≡ blocks → blocks * size + used ≡ n → written + used ≡ n → written ≡ k * size
written_by_blocks size n k blocks used written same all bytes =
    let is : written ≡ blocks * size = omega (arith, all, bytes) in
    is ∙ ap (λ (j : ℕ). j * size) (sym same)

-- ---- what a piece leaves

pub output_of : (f g : List ℕ → List ℕ → List ℕ) (size : ℕ) (holds : Bool) (vector state piece c b : List ℕ) (used : ℕ) (w : List ℕ)
    → (was : IsUnderWay f g size (chain_in size vector state) (open_in size state ++ piece) c b used w)
    → was.blocks ≡ ready_blocks holds size (length (open_in size state ++ piece)) → w ≡ next_output f g size holds vector state piece
unfolding next_output
output_of f g size holds vector state piece c b used w was same =
    was.out ∙ ap (output f g size (chain_in size vector state) (open_in size state ++ piece)) same

pub nothing_out : (f g : List ℕ → List ℕ → List ℕ) (size : ℕ) (holds : Bool) (vector state piece : List ℕ) → 1 ≤ size
    → length (open_in size state ++ piece) ≡ 0 → [] ≡ next_output f g size holds vector state piece
unfolding next_output output
nothing_out f g size holds vector state piece some none =
    let first : List ℕ = chain_in size vector state in
    let m : List ℕ = open_in size state ++ piece in
    sym (ap (λ (n : ℕ). output f g size first m (ready_blocks holds size n)) none ∙ ap (output f g size first m) (ready_zero holds size some))

pub nothing_kept : (f : List ℕ → List ℕ → List ℕ) (size : ℕ) (holds : Bool) (vector state piece : List ℕ)
    → length (open_in size state ++ piece) ≡ 0 → state ≡ next_state f size holds vector state piece
unfolding next_state
nothing_kept f size holds vector state piece none =
    let m : List ℕ = open_in size state ++ piece in
    let k : ℕ = ready_blocks holds size (length m) in
    let next : List ℕ = state_of size (chain_after f size (chain_in size vector state) m k) (drop (k * size) m) in
    sym (ap (λ (n : ℕ). if nat_eq n 0 then state else next) none)

pub state_kept : (f g : List ℕ → List ℕ → List ℕ) (size : ℕ) (holds : Bool) (vector state piece c b s : List ℕ) (used : ℕ) (w : List ℕ)
    → (was : IsUnderWay f g size (chain_in size vector state) (open_in size state ++ piece) c b used w)
    → was.blocks ≡ ready_blocks holds size (length (open_in size state ++ piece)) → length (open_in size state ++ piece) ≢ 0
    → s ≡ state_of size c (take used b) → s ≡ next_state f size holds vector state piece
unfolding next_state
state_kept f g size holds vector state piece c b s used w was same some is =
    let first : List ℕ = chain_in size vector state in
    let m : List ℕ = open_in size state ++ piece in
    let k : ℕ = ready_blocks holds size (length m) in
    let next : List ℕ = state_of size (chain_after f size first m k) (drop (k * size) m) in
    let chain = was.chain ∙ ap (chain_after f size first m) same in
    let rest = was.rest ∙ ap (λ (n : ℕ). drop (n * size) m) same in
    is ∙ (λ j. state_of size (chain j) (rest j)) ∙ sym (ap (λ (t : Bool). if t then state else next) (ne_eqb (length m) 0 some))

pub laid_out : (size used : ℕ) (chain part s2 s3 s4 final : List ℕ) → length part ≡ used → length chain ≡ size → length s4 ≡ 2 + 2 * size
    → take 2 s2 ≡ 1 ∷ used ∷ [] → take (2 + length chain) s3 ≡ take 2 s2 ++ chain → take (2 + size + length part) s4 ≡ take (2 + size) s3 ++ part
    → final ≡ take (2 + size + used) s4 ++ replicate (length s4 - (2 + size + used)) 0 → final ≡ state_of size chain part
laid_out size used chain part s2 s3 s4 final count width long two three four all =
    let left : length s4 - (2 + size + used) ≡ size - length part = omega (arith, long, count) in
    let third : take (2 + size) s3 ≡ 1 ∷ used ∷ chain =
    ap (λ (n : ℕ). take (2 + n) s3) (sym width) ∙ three ∙ ap (λ (xs : List ℕ). xs ++ chain) two in
    let fourth : take (2 + size + used) s4 ≡ 1 ∷ used ∷ (chain ++ part) =
    ap (λ (n : ℕ). take (2 + size + n) s4) (sym count) ∙ four ∙ ap (λ (xs : List ℕ). xs ++ part) third in
    all ∙ (λ j. fourth j ++ replicate (left j) 0)
    ∙ (λ j. 1 ∷ sym count j ∷ (chain ++ part ++ replicate (size - length part) 0))

-- ---- the end of a message

pub ended_whole : (f g : List ℕ → List ℕ → List ℕ) (size : ℕ) (first m c b : List ℕ) (used : ℕ) (w : List ℕ) → 1 ≤ size → used ≡ 0
    → IsUnderWay f g size first m c b used w → Some w ≡ whole_output f g size first m
ended_whole f g size first m c b used w some none was =
    let low = left_over size (length m) was.blocks 0 (omega (arith, some)) (omega (arith, was.long, none)) in
    let rows = whole_before size (length m) was.blocks 0 (omega (arith, some)) (omega (arith, was.long, none)) in
    ap (λ (x : List ℕ). Some x) (was.out ∙ ap (output f g size first m) (sym rows))
    ∙ sym (ap (λ (r : ℕ). if nat_eq r 0 then Some (output f g size first m (length m / size)) else None) low)

pub ended_part : (f g : List ℕ → List ℕ → List ℕ) (size : ℕ) (first m : List ℕ) (blocks left : ℕ) → blocks * size + left ≡ length m → 1 ≤ left
    → left < size → None ≡ whole_output f g size first m
ended_part f g size first m blocks left all some low =
    let out : Option (List ℕ) = Some (output f g size first m (length m / size)) in
    sym (ap (λ (r : ℕ). if nat_eq r 0 then out else None) (left_over size (length m) blocks left low all)
    ∙ ap (λ (t : Bool). if t then out else None) (ne_eqb left 0 (λ e. omega (arith, e, some))))

-- the last block's length goes by what is left of whole blocks
pub last_size-mod : (size : ℕ) (came : Bool) (n used : ℕ) → used < size → n % size ≡ used → last_size size came n ≡ last_size size came used
last_size-mod size came n used low left =
    ap (λ (r : ℕ). if nat_eq r 0 then (if came then size else 0) else r) (left ∙ sym (mod-eq_of_lt low))

pub last_size-some : (size : ℕ) (came : Bool) (used : ℕ) → used < size → used ≢ 0 → used ≡ last_size size came used
last_size-some size came used low some =
    let last : ℕ = if came then size else 0 in
    sym (ap (λ (r : ℕ). if nat_eq r 0 then last else r) (mod-eq_of_lt low) ∙ ap (λ (t : Bool). if t then last else used) (ne_eqb used 0 some))

space_after : (size used : ℕ) (came : Bool) → used < size
    → space size (if nat_eq used 0 then (if came then size else 0) else used) ≡ size - used
space_after size zero true low = ap (λ (t : Bool). if t then size else size - size) (eq-eqb size size refl) ∙ omega arith
space_after size zero false low = ap (λ (t : Bool). if t then size else size - 0) (ne_eqb 0 size (λ e. omega (arith, e, low)))
space_after size (suc u) came low =
    ap (λ (t : Bool). space size (if t then (if came then size else 0) else suc u)) (ne_eqb (suc u) 0 (λ e. omega (arith, e)))
    ∙ ap (λ (t : Bool). if t then size else size - suc u) (ne_eqb (suc u) size (λ e. omega (arith, e, low)))

-- padding has room in the block after its first bytes
pub space_left : (size used : ℕ) (came : Bool) → used < size → space size (last_size size came used) ≡ size - used
space_left size used came low =
    ap (λ (r : ℕ). space size (if nat_eq r 0 then (if came then size else 0) else r)) (mod-eq_of_lt low) ∙ space_after size used came low

-- ---- the place where a padding begins

says_no : (b : Bool) (P : Type 0) → Decides b P → ¬ P → b ≡ false
says_no true P d never = absurd (never (d.0 refl))
says_no false P d never = refl

pub first_place : (p : Padding) (block : List ℕ) (n k r : ℕ) → n ≤ r → r < n + k → EndsByPadding p block r
    → ((j : ℕ) → j < r → ¬ (EndsByPadding p block j)) → unpadded_from p block n k ≡ Some r
unfolding unpadded_from
first_place p block n zero r low up ends least = absurd (omega (arith, low, up))
first_place p block n (suc k) r low up ends least =
    let tail : List ℕ = drop n block in
    let padding : List ℕ = padding_of p (length block) n in
    let later : Option ℕ = unpadded_from p block (suc n) k in
    elim (cases_lt n r) as (λ _. (if bytes_eq tail padding then Some n else later) ≡ Some r) [
      | inl below ↦
          ap (λ (t : Bool). if t then Some n else later) (says_no (bytes_eq tail padding) (tail ≡ padding) (bytes_eq-Decides tail padding) (least n below))
          ∙ first_place p block (suc n) k r (omega (arith, below)) (omega (arith, up)) ends least
      | inr above ↦
          let here : r ≡ n = omega (arith, low, above) in
          let is : tail ≡ padding = (λ i. drop (sym here i) block) ∙ ends ∙ ap (padding_of p (length block)) here in
          ap (λ (t : Bool). if t then Some n else later) ((bytes_eq-Decides tail padding).1 is)
          ∙ ap (λ (i : ℕ). Some i) (sym here)
    ]

pub no_place : (p : Padding) (block : List ℕ) (n k : ℕ) → ((j : ℕ) → j < n + k → ¬ (EndsByPadding p block j)) → unpadded_from p block n k ≡ None
unfolding unpadded_from
no_place p block n zero never = refl
no_place p block n (suc k) never =
    let tail : List ℕ = drop n block in
    let padding : List ℕ = padding_of p (length block) n in
    let later : Option ℕ = unpadded_from p block (suc n) k in
    ap (λ (t : Bool). if t then Some n else later)
    (says_no (bytes_eq tail padding) (tail ≡ padding) (bytes_eq-Decides tail padding) (never n (omega arith)))
    ∙ no_place p block (suc n) k (λ j below. never j (omega (arith, below)))

-- a message of whole blocks that is not empty has a block
pub block_there : (k size n : ℕ) → n ≡ k * size → n ≢ 0 → size ≤ n
block_there zero size n all some = absurd (some (omega (arith, all)))
block_there (suc k) size n all some = omega (arith, all, rows_more k size)

-- the first bytes of a message's first bytes are the message's
pub front_map : (xs : List ℕ) (written : ℕ) (r : Option ℕ) → IfSome r (λ (n : ℕ). n ≤ length (take written xs))
    → option_map (λ (n : ℕ). take n xs) r ≡ option_map (λ (n : ℕ). take n (take written xs)) r
front_map xs written None within = refl
front_map xs written (Some n) within =
    let whole = take-append-drop written xs in
    ap (λ (ys : List ℕ). Some ys) (ap (take n) (sym whole) ∙ take-append-le n (take written xs) (drop written xs) within)
