-- Entries of a run, which are written as one.
use Rattle.std.proofs.Common.{◌≡◌, ℕ, suc, ◌+◌, ◌*◌, ◌<◌, ◌≤◌, Bool, false, cond, not, List, [], ◌∷◌, ◌++◌, length, take, drop, get_or, set, slice_index}
use Rattle.std.proofs.Common.{refl, sym, ◌∙◌, ap, arith, get_or-set_other}
use Rattle.std.specs.Prelude.{nat_le}
use Rattle.std.proofs.lemmas.List.{drop_more, length-append, length-take, take_more, set_at}
use Rattle.std.proofs.lemmas.Bool.Decides.{nat_tests}
use Rattle.jc_words.specs.declared.log.Log.{Log}
use Rattle.jc_words.specs.WordRuns.{with_run}
use Rattle.jc_words.proofs.Runs.{length-with_run}
use Rattle.jc_commit.specs.Entries.{SameBefore, AreBeside}
use Rattle.jc_commit.specs.EntryIndex.{named_by, needing, with_entries}
use Rattle.jc_commit.specs.Runs.{entry_words}
use Rattle.jc_commit.proofs.Entries.{target}
use Rattle.jc_commit.proofs.EntryKeeping.{after_entry, beside_entry}

pub length-entry_words : (w : List ℕ) (cs : List (ℕ × ℕ)) → length (entry_words w cs) ≡ 2 * length cs
length-entry_words w [] = refl
length-entry_words w (c ∷ cs) = omega (arith, length-entry_words w cs)

entry_words-end : (w : List ℕ) (cs : List (ℕ × ℕ)) (c : ℕ × ℕ) → entry_words w (cs ++ c ∷ []) ≡ entry_words w cs ++ (c.0 ∷ slice_index w c.0 ∷ [])
entry_words-end w [] c = refl
entry_words-end w (x ∷ cs) c = ap (λ (l : List ℕ). x.0 ∷ slice_index w x.0 ∷ l) (entry_words-end w cs c)

assoc_two : (xs : List ℕ) (a b : ℕ) (ys : List ℕ) → (xs ++ (a ∷ b ∷ [])) ++ ys ≡ xs ++ (a ∷ b ∷ ys)
assoc_two [] a b ys = refl
assoc_two (x ∷ xs) a b ys = ap (λ (l : List ℕ). x ∷ l) (assoc_two xs a b ys)

assoc_one : (xs : List ℕ) (a : ℕ) (ys : List ℕ) → (xs ++ (a ∷ [])) ++ ys ≡ xs ++ (a ∷ ys)
assoc_one [] a ys = refl
assoc_one (x ∷ xs) a ys = ap (λ (l : List ℕ). x ∷ l) (assoc_one xs a ys)

-- two words more of the entries in their room
pub entry_more : (w : List ℕ) (cs : List (ℕ × ℕ)) (old out : List ℕ) (k a : ℕ) → k < length cs → length old ≡ 2 * length cs
    → out ≡ entry_words w (take k cs) ++ drop (2 * k) old → a ≡ (get_or cs k (0, 0)).0 → length (take k cs) ≡ k
    → set (set out (2 * k) a) (2 * k + 1) (slice_index w a) ≡ entry_words w (take (k + 1) cs) ++ drop (2 * (k + 1)) old
entry_more w cs old out k a below room is address many =
    let front = entry_words w (take k cs) in
    let rest = drop (2 * (k + 1)) old in
    let x = get_or old (2 * k) 0 in
    let y = get_or old (2 * k + 1) 0 in
    let o = slice_index w a in
    let long : length front ≡ 2 * k = length-entry_words w (take k cs) ∙ omega (arith, many) in
    let second : 2 * k + 1 + 1 ≡ 2 * (k + 1) = omega arith in
    let parts : out ≡ front ++ (x ∷ y ∷ rest) = is ∙ ap (λ (l : List ℕ). front ++ l) (drop_more old (2 * k) 0 (omega (arith, below, room))
    ∙ ap (λ (l : List ℕ). x ∷ l) (drop_more old (2 * k + 1) 0 (omega (arith, below, room)) ∙ ap (λ (n : ℕ). y ∷ drop n old) second)) in
    let one : set out (2 * k) a ≡ front ++ (a ∷ y ∷ rest) = ap (λ (l : List ℕ). set l (2 * k) a) parts ∙ set_at front x (y ∷ rest) a (2 * k) long in
    let longer : length (front ++ (a ∷ [])) ≡ 2 * k + 1 = length-append front (a ∷ []) ∙ omega (arith, long) in
    let two : set (set out (2 * k) a) (2 * k + 1) o ≡ (front ++ (a ∷ [])) ++ (o ∷ rest) =
    ap (λ (l : List ℕ). set l (2 * k + 1) o) (one ∙ sym (assoc_one front a (y ∷ rest))) ∙ set_at (front ++ (a ∷ [])) y rest o (2 * k + 1) longer in
    let last : entry_words w (take (k + 1) cs) ≡ front ++ (a ∷ o ∷ []) = ap (entry_words w) (take_more cs k (0, 0) below)
    ∙ entry_words-end w (take k cs) (get_or cs k (0, 0)) ∙ ap (λ (b : ℕ). front ++ (b ∷ slice_index w b ∷ [])) (sym address) in
    two ∙ assoc_one front a (o ∷ rest) ∙ sym (ap (λ (l : List ℕ). l ++ rest) last ∙ assoc_two front a o rest)

-- they are the entries
pub run_of_entries : (l : Log) (u w : List ℕ) (k n : ℕ) (cs : List (ℕ × ℕ)) → k + length cs ≤ l.capacity → AreBeside l n cs
    → ((j : ℕ) → j < length cs → slice_index w (target cs j) ≡ slice_index u (target cs j))
    → with_run w (l.start + 2 * k) (entry_words u cs) ≡ with_entries l w k cs
run_of_entries l u w k n [] room places same = refl
run_of_entries l u w k n (c ∷ cs) room places same =
    let s = l.start + 2 * k in
    let next : suc s ≡ s + 1 = omega arith in
    let on : suc (suc s) ≡ l.start + 2 * (k + 1) = omega arith in
    let here : slice_index u c.0 ≡ slice_index w c.0 = sym (same 0 (omega arith)) in
    let v = after_entry l w k c in
    ap (λ (j : ℕ). with_run (set (set w s c.0) j (slice_index u c.0)) (suc (suc s)) (entry_words u cs)) next
    ∙ ap (λ (x : ℕ). with_run (set (set w s c.0) (s + 1) x) (suc (suc s)) (entry_words u cs)) here
    ∙ ap (λ (j : ℕ). with_run v j (entry_words u cs)) on
    ∙ run_of_entries l u v (k + 1) n cs (omega (arith, room)) (λ j lt. places (suc j) (omega (arith, lt)))
    (λ j lt. beside_entry l w k n (target cs j) c (omega (arith, room)) (places (suc j) (omega (arith, lt))) ∙ same (suc j) (omega (arith, lt)))

beside_run : (w : List ℕ) (s : ℕ) (xs : List ℕ) (a : ℕ) → (s ≤ a → s + length xs ≤ a) → slice_index (with_run w s xs) a ≡ slice_index w a
beside_run w s [] a free = refl
beside_run w s (x ∷ xs) a free =
    beside_run (set w s x) (suc s) xs a (λ h. let far = free (omega (arith, h)) in omega (arith, far))
    ∙ get_or-set_other w s a x 0 (λ e. absurd (let far = free (omega (arith, e)) in omega (arith, far, e)))

-- a run from the first entry on leaves the words beside the entries
pub same_beside : (l : Log) (w xs : List ℕ) → length xs ≤ 2 * l.capacity → SameBefore l 0 w (with_run w l.start xs)
same_beside l w xs room = (
  length-with_run w l.start xs,
  λ a free. beside_run w l.start xs a (λ h. let far = free (omega (arith, h)) in omega (arith, far, room)),
)

-- and so does a part of it
pub part_within : (l : Log) (xs : List ℕ) (k : ℕ) → length xs ≤ 2 * l.capacity → length (take k xs) ≤ 2 * l.capacity
part_within l xs k room = omega (arith, room, length-take k xs)

-- ---- outside a transaction each word needs an entry

pub named_by_none : (l : Log) (w : List ℕ) → named_by l w 0 ≡ []
unfolding named_by
named_by_none l w = refl

needs : (a : ℕ) → a < 65535 → nat_le 65535 a ≡ false
needs a h = grind (arith, nat_tests)

all_needed : (cs : List (ℕ × ℕ)) → ((k : ℕ) → k < length cs → (get_or cs k (0, 0)).0 < 65535) → needing [] 65535 cs ≡ cs
all_needed [] below = refl
all_needed (c ∷ cs) below =
    ap (λ (b : Bool). cond (not b) (c ∷ needing [] 65535 cs) (needing [] 65535 cs)) (needs c.0 (below 0 (omega arith)))
    ∙ ap (λ (l : List (ℕ × ℕ)). c ∷ l) (all_needed cs (λ k lt. below (suc k) (omega (arith, lt))))

pub needing_all : (l : Log) (w : List ℕ) (first born : ℕ) (cs : List (ℕ × ℕ)) → first ≡ 0 → born ≡ 65535 → AreBeside l (length w) cs → length w < 65536
    → needing (named_by l w first) born cs ≡ cs
needing_all l w first born cs none most places small =
    (λ i. needing (named_by l w (none i)) (most i) cs) ∙ ap (λ (t : List ℕ). needing t 65535 cs) (named_by_none l w)
    ∙ all_needed cs (λ k lt. let place = (places k lt).below in omega (arith, place, small))
