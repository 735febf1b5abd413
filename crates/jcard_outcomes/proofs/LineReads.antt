-- Reading the lines of all parts.
use Rattle.std.proofs.Common.{arith, ◌≡◌, ◌∙◌, ℕ, ◌+◌, ◌%◌, ◌<◌, ◌≤◌, List, [], ◌∷◌, ◌++◌, length, get_or, ap, sym, refl, subst, Some, None, Result, Ok, Err}
use Rattle.std.specs.Prelude.{IfErr, IfOk, IsErrAnd, MatchResult}
use Rattle.std.specs.Borrow.{Bor}
use Rattle.std.specs.List.{All}
use Rattle.std.proofs.lemmas.List.{get_or-map}
use Rattle.std.proofs.Math.Nat.{mod-lt}
use Rattle.jcard_outcomes.specs.Join.{AreOrdered, IsHeadFault, IsNextFault, IsNextLine, IsReadTo}
use Rattle.jcard_outcomes.specs.Part.{line_text}
use Rattle.jcard_outcomes.specs.declared.join_fault.JoinFault.{JoinFault}
use Rattle.jcard_outcomes.specs.declared.join_fault.JoinFault.TheVariants.{BadLine, Missing, NoMemory, OtherSweep, Twice}
use Rattle.jcard_outcomes.proofs.LineOrder.{Reading, begun, line_some, next, none_left, read_whole, stuck}
use Rattle.jcard_outcomes.proofs.Ends.{lent, lent_at, lent_length, nothing}

pub reads_begun : (texts : List (List ℕ)) (lines rests : List (Bor (List ℕ))) → lines ≡ [] → lent rests ≡ texts → Reading texts (lent lines) (lent rests) 0
reads_begun texts lines rests e f = subst (λ l. Reading texts (lent l) (lent rests) 0) (sym e) (begun texts (lent rests) f)

pub reads_next : (texts : List (List ℕ)) (lines rests more left : List (Bor (List ℕ))) (k : ℕ) (told : Bor (List ℕ)) → Reading texts (lent lines) (lent rests) k
    → 0 < length texts → IsNextLine k (lent rests) (lent left) (Ok (Some told)) → lent more ≡ lent lines ++ told.now ∷ []
    → Reading texts (lent more) (lent left) (k + 1)
reads_next texts lines rests more left k told r some n pushed =
    next texts (lent lines) (lent rests) k r some told.now n.0 (lent more) (lent left) n.1 n.2 n.3 pushed

pub reads_whole : (texts : List (List ℕ)) (lines rests left : List (Bor (List ℕ))) (k : ℕ) → Reading texts (lent lines) (lent rests) k → 0 < length texts
    → IsNextLine k (lent rests) (lent left) (Ok None) → All (λ t. t.now ≡ []) left
    → AreOrdered texts (lent lines) × ((all : List (List ℕ)) → AreOrdered texts all → lent lines ≡ all)
reads_whole texts lines rests left k r some n all =
    read_whole texts (lent lines) (lent rests) k r some
    (λ j h. let within : j < length left = omega (arith, sym (lent_length left) ∙ ap length n.1, h) in
    ap (λ l. get_or l j []) (sym n.1) ∙ lent_at left j within ∙ all j nothing within)

pub reads_missing : (texts : List (List ℕ)) (lines rests left : List (Bor (List ℕ))) (k : ℕ) → Reading texts (lent lines) (lent rests) k → 0 < length texts
    → IsNextLine k (lent rests) (lent left) (Ok None) → (All (λ t. t.now ≡ []) left → ⊥) → (all : List (List ℕ)) → AreOrdered texts all → ⊥
reads_missing texts lines rests left k r some n none all o =
    let short : length all ≤ k = stuck texts (lent lines) (lent rests) k r some (λ told rest e. line_some k told rest (sym e ∙ n.0)) all o in
    none (λ j d h. let within : j < length (lent rests) = omega (arith, sym (lent_length left) ∙ ap length n.1, h) in
    sym (get_or-map (λ (t : Bor (List ℕ)). t.now) left j d [] h) ∙ ap (λ l. get_or l j []) n.1 ∙ none_left texts (lent lines) (lent rests) k r all o short j within)

refused : (texts : List (List ℕ)) (lines rests : List (Bor (List ℕ))) (k : ℕ) → Reading texts (lent lines) (lent rests) k → 0 < length texts
    → (get_or (lent rests) (k % length (lent rests)) [] ≡ [] → ⊥)
    → ((told rest : List ℕ) → get_or (lent rests) (k % length (lent rests)) [] ≡ line_text k told ++ rest → ⊥) → (all : List (List ℕ)) → AreOrdered texts all → ⊥
refused texts lines rests k r some full none all o =
    let short : length all ≤ k = stuck texts (lent lines) (lent rests) k r some none all o in
    let within : k % length (lent rests) < length (lent rests) = mod-lt k (omega (arith, r.parts, some)) in
    full (none_left texts (lent lines) (lent rests) k r all o short (k % length (lent rests)) within)

pub reads_fault : (texts : List (List ℕ)) (lines rests left : List (Bor (List ℕ))) (k : ℕ) (f : JoinFault) → Reading texts (lent lines) (lent rests) k
    → 0 < length texts → IsNextLine k (lent rests) (lent left) (Err f) → (all : List (List ℕ)) → AreOrdered texts all → f ≡ NoMemory
reads_fault texts lines rests left k NoMemory r some n all o = refl
reads_fault texts lines rests left k (Missing m) r some n all o = absurd (refused texts lines rests k r some n.1 n.2 all o)
reads_fault texts lines rests left k (Twice m) r some n all o = absurd (refused texts lines rests k r some n.1 n.2 all o)
reads_fault texts lines rests left k (BadLine m) r some n all o = absurd (refused texts lines rests k r some n.1 n.2 all o)
reads_fault texts lines rests left k (OtherSweep m) r some n all o = absurd (refused texts lines rests k r some n.1 n.2 all o)

-- what was read of the texts, and what is left of them
read_to : (texts : List (List ℕ)) (lines rests : List (List ℕ)) (k : ℕ) → Reading texts lines rests k → IsReadTo texts rests k
read_to texts lines rests k r = record { read = (lines, r.count, r.so_far); all = r.parts }

-- the text that has the next line does not begin with it
pub next_of_fault : (texts : List (List ℕ)) (lines rests left : List (Bor (List ℕ))) (k : ℕ) (f : JoinFault) → Reading texts (lent lines) (lent rests) k
    → IsNextLine k (lent rests) (lent left) (Err f) → IsNextFault texts f
next_of_fault texts lines rests left k NoMemory r n = (lent rests, k, read_to texts (lent lines) (lent rests) k r, tt)
next_of_fault texts lines rests left k (Missing m) r n = (
  lent rests,
  k,
  read_to texts (lent lines) (lent rests) k r,
  subst (λ p. IsHeadFault p k (get_or (lent rests) (k % p) []) (Missing m)) r.parts n.0,
)
next_of_fault texts lines rests left k (Twice m) r n = (
  lent rests,
  k,
  read_to texts (lent lines) (lent rests) k r,
  subst (λ p. IsHeadFault p k (get_or (lent rests) (k % p) []) (Twice m)) r.parts n.0,
)
next_of_fault texts lines rests left k (BadLine m) r n = absurd n.0
next_of_fault texts lines rests left k (OtherSweep m) r n = absurd n.0

-- nothing is left of it
pub none_of_fault : (texts : List (List ℕ)) (lines rests left : List (Bor (List ℕ))) (k : ℕ) → Reading texts (lent lines) (lent rests) k
    → IsNextLine k (lent rests) (lent left) (Ok None) → IsNextFault texts (Missing k)
none_of_fault texts lines rests left k r n = (
  lent rests,
  k,
  read_to texts (lent lines) (lent rests) k r,
  subst (λ p. IsHeadFault p k (get_or (lent rests) (k % p) []) (Missing k)) r.parts
      (refl, (λ i told rest e begins. line_some i told rest (sym begins ∙ n.0))),
)

-- memory was refused
pub no_room : (texts : List (List ℕ)) (f : JoinFault) → f ≡ NoMemory → IsNextFault texts f
no_room texts f e = subst (IsNextFault texts) (sym e) (texts, 0, read_to texts [] texts 0 (begun texts texts refl), tt)

-- a `?` passes on what is known of the cause
pub refused_on : {A F : Type 0} {Q : F → Type 0} (R : F → Type 0) (r : Result A F) → IsErrAnd r Q → ((fault : F) → Q fault → R fault) → IfErr r R
refused_on R (Ok x) is to = absurd is
refused_on R (Err fault) is to = to fault is

pub ended_of_fault : {V : Type 0} (texts : List (List ℕ)) (lines rests left : List (Bor (List ℕ))) (k : ℕ) (r : Result V JoinFault)
    → Reading texts (lent lines) (lent rests) k → IsNextLine k (lent rests) (lent left) (Ok None)
    → IfErr r (λ f. (f ≡ Missing k) × (All (λ t. t.now ≡ []) left → ⊥)) → IfErr r (λ f. IsNextFault texts f)
ended_of_fault texts lines rests left k (Ok v) r n g = tt
ended_of_fault texts lines rests left k (Err f) r n g = subst (IsNextFault texts) (sym g.0) (none_of_fault texts lines rests left k r n)

-- ---- the end

pub ended_read : {V : Type 0} (texts : List (List ℕ)) (lines rests left : List (Bor (List ℕ))) (k : ℕ) (r : Result V JoinFault)
    → Reading texts (lent lines) (lent rests) k → 0 < length texts → IsNextLine k (lent rests) (lent left) (Ok None)
    → IfOk r (λ v. All (λ t. t.now ≡ []) left) → IfOk r (λ v. AreOrdered texts (lent lines))
ended_read texts lines rests left k (Ok v) r some n h = (reads_whole texts lines rests left k r some n h).0
ended_read texts lines rests left k (Err f) r some n h = tt

pub ended_whole : {V : Type 0} (texts : List (List ℕ)) (lines rests left : List (Bor (List ℕ))) (k : ℕ) (r : Result V JoinFault)
    → Reading texts (lent lines) (lent rests) k → 0 < length texts → IsNextLine k (lent rests) (lent left) (Ok None)
    → IfOk r (λ v. All (λ t. t.now ≡ []) left) → IfErr r (λ f. (f ≡ Missing k) × (All (λ t. t.now ≡ []) left → ⊥))
    → (all : List (List ℕ)) → AreOrdered texts all → MatchResult r (λ v. lent lines ≡ all) (λ f. f ≡ NoMemory)
ended_whole texts lines rests left k (Ok v) r some n h g all o = (reads_whole texts lines rests left k r some n h).1 all o
ended_whole texts lines rests left k (Err f) r some n h g all o = absurd (reads_missing texts lines rests left k r some n g.1 all o)
