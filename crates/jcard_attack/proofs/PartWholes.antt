-- The lines of all parts of a sweep, and the report that they are joined to.
use Rattle.std.proofs.Common.{◌≡◌, ◌∙◌, ℕ, zero, suc, ◌+◌, ◌*◌, ◌/◌, ◌%◌, ◌-◌, ◌<◌, ◌≤◌, ◌==◌, Bool, true, false, if◌then◌else◌, List, [], ◌∷◌, ◌++◌, length, get_or, map, replicate, take, drop, ap, arith, refl, subst, sym, append_assoc, append-nil, codes, Option, Some, None}
use Rattle.std.specs.Prelude.{All, MatchResult, Ok, Err, Result, is_some, option_map, slice_get}
use Rattle.std.specs.List.{flat_map}
use Rattle.std.proofs.Math.Nat.{div-add-mod, mod-lt}
use Rattle.std.proofs.Math.Seq.{take-add}
use Rattle.std.proofs.lemmas.List.{length-map, map-append, take_all, take_more}
use Rattle.std.proofs.lemmas.List.Concat.{flat_map-append}
use Rattle.std.proofs.lemmas.List.Elements.{All-drop, All-head, All-tail, All-take}
use Rattle.jc_card.specs.declared.planned_fault.PlannedFault.{PlannedFault}
use Rattle.jcard_outcomes.specs.Part.{has}
use Rattle.jcard_outcomes.specs.Report.{in_line}
use Rattle.jcard_outcomes.specs.declared.join_fault.JoinFault.{JoinFault}
use Rattle.jcard_outcomes.specs.declared.join_fault.JoinFault.TheVariants as joining
use Rattle.jcard_attack.specs.PartLines.{AFault, AnEnd, AreLinesTo, AreOfParts, IsFaultLine, IsJoined, IsTellable, IsUnjoined, PartLine, ends_in, fault_line, fault_lines, faults_in, faults_told, first_name, joined_text, share_text, shares_text, tells, told_accepted, told_as, told_silent, undisturbed_line, verdict_told}
use Rattle.jcard_attack.specs.Report.{FaultTold, accepted_line, any_accepted, count_of, fault_name, fault_told, first_of, instruction_lines, is_outcome, outcome_text, report_text, rows_text, silence_line, undisturbed_text, verdict_text}
use Rattle.jcard_sweeps.specs.Shares.{share_in, share_size}
use Rattle.jcard_attack.specs.declared.join.JoinedAttack.{JoinedAttack}
use Rattle.jcard_attack.specs.declared.outcomes.AttackSweep.{AttackSweep}
use Rattle.jcard_attack.specs.declared.outcomes.Outcome.{Outcome}
use Rattle.jcard_attack.specs.declared.outcomes.Outcome.TheVariants.{Undisturbed, Silent, Accepted, Other, BrokenOff, Refused, Cut}
use Rattle.jcard_attack.specs.declared.outcomes.Struck.{Struck}
use Rattle.jcard_attack.proofs.PartReads.{ends_in-append, faults_in-append, read_once}

-- the line of the next fault
pub lines_next : {S : Type 0} (f : S → FaultTold) (xs : List S) (i : ℕ) (x : S) (start so next : List ℕ) → i < length xs → x ≡ get_or xs i x
    → so ≡ start ++ fault_lines (map f (take i xs)) → next ≡ so ++ (fault_line (f x) ++ 10 ∷ []) → next ≡ start ++ fault_lines (map f (take (i + 1) xs))
lines_next f xs i x start so next h e is more =
    let one : map f (take (i + 1) xs) ≡ map f (take i xs) ++ f x ∷ [] = ap (map f) (take_more xs i x h) ∙ map-append f (take i xs) (get_or xs i x ∷ [])
    ∙ ap (λ y. map f (take i xs) ++ f y ∷ []) (sym e) in
    let lines : fault_lines (map f (take (i + 1) xs)) ≡ fault_lines (map f (take i xs)) ++ (fault_line (f x) ++ 10 ∷ []) =
    ap fault_lines one ∙ flat_map-append (λ g. fault_line g ++ 10 ∷ []) (map f (take i xs)) (f x ∷ [])
    ∙ ap (λ l. fault_lines (map f (take i xs)) ++ l) (append-nil (fault_line (f x) ++ 10 ∷ [])) in
    more ∙ ap (λ l. l ++ (fault_line (f x) ++ 10 ∷ [])) is ∙ append_assoc start (fault_lines (map f (take i xs))) (fault_line (f x) ++ 10 ∷ [])
    ∙ ap (λ l. start ++ l) (sym lines)

-- ---- the lines of one part

-- a fault can be written in a line
abbrev pub IsPlain : FaultTold → Type 0
IsPlain f = IsFaultLine f (fault_line f) × (has 10 (fault_line f) ≡ false)

-- what a part states
abbrev pub lines_of : List FaultTold → List ℕ → List PartLine
lines_of [] u = AnEnd u ∷ []
lines_of (f ∷ faults) u = AFault f ∷ lines_of faults u

lines_are : (faults : List FaultTold) (u : List ℕ) → All IsPlain faults → has 9 u ≡ false → has 10 u ≡ false
    → AreLinesTo (lines_of faults u) (fault_lines faults ++ (u ++ 10 ∷ [])) []
unfolding AreLinesTo
lines_are [] u plain tab feed = (u, [], refl, feed, (refl, tab), refl)
lines_are (f ∷ faults) u plain tab feed =
    let one = All-head IsPlain f faults plain in
    let rest : List ℕ = fault_lines faults ++ (u ++ 10 ∷ []) in (
      fault_line f,
      rest,
      append_assoc (fault_line f ++ 10 ∷ []) (fault_lines faults) (u ++ 10 ∷ []) ∙ append_assoc (fault_line f) (10 ∷ []) rest,
      one.1,
      one.0,
      lines_are faults u (All-tail IsPlain f faults plain) tab feed,
    )

faults_of_lines : (faults : List FaultTold) (u : List ℕ) → faults_in (lines_of faults u) ≡ faults
faults_of_lines [] u = refl
faults_of_lines (f ∷ faults) u = ap (λ l. f ∷ l) (faults_of_lines faults u)

ends_of_lines : (faults : List FaultTold) (u : List ℕ) → ends_in (lines_of faults u) ≡ u ∷ []
ends_of_lines [] u = refl
ends_of_lines (f ∷ faults) u = ends_of_lines faults u

-- ---- the lines of all parts

lines_append : (xs ys : List PartLine) (s t : List ℕ) → AreLinesTo xs s [] → AreLinesTo ys t [] → AreLinesTo (xs ++ ys) (s ++ t) []
unfolding AreLinesTo
lines_append [] ys s t h k = subst (λ (l : List ℕ). AreLinesTo ys (l ++ t) []) (sym h) k
lines_append (x ∷ xs) ys s t h k = (
  h.0,
  h.1 ++ t,
  ap (λ l. l ++ t) h.2 ∙ append_assoc h.0 (10 ∷ h.1) t,
  h.3,
  h.4,
  lines_append xs ys h.1 t h.5 k,
)

-- the faults of part k + 1 of n
abbrev share_faults : AttackSweep → ℕ → ℕ → List FaultTold
share_faults s n k = share_in (record { first = k; step = n }) (faults_told s)

-- what the first k of n parts state
abbrev all_lines : AttackSweep → ℕ → ℕ → List PartLine
all_lines s n zero = []
all_lines s n (suc k) = all_lines s n k ++ lines_of (share_faults s n k) (undisturbed_line s)

undisturbed_is : (s : AttackSweep) → undisturbed_text s.undisturbed.answer.items s.undisturbed.left.answers.items ≡ undisturbed_line s ++ 10 ∷ []
undisturbed_is s =
    let start : List ℕ = codes "no fault, answer " ++ s.undisturbed.answer.items ++ codes ": " in
    let answers : List ℕ = in_line s.undisturbed.left.answers.items in
    ap (λ l. start ++ l) (sym (append_assoc answers (codes "as after") (10 ∷ []))) ∙ sym (append_assoc start (answers ++ codes "as after") (10 ∷ []))

all_are : (s : AttackSweep) (n k : ℕ) → IsTellable s → AreLinesTo (all_lines s n k) (shares_text s n k) []
unfolding AreLinesTo shares_text
all_are s n zero t = refl
all_are s n (suc k) t =
    let size : ℕ = share_size (length (faults_told s)) n in
    let plain : All IsPlain (share_faults s n k) = All-take IsPlain size (drop (k * size) (faults_told s)) (All-drop IsPlain (k * size) (faults_told s) t.faults) in
    let one = lines_are (share_faults s n k) (undisturbed_line s) plain t.undisturbed t.ended in
    let told : share_text s n k ≡ fault_lines (share_faults s n k) ++ (undisturbed_line s ++ 10 ∷ []) =
    ap (λ l. fault_lines (share_faults s n k) ++ l) (undisturbed_is s) in
    lines_append (all_lines s n k) (lines_of (share_faults s n k) (undisturbed_line s)) (shares_text s n k) (share_text s n k) (all_are s n k t)
    (subst (λ (l : List ℕ). AreLinesTo (lines_of (share_faults s n k) (undisturbed_line s)) l []) (sym told) one)

replicate_next : {A : Type 0} (k : ℕ) (x : A) → replicate k x ++ x ∷ [] ≡ replicate (suc k) x
replicate_next zero x = refl
replicate_next (suc k) x = ap (λ l. x ∷ l) (replicate_next k x)

all_ends : (s : AttackSweep) (n k : ℕ) → ends_in (all_lines s n k) ≡ replicate k (undisturbed_line s)
all_ends s n zero = refl
all_ends s n (suc k) = ends_in-append (all_lines s n k) (lines_of (share_faults s n k) (undisturbed_line s))
    ∙ ap (λ l. l ++ ends_in (lines_of (share_faults s n k) (undisturbed_line s))) (all_ends s n k)
    ∙ ap (λ l. replicate k (undisturbed_line s) ++ l) (ends_of_lines (share_faults s n k) (undisturbed_line s)) ∙ replicate_next k (undisturbed_line s)

all_faults : (s : AttackSweep) (n k : ℕ) → faults_in (all_lines s n k) ≡ take (k * share_size (length (faults_told s)) n) (faults_told s)
all_faults s n zero =
    let none : 0 * share_size (length (faults_told s)) n ≡ 0 = grind arith in
    ap (λ m. take m (faults_told s)) (sym none)
all_faults s n (suc k) =
    let size : ℕ = share_size (length (faults_told s)) n in
    let more : k * size + size ≡ suc k * size = grind arith in
    faults_in-append (all_lines s n k) (lines_of (share_faults s n k) (undisturbed_line s))
    ∙ ap (λ l. l ++ faults_in (lines_of (share_faults s n k) (undisturbed_line s))) (all_faults s n k)
    ∙ ap (λ l. take (k * size) (faults_told s) ++ l) (faults_of_lines (share_faults s n k) (undisturbed_line s))
    ∙ sym (take-add (k * size) size (faults_told s)) ∙ ap (λ m. take m (faults_told s)) more

-- the parts have all faults
shares_cover : (l n : ℕ) → 0 < n → l ≤ n * share_size l n
shares_cover l n some = by (l % n == 0) refl
  where
    whole : n * (l / n) + l % n ≡ l
    whole = div-add-mod l n

    below : l % n < n
    below = mod-lt l some

    by : (t : Bool) → (l % n == 0) ≡ t → l ≤ n * (if t then l / n else l / n + 1)
    by true e = let none : l % n ≡ 0 = grind (arith, e) in omega (arith, whole, none)
    by false e = let more : n * (l / n + 1) ≡ n * (l / n) + n = grind arith in omega (arith, whole, below, more)

-- all parts of a sweep state its faults, and each the command without one
pub shares_are : (s : AttackSweep) (n : ℕ) → 0 < n → IsTellable s → AreOfParts n (shares_text s n n) (all_lines s n n) (undisturbed_line s)
shares_are s n some t = (all_are s n n t, all_ends s n n)

shares_faults : (s : AttackSweep) (n : ℕ) → 0 < n → faults_in (all_lines s n n) ≡ faults_told s
shares_faults s n some = all_faults s n n ∙ take_all (n * share_size (length (faults_told s)) n) (faults_told s) (shares_cover (length (faults_told s)) n some)

-- ---- the verdict

accepted_as : (all : List (List ℕ)) (s : Struck) → tells (codes "ACCEPTED") (fault_told all s) ≡ is_outcome Accepted s.outcome
unfolding outcome_text
accepted_as all s = by s.outcome refl
  where
    by : (o : Outcome) → s.outcome ≡ o → tells (codes "ACCEPTED") (fault_told all s) ≡ is_outcome Accepted s.outcome
    by Undisturbed e = rw e refl
    by Silent e = rw e refl
    by Accepted e = rw e refl
    by Other e = rw e refl
    by BrokenOff e = rw e refl
    by Refused e = rw e refl
    by Cut e = rw e refl

silent_as : (all : List (List ℕ)) (s : Struck) → tells (codes "CHANGED IN SILENCE") (fault_told all s) ≡ is_outcome Silent s.outcome
unfolding outcome_text
silent_as all s = by s.outcome refl
  where
    by : (o : Outcome) → s.outcome ≡ o → tells (codes "CHANGED IN SILENCE") (fault_told all s) ≡ is_outcome Silent s.outcome
    by Undisturbed e = rw e refl
    by Silent e = rw e refl
    by Accepted e = rw e refl
    by Other e = rw e refl
    by BrokenOff e = rw e refl
    by Refused e = rw e refl
    by Cut e = rw e refl

count_case : (b : Bool) (f : FaultTold) (rest : List FaultTold) (n : ℕ) → length rest ≡ n → length (if b then f ∷ rest else rest) ≡ (if b then n + 1 else n)
count_case true f rest n e = omega (arith, e)
count_case false f rest n e = e

name_case : (all : List (List ℕ)) (s : Struck) (b : Bool) (rest : List FaultTold) (more : Option PlannedFault) → first_name rest ≡ option_map fault_name more
    → first_name (if b then fault_told all s ∷ rest else rest) ≡ option_map fault_name (if b then Some s.fault else more)
name_case all s true rest more e = refl
name_case all s false rest more e = e

module _ (all : List (List ℕ)) (words : List ℕ) (o : Outcome) (same : (s : Struck) → tells words (fault_told all s) ≡ is_outcome o s.outcome) where
  -- the faults that tell of an outcome are those that came to it
  told_so : List Struck → List FaultTold
  told_so strikes = told_as words (map (fault_told all) strikes)

  counted : (strikes : List Struck) → length (told_so strikes) ≡ count_of o strikes
  unfolding told_so count_of
  counted [] = refl
  counted (s ∷ more) = ap (λ b. length (if b then fault_told all s ∷ told_so more else told_so more)) (same s)
      ∙ count_case (is_outcome o s.outcome) (fault_told all s) (told_so more) (count_of o more) (counted more)

  named : (strikes : List Struck) → first_name (told_so strikes) ≡ option_map fault_name (first_of o strikes)
  unfolding told_so first_of
  named [] = refl
  named (s ∷ more) = ap (λ b. first_name (if b then fault_told all s ∷ told_so more else told_so more)) (same s)
      ∙ name_case all s (is_outcome o s.outcome) (told_so more) (first_of o more) (named more)

verdicts_same : (s : AttackSweep) → verdict_told (faults_told s) ≡ verdict_text s.strikes.items
unfolding told_so
verdicts_same s =
    let all : List (List ℕ) = instruction_lines s in
    let strikes : List Struck = s.strikes.items in
    let count : length (faults_told s) ≡ length strikes = length-map strikes (fault_told all) in
    ap (λ n. accepted_line n (length (told_accepted (faults_told s))) (first_name (told_accepted (faults_told s))) ++ silence_line (length (told_silent (faults_told s)))
    (first_name (told_silent (faults_told s))) ++ codes "\n") count
    ∙ ap (λ n. accepted_line (length strikes) n (first_name (told_accepted (faults_told s))) ++ silence_line (length (told_silent (faults_told s)))
    (first_name (told_silent (faults_told s))) ++ codes "\n") (counted all (codes "ACCEPTED") Accepted (accepted_as all) strikes)
    ∙ ap (λ f. accepted_line (length strikes) (count_of Accepted strikes) f ++ silence_line (length (told_silent (faults_told s)))
    (first_name (told_silent (faults_told s))) ++ codes "\n") (named all (codes "ACCEPTED") Accepted (accepted_as all) strikes)
    ∙ ap (λ n. accepted_line (length strikes) (count_of Accepted strikes) (option_map fault_name (first_of Accepted strikes)) ++ silence_line n
    (first_name (told_silent (faults_told s))) ++ codes "\n") (counted all (codes "CHANGED IN SILENCE") Silent (silent_as all) strikes)
    ∙ ap (λ f. accepted_line (length strikes) (count_of Accepted strikes) (option_map fault_name (first_of Accepted strikes)) ++ silence_line (count_of Silent strikes)
    f ++ codes "\n") (named all (codes "CHANGED IN SILENCE") Silent (silent_as all) strikes)

some_named : (faults : List FaultTold) → is_some (slice_get faults 0) ≡ is_some (first_name faults)
some_named [] = refl
some_named (f ∷ faults) = refl

some_mapped : {A B : Type 0} (f : A → B) (x : Option A) → is_some (option_map f x) ≡ is_some x
some_mapped f None = refl
some_mapped f (Some x) = refl

accepted_same : (s : AttackSweep) → is_some (slice_get (told_accepted (faults_told s)) 0) ≡ any_accepted s.strikes.items
unfolding told_so
accepted_same s = some_named (told_accepted (faults_told s))
    ∙ ap is_some (named (instruction_lines s) (codes "ACCEPTED") Accepted (accepted_as (instruction_lines s)) s.strikes.items)
    ∙ some_mapped fault_name (first_of Accepted s.strikes.items)

-- ---- the report

reports_same : (s : AttackSweep) → joined_text (faults_told s) (undisturbed_line s) ≡ report_text s
reports_same s =
    let rows : List ℕ = rows_text (faults_told s) in
    let u : List ℕ = undisturbed_line s in
    let v : List ℕ = verdict_text s.strikes.items in
    ap (λ x. rows ++ u ++ codes "\n" ++ x) (verdicts_same s)
    ∙ ap (λ l. l ++ v) (append_assoc rows u (codes "\n") ∙ ap (λ l. rows ++ l) (sym (undisturbed_is s)))

-- the parts of a sweep are joined to what is reported of it
pub joined_whole : (s : AttackSweep) (n : ℕ) (text : List ℕ) (j : JoinedAttack) → 0 < n → IsTellable s → text ≡ shares_text s n n → IsJoined n text j
    → (j.text.items ≡ report_text s) × (j.is_accepted ≡ any_accepted s.strikes.items)
joined_whole s n text j some t e is =
    let of = shares_are s n some t in
    let read = subst (λ (l : List ℕ). AreLinesTo is.0 l []) e is.2.0 in
    let lines : is.0 ≡ all_lines s n n = read_once (all_lines s n n) is.0 (shares_text s n n) of.0 read in
    let ends : replicate n is.1 ≡ replicate n (undisturbed_line s) = sym is.2.1 ∙ ap ends_in lines ∙ of.1 in
    let u : is.1 ≡ undisturbed_line s = one n some is.1 (undisturbed_line s) ends in
    let faults : faults_in is.0 ≡ faults_told s = ap faults_in lines ∙ shares_faults s n some in
    let text_is : joined_text (faults_in is.0) is.1 ≡ report_text s = ap (λ f. joined_text f is.1) faults ∙ ap (joined_text (faults_told s)) u ∙ reports_same s in
    let accepted : is_some (slice_get (told_accepted (faults_in is.0)) 0) ≡ any_accepted s.strikes.items =
    ap (λ f. is_some (slice_get (told_accepted f) 0)) faults ∙ accepted_same s in
    (is.3.0 ∙ text_is, is.3.1 ∙ accepted)
  where
    one : (k : ℕ) → 0 < k → (x y : List ℕ) → replicate k x ≡ replicate k y → x ≡ y
    one zero h x y e = absurd (omega (arith, h))
    one (suc k) h x y e = cc

pub unjoined_whole : (s : AttackSweep) (n : ℕ) (text : List ℕ) (fault : JoinFault) → 0 < n → IsTellable s → text ≡ shares_text s n n → IsUnjoined n text fault
    → fault ≡ joining.NoMemory
unjoined_whole s n text joining.NoMemory some t e is = refl
unjoined_whole s n text (joining.BadLine k) some t e is =
    let of = shares_are s n some t in
    absurd (is.0 (all_lines s n n) (undisturbed_line s) (subst (λ (l : List ℕ). AreLinesTo (all_lines s n n) l []) (sym e) of.0, of.1))
unjoined_whole s n text (joining.Missing k) some t e is = absurd is
unjoined_whole s n text (joining.Twice k) some t e is = absurd is
unjoined_whole s n text (joining.OtherSweep k) some t e is = absurd is

pub whole_joined : (s : AttackSweep) (n : ℕ) (text : List ℕ) (r : Result JoinedAttack JoinFault) → 0 < n → IsTellable s → text ≡ shares_text s n n
    → MatchResult r (IsJoined n text) (IsUnjoined n text)
    → MatchResult r (λ j. (j.text.items ≡ report_text s) × (j.is_accepted ≡ any_accepted s.strikes.items)) (λ fault. fault ≡ joining.NoMemory)
whole_joined s n text (Ok j) some t e is = joined_whole s n text j some t e is
whole_joined s n text (Err fault) some t e is = unjoined_whole s n text fault some t e is
