-- Reading the lines of parts.
use Rattle.std.proofs.Common.{◌≡◌, ◌∙◌, ℕ, ◌≤◌, Bool, true, false, List, [], ◌∷◌, ◌++◌, length, ap, arith, refl, subst, sym, append-nil, length-append}
use Rattle.std.proofs.lemmas.Bool.{true≢false}
use Rattle.std.specs.Borrow.{Bor}
use Rattle.std.specs.Prelude.{MatchResult, Ok, Err, Result, if◌then◌else◌, is_ok, map}
use Rattle.std.proofs.lemmas.List.{map-append}
use Rattle.jcard_outcomes.specs.Part.{has}
use Rattle.jcard_outcomes.specs.declared.join_fault.JoinFault.{JoinFault}
use Rattle.jcard_outcomes.specs.declared.join_fault.JoinFault.TheVariants as joining
use Rattle.jcard_outcomes.proofs.Splits.{cut_again, cut_unique, not_lacking}
use Rattle.jcard_attack.specs.PartLines.{AFault, AnEnd, AreLinesTo, AreNoLines, AreOfParts, AreReadTo, IsFaultLine, IsJoined, IsMore, IsNoMore, IsNoReport, IsReport, IsReportOf, IsUnjoined, PartLine, States, ends_in, ends_read, faults_in, faults_read}
use Rattle.jcard_attack.specs.Report.{FaultTold, told_by}
use Rattle.jcard_attack.specs.declared.join.JoinedAttack.{JoinedAttack}
use Rattle.jcard_attack.specs.declared.join.ReadLines.{ReadLines}
use Rattle.jcard_attack.specs.declared.fault_text.ToldFault.{ToldFault}

-- ---- the words of a line

-- what follows the model, the number and the second fault
abbrev pub after_model : FaultTold → List ℕ
after_model f = f.number ++ 9 ∷ (f.second ++ 9 ∷ (f.told ++ 9 ∷ f.place))

abbrev pub after_number : FaultTold → List ℕ
after_number f = f.second ++ 9 ∷ (f.told ++ 9 ∷ f.place)

abbrev pub after_second : FaultTold → List ℕ
after_second f = f.told ++ 9 ∷ f.place

-- a line without a tab is that of no fault
pub no_model : (line : List ℕ) (f : FaultTold) → has 9 line ≡ false → IsFaultLine f line → ⊥
no_model line f lacks h = not_lacking 9 line f.model (after_model f) lacks h.is

model_read : (line m rest : List ℕ) (f : FaultTold) → line ≡ m ++ 9 ∷ rest → has 9 m ≡ false → IsFaultLine f line → rest ≡ after_model f
model_read line m rest f e p h = (cut_again 9 line m f.model rest (after_model f) e p h.is h.model).1

-- nor one with too few
pub no_number : (line m rest : List ℕ) (f : FaultTold) → line ≡ m ++ 9 ∷ rest → has 9 m ≡ false → has 9 rest ≡ false → IsFaultLine f line → ⊥
no_number line m rest f e p lacks h = not_lacking 9 rest f.number (after_number f) lacks (model_read line m rest f e p h)

number_read : (line m rest n more : List ℕ) (f : FaultTold) → line ≡ m ++ 9 ∷ rest → has 9 m ≡ false → rest ≡ n ++ 9 ∷ more → has 9 n ≡ false
    → IsFaultLine f line → more ≡ after_number f
number_read line m rest n more f e p d q h = (cut_again 9 rest n f.number more (after_number f) d q (model_read line m rest f e p h) h.number).1

pub no_second : (line m rest n more : List ℕ) (f : FaultTold) → line ≡ m ++ 9 ∷ rest → has 9 m ≡ false → rest ≡ n ++ 9 ∷ more → has 9 n ≡ false
    → has 9 more ≡ false → IsFaultLine f line → ⊥
no_second line m rest n more f e p d q lacks h = not_lacking 9 more f.second (after_second f) lacks (number_read line m rest n more f e p d q h)

second_read : (line m rest n more s last : List ℕ) (f : FaultTold) → line ≡ m ++ 9 ∷ rest → has 9 m ≡ false → rest ≡ n ++ 9 ∷ more → has 9 n ≡ false
    → more ≡ s ++ 9 ∷ last → has 9 s ≡ false → IsFaultLine f line → last ≡ after_second f
second_read line m rest n more s last f e p d q g r h =
    (cut_again 9 more s f.second last (after_second f) g r (number_read line m rest n more f e p d q h) h.second).1

pub no_told : (line m rest n more s last : List ℕ) (f : FaultTold) → line ≡ m ++ 9 ∷ rest → has 9 m ≡ false → rest ≡ n ++ 9 ∷ more → has 9 n ≡ false
    → more ≡ s ++ 9 ∷ last → has 9 s ≡ false → has 9 last ≡ false → IsFaultLine f line → ⊥
no_told line m rest n more s last f e p d q g r lacks h = not_lacking 9 last f.told f.place lacks (second_read line m rest n more s last f e p d q g r h)

-- nor one with too many
pub no_place : (line m rest n more s last t place : List ℕ) (f : FaultTold) → line ≡ m ++ 9 ∷ rest → has 9 m ≡ false → rest ≡ n ++ 9 ∷ more → has 9 n ≡ false
    → more ≡ s ++ 9 ∷ last → has 9 s ≡ false → last ≡ t ++ 9 ∷ place → has 9 t ≡ false → has 9 place ≡ true → IsFaultLine f line → ⊥
no_place line m rest n more s last t place f e p d q g r b k tab h =
    let is : place ≡ f.place = (cut_again 9 last t f.told place f.place b k (second_read line m rest n more s last f e p d q g r h) h.told).1 in
    true≢false (sym tab ∙ ap (has 9) is ∙ h.place)

-- five words with tabs between them
pub words_read : (line m rest n more s last t place : List ℕ) → line ≡ m ++ 9 ∷ rest → rest ≡ n ++ 9 ∷ more → more ≡ s ++ 9 ∷ last → last ≡ t ++ 9 ∷ place
    → line ≡ m ++ 9 ∷ (n ++ 9 ∷ (s ++ 9 ∷ (t ++ 9 ∷ place)))
words_read line m rest n more s last t place e d g b =
    e ∙ ap (λ x. m ++ 9 ∷ x) (d ∙ ap (λ x. n ++ 9 ∷ x) (g ∙ ap (λ x. s ++ 9 ∷ x) b))

-- ---- what a line states

words : List ℕ → List ℕ → List ℕ → List ℕ → List ℕ → FaultTold
words m n s t p = record { model = m; number = n; second = s; told = t; place = p }

same_words : (f g : FaultTold) → f.model ≡ g.model → f.number ≡ g.number → f.second ≡ g.second → f.told ≡ g.told → f.place ≡ g.place → f ≡ g
unfolding words
same_words f g a b d e k =
    ap (λ x. words x f.number f.second f.told f.place) a ∙ (ap (λ x. words g.model x f.second f.told f.place) b
    ∙ (ap (λ x. words g.model g.number x f.told f.place) d ∙ (ap (λ x. words g.model g.number g.second x f.place) e ∙ ap (words g.model g.number g.second g.told) k)))

-- a line is that of one fault
fault_once : (f g : FaultTold) (line : List ℕ) → IsFaultLine f line → IsFaultLine g line → f ≡ g
fault_once f g line s t =
    let a = cut_again 9 line f.model g.model (after_model f) (after_model g) s.is s.model t.is t.model in
    let b = cut_unique 9 f.number g.number (after_number f) (after_number g) s.number t.number a.1 in
    let d = cut_unique 9 f.second g.second (after_second f) (after_second g) s.second t.second b.1 in
    let e = cut_unique 9 f.told g.told f.place g.place s.told t.told d.1 in
    same_words f g a.0 b.0 d.0 e.0 e.1

-- and states one thing
states_once : (l m : PartLine) (line : List ℕ) → States l line → States m line → l ≡ m
states_once (AFault f) (AFault g) line s t = ap AFault (fault_once f g line s t)
states_once (AFault f) (AnEnd u) line s t = absurd (no_model line f t.1 s)
states_once (AnEnd u) (AFault f) line s t = absurd (no_model line f s.1 t)
states_once (AnEnd u) (AnEnd v) line s t = ap AnEnd (sym s.0 ∙ t.0)

-- ---- lines

nothing_cut : (line more : List ℕ) → [] ≡ line ++ 10 ∷ more → ⊥
nothing_cut line more e = absurd (omega (arith, simp length-append at (ap length e)))

-- one line more
lines_more : (lines : List PartLine) (text line rest : List ℕ) (l : PartLine) → AreLinesTo lines text (line ++ 10 ∷ rest) → has 10 line ≡ false → States l line
    → AreLinesTo (lines ++ l ∷ []) text rest
unfolding AreLinesTo
lines_more [] text line rest l e n s = (line, rest, e, n, s, refl)
lines_more (x ∷ xs) text line rest l h n s = (h.0, h.1, h.2, h.3, h.4, lines_more xs h.1 line rest l h.5 n s)

-- lines that were read are the first of all lines
read_on : (lines all : List PartLine) (text rest : List ℕ) → AreLinesTo lines text rest → AreLinesTo all text []
    → (more : List PartLine) × (all ≡ lines ++ more) × AreLinesTo more rest []
unfolding AreLinesTo
read_on [] all text rest h k = (all, refl, subst (λ (t : List ℕ). AreLinesTo all t []) h k)
read_on (l ∷ lines) [] text rest h k = absurd (nothing_cut h.0 h.1 (sym k ∙ h.2))
read_on (l ∷ lines) (m ∷ all) text rest h k =
    let same = cut_again 10 text h.0 k.0 h.1 k.1 h.2 h.3 k.2 k.3 in
    let one : l ≡ m = states_once l m h.0 h.4 (subst (States m) (sym same.0) k.4) in
    let on = read_on lines all h.1 rest h.5 (subst (λ (t : List ℕ). AreLinesTo all t []) (sym same.1) k.5) in
    (on.0, ap (λ x. x ∷ all) (sym one) ∙ ap (λ xs. l ∷ xs) on.1, on.2)

-- all lines of a text are read in one way
pub read_once : (lines all : List PartLine) (text : List ℕ) → AreLinesTo lines text [] → AreLinesTo all text [] → all ≡ lines
unfolding AreLinesTo
read_once lines all text h k = let on = read_on lines all text [] h k in on.1 ∙ none on.0 on.2
  where
    none : (more : List PartLine) → AreLinesTo more [] [] → lines ++ more ≡ lines
    none [] e = append-nil lines
    none (m ∷ more) h = absurd (nothing_cut h.0 h.1 h.2)

-- a rest that has no line feed, or a line that states nothing, is no line of any reading
no_rest : (lines : List PartLine) (text rest : List ℕ) → AreLinesTo lines text rest → (rest ≡ [] → ⊥) → has 10 rest ≡ false → (all : List PartLine)
    → AreLinesTo all text [] → ⊥
unfolding AreLinesTo
no_rest lines text rest h full lacks all k = let on = read_on lines all text rest h k in none on.0 on.2
  where
    none : (more : List PartLine) → AreLinesTo more rest [] → ⊥
    none [] e = full e
    none (m ∷ more) h = not_lacking 10 rest h.0 h.1 lacks h.2

no_line : (lines : List PartLine) (text line rest : List ℕ) → AreLinesTo lines text (line ++ 10 ∷ rest) → has 10 line ≡ false
    → ((l : PartLine) → States l line → ⊥) → (all : List PartLine) → AreLinesTo all text [] → ⊥
unfolding AreLinesTo
no_line lines text line rest h plain states all k = let on = read_on lines all text (line ++ 10 ∷ rest) h k in none on.0 on.2
  where
    none : (more : List PartLine) → AreLinesTo more (line ++ 10 ∷ rest) [] → ⊥
    none [] e = nothing_cut line rest (sym e)
    none (m ∷ more) h =
        let same = cut_unique 10 line h.0 rest h.1 plain h.3 h.2 in
        states m (subst (States m) (sym same.0) h.4)

pub faults_in-append : (xs ys : List PartLine) → faults_in (xs ++ ys) ≡ faults_in xs ++ faults_in ys
faults_in-append [] ys = refl
faults_in-append (AFault f ∷ xs) ys = ap (λ l. f ∷ l) (faults_in-append xs ys)
faults_in-append (AnEnd u ∷ xs) ys = faults_in-append xs ys

pub ends_in-append : (xs ys : List PartLine) → ends_in (xs ++ ys) ≡ ends_in xs ++ ends_in ys
ends_in-append [] ys = refl
ends_in-append (AFault f ∷ xs) ys = ends_in-append xs ys
ends_in-append (AnEnd u ∷ xs) ys = ap (λ l. u ∷ l) (ends_in-append xs ys)

-- ---- the loop that reads them

pub reads_begun : (text rest : List ℕ) (r : ReadLines) → rest ≡ text → faults_read r ≡ [] → ends_read r ≡ [] → AreReadTo text rest r
unfolding AreLinesTo
reads_begun text rest r e f d = ([], sym e, f, d)

pub reads_next : (text rest line more : List ℕ) (old new : ReadLines) → AreReadTo text rest old → rest ≡ line ++ 10 ∷ more → has 10 line ≡ false
    → IsMore old new line → AreReadTo text more new
reads_next text rest line more old new h e plain m = (
  h.0 ++ m.0 ∷ [],
  lines_more h.0 text line more m.0 (subst (AreLinesTo h.0 text) e h.1) plain m.1,
  m.2 ∙ ap (λ l. l ++ faults_in (m.0 ∷ [])) h.2 ∙ sym (faults_in-append h.0 (m.0 ∷ [])),
  m.3 ∙ ap (λ l. l ++ ends_in (m.0 ∷ [])) h.3 ∙ sym (ends_in-append h.0 (m.0 ∷ [])),
)

at_most : (text rest : List ℕ) (k : ℕ) (r : ReadLines) (h : AreReadTo text rest r) → k ≤ length (ends_read r) → k ≤ length (ends_in h.0)
at_most text rest k r h few = omega (arith, few, ap length h.3)

-- a line that states nothing
pub reads_stop : (text rest line more : List ℕ) (old : ReadLines) (fault : JoinFault) → AreReadTo text rest old → rest ≡ line ++ 10 ∷ more → has 10 line ≡ false
    → IsNoMore old line fault → AreNoLines text fault
reads_stop text rest line more old joining.NoMemory h e plain m = tt
reads_stop text rest line more old (joining.BadLine k) h e plain m = (
  no_line h.0 text line more (subst (AreLinesTo h.0 text) e h.1) plain m.0,
  (h.0, rest, h.1, at_most text rest k old h m.1),
)
reads_stop text rest line more old (joining.Missing k) h e plain m = absurd m
reads_stop text rest line more old (joining.Twice k) h e plain m = absurd m
reads_stop text rest line more old (joining.OtherSweep k) h e plain m = absurd m

-- the last line has no line feed
pub reads_broken : (text rest : List ℕ) (r : ReadLines) (k : ℕ) → AreReadTo text rest r → (rest ≡ [] → ⊥) → has 10 rest ≡ false → k ≤ length (ends_read r)
    → AreNoLines text (joining.BadLine k)
reads_broken text rest r k h full lacks few = (no_rest h.0 text rest h.1 full lacks, (h.0, rest, h.1, at_most text rest k r h few))

pub reads_ended : (text rest : List ℕ) (r : ReadLines) → AreReadTo text rest r → rest ≡ [] → AreReadTo text [] r
reads_ended text rest r h e = subst (λ (t : List ℕ). AreReadTo text t r) e h

-- ---- the report of what was read

pub report_joined : (n : ℕ) (text : List ℕ) (r : ReadLines) (j : JoinedAttack) → AreReadTo text [] r → IsReport n r j → IsJoined n text j
report_joined n text r j h is =
    (h.0, is.0, (h.1, sym h.3 ∙ is.1), subst (λ (fs : List FaultTold). IsReportOf fs is.0 j) h.2 is.2)

pub report_unjoined : (n : ℕ) (text : List ℕ) (r : ReadLines) (fault : JoinFault) → AreReadTo text [] r → IsNoReport n r fault → IsUnjoined n text fault
report_unjoined n text r joining.NoMemory h is = tt
report_unjoined n text r (joining.BadLine k) h is = (
  (λ lines undisturbed of. is.0 undisturbed (h.3 ∙ ap ends_in (sym (read_once h.0 lines text h.1 of.0)) ∙ of.1)),
  (h.0, [], h.1, at_most text [] k r h is.1),
)
report_unjoined n text r (joining.Missing k) h is = absurd is
report_unjoined n text r (joining.Twice k) h is = absurd is
report_unjoined n text r (joining.OtherSweep k) h is = absurd is

pub unread_unjoined : (n : ℕ) (text : List ℕ) (fault : JoinFault) → AreNoLines text fault → IsUnjoined n text fault
unread_unjoined n text joining.NoMemory is = tt
unread_unjoined n text (joining.BadLine k) is = ((λ lines undisturbed of. is.0 lines of.0), is.1)
unread_unjoined n text (joining.Missing k) is = absurd is
unread_unjoined n text (joining.Twice k) is = absurd is
unread_unjoined n text (joining.OtherSweep k) is = absurd is

pub read_joined : (n : ℕ) (text : List ℕ) (r : ReadLines) (result : Result JoinedAttack JoinFault) → AreReadTo text [] r
    → MatchResult result (IsReport n r) (IsNoReport n r) → MatchResult result (IsJoined n text) (IsUnjoined n text)
read_joined n text r (Ok j) h is = report_joined n text r j h is
read_joined n text r (Err fault) h is = report_unjoined n text r fault h is

-- ---- what a line adds

-- an item was pushed, or memory was refused
grown : {A E V : Type 0} (p : Result A E) (b : Bool) (old new : List V) (v : V) → b ≡ is_ok p → b ≡ true → new ≡ (if is_ok p then old ++ v ∷ [] else old)
    → new ≡ old ++ v ∷ []
grown (Ok x) b old new v e t is = is
grown (Err x) b old new v e t is = absurd (true≢false (sym t ∙ e))

-- the line of the command without a fault
pub end_pushed : {A E : Type 0} (p : Result A E) (b : Bool) (old new : ReadLines) (line : Bor (List ℕ)) (r : Result Unit JoinFault) → b ≡ is_ok p
    → new.ends.items ≡ (if is_ok p then old.ends.items ++ line ∷ [] else old.ends.items) → new.faults.items ≡ old.faults.items → has 9 line.now ≡ false
    → MatchResult r (λ _. b ≡ true) (λ fault. (b ≡ false) × (fault ≡ joining.NoMemory)) → MatchResult r (λ _. IsMore old new line.now) (IsNoMore old line.now)
end_pushed p b old new line (Ok done) e is same lacks h = (
  AnEnd line.now,
  (refl, lacks),
  ap (map told_by) same ∙ sym (append-nil (faults_read old)),
  ap (map (λ (t : Bor (List ℕ)). t.now)) (grown p b old.ends.items new.ends.items line e h is)
      ∙ map-append (λ (t : Bor (List ℕ)). t.now) old.ends.items (line ∷ []),
)
end_pushed p b old new line (Err fault) e is same lacks h = subst (IsNoMore old line.now) (sym h.1) tt

-- the line of a fault
pub fault_pushed : {A E : Type 0} (p : Result A E) (b : Bool) (old new : ReadLines) (line : List ℕ) (fault : ToldFault) (r : Result Unit JoinFault) → b ≡ is_ok p
    → new.faults.items ≡ (if is_ok p then old.faults.items ++ fault ∷ [] else old.faults.items) → new.ends.items ≡ old.ends.items
    → IsFaultLine (told_by fault) line
    → MatchResult r (λ _. b ≡ true) (λ cause. (b ≡ false) × (cause ≡ joining.NoMemory)) → MatchResult r (λ _. IsMore old new line) (IsNoMore old line)
fault_pushed p b old new line fault (Ok done) e is same told h = (
  AFault (told_by fault),
  told,
  ap (map told_by) (grown p b old.faults.items new.faults.items fault e h is) ∙ map-append told_by old.faults.items (fault ∷ []),
  ap (map (λ (t : Bor (List ℕ)). t.now)) same ∙ sym (append-nil (ends_read old)),
)
fault_pushed p b old new line fault (Err cause) e is same told h = subst (IsNoMore old line) (sym h.1) tt

-- a line with tabs that is that of no fault
pub line_refused : (old : ReadLines) (line : List ℕ) (k : ℕ) → has 9 line ≡ true → ((f : FaultTold) → IsFaultLine f line → ⊥) → k ≤ length (ends_read old)
    → IsNoMore old line (joining.BadLine k)
line_refused old line k tab none few = (states, few)
  where
    states : (l : PartLine) → States l line → ⊥
    states (AFault f) h = none f h
    states (AnEnd u) h = true≢false (sym tab ∙ h.1)
