-- What lines are joined to.
use Rattle.std.proofs.Common.{arith, ◌≡◌, ◌∙◌, ⊎_elim, inr, ℕ, ◌+◌, ◌-◌, ◌<◌, ◌≤◌, false, List, [], ◌∷◌, ◌++◌, length, get_or, drop, replicate, ap, sym, refl, subst, codes, Result, Ok, Err}
use Rattle.std.specs.Prelude.{map, IfOk, MatchResult}
use Rattle.std.specs.List.{All}
use Rattle.std.proofs.lemmas.List.{get_or-drop, get_or-replicate, length-append, length-drop, length-map, length-replicate}
use Rattle.std.proofs.lemmas.List.Elements.{All-append, All-cons, All-head, All-nil, All-replicate, All-tail}
use Rattle.jcard_outcomes.specs.Join.{AreBodiesInOrder, AreJoinedInOrder, AreOrdered, AreTold, IsAnswerTold, IsJoinOf, IsJoinOfCuts, IsLinesFault, IsNoCut, IsNoEnd, IsNoReport}
use Rattle.jcard_outcomes.specs.Join.{IsReportOf, IsTellable, IsUncutTold, IsUnjoined, TellCuts}
use Rattle.jcard_outcomes.specs.Part.{AreDealt, IsCutOfWords, has, told_cut, told_sweep, told_uncut}
use Rattle.jcard_outcomes.specs.Report.{are_whole, in_line, report_text}
use Rattle.jcard_outcomes.specs.declared.join_fault.JoinFault.{JoinFault}
use Rattle.jcard_outcomes.specs.declared.join_fault.JoinFault.TheVariants.{BadLine, Missing, NoMemory, OtherSweep, Twice}
use Rattle.jcard_outcomes.specs.declared.join.Joined.{Joined}
use Rattle.jcard_outcomes.specs.declared.recoveries.Depth.{Depth}
use Rattle.jcard_outcomes.specs.declared.report.Sweep.{Sweep}
use Rattle.jcard_outcomes.specs.declared.standing.Cut.{Cut}
use Rattle.jcard_outcomes.proofs.EqualReports.{behind_cuts, joined_read, joined_whole, same_lengths, uncut_is, uncut_stands, uncut_told}
use Rattle.jcard_outcomes.proofs.LineOrder.{from_next}
use Rattle.jcard_outcomes.proofs.SweepLines.{cut_is_no_end}
use Rattle.jcard_outcomes.proofs.PartTexts.{parts_dealt}
use Rattle.jcard_outcomes.proofs.RecoveryReports.{cut_in_one_line}
use Rattle.jcard_outcomes.proofs.CutReports.{answer_of_uncut, in_line_has_none, lacks_both}

-- ---- the report of cuts

-- the line after the cuts reports no cut, and no answer
no_report : (n : ℕ) (lines : List (List ℕ)) (cuts : List Cut) (uncut : List ℕ) (f : JoinFault) → TellCuts lines cuts → 0 < n
    → drop (length cuts) lines ≡ replicate n uncut → IsNoReport cuts uncut f → IsLinesFault n lines f
no_report n lines cuts uncut NoMemory t some e h = tt
no_report n lines cuts uncut (BadLine m) t some e h =
    let stands = uncut_stands n lines (length cuts) uncut some e in
    let told = uncut_told n lines cuts uncut some t e in
    let it : get_or lines m [] ≡ uncut = ap (λ i. get_or lines i []) h.0 ∙ stands.1 in (
      omega (arith, h.0, stands.0),
      (λ c words is. cut_is_no_end c (subst IsUncutTold (sym it ∙ is) told)),
      (λ answer says. h.1 answer (subst (IsAnswerTold answer) it says)),
    )
no_report n lines cuts uncut (Missing m) t some e h = absurd h
no_report n lines cuts uncut (Twice m) t some e h = absurd h
no_report n lines cuts uncut (OtherSweep m) t some e h = absurd h

-- so a sweep is not reported
no_report_whole : (depth : Depth) (s : Sweep) (lines : List (List ℕ)) (n : ℕ) (cuts : List Cut) (uncut : List ℕ) (f : JoinFault) → 0 < n → IsTellable depth s
    → uncut ≡ told_uncut s.answer.items s.after.answers.items → IsNoReport cuts uncut f → f ≡ NoMemory
no_report_whole depth s lines n cuts uncut NoMemory some tellable e h = refl
no_report_whole depth s lines n cuts uncut (BadLine m) some tellable e h =
    absurd (h.1 s.answer.items (subst (IsAnswerTold s.answer.items) (sym e) (answer_of_uncut s.answer.items s.after.answers.items tellable.2)))
no_report_whole depth s lines n cuts uncut (Missing m) some tellable e h = absurd h
no_report_whole depth s lines n cuts uncut (Twice m) some tellable e h = absurd h
no_report_whole depth s lines n cuts uncut (OtherSweep m) some tellable e h = absurd h

pub of_report : (depth : Depth) (n : ℕ) (lines : List (List ℕ)) (cuts : List Cut) (uncut : List ℕ) (r : Result Joined JoinFault) → TellCuts lines cuts → 0 < n
    → drop (length cuts) lines ≡ replicate n uncut → MatchResult r (λ j. IsReportOf depth cuts uncut j) (λ f. IsNoReport cuts uncut f)
    → IsJoinOfCuts depth n lines cuts r
of_report depth n lines cuts uncut (Ok j) t some e h = record {
  fault = tt;
  joined = (uncut, joined_read n lines cuts uncut t e, h);
  whole = λ s tellable f same.
      let w = joined_whole depth s lines n cuts h.0 uncut tellable some f t.3 same e h.1 in
      (h.2 ∙ w.0, h.3 ∙ w.1);
}
of_report depth n lines cuts uncut (Err f) t some e h = record {
  fault = no_report n lines cuts uncut f t some e h;
  joined = tt;
  whole = λ s tellable g same. no_report_whole depth s lines n cuts uncut f some tellable (uncut_is s lines n cuts uncut some g same e) h;
}

-- the lines after the cuts are not as many as there are parts, or not the same
no_end : (n : ℕ) (lines : List (List ℕ)) (cuts : List Cut) (f : JoinFault) → TellCuts lines cuts → IsNoEnd n (length cuts) lines f → IsLinesFault n lines f
no_end n lines cuts NoMemory t h = absurd h
no_end n lines cuts (Missing m) t h = h.0
no_end n lines cuts (Twice m) t h = absurd h
no_end n lines cuts (BadLine m) t h = absurd h
no_end n lines cuts (OtherSweep m) t h =
    let within : length cuts < length lines = omega (arith, h.0, h.1) in
    let rest : t.0 ≡ get_or lines (length cuts) [] ∷ drop (length cuts + 1) lines =
    sym (behind_cuts cuts t.0) ∙ ap (drop (length cuts)) (sym t.1) ∙ from_next lines (length cuts) within in
    (length cuts, t.2 (get_or lines (length cuts) []) (drop (length cuts + 1) lines) rest, h.0, h.1, h.2)

-- a sweep has such lines
ends_whole : (n count : ℕ) (lines : List (List ℕ)) (u : List ℕ) (f : JoinFault) → 0 < n → drop count lines ≡ replicate n u → IsNoEnd n count lines f → ⊥
ends_whole n count lines u NoMemory some e h = h
ends_whole n count lines u (Missing m) some e h =
    let size : length lines - count ≡ n = sym (length-drop count lines) ∙ ap length e ∙ length-replicate n u in absurd (omega (arith, size, h.1, some))
ends_whole n count lines u (Twice m) some e h = h
ends_whole n count lines u (BadLine m) some e h = h
ends_whole n count lines u (OtherSweep m) some e h =
    let size : length lines - count ≡ n = sym (length-drop count lines) ∙ ap length e ∙ length-replicate n u in
    ⊎_elim (λ past. absurd (omega (arith, size, past, h.1)))
    (λ apart. apart (get_or-drop-there lines count m h.0 ∙ ap (λ l. get_or l (m - count) []) e ∙ get_or-replicate n (m - count) u [] (omega (arith, size, h.0, h.1))
    ∙ sym (get_or-drop-there lines count count (omega arith) ∙ ap (λ l. get_or l (count - count) []) e
    ∙ get_or-replicate n (count - count) u [] (omega (arith, some)))))
    h.2
  where
    get_or-drop-there : (lines : List (List ℕ)) (count m : ℕ) → count ≤ m → get_or lines m [] ≡ get_or (drop count lines) (m - count) []
    get_or-drop-there lines count m h = sym (get_or-drop count lines (m - count) [] ∙ ap (λ i. get_or lines i []) (omega (arith, h)))

pub of_none : (depth : Depth) (n : ℕ) (lines : List (List ℕ)) (cuts : List Cut) (f : JoinFault) → 0 < n → TellCuts lines cuts
    → IsNoEnd n (length cuts) lines f → IsJoinOfCuts depth n lines cuts (Err f)
of_none depth n lines cuts f some t none = record {
  fault = no_end n lines cuts f t none;
  joined = tt;
  whole = λ s tellable e same.
      let u = told_uncut s.answer.items s.after.answers.items in
      absurd (ends_whole n (length cuts) lines u f some (ap (drop (length cuts)) e ∙ ap (λ m. drop m (told_sweep n s.cuts.items u)) (same_lengths cuts s.cuts.items same)
      ∙ behind_cuts s.cuts.items (replicate n u)) none);
}

pub cuts_within : (lines : List (List ℕ)) (cuts : List Cut) → TellCuts lines cuts → length cuts ≤ length lines
cuts_within lines cuts t = omega (arith, ap length t.1, length-append (map told_cut cuts) t.0, length-map cuts told_cut)

-- ---- the report of lines

-- the lines of a sweep state it
swept : (depth : Depth) (s : Sweep) (n : ℕ) (lines : List (List ℕ)) → 0 < n → IsTellable depth s
    → lines ≡ told_sweep n s.cuts.items (told_uncut s.answer.items s.after.answers.items)
    → AreTold s.cuts.items (told_uncut s.answer.items s.after.answers.items) n lines
unfolding told_uncut
swept depth s n lines some tellable e =
    (some, e, (s.answer.items ++ codes ": " ++ in_line s.after.answers.items ++ codes "as after", refl), tellable.0)

pub of_cuts : (depth : Depth) (n : ℕ) (lines : List (List ℕ)) (cuts : List Cut) (r : Result Joined JoinFault) → 0 < n
    → ((cs : List Cut) (u : List ℕ) (m : ℕ) → AreTold cs u m lines → map told_cut cuts ≡ map told_cut cs) → IsJoinOfCuts depth n lines cuts r → IsJoinOf depth n lines r
of_cuts depth n lines cuts (Ok j) some same h = record {
  fault = tt;
  joined = (cuts, h.joined.0, h.joined.1, h.joined.2);
  whole = λ s tellable e. h.whole s tellable e (same s.cuts.items (told_uncut s.answer.items s.after.answers.items) n (swept depth s n lines some tellable e));
}
of_cuts depth n lines cuts (Err f) some same h = record {
  fault = h.fault;
  joined = tt;
  whole = λ s tellable e. h.whole s tellable e (same s.cuts.items (told_uncut s.answer.items s.after.answers.items) n (swept depth s n lines some tellable e));
}

no_cut_fault : (n : ℕ) (lines : List (List ℕ)) (f : JoinFault) → IsNoCut lines f → IsLinesFault n lines f
no_cut_fault n lines NoMemory h = tt
no_cut_fault n lines (BadLine m) h = h
no_cut_fault n lines (Missing m) h = absurd h
no_cut_fault n lines (Twice m) h = absurd h
no_cut_fault n lines (OtherSweep m) h = absurd h

pub of_no_cuts : (depth : Depth) (n : ℕ) (lines : List (List ℕ)) (f : JoinFault) → 0 < n → IsNoCut lines f
    → ((cs : List Cut) (u : List ℕ) (m : ℕ) → AreTold cs u m lines → f ≡ NoMemory) → IsJoinOf depth n lines (Err f)
of_no_cuts depth n lines f some fault none = record {
  fault = no_cut_fault n lines f fault;
  joined = tt;
  whole = λ s tellable e. none s.cuts.items (told_uncut s.answer.items s.after.answers.items) n (swept depth s n lines some tellable e);
}

-- ---- the report of texts

plain_cuts : (cuts : List Cut) → All IsCutOfWords cuts → All (λ t. has 10 t ≡ false) (map told_cut cuts)
plain_cuts [] w = All-nil (λ t. has 10 t ≡ false)
plain_cuts (c ∷ cuts) w = All-cons (λ t. has 10 t ≡ false) (told_cut c) (map told_cut cuts)
    (cut_in_one_line c (All-head IsCutOfWords c cuts w)) (plain_cuts cuts (All-tail IsCutOfWords c cuts w))

plain_uncut : (answer answers : List ℕ) → has 10 answer ≡ false → has 10 (told_uncut answer answers) ≡ false
unfolding told_uncut
plain_uncut answer answers h =
    lacks_both 10 (answer ++ codes ": " ++ in_line answers) (codes "as after")
    (lacks_both 10 (answer ++ codes ": ") (in_line answers) (lacks_both 10 answer (codes ": ") h refl) (in_line_has_none answers)) refl

pub parts_ordered : (depth : Depth) (s : Sweep) (texts : List (List ℕ)) → 0 < length texts → IsTellable depth s → AreBodiesInOrder s texts
    → AreOrdered texts (told_sweep (length texts) s.cuts.items (told_uncut s.answer.items s.after.answers.items))
parts_ordered depth s texts some tellable parts =
    let u = told_uncut s.answer.items s.after.answers.items in (
      parts_dealt s texts some parts,
      All-append (λ t. has 10 t ≡ false) (map told_cut s.cuts.items) (replicate (length texts) u) (plain_cuts s.cuts.items tellable.0)
          (All-replicate (λ t. has 10 t ≡ false) (length texts) u (plain_uncut s.answer.items s.after.answers.items tellable.1)),
    )

pub of_lines : (depth : Depth) (n : ℕ) (texts lines : List (List ℕ)) (r : Result Joined JoinFault) → n ≡ length texts → AreOrdered texts lines → IsJoinOf depth n lines r
    → MatchResult r (λ j. AreJoinedInOrder depth texts j) (λ f. IsUnjoined texts f)
of_lines depth n texts lines (Ok j) e o h = (
  h.joined.0,
  h.joined.1,
  subst (AreDealt texts) (h.joined.2 ∙ ap (λ m. told_sweep m h.joined.0 h.joined.1) e) o.0,
  h.joined.3,
)
of_lines depth n texts lines (Err f) e o h = inr (lines, o, subst (λ m. IsLinesFault m lines f) e h.fault)

pub of_parts : (depth : Depth) (n : ℕ) (texts lines : List (List ℕ)) (r : Result Joined JoinFault) → n ≡ length texts → 0 < length texts
    → ((all : List (List ℕ)) → AreOrdered texts all → lines ≡ all) → IsJoinOf depth n lines r → (s : Sweep) → IsTellable depth s → AreBodiesInOrder s texts
    → MatchResult r (λ j. (j.text.items ≡ report_text s) × (j.is_all_or_nothing ≡ are_whole s.cuts.items)) (λ f. f ≡ NoMemory)
of_parts depth n texts lines r e some same h s tellable parts =
    h.whole s tellable (same _ (parts_ordered depth s texts some tellable parts)
    ∙ ap (λ m. told_sweep m s.cuts.items (told_uncut s.answer.items s.after.answers.items)) (sym e))
