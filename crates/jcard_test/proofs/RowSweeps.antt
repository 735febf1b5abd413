-- What is reported of rows that are swept.
use Rattle.std.proofs.Common.{◌≡◌, ℕ, List, Option, Some, None, Result, Ok, Err, refl, sym, subst, inl}
use Rattle.std.specs.Prelude.{IfOk, is_some, option_map}
use Rattle.std.specs.declared.alloc.AllocError.{AllocError}
use Rattle.jcard_attack.specs.Report.{accepted_text, any_accepted, first_of}
use Rattle.jcard_attack.specs.declared.outcomes.AttackSweep.{AttackSweep}
use Rattle.jcard_attack.specs.declared.outcomes.Outcome.TheVariants.{Accepted}
use Rattle.jcard_outcomes.specs.Report.{broken_by_calls, broken_told, first_broken}
use Rattle.jcard_outcomes.specs.declared.report.Sweep.{Sweep}
use Rattle.jcard_sweeps.specs.ScriptLines.{Line}
use Rattle.jcard_sweeps.specs.Command.{nothing_more}
use Rattle.jcard_tear.specs.Sweep.{IsLineSwept}
use Rattle.jcard_test.specs.RowSweep.{IsStruckLine, IsToldOfFaults, IsToldOfLine, IsToldOfSweptLine}

-- what is reported of the cuts of a line
told_by : (budget : ℕ) (w : List ℕ) (l : Line) (sweep : Sweep) (found : Option (List ℕ)) (first : Option ℕ) → IsLineSwept w None (nothing_more budget) l sweep
    → first_broken 0 sweep.cuts.items ≡ first → found ≡ option_map (broken_told (broken_by_calls sweep.cuts.items)) first → IsToldOfLine budget w l found
told_by budget w l sweep found None swept e is = subst (IsToldOfLine budget w l) (sym is) (sweep, swept, e)
told_by budget w l sweep found (Some k) swept e is = subst (IsToldOfLine budget w l) (sym is) (inl (sweep, swept, (k, e, refl)))

pub told_all : {V : Type 0} (items : V → List ℕ) (budget : ℕ) (w : List ℕ) (l : Line) (sweep : Sweep) (r : Result (Option V) AllocError) → IsLineSwept w None (nothing_more budget) l sweep
    → IfOk r (λ found. option_map items found ≡ option_map (broken_told (broken_by_calls sweep.cuts.items)) (first_broken 0 sweep.cuts.items))
    → IfOk r (λ found. IsToldOfLine budget w l (option_map items found))
told_all items budget w l sweep (Ok found) swept is = told_by budget w l sweep (option_map items found) (first_broken 0 sweep.cuts.items) swept refl is
told_all items budget w l sweep (Err e) swept is = tt

-- what is reported of its faults, of which this is the first that was accepted, if one was
struck_by : {F : Type 0} (budget : ℕ) (w : List ℕ) (l : Line) (probe : List ℕ) (s : AttackSweep) (found : Option (List ℕ)) (first : Option F)
    (text : Option F → List ℕ) → IsStruckLine budget w l probe s → any_accepted s.strikes.items ≡ is_some first
    → text first ≡ accepted_text (first_of Accepted s.strikes.items) s.strikes.items → found ≡ option_map (λ f. text (Some f)) first
    → IsToldOfFaults budget w l probe found
struck_by budget w l probe s found None text struck any same is = subst (IsToldOfFaults budget w l probe) (sym is) (s, struck, any)
struck_by budget w l probe s found (Some f) text struck any same is = subst (IsToldOfFaults budget w l probe) (sym is) (inl (s, struck, any, same))

pub struck_all : {V : Type 0} (items : V → List ℕ) (budget : ℕ) (w : List ℕ) (l : Line) (probe : List ℕ) (s : AttackSweep) (r : Result (Option V) AllocError)
    → IsStruckLine budget w l probe s
    → IfOk r (λ found. option_map items found ≡ option_map (λ f. accepted_text (Some f) s.strikes.items) (first_of Accepted s.strikes.items))
    → IfOk r (λ found. IsToldOfFaults budget w l probe (option_map items found))
struck_all items budget w l probe s (Ok found) struck is = struck_by budget w l probe s (option_map items found) (first_of Accepted s.strikes.items)
    (λ first. accepted_text first s.strikes.items) struck refl refl is
struck_all items budget w l probe s (Err e) struck is = tt

-- the same words and the same line
pub told_on : {V : Type 0} (items : V → List ℕ) (budget : ℕ) (w x : List ℕ) (l m : Line) (probe : Option (List ℕ)) (r : Result (Option V) AllocError) → w ≡ x → l ≡ m
    → IfOk r (λ found. IsToldOfSweptLine budget w l probe (option_map items found)) → IfOk r (λ found. IsToldOfSweptLine budget x m probe (option_map items found))
told_on items budget w x l m probe r same line p = subst (λ (u : List ℕ). IfOk r (λ found. IsToldOfSweptLine budget u m probe (option_map items found))) same
    (subst (λ (k : Line). IfOk r (λ found. IsToldOfSweptLine budget w k probe (option_map items found))) line p)
