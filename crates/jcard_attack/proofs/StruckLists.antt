-- Lists of faults that were tried.
use Rattle.std.proofs.Common.{◌≡◌, ℕ, ◌+◌, ◌<◌, List, [], ◌∷◌, ◌++◌, length, get_or, take, subst, sym}
use Rattle.std.proofs.lemmas.List.{take_more}
use Rattle.jc_card.specs.declared.planned_fault.PlannedFault.{PlannedFault}
use Rattle.jcard_attack.specs.Sweep.{AreStruckBy, IsStruck}
use Rattle.jcard_attack.specs.declared.aftermaths.Attacked.{Attacked}
use Rattle.jcard_attack.specs.declared.outcomes.Struck.{Struck}
use Rattle.jcard_attack.specs.declared.sweep.Baseline.{Baseline}

module _ (words : List ℕ) (c : Attacked) (b : Baseline) where
  -- none yet
  pub struck_none : AreStruckBy words c b [] []
  unfolding AreStruckBy
  struck_none = tt

  -- one fault more
  struck_more : (faults : List PlannedFault) (xs : List Struck) (fault : PlannedFault) (s : Struck) → AreStruckBy words c b faults xs
      → s.fault ≡ fault → IsStruck words c b s → AreStruckBy words c b (faults ++ fault ∷ []) (xs ++ s ∷ [])
  unfolding AreStruckBy
  struck_more [] [] fault s are at is = ((at, is), tt)
  struck_more [] (x ∷ xs) fault s are at is = absurd are
  struck_more (f ∷ faults) [] fault s are at is = absurd are
  struck_more (f ∷ faults) (x ∷ xs) fault s are at is = (are.0, struck_more faults xs fault s are.1 at is)

  -- the next fault in a list
  pub struck_next : (faults : List PlannedFault) (i : ℕ) (d : PlannedFault) (xs next : List Struck) (s : Struck) → i < length faults
      → AreStruckBy words c b (take i faults) xs → s.fault ≡ get_or faults i d → IsStruck words c b s → next ≡ xs ++ s ∷ []
      → AreStruckBy words c b (take (i + 1) faults) next
  struck_next faults i d xs next s below are at is e =
      subst (λ (l : List Struck). AreStruckBy words c b (take (i + 1) faults) l) (sym e)
      (subst (λ (fs : List PlannedFault). AreStruckBy words c b fs (xs ++ s ∷ [])) (sym (take_more faults i d below))
      (struck_more (take i faults) xs (get_or faults i d) s are at is))
