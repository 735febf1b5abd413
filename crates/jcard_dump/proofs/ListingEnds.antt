-- How lines were reported that were all written.
use Rattle.std.proofs.Common.{◌≡◌, Bool, true, false, Result, Ok, Err, inl, inr, refl, sym, subst, ap, ◌∙◌}
use Rattle.std.proofs.lemmas.Bool.{cases_Bool}
use Rattle.jcard_files.specs.Fault.{is_unwritten}
use Rattle.jcard_files.specs.declared.fault.Fault.{Fault}
use Rattle.jcard_files.specs.declared.fault.Fault.TheVariants.{BadImage}
use Rattle.jcard_files.specs.declared.fault.Damage.TheVariants.{Package}
use Rattle.jcard_dump.specs.InventoryLines.{Lines}
use Rattle.jcard_dump.specs.Dump.{AreLinesTold, end_of}

pub told_whole : (l : Lines) (r : Result Unit Fault) → r ≡ end_of l.readable → AreLinesTold l r l.text
told_whole l r e = elim (cases_Bool l.readable) [
  | inl holds ↦
      let done : r ≡ Ok tt = e ∙ ap end_of holds in
      subst (λ (s : Result Unit Fault). AreLinesTold l s l.text) (sym done) (holds, refl)
  | inr fails ↦
      let damaged : r ≡ Err (BadImage Package) = e ∙ ap end_of fails in
      subst (λ (s : Result Unit Fault). AreLinesTold l s l.text) (sym damaged) (fails, refl, refl)
]

whole_end_unwritten : (readable : Bool) → is_unwritten (end_of readable) ≡ false
whole_end_unwritten true = refl
whole_end_unwritten false = refl

-- no write of them failed
pub whole_unwritten : (readable : Bool) (r : Result Unit Fault) → r ≡ end_of readable → is_unwritten r ≡ false
whole_unwritten readable r e = ap is_unwritten e ∙ whole_end_unwritten readable
