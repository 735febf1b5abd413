-- One pair of a lookup switch.
use Rattle.std.proofs.Common.{◌≡◌, ℕ, zero, suc, ◌+◌, ◌-◌, ◌<◌, List, refl, arith, Option, Some, None, true, ap, sym, w16, SFits, to_z, of_z, to_z-of_z, ◌∙◌}
use Rattle.std.specs.Prelude.{ℤ, if◌then◌else◌}
use Rattle.std.specs.Option.{option_and_then, ok_or}
use Rattle.std.specs.Ordering.{int_eq}
use Rattle.std.proofs.lemmas.Bool.Decides.{nat_tests}
use Rattle.jc_frames.specs.Operands.{s2}
use Rattle.jc_frames.specs.Cell.{result_or_none}
use Rattle.jc_frames.specs.BranchOps.{pair_offset}
use Rattle.jc_frames.specs.declared.outcome.CodeFault.{CodeFault}

pub pair_offset-more : (code : List ℕ) (otherwise : ℤ) (n at : ℕ) (key : ℤ) → 0 < n →
    pair_offset code otherwise n at key ≡ option_and_then (λ first. if int_eq first key then s2 code (at + 2) else pair_offset code otherwise (n - 1)
    (at + 4) key) (s2 code at)
pair_offset-more code otherwise zero at key h = absurd (omega arith)
pair_offset-more code otherwise (suc n) at key h =
    let e : suc n - 1 ≡ n = omega arith in rw e refl

pub ruleset more = (pair_offset-more)

equal_to_itself : (z : ℤ) → int_eq z z ≡ true
equal_to_itself z = grind (arith, nat_tests)

pub pairs_found : (code : List ℕ) (otherwise : ℤ) (n at : ℕ) (key first : ℤ) → 0 < n → Some first ≡ s2 code at → first ≡ key
    → pair_offset code otherwise n at key ≡ s2 code (at + 2)
pairs_found code otherwise n at key first h e same = rw (pair_offset-more code otherwise n at key h, ← e, same, equal_to_itself key) refl

pub result_or_none-ok_or : (fault : CodeFault) (o : Option ℤ) → result_or_none (ok_or o fault) ≡ o
result_or_none-ok_or fault None = refl
result_or_none-ok_or fault (Some z) = refl

pub same_bits : (x y : ℤ) → SFits w16 x → SFits w16 y → of_z w16 x ≡ of_z w16 y → x ≡ y
same_bits x y f g h = sym (to_z-of_z f) ∙ ap (to_z w16) h ∙ to_z-of_z g
