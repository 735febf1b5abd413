-- Instances of classes with a state: none of AID and none of OwnerPIN, whose second cells hold numbers.
use Rattle.std.proofs.Common.{◌≡◌, ◌∙◌, ◌<◌, ℕ, true, false, refl, arith}
use Rattle.std.proofs.lemmas.Bool.{both_ways}
use Rattle.jc_linker.specs.Classes.{is_a, reference_cell}
use Rattle.jc_linker.specs.Values.{Packages}
use Rattle.jc_platform.specs.Hierarchy.{cells_of, holds_reference, is_interface}
use Rattle.jc_platform.specs.Names.{classes}
use Rattle.jc_platform.specs.declared.names.PlatformClass.{PlatformClass}
use Rattle.jc_platform.specs.declared.names.PlatformClass.TheVariants.{Aid, OwnerPin}
use Rattle.jc_api.specs.Factory.{HasState, state_cell}
use Rattle.law_code.specs.Classes.{KnowsClasses, has_instances}

module _ (p : Packages) (known : KnowsClasses p) (class : ℕ) (of : PlatformClass) (has : HasState of) (instances : has_instances p class ≡ true)
    (is : is_a p class of ≡ true) where
  -- the cells that the platform's class has are as it says
  pub cell_is : (k : ℕ) → k < cells_of of → reference_cell p class k ≡ holds_reference of k
  cell_is k lt = known.platform.kinds class k of instances has.instances is lt

  second : reference_cell p class state_cell ≡ true
  second = cell_is state_cell (let two = has.cells in omega (arith, two)) ∙ has.state

  pub no_aid : is_a p class Aid ≡ true → ⊥
  unfolding cells_of holds_reference is_interface classes
  no_aid aid = both_ways (reference_cell p class state_cell) (known.platform.kinds class state_cell Aid instances refl aid (omega arith)) second

  pub no_pin : is_a p class OwnerPin ≡ true → ⊥
  unfolding cells_of holds_reference is_interface classes
  no_pin pin = both_ways (reference_cell p class state_cell) (known.platform.kinds class state_cell OwnerPin instances refl pin (omega arith)) second
