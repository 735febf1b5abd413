-- Instructions on fields, arrays and objects spare what is outside reach.
use Rattle.std.proofs.Common.{◌≡◌, ℕ, ◌<◌, inl, refl, subst}
use Rattle.jc_heap.specs.declared.object.Kind.TheVariants.{Instance, ReferenceArray}
use Rattle.jc_heap.specs.Heap.{facts}
use Rattle.jc_memory.specs.State.{MemoryState}
use Rattle.jc_linker.specs.Values.{Packages}
use Rattle.jc_firewall.specs.FirewallLaws.{IsInReach}
use Rattle.jc_world.specs.Contexts.{situation_of}
use Rattle.jc_instructions.specs.ArrayCreation.{kind_of}
use Rattle.law_code.specs.IsolationLaws.Groups.{ArraysSpare, FieldsSpare, ObjectsSpare}
use Rattle.law_code.specs.Reach.{IsOutside}
use Rattle.law_code.specs.IsolationLaws.SparingEffects.{LeavesObject}
use Rattle.law_code.proofs.Instructions.{arrays_due, checked_due, examined_due, fields_due, made_due}
use Rattle.law_code.proofs.EffectConditions.{ArraysPass, FieldsPass, InstancesPass, new_for}
use Rattle.law_code.proofs.ObjectsInReach.{not_outside}
use Rattle.law_code.proofs.OtherObjects.{new_makes, set_spares}

module _ (p : Packages) (m : MemoryState) (q : ℕ) (out : IsOutside p m q) where
  other : (r : ℕ) → IsInReach (situation_of p m (facts m.heap.now r)) → r ≡ q → ⊥
  other r reach = not_outside p m q r (facts m.heap.now r) out refl reach

  pub fields_pass : FieldsPass (LeavesObject q) p m
  fields_pass = record {
    field = λ of_type number index r i field cells v k taken kept named cell. set_spares q m r i k (other r cell.reach) cell.within;
    word = λ of_type number index field cells v k w x taken kept named there whole. tt;
    halves = λ of_type number index field w behind x y named there odd next. inl (tt, (tt, tt));
  }

  pub arrays_pass : ArraysPass (LeavesObject q) p m
  arrays_pass = record {
    element = λ of_type r f e cells v k w taken kept array inside fits. set_spares q m r e.index w (other r array.reach)
        (subst (λ g. e.index < g.length) array.is inside);
    numbers = λ of_type n. new_makes q m (new_for m (kind_of of_type) 0 n);
    references = λ number index class n named. new_makes q m (new_for m ReferenceArray class n);
  }

  pub instances_pass : InstancesPass (LeavesObject q) p m
  instances_pass number index class n made few = new_makes q m (new_for m Instance class n)

pub fields_spare : FieldsSpare
fields_spare field p s m q out = fields_due (LeavesObject q) p m (fields_pass p m q out) field s

pub arrays_spare : ArraysSpare
arrays_spare operation p s m q out = arrays_due (LeavesObject q) p m (arrays_pass p m q out) operation s

pub objects_spare : ObjectsSpare
objects_spare = record {
  made = λ index p s m q out. made_due (LeavesObject q) p m (instances_pass p m q out) index s;
  checked = λ type p s m q. checked_due (LeavesObject q) p m type s;
  examined = λ type p s m q. examined_due (LeavesObject q) p m type s;
}
