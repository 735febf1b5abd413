use Rattle.std.proofs.Common.{◌≡◌, ap, ◌∙◌, Option, Some, Ok, subst, sym, refl}
use Rattle.std.specs.Prelude.{IsSome}
use Rattle.jc_cap.proofs.AreRead.{made, taken}
use Rattle.jc_cap.proofs.assembling.required_components.Goals as goal

came : {A : Type 0} (o : Option A) (x : A) → o ≡ Some x → IsSome o
came o x e = rw e refl

pub unwrap-requires : goal.unwrap-requires
unwrap-requires c = came _ _ (taken _ _ c.requires.1).header

pub unwrap-requires-2 : goal.unwrap-requires-2
unwrap-requires-2 c = came _ _ (taken _ _ c.requires.1).directory

pub unwrap-requires-3 : goal.unwrap-requires-3
unwrap-requires-3 c = came _ _ (taken _ _ c.requires.1).imports

pub unwrap-requires-4 : goal.unwrap-requires-4
unwrap-requires-4 c = came _ _ (taken _ _ c.requires.1).pool

pub unwrap-requires-5 : goal.unwrap-requires-5
unwrap-requires-5 c = came _ _ (taken _ _ c.requires.1).classes

pub unwrap-requires-6 : goal.unwrap-requires-6
unwrap-requires-6 c = came _ _ (taken _ _ c.requires.1).methods

pub unwrap-requires-7 : goal.unwrap-requires-7
unwrap-requires-7 c = came _ _ (taken _ _ c.requires.1).statics

pub returns : goal.returns
returns c = c.requires.1 ∙ ap Ok (made c.args.load _ _ (taken _ _ c.requires.1) (record {
  header = c.unwrap.ensures;
  directory = c.unwrap-2.ensures;
  applets = refl;
  imports = c.unwrap-3.ensures;
  pool = c.unwrap-4.ensures;
  classes = c.unwrap-5.ensures;
  methods = c.unwrap-6.ensures;
  statics = c.unwrap-7.ensures;
  exports = refl;
  reference_location = refl;
  descriptor = refl;
}))
