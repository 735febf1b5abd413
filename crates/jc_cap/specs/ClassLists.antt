-- The interfaces that a class implements.
use Rattle.std.specs.Prelude.{ℕ, List, Ok}
use Rattle.jc_cap.specs.declared.class_refs.ClassRef.{ClassRef}
use Rattle.jc_cap.specs.Reading.{◌>>=◌, Field, u1_at, run_at}
use Rattle.jc_cap.specs.ClassRefs.{class_ref_at}
use Rattle.jc_cap.specs.declared.class_lists.ImplementedInterface.{ImplementedInterface}

-- an interface that a class implements, and for each of its methods the token of the class's virtual method
pub record Implemented : Type 0 where
  pub interface : ClassRef
  pub tokens : List ℕ

-- the interface, wherever it stands, and the tokens after their number
unfoldable pub implemented_at : List ℕ → Field Implemented
implemented_at bytes = do
  interface ← class_ref_at bytes
  count ← u1_at interface.1
  tokens ← run_at count.0 count.1
  Ok (record { interface = interface.0; tokens = tokens.0 }, tokens.1)

-- ---- an implemented interface that is lent, without where it lies

abbrev pub implemented_value : ImplementedInterface → Implemented
implemented_value i = record { interface = i.interface; tokens = i.tokens.now }
