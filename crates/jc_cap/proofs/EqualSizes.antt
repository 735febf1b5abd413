-- Parts of one size.
use Rattle.std.proofs.Common.{◌≡◌, ℕ, ◌≤◌, Bool, true, false, List, ◌++◌, length, drop, refl, ap, ◌∙◌, arith}
use Rattle.std.proofs.lemmas.List.{drop_at, length-append}
use Rattle.jc_cap.specs.declared.class_refs.ClassRef.{ClassRef}
use Rattle.jc_cap.specs.declared.class_refs.ClassRef.TheVariants.{Internal, External}
use Rattle.jc_cap.specs.ClassRefs.{class_ref_at}
use Rattle.jc_cap.specs.Grammar.{IsU2, IsClassRef}
use Rattle.jc_cap.proofs.Telling.{class_ref_tells}
use Rattle.jc_cap.proofs.Walk.{HasSize}
use Rattle.jc_cap.specs.declared.handlers.Handler.{Handler}
use Rattle.jc_cap.specs.MethodReading.{handler_at}
use Rattle.jc_cap.specs.Methods.{IsActiveLength, IsHandler}
use Rattle.jc_cap.proofs.MethodTelling.{handler_tells}

-- what is read has the size of its text
sized : (size : ℕ) (bytes text rest : List ℕ) → length text ≡ size → bytes ≡ text ++ rest → (size ≤ length bytes) × (drop size bytes ≡ rest)
sized size bytes text rest len e = (omega (arith, len, ap length e, length-append text rest), ap (drop size) e ∙ drop_at text rest size len)

u2_length : (n : ℕ) (text : List ℕ) → IsU2 n text → length text ≡ 2
u2_length n text is = rw is.2 refl

active_length : (stop : Bool) (n : ℕ) (text : List ℕ) → IsActiveLength stop n text → length text ≡ 2
active_length false n text is = rw is.4 refl
active_length true n text is = rw is.3 refl

handler_length : (h : Handler) (text : List ℕ) → IsHandler h text → length text ≡ 8
handler_length h text is =
    ap length is.8 ∙ omega (
      arith,
      length-append is.0 (is.1 ++ (is.2 ++ is.3)),
      length-append is.1 (is.2 ++ is.3),
      length-append is.2 is.3,
      u2_length _ is.0 is.4,
      active_length _ _ is.1 is.5,
      u2_length _ is.2 is.6,
      u2_length _ is.3 is.7,
    )

pub handler_size : HasSize handler_at 8
handler_size bytes h rest e =
    let t = handler_tells.takes bytes h rest e in
    sized 8 bytes t.text rest (handler_length h t.text t.is) t.parts

class_ref_length : (c : ClassRef) (text : List ℕ) → IsClassRef c text → length text ≡ 2
class_ref_length (Internal offset) text is = rw is.4 refl
class_ref_length (External package_token class_token) text is = rw is refl

pub class_ref_size : HasSize class_ref_at 2
class_ref_size bytes c rest e =
    let t = class_ref_tells.takes bytes c rest e in
    sized 2 bytes t.text rest (class_ref_length c t.text t.is) t.parts
