-- The Method component: what is read stands in the bytes, and what stands there is read.
use Rattle.std.proofs.Common.{◌≡◌, ℕ, ◌+◌, ◌*◌, ◌-◌, Bool, true, false, ltb, List, [], ◌∷◌, ◌++◌, Result, Ok, Err, refl, sym, ap, subst, ◌∙◌, append_assoc}
use Rattle.std.proofs.Common.{arith, inl, inr}
use Rattle.std.specs.Prelude.{IfOk}
use Rattle.std.proofs.lemmas.Bool.{ltb-false, ltb-true, le-ltb, lt-ltb}
use Rattle.jc_cap.specs.declared.fault.CapFault.{CapFault}
use Rattle.jc_cap.specs.Reading.{ParsesAs, u1_at, u2_at, many_at}
use Rattle.jc_cap.specs.Grammar.{IsPrefixEncoding, ReadsEncodings}
use Rattle.jc_cap.proofs.Many.{bind_ok, ok_is}
use Rattle.jc_cap.proofs.Telling.{chosen, u1_takes, u2_takes, u2_again, many_takes, many_again}
use Rattle.jc_cap.specs.declared.handlers.Handler.{Handler}
use Rattle.jc_cap.specs.Methods.{MethodParts, IsActiveLength, IsHandler, AreMethods}
use Rattle.jc_cap.specs.MethodReading.{active_at, handler_at, methods_of}
use Rattle.jc_cap.proofs.AdjacentTexts.{joined}

abbrev IsActive : Bool × ℕ → List ℕ → Type 0
IsActive a text = IsActiveLength a.0 a.1 text

active_takes : (bytes : List ℕ) (a : Bool × ℕ) (rest : List ℕ) → active_at bytes ≡ Ok (a, rest) → IsPrefixEncoding IsActive bytes a rest
unfolding active_at
active_takes bytes a rest e =
    let high = bind_ok (u1_at bytes) _ (a, rest) e in
    let low = bind_ok (u1_at high.0.1) _ (a, rest) high.2 in
    let parts : bytes ≡ high.0.0 ∷ low.0.0 ∷ low.0.1 = u1_takes bytes high.0.0 high.0.1 high.1
    ∙ ap (λ (t : List ℕ). high.0.0 ∷ t) (u1_takes high.0.1 low.0.0 low.0.1 low.1) in
    let Goal : (Bool × ℕ) × List ℕ → Type 0 = λ y. IsPrefixEncoding IsActive bytes y.0 y.1 in
    elim (chosen (ltb high.0.0 128) _ _ _ low.2) [
      | inl going ↦ subst Goal (ok_is ((false, high.0.0 * 256 + low.0.0), low.0.1) (a, rest) going.1)
          (record { text = high.0.0 ∷ low.0.0 ∷ []; is = (high.0.0, low.0.0, ltb-true _ _ going.0, refl, refl); parts = parts })
      | inr stopping ↦
          let high-is : high.0.0 ≡ 128 + (high.0.0 - 128) = omega (arith, ltb-false _ _ stopping.0) in
          subst Goal (ok_is ((true, (high.0.0 - 128) * 256 + low.0.0), low.0.1) (a, rest) stopping.1)
          (record { text = high.0.0 ∷ low.0.0 ∷ []; is = (high.0.0 - 128, low.0.0, refl, ap (λ (h : ℕ). h ∷ low.0.0 ∷ []) high-is); parts = parts })
    ]

active_again : (stop : Bool) (n : ℕ) (text rest : List ℕ) → IsActiveLength stop n text → active_at (text ++ rest) ≡ Ok ((stop, n), rest)
unfolding active_at
active_again false n text rest is = rw (is.4, is.3, lt-ltb is.0 128 is.2) refl
active_again true n text rest is =
    let high : ltb (128 + is.0) 128 ≡ false = le-ltb _ _ (omega arith) in
    let back : 128 + is.0 - 128 ≡ is.0 = omega arith in
    rw (is.3, is.2, high, back) refl

handler_takes : (bytes : List ℕ) (h : Handler) (rest : List ℕ) → handler_at bytes ≡ Ok (h, rest) → IsPrefixEncoding IsHandler bytes h rest
unfolding handler_at
handler_takes bytes h rest e =
    let start = bind_ok (u2_at bytes) _ (h, rest) e in
    let active = bind_ok (active_at start.0.1) _ (h, rest) start.2 in
    let target = bind_ok (u2_at active.0.1) _ (h, rest) active.2 in
    let caught = bind_ok (u2_at target.0.1) _ (h, rest) target.2 in
    let made : Handler × List ℕ = (
      record {
        start_offset = start.0.0;
        stop = active.0.0.0;
        active_length = active.0.0.1;
        handler_offset = target.0.0;
        catch_type_index = caught.0.0;
      },
      caught.0.1,
    ) in
    let a = u2_takes bytes start.0.0 start.0.1 start.1 in
    let b = active_takes start.0.1 active.0.0 active.0.1 active.1 in
    let c = u2_takes active.0.1 target.0.0 target.0.1 target.1 in
    let d = u2_takes target.0.1 caught.0.0 caught.0.1 caught.1 in
    let parts : bytes ≡ (a.text ++ (b.text ++ (c.text ++ d.text))) ++ caught.0.1 =
    joined bytes a.text start.0.1 (b.text ++ (c.text ++ d.text)) caught.0.1 a.parts
    (joined start.0.1 b.text active.0.1 (c.text ++ d.text) caught.0.1 b.parts (joined active.0.1 c.text target.0.1 d.text caught.0.1 c.parts d.parts)) in
    subst (λ (y : Handler × List ℕ). IsPrefixEncoding IsHandler bytes y.0 y.1) (ok_is made (h, rest) caught.2)
    (record { text = a.text ++ (b.text ++ (c.text ++ d.text)); is = (a.text, b.text, c.text, d.text, a.is, b.is, c.is, d.is, refl); parts = parts })

handler_again : (h : Handler) (text rest : List ℕ) → IsHandler h text → handler_at (text ++ rest) ≡ Ok (h, rest)
unfolding handler_at
handler_again h text rest is =
    rw (
      is.8,
      append_assoc is.0 (is.1 ++ (is.2 ++ is.3)) rest,
      append_assoc is.1 (is.2 ++ is.3) rest,
      append_assoc is.2 is.3 rest,
      u2_again h.start_offset is.0 (is.1 ++ (is.2 ++ (is.3 ++ rest))) is.4,
      active_again h.stop h.active_length is.1 (is.2 ++ (is.3 ++ rest)) is.5,
      u2_again h.handler_offset is.2 (is.3 ++ rest) is.6,
      u2_again h.catch_type_index is.3 rest is.7,
    ) refl

pub handler_tells : ReadsEncodings handler_at IsHandler
handler_tells = record { takes = handler_takes; again = handler_again }

pub methods_take : (info : List ℕ) (m : MethodParts) → methods_of info ≡ Ok m → AreMethods m info
unfolding methods_of
methods_take info m e =
    let count = bind_ok (u1_at info) _ m e in
    let handlers = bind_ok (many_at handler_at count.0.0 count.0.1) _ m count.2 in
    let t = many_takes handler_at IsHandler handler_tells count.0.0 count.0.1 handlers.0.0 handlers.0.1 handlers.1 in
    let made : MethodParts = record { handlers = handlers.0.0; code = handlers.0.1 } in
    subst (λ (y : MethodParts). AreMethods y info) (ok_is made m handlers.2) (
      t.0.text,
      t.0.is,
      u1_takes info count.0.0 count.0.1 count.1 ∙ ap (λ (s : List ℕ). count.0.0 ∷ s) t.0.parts
          ∙ ap (λ (k : ℕ). k ∷ (t.0.text ++ handlers.0.1)) (sym t.1),
    )

pub methods_again : (info : List ℕ) (m : MethodParts) → AreMethods m info → methods_of info ≡ Ok m
unfolding methods_of
methods_again info m is = rw (is.2, many_again handler_at IsHandler handler_tells m.handlers is.0 m.code is.1) refl

-- the clauses of a reader of a whole info
pub methods_found : {X : Type 0} (view : X → MethodParts) (info : List ℕ) (r : Result X CapFault) → ParsesAs view r (methods_of info)
    → IfOk r (λ x. AreMethods (view x) info)
methods_found view info (Ok x) given = methods_take info (view x) given
methods_found view info (Err f) given = tt

pub methods_only : {X : Type 0} (view : X → MethodParts) (info : List ℕ) (r : Result X CapFault) → ParsesAs view r (methods_of info) → (m : MethodParts)
    → AreMethods m info → ParsesAs view r (Ok m)
methods_only view info r given m is = subst (λ (y : Result MethodParts CapFault). ParsesAs view r y) (methods_again info m is) given
