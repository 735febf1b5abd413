-- The same of the envelope.
use Rattle.std.proofs.Common.{◌≡◌, ℕ, ltb, eqb, List, [], ◌∷◌, length, Ok, refl, ap, subst, ◌∙◌, arith}
use Rattle.std.proofs.lemmas.Bool.{ltb-false, le-ltb, eqb-true, eq-eqb}
use Rattle.jc_cap.specs.declared.fault.CapFault.TheVariants.{Truncated, Trailing, Missing}
use Rattle.jc_cap.specs.Reading.{u2_at}
use Rattle.jc_cap.specs.Grammar.{IsU2}
use Rattle.jc_cap.proofs.Many.{bind_ok, ok_is}
use Rattle.jc_cap.proofs.Telling.{guard_ok, wanted_ok, u2_tells}
use Rattle.jc_cap.specs.Envelope.{info_at, IsEnvelope}

pub info_takes : (tag : ℕ) (bytes info : List ℕ) → info_at tag bytes ≡ Ok info → IsEnvelope tag info bytes
unfolding info_at
info_takes tag [] info e = absurd cc
info_takes tag (t ∷ bytes) info e =
    let same = wanted_ok (eqb t tag) (Missing tag) _ _ e in
    let size = bind_ok (u2_at bytes) _ info same.1 in
    let long = guard_ok (ltb (length size.0.1) size.0.0) Truncated _ _ size.2 in
    let short = guard_ok (ltb size.0.0 (length size.0.1)) Trailing _ _ long.1 in
    let w = u2_tells.takes bytes size.0.0 size.0.1 size.1 in
    let count : size.0.0 ≡ length size.0.1 = omega (arith, ltb-false _ _ long.0, ltb-false _ _ short.0) in
    let info-is : size.0.1 ≡ info = ok_is size.0.1 info short.1 in
    subst (λ (i : List ℕ). IsEnvelope tag i (t ∷ bytes)) info-is
    (w.text, subst (λ (k : ℕ). IsU2 k w.text) count w.is, ap (λ (k : ℕ). k ∷ bytes) (eqb-true _ _ same.0) ∙ ap (λ (s : List ℕ). tag ∷ s) w.parts)

pub info_again : (tag : ℕ) (info text : List ℕ) → IsEnvelope tag info text → info_at tag text ≡ Ok info
unfolding info_at
info_again tag info text is = rw (is.2, eq-eqb tag tag refl, u2_tells.again (length info) is.0 info is.1, le-ltb (length info) (length info) (omega arith)) refl
