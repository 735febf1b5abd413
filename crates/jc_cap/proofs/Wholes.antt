-- Fields whose texts are a whole info.
use Rattle.std.proofs.Common.{◌≡◌, ℕ, List, [], length, eqb, Result, Ok, Err, refl, sym, ap, subst, ◌∙◌}
use Rattle.std.specs.Prelude.{IfOk}
use Rattle.std.proofs.lemmas.Bool.{eqb-true}
use Rattle.std.proofs.lemmas.List.{append-nil, nil_from_length}
use Rattle.jc_cap.specs.declared.fault.CapFault.{CapFault}
use Rattle.jc_cap.specs.declared.fault.CapFault.TheVariants.{Trailing}
use Rattle.jc_cap.specs.Reading.{Field, ParsesAs, value_of_whole}
use Rattle.jc_cap.specs.Grammar.{IsPrefixEncoding, ReadsEncodings}
use Rattle.jc_cap.proofs.Many.{bind_ok, ok_is}
use Rattle.jc_cap.proofs.Telling.{wanted_ok}

ends_so : {A : Type 0} (read : Field A) (y x : A) (t : List ℕ) → read ≡ Ok (y, t) → y ≡ x → t ≡ [] → read ≡ Ok (x, [])
ends_so read y x t e p q = cc

-- where a whole field is read, nothing stands after it
pub whole_reads : {A : Type 0} (read : Field A) (x : A) → value_of_whole read ≡ Ok x → read ≡ Ok (x, [])
whole_reads read x e =
    let r = bind_ok read _ x e in
    let ended = wanted_ok (eqb (length r.0.1) 0) Trailing _ x r.2 in
    let none : r.0.1 ≡ [] = nil_from_length r.0.1 (eqb-true _ _ ended.0) in
    ends_so read r.0.0 x r.0.1 r.1 (ok_is r.0.0 x ended.1) none

pub whole_text : {A : Type 0} (Is : A → List ℕ → Type 0) (info : List ℕ) (x : A) → IsPrefixEncoding Is info x [] → Is x info
whole_text Is info x t = subst (Is x) (sym (t.parts ∙ append-nil t.text)) t.is

-- what is read of the whole info stands in it
pub whole_takes : {A : Type 0} (read : List ℕ → Field A) (Is : A → List ℕ → Type 0) → ReadsEncodings read Is → (info : List ℕ) (x : A)
    → value_of_whole (read info) ≡ Ok x → Is x info
whole_takes read Is tells info x e = whole_text Is info x (tells.takes info x [] (whole_reads (read info) x e))

-- and an info that says x is read
pub whole_again : {A : Type 0} (read : List ℕ → Field A) (Is : A → List ℕ → Type 0) → ReadsEncodings read Is → (info : List ℕ) (x : A) → Is x info
    → value_of_whole (read info) ≡ Ok x
whole_again read Is tells info x is = rw (ap read (sym (append-nil info)) ∙ tells.again x info [] is) refl

-- the two for what a function returned
pub is_found : {X A : Type 0} (view : X → A) (read : List ℕ → Field A) (Is : A → List ℕ → Type 0) → ReadsEncodings read Is
    → (info : List ℕ) (r : Result X CapFault) → ParsesAs view r (value_of_whole (read info)) → IfOk r (λ x. Is (view x) info)
is_found view read Is tells info (Ok x) given = whole_takes read Is tells info (view x) given
is_found view read Is tells info (Err f) given = tt

pub is_only : {X A : Type 0} (view : X → A) (read : List ℕ → Field A) (Is : A → List ℕ → Type 0) → ReadsEncodings read Is
    → (info : List ℕ) (r : Result X CapFault) → ParsesAs view r (value_of_whole (read info)) → (x : A) → Is x info → ParsesAs view r (Ok x)
is_only view read Is tells info r given x is = subst (λ (y : Result _ CapFault). ParsesAs view r y) (whole_again read Is tells info x is) given
