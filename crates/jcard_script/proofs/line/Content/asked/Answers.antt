use Rattle.std.proofs.Common.{◌∙◌, ap, inl, inr, sym}
use Rattle.jcard_script.specs.Script.{plain_form_of}
use Rattle.jcard_script.proofs.Decoding.{bad_digits, good_digits, some_digits}
use Rattle.jcard_script.proofs.line.Content.asked.Goals as goal

pub returns-in-Nonsense : goal.returns-in-Nonsense
returns-in-Nonsense c = λ line h. let k = rw c.in-Nonsense.is at h in bad_digits line k.0 k.1

pub returns-in-Some : goal.returns-in-Some
returns-in-Some c = λ line h.
    let k = rw c.in-Digits.is at h in
    good_digits line c.as_slice.result.now c.in-Some.command.now k.0 k.1.0 (sym k.1.2 ∙ c.if-self.false) (c.as_slice.ensures.value ∙ k.1.1) c.in-Some.ensures

pub returns-in-None : goal.returns-in-None
returns-in-None c = λ line h.
    let k = rw c.in-Digits.is at h in
    let some = some_digits line c.as_slice.result.now k.1.0 (sym k.1.2 ∙ c.if-self.false) (c.as_slice.ensures.value ∙ k.1.1) in
    let refused = rw some.1 at c.in-None.ensures in
    cc refused

pub returns-in-Empty : goal.returns-in-Empty
returns-in-Empty c = λ line h.
    elim c.in-Empty.is [
      | inl e ↦ let k = rw e at h in ap plain_form_of k.0
      | inr e ↦ let k = rw e at h in ap plain_form_of k.1
    ]
