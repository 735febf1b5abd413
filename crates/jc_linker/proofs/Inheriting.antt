-- Methods that instances of a class have from a class above it.
use Rattle.std.proofs.Common.{◌≡◌, ◌∙◌, ◌==◌, ◌||◌, ◌&&◌, ℕ, Bool, true, false, List, [], ◌∷◌, Option, Some, if◌then◌else◌, refl, ap, sym}
use Rattle.std.proofs.lemmas.Bool.{and_parts, false≢true}
use Rattle.jc_cap.specs.declared.pool.VirtualToken.TheVariants.{Public}
use Rattle.jc_linker.specs.declared.target.Method.{Method}
use Rattle.jc_linker.specs.declared.search.Search.{Search}
use Rattle.jc_linker.specs.declared.search.Search.TheVariants.{Found, Above, Nowhere}
use Rattle.jc_linker.specs.Classes.{is_among, is_below, lineage}
use Rattle.jc_linker.specs.Methods.{first_decided, found_or_above, inherits_method, is_silent, leads_to, method_below, method_in}
use Rattle.jc_linker.specs.Values.{Packages}
use Rattle.jc_linker.proofs.Extending.{among_is}

-- what one class says, where it is the other one or silent
silent_found : {A : Type 0} (found : Search A) (rest : Option A) → is_silent found ≡ true → found_or_above found rest ≡ rest
silent_found (Found a) rest e = absurd (false≢true e)
silent_found Above rest e = refl
silent_found Nowhere rest e = absurd (false≢true e)

module _ (p : Packages) (token class : ℕ) where
  step_found : (method : Method) (here : Bool) (found : Search Method) (more : Bool) (rest : Option Method) → (here || (is_silent found && more)) ≡ true
      → (more ≡ true → rest ≡ Some method) → found_or_above (if here then Found method else found) rest ≡ Some method
  step_found method true found more rest e later = refl
  step_found method false found more rest e later =
      let two = and_parts (is_silent found) more e in silent_found found rest two.0 ∙ later two.1

  leads_found : (method : Method) (cs : List ℕ) → leads_to p (Public token) class cs ≡ true
      → first_decided (λ c. if c == class then Found method else method_in p (Public token) c) cs ≡ Some method
  unfolding leads_to first_decided
  leads_found method [] e = absurd (false≢true e)
  leads_found method (c ∷ cs) e = step_found method (c == class) (method_in p (Public token) c) (leads_to p (Public token) class cs) _ e (leads_found method cs)

  step_among : (here silent more rest : Bool) → (here || (silent && more)) ≡ true → (more ≡ true → rest ≡ true) → (here || rest) ≡ true
  step_among true silent more rest e later = refl
  step_among false silent more rest e later = later (and_parts silent more e).1

  leads_among : (cs : List ℕ) → leads_to p (Public token) class cs ≡ true → is_among class cs ≡ true
  unfolding leads_to
  leads_among [] e = absurd (false≢true e)
  leads_among (c ∷ cs) e = step_among (c == class) (is_silent (method_in p (Public token) c)) (leads_to p (Public token) class cs) (is_among class cs) e
      (leads_among cs)

pub inherited_below : (p : Packages) (own class token : ℕ) → inherits_method p own class token ≡ true → is_below p own class ≡ true
unfolding is_below
inherited_below p own class token e = among_is p class (lineage p own) (leads_among p token class (lineage p own) e)

pub inherited_found : (p : Packages) (own class token : ℕ) (method : Method) → inherits_method p own class token ≡ true
    → method_below p own class (Public token) method ≡ Some method
unfolding method_below
inherited_found p own class token method e = leads_found p token class method (lineage p own) e
