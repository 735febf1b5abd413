-- What the search for the first rule that refuses finds.
use Rattle.std.proofs.Common.{◌≡◌, ◌∙◌, sym, Bool, true, false, not, List, [], ◌∷◌, ◌++◌, cond, ap, refl, Option, None, Some}
use Rattle.std.specs.Prelude.{find}
use Rattle.jc_firewall.specs.declared.access.Access.{Access}
use Rattle.jc_firewall.specs.declared.access.Rule.{Rule}
use Rattle.jc_firewall.specs.declared.subject.Situation.{Situation}
use Rattle.jc_firewall.specs.Table.{AllAllow, allows}

-- the first of these rules that refuses
abbrev pub refusal : Access → Situation → List Rule → Option Rule
refusal a s among = find (λ r. not (allows r a s)) among

-- where all allow, none is found
pub none_refuses : (a : Access) (s : Situation) (among : List Rule) → AllAllow a s among → refusal a s among ≡ None
none_refuses a s [] all = refl
none_refuses a s (r ∷ more) all = rw all.0 (none_refuses a s more all.1)

all_allow_case : (a : Access) (s : Situation) (r : Rule) (more : List Rule) (v : Bool) → allows r a s ≡ v → cond (not v) (Some r) (refusal a s more) ≡ None
    → (refusal a s more ≡ None → AllAllow a s more) → AllAllow a s (r ∷ more)
all_allow_case a s r more true is found rest = (is, rest found)
all_allow_case a s r more false is found rest = absurd cc

-- where none is found, all allow
pub all_allow : (a : Access) (s : Situation) (among : List Rule) → refusal a s among ≡ None → AllAllow a s among
all_allow a s [] found = tt
all_allow a s (r ∷ more) found = all_allow_case a s r more (allows r a s) refl found (all_allow a s more)

-- the first that refuses is found
pub first_refuses : (a : Access) (s : Situation) (before : List Rule) (r : Rule) (after : List Rule) → allows r a s ≡ false → AllAllow a s before
    → refusal a s (before ++ r ∷ after) ≡ Some r
first_refuses a s [] r after refuses all = rw refuses refl
first_refuses a s (q ∷ before) r after refuses all = rw all.0 (first_refuses a s before r after refuses all.1)

-- of these rules it is the first that refuses
abbrev pub IsFirst : Access → Situation → List Rule → Rule → Type 0
IsFirst a s among r = (before after : List Rule) × (among ≡ before ++ r ∷ after) × (allows r a s ≡ false) × AllAllow a s before

is_first_case : (a : Access) (s : Situation) (q : Rule) (more : List Rule) (r : Rule) (v : Bool) → allows q a s ≡ v
    → cond (not v) (Some q) (refusal a s more) ≡ Some r
    → (refusal a s more ≡ Some r → IsFirst a s more r) → IsFirst a s (q ∷ more) r
is_first_case a s q more r true is found rest =
    let f : IsFirst a s more r = rest found in (q ∷ f.0, f.1, ap (λ rs. q ∷ rs) f.2, f.3, (is, f.4))
is_first_case a s q more r false is found rest =
    let same : q ≡ r = cc in ([], more, ap (λ x. x ∷ more) same, ap (λ x. allows x a s) (sym same) ∙ is, tt)

-- what is found is the first that refuses
pub is_first : (a : Access) (s : Situation) (among : List Rule) (r : Rule) → refusal a s among ≡ Some r → IsFirst a s among r
is_first a s [] r found = absurd cc
is_first a s (q ∷ more) r found = is_first_case a s q more r (allows q a s) refl found (is_first a s more r)
