-- Lists and options whose elements have a property.
use Rattle.std.proofs.Common.{◌≡◌, ℕ, zero, suc, inl, inr, ◌||◌, Bool, true, false, List, [], ◌∷◌, ◌++◌, Option, Some, None, refl, ap, ◌∙◌, if◌then◌else◌}
use Rattle.std.specs.Prelude.{filter, slice_get}
use Rattle.std.specs.List.{list_any}
use Rattle.std.specs.Option.{option_map, option_and_then}
use Rattle.std.proofs.lemmas.Bool.{false≢true, or_cases}
use Rattle.jc_linker.specs.declared.search.Search.{Search}
use Rattle.jc_linker.specs.Methods.{first_decided, found_or_above}

-- each element has it
abbrev pub AllOf : {A : Type 0} → (A → Type 0) → List A → Type 0
AllOf P [] = Unit {0}
AllOf P (x ∷ xs) = P x × AllOf P xs

-- the value that is there has it
abbrev pub IfThere : {A : Type 0} → (A → Type 0) → Option A → Type 0
IfThere P None = Unit {0}
IfThere P (Some x) = P x

pub all_more : {A : Type 0} (P Q : A → Type 0) → ((x : A) → P x → Q x) → (xs : List A) → AllOf P xs → AllOf Q xs
all_more P Q more [] all = tt
all_more P Q more (x ∷ xs) all = (more x all.0, all_more P Q more xs all.1)

pub all_behind : {A : Type 0} (P : A → Type 0) (xs : List A) (y : A) → AllOf P xs → P y → AllOf P (xs ++ y ∷ [])
all_behind P [] y all last = (last, tt)
all_behind P (x ∷ xs) y all last = (all.0, all_behind P xs y all.1 last)

pub all_at : {A : Type 0} (P : A → Type 0) (xs : List A) (i : ℕ) → AllOf P xs → IfThere P (slice_get xs i)
all_at P [] i all = tt
all_at P (x ∷ xs) zero all = all.0
all_at P (x ∷ xs) (suc i) all = all_at P xs i all.1

kept_by : {A : Type 0} (P : A → Type 0) (b : Bool) (x : A) (rest : List A) → P x → AllOf P rest → AllOf P (if b then x ∷ rest else rest)
kept_by P true x rest first all = (first, all)
kept_by P false x rest first all = all

pub all_filtered : {A : Type 0} (P : A → Type 0) (test : A → Bool) (xs : List A) → AllOf P xs → AllOf P (filter test xs)
all_filtered P test [] all = tt
all_filtered P test (x ∷ xs) all = kept_by P (test x) x (filter test xs) all.0 (all_filtered P test xs all.1)

pub any_alike : {A : Type 0} (P : A → Type 0) (f g : A → Bool) (xs : List A) → AllOf P xs → ((x : A) → P x → f x ≡ g x) → list_any f xs ≡ list_any g xs
any_alike P f g [] all alike = refl
any_alike P f g (x ∷ xs) all alike = ap (λ b. b || list_any f xs) (alike x all.0) ∙ ap (λ b. g x || b) (any_alike P f g xs all.1 alike)

-- one of the elements passes, and each that has the property and passes is so
pub any_so : {A : Type 0} (P : A → Type 0) (R : Type 0) (test : A → Bool) (xs : List A) → AllOf P xs → ((x : A) → P x → test x ≡ true → R)
    → list_any test xs ≡ true → R
any_so P R test [] all each e = absurd (false≢true e)
any_so P R test (x ∷ xs) all each e = elim (or_cases (test x) (list_any test xs) e) [
  | inl first ↦ each x all.0 first
  | inr rest ↦ any_so P R test xs all.1 each rest
]

pub searched_alike : {A : Type 0} (P : ℕ → Type 0) (f g : ℕ → Search A) (cs : List ℕ) → AllOf P cs → ((c : ℕ) → P c → f c ≡ g c)
    → first_decided f cs ≡ first_decided g cs
unfolding first_decided
searched_alike P f g [] all alike = refl
searched_alike P f g (c ∷ cs) all alike = ap (λ s. found_or_above s (first_decided f cs)) (alike c all.0)
    ∙ ap (found_or_above (g c)) (searched_alike P f g cs all.1 alike)

pub then_alike : {A B : Type 0} (P : A → Type 0) (f g : A → Option B) (o : Option A) → IfThere P o → ((x : A) → P x → f x ≡ g x)
    → option_and_then f o ≡ option_and_then g o
then_alike P f g None there alike = refl
then_alike P f g (Some x) there alike = alike x there

pub then_there : {A B : Type 0} (P : A → Type 0) (Q : B → Type 0) (f : A → Option B) (o : Option A) → IfThere P o → ((x : A) → P x → IfThere Q (f x))
    → IfThere Q (option_and_then f o)
then_there P Q f None there each = tt
then_there P Q f (Some x) there each = each x there

pub map_there : {A B : Type 0} (P : A → Type 0) (Q : B → Type 0) (f : A → B) (o : Option A) → IfThere P o → ((x : A) → P x → Q (f x))
    → IfThere Q (option_map f o)
map_there P Q f None there each = tt
map_there P Q f (Some x) there each = each x there

pub both_there : {A : Type 0} (P Q : A → Type 0) (o : Option A) → IfThere P o → IfThere Q o → IfThere (λ x. P x × Q x) o
both_there P Q None first second = tt
both_there P Q (Some x) first second = (first, second)
