-- What may be there.
use Rattle.std.proofs.Common.{◌≡◌, Bool, true, false, Option, Some, None, refl, ap, subst}
use Rattle.std.specs.Prelude.{if◌then◌else◌}
use Rattle.std.specs.Option.{option_and_then, option_map}
use Rattle.std.proofs.lemmas.Option.{same_Some}

-- what is there has this
abbrev pub IfThere : {A : Type 0} → (A → Type 0) → Option A → Type 0
IfThere P None = Unit {0}
IfThere P (Some x) = P x

pub there_so : {A : Type 0} (P : A → Type 0) (o : Option A) (x : A) → o ≡ Some x → IfThere P o → P x
there_so P None x e has = absurd (let g : None ≡ Some x = e in cc)
there_so P (Some y) x e has = let same : y ≡ x = same_Some y x e in subst P same has

pub then_there : {A B : Type 0} (P : B → Type 0) (f : A → Option B) (o : Option A) → ((x : A) → o ≡ Some x → IfThere P (f x)) → IfThere P (option_and_then f o)
then_there P f None each = tt
then_there P f (Some x) each = each x refl

pub where_there : {A : Type 0} (P : A → Type 0) (b : Bool) (x : A) → (b ≡ true → P x) → IfThere P (if b then Some x else None)
where_there P true x is = is refl
where_there P false x is = tt

pub either_there : {A : Type 0} (P : A → Type 0) (b : Bool) (x y : Option A) → IfThere P x → IfThere P y → IfThere P (if b then x else y)
either_there P true x y first second = first
either_there P false x y first second = second

-- what a step gives is there where the step's own is
pub then_some : {A B : Type 0} (f : A → Option B) (o : Option A) (r : B) → option_and_then f o ≡ Some r → (x : A) × (o ≡ Some x) × (f x ≡ Some r)
then_some f None r e = absurd (let g : None ≡ Some r = e in cc)
then_some f (Some x) r e = (x, refl, e)

pub map_some : {A B : Type 0} (f : A → B) (o : Option A) (r : B) → option_map f o ≡ Some r → (x : A) × (o ≡ Some x) × (f x ≡ r)
map_some f None r e = absurd (let g : None ≡ Some r = e in cc)
map_some f (Some x) r e = (x, refl, same_Some (f x) r e)

pub if_some : {A : Type 0} (b : Bool) (x y : A) → (if b then Some x else None) ≡ Some y → (b ≡ true) × (x ≡ y)
if_some true x y e = (refl, same_Some x y e)
if_some false x y e = absurd (let g : None ≡ Some y = e in cc)

pub then_is : {A B : Type 0} (f : A → Option B) (o : Option A) (x : A) → o ≡ Some x → option_and_then f o ≡ f x
then_is f o x e = ap (option_and_then f) e

pub if_is : {A : Type 0} (b : Bool) (x : A) → b ≡ true → (if b then Some x else None) ≡ Some x
if_is true x e = refl
if_is false x e = absurd (let g : false ≡ true = e in cc)
