-- A constructor is known by its kind and its receiver.
use Rattle.std.proofs.Common.{◌≡◌, ◌==◌, ◌&&◌, ℕ, Bool, true, false, refl, subst, sym}
use Rattle.std.proofs.lemmas.Bool.{false≢true}
use Rattle.jc_platform.specs.declared.names.MethodKind.TheVariants.{Static}
use Rattle.jc_platform.specs.declared.names.PlatformMethod.{PlatformMethod}
use Rattle.jc_platform.specs.NamePlaces.{entry_of_method}
use Rattle.jc_platform.specs.Names.{MethodEntry}
use Rattle.jc_platform.specs.Numbers.{same_kind}
use Rattle.jc_platform.specs.Signatures.{is_constructor, is_constructor_name, receiver_cells}
use Rattle.jc_platform.proofs.EveryRow.{every_method}
use Rattle.jc_platform.proofs.Facts.{agree, constructors_are_told}

same : (a b : Bool) → agree a b ≡ true → a ≡ b
same true true e = refl
same true false e = absurd (false≢true e)
same false true e = absurd (false≢true e)
same false false e = refl

by_columns : (m : PlatformMethod) → (same_kind (entry_of_method m).kind Static && receiver_cells (entry_of_method m).receiver == 1) ≡ is_constructor m
unfolding is_constructor
by_columns m =
    same (same_kind (entry_of_method m).kind Static && receiver_cells (entry_of_method m).receiver == 1) (is_constructor_name (entry_of_method m).name)
    (every_method (λ e. agree (same_kind e.kind Static && receiver_cells e.receiver == 1) (is_constructor_name e.name)) constructors_are_told m)

-- the same of a row that was looked up
of_row : (m : PlatformMethod) (e : MethodEntry) → e ≡ entry_of_method m → (same_kind e.kind Static && receiver_cells e.receiver == 1) ≡ is_constructor m
of_row m e is = subst (λ x. (same_kind x.kind Static && receiver_cells x.receiver == 1) ≡ is_constructor m) (sym is) (by_columns m)

pub if_static : (m : PlatformMethod) (e : MethodEntry) → e ≡ entry_of_method m → (n : ℕ) → same_kind e.kind Static ≡ true → n ≡ receiver_cells e.receiver
    → (n == 1) ≡ is_constructor m
if_static m e is n on there =
    subst (λ x. (x == 1) ≡ is_constructor m) (sym there) (subst (λ a. (a && receiver_cells e.receiver == 1) ≡ is_constructor m) on (of_row m e is))

pub if_not_static : (m : PlatformMethod) (e : MethodEntry) → e ≡ entry_of_method m → same_kind e.kind Static ≡ false → false ≡ is_constructor m
if_not_static m e is off = subst (λ a. (a && receiver_cells e.receiver == 1) ≡ is_constructor m) off (of_row m e is)
