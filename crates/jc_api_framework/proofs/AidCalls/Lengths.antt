-- Lists of other lengths are not one, and a longer one is no beginning.
use Rattle.std.proofs.Common.{◌≡◌, ◌<◌, ℕ, suc, Bool, true, false, List, [], ◌∷◌, length, take, nat_eq, refl, sym, ◌∙◌, ap, arith}
use Rattle.std.specs.Prelude.{◌&&◌, nat_le}
use Rattle.std.proofs.lemmas.Bool.{leb-true}
use Rattle.std.specs.Str.{bytes_eq}
use Rattle.std.proofs.Math.Bool.{and-false}
use Rattle.jc_api_framework.specs.Aid.{agrees_with_bytes}
use Rattle.jc_api_framework.specs.declared.aid.Extent.{Extent}
use Rattle.jc_api_framework.specs.declared.aid.Extent.TheVariants.{Beginning, Whole}

other_length : (xs ys : List ℕ) → (length xs ≡ length ys → ⊥) → false ≡ bytes_eq xs ys
other_length [] [] other = absurd (other refl)
other_length [] (y ∷ ys) other = refl
other_length (x ∷ xs) [] other = refl
other_length (x ∷ xs) (y ∷ ys) other = sym (and-false (nat_eq x y)) ∙ ap (λ b. nat_eq x y && b) (other_length xs ys (λ e. other (ap suc e)))

no_beginning : (n m : ℕ) (rest : Bool) → m < n → false ≡ (nat_le n m && rest)
no_beginning n m rest more = by_order (nat_le n m) refl
  where
    by_order : (b : Bool) → nat_le n m ≡ b → false ≡ (b && rest)
    by_order true e = let le = leb-true n m e in absurd (omega (arith, le, more))
    by_order false e = refl

-- an AID is no longer one, and begins with none
pub longer_disagree : (extent : Extent) (aid bytes : List ℕ) → length aid < length bytes → false ≡ agrees_with_bytes extent aid bytes
longer_disagree Whole aid bytes more = other_length bytes aid (λ same. absurd (omega (arith, more, same)))
longer_disagree Beginning aid bytes more = no_beginning (length bytes) (length aid) (bytes_eq (take (length bytes) aid) bytes) more
