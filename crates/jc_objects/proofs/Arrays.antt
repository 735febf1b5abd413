-- The arrays of the keys from an address on.
use Rattle.std.proofs.Common.{◌≡◌, ◌∙◌, ℕ, Bool, true, false, List, [], ◌∷◌, Option, Some, None, ap, refl, sym}
use Rattle.std.proofs.Common.{if◌then◌else◌, is_some}
use Rattle.std.specs.Prelude.{slice_index, unwrap_or}
use Rattle.std.specs.List.{flat_map}
use Rattle.std.proofs.lemmas.Bool.{false≢true}
use Rattle.jc_heap.specs.Object.{Item, AnObject, APackage, cells_of}
use Rattle.jc_heap.specs.declared.object.Facts.{Facts}
use Rattle.jc_platform.specs.Tokens.{Tokens}
use Rattle.jc_objects.specs.Records.{items_from, object_in}
use Rattle.jc_objects.specs.Keys.{array_of_key, is_key}

abbrev pub arrays_from : Tokens → List ℕ → ℕ → List ℕ
arrays_from t w at = flat_map (array_of_key t) (items_from w at)

of_object : (t : Tokens) (r : ℕ) (e : Item) (f : Facts) → Some f ≡ object_in e
    → array_of_key t (r, e) ≡ (if is_key t f then slice_index (cells_of e) 1 ∷ [] else [])
of_object t r (AnObject o) f is =
    ap (λ (g : Facts). if is_key t g then slice_index o.cells 1 ∷ [] else []) (sym (ap (λ (p : Option Facts). unwrap_or p f) is))
of_object t r (APackage ws) f is = absurd (false≢true (sym (ap is_some is)))

-- a key, another object, and a package
pub of_key : (t : Tokens) (r : ℕ) (e : Item) (f : Facts) → Some f ≡ object_in e → is_key t f ≡ true → slice_index (cells_of e) 1 ∷ [] ≡ array_of_key t (r, e)
of_key t r e f is key = sym (of_object t r e f is ∙ ap (λ (b : Bool). if b then slice_index (cells_of e) 1 ∷ [] else []) key)

pub of_other : (t : Tokens) (r : ℕ) (e : Item) (f : Facts) → Some f ≡ object_in e → is_key t f ≡ false → [] ≡ array_of_key t (r, e)
of_other t r e f is other = sym (of_object t r e f is ∙ ap (λ (b : Bool). if b then slice_index (cells_of e) 1 ∷ [] else []) other)

pub of_package : (t : Tokens) (r : ℕ) (e : Item) → None ≡ object_in e → [] ≡ array_of_key t (r, e)
of_package t r (AnObject o) is = absurd (false≢true (ap is_some is))
of_package t r (APackage ws) is = refl
