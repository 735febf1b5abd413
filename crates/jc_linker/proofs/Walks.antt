-- One step of a walk over a list by its places.
use Rattle.std.proofs.Common.{◌≡◌, ◌<◌, ◌≤◌, ◌+◌, ℕ, zero, suc, List, [], ◌∷◌, ◌++◌, Some, length, map, take, drop, refl, ap, ◌∙◌}
use Rattle.std.proofs.Common.{add-one, drop-cons}
use Rattle.std.specs.Prelude.{slice_get}
use Rattle.std.proofs.lemmas.List.{map-append, take_more}
use Rattle.std.proofs.lemmas.Option.{get_or_from_slice_get, slice_get_within}
use Rattle.jc_cap.specs.declared.class_records.ClassRecord.{ClassRecord}
use Rattle.jc_cap.specs.ClassValues.{RecordAt, contents_of, offsets_of}

-- one more is taken
pub taken_next : {A : Type 0} (xs : List A) (i : ℕ) (x : A) → slice_get xs i ≡ Some x → take (i + 1) xs ≡ take i xs ++ x ∷ []
taken_next xs i x h = take_more xs i x (slice_get_within xs i x h) ∙ ap (λ y. take i xs ++ y ∷ []) (get_or_from_slice_get xs i x x h)

pub taken_map : {A B : Type 0} (f : A → B) (xs : List A) (i : ℕ) (x : A) → slice_get xs i ≡ Some x → map f (take (i + 1) xs) ≡ map f (take i xs) ++ f x ∷ []
taken_map f xs i x h = ap (map f) (taken_next xs i x h) ∙ map-append f (take i xs) (x ∷ [])

-- what is left begins with the one at the place
pub dropped_next : {A : Type 0} (xs : List A) (i : ℕ) (x : A) → slice_get xs i ≡ Some x → drop i xs ≡ x ∷ drop (i + 1) xs
dropped_next xs i x h = rw add-one (drop-cons xs i x (slice_get_within xs i x h) ∙ ap (λ y. y ∷ drop (suc i) xs) (get_or_from_slice_get xs i x x h))

pub offsets-length : (rs : List RecordAt) → length (offsets_of rs) ≡ length rs
offsets-length [] = refl
offsets-length (r ∷ rs) = ap suc (offsets-length rs)

-- a record from its offset and its contents
pub placed_at : (rs : List RecordAt) (i : ℕ) (offset : ℕ) (contents : ClassRecord) → slice_get (offsets_of rs) i ≡ Some offset
    → slice_get (contents_of rs) i ≡ Some contents → slice_get rs i ≡ Some (record { offset = offset; contents = contents })
placed_at [] i offset contents h g = absurd cc
placed_at (r ∷ rs) zero offset contents h g = ap Some (let a : r.offset ≡ offset = cc in let b : r.contents ≡ contents = cc in λ i.
    record { offset = a i; contents = b i })
placed_at (r ∷ rs) (suc i) offset contents h g = placed_at rs i offset contents h g
