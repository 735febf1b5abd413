-- Dead references of all frames, and of the one array that holds their cells.
use Rattle.std.proofs.Common.{◌≡◌, ℕ, List, [], ◌∷◌, ◌++◌, length, take, drop, map, refl, sym, ◌∙◌, ap}
use Rattle.std.specs.Prelude.{reverse}
use Rattle.std.proofs.lemmas.List.{take-map, drop-map, map-append, reverse-append, length-map}
use Rattle.jc_frames.specs.declared.cell.Cell.{Cell}
use Rattle.jc_frames.specs.declared.frames.Region.{Region}
use Rattle.jc_frames.specs.declared.frames.SavedFrame.{SavedFrame}
use Rattle.jc_frames.specs.Cell.{without_dead}
use Rattle.jc_frames.specs.Frames.{Frame, Caller, Frames, frame_of_region, frame_in, caller_of, callers_in, frames_of}
use Rattle.jc_frames.specs.Calls.{frame_without_dead, caller_without_dead, frames_without_dead}

reverse-map : (f : Cell → Cell) (xs : List Cell) → reverse (map f xs) ≡ map f (reverse xs)
reverse-map f [] = refl
reverse-map f (x ∷ xs) =
    reverse-append (f x ∷ []) (map f xs) ∙ ap (λ l. l ++ (f x ∷ [])) (reverse-map f xs)
    ∙ sym (map-append f (reverse xs) (x ∷ [])) ∙ ap (map f) (sym (reverse-append (x ∷ []) xs))

frame_is : (top : ℕ) (xs : List Cell) (r : Region) → frame_in (map (without_dead top) xs) r ≡ frame_without_dead top (frame_in xs r)
frame_is top xs r =
    let f = without_dead top in
    ap (λ l. frame_of_region l (reverse (drop r.bottom (map f xs))) r) (ap (drop r.base) (take-map f r.bottom xs) ∙ drop-map f r.base (take r.bottom xs))
    ∙ ap (λ l. frame_of_region (map f (drop r.base (take r.bottom xs))) l r) (ap reverse (drop-map f r.bottom xs) ∙ reverse-map f (drop r.bottom xs))

callers_are : (top : ℕ) (sv : List SavedFrame) (xs : List Cell) → callers_in (map (without_dead top) xs) sv ≡ map (caller_without_dead top) (callers_in xs sv)
callers_are top [] xs = refl
callers_are top (s ∷ rest) xs =
    ap (λ f. caller_of f s.resume ∷ callers_in (take s.region.base (map (without_dead top) xs)) rest) (frame_is top xs s.region)
    ∙ ap (λ cs. caller_of (frame_without_dead top (frame_in xs s.region)) s.resume ∷ cs)
    (ap (λ l. callers_in l rest) (take-map (without_dead top) s.region.base xs) ∙ callers_are top rest (take s.region.base xs))

-- frames of their parts
abbrev frames_with : Frame → List Caller → Frames
frames_with current callers = record { current = current; callers = callers }

two : {A B C : Type 0} (f : A → B → C) (a x : A) (b y : B) → a ≡ x → b ≡ y → f a b ≡ f x y
two f a x b y e g = rw (e, g) refl

frames_are : (top : ℕ) (xs : List Cell) (r : Region) (sv : List SavedFrame) → frames_of (map (without_dead top) xs) r sv
    ≡ frames_without_dead top (frames_of xs r sv)
frames_are top xs r sv =
    let f = without_dead top in
    two (λ current callers. frames_with current callers) (frame_in (map f xs) r) (frame_without_dead top (frame_in xs r))
    (callers_in (take r.base (map f xs)) sv) (map (caller_without_dead top) (callers_in (take r.base xs) sv))
    (frame_is top xs r) (ap (λ l. callers_in l sv) (take-map f r.base xs) ∙ callers_are top sv (take r.base xs))

pub bury_through : (top : ℕ) (xs ys : List Cell) (r : Region) (sv : List SavedFrame) (s : Frames) → ys ≡ map (without_dead top) xs → frames_of xs r sv ≡ s →
    frames_of ys r sv ≡ frames_without_dead top s
bury_through top xs ys r sv s e is = rw (e, ← is) (frames_are top xs r sv)
