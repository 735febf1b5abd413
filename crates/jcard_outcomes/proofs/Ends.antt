-- Lines that are lent, and those after the cuts.
use Rattle.std.proofs.Common.{arith, ◌≡◌, ◌∙◌, inl, inr, ℕ, zero, suc, ◌+◌, ◌-◌, ◌<◌, ◌≤◌, Bool, true, false, List, [], ◌∷◌, ◌++◌, length, get_or, take, drop, replicate, ap, sym, refl}
use Rattle.std.specs.Prelude.{map}
use Rattle.std.specs.Borrow.{Bor}
use Rattle.std.specs.Str.{bytes_eq}
use Rattle.std.proofs.lemmas.List.{get_or-drop, get_or-map, get_or-replicate, length-drop, length-map, length-replicate, map-append, take_all, take_more, replicate_more}
use Rattle.jcard_outcomes.specs.Join.{IsNoEnd}
use Rattle.jcard_outcomes.specs.declared.join_fault.JoinFault.TheVariants.{Missing, OtherSweep}
use Rattle.jcard_outcomes.proofs.Splits.{other, same}

abbrev pub lent : List (Bor (List ℕ)) → List (List ℕ)
lent lines = map (λ (t : Bor (List ℕ)). t.now) lines

abbrev pub nothing : Bor (List ℕ)
nothing = record { ref_ptr = (0, 0); now = [] }

pub lent_length : (lines : List (Bor (List ℕ))) → length (lent lines) ≡ length lines
lent_length lines = length-map lines (λ (t : Bor (List ℕ)). t.now)

-- a line that is lent
pub lent_at : (lines : List (Bor (List ℕ))) (i : ℕ) → i < length lines → get_or (lent lines) i [] ≡ (get_or lines i nothing).now
lent_at lines i h = get_or-map (λ (t : Bor (List ℕ)). t.now) lines i nothing [] h

map_drop : (n : ℕ) (lines : List (Bor (List ℕ))) → lent (drop n lines) ≡ drop n (lent lines)
map_drop zero lines = refl
map_drop (suc n) [] = refl
map_drop (suc n) (x ∷ lines) = map_drop n lines

-- those after the cuts
abbrev pub ends : ℕ → List (Bor (List ℕ)) → List (Bor (List ℕ))
ends count lines = take (length lines - count) (drop count lines)

ends_are : (count : ℕ) (lines : List (Bor (List ℕ))) → ends count lines ≡ drop count lines
ends_are count lines = take_all (length lines - count) (drop count lines) (omega (arith, length-drop count lines))

pub ends_lent : (count : ℕ) (lines : List (Bor (List ℕ))) → lent (ends count lines) ≡ drop count (lent lines)
ends_lent count lines = ap lent (ends_are count lines) ∙ map_drop count lines

-- one more is the same
pub same_next : (es : List (Bor (List ℕ))) (i : ℕ) (u : List ℕ) (r : Bool) → i < length es → take i (lent es) ≡ replicate i u
    → r ≡ bytes_eq (get_or es i nothing).now u → r ≡ true → take (i + 1) (lent es) ≡ replicate (i + 1) u
same_next es i u r h e b y =
    let within : i < length (lent es) = omega (arith, lent_length es, h) in
    let it : get_or (lent es) i [] ≡ u = lent_at es i h ∙ same (get_or es i nothing).now u r b y in
    take_more (lent es) i [] within ∙ ap (λ l. l ++ get_or (lent es) i [] ∷ []) e ∙ ap (λ x. replicate i u ++ x ∷ []) it ∙ replicate_more i u

-- all are
pub all_same : (count parts i : ℕ) (lines : List (Bor (List ℕ))) (u : List ℕ) → take i (lent (ends count lines)) ≡ replicate i u
    → length (ends count lines) ≤ i → i ≤ parts → parts ≤ length (ends count lines) → drop count (lent lines) ≡ replicate parts u
all_same count parts i lines u e h low high =
    let exact : i ≡ parts = omega (arith, h, low, high) in
    sym (ends_lent count lines) ∙ sym (take_all i (lent (ends count lines)) (omega (arith, lent_length (ends count lines), h))) ∙ e
    ∙ ap (λ k. replicate k u) exact

-- a line after the cuts
end_at : (count i : ℕ) (lines : List (Bor (List ℕ))) → i < length (ends count lines) → get_or (lent lines) (count + i) [] ≡ (get_or (ends count lines) i nothing).now
end_at count i lines h = sym (get_or-drop count (lent lines) i []) ∙ ap (λ l. get_or l i []) (sym (ends_lent count lines)) ∙ lent_at (ends count lines) i h

end_within : (count i : ℕ) (lines : List (Bor (List ℕ))) → i < length (ends count lines) → count + i < length (lent lines)
end_within count i lines h =
    omega (arith, sym (lent_length (ends count lines)) ∙ ap length (ends_lent count lines) ∙ length-drop count (lent lines), h)

-- there are more than there are parts
pub too_many : (count parts i : ℕ) (lines : List (Bor (List ℕ))) → i < length (ends count lines) → parts ≤ i → IsNoEnd parts count (lent lines) (OtherSweep (count + i))
too_many count parts i lines h past = (omega arith, end_within count i lines h, inl (omega (arith, past)))

-- or fewer
pub too_few : (count parts m : ℕ) (lines : List (Bor (List ℕ))) → m ≡ length lines → count ≤ length lines → length (ends count lines) < parts
    → IsNoEnd parts count (lent lines) (Missing m)
too_few count parts m lines e low h =
    let all : length (ends count lines) ≡ length (lent lines) - count =
    sym (lent_length (ends count lines)) ∙ ap length (ends_lent count lines) ∙ length-drop count (lent lines) in
    (omega (arith, e, lent_length lines), omega (arith, all, h, low, lent_length lines))

-- or one is another
pub another : (count parts i : ℕ) (lines : List (Bor (List ℕ))) (r : Bool) → i < length (ends count lines) → 0 < length (ends count lines)
    → r ≡ bytes_eq (get_or (ends count lines) i nothing).now (get_or (ends count lines) 0 nothing).now → r ≡ false
    → IsNoEnd parts count (lent lines) (OtherSweep (count + i))
another count parts i lines r h some b n =
    let first : get_or (lent lines) count [] ≡ (get_or (ends count lines) 0 nothing).now =
    ap (λ k. get_or (lent lines) k []) (let here : count ≡ count + 0 = omega arith in here) ∙ end_at count 0 lines some in (
      omega arith,
      end_within count i lines h,
      inr (λ e. other (get_or (ends count lines) i nothing).now (get_or (ends count lines) 0 nothing).now r b n (sym (end_at count i lines h) ∙ e ∙ first)),
    )

-- one more text is lent
pub lent_next : {A : Type 0} (f : A → List ℕ) (texts : List A) (i : ℕ) (x : A) (old new : List (List ℕ)) (t : List ℕ) → i < length texts → x ≡ get_or texts i x
    → old ≡ map f (take i texts) → new ≡ old ++ t ∷ [] → t ≡ f x → new ≡ map f (take (i + 1) texts)
lent_next f texts i x old new t h e o n s =
    n ∙ ap (λ l. l ++ t ∷ []) o ∙ ap (λ y. map f (take i texts) ++ y ∷ []) (s ∙ ap f e)
    ∙ sym (map-append f (take i texts) (get_or texts i x ∷ [])) ∙ ap (map f) (sym (take_more texts i x h))

pub lent_all : {A : Type 0} (f : A → List ℕ) (texts : List A) (i : ℕ) (r : List (List ℕ)) → length texts ≤ i → r ≡ map f (take i texts) → r ≡ map f texts
lent_all f texts i r h e = e ∙ ap (map f) (take_all i texts h)
