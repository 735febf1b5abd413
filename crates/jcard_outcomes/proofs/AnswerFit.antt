-- Steps of the comparison of an answer with one that is wanted.
use Rattle.std.proofs.Common.{◌≡◌, ◌∙◌, ◌↔◌, ◌⊎◌, ◌==◌, if◌then◌else◌, inl, inr, ℕ, Bool, true, false, List, [], ◌∷◌, ◌++◌, length, refl, sym, ap, subst, arith}
use Rattle.std.proofs.lemmas.Bool.{eq-eqb, eqb-true, false≢true, ne_eqb}
use Rattle.std.proofs.lemmas.List.Elements.{All-cons, All-head, All-nil, All-tail}
use Rattle.std.specs.List.{All}
use Rattle.jcard_outcomes.specs.Answers.{Fits, IsDigit, unspaced}

-- no text
empty : (text : List ℕ) → length text ≡ 0 → text ≡ []
empty [] e = refl
empty (x ∷ xs) e = absurd (omega arith)

-- a text that begins with no space keeps its first byte
kept : (text : List ℕ) (first : ℕ) (more : List ℕ) → text ≡ first ∷ more → ((rest : List ℕ) → text ≡ 32 ∷ rest → ⊥)
    → unspaced text ≡ first ∷ unspaced more
unfolding unspaced
kept text first more e plain = ap unspaced e
    ∙ ap (λ b. if b then unspaced more else first ∷ unspaced more) (ne_eqb first 32 (λ s. plain more (e ∙ ap (λ x. x ∷ more) s)))

pub first_kept : (given text : List ℕ) (first : ℕ) (more : List ℕ) → unspaced text ≡ unspaced given → ((rest : List ℕ) → text ≡ 32 ∷ rest → ⊥)
    → text ≡ first ∷ more → unspaced given ≡ first ∷ unspaced more
first_kept given text first more same plain e = sym same ∙ kept text first more e plain

-- a space is dropped
pub space_dropped : (text : List ℕ) (first : ℕ) (more : List ℕ) → text ≡ first ∷ more → first ≡ 32 → unspaced more ≡ unspaced text
unfolding unspaced
space_dropped text first more e space = sym (ap unspaced e
    ∙ ap (λ b. if b then unspaced more else first ∷ unspaced more) (eq-eqb first 32 space))

-- no byte is left
pub none_kept : (given text : List ℕ) → unspaced text ≡ unspaced given → length text ≡ 0 → length (unspaced given) ≡ 0
unfolding unspaced
none_kept given text same e = sym (ap length same) ∙ ap (λ t. length (unspaced t)) (empty text e)

pub whether_kept : (given text : List ℕ) (b : Bool) → unspaced text ≡ unspaced given → ((rest : List ℕ) → text ≡ 32 ∷ rest → ⊥)
    → b ≡ (length text == 0) → b ≡ (length (unspaced given) == 0)
unfolding unspaced
whether_kept given [] b same plain e = e ∙ ap (λ u. length u == 0) same
whether_kept given (x ∷ xs) b same plain e =
    let long : (length (x ∷ xs) == 0) ≡ false = ne_eqb (length (x ∷ xs)) 0 (λ z. omega (arith, z)) in
    let kept_long : (length (x ∷ unspaced xs) == 0) ≡ false = ne_eqb (length (x ∷ unspaced xs)) 0 (λ z. omega (arith, z)) in
    e ∙ long ∙ sym kept_long ∙ ap (λ u. length u == 0) (sym (kept (x ∷ xs) x xs refl plain) ∙ same)

-- nothing is wanted
pub fit_none : (wanted told : List ℕ) (b : Bool) → length wanted ≡ 0 → b ≡ (length told == 0) → (b ≡ true) ↔ Fits wanted told
unfolding Fits
fit_none [] told b n e = (
  (λ y. empty told (eqb-true (length told) 0 (sym e ∙ y))),
  (λ h. e ∙ eq-eqb (length told) 0 (ap length h)),
)
fit_none (w ∷ ws) told b n e = absurd (omega arith)

-- a byte is wanted, and printed
plain_fits : (first byte : ℕ) (more rest : List ℕ) → (first ≡ 42 → ⊥) → byte ≡ first → Fits more rest → Fits (first ∷ more) (byte ∷ rest)
unfolding Fits
plain_fits first byte more rest plain e h = inr (rest, plain, ap (λ x. x ∷ rest) e, h)

fits_plain : (first byte : ℕ) (more rest : List ℕ) → (first ≡ 42 → ⊥) → Fits (first ∷ more) (byte ∷ rest) → (byte ≡ first) × Fits more rest
unfolding Fits
fits_plain first byte more rest plain (inl h) = absurd (plain h.2)
fits_plain first byte more rest plain (inr h) =
    let whole : byte ∷ rest ≡ first ∷ h.0 = h.2 in
    let tail : h.0 ≡ rest = cc in
    let head : byte ≡ first = cc in
    (head, subst (λ t. Fits more t) tail h.3)

pub fit_byte : (wanted told : List ℕ) (first byte : ℕ) (more rest : List ℕ) (b : Bool) → wanted ≡ first ∷ more → told ≡ byte ∷ rest
    → (first ≡ 42 → ⊥) → byte ≡ first → ((b ≡ true) ↔ Fits more rest) → (b ≡ true) ↔ Fits wanted told
fit_byte wanted told first byte more rest b w t plain e h = rw (w, t) (
  (λ y. plain_fits first byte more rest plain e (h.0 y)),
  (λ f. h.1 (fits_plain first byte more rest plain f).1),
)

-- another is printed
pub fit_other : (wanted told : List ℕ) (first byte : ℕ) (more rest : List ℕ) (b : Bool) → wanted ≡ first ∷ more → told ≡ byte ∷ rest
    → (first ≡ 42 → ⊥) → (byte ≡ first → ⊥) → b ≡ false → (b ≡ true) ↔ Fits wanted told
fit_other wanted told first byte more rest b w t plain other never = rw (w, t) (
  (λ y. absurd (false≢true (sym never ∙ y))),
  (λ f. absurd (other (fits_plain first byte more rest plain f).0)),
)

fits_short : (first : ℕ) (more : List ℕ) → (first ≡ 42 → ⊥) → Fits (first ∷ more) [] → ⊥
unfolding Fits
fits_short first more plain (inl h) = plain h.2
fits_short first more plain (inr h) = let e : [] ≡ first ∷ h.0 = h.2 in cc

-- none is printed
pub fit_short : (wanted told : List ℕ) (first : ℕ) (more : List ℕ) (b : Bool) → wanted ≡ first ∷ more → length told ≡ 0
    → (first ≡ 42 → ⊥) → b ≡ false → (b ≡ true) ↔ Fits wanted told
fit_short wanted told first more b w t plain never = rw (w, empty told t) (
  (λ y. absurd (false≢true (sym never ∙ y))),
  (λ f. absurd (fits_short first more plain f)),
)

-- any digits are wanted: none
any_none : (first : ℕ) (more told : List ℕ) → first ≡ 42 → Fits more told → Fits (first ∷ more) told
unfolding Fits
any_none first more told star h = inl ([], told, star, refl, All-nil IsDigit, h)

pub fit_any_none : (wanted told : List ℕ) (first : ℕ) (more : List ℕ) (b : Bool) → wanted ≡ first ∷ more → first ≡ 42 → Fits more told
    → b ≡ true → (b ≡ true) ↔ Fits wanted told
fit_any_none wanted told first more b w star h y = rw w ((λ _. any_none first more told star h), (λ _. y))

-- or one, and then any
any_one : (first byte : ℕ) (more rest : List ℕ) → first ≡ 42 → IsDigit byte → Fits (first ∷ more) rest → Fits (first ∷ more) (byte ∷ rest)
unfolding Fits
any_one first byte more rest star digit (inl h) = inl (byte ∷ h.0, h.1, star, ap (λ t. byte ∷ t) h.3, All-cons IsDigit byte h.0 digit h.4, h.5)
any_one first byte more rest star digit (inr h) = absurd (h.1 star)

fits_any_from : (first byte : ℕ) (more rest digits after : List ℕ) → first ≡ 42 → byte ∷ rest ≡ digits ++ after → All IsDigit digits → Fits more after
    → Fits more (byte ∷ rest) ⊎ (IsDigit byte × Fits (first ∷ more) rest)
unfolding Fits
fits_any_from first byte more rest [] after star e a f = inl (subst (λ t. Fits more t) (sym e) f)
fits_any_from first byte more rest (d ∷ digits) after star e a f =
    let head : d ≡ byte = cc in
    let tail : rest ≡ digits ++ after = cc in
    inr (subst (λ x. IsDigit x) head (All-head IsDigit d digits a), inl (digits, after, star, tail, All-tail IsDigit d digits a, f))

fits_any : (first byte : ℕ) (more rest : List ℕ) → first ≡ 42 → Fits (first ∷ more) (byte ∷ rest)
    → Fits more (byte ∷ rest) ⊎ (IsDigit byte × Fits (first ∷ more) rest)
unfolding Fits
fits_any first byte more rest star (inl h) = fits_any_from first byte more rest h.0 h.1 star h.3 h.4 h.5
fits_any first byte more rest star (inr h) = absurd (h.1 star)

pub fit_any_one : (wanted told : List ℕ) (first byte : ℕ) (more rest : List ℕ) (b : Bool) → wanted ≡ first ∷ more → told ≡ byte ∷ rest
    → first ≡ 42 → (Fits more told → ⊥) → IsDigit byte → ((b ≡ true) ↔ Fits wanted rest) → (b ≡ true) ↔ Fits wanted told
fit_any_one wanted told first byte more rest b w t star never digit h = (
  (λ y. rw (w, t) (any_one first byte more rest star digit (subst (λ x. Fits x rest) w (h.0 y)))),
  (λ f. elim (fits_any first byte more rest star (rw (w, t) at f)) [
    | inl n ↦ absurd (never (subst (λ x. Fits more x) (sym t) n))
    | inr o ↦ h.1 (subst (λ x. Fits x rest) (sym w) o.1)
  ]),
)

-- but no other byte
pub fit_any_other : (wanted told : List ℕ) (first byte : ℕ) (more rest : List ℕ) (b : Bool) → wanted ≡ first ∷ more → told ≡ byte ∷ rest
    → first ≡ 42 → (Fits more told → ⊥) → (IsDigit byte → ⊥) → b ≡ false → (b ≡ true) ↔ Fits wanted told
fit_any_other wanted told first byte more rest b w t star never other n = (
  (λ y. absurd (false≢true (sym n ∙ y))),
  (λ f. elim (fits_any first byte more rest star (rw (w, t) at f)) [
    | inl m ↦ absurd (never (subst (λ x. Fits more x) (sym t) m))
    | inr o ↦ absurd (other o.0)
  ]),
)

fits_any_end : (first : ℕ) (more digits after : List ℕ) → [] ≡ digits ++ after → Fits more after → Fits more []
fits_any_end first more [] after e f = subst (λ t. Fits more t) (sym e) f
fits_any_end first more (d ∷ digits) after e f = cc

fits_any_short : (first : ℕ) (more : List ℕ) → first ≡ 42 → Fits (first ∷ more) [] → Fits more []
unfolding Fits
fits_any_short first more star (inl h) = fits_any_end first more h.0 h.1 h.3 h.5
fits_any_short first more star (inr h) = absurd (h.1 star)

-- nothing is left to report
pub fit_any_short : (wanted told : List ℕ) (first : ℕ) (more : List ℕ) (b : Bool) → wanted ≡ first ∷ more → length told ≡ 0
    → first ≡ 42 → (Fits more told → ⊥) → b ≡ false → (b ≡ true) ↔ Fits wanted told
fit_any_short wanted told first more b w t star never n = (
  (λ y. absurd (false≢true (sym n ∙ y))),
  (λ f. absurd (never (subst (λ x. Fits more x) (sym (empty told t)) (fits_any_short first more star (rw (w, empty told t) at f))))),
)
