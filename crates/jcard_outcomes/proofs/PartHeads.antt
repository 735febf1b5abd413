-- The heads of the texts of parts.
use Rattle.std.proofs.Common.{arith, ◌≡◌, ◌∙◌, ℕ, ◌+◌, ◌<◌, ◌≤◌, false, List, [], ◌∷◌, ◌++◌, length, length-append, get_or, ap, sym, refl, subst, ⊎_elim, codes, append_assoc, Option, Some, None}
use Rattle.std.specs.Prelude.{MatchOption, map}
use Rattle.std.specs.Borrow.{Bor}
use Rattle.std.proofs.Math.Seq.{get_or-append_seam}
use Rattle.std.proofs.lemmas.Bool.{cases_lt}
use Rattle.std.proofs.lemmas.List.{append_cancel_left, get_or-map, get_or_append_left}
use Rattle.jcard_outcomes.specs.Join.{AreBodiesOf, ArePartsOf, IsPartOf}
use Rattle.jcard_outcomes.specs.Order.{ArePlaces}
use Rattle.jcard_outcomes.specs.Part.{body_text, has, head_text, part_text}
use Rattle.jcard_outcomes.specs.SweepHead.{AreBehindHeads, AreOfOthers, IsBehindHead, IsOfOther}
use Rattle.jcard_outcomes.specs.declared.part.Part.{Part}
use Rattle.jcard_outcomes.specs.declared.report.Sweep.{Sweep}
use Rattle.jcard_outcomes.specs.declared.sweep_head.HeadFault.{HeadFault}
use Rattle.jcard_outcomes.specs.declared.sweep_head.HeadFault.TheVariants.{NoMemory, OtherSweep}
use Rattle.jcard_outcomes.proofs.Splits.{cut_unique, not_lacking, rest_again}

-- a head, and what follows its name
headed : (name body : List ℕ) → head_text name ++ body ≡ codes "sweep " ++ (name ++ 10 ∷ body)
headed name body = append_assoc (codes "sweep ") (name ++ codes "\n") body ∙ ap (λ l. codes "sweep " ++ l) (append_assoc name (codes "\n") body)

-- a text has one head
pub head_unique : (text a b x y : List ℕ) → IsBehindHead a text x → IsBehindHead b text y → (a ≡ b) × (x ≡ y)
head_unique text a b x y e f = cut_unique 10 a b x y e.1 f.1
    (append_cancel_left (codes "sweep ") (a ++ 10 ∷ x) (b ++ 10 ∷ y) (sym (headed a x) ∙ sym e.0 ∙ f.0 ∙ headed b y))

-- ---- the head of a text that is read

pub no_head : (text : List ℕ) → ((rest : List ℕ) → text ≡ codes "sweep " ++ rest → ⊥) → (name body : List ℕ) → IsBehindHead name text body → ⊥
no_head text none name body e = none (name ++ 10 ∷ body) (e.0 ∙ headed name body)

pub head_read : (text rest : List ℕ) (r : Option (Bor (List ℕ) × Bor (List ℕ))) → text ≡ codes "sweep " ++ rest
    → MatchOption r (has 10 rest ≡ false) (λ p. (rest ≡ p.0.now ++ 10 ∷ p.1.now) × (has 10 p.0.now ≡ false))
    → MatchOption r ((name body : List ℕ) → IsBehindHead name text body → ⊥) (λ p. IsBehindHead p.0.now text p.1.now)
head_read text rest None e h = λ name body f. not_lacking 10 rest name body h (rest_again text (codes "sweep ") rest (name ++ 10 ∷ body) e (f.0 ∙ headed name body))
head_read text rest (Some p) e h = (e ∙ ap (λ l. codes "sweep " ++ l) h.0 ∙ sym (headed p.0.now p.1.now), h.1)

-- ---- the texts so far

-- the text at a place
pub text_at : {A : Type 0} (f : A → List ℕ) (texts : List A) (i : ℕ) (x : A) → i < length texts → x ≡ get_or texts i x → get_or (map f texts) i [] ≡ f x
text_at f texts i x h e = get_or-map f texts i x [] h ∙ ap f (sym e)

-- of the first of these texts these are the bodies
pub record AreBehindTo (name : List ℕ) (texts bodies : List (List ℕ)) (n : ℕ) : Type 0 where
  pub within : n ≤ length texts
  pub all : length bodies ≡ n
  pub each : (i : ℕ) → i < n → IsBehindHead name (get_or texts i []) (get_or bodies i [])

pub behind_none : (name : List ℕ) (texts bodies : List (List ℕ)) → bodies ≡ [] → AreBehindTo name texts bodies 0
behind_none name texts bodies e = record { within = omega arith; all = ap length e; each = λ i h. absurd (omega (arith, h)) }

behind_here : (bodies next : List (List ℕ)) (n : ℕ) (body : List ℕ) → length bodies ≡ n → next ≡ bodies ++ body ∷ [] → get_or next n [] ≡ body
behind_here bodies next n body all e = ap (λ l. get_or l n []) e ∙ ap (λ k. get_or (bodies ++ body ∷ []) k []) (sym all)
    ∙ get_or-append_seam bodies body [] []

behind_before : (bodies next : List (List ℕ)) (i : ℕ) (body : List ℕ) → i < length bodies → next ≡ bodies ++ body ∷ [] → get_or next i [] ≡ get_or bodies i []
behind_before bodies next i body h e = ap (λ l. get_or l i []) e ∙ get_or_append_left bodies (body ∷ []) [] i h

pub behind_more : (name : List ℕ) (texts bodies next : List (List ℕ)) (n : ℕ) (body : List ℕ) → AreBehindTo name texts bodies n
    → n < length texts → IsBehindHead name (get_or texts n []) body → next ≡ bodies ++ body ∷ [] → AreBehindTo name texts next (n + 1)
behind_more name texts bodies next n body so at is e = record {
  within = omega (arith, at);
  all = ap length e ∙ length-append bodies (body ∷ []) ∙ ap (λ k. k + 1) so.all;
  each = λ i h. ⊎_elim
      (λ low. subst (λ b. IsBehindHead name (get_or texts i []) b) (sym (behind_before bodies next i body (omega (arith, low, so.all)) e)) (so.each i low))
      (λ high. let same : n ≡ i = omega (arith, h, high) in
      subst (λ k. IsBehindHead name (get_or texts k []) (get_or next k [])) same
      (subst (λ b. IsBehindHead name (get_or texts n []) b) (sym (behind_here bodies next n body so.all e)) is))
      (cases_lt i n);
}

pub behind_all : (name : List ℕ) (texts bodies : List (List ℕ)) (n : ℕ) → AreBehindTo name texts bodies n → length texts ≤ n → AreBehindHeads name texts bodies
behind_all name texts bodies n so h = record { all = omega (arith, so.all, so.within, h); each = λ i low. so.each i (omega (arith, h, low)) }

-- one is of another sweep, and all before it are not
pub behind_other : (name : List ℕ) (texts bodies : List (List ℕ)) (n : ℕ) (first : List ℕ) → AreBehindTo name texts bodies n → n < length texts
    → IsBehindHead name (get_or texts 0 []) first → ((body : List ℕ) → get_or texts n [] ≡ head_text name ++ body → ⊥) → AreOfOthers texts (OtherSweep n)
behind_other name texts bodies n first so h is none = (
  h,
  λ other x y e f. none y (f.0 ∙ ap (λ t. head_text t ++ y) (head_unique (get_or texts 0 []) other name x first e is).0),
  λ i low other. other name first (get_or bodies i []) is (so.each i low),
)

-- the first text states no head
pub first_other : (texts : List (List ℕ)) → 0 < length texts → ((name body : List ℕ) → IsBehindHead name (get_or texts 0 []) body → ⊥)
    → AreOfOthers texts (OtherSweep 0)
first_other texts some none = (some, λ name x y e f. none name x e, λ i low other. absurd (omega (arith, low)))

-- ---- the parts of a sweep

-- after the heads of the parts of a sweep stand their lines
pub bodies_of_parts : (s : Sweep) (name other : List ℕ) (texts bodies : List (List ℕ)) → has 10 name ≡ false → ArePartsOf s name texts
    → AreBehindHeads other texts bodies → AreBodiesOf s bodies
unfolding part_text
bodies_of_parts s name other texts bodies plain parts behind = (
  parts.0,
  subst (λ n. ArePlaces n parts.0) (sym behind.all) parts.1,
  (λ j h.
      let within : j < length texts = omega (arith, behind.all, h) in
      let part = parts.2 j within in
      let at : ℕ = parts.0 j in
      let there : at < length texts = parts.1.within j within in
      let mine : IsBehindHead name (get_or texts at []) (body_text part.0) =
      (part.3 ∙ ap (λ n. head_text n ++ body_text part.0) part.2, plain) in
      let one = head_unique (get_or texts at []) name other (body_text part.0) (get_or bodies at []) mine (behind.each at there) in
      (part.0, subst (λ n. IsPartOf s n j part.0) (sym behind.all) part.1, sym one.1)),
)

-- the text at a place is that of a part
part_there : (s : Sweep) (name : List ℕ) (texts : List (List ℕ)) → has 10 name ≡ false → ArePartsOf s name texts → (i : ℕ) → i < length texts
    → (body : List ℕ) × IsBehindHead name (get_or texts i []) body
unfolding part_text
part_there s name texts plain parts i h =
    let from = parts.1.all i h in
    let part = parts.2 from.0 from.1 in (
      body_text part.0,
      (ap (λ k. get_or texts k []) (sym from.2) ∙ part.3 ∙ ap (λ n. head_text n ++ body_text part.0) part.2, plain),
    )

-- their heads have its name
pub name_of_parts : (s : Sweep) (name other : List ℕ) (texts bodies : List (List ℕ)) → 0 < length texts → has 10 name ≡ false → ArePartsOf s name texts
    → AreBehindHeads other texts bodies → name ≡ other
name_of_parts s name other texts bodies some plain parts behind =
    let first = part_there s name texts plain parts 0 some in
    (head_unique (get_or texts 0 []) name other first.0 (get_or bodies 0 []) first.1 (behind.each 0 some)).0

-- they are all of one
pub parts_of_one : (s : Sweep) (name : List ℕ) (texts : List (List ℕ)) (fault : HeadFault) → 0 < length texts → has 10 name ≡ false → ArePartsOf s name texts
    → AreOfOthers texts fault → fault ≡ NoMemory
parts_of_one s name texts NoMemory some plain parts h = refl
parts_of_one s name texts (OtherSweep j) some plain parts h =
    let first = part_there s name texts plain parts 0 some in
    let part = part_there s name texts plain parts j h.0 in
    absurd (h.1 name first.0 part.0 first.1 part.1)
