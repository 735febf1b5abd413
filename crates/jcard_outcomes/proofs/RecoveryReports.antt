-- What a line reports of recoveries, and of what a cut left after it.
use Rattle.std.proofs.Common.{arith, ◌≡◌, ◌∙◌, ◌⊎◌, inl, inr, ℕ, ◌<◌, ◌^◌, ◌==◌, ◌&&◌, Bool, true, false, List, [], ◌∷◌, ◌++◌, if◌then◌else◌, get_or, ap, sym, refl, subst, codes, decimal, append_assoc, Option, Some, None, Result, Ok, Err}
use Rattle.std.specs.Prelude.{IfOk, IfSome, MatchOption, is_none}
use Rattle.std.proofs.lemmas.Bool.{eqb-true, false≢true}
use Rattle.std.proofs.lemmas.Fmt.{decimal_injective}
use Rattle.jcard_outcomes.specs.Part.{AreCounted, IsCutOfWords, IsLeftOfWords, IsReadCut, IsUnrecovered, cut_tail, difference_told, has, is_one_way, recovered_told, told_cut, told_left}
use Rattle.jcard_outcomes.specs.Report.{in_line, standing_text}
use Rattle.jcard_outcomes.specs.declared.recoveries.Recoveries.{Recoveries}
use Rattle.jcard_outcomes.specs.declared.standing.Cut.{Cut}
use Rattle.jcard_outcomes.specs.declared.standing.Standing.{Standing}
use Rattle.jcard_outcomes.specs.declared.standing.Standing.TheVariants.{Before, BeforeButTries, After, AfterButTries, Answers, Changed, ChangedByCalls}
use Rattle.jcard_outcomes.proofs.Splits.{cut_again, cut_unique, decimal_lacks, not_lacking, rest_again}
use Rattle.jcard_outcomes.proofs.CutReports.{end_lacks, lacks_both, told_in_one_line, told_parts}

-- ---- what is reported of recoveries

-- after the first word of it
abbrev shape : Recoveries → List ℕ → List ℕ
shape r rest = decimal r.ways ++ 32 ∷ (difference_told r.difference ++ 44 ∷ (32 ∷ rest))

pub nothing_told : (r : Recoveries) (rest : List ℕ) → is_one_way r ≡ true → recovered_told r ++ rest ≡ rest
nothing_told r rest e =
    ap (λ b. (if b then [] else codes "recoveries " ++ (decimal r.ways ++ 32 ∷ (difference_told r.difference ++ 44 ∷ codes " "))) ++ rest) e

pub all_told : (r : Recoveries) (rest : List ℕ) → is_one_way r ≡ false → recovered_told r ++ rest ≡ codes "recoveries " ++ shape r rest
all_told r rest e =
    ap (λ b. (if b then [] else codes "recoveries " ++ (decimal r.ways ++ 32 ∷ (difference_told r.difference ++ 44 ∷ codes " "))) ++ rest) e
    ∙ append_assoc (codes "recoveries ") (decimal r.ways ++ 32 ∷ (difference_told r.difference ++ 44 ∷ codes " ")) rest
    ∙ ap (λ l. codes "recoveries " ++ l) (append_assoc (decimal r.ways) (32 ∷ (difference_told r.difference ++ 44 ∷ codes " ")) rest
    ∙ ap (λ l. decimal r.ways ++ 32 ∷ l) (append_assoc (difference_told r.difference) (44 ∷ codes " ") rest))

one_way : (r : Recoveries) → is_one_way r ≡ true → r ≡ record { ways = 1; difference = None }
one_way r e = by r.difference refl
  where
    and_first : (a b : Bool) → (a && b) ≡ true → a ≡ true
    and_first true b h = refl
    and_first false b h = absurd (false≢true h)

    and_none : (a : Bool) → (a && false) ≡ false
    and_none true = refl
    and_none false = refl

    by : (d : Option ℕ) → r.difference ≡ d → r ≡ record { ways = 1; difference = None }
    by None f =
        let w : r.ways ≡ 1 = eqb-true r.ways 1 (and_first (r.ways == 1) (is_none r.difference) e) in
        ap (λ n. record { ways = n; difference = r.difference }) w ∙ ap (λ (d : Option ℕ). record { ways = 1; difference = d }) f
    by (Some n) f = absurd (false≢true (sym (and_none (r.ways == 1)) ∙ sym (ap (λ d. (r.ways == 1) && is_none d) f) ∙ e))

-- text that was appended in three pieces
pub in_three : (end second first start a b c : List ℕ) → first ≡ start ++ a → second ≡ first ++ b → end ≡ second ++ c → end ≡ start ++ (a ++ b ++ c)
in_three end second first start a b c e f g =
    g ∙ ap (λ l. l ++ c) (f ∙ ap (λ l. l ++ b) e ∙ append_assoc start a b) ∙ append_assoc start (a ++ b) c

-- so it is reported
pub some_pushed : (end second first start : List ℕ) (ways : ℕ) (d : List ℕ) → first ≡ start ++ (codes "recoveries " ++ decimal ways ++ codes " ")
    → second ≡ first ++ d → end ≡ second ++ codes ", " → end ≡ start ++ (codes "recoveries " ++ (decimal ways ++ 32 ∷ (d ++ 44 ∷ codes " ")))
some_pushed end second first start ways d e f p =
    let front = codes "recoveries " ++ decimal ways in
    p ∙ ap (λ l. l ++ codes ", ") (f ∙ ap (λ l. l ++ d) e) ∙ append_assoc (start ++ (front ++ codes " ")) d (codes ", ")
    ∙ append_assoc start (front ++ codes " ") (d ++ codes ", ")
    ∙ ap (λ l. start ++ l) (append_assoc front (codes " ") (d ++ codes ", ") ∙ append_assoc (codes "recoveries ") (decimal ways) (32 ∷ (d ++ codes ", ")))

-- ---- a difference

pub difference_lacks_comma : (d : Option ℕ) → IfSome d (λ n. n < 65536) → has 44 (difference_told d) ≡ false
difference_lacks_comma None h = refl
difference_lacks_comma (Some n) h = decimal_lacks 44 n (inl (omega arith)) (omega (arith, h))

difference_in_one_line : (d : Option ℕ) → IfSome d (λ n. n < 65536) → has 10 (difference_told d) ≡ false
difference_in_one_line None h = refl
difference_in_one_line (Some n) h = decimal_lacks 10 n (inl (omega arith)) (omega (arith, h))

no_number : (n : ℕ) → n < 65536 → codes "alike" ≡ decimal n → ⊥
no_number n h e = false≢true (sym (decimal_lacks 97 n (inr_letter) (omega (arith, h))) ∙ sym (ap (has 97) e))
  where
    inr_letter : (97 < 48) ⊎ (57 < 97)
    inr_letter = inr (omega arith)

difference_once : (a b : Option ℕ) → IfSome a (λ n. n < 65536) → IfSome b (λ n. n < 65536) → difference_told a ≡ difference_told b → a ≡ b
difference_once None None p q e = refl
difference_once None (Some n) p q e = absurd (no_number n q e)
difference_once (Some n) None p q e = absurd (no_number n p (sym e))
difference_once (Some n) (Some m) p q e = ap Some (decimal_injective n m (omega (arith, p)) (omega (arith, q)) e)

-- ---- reading it

-- a text that does not begin with recoveries reports none
pub untold : (told : List ℕ) → IsUnrecovered told → (r : Recoveries) (rest : List ℕ) → told ≡ recovered_told r ++ rest → rest ≡ told
untold told none r rest e = by (is_one_way r) refl
  where
    by : (b : Bool) → is_one_way r ≡ b → rest ≡ told
    by true y = sym (e ∙ nothing_told r rest y)
    by false n = absurd (none (shape r rest) (e ∙ all_told r rest n))

-- a text that does reports some
pub behind_recoveries : (told more : List ℕ) → told ≡ codes "recoveries " ++ more → (r : Recoveries) (rest : List ℕ) → IsUnrecovered rest
    → told ≡ recovered_told r ++ rest → (is_one_way r ≡ false) × (more ≡ shape r rest)
behind_recoveries told more f r rest plain e = by (is_one_way r) refl
  where
    by : (b : Bool) → is_one_way r ≡ b → (is_one_way r ≡ false) × (more ≡ shape r rest)
    by true y = absurd (plain more (sym (e ∙ nothing_told r rest y) ∙ f))
    by false n = (n, rest_again told (codes "recoveries ") more (shape r rest) f (e ∙ all_told r rest n))

-- what stands after the ways
pub behind_ways : (more digits rest : List ℕ) (r : Recoveries) (left : List ℕ) → more ≡ digits ++ 32 ∷ rest → has 32 digits ≡ false → AreCounted r
    → more ≡ shape r left → (digits ≡ decimal r.ways) × (rest ≡ difference_told r.difference ++ 44 ∷ (32 ∷ left))
behind_ways more digits rest r left e n counted h =
    cut_again 32 more digits (decimal r.ways) rest (difference_told r.difference ++ 44 ∷ (32 ∷ left)) e n h (decimal_lacks 32 r.ways (inl (omega arith)) counted.0)

-- and after the difference
pub behind_difference : (rest d more : List ℕ) (r : Recoveries) (left : List ℕ) → rest ≡ d ++ 44 ∷ more → has 44 d ≡ false → AreCounted r
    → rest ≡ difference_told r.difference ++ 44 ∷ (32 ∷ left) → (d ≡ difference_told r.difference) × (more ≡ 32 ∷ left)
behind_difference rest d more r left e n counted h =
    cut_again 44 rest d (difference_told r.difference) more (32 ∷ left) e n h (difference_lacks_comma r.difference counted.1)

-- no ways are reported
pub no_ways_end : (told more : List ℕ) → told ≡ codes "recoveries " ++ more → has 32 more ≡ false
    → (r : Recoveries) (rest : List ℕ) → AreCounted r → IsUnrecovered rest → told ≡ recovered_told r ++ rest → ⊥
no_ways_end told more f n r rest counted plain e =
    not_lacking 32 more (decimal r.ways) (difference_told r.difference ++ 44 ∷ (32 ∷ rest)) n (behind_recoveries told more f r rest plain e).1

pub no_ways : (told more digits rest : List ℕ) → told ≡ codes "recoveries " ++ more → more ≡ digits ++ 32 ∷ rest → has 32 digits ≡ false
    → ((n : ℕ) → n < 2 ^ 64 → digits ≡ decimal n → ⊥)
    → (r : Recoveries) (left : List ℕ) → AreCounted r → IsUnrecovered left → told ≡ recovered_told r ++ left → ⊥
no_ways told more digits rest f g n none r left counted plain e =
    none r.ways counted.0 (behind_ways more digits rest r left g n counted (behind_recoveries told more f r left plain e).1).0

-- no difference is reported
pub no_difference_end : (told more digits rest : List ℕ) → told ≡ codes "recoveries " ++ more → more ≡ digits ++ 32 ∷ rest → has 32 digits ≡ false
    → has 44 rest ≡ false → (r : Recoveries) (left : List ℕ) → AreCounted r → IsUnrecovered left → told ≡ recovered_told r ++ left → ⊥
no_difference_end told more digits rest f g n lacks r left counted plain e =
    not_lacking 44 rest (difference_told r.difference) (32 ∷ left) lacks (behind_ways more digits rest r left g n counted (behind_recoveries told more f r left plain e).1).1

-- what was reported of recoveries is reported of these
pub told_of : (told more digits rest d end : List ℕ) (ways : ℕ) → told ≡ codes "recoveries " ++ more → more ≡ digits ++ 32 ∷ rest → has 32 digits ≡ false
    → digits ≡ decimal ways → ways < 2 ^ 64 → rest ≡ d ++ 44 ∷ end → has 44 d ≡ false → (r : Recoveries) (left : List ℕ) → AreCounted r → IsUnrecovered left
    → told ≡ recovered_told r ++ left → (r.ways ≡ ways) × (is_one_way r ≡ false) × (d ≡ difference_told r.difference) × (end ≡ 32 ∷ left)
told_of told more digits rest d end ways f g n w small h m r left counted plain e =
    let some = behind_recoveries told more f r left plain e in
    let first = behind_ways more digits rest r left g n counted some.1 in
    let second = behind_difference rest d end r left h m counted first.1 in (
      decimal_injective r.ways ways counted.0 small (sym first.0 ∙ w),
      some.0,
      second.0,
      second.1,
    )

pub told_there : (told more digits rest d end left : List ℕ) (r : Recoveries) → told ≡ codes "recoveries " ++ more → more ≡ digits ++ 32 ∷ rest
    → digits ≡ decimal r.ways → rest ≡ d ++ 44 ∷ end → d ≡ difference_told r.difference → end ≡ 32 ∷ left → is_one_way r ≡ false
    → told ≡ recovered_told r ++ left
told_there told more digits rest d end left r f g w h m o some =
    f ∙ ap (λ l. codes "recoveries " ++ l) (g ∙ ap (λ l. l ++ 32 ∷ rest) w ∙ ap (λ l. decimal r.ways ++ 32 ∷ l) (h ∙ ap (λ l. l ++ 44 ∷ end) m
    ∙ ap (λ l. difference_told r.difference ++ 44 ∷ l) o)) ∙ sym (all_told r left some)

-- ---- cuts

first_byte : (s : Standing) (rest : List ℕ) → get_or (standing_text s ++ rest) 0 0 ≡ 114 → ⊥
first_byte Before rest e = absurd (omega (arith, e))
first_byte BeforeButTries rest e = absurd (omega (arith, e))
first_byte After rest e = absurd (omega (arith, e))
first_byte AfterButTries rest e = absurd (omega (arith, e))
first_byte Answers rest e = absurd (omega (arith, e))
first_byte (Changed d) rest e = absurd (omega (arith, e))
first_byte (ChangedByCalls d) rest e = absurd (omega (arith, e))

-- what is reported of what a cut left reports of no recoveries
pub left_unrecovered : (c : Cut) → IsUnrecovered (told_left c)
left_unrecovered c more e = first_byte c.standing (44 ∷ cut_tail c.lost (in_line c.answers.items)) (ap (λ l. get_or l 0 0) (sym (told_parts c) ∙ e))

-- recoveries, and what follows them, are reported in one way
pub told_once : (a b : Recoveries) (x y : List ℕ) → AreCounted a → AreCounted b → IsUnrecovered x → IsUnrecovered y
    → recovered_told a ++ x ≡ recovered_told b ++ y → (a ≡ b) × (x ≡ y)
told_once a b x y p q plain other e = by (is_one_way a) (is_one_way b) refl refl
  where
    by : (s t : Bool) → is_one_way a ≡ s → is_one_way b ≡ t → (a ≡ b) × (x ≡ y)
    by true true m n = (one_way a m ∙ sym (one_way b n), sym (nothing_told a x m) ∙ e ∙ nothing_told b y n)
    by true false m n = absurd (plain (shape b y) (sym (nothing_told a x m) ∙ e ∙ all_told b y n))
    by false true m n = absurd (other (shape a x) (sym (nothing_told b y n) ∙ sym e ∙ all_told a x m))
    by false false m n =
        let same : shape a x ≡ shape b y =
        rest_again (codes "recoveries " ++ shape a x) (codes "recoveries ") (shape a x) (shape b y) refl (sym (all_told a x m) ∙ e ∙ all_told b y n) in
        let ways = cut_unique 32 (decimal a.ways) (decimal b.ways) (difference_told a.difference ++ 44 ∷ (32 ∷ x)) (difference_told b.difference ++ 44 ∷ (32 ∷ y))
        (decimal_lacks 32 a.ways (inl (omega arith)) p.0) (decimal_lacks 32 b.ways (inl (omega arith)) q.0) same in
        let ends = cut_unique 44 (difference_told a.difference) (difference_told b.difference) (32 ∷ x) (32 ∷ y)
        (difference_lacks_comma a.difference p.1) (difference_lacks_comma b.difference q.1) ways.1 in
        let w : a.ways ≡ b.ways = decimal_injective a.ways b.ways p.0 q.0 ways.0 in
        let d : a.difference ≡ b.difference = difference_once a.difference b.difference p.1 q.1 ends.0 in
        let tail : x ≡ y = let whole : 32 ∷ x ≡ 32 ∷ y = ends.1 in cc in
        (ap (λ n. record { ways = n; difference = a.difference }) w ∙ ap (λ (o : Option ℕ). record { ways = b.ways; difference = o }) d, tail)

recovered_in_one_line : (r : Recoveries) → AreCounted r → has 10 (recovered_told r) ≡ false
recovered_in_one_line r counted = by (is_one_way r) refl
  where
    by : (b : Bool) → is_one_way r ≡ b → has 10 (recovered_told r) ≡ false
    by true y = ap (λ b. has 10 (if b then [] else codes "recoveries " ++ (decimal r.ways ++ 32 ∷ (difference_told r.difference ++ 44 ∷ codes " ")))) y
    by false n = ap (λ b. has 10 (if b then [] else codes "recoveries " ++ (decimal r.ways ++ 32 ∷ (difference_told r.difference ++ 44 ∷ codes " ")))) n
        ∙ lacks_both 10 (codes "recoveries ") (decimal r.ways ++ 32 ∷ (difference_told r.difference ++ 44 ∷ codes " ")) refl
        (lacks_both 10 (decimal r.ways) (32 ∷ (difference_told r.difference ++ 44 ∷ codes " ")) (decimal_lacks 10 r.ways (inl (omega arith)) counted.0)
        (lacks_both 10 (difference_told r.difference) (44 ∷ codes " ") (difference_in_one_line r.difference counted.1) refl))

pub cut_in_one_line : (c : Cut) → IsCutOfWords c → has 10 (told_cut c) ≡ false
cut_in_one_line c words = lacks_both 10 (recovered_told c.recoveries) (told_left c) (recovered_in_one_line c.recoveries words.1) (told_in_one_line c words.0)

-- what is reported after recoveries is in one line
pub left_in_one_line : (told left : List ℕ) (r : Recoveries) → told ≡ recovered_told r ++ left → has 10 told ≡ false → has 10 left ≡ false
left_in_one_line told left r e n = end_lacks 10 (recovered_told r) left (ap (has 10) (sym e) ∙ n)

-- a text that reports no recoveries reports no cut
pub no_recovered : (told : List ℕ) → ((r : Recoveries) (rest : List ℕ) → AreCounted r → IsUnrecovered rest → told ≡ recovered_told r ++ rest → ⊥)
    → (c : Cut) → IsCutOfWords c → told ≡ told_cut c → ⊥
no_recovered told none c words e = none c.recoveries (told_left c) words.1 (left_unrecovered c) e

-- it reports a cut with these recoveries, or of none
pub with_recovered : (told left : List ℕ) (r : Recoveries) (o : Option Cut) → told ≡ recovered_told r ++ left → AreCounted r
    → ((s : Recoveries) (rest : List ℕ) → AreCounted s → IsUnrecovered rest → told ≡ recovered_told s ++ rest → rest ≡ left)
    → MatchOption o ((c : Cut) → IsLeftOfWords c → left ≡ told_left c → ⊥)
    (λ c. (left ≡ told_left c) × (has 44 (standing_text c.standing) ≡ false) × IsLeftOfWords c × (c.recoveries ≡ r))
    → MatchOption o ((c : Cut) → IsCutOfWords c → told ≡ told_cut c → ⊥) (λ c. (told ≡ told_cut c) × IsReadCut c)
with_recovered told left r None e counted once none =
    λ c words f. none c words.0 (sym (once c.recoveries (told_left c) words.1 (left_unrecovered c) f))
with_recovered told left r (Some c) e counted once h = (
  e ∙ ap (λ l. recovered_told r ++ l) h.0 ∙ ap (λ s. recovered_told s ++ told_left c) (sym h.3),
  (h.1, (h.2, subst AreCounted (sym h.3) counted)),
)

pub cut_read : {E : Type 0} (told left : List ℕ) (r : Recoveries) (o : Result (Option Cut) E) → told ≡ recovered_told r ++ left → AreCounted r
    → ((s : Recoveries) (rest : List ℕ) → AreCounted s → IsUnrecovered rest → told ≡ recovered_told s ++ rest → rest ≡ left)
    → IfOk o (λ found. MatchOption found ((c : Cut) → IsLeftOfWords c → left ≡ told_left c → ⊥)
    (λ c. (left ≡ told_left c) × (has 44 (standing_text c.standing) ≡ false) × IsLeftOfWords c × (c.recoveries ≡ r)))
    → IfOk o (λ found. MatchOption found ((c : Cut) → IsCutOfWords c → told ≡ told_cut c → ⊥) (λ c. (told ≡ told_cut c) × IsReadCut c))
cut_read told left r (Ok found) e counted once h = with_recovered told left r found e counted once h
cut_read told left r (Err f) e counted once h = tt

-- what is reported of no difference is reported of no other one
pub alike_only : (told : List ℕ) (ways : ℕ) (o : Option Recoveries) → told ≡ codes "alike"
    → MatchOption o (ways ≡ 1) (λ r. (r ≡ record { ways = ways; difference = None }) × (is_one_way r ≡ false))
    → MatchOption o ((r : Recoveries) → AreCounted r → r.ways ≡ ways → is_one_way r ≡ false → told ≡ difference_told r.difference → ⊥)
    (λ r. (r.ways ≡ ways) × (told ≡ difference_told r.difference) × (is_one_way r ≡ false) × IfSome r.difference (λ n. n < 65536))
alike_only told ways None e one = λ r counted w n d. by r counted w n d r.difference refl
  where
    by : (r : Recoveries) → AreCounted r → r.ways ≡ ways → is_one_way r ≡ false → told ≡ difference_told r.difference → (d : Option ℕ) → r.difference ≡ d → ⊥
    by r counted w n d None f =
        false≢true (sym n ∙ ap (λ k. (k == 1) && is_none r.difference) (w ∙ one) ∙ ap (λ (o : Option ℕ). (1 == 1) && is_none o) f)
    by r counted w n d (Some m) f =
        no_number m (subst (λ (o : Option ℕ). IfSome o (λ k. k < 65536)) f counted.1) (sym e ∙ d ∙ ap difference_told f)
alike_only told ways (Some r) e h =
    let none : r.difference ≡ None = ap (λ (s : Recoveries). s.difference) h.0 in (
      ap (λ (s : Recoveries). s.ways) h.0,
      e ∙ sym (ap difference_told none),
      h.1,
      subst (λ (o : Option ℕ). IfSome o (λ k. k < 65536)) (sym none) tt,
    )

-- ---- the steps of a reading

-- the difference is none that recoveries have
pub recoveries_untold : (told more digits rest d end : List ℕ) (ways : ℕ) → told ≡ codes "recoveries " ++ more → more ≡ digits ++ 32 ∷ rest → has 32 digits ≡ false
    → digits ≡ decimal ways → ways < 2 ^ 64 → rest ≡ d ++ 44 ∷ end → has 44 d ≡ false
    → ((r : Recoveries) → AreCounted r → r.ways ≡ ways → is_one_way r ≡ false → d ≡ difference_told r.difference → ⊥)
    → (r : Recoveries) (left : List ℕ) → AreCounted r → IsUnrecovered left → told ≡ recovered_told r ++ left → ⊥
recoveries_untold told more digits rest d end ways f g n w small h m none r left counted plain e =
    let of = told_of told more digits rest d end ways f g n w small h m r left counted plain e in
    none r counted of.0 of.1 of.2

-- no space stands after it
pub ends_untold : (told more digits rest d end : List ℕ) (ways : ℕ) → told ≡ codes "recoveries " ++ more → more ≡ digits ++ 32 ∷ rest → has 32 digits ≡ false
    → digits ≡ decimal ways → ways < 2 ^ 64 → rest ≡ d ++ 44 ∷ end → has 44 d ≡ false → ((left : List ℕ) → end ≡ codes " " ++ left → ⊥)
    → (r : Recoveries) (left : List ℕ) → AreCounted r → IsUnrecovered left → told ≡ recovered_told r ++ left → ⊥
ends_untold told more digits rest d end ways f g n w small h m none r left counted plain e =
    none left (told_of told more digits rest d end ways f g n w small h m r left counted plain e).3

-- these recoveries are reported, and what follows them is this and nothing else
pub left_told : (told more digits rest d end left : List ℕ) (ways : ℕ) (r : Recoveries) → told ≡ codes "recoveries " ++ more → more ≡ digits ++ 32 ∷ rest
    → has 32 digits ≡ false → digits ≡ decimal ways → ways < 2 ^ 64 → rest ≡ d ++ 44 ∷ end → has 44 d ≡ false → r.ways ≡ ways
    → d ≡ difference_told r.difference → is_one_way r ≡ false → IfSome r.difference (λ n. n < 65536) → end ≡ codes " " ++ left
    → (told ≡ recovered_told r ++ left) × AreCounted r
    × ((s : Recoveries) (other : List ℕ) → AreCounted s → IsUnrecovered other → told ≡ recovered_told s ++ other → other ≡ left)
left_told told more digits rest d end left ways r f g n w small h m same o some fits e = (
  told_there told more digits rest d end left r f g (w ∙ ap decimal (sym same)) h o e some,
  (omega (arith, same, small), fits),
  (λ s other counted plain is.
      let whole : 32 ∷ left ≡ 32 ∷ other = sym e ∙ (told_of told more digits rest d end ways f g n w small h m s other counted plain is).3 in
      let tail : other ≡ left = cc in
      tail),
)
