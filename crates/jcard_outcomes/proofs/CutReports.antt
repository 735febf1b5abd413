-- What a line reports of a cut is reported of no other one.
use Rattle.std.proofs.Common.{arith, ◌≡◌, inl, ◌∙◌, ℕ, ◌<◌, ◌==◌, ◌||◌, Bool, true, false, List, [], ◌∷◌, ◌++◌, if◌then◌else◌, ap, sym, refl, length, drop, ◌-◌, codes, decimal, append_assoc, Option, Some, None}
use Rattle.std.specs.Prelude.{MatchOption}
use Rattle.std.proofs.lemmas.Bool.{false≢true}
use Rattle.std.proofs.lemmas.List.{append_cancel_right, length-append}
use Rattle.std.proofs.lemmas.List.Folds.{list_any-append}
use Rattle.jcard_outcomes.specs.Join.{IsAnswerTold}
use Rattle.jcard_outcomes.specs.Part.{AreWords, IsLeftOfWords, IsOfWords, cut_tail, has, told_left, told_uncut}
use Rattle.jcard_outcomes.specs.Report.{changed_text, in_line, is_by_calls, standing_text}
use Rattle.jcard_outcomes.specs.declared.heaps.Difference.{Difference}
use Rattle.jcard_outcomes.specs.declared.standing.Cut.{Cut}
use Rattle.jcard_outcomes.specs.declared.standing.Standing.{Standing}
use Rattle.jcard_outcomes.specs.declared.standing.Standing.TheVariants.{Before, BeforeButTries, After, AfterButTries, Answers, Changed, ChangedByCalls}
use Rattle.jcard_outcomes.proofs.Splits.{cut_again, cut_unique, decimal_lacks, not_lacking, rest_again}

-- ---- words after labels

pub no_space : (text label rest : List ℕ) → text ≡ label ++ rest → has 32 rest ≡ false → (n : ℕ) (tail : List ℕ) → n < 65536
    → text ≡ label ++ (decimal n ++ 32 ∷ tail) → ⊥
no_space text label rest e lacking n tail small h = not_lacking 32 rest (decimal n) tail lacking (rest_again text label rest (decimal n ++ 32 ∷ tail) e h)

pub no_word : (text label rest digits more : List ℕ) → text ≡ label ++ rest → rest ≡ digits ++ 32 ∷ more → has 32 digits ≡ false
    → ((n : ℕ) → n < 65536 → digits ≡ decimal n → ⊥) → (n : ℕ) (tail : List ℕ) → n < 65536 → text ≡ label ++ (decimal n ++ 32 ∷ tail) → ⊥
no_word text label rest digits more e f lacking none n tail small h =
    none n small ((cut_again 32 rest digits (decimal n) more tail f lacking (rest_again text label rest (decimal n ++ 32 ∷ tail) e h)
    (decimal_lacks 32 n (inl (omega arith)) (omega arith))).0)

pub word_there : (text label rest digits more : List ℕ) (n : ℕ) → text ≡ label ++ rest → rest ≡ digits ++ 32 ∷ more → digits ≡ decimal n
    → text ≡ label ++ (decimal n ++ 32 ∷ more)
word_there text label rest digits more n e f g = e ∙ ap (λ l. label ++ l) (f ∙ ap (λ l. l ++ 32 ∷ more) g)

-- what follows a word is known
pub word_again : (text label : List ℕ) (n m : ℕ) (rest more : List ℕ) → n < 65536 → m < 65536 → text ≡ label ++ (decimal n ++ 32 ∷ rest)
    → text ≡ label ++ (decimal m ++ 32 ∷ more) → rest ≡ more
word_again text label n m rest more small fits e f =
    (cut_again 32 (decimal n ++ 32 ∷ rest) (decimal n) (decimal m) rest more refl (decimal_lacks 32 n (inl (omega arith)) (omega arith))
    (rest_again text label (decimal n ++ 32 ∷ rest) (decimal m ++ 32 ∷ more) e f) (decimal_lacks 32 m (inl (omega arith)) (omega arith))).1

-- ---- differences

pub changed_parts : (d : Difference) → changed_text d
    ≡ codes "changed: word " ++ (decimal d.address ++ 32 ∷ (codes "was " ++ (decimal d.before ++ 32 ∷ (codes "and is " ++ decimal d.now))))
changed_parts d = ap (λ t. codes "changed: word " ++ t) (append_assoc (decimal d.address) (codes " was " ++ decimal d.before) (codes " and is " ++ decimal d.now))

-- the first word lacks
pub no_address : (text : List ℕ) → ((n : ℕ) (rest : List ℕ) → n < 65536 → text ≡ codes "changed: word " ++ (decimal n ++ 32 ∷ rest) → ⊥)
    → (d : Difference) → AreWords d → text ≡ changed_text d → ⊥
no_address text none d words e = none d.address _ words.0 (e ∙ changed_parts d)

behind_address : (text : List ℕ) (a : ℕ) (rest : List ℕ) → a < 65536 → text ≡ codes "changed: word " ++ (decimal a ++ 32 ∷ rest)
    → (d : Difference) → AreWords d → text ≡ changed_text d → rest ≡ codes "was " ++ (decimal d.before ++ 32 ∷ (codes "and is " ++ decimal d.now))
behind_address text a rest small f d words e = word_again text (codes "changed: word ") a d.address rest _ small words.0 f (e ∙ changed_parts d)

pub no_before : (text : List ℕ) (a : ℕ) (rest : List ℕ) → a < 65536 → text ≡ codes "changed: word " ++ (decimal a ++ 32 ∷ rest)
    → ((n : ℕ) (more : List ℕ) → n < 65536 → rest ≡ codes "was " ++ (decimal n ++ 32 ∷ more) → ⊥)
    → (d : Difference) → AreWords d → text ≡ changed_text d → ⊥
no_before text a rest small f none d words e = none d.before _ words.1 (behind_address text a rest small f d words e)

behind_before : (text : List ℕ) (a : ℕ) (rest : List ℕ) (b : ℕ) (more : List ℕ) → a < 65536 → b < 65536
    → text ≡ codes "changed: word " ++ (decimal a ++ 32 ∷ rest) → rest ≡ codes "was " ++ (decimal b ++ 32 ∷ more)
    → (d : Difference) → AreWords d → text ≡ changed_text d → more ≡ codes "and is " ++ decimal d.now
behind_before text a rest b more small fits f g d words e =
    word_again rest (codes "was ") b d.before more _ fits words.1 g (behind_address text a rest small f d words e)

pub no_is : (text : List ℕ) (a : ℕ) (rest : List ℕ) (b : ℕ) (more : List ℕ) → a < 65536 → b < 65536
    → text ≡ codes "changed: word " ++ (decimal a ++ 32 ∷ rest) → rest ≡ codes "was " ++ (decimal b ++ 32 ∷ more)
    → ((end : List ℕ) → more ≡ codes "and is " ++ end → ⊥) → (d : Difference) → AreWords d → text ≡ changed_text d → ⊥
no_is text a rest b more small fits f g none d words e = none (decimal d.now) (behind_before text a rest b more small fits f g d words e)

pub no_now : (text : List ℕ) (a : ℕ) (rest : List ℕ) (b : ℕ) (more digits : List ℕ) → a < 65536 → b < 65536
    → text ≡ codes "changed: word " ++ (decimal a ++ 32 ∷ rest) → rest ≡ codes "was " ++ (decimal b ++ 32 ∷ more)
    → more ≡ codes "and is " ++ digits → ((n : ℕ) → n < 65536 → digits ≡ decimal n → ⊥)
    → (d : Difference) → AreWords d → text ≡ changed_text d → ⊥
no_now text a rest b more digits small fits f g h none d words e =
    none d.now words.2 (rest_again more (codes "and is ") digits (decimal d.now) h (behind_before text a rest b more small fits f g d words e))

pub difference_there : (text : List ℕ) (a : ℕ) (rest : List ℕ) (b : ℕ) (more digits : List ℕ) (n : ℕ)
    → text ≡ codes "changed: word " ++ (decimal a ++ 32 ∷ rest) → rest ≡ codes "was " ++ (decimal b ++ 32 ∷ more)
    → more ≡ codes "and is " ++ digits → digits ≡ decimal n → text ≡ changed_text (record { address = a; before = b; now = n })
difference_there text a rest b more digits n f g h e =
    f ∙ ap (λ r. codes "changed: word " ++ (decimal a ++ 32 ∷ r)) (g ∙ ap (λ m. codes "was " ++ (decimal b ++ 32 ∷ m)) (h ∙ ap (λ l. codes "and is " ++ l) e))
    ∙ sym (changed_parts (record { address = a; before = b; now = n }))

-- ---- standings

pub no_standing : (text : List ℕ) → (text ≡ codes "as before" → ⊥) → (text ≡ codes "as before but for PIN tries" → ⊥) → (text ≡ codes "as after" → ⊥)
    → (text ≡ codes "as after but for PIN tries" → ⊥) → (text ≡ codes "with other answers" → ⊥)
    → ((d : Difference) → AreWords d → text ≡ changed_text d → ⊥) × ((d : Difference) → AreWords d → text ≡ changed_text d ++ codes " by non-atomic calls" → ⊥)
    → (s : Standing) → IsOfWords s → text ≡ standing_text s → ⊥
no_standing text a b c d e f Before words h = a h
no_standing text a b c d e f BeforeButTries words h = b h
no_standing text a b c d e f After words h = c h
no_standing text a b c d e f AfterButTries words h = d h
no_standing text a b c d e f Answers words h = e h
no_standing text a b c d e f (Changed difference) words h = f.0 difference words h
no_standing text a b c d e f (ChangedByCalls difference) words h = f.1 difference words h

-- what is left to be reported is a change, or none
pub or_changed : (text : List ℕ) (r : Option Standing) → (text ≡ codes "as before" → ⊥) → (text ≡ codes "as before but for PIN tries" → ⊥)
    → (text ≡ codes "as after" → ⊥) → (text ≡ codes "as after but for PIN tries" → ⊥) → (text ≡ codes "with other answers" → ⊥)
    → MatchOption r (((d : Difference) → AreWords d → text ≡ changed_text d → ⊥)
    × ((d : Difference) → AreWords d → text ≡ changed_text d ++ codes " by non-atomic calls" → ⊥)) (λ s. (text ≡ standing_text s) × IsOfWords s)
    → MatchOption r ((s : Standing) → IsOfWords s → text ≡ standing_text s → ⊥) (λ s. (text ≡ standing_text s) × IsOfWords s)
or_changed text None a b c d e f = no_standing text a b c d e f
or_changed text (Some s) a b c d e f = f

-- two texts lack a byte together
pub lacks_both : (s : ℕ) (a b : List ℕ) → has s a ≡ false → has s b ≡ false → has s (a ++ b) ≡ false
lacks_both s a b p q = list_any-append (λ x. x == s) a b ∙ ap (λ r. r || has s b) p ∙ q

-- a text lacks what its end lacks
pub end_lacks : (s : ℕ) (a b : List ℕ) → has s (a ++ b) ≡ false → has s b ≡ false
end_lacks s a b n = by (has s a) (has s b) (sym (list_any-append (λ x. x == s) a b) ∙ n)
  where
    by : (p q : Bool) → (p || q) ≡ false → q ≡ false
    by true q n = absurd (false≢true (sym n))
    by false q n = n

changed_lacks : (s : ℕ) → s < 48 → has s (codes "changed: word ") ≡ false → has s (codes " was ") ≡ false → has s (codes " and is ") ≡ false
    → (d : Difference) → AreWords d → has s (changed_text d) ≡ false
changed_lacks s low p q r d words =
    lacks_both s ((codes "changed: word " ++ decimal d.address) ++ (codes " was " ++ decimal d.before)) (codes " and is " ++ decimal d.now)
    (lacks_both s (codes "changed: word " ++ decimal d.address) (codes " was " ++ decimal d.before)
    (lacks_both s (codes "changed: word ") (decimal d.address) p (decimal_lacks s d.address (inl low) (omega (arith, words.0))))
    (lacks_both s (codes " was ") (decimal d.before) q (decimal_lacks s d.before (inl low) (omega (arith, words.1)))))
    (lacks_both s (codes " and is ") (decimal d.now) r (decimal_lacks s d.now (inl low) (omega (arith, words.2))))

pub standing_has_no_comma : (s : Standing) → IsOfWords s → has 44 (standing_text s) ≡ false
standing_has_no_comma Before words = refl
standing_has_no_comma BeforeButTries words = refl
standing_has_no_comma After words = refl
standing_has_no_comma AfterButTries words = refl
standing_has_no_comma Answers words = refl
standing_has_no_comma (Changed d) words = changed_lacks 44 (omega arith) refl refl refl d words
standing_has_no_comma (ChangedByCalls d) words =
    lacks_both 44 (changed_text d) (codes " by non-atomic calls") (changed_lacks 44 (omega arith) refl refl refl d words) refl

pub standing_in_one_line : (s : Standing) → IsOfWords s → has 10 (standing_text s) ≡ false
standing_in_one_line Before words = refl
standing_in_one_line BeforeButTries words = refl
standing_in_one_line After words = refl
standing_in_one_line AfterButTries words = refl
standing_in_one_line Answers words = refl
standing_in_one_line (Changed d) words = changed_lacks 10 (omega arith) refl refl refl d words
standing_in_one_line (ChangedByCalls d) words =
    lacks_both 10 (changed_text d) (codes " by non-atomic calls") (changed_lacks 10 (omega arith) refl refl refl d words) refl

-- what is reported of non-atomic calls has a hyphen, and nothing else has
pub by_calls_told : (s : Standing) → IsOfWords s → has 45 (standing_text s) ≡ is_by_calls s
by_calls_told Before words = refl
by_calls_told BeforeButTries words = refl
by_calls_told After words = refl
by_calls_told AfterButTries words = refl
by_calls_told Answers words = refl
by_calls_told (Changed d) words = changed_lacks 45 (omega arith) refl refl refl d words
by_calls_told (ChangedByCalls d) words = list_any-append (λ x. x == 45) (changed_text d) (codes " by non-atomic calls") ∙ or_true (has 45 (changed_text d))
  where
    or_true : (b : Bool) → (b || true) ≡ true
    or_true true = refl
    or_true false = refl

-- ---- ends of texts

-- a text that has no such end reports no such calls
pub no_calls : (text : List ℕ) → ((front : List ℕ) → text ≡ front ++ codes " by non-atomic calls" → ⊥)
    → ((d : Difference) → AreWords d → text ≡ changed_text d → ⊥)
    → ((d : Difference) → AreWords d → text ≡ changed_text d → ⊥) × ((d : Difference) → AreWords d → text ≡ changed_text d ++ codes " by non-atomic calls" → ⊥)
no_calls text none plain = (plain, (λ d words e. none (changed_text d) e))

-- one that has it reports what stands before it
pub only_calls : (text front : List ℕ) → text ≡ front ++ codes " by non-atomic calls" → ((d : Difference) → AreWords d → front ≡ changed_text d → ⊥)
    → ((d : Difference) → AreWords d → text ≡ changed_text d → ⊥) × ((d : Difference) → AreWords d → text ≡ changed_text d ++ codes " by non-atomic calls" → ⊥)
only_calls text front e plain = (
  (λ d words h. false≢true (sym (ap (has 45) h ∙ changed_lacks 45 (omega arith) refl refl refl d words) ∙ ap (has 45) e
      ∙ list_any-append (λ x. x == 45) front (codes " by non-atomic calls") ∙ or_true (has 45 front))),
  (λ d words h. plain d words (append_cancel_right front (changed_text d) (codes " by non-atomic calls") (sym e ∙ h))),
)
  where
    or_true : (b : Bool) → (b || true) ≡ true
    or_true true = refl
    or_true false = refl

-- a text that is shorter, or ends otherwise, does not end so
pub too_short_to_end : (text end front : List ℕ) → length text < length end → text ≡ front ++ end → ⊥
too_short_to_end text end front h e = absurd (omega (arith, simp length-append at (ap length e)))

pub ends_not : (text end rest front : List ℕ) → rest ≡ drop (length text - length end) text → (rest ≡ end → ⊥) → text ≡ front ++ end → ⊥
ends_not text end rest front e n f = n (e ∙ ap (λ k. drop k text) (omega (arith, simp length-append at (ap length f))) ∙ ap (drop (length front)) f ∙ drop_front front end)
  where
    drop_front : (a x : List ℕ) → drop (length a) (a ++ x) ≡ x
    drop_front [] x = refl
    drop_front (y ∷ a) x = drop_front a x

-- ---- answers

none_step : (x : ℕ) (xs : List ℕ) (b : Bool) → (x == 10) ≡ b → has 10 (in_line xs) ≡ false → has 10 (in_line (x ∷ xs)) ≡ false
none_step x xs true e rest = ap (λ b. ((if b then 32 else x) == 10) || has 10 (in_line xs)) e ∙ rest
none_step x xs false e rest = ap (λ b. ((if b then 32 else x) == 10) || has 10 (in_line xs)) e ∙ ap (λ b. b || has 10 (in_line xs)) e ∙ rest

pub in_line_has_none : (text : List ℕ) → has 10 (in_line text) ≡ false
in_line_has_none [] = refl
in_line_has_none (x ∷ xs) = none_step x xs (x == 10) refl (in_line_has_none xs)

same_step : (x : ℕ) (xs : List ℕ) (b : Bool) → (x == 10) ≡ b → has 10 (x ∷ xs) ≡ false → (has 10 xs ≡ false → in_line xs ≡ xs)
    → in_line (x ∷ xs) ≡ x ∷ xs
same_step x xs true e n rest = absurd (false≢true (sym n ∙ ap (λ b. b || has 10 xs) e))
same_step x xs false e n rest =
    ap (λ b. (if b then 32 else x) ∷ in_line xs) e ∙ ap (λ l. x ∷ l) (rest (sym (ap (λ b. b || has 10 xs) e) ∙ n))

pub in_line_same : (text : List ℕ) → has 10 text ≡ false → in_line text ≡ text
in_line_same [] n = refl
in_line_same (x ∷ xs) n = same_step x xs (x == 10) refl n (in_line_same xs)

-- ---- cuts

pub told_parts : (c : Cut) → told_left c ≡ standing_text c.standing ++ 44 ∷ cut_tail c.lost (in_line c.answers.items)
unfolding told_left
told_parts c = simp append_assoc

tail_in_one_line : (lost : ℕ) (answers : List ℕ) → lost < 65536 → has 10 answers ≡ false → has 10 (44 ∷ cut_tail lost answers) ≡ false
tail_in_one_line lost answers small h =
    lacks_both 10 (decimal lost) (32 ∷ (codes "words lost, answers " ++ answers)) (decimal_lacks 10 lost (inl (omega arith)) (omega (arith, small)))
    (lacks_both 10 (codes "words lost, answers ") answers refl h)

pub told_in_one_line : (c : Cut) → IsLeftOfWords c → has 10 (told_left c) ≡ false
told_in_one_line c words = ap (has 10) (told_parts c)
    ∙ lacks_both 10 (standing_text c.standing) (44 ∷ cut_tail c.lost (in_line c.answers.items)) (standing_in_one_line c.standing words.0)
    (tail_in_one_line c.lost (in_line c.answers.items) words.1 (in_line_has_none c.answers.items))

-- no cut is reported in parts that are none
pub no_parts : (told : List ℕ) → ((standing answers : List ℕ) (lost : ℕ) → lost < 65536 → told ≡ standing ++ 44 ∷ cut_tail lost answers
    → has 44 standing ≡ false → ⊥) → (c : Cut) → IsLeftOfWords c → told ≡ told_left c → ⊥
no_parts told none c words e = none (standing_text c.standing) (in_line c.answers.items) c.lost words.1 (e ∙ told_parts c) (standing_has_no_comma c.standing words.0)

pub no_cut : (told standing answers : List ℕ) (lost : ℕ) → told ≡ standing ++ 44 ∷ cut_tail lost answers → has 44 standing ≡ false
    → ((s : Standing) → IsOfWords s → standing ≡ standing_text s → ⊥) → (c : Cut) → IsLeftOfWords c → told ≡ told_left c → ⊥
no_cut told standing answers lost e lacking none c words h =
    none c.standing words.0 ((cut_again 44 told standing (standing_text c.standing) _ _ e lacking (h ∙ told_parts c) (standing_has_no_comma c.standing words.0)).0)

pub cut_there : (told standing : List ℕ) (c : Cut) → told ≡ standing ++ 44 ∷ cut_tail c.lost c.answers.items → standing ≡ standing_text c.standing
    → has 10 told ≡ false → told ≡ told_left c
cut_there told standing c e f n =
    let tail : has 10 (44 ∷ cut_tail c.lost c.answers.items) ≡ false =
    end_lacks 10 standing (44 ∷ cut_tail c.lost c.answers.items) (ap (has 10) (sym e) ∙ n) in
    let more : has 10 (32 ∷ (codes "words lost, answers " ++ c.answers.items)) ≡ false =
    end_lacks 10 (decimal c.lost) (32 ∷ (codes "words lost, answers " ++ c.answers.items)) tail in
    let answers : has 10 c.answers.items ≡ false = end_lacks 10 (codes " words lost, answers ") c.answers.items more in
    e ∙ ap (λ l. l ++ 44 ∷ cut_tail c.lost c.answers.items) f
    ∙ ap (λ l. standing_text c.standing ++ 44 ∷ cut_tail c.lost l) (sym (in_line_same c.answers.items answers)) ∙ sym (told_parts c)

-- ---- parts

pub no_comma : (told : List ℕ) → has 44 told ≡ false → (standing answers : List ℕ) (lost : ℕ) → lost < 65536 → told ≡ standing ++ 44 ∷ cut_tail lost answers
    → has 44 standing ≡ false → ⊥
no_comma told n standing answers lost small e lacking = not_lacking 44 told standing _ n e

pub no_lost : (told front rest : List ℕ) → told ≡ front ++ 44 ∷ rest → has 44 front ≡ false
    → ((n : ℕ) (more : List ℕ) → n < 65536 → rest ≡ codes " " ++ (decimal n ++ 32 ∷ more) → ⊥)
    → (standing answers : List ℕ) (lost : ℕ) → lost < 65536 → told ≡ standing ++ 44 ∷ cut_tail lost answers → has 44 standing ≡ false → ⊥
no_lost told front rest e lacking none standing answers lost small h lacks =
    none lost (codes "words lost, answers " ++ answers) small ((cut_again 44 told front standing rest _ e lacking h lacks).1)

pub no_answers : (told front rest more : List ℕ) (n : ℕ) → told ≡ front ++ 44 ∷ rest → has 44 front ≡ false → n < 65536
    → rest ≡ codes " " ++ (decimal n ++ 32 ∷ more) → ((end : List ℕ) → more ≡ codes "words lost, answers " ++ end → ⊥)
    → (standing answers : List ℕ) (lost : ℕ) → lost < 65536 → told ≡ standing ++ 44 ∷ cut_tail lost answers → has 44 standing ≡ false → ⊥
no_answers told front rest more n e lacking fits f none standing answers lost small h lacks =
    none answers (word_again rest (codes " ") n lost more _ fits small f ((cut_again 44 told front standing rest _ e lacking h lacks).1))

pub parts_there : (told front rest more answers : List ℕ) (n : ℕ) → told ≡ front ++ 44 ∷ rest → rest ≡ codes " " ++ (decimal n ++ 32 ∷ more)
    → more ≡ codes "words lost, answers " ++ answers → told ≡ front ++ 44 ∷ cut_tail n answers
parts_there told front rest more answers n e f g =
    e ∙ ap (λ l. front ++ 44 ∷ l) (f ∙ ap (λ l. codes " " ++ (decimal n ++ 32 ∷ l)) g)

-- ---- the command that is not cut

-- no answer is reported where none of these is found
pub no_colon : (told rest : List ℕ) → told ≡ codes "no cut, answer " ++ rest → has 58 rest ≡ false → (answer : List ℕ) → IsAnswerTold answer told → ⊥
no_colon told rest e n answer h = not_lacking 58 rest answer h.0 n (rest_again told (codes "no cut, answer ") rest (answer ++ 58 ∷ h.0) e h.1)

-- one answer is reported
pub answer_unique : (told a b : List ℕ) → IsAnswerTold a told → IsAnswerTold b told → a ≡ b
answer_unique told a b g h = (cut_unique 58 a b g.0 h.0 g.2 h.2 (rest_again told (codes "no cut, answer ") (a ++ 58 ∷ g.0) (b ++ 58 ∷ h.0) g.1 h.1)).0

pub answer_of_uncut : (answer answers : List ℕ) → has 58 answer ≡ false → IsAnswerTold answer (told_uncut answer answers)
unfolding told_uncut
answer_of_uncut answer answers h = (
  32 ∷ (in_line answers ++ codes "as after"),
  ap (λ l. codes "no cut, answer " ++ l) (append_assoc (answer ++ codes ": ") (in_line answers) (codes "as after")
      ∙ append_assoc answer (codes ": ") (in_line answers ++ codes "as after")),
  h,
)
