-- How what a cut left compares with what stood before the command, and with what it leaves where it is not cut.
use Rattle.std.specs.Prelude.{ℕ, ◌≡◌, Bool, true, false, List, Option, IfSome, MatchOption}
use Rattle.std.specs.Bool.{MatchBool}
use Rattle.jcard_outcomes.specs.Heaps.{AgreeAtSpared, IsDifference, StandsAsAfter, StandsAsBefore, words_above}
use Rattle.jcard_outcomes.specs.declared.heaps.Difference.{Difference}
use Rattle.jcard_outcomes.specs.declared.standing.Left.{Left}
use Rattle.jcard_outcomes.specs.declared.standing.Likeness.{Likeness}
use Rattle.jcard_outcomes.specs.declared.standing.Likeness.TheVariants.{Same, ButTries, ButAnswers, Other}
use Rattle.jcard_outcomes.specs.declared.standing.Standing.{Standing}
use Rattle.jcard_outcomes.specs.declared.standing.Standing.TheVariants.{Before, BeforeButTries, After, AfterButTries, Answers, Changed, ChangedByCalls}

-- the heap stands so, or not; the tries of PINs are the same, or not; and the answers are. Where tries differ, answers may show them
abbrev pub IsLikeness : Type 0 → Type 0 → Type 0 → Likeness → Type 0
IsLikeness Stands Tries Answered Same = Stands × Tries × Answered
IsLikeness Stands Tries Answered ButTries = Stands × (Tries → ⊥)
IsLikeness Stands Tries Answered ButAnswers = Stands × Tries × (Answered → ⊥)
IsLikeness Stands Tries Answered Other = Stands → ⊥

-- how a heap and answers compare with those before
abbrev pub IsLikeBefore : List ℕ → Left → List ℕ → List ℕ → Likeness → Type 0
IsLikeBefore spared before heap answers likeness = IsLikeness (StandsAsBefore spared before.words.items heap)
    (AgreeAtSpared spared before.words.items heap) (answers ≡ before.answers.items) likeness

-- how they compare with those after
abbrev pub IsLikeAfter : List ℕ → Left → List ℕ → List ℕ → Likeness → Type 0
IsLikeAfter spared after heap answers likeness = IsLikeness (StandsAsAfter spared after.words.items heap)
    (AgreeAtSpared spared after.words.items heap) (answers ≡ after.answers.items) likeness

-- what the two comparisons say: like before, like after, or neither, and then this word changed
abbrev pub IsJudged : Option Difference → Likeness → Likeness → Standing → Type 0
IsJudged changed Same after s = s ≡ Before
IsJudged changed ButTries after s = s ≡ BeforeButTries
IsJudged changed ButAnswers Same s = s ≡ After
IsJudged changed ButAnswers ButTries s = s ≡ AfterButTries
IsJudged changed ButAnswers ButAnswers s = s ≡ Answers
IsJudged changed ButAnswers Other s = s ≡ Answers
IsJudged changed Other Same s = s ≡ After
IsJudged changed Other ButTries s = s ≡ AfterButTries
IsJudged changed Other ButAnswers s = s ≡ Answers
IsJudged changed Other Other s = IfSome changed (λ d. s ≡ Changed d)

-- how many words are lost of a heap that stands so: where it is as before, nothing names those that stand above what stood before
abbrev pub lost_of : Standing → List ℕ → List ℕ → ℕ
lost_of Before before heap = words_above before heap
lost_of BeforeButTries before heap = words_above before heap
lost_of other before heap = 0

-- what was judged, where each word that is not as before was written by non-atomic calls, or not
abbrev pub told_of_calls : Bool → Standing → Standing
told_of_calls true (Changed d) = ChangedByCalls d
told_of_calls true Before = Before
told_of_calls true BeforeButTries = BeforeButTries
told_of_calls true After = After
told_of_calls true AfterButTries = AfterButTries
told_of_calls true Answers = Answers
told_of_calls true (ChangedByCalls d) = ChangedByCalls d
told_of_calls false judged = judged

-- what a cut left, a heap and answers, stands so beside what was before and what comes after; where the heap is not as before, this
-- word shows it. The lenient words are those that are spared and those that non-atomic calls of the command write: it is reported where no
-- other word of what stood before has changed
abbrev pub IsStanding : List ℕ → List ℕ → Left → Left → List ℕ → List ℕ → Standing → Type 0
IsStanding spared lenient before after heap answers s = (changed : Option Difference) × (like_before like_after : Likeness)
    × MatchOption changed (StandsAsBefore spared before.words.items heap) (λ d. IsDifference spared before.words.items heap d)
    × IsLikeBefore spared before heap answers like_before × IsLikeAfter spared after heap answers like_after
    × (judged : Standing) × IsJudged changed like_before like_after judged × (by_calls : Bool)
    × MatchBool by_calls (StandsAsBefore lenient before.words.items heap) (StandsAsBefore lenient before.words.items heap → ⊥)
    × (s ≡ told_of_calls by_calls judged)
