-- What a fault makes of a command, beside the command without one.
use Rattle.std.specs.Prelude.{ℕ, ◌≡◌, ◌-◌, ◌&&◌, not, Bool, true, false, if◌then◌else◌, List, [], ◌∷◌, codes, drop, length}
use Rattle.std.specs.Str.{bytes_eq}
use Rattle.jcard_sweeps.specs.LastLine.{IsLastLine}
use Rattle.jcard_outcomes.specs.Heaps.{StandsAsAfter}
use Rattle.jcard_outcomes.specs.Standing as standings
use Rattle.jcard_outcomes.specs.declared.standing.Left.{Left}
use Rattle.jcard_outcomes.specs.declared.standing.Standing.{Standing}
use Rattle.jcard_attack.specs.declared.outcomes.Outcome.{Outcome}
use Rattle.jcard_attack.specs.declared.outcomes.Outcome.TheVariants.{Undisturbed, Silent, Accepted, Other, BrokenOff, Refused, Cut}

-- the heap, the tries of PINs among it, and the answers of the probe are those that the command left
abbrev pub IsSameAs : Left → Left → Type 0
IsSameAs undisturbed left = StandsAsAfter [] undisturbed.words.items left.words.items × (left.answers.items ≡ undisturbed.answers.items)

-- an answer ends by these digits
abbrev pub is_accepted : List ℕ → List ℕ → Bool
is_accepted end answer = bytes_eq (drop (length answer - length end) answer) end

-- an answer that is another: the card is down; it ends as is accepted; it has the status word of what was broken off; or it is any other
abbrev pub other_answer : List ℕ → List ℕ → Outcome
other_answer accepted answer = if bytes_eq answer (codes "down") then Cut
    else (if is_accepted accepted answer then Other
    else (if is_accepted (codes "6F00") answer then BrokenOff else Refused))

-- the last answer after a command: the last line of the probe's answers, or the command's own where there are none
abbrev pub IsLastAnswer : List ℕ → List ℕ → List ℕ → Type 0
IsLastAnswer answer [] last = last ≡ answer
IsLastAnswer answer (first ∷ more) last = IsLastLine (first ∷ more) last

-- the last answer ends as is accepted with a fault, and not without one
abbrev pub gives_access : List ℕ → List ℕ → List ℕ → Bool
gives_access accepted undisturbed last = is_accepted accepted last && not (is_accepted accepted undisturbed)

-- the answer is the same, with the same heap and answers of the probe, or with others
abbrev pub same_answer : Bool → Outcome
same_answer true = Undisturbed
same_answer false = Silent

-- what a fault makes of a command: it gives access; the command has the same answer, with the same heap and answers of the probe, or with others;
-- or it has another
abbrev pub judged : List ℕ → List ℕ → List ℕ → Bool → Bool → Outcome
judged accepted undisturbed answer access same = if access then Accepted
    else (if bytes_eq answer undisturbed then same_answer same else other_answer accepted answer)

-- a heap, no word of which is spared, and answers of the probe stand so beside those before the command and those that it leaves
abbrev pub IsStanding : Left → Left → Left → Standing → Type 0
IsStanding before undisturbed left standing =
    standings.IsStanding [] [] before undisturbed left.words.items left.answers.items standing
