-- Lists of commands that were cut.
use Rattle.std.proofs.Common.{◌≡◌, ◌∙◌, ℕ, ◌+◌, ◌<◌, List, [], ◌∷◌, ◌++◌, Option, length, get_or, take, map, ap, sym, subst, inl, inr}
use Rattle.std.proofs.lemmas.List.{map-append, take_more}
use Rattle.jcard_outcomes.specs.declared.each.LineSweep.{LineSweep}
use Rattle.jcard_sweeps.specs.ScriptLines.{Line, line_of}
use Rattle.jcard_sweeps.specs.declared.command.Behind.{Behind}
use Rattle.jcard_sweeps.specs.declared.script_lines.ScriptLine.{ScriptLine}
use Rattle.jcard_tear.specs.Faults.{IsLineUncut}
use Rattle.jcard_sweeps.specs.Runs.{Runs}
use Rattle.jcard_tear.specs.Sweep.{AreSwept, IsLineOutcome, IsLineTold}
use Rattle.jcard_sweeps.specs.declared.sweep_fault.TearFault.TheVariants.{Down as DownAt}
use Rattle.jcard_outcomes.specs.declared.each.LineOutcome.TheVariants.{Down}

-- one command more
pub swept_more : (words : List ℕ) (given : Option (List ℕ)) (behind : Behind) (lines : List Line) (sweeps : List LineSweep) (l : Line) (s : LineSweep)
    → AreSwept words given behind lines sweeps → IsLineTold words given behind l s
    → AreSwept words given behind (lines ++ l ∷ []) (sweeps ++ s ∷ [])
unfolding AreSwept
swept_more words given behind [] [] l s a t = (t, tt)
swept_more words given behind [] (x ∷ xs) l s a t = absurd a
swept_more words given behind (y ∷ ys) [] l s a t = absurd a
swept_more words given behind (y ∷ ys) (x ∷ xs) l s a t = (a.0, swept_more words given behind ys xs l s a.1 t)

-- none yet
pub swept_none : (words : List ℕ) (given : Option (List ℕ)) (behind : Behind) → AreSwept words given behind [] []
unfolding AreSwept
swept_none words given behind = tt

-- the command of the next line
pub swept_next : (words : List ℕ) (given : Option (List ℕ)) (behind : Behind) (lines : List ScriptLine) (i : ℕ) (d : ScriptLine)
    (sweeps next : List LineSweep) (s : LineSweep) → i < length lines → AreSwept words given behind (map line_of (take i lines)) sweeps
    → IsLineTold words given behind (line_of (get_or lines i d)) s → next ≡ sweeps ++ s ∷ []
    → AreSwept words given behind (map line_of (take (i + 1) lines)) next
swept_next words given behind lines i d sweeps next s h a t e =
    let before : List Line = map line_of (take i lines) in
    let line : Line = line_of (get_or lines i d) in
    let step : map line_of (take (i + 1) lines) ≡ before ++ line ∷ [] = ap (map line_of) (take_more lines i d h)
    ∙ map-append line_of (take i lines) (get_or lines i d ∷ []) in
    subst (λ (l : List Line). AreSwept words given behind l next) (sym step)
    (subst (λ (xs : List LineSweep). AreSwept words given behind (before ++ line ∷ []) xs) (sym e)
    (swept_more words given behind before sweeps line s a t))

-- the card is down at the command in a line
pub down_outcome : (words : List ℕ) (given : Option (List ℕ)) (behind : Behind) (l : Line) → IsLineUncut words given behind l 1 DownAt
    → IsLineOutcome words given behind l Down
down_outcome words given behind l (inl h) = absurd h
down_outcome words given behind l (inr h) =
    let c = h.0 in
    let is = h.5 in
    let runs = subst (λ (b : Behind). Runs b.instructions words (c.before.now ++ c.line.now) is.0 is.1) h.3 is.2 in
    (is.0, is.1, subst (λ t. Runs behind.instructions words t is.0 is.1) (ap (λ t. t ++ c.line.now) h.1 ∙ ap (λ t. l.before ++ t) h.2) runs, is.3)
