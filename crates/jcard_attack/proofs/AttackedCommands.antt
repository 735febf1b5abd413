-- Lists of commands that were attacked.
use Rattle.std.proofs.Common.{◌≡◌, ◌∙◌, ℕ, ◌+◌, ◌<◌, List, [], ◌∷◌, ◌++◌, length, get_or, take, map, ap, sym, subst}
use Rattle.std.proofs.lemmas.List.{map-append, take_more}
use Rattle.jcard_sweeps.specs.ScriptLines.{Line, line_of}
use Rattle.jcard_sweeps.specs.declared.script_lines.ScriptLine.{ScriptLine}
use Rattle.jcard_attack.specs.Each.{AreStruck, IsAttackedIn, IsLineStruck}
use Rattle.jcard_attack.specs.declared.aftermaths.Attacked.{Attacked}
use Rattle.jcard_attack.specs.declared.each.LineAttack.{LineAttack}
use Rattle.jcard_attack.specs.declared.sweep.Sought.{Sought}

module _ (words probe : List ℕ) (instructions : ℕ) (sought : Sought) where
  -- the command in a line was attacked
  abbrev pub IsStruckIn : Line → LineAttack → Type 0
  IsStruckIn l found = (c : Attacked) × IsAttackedIn probe instructions l c × IsLineStruck words l.number c sought found

  -- none yet
  pub each_none : AreStruck words probe instructions sought [] []
  unfolding AreStruck
  each_none = tt

  -- one command more
  each_more : (lines : List Line) (attacks : List LineAttack) (l : Line) (found : LineAttack) → AreStruck words probe instructions sought lines attacks
      → IsStruckIn l found → AreStruck words probe instructions sought (lines ++ l ∷ []) (attacks ++ found ∷ [])
  unfolding AreStruck
  each_more [] [] l found a is = (is, tt)
  each_more [] (x ∷ xs) l found a is = absurd a
  each_more (y ∷ ys) [] l found a is = absurd a
  each_more (y ∷ ys) (x ∷ xs) l found a is = (a.0, each_more ys xs l found a.1 is)

  -- the command in the next line
  pub each_next : (lines : List ScriptLine) (i : ℕ) (d : ScriptLine) (attacks next : List LineAttack) (found : LineAttack) → i < length lines
      → AreStruck words probe instructions sought (map line_of (take i lines)) attacks → IsStruckIn (line_of (get_or lines i d)) found
      → next ≡ attacks ++ found ∷ [] → AreStruck words probe instructions sought (map line_of (take (i + 1) lines)) next
  each_next lines i d attacks next found h a is e =
      let before : List Line = map line_of (take i lines) in
      let line : Line = line_of (get_or lines i d) in
      let step : map line_of (take (i + 1) lines) ≡ before ++ line ∷ [] = ap (map line_of) (take_more lines i d h)
      ∙ map-append line_of (take i lines) (get_or lines i d ∷ []) in
      subst (λ (l : List Line). AreStruck words probe instructions sought l next) (sym step)
      (subst (λ (xs : List LineAttack). AreStruck words probe instructions sought (before ++ line ∷ []) xs) (sym e)
      (each_more before attacks line found a is))
