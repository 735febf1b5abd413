-- Lines of two texts that are joined.
use Rattle.std.proofs.Common.{◌≡◌, ◌∙◌, ℕ, ◌<◌, ◌==◌, Bool, true, false, cond, if◌then◌else◌, List, [], ◌∷◌, ◌++◌, length, ap, arith, refl}
use Rattle.std.specs.List.{onto_first}
use Rattle.std.specs.Str.Lines.{lines, lines_of_parts, strip_carriage_return}
use Rattle.jcard_script.specs.Script.{ended_lines, ended_parts}
use Rattle.jcard_script.specs.Session.{last_part, unfinished_line}
use Rattle.jcard_script.proofs.Parts.{parts, parts_some}

-- parts after others, the last of which goes on in the first
abbrev glued : List (List ℕ) → List (List ℕ) → List (List ℕ)
glued [] qs = qs
glued (x ∷ []) [] = x ∷ []
glued (x ∷ []) (q ∷ qs) = (x ++ q) ∷ qs
glued (x ∷ y ∷ more) qs = x ∷ glued (y ∷ more) qs

glue_step : (t : Bool) (c : ℕ) (ps qs rs : List (List ℕ)) → 0 < length ps → rs ≡ glued ps qs
    → cond t ([] ∷ rs) (onto_first c rs) ≡ glued (cond t ([] ∷ ps) (onto_first c ps)) qs
glue_step t c [] qs rs h e = absurd (omega arith)
glue_step true c (x ∷ ps) qs rs h e = rw e refl
glue_step false c (x ∷ []) [] rs h e = rw e refl
glue_step false c (x ∷ []) (q ∷ qs) rs h e = rw e refl
glue_step false c (x ∷ y ∷ ps) qs rs h e = rw e refl

nil_glued : (qs : List (List ℕ)) → 0 < length qs → qs ≡ glued ([] ∷ []) qs
nil_glued [] h = absurd (omega arith)
nil_glued (q ∷ qs) h = refl

parts_glued : (s t : List ℕ) → parts (s ++ t) ≡ glued (parts s) (parts t)
parts_glued [] t = nil_glued (parts t) (parts_some t)
parts_glued (c ∷ s) t = glue_step (c == 10) c (parts s) (parts t) (parts (s ++ t)) (parts_some s) (parts_glued s t)

cons_lines : (x : List ℕ) (zs : List (List ℕ)) → 0 < length zs → lines_of_parts (x ∷ zs) ≡ strip_carriage_return x ∷ lines_of_parts zs
cons_lines x [] h = absurd (omega arith)
cons_lines x (z ∷ zs) h = refl

glued_some : (y : List ℕ) (ps qs : List (List ℕ)) → 0 < length (glued (y ∷ ps) qs)
glued_some y [] [] = omega arith
glued_some y [] (q ∷ qs) = omega arith
glued_some y (z ∷ ps) qs = omega arith

lines_glued : (ps qs : List (List ℕ)) → 0 < length ps → last_part ps ≡ [] → lines_of_parts (glued ps qs) ≡ ended_parts ps ++ lines_of_parts qs
lines_glued [] qs h e = absurd (omega arith)
lines_glued (x ∷ []) [] h e = ap (λ (l : List ℕ). if length l == 0 then [] else l ∷ []) e
lines_glued (x ∷ []) (q ∷ qs) h e = ap (λ (l : List ℕ). lines_of_parts ((l ++ q) ∷ qs)) e
lines_glued (x ∷ y ∷ ps) qs h e = cons_lines x (glued (y ∷ ps) qs) (glued_some y ps qs)
    ∙ ap (λ l. strip_carriage_return x ∷ l) (lines_glued (y ∷ ps) qs (omega arith) e)

-- after a text whose last line has ended come the lines of the other
pub lines_joined : (s t : List ℕ) → unfinished_line s ≡ [] → lines (s ++ t) ≡ ended_lines s ++ lines t
lines_joined s t e = ap lines_of_parts (parts_glued s t) ∙ lines_glued (parts s) (parts t) (parts_some s) e
