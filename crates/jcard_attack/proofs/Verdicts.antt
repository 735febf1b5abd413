-- Steps of the verdicts of all commands.
use Rattle.std.proofs.Common.{◌≡◌, ◌∙◌, Bool, ℕ, ◌+◌, ◌<◌, ◌≤◌, ◌++◌, List, length, get_or, drop, ap, sym, append_assoc, append-nil}
use Rattle.std.proofs.lemmas.List.{drop_all}
use Rattle.jcard_texts.proofs.Items.{drop_at}
use Rattle.jcard_attack.specs.Each.{line_text, verdicts_text}
use Rattle.jcard_attack.specs.declared.each.LineAttack.{LineAttack}

-- the verdict over the next command is reported
pub verdict_more : (rows : Bool) (attacks : List LineAttack) (i : ℕ) (found : LineAttack) (text next : List ℕ) → i < length attacks → found ≡ get_or attacks i found
    → next ≡ text ++ line_text rows found → next ++ verdicts_text rows (drop (i + 1) attacks) ≡ text ++ verdicts_text rows (drop i attacks)
verdict_more rows attacks i found text next h e told = ap (λ t. t ++ verdicts_text rows (drop (i + 1) attacks)) told
    ∙ append_assoc text (line_text rows found) (verdicts_text rows (drop (i + 1) attacks))
    ∙ ap (λ t. text ++ t) (sym (ap (verdicts_text rows) (drop_at attacks i found h e)))

-- after the last none is left
pub verdicts_end : (rows : Bool) (attacks : List LineAttack) (i : ℕ) (text : List ℕ) → length attacks ≤ i → text ≡ text ++ verdicts_text rows (drop i attacks)
verdicts_end rows attacks i text h = sym (ap (λ t. text ++ t) (ap (verdicts_text rows) (drop_all i attacks h)) ∙ append-nil text)
