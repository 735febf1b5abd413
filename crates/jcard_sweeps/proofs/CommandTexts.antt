-- The text of a command.
use Rattle.std.proofs.Common.{◌≡◌, ◌∙◌, ℕ, add-one, drop, drop-cons, append_assoc, append-nil, false, true, Bool, ◌+◌, ◌<◌, ◌≤◌, List, [], ◌∷◌, ◌++◌, length, get_or, ap, sym}
use Rattle.std.proofs.lemmas.List.{drop_all}
use Rattle.std.specs.Prelude.{if◌then◌else◌}
use Rattle.jcard_sweeps.specs.ScriptLines.{command_text, is_blank}

byte_at : (line : List ℕ) (i : ℕ) → i < length line → drop i line ≡ get_or line i 0 ∷ drop (i + 1) line
byte_at line i h = rw add-one (drop-cons line i 0 h)

text_at : (line : List ℕ) (i : ℕ) (b : Bool) → i < length line → is_blank (get_or line i 0) ≡ b
    → command_text (drop i line) ≡ (if b then command_text (drop (i + 1) line) else get_or line i 0 ∷ command_text (drop (i + 1) line))
unfolding command_text
text_at line i b h e = ap command_text (byte_at line i h)
    ∙ ap (λ x. if x then command_text (drop (i + 1) line) else get_or line i 0 ∷ command_text (drop (i + 1) line)) e

-- a byte belongs to it
pub text_kept : (line text next : List ℕ) (i : ℕ) → i < length line → is_blank (get_or line i 0) ≡ false
    → next ≡ text ++ get_or line i 0 ∷ [] → next ++ command_text (drop (i + 1) line) ≡ text ++ command_text (drop i line)
text_kept line text next i h n e =
    ap (λ t. t ++ command_text (drop (i + 1) line)) e ∙ append_assoc text (get_or line i 0 ∷ []) (command_text (drop (i + 1) line))
    ∙ ap (λ t. text ++ t) (sym (text_at line i false h n))

-- it ends the line
pub text_passed : (line text : List ℕ) (i : ℕ) → i < length line → is_blank (get_or line i 0) ≡ true
    → text ++ command_text (drop (i + 1) line) ≡ text ++ command_text (drop i line)
text_passed line text i h y = ap (λ t. text ++ t) (sym (text_at line i true h y))

pub text_end : (line text : List ℕ) (i : ℕ) → length line ≤ i → text ++ command_text (drop i line) ≡ text
unfolding command_text
text_end line text i h = ap (λ t. text ++ command_text t) (drop_all i line h) ∙ append-nil text
