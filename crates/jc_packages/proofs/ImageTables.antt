-- The platform table of an image, and its text.
use Rattle.std.proofs.Common.{◌≡◌, ◌∙◌, ℕ, ◌+◌, ◌/◌, ◌≤◌, ◌<◌, List, length, drop, get_or, sym, subst, arith, Ok, Err}
use Rattle.std.proofs.lemmas.List.{get_or-drop, get_or-take, length-drop, length-take-le}
use Rattle.std.specs.Prelude.{Result, MatchResult}
use Rattle.jc_words.specs.Layout.{text_length_address, text_start}
use Rattle.jc_heap.specs.Image.{table_text, text_words}
use Rattle.jc_image.proofs.TextBytes.{length-table_text}
use Rattle.jc_platform.specs.Tokens.{Tokens}
use Rattle.jc_platform.specs.Table.{Reads}
use Rattle.jc_packages.specs.Tables.{HasTable, HasText, IsNoTable}
use Rattle.jc_packages.specs.declared.fault.ReadFault.{ReadFault}
use Rattle.jc_packages.specs.declared.fault.ReadFault.TheVariants.{Damaged}

-- a table's text is not longer than a table may be
pub too_long : (w : List ℕ) → 16384 < get_or w text_length_address 0 → (t : Tokens) → HasTable w t → ⊥
too_long w h t table = omega (arith, table.1.0, length-table_text w)

-- the text of a table, or of none
pub table_told : (r : Result Tokens ReadFault) (w text : List ℕ) → text_start + (get_or w text_length_address 0 + 1) / 2 ≤ length w → text ≡ table_text w
    → MatchResult r (λ t. Reads text (Ok t)) (λ fault. (fault ≡ Damaged) × ((t : Tokens) → Reads text (Ok t) → ⊥))
    → MatchResult r (λ t. HasTable w t) (λ fault. IsNoTable w fault)
table_told (Ok t) w text fits same told = (fits, subst (λ (l : List ℕ). Reads l (Ok t)) same told)
table_told (Err fault) w text fits same told = subst (λ (f : ReadFault). IsNoTable w f) (sym told.0)
    (λ t table. told.1 t (subst (λ (l : List ℕ). Reads l (Ok t)) (sym same) table.1))

-- the words of a table text that is there
pub length-text_words : (w : List ℕ) → HasText w → length (text_words w) ≡ (get_or w text_length_address 0 + 1) / 2
length-text_words w has = length-take-le ((get_or w text_length_address 0 + 1) / 2) (drop text_start w) (omega (arith, has, length-drop text_start w))

pub text_words-word : (w : List ℕ) (j : ℕ) → HasText w → j < length (text_words w) → get_or (text_words w) j 0 ≡ get_or w (text_start + j) 0
text_words-word w j has below =
    get_or-take ((get_or w text_length_address 0 + 1) / 2) (drop text_start w) j 0 (omega (arith, below, length-text_words w has)) ∙ get_or-drop text_start w j 0
