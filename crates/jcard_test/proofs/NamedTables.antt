-- The line that names a platform table.
use Rattle.std.proofs.Common.{◌≡◌, ◌≢◌, ◌∙◌, ℕ, zero, suc, ◌+◌, ◌<◌, ◌≤◌, List, [], ◌∷◌, ◌++◌, length, get_or, take, drop, ap, sym, subst, inl, inr, arith}
use Rattle.std.specs.Prelude.{All}
use Rattle.std.specs.String.{string_bytes}
use Rattle.std.proofs.lemmas.List.{take-append-drop, take_all, take_more}
use Rattle.std.proofs.lemmas.List.Elements.{All-append}
use Rattle.jcard_test.specs.Lines.{Says}
use Rattle.jcard_test.specs.NamedTable.{IsUnnamed, Names, NamesNone, SaysNothing}
use Rattle.jcard_test.specs.declared.line.Line.{Line}
use Rattle.jcard_test.specs.declared.line.Line.TheVariants.{Nothing}
use Rattle.jcard_test.specs.declared.numbered_line.Numbered.{Numbered}
use Rattle.jcard_texts.proofs.Items.{drop_at}

pub none_yet : (lines : List Numbered) → All SaysNothing (take 0 lines)
none_yet lines = λ k d h. absurd (omega arith)

-- a line more that says nothing
single : (line : Numbered) → SaysNothing line → All SaysNothing (line ∷ [])
single line says zero d h = says
single line says (suc k) d h = absurd (omega arith)

module _ (lines : List Numbered) (i : ℕ) (line : Numbered) (h : i < length lines) (e : line ≡ get_or lines i line) (before : All SaysNothing (take i lines)) where
  pub nothing_more : SaysNothing line → All SaysNothing (take (i + 1) lines)
  nothing_more says =
      let step : take (i + 1) lines ≡ take i lines ++ line ∷ [] = take_more lines i line h ∙ ap (λ (x : Numbered). take i lines ++ x ∷ []) (sym e) in
      subst (λ (ls : List Numbered). All SaysNothing ls) (sym step) (All-append SaysNothing (take i lines) (line ∷ []) before (single line says))

  -- the lines stand around this one
  around : lines ≡ take i lines ++ line ∷ drop (i + 1) lines
  around = sym (take-append-drop i lines) ∙ ap (λ (ls : List Numbered). take i lines ++ ls) (drop_at lines i line h e)

  pub named_here : (said : Line) (number : ℕ) (name : List ℕ) (rest : List Numbered) → Says (string_bytes line.text) said → Names name said
      → number ≡ line.number → rest ≡ drop (i + 1) lines → (b : List Numbered) × (l : Numbered) × (s : Line) × (lines ≡ b ++ l ∷ rest)
      × All SaysNothing b × (number ≡ l.number) × Says (string_bytes l.text) s × Names name s
  named_here said number name rest says names is behind = (
    take i lines,
    line,
    said,
    around ∙ ap (λ (ls : List Numbered). take i lines ++ line ∷ ls) (sym behind),
    before,
    is,
    says,
    names,
  )

  pub unnamed_here : (said : Line) → Says (string_bytes line.text) said → said ≢ Nothing → NamesNone said → IsUnnamed lines
  unnamed_here said says some none = inr (take i lines, drop (i + 1) lines, line, said, around, before, says, some, none)

pub unnamed_all : (lines : List Numbered) (i : ℕ) → length lines ≤ i → All SaysNothing (take i lines) → IsUnnamed lines
unnamed_all lines i h all = inl (subst (λ (ls : List Numbered). All SaysNothing ls) (take_all i lines h) all)
