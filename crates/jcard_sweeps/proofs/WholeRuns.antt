-- Scripts that were carried out to their end, over readers and writers whose bytes are known.
use Rattle.std.proofs.Common.{◌≡◌, ◌∙◌, inl, inr, ℕ, Bool, true, false, List, ◌++◌, Option, Some, None, Ok, ap, refl, sym, subst, append-nil}
use Rattle.std.specs.Bool.{OnTrue}
use Rattle.std.specs.Io.KnownBytes.{Consumes}
use Rattle.jc_words.specs.Store.{FuseStoreValue, MemStoreValue}
use Rattle.jcard_script.specs.Script.{EndsSelecting, EndsWithin, IsWholeScript}

-- a script that came to its end was read whole
pub ran_whole : (budget : ℕ) (input : List ℕ) (left : Option (List ℕ)) (at_end : Bool) (script text : List ℕ) (before after : FuseStoreValue)
    → Consumes (Some input) left script → OnTrue at_end (IsWholeScript left script) → EndsWithin budget (Ok tt) before after at_end script text
    → EndsWithin budget (Ok tt) before after true input text
ran_whole budget input None at_end script text before after c o e = absurd c
ran_whole budget input (Some rest) at_end script text before after c o (inl f) = absurd f
ran_whole budget input (Some rest) at_end script text before after c o (inr e) =
    let whole = subst (λ b. OnTrue b (IsWholeScript (Some rest) script)) e.4.0 o in
    let same : script ≡ input = sym (c ∙ ap (λ l. script ++ l) whole.0 ∙ append-nil script) in
    subst (λ s. EndsWithin budget (Ok tt) before after true s text) same (inr (e.0, e.1, e.2, e.3, (refl, e.4.1)))

-- the same where it is known what is selected at its end
pub selected_whole : (budget : ℕ) (input : List ℕ) (left : Option (List ℕ)) (at_end : Bool) (script text : List ℕ) (before after : FuseStoreValue)
    (selected : Option (List ℕ)) → Consumes (Some input) left script → OnTrue at_end (IsWholeScript left script)
    → EndsSelecting budget (Ok tt) before after at_end script text selected → EndsSelecting budget (Ok tt) before after true input text selected
selected_whole budget input None at_end script text before after selected c o e = absurd c
selected_whole budget input (Some rest) at_end script text before after selected c o (inl f) = absurd f.0
selected_whole budget input (Some rest) at_end script text before after selected c o (inr e) =
    let whole = subst (λ b. OnTrue b (IsWholeScript (Some rest) script)) e.4.0 o in
    let same : script ≡ input = sym (c ∙ ap (λ l. script ++ l) whole.0 ∙ append-nil script) in
    subst (λ s. EndsSelecting budget (Ok tt) before after true s text selected) same (inr (e.0, e.1, e.2, e.3, (refl, e.4.1), e.5))

-- a store in memory under a fuse that is not armed
abbrev pub under_fuse : MemStoreValue → FuseStoreValue
under_fuse m = record {
  words = m.words;
  down = false;
  passed = 0;
  refusals = record { count = 0; fuse = None; faults = 0 };
  down_below = false;
  passed_below = m.passed;
}
