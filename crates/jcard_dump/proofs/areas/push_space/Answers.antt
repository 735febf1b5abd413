use Rattle.std.proofs.Common.{◌≡◌, ◌∙◌, ◌-◌, ◌++◌, OnOk, ℕ, List, [], Result, Ok, Err, ap, ap₂, append_assoc, codes, subst}
use Rattle.std.specs.declared.alloc.AllocError.{AllocError}
use Rattle.jc_commit.specs.Image.{limit_of, top_of}
use Rattle.jcard_dump.specs.Texts.{labelled_text}
use Rattle.jcard_dump.proofs.areas.push_space.Goals as goal

-- a text that two pushes made longer, the second by a number that is this one
then_pushed : (r : Result Unit AllocError) (old mid new a before after : List ℕ) (m n : ℕ) → mid ≡ old ++ a → m ≡ n
    → OnOk r (new ≡ mid ++ labelled_text before m after) → OnOk r (new ≡ old ++ (a ++ labelled_text before n after))
then_pushed (Ok done) old mid new a before after m n first same second =
    second ∙ ap (λ l. l ++ labelled_text before m after) first ∙ append_assoc old a (labelled_text before m after)
    ∙ ap (λ i. old ++ (a ++ labelled_text before i after)) same
then_pushed (Err fault) old mid new a before after m n first same second = tt

pub returns : goal.returns
returns g c =
    let w = g.S.WordStore.words c.args.store.now in
    let old = c.args.text.now.items in
    let mid = c.push_labelled.new.text.items in
    let first = subst (λ (n : ℕ). mid ≡ old ++ labelled_text (codes "top ") n (codes ", free ")) c.read-top.ensures c.in_ok-push_labelled.ensures in
    then_pushed c.push_labelled-2.result old mid c.push_labelled-2.new.text.items (labelled_text (codes "top ") (top_of w) (codes ", free ")) []
    (codes " words, reset area ") (c.heap_end.result - c.read-top.result) (limit_of w - top_of w) first
    (ap₂ (λ (a b : ℕ). a - b) c.heap_end.ensures c.read-top.ensures) c.push_labelled-2.ensures
