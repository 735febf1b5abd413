use Rattle.std.proofs.Common.{◌≡◌, ◌∙◌, ◌+◌, ◌-◌, ◌++◌, suc, List, [], ℕ, ap, sym, refl, append_assoc, append-nil, arith}
use Rattle.jc_objects.specs.declared.image_objects.ImageObjects.{ImageObjects}
use Rattle.jc_objects.specs.Changes.{changed_text, words_text}
use Rattle.jc_objects.proofs.changes.push_words.Goals as goal

text_none : (o : ImageObjects) (now : List ℕ) (a n : ℕ) → n ≡ 0 → words_text o now a n ≡ []
unfolding words_text
text_none o now a n none = rw none refl

text_more : (o : ImageObjects) (now : List ℕ) (a n : ℕ) → words_text o now a (suc n) ≡ words_text o now a n ++ changed_text o now (a + n)
unfolding words_text
text_more o now a n = refl

pub loop-address-init : goal.loop-address-init
loop-address-init c = record {
  told = sym (ap (λ (l : List ℕ). c.args.text.now.items ++ l) (text_none c.args.objects.now c.args.now.now c.args.first (c.args.first - c.args.first) (omega arith))
      ∙ append-nil c.args.text.now.items);
  further = omega arith;
  close = omega arith;
}

pub loop-address-preserved : goal.loop-address-preserved
loop-address-preserved c =
    let o = c.args.objects.now in
    let first : ℕ = c.args.first in
    let at : ℕ = c.loop-address.address in
    let old : List ℕ = c.args.text.now.items in
    let count : (at + 1) - first ≡ suc (at - first) = omega (arith, c.loop-address.invariant.further) in
    let place : first + (at - first) ≡ at = omega (arith, c.loop-address.invariant.further) in
    record {
      told = c.in_ok-push_word.ensures
          ∙ ap (λ (l : List ℕ). l ++ changed_text o c.args.now.now at) c.loop-address.invariant.told
          ∙ append_assoc old (words_text o c.args.now.now first (at - first)) (changed_text o c.args.now.now at)
          ∙ ap (λ (l : List ℕ). old ++ l) (sym (ap (words_text o c.args.now.now first) count ∙ text_more o c.args.now.now first (at - first)
          ∙ ap (λ (n : ℕ). words_text o c.args.now.now first (at - first) ++ changed_text o c.args.now.now n) place));
      further = omega (arith, c.loop-address.invariant.further);
      close = omega arith;
    }

pub returns : goal.returns
returns c =
    let count : c.loop-address.address - c.args.first ≡ c.args.end - c.args.first = omega (arith, c.loop-address.invariant.further) in
    c.loop-address.invariant.told ∙ ap (λ (n : ℕ). c.args.text.now.items ++ words_text c.args.objects.now c.args.now.now c.args.first n) count
