-- The components that are read of a package's record.
use Rattle.std.proofs.Common.{◌≡◌, ℕ, zero, suc, ◌/◌, ◌%◌, ◌<◌, ◌==◌, inl, inr, List, [], ◌∷◌, length, drop, get_or, sym, ◌∙◌, ap, subst, refl, arith, Option}
use Rattle.std.proofs.Common.{Some, None, if◌then◌else◌}
use Rattle.std.specs.Option.{option_map}
use Rattle.std.proofs.lemmas.Bool.{cases_eq, eq-eqb, ne_eqb}
use Rattle.std.proofs.lemmas.List.FromFn.{fill_by_all}
use Rattle.std.proofs.lemmas.Option.{none-some, same_Some}
use Rattle.jc_heap.specs.declared.component.Span.{Span}
use Rattle.jc_heap.specs.declared.object.Kind.{Kind}
use Rattle.jc_heap.specs.Component.{AreInfosOfBytes, HasBytes, info_of}
use Rattle.jc_heap.specs.Packed.{packed_byte, bytes_of_packed}
use Rattle.jc_heap.specs.Package.{AreComponents, package_record}
use Rattle.jc_heap.proofs.ReadBack.{reads_back}
use Rattle.jc_packages.specs.Reading.{text_at, text_in}

-- the info with a tag among components
abbrev pub look : List (ℕ × List ℕ) → ℕ → Option (List ℕ)
look [] tag = None
look (c ∷ cs) tag = if c.0 == tag then Some c.1 else look cs tag

-- an info with its tag and its size in front
abbrev pub text_of : ℕ → List ℕ → List ℕ
text_of tag info = tag ∷ length info / 256 ∷ length info % 256 ∷ info

found : (cs : List (ℕ × List ℕ)) (tag : ℕ) (info : List ℕ) → look cs tag ≡ Some info → (k : ℕ) × (k < length cs) × (get_or cs k (0, []) ≡ (tag, info))
found [] tag info e = absurd (none-some info e)
found (c ∷ cs) tag info e = elim (cases_eq c.0 tag) [
  | inl is ↦
      let same : c.1 ≡ info = same_Some c.1 info (sym (ap (λ b. if b then Some c.1 else look cs tag) (eq-eqb c.0 tag is)) ∙ e) in
      (0, omega arith, λ i. (is i, same i))
  | inr other ↦
      let f = found cs tag info (sym (ap (λ b. if b then Some c.1 else look cs tag) (ne_eqb c.0 tag other)) ∙ e) in
      (suc f.0, let below = f.1 in omega (arith, below), f.2)
]

none : (cs : List (ℕ × List ℕ)) (tag : ℕ) → look cs tag ≡ None → (k : ℕ) → k < length cs → (get_or cs k (0, [])).0 ≡ tag → ⊥
none [] tag e k lt is = absurd (omega (arith, lt))
none (c ∷ cs) tag e zero lt is = none-some c.1 (sym e ∙ ap (λ b. if b then Some c.1 else look cs tag) (eq-eqb c.0 tag is))
none (c ∷ cs) tag e (suc k) lt is = elim (cases_eq c.0 tag) [
  | inl here ↦ none-some c.1 (sym e ∙ ap (λ b. if b then Some c.1 else look cs tag) (eq-eqb c.0 tag here))
  | inr other ↦ none cs tag (sym (ap (λ b. if b then Some c.1 else look cs tag) (ne_eqb c.0 tag other)) ∙ e) k (omega (arith, lt)) is
]

bytes_are : (info words : List ℕ) → ((i : ℕ) → i < length info → packed_byte words i ≡ get_or info i 0) → bytes_of_packed (length info) words ≡ info
unfolding bytes_of_packed
bytes_are info words same = sym (fill_by_all (packed_byte words) info (length info) 0 refl (λ k lt. sym (same k lt)))

text_is : (tag : ℕ) (words info : List ℕ) (s : Span) → HasBytes s words info → text_at tag words s ≡ text_of tag info
text_is tag words info s has =
    ap (λ n. tag ∷ n / 256 ∷ n % 256 ∷ bytes_of_packed n (drop s.at words)) has.size
    ∙ ap (λ l. tag ∷ length info / 256 ∷ length info % 256 ∷ l) (bytes_are info (drop s.at words) has.bytes)

-- of a record that was written, each component is read as it was written, and no other one
pub text_back : (at : ℕ) (cs : List (ℕ × List ℕ)) (xs : List (Kind × List ℕ)) (rest : List ℕ) → AreComponents cs → AreInfosOfBytes cs → (tag : ℕ) → 0 < tag
    → (o : Option (List ℕ)) → look cs tag ≡ o →
    text_in (package_record at cs xs rest) tag ≡ option_map (text_of tag) o
text_back at cs xs rest a small tag some None e = ap (option_map (text_at tag (package_record at cs xs rest)))
    (reads_back.no_other at cs xs rest a tag some (none cs tag e))
text_back at cs xs rest a small tag some (Some info) e =
    let words : List ℕ = package_record at cs xs rest in
    let f = found cs tag info e in
    let r = reads_back.each at cs xs rest a small f.0 f.1 in
    let there : info_of words tag ≡ Some r.0 = subst (λ c. info_of words c.0 ≡ Some r.0) f.2 r.1.0 in
    let has : HasBytes r.0 words info = subst (λ c. HasBytes r.0 words c.1) f.2 r.1.1 in
    ap (option_map (text_at tag words)) there ∙ ap Some (text_is tag words info r.0 has)
