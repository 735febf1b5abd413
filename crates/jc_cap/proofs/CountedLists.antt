-- Lists after a byte of count.
use Rattle.std.proofs.Common.{◌≡◌, ℕ, List, ◌∷◌, ◌++◌, length, Ok, sym, ap, ◌∙◌, append_assoc}
use Rattle.jc_cap.specs.Reading.{◌>>=◌, Field, u1_at, many_at}
use Rattle.jc_cap.specs.Grammar.{AreEncodedInTurn, ReadsEncodings}
use Rattle.jc_cap.proofs.Many.{bind_ok}
use Rattle.jc_cap.proofs.Telling.{u1_takes, many_takes}

pub counted_takes : {A : Type 0} (read : List ℕ → Field A) (Is : A → List ℕ → Type 0) → ReadsEncodings read Is → (bytes : List ℕ) (xs : List A) (rest : List ℕ)
    → (u1_at bytes >>= λ count. many_at read count.0 count.1) ≡ Ok (xs, rest)
    → (parts : List ℕ) × AreEncodedInTurn Is xs parts × (bytes ≡ (length xs ∷ parts) ++ rest)
counted_takes read Is tells bytes xs rest e =
    let count = bind_ok (u1_at bytes) (λ (c : ℕ × List ℕ). many_at read c.0 c.1) (xs, rest) e in
    let t = many_takes read Is tells count.0.0 count.0.1 xs rest count.2 in (
      t.0.text,
      t.0.is,
      u1_takes bytes count.0.0 count.0.1 count.1 ∙ ap (λ (s : List ℕ). count.0.0 ∷ s) t.0.parts
          ∙ ap (λ (k : ℕ). k ∷ (t.0.text ++ rest)) (sym t.1),
    )

-- one part after another
pub joined : (bytes a b rest0 rest : List ℕ) → bytes ≡ a ++ rest0 → rest0 ≡ b ++ rest → bytes ≡ (a ++ b) ++ rest
joined bytes a b rest0 rest e f = e ∙ ap (λ (s : List ℕ). a ++ s) f ∙ sym (append_assoc a b rest)
