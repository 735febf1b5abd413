-- The end of a message whose last block stays open.
use Rattle.std.proofs.Common.{◌≡◌, ◌∙◌, ◌≤◌, ◌+◌, ◌-◌, ◌*◌, ◌%◌, ℕ, zero, suc, Bool, true, false, List, Option, Some, None, [], ◌∷◌, ◌++◌, length, length-take-le, replicate, take, refl, sym, ap, arith, if◌then◌else◌}
use Rattle.std.specs.Prelude.{IfNone, IfSome, nat_eq}
use Rattle.std.proofs.lemmas.Bool.{eqb-false, eqb-true}
use Rattle.std.proofs.lemmas.List.{length-replicate, take_all}
use Rattle.std.proofs.lemmas.Nat.{mod-mul-add}
use Rattle.jc_ciphers.specs.declared.padding.Padding.{Padding}
use Rattle.jc_ciphers.specs.declared.padding.Padding.TheVariants.{NoPadding, Method1, Method2, Pkcs5}
use Rattle.jc_ciphers.specs.Kept.Macs.{is_closed}
use Rattle.jc_ciphers.specs.Macs.{cmac_end, first_subkey, last_block, second_subkey}
use Rattle.jc_ciphers.specs.Modes.{xor_first}
use Rattle.jc_ciphers.specs.Padding.{IsWhole, padding_of, space}

rows : (k size n : ℕ) → 1 ≤ size → n ≡ k * size + 0 → n % size ≡ 0
rows k size n some same = ap (λ (m : ℕ). m % size) same ∙ mod-mul-add k size 0 some

one_block : (size n : ℕ) → 1 ≤ size → n ≡ size → n % size ≡ 0
one_block size n some same = rows 1 size n some (omega (arith, same))

-- with what fills the last block, or another one after a full one, a message is whole blocks
filled_by : (b : Bool) (size u n : ℕ) → 1 ≤ size → u ≤ size → (b ≡ true → u ≡ size) → n ≡ u + (if b then size else size - u) → n % size ≡ 0
filled_by true size u n some fits full all = let same = full refl in rows 2 size n some (omega (arith, same, all))
filled_by false size u n some fits full all = one_block size n some (omega (arith, all, fits))

filled : (size u n : ℕ) → 1 ≤ size → u ≤ size → n ≡ u + space size u → n % size ≡ 0
filled size u n some fits same = filled_by (nat_eq u size) size u n some fits (eqb-true u size) same

some_left : (b : Bool) (size u : ℕ) → 1 ≤ size → u ≤ size → (b ≡ false → u ≡ size → ⊥) → 1 ≤ (if b then size else size - u)
some_left true size u some fits less = some
some_left false size u some fits less = let other : u ≡ size → ⊥ = less refl in omega (arith, other, fits)

space_some : (size u : ℕ) → 1 ≤ size → u ≤ size → 1 ≤ space size u
space_some size u some fits = some_left (nat_eq u size) size u some fits (eqb-false u size)

pub closed_whole : (p : Padding) (size u : ℕ) → 1 ≤ size → u ≤ size → is_closed p size u ≡ true → IsWhole p size u
closed_whole NoPadding size u some fits closed = one_block size (u + 0) some (omega (arith, eqb-true u size closed))
closed_whole Method1 size u some fits closed =
    one_block size (u + length (replicate (size - u) 0)) some (omega (arith, length-replicate {A = ℕ} (size - u) 0, fits))
closed_whole Method2 size u some fits closed =
    let room : 1 ≤ space size u = space_some size u some fits in
    filled size u (u + length (0x80 ∷ replicate (space size u - 1) 0)) some fits (omega (arith, length-replicate {A = ℕ} (space size u - 1) 0, room))
closed_whole Pkcs5 size u some fits closed =
    filled size u (u + length (replicate (space size u) (space size u))) some fits (omega (arith, length-replicate {A = ℕ} (space size u) (space size u)))

-- what holds of an outcome that is no refusal
pub outcome : (r : Option ℕ) (P : ℕ → Type 0) (W : Type 0) → IfNone r (¬ W) → W → IfSome r P → (count : ℕ) × P count
outcome None P W refused whole made = absurd (refused whole)
outcome (Some n) P W refused whole made = (n, made)

choice : (b : Bool) (x y x' y' : List ℕ) → (b ≡ true → x ≡ x') → y ≡ y' → (if b then x else y) ≡ (if b then x' else y')
choice true x y x' y' first second = first refl
choice false x y x' y' first second = second

-- of the last block only its bytes count
pub cmac_front : (e : List ℕ → List ℕ) (size : ℕ) (chain b : List ℕ) (u : ℕ) → length b ≡ size → u ≤ size
    → cmac_end e size chain b u ≡ cmac_end e size chain (take u b) (length (take u b))
cmac_front e size chain b u long fits =
    let front : length (take u b) ≡ u = length-take-le u b (omega (arith, long, fits)) in
    let whole : nat_eq u size ≡ true → xor_first b (first_subkey e size) size ≡ xor_first (take u b) (first_subkey e size) size =
    λ full. ap (λ (xs : List ℕ). xor_first xs (first_subkey e size) size) (sym (take_all u b (omega (arith, long, eqb-true u size full)))) in
    let part : xor_first (take u b ++ 0x80 ∷ replicate (size - (u + 1)) 0) (second_subkey e size) size
    ≡ xor_first (take u (take u b) ++ 0x80 ∷ replicate (size - (u + 1)) 0) (second_subkey e size) size =
    ap (λ (xs : List ℕ). xor_first (xs ++ 0x80 ∷ replicate (size - (u + 1)) 0) (second_subkey e size) size)
    (sym (take_all u (take u b) (omega (arith, front)))) in
    ap (λ (xs : List ℕ). e (xor_first chain xs size)) (choice (nat_eq u size) _ _ _ _ whole part)
    ∙ ap (λ (n : ℕ). cmac_end e size chain (take u b) n) (sym front)
