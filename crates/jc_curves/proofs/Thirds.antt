-- The third point of a line, in affine and in Jacobian coordinates.
use Rattle.std.proofs.Common.{◌≡◌, ℕ, zero, suc, ◌+◌, ◌*◌, ◌%◌, ◌<◌, refl, sym, ◌∙◌, arith}
use Rattle.std.proofs.Math.Nat.{mod-mod, mod-lt, add-mul-mod_self_left}
use Rattle.jc_curves.specs.Points.{IsThird}
use Rattle.jc_curves.proofs.Congruences.{sums, products, equals, cancelled}

around : (w c q : ℕ) → w + c * q + c ≡ w + suc q * c
around w c q = grind arith

-- a number that is congruent to a difference
pub difference : (p w c : ℕ) → 0 < p → (d : ℕ) × (d < p) × ((d + c) % p ≡ w % p)
difference zero w c above = absurd (omega (arith, above))
difference (suc q) w c above =
    let e : ℕ = w + c * q in (
      e % suc q,
      mod-lt e above,
      sums (suc q) (e % suc q) e c c (mod-mod e (suc q)) refl ∙ equals (suc q) _ _ (around w c q) ∙ add-mul-mod_self_left w (suc q) c,
    )

regrouped : (x x1 x2 : ℕ) → x + x1 + x2 ≡ x + (x1 + x2)
regrouped x x1 x2 = grind arith

-- each slope leads to a third point
pub third_exists : (p x1 y1 x2 l : ℕ) → 0 < p → (x3 : ℕ) × (y3 : ℕ) × IsThird p x1 y1 x2 l x3 y3
third_exists p x1 y1 x2 l above =
    let there : (d : ℕ) × (d < p) × ((d + (x1 + x2)) % p ≡ (l * l) % p) = difference p (l * l) (x1 + x2) above in
    let x3 : ℕ = there.0 in
    let up : (d : ℕ) × (d < p) × ((d + (y1 + l * x3)) % p ≡ (l * x1) % p) = difference p (l * x1) (y1 + l * x3) above in
    let y3 : ℕ = up.0 in (
      x3,
      y3,
      record {
        x_below = there.1;
        y_below = up.1;
        x = equals p _ _ (regrouped x3 x1 x2) ∙ there.2;
        y = equals p _ _ (regrouped y3 y1 (l * x3)) ∙ up.2;
      },
    )

same_form : (m l z : ℕ) → (l * z) * (l * z) ≡ (l * l) * (z * z)
same_form m l z = grind arith

spread : (x x1 x2 w : ℕ) → (x + x1 + x2) * w ≡ x * w + (x1 + x2) * w
spread x x1 x2 w = grind arith

spread_y : (y y1 l x z : ℕ) → (y + y1 + l * x) * (z * z * z) ≡ y * (z * z * z) + ((l * z) * (x * (z * z)) + y1 * (z * z * z))
spread_y y y1 l x z = grind arith

line_y : (l x z : ℕ) → (l * z) * (x * (z * z)) ≡ (l * x) * (z * z * z)
line_y l x z = grind arith

joined : (a b c : ℕ) → a + b + c ≡ a + (b + c)
joined a b c = grind arith

-- Jacobian coordinates by a slope m = l z stand for the third point
pub third_x : (p m l z x x1 x2 x3 : ℕ) → m % p ≡ (l * z) % p → (x + (x1 + x2) * (z * z)) % p ≡ (m * m) % p
    → (x3 + x1 + x2) % p ≡ (l * l) % p → x % p ≡ (x3 * (z * z)) % p
third_x p m l z x x1 x2 x3 slope made third =
    cancelled p x (x3 * (z * z)) ((x1 + x2) * (z * z))
    (made ∙ products p m (l * z) m (l * z) slope slope ∙ equals p _ _ (same_form m l z)
    ∙ products p (l * l) (x3 + x1 + x2) (z * z) (z * z) (sym third) refl ∙ equals p _ _ (spread x3 x1 x2 (z * z)))

pub third_y : (p m l z x y x1 y1 x3 y3 : ℕ) → m % p ≡ (l * z) % p → x % p ≡ (x3 * (z * z)) % p
    → (y + m * x + y1 * (z * z * z)) % p ≡ (m * (x1 * (z * z))) % p → (y3 + y1 + l * x3) % p ≡ (l * x1) % p
    → y % p ≡ (y3 * (z * z * z)) % p
third_y p m l z x y x1 y1 x3 y3 slope here made third =
    let u : ℕ = y1 * (z * z * z) in
    let across : (m * x) % p ≡ ((l * z) * (x3 * (z * z))) % p = products p m (l * z) x (x3 * (z * z)) slope here in
    cancelled p y (y3 * (z * z * z)) ((l * z) * (x3 * (z * z)) + u)
    (sums p y y ((l * z) * (x3 * (z * z)) + u) (m * x + u) refl (sums p _ _ u u (sym across) refl)
    ∙ equals p _ _ (sym (joined y (m * x) u)) ∙ made
    ∙ products p m (l * z) (x1 * (z * z)) (x1 * (z * z)) slope refl ∙ equals p _ _ (line_y l x1 z)
    ∙ products p (l * x1) (y3 + y1 + l * x3) (z * z * z) (z * z * z) (sym third) refl ∙ equals p _ _ (spread_y y3 y1 l x3 z))
