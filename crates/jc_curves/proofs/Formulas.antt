-- The steps by which the code computes the formulas of doublings and additions.
use Rattle.std.proofs.Common.{◌≡◌, ℕ, ◌+◌, ◌*◌, ◌%◌, refl, sym, ◌∙◌, arith}
use Rattle.jc_curves.proofs.Congruences.{sums, products, equals}

three_times : (s : ℕ) → s + 2 * s ≡ 3 * s
three_times s = omega arith

-- 3 X² + a Z⁴
pub tangent_law : (p a x z square double three z2 z4 last m : ℕ) → square % p ≡ (x * x) % p → double % p ≡ (2 * square) % p
    → three % p ≡ (square + double) % p → z2 % p ≡ (z * z) % p → z4 % p ≡ (z2 * z2) % p → last % p ≡ (a * z4) % p
    → m % p ≡ (three + last) % p → m % p ≡ (3 * (x * x) + a * (z * z * (z * z))) % p
tangent_law p a x z square double three z2 z4 last m is_square is_double is_three is_z2 is_z4 is_last is =
    let tripled : three % p ≡ (3 * (x * x)) % p =
    is_three ∙ sums p square square double (2 * square) refl is_double ∙ equals p _ _ (three_times square)
    ∙ products p 3 3 square (x * x) refl is_square in
    let fourth : z4 % p ≡ (z * z * (z * z)) % p = is_z4 ∙ products p z2 (z * z) z2 (z * z) is_z2 is_z2 in
    is ∙ sums p three (3 * (x * x)) last (a * (z * z * (z * z))) tripled (is_last ∙ products p a a z4 _ refl fourth)

doubled_twice : (s : ℕ) → 2 * (2 * s) ≡ 4 * s
doubled_twice s = omega arith

-- 4 X Y²
pub middle_law : (p x square along double m : ℕ) → along % p ≡ (x * square) % p → double % p ≡ (2 * along) % p → m % p ≡ (2 * double) % p
    → m % p ≡ (4 * (x * square)) % p
middle_law p x square along double m is_along is_double is =
    is ∙ products p 2 2 double (2 * along) refl is_double ∙ equals p _ _ (doubled_twice along) ∙ products p 4 4 along (x * square) refl is_along

doubled_thrice : (s : ℕ) → 2 * (2 * (2 * s)) ≡ 8 * s
doubled_thrice s = omega arith

-- 8 Y⁴
pub eight_law : (p square fourth double quadruple m : ℕ) → fourth % p ≡ (square * square) % p → double % p ≡ (2 * fourth) % p
    → quadruple % p ≡ (2 * double) % p → m % p ≡ (2 * quadruple) % p → m % p ≡ (8 * (square * square)) % p
eight_law p square fourth double quadruple m is_fourth is_double is_quadruple is =
    is ∙ products p 2 2 quadruple (2 * (2 * fourth)) refl (is_quadruple ∙ products p 2 2 double (2 * fourth) refl is_double)
    ∙ equals p _ _ (doubled_thrice fourth) ∙ products p 8 8 fourth (square * square) refl is_fourth

reordered : (y s x u : ℕ) → y + s * x + u ≡ (y + u) + s * x
reordered y s x u = grind arith

factored : (s d x : ℕ) → s * d + s * x ≡ s * (d + x)
factored s d x = grind arith

-- slope (start_x - x) - start_y
pub line_law : (p slope start_x start_y x along rise y : ℕ) → (along + x) % p ≡ start_x % p → rise % p ≡ (slope * along) % p
    → (y + start_y) % p ≡ rise % p → (y + slope * x + start_y) % p ≡ (slope * start_x) % p
line_law p slope start_x start_y x along rise y is_along is_rise is =
    equals p _ _ (reordered y slope x start_y)
    ∙ sums p (y + start_y) (slope * along) (slope * x) (slope * x) (is ∙ is_rise) refl
    ∙ equals p _ _ (factored slope along x) ∙ products p slope slope (along + x) start_x refl is_along

-- x + 2 S = M²
pub doubled_x : (p x y m square middle both slopes new : ℕ) → square % p ≡ (y * y) % p → middle % p ≡ (4 * (x * square)) % p
    → both % p ≡ (2 * middle) % p → slopes % p ≡ (m * m) % p → (new + both) % p ≡ slopes % p
    → (new + 2 * (4 * (x * (y * y)))) % p ≡ (m * m) % p
doubled_x p x y m square middle both slopes new is_square is_middle is_both is_slopes is =
    sums p new new (2 * (4 * (x * (y * y)))) both refl
    (sym (is_both ∙ products p 2 2 middle (4 * (x * (y * y))) refl
    (is_middle ∙ products p 4 4 (x * square) (x * (y * y)) refl (products p x x square (y * y) refl is_square))))
    ∙ is ∙ is_slopes

pub doubled_y : (p x y m square middle last u new : ℕ) → square % p ≡ (y * y) % p → middle % p ≡ (4 * (x * square)) % p
    → last % p ≡ (8 * (square * square)) % p → (new + m * u + last) % p ≡ (m * middle) % p
    → (new + m * u + 8 * (y * y * (y * y))) % p ≡ (m * (4 * (x * (y * y)))) % p
doubled_y p x y m square middle last u new is_square is_middle is_last is =
    sums p (new + m * u) (new + m * u) (8 * (y * y * (y * y))) last refl
    (sym (is_last ∙ products p 8 8 (square * square) (y * y * (y * y)) refl (products p square (y * y) square (y * y) is_square is_square)))
    ∙ is ∙ products p m m middle (4 * (x * (y * y))) refl
    (is_middle ∙ products p 4 4 (x * square) (x * (y * y)) refl (products p x x square (y * y) refl is_square))

pub doubled_z : (p y z along new : ℕ) → along % p ≡ (y * z) % p → new % p ≡ (2 * along) % p → new % p ≡ (2 * (y * z)) % p
doubled_z p y z along new is_along is = is ∙ products p 2 2 along (y * z) refl is_along

-- ---- additions

pub cube_law : (p z square cube : ℕ) → square % p ≡ (z * z) % p → cube % p ≡ (square * z) % p → cube % p ≡ (z * z * z) % p
cube_law p z square cube is_square is = is ∙ products p square (z * z) z z is_square refl

pub times_law : (p x factor power product : ℕ) → factor % p ≡ power % p → product % p ≡ (x * factor) % p → product % p ≡ (x * power) % p
times_law p x factor power product is_factor is = is ∙ products p x x factor power refl is_factor

pub added_x : (p x h r square cube start double ends slopes new : ℕ) → square % p ≡ (h * h) % p → cube % p ≡ (square * h) % p
    → start % p ≡ (x * square) % p → double % p ≡ (2 * start) % p → ends % p ≡ (cube + double) % p → slopes % p ≡ (r * r) % p
    → (new + ends) % p ≡ slopes % p → (new + (h * h * h + 2 * (x * (h * h)))) % p ≡ (r * r) % p
added_x p x h r square cube start double ends slopes new is_square is_cube is_start is_double is_ends is_slopes is =
    sums p new new (h * h * h + 2 * (x * (h * h))) ends refl
    (sym (is_ends ∙ sums p cube (h * h * h) double (2 * (x * (h * h))) (cube_law p h square cube is_square is_cube)
    (is_double ∙ products p 2 2 start (x * (h * h)) refl (times_law p x square (h * h) start is_square is_start))))
    ∙ is ∙ is_slopes

pub added_y : (p x y h r square cube start_x start_y u new : ℕ) → square % p ≡ (h * h) % p → cube % p ≡ (square * h) % p
    → start_x % p ≡ (x * square) % p → start_y % p ≡ (y * cube) % p → (new + r * u + start_y) % p ≡ (r * start_x) % p
    → (new + r * u + y * (h * h * h)) % p ≡ (r * (x * (h * h))) % p
added_y p x y h r square cube start_x start_y u new is_square is_cube is_x is_y is =
    sums p (new + r * u) (new + r * u) (y * (h * h * h)) start_y refl
    (sym (times_law p y cube (h * h * h) start_y (cube_law p h square cube is_square is_cube) is_y))
    ∙ is ∙ products p r r start_x (x * (h * h)) refl (times_law p x square (h * h) start_x is_square is_x)

-- H = x Z² - X
pub difference_by : (p x c factor power other h : ℕ) → factor % p ≡ power % p → other % p ≡ (x * factor) % p → (h + c) % p ≡ other % p
    → (h + c) % p ≡ (x * power) % p
difference_by p x c factor power other h is_factor is_other is = is ∙ times_law p x factor power other is_factor is_other
