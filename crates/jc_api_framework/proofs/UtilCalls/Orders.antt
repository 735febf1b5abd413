-- Two runs of numbers compared from their first on.
use Rattle.std.proofs.Common.{◌≡◌, ℕ, suc, ◌+◌, ◌-◌, ◌<◌, ◌≤◌, map, sym, ◌∙◌, ap, arith}
use Rattle.std.specs.List.{range_with_len}
use Rattle.std.specs.Ordering.{nat_cmp, ordering_then}
use Rattle.std.specs.Cmp.Lexicographic.{slice_cmp}
use Rattle.std.specs.Cmp.{nat_cmp_is}
use Rattle.std.specs.declared.cmp.Ordering.{Ordering}
use Rattle.std.specs.declared.cmp.Ordering.TheVariants.{Equal}

-- how this many compare, from these places on
abbrev pub order_from : (ℕ → ℕ) → (ℕ → ℕ) → ℕ → ℕ → ℕ → Ordering
order_from f g a b n = slice_cmp nat_cmp (map f (range_with_len a n)) (map g (range_with_len b n))

first_of : (f g : ℕ → ℕ) (a b n d : ℕ) → n ≡ suc d → order_from f g a b n ≡ ordering_then (nat_cmp (f a) (g b)) (order_from f g (a + 1) (b + 1) d)
first_of f g a b n d e = ap (order_from f g a b) e

-- the order is decided by the numbers at k, or else by those after
unrolled : (f g : ℕ → ℕ) (a b n k : ℕ) → k < n → order_from f g (a + k) (b + k) (n - k)
    ≡ ordering_then (nat_cmp (f (a + k)) (g (b + k))) (order_from f g (a + (k + 1)) (b + (k + 1)) (n - (k + 1)))
unrolled f g a b n k below =
    let e : n - k ≡ suc (n - (k + 1)) = omega (arith, below) in
    let p : a + k + 1 ≡ a + (k + 1) = omega arith in
    let q : b + k + 1 ≡ b + (k + 1) = omega arith in
    first_of f g (a + k) (b + k) (n - k) (n - (k + 1)) e
    ∙ ap (λ i. ordering_then (nat_cmp (f (a + k)) (g (b + k))) (order_from f g i (b + k + 1) (n - (k + 1)))) p
    ∙ ap (λ j. ordering_then (nat_cmp (f (a + k)) (g (b + k))) (order_from f g (a + (k + 1)) j (n - (k + 1)))) q

pub one_more : (f g : ℕ → ℕ) (a b n k x y : ℕ) → k < n → x ≡ f (a + k) → y ≡ g (b + k) → y ≤ x → x ≤ y
    → order_from f g a b n ≡ order_from f g (a + k) (b + k) (n - k) → order_from f g a b n ≡ order_from f g (a + (k + 1)) (b + (k + 1)) (n - (k + 1))
one_more f g a b n k x y below e h down up so_far =
    let same : x ≡ y = omega (arith, down, up) in
    let is : Equal ≡ nat_cmp (f (a + k)) (g (b + k)) = nat_cmp_is (f (a + k)) (g (b + k)) Equal (sym e ∙ same ∙ h) in
    so_far ∙ unrolled f g a b n k below ∙ ap (λ o. ordering_then o (order_from f g (a + (k + 1)) (b + (k + 1)) (n - (k + 1)))) (sym is)
