-- Owners that are known, as numbers and as registers have them.
use Rattle.std.proofs.Common.{◌≡◌, ◌⊎◌, ℕ, ◌+◌, ◌-◌, ◌<◌, ◌≤◌, Bool, true, false, inl, inr, length, refl, sym, ◌∙◌, ap, subst, arith, if◌then◌else◌}
use Rattle.std.proofs.Math.Nat.{add-mod_left, mod-eq_of_lt}
use Rattle.std.proofs.lemmas.Bool.{and_parts, both_ways, cases_lt, eqb-true, leb-true, lt-ltb, ltb-true, or_cases}
use Rattle.std.specs.Prelude.{◌==◌, ◌%◌, nat_le, nat_lt}
use Rattle.jc_heap.specs.Heap.{HeapState, IsObject, facts}
use Rattle.jc_transient.specs.declared.owner.Owner.TheVariants.{Runtime, Applet, Package}
use Rattle.jc_memory.specs.declared.registers.Registers.{Registers}
use Rattle.jc_transient.specs.Owners.{owner_number, owner_of}
use Rattle.jc_memory.specs.State.{MemoryState}
use Rattle.jc_linker.specs.Values.{Packages}
use Rattle.law_soundness.specs.MemoryLaws.Fit.{FitsTurn}
use Rattle.law_soundness.specs.MemoryLaws.State.{IsSoundMemory, is_home, is_open, is_owner_up_to, last_own, most_owner}
use Rattle.law_code.specs.Methods.{KnowsMethods}

-- a number that an owner can have: a card has fewer than 256 applets, and few packages
abbrev IsSmall : ℕ → Type 0
IsSmall n = (n < 256) ⊎ ((256 < n) × (n - 256 < 256))

back : (n : ℕ) → 256 < n → n - 256 < 256 → 256 + n % 256 ≡ n
back n more less =
    let whole : 256 + (n - 256) ≡ n = omega (arith, more) in
    ap (λ k. 256 + k) (ap (λ k. k % 256) (sym whole) ∙ add-mod_left 256 (n - 256) ∙ mod-eq_of_lt less) ∙ whole

named : (n : ℕ) → IsSmall n → (a : Bool) → n == 0 ≡ a → (b : Bool) → nat_lt n 256 ≡ b
    → owner_number (if a then Runtime else (if b then Applet (record { 0 = n }) else Package (record { 0 = n % 256 }))) ≡ n
named n small true is b less = sym (eqb-true n 0 is)
named n small false is true less = refl
named n (inl low) false is false less = absurd (both_ways (nat_lt n 256) less (lt-ltb n 256 low))
named n (inr high) false is false less = back n high.0 high.1

again : (n : ℕ) → IsSmall n → owner_number (owner_of n) ≡ n
again n small = named n small (n == 0) refl (nat_lt n 256) refl

small_of : (most : ℕ) (h : HeapState) (n : ℕ) → most < 256 → length h.packages < 256 → is_owner_up_to most h n ≡ true → IsSmall n
small_of most h n few packages known = elim (or_cases (n == 0) _ known) [
  | inl z ↦ inl (let e = eqb-true n 0 z in omega (arith, e))
  | inr more ↦ elim (or_cases (nat_le n most) _ more) [
    | inl low ↦ inl (let e = leb-true n most low in omega (arith, e, few))
    | inr high ↦
        let two = and_parts (nat_lt 256 n) (nat_le (n - 256) (length h.packages)) high in
        inr (ltb-true 256 n two.0, let e = leb-true (n - 256) (length h.packages) two.1 in omega (arith, e, packages))
  ]
]

named_zero : (n : ℕ) (a : Bool) → n == 0 ≡ a → (b : Bool) → owner_number (if a then Runtime else
    (if b then Applet (record { 0 = n }) else Package (record { 0 = n % 256 }))) ≡ 0 → n ≡ 0
named_zero n true is b zero = eqb-true n 0 is
named_zero n false is true zero = zero
named_zero n false is false zero = absurd (omega (arith, zero))

-- only the runtime environment has number 0
pub owner_zero : (n : ℕ) → owner_number (owner_of n) ≡ 0 → n ≡ 0
owner_zero n zero = named_zero n (n == 0) refl (nat_lt n 256) zero

most_if : (b : Bool) (x y : ℕ) → x ≤ 64 → y ≤ 64 → (if b then x + 1 else y) < 256
most_if true x y first second = omega (arith, first)
most_if false x y first second = omega (arith, second)

module _ (p : Packages) (m : MemoryState) (methods : KnowsMethods p) (sound : IsSoundMemory p m) where
  few_packages : length m.heap.now.packages < 256
  few_packages = let few = methods.few in let same = sound.loaded in omega (arith, few, same)

  few_applets : most_owner m < 256
  few_applets = most_if (is_open m.registers.installation) m.heap.durable.counts.1 m.heap.now.counts.1 sound.whole.durable.whole.few_applets
      sound.whole.now.whole.few_applets

  -- an owner that is known is known as registers have it
  pub known_again : (n : ℕ) → is_owner_up_to (most_owner m) m.heap.now n ≡ true → is_owner_up_to (most_owner m) m.heap.now (owner_number (owner_of n)) ≡ true
  known_again n known = subst (λ k. is_owner_up_to (most_owner m) m.heap.now k ≡ true)
      (sym (again n (small_of (most_owner m) m.heap.now n few_applets few_packages known))) known

  -- registers of the same installation and the same selected applet, for an owner that is known
  pub turn_known : (g : Registers) → g.installation ≡ m.registers.installation → g.selected ≡ m.registers.selected
      → is_owner_up_to (most_owner m) m.heap.now (owner_number g.active) ≡ true → FitsTurn m g
  turn_known g same selected known = record {
    active = subst (λ i. is_owner_up_to (if is_open i then m.heap.durable.counts.1 + 1 else m.heap.now.counts.1) m.heap.now (owner_number g.active) ≡ true)
        (sym same) known;
    leaves = λ one other. absurd (both_ways (is_open g.installation) other (ap is_open same ∙ one));
    home = subst (λ i. is_home m.heap.now i ≡ true) (sym same) sound.home;
    selected = λ a is. sound.selected a (sym selected ∙ is);
    opens = λ on. ap is_open (sym same) ∙ on;
  }

  -- the owner of an object is known
  pub object_owner : ((r : ℕ) → r ≤ last_own m → (facts m.heap.now r).owner ≡ 0) → (r : ℕ) → IsObject m.heap.now r
      → is_owner_up_to (most_owner m) m.heap.now (facts m.heap.now r).owner ≡ true
  object_owner own r there = elim (cases_lt (last_own m) r) [
    | inl behind ↦ (sound.now.objects r behind there).owner
    | inr low ↦ subst (λ n. is_owner_up_to (most_owner m) m.heap.now n ≡ true) (sym (own r low)) refl
  ]
