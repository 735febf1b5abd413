-- Classes of the platform that are not below one another.
use Rattle.std.proofs.Common.{◌≡◌, ℕ, ◌<◌, Bool, true, false, inl, inr, Option, Some, None, refl, sym, ◌∙◌, ap}
use Rattle.std.proofs.lemmas.Bool.{and_parts, both_ways, ltb-true, not-true, true≢false}
use Rattle.std.specs.List.{list_all}
use Rattle.std.specs.Prelude.{◌&&◌, ◌||◌, nat_lt, not}
use Rattle.jc_platform.specs.declared.names.PlatformClass.{PlatformClass}
use Rattle.jc_platform.specs.declared.names.PlatformClass.TheVariants.{Aid, OwnerPin}
use Rattle.jc_platform.specs.Hierarchy.{carries_reason, cells_of, holds_reference, is_interface, is_throwable, superclass_of}
use Rattle.jc_platform.specs.Names.{classes}
use Rattle.jc_linker.specs.Values.{Packages}
use Rattle.jc_linker.specs.Classes.{is_a}
use Rattle.law_code.proofs.ClassFacts.{either, of_each}
use Rattle.law_code.specs.Classes.{IsPlatformBelow, Itself, Above, KnowsClasses, has_instances}

abbrev pub is_aid : PlatformClass → Bool
is_aid Aid = true
is_aid _ = false

abbrev pub is_pin : PlatformClass → Bool
is_pin OwnerPin = true
is_pin _ = false

-- of the superclass, if there is one
abbrev of_super : (PlatformClass → Bool) → Option PlatformClass → Bool
of_super f None = false
of_super f (Some c) = f c

-- nothing is right below AID or OwnerPIN, and below exceptions there are exceptions
abbrev is_in_line : PlatformClass → Bool
is_in_line c = not (of_super is_aid (superclass_of c)) && (not (of_super is_pin (superclass_of c)) &&
    (not (of_super is_throwable (superclass_of c)) || is_throwable c))

line_rows : list_all (λ e. is_in_line e.class) classes ≡ true
unfolding superclass_of is_throwable classes
line_rows = refl

in_line : (c : PlatformClass) → (of_super is_aid (superclass_of c) ≡ false) × (of_super is_pin (superclass_of c) ≡ false)
    × (of_super is_throwable (superclass_of c) ≡ true → is_throwable c ≡ true)
in_line c =
    let aid = and_parts (not (of_super is_aid (superclass_of c))) _ (of_each is_in_line line_rows c) in
    let pin = and_parts (not (of_super is_pin (superclass_of c))) _ aid.1 in (
      not-true (of_super is_aid (superclass_of c)) aid.0,
      not-true (of_super is_pin (superclass_of c)) pin.0,
      λ above. either (not (of_super is_throwable (superclass_of c))) (is_throwable c) pin.1 (ap not above),
    )

-- what is below stays so
module _ (f : PlatformClass → Bool) (keeps : (c : PlatformClass) → of_super f (superclass_of c) ≡ true → f c ≡ true) where
  below : (of c : PlatformClass) → f of ≡ true → IsPlatformBelow of c → f c ≡ true
  below of c is Itself = is
  below of c is (Above class super e rest) = keeps class (ap (of_super f) e ∙ below of super is rest)

below_aid : (c : PlatformClass) → IsPlatformBelow Aid c → is_aid c ≡ true
below_aid c b = below is_aid (λ x e. absurd (both_ways (of_super is_aid (superclass_of x)) (in_line x).0 e)) Aid c refl b

below_pin : (c : PlatformClass) → IsPlatformBelow OwnerPin c → is_pin c ≡ true
below_pin c b = below is_pin (λ x e. absurd (both_ways (of_super is_pin (superclass_of x)) (in_line x).1 e)) OwnerPin c refl b

below_throwable : (of c : PlatformClass) → is_throwable of ≡ true → IsPlatformBelow of c → is_throwable c ≡ true
below_throwable of c is b = below is_throwable (λ x. (in_line x).2) of c is b

-- an exception with a reason
pub record HasReason (of : PlatformClass) : Type 0 where
  pub class : is_interface of ≡ false
  pub cells : 0 < cells_of of
  pub number : holds_reference of 0 ≡ false
  pub throwable : is_throwable of ≡ true
  pub no_aid : is_aid of ≡ false
  pub no_pin : is_pin of ≡ false

module _ (p : Packages) (known : KnowsClasses p) (class : ℕ) (has : has_instances p class ≡ true) where
  apart : (of other : PlatformClass) → is_interface of ≡ false → is_interface other ≡ false → (IsPlatformBelow of other → ⊥) → (IsPlatformBelow other of → ⊥)
      → is_a p class of ≡ true → is_a p class other ≡ true → ⊥
  apart of other first second one two is isnt = elim (known.platform.line class of other has first second is isnt) [
    | inl b ↦ one b
    | inr b ↦ two b
  ]

  pub reason_no_aid : (of : PlatformClass) → HasReason of → is_a p class of ≡ true → is_a p class Aid ≡ true → ⊥
  unfolding is_interface is_throwable classes
  reason_no_aid of has is isnt = apart of Aid has.class refl (λ b. true≢false (sym (below_throwable of Aid has.throwable b)))
      (λ b. both_ways (is_aid of) has.no_aid (below_aid of b)) is isnt

  pub reason_no_pin : (of : PlatformClass) → HasReason of → is_a p class of ≡ true → is_a p class OwnerPin ≡ true → ⊥
  unfolding is_interface is_throwable classes
  reason_no_pin of has is isnt = apart of OwnerPin has.class refl (λ b. true≢false (sym (below_throwable of OwnerPin has.throwable b)))
      (λ b. both_ways (is_pin of) has.no_pin (below_pin of b)) is isnt

  pub aid_no_pin : is_a p class Aid ≡ true → is_a p class OwnerPin ≡ true → ⊥
  unfolding is_interface classes
  aid_no_pin is isnt = apart Aid OwnerPin refl refl (λ b. true≢false (sym (below_aid OwnerPin b))) (λ b. true≢false (sym (below_pin Aid b))) is isnt

abbrev is_reasoned : PlatformClass → Bool
is_reasoned of = not (is_interface of) && (nat_lt 0 (cells_of of) && (not (holds_reference of 0) && (is_throwable of && (not (is_aid of) && not (is_pin of)))))

has_reason : (of : PlatformClass) → is_reasoned of ≡ true → HasReason of
has_reason of e =
    let one = and_parts (not (is_interface of)) _ e in
    let two = and_parts (nat_lt 0 (cells_of of)) _ one.1 in
    let three = and_parts (not (holds_reference of 0)) _ two.1 in
    let four = and_parts (is_throwable of) _ three.1 in
    let five = and_parts (not (is_aid of)) (not (is_pin of)) four.1 in
    record {
      class = not-true (is_interface of) one.0;
      cells = ltb-true 0 (cells_of of) two.0;
      number = not-true (holds_reference of 0) three.0;
      throwable = four.0;
      no_aid = not-true (is_aid of) five.0;
      no_pin = not-true (is_pin of) five.1;
    }

reason_rows : list_all (λ e. not (carries_reason e.class) || is_reasoned e.class) classes ≡ true
unfolding carries_reason is_interface cells_of holds_reference is_throwable classes
reason_rows = refl

pub reasoned : (of : PlatformClass) → carries_reason of ≡ true → HasReason of
reasoned of carries = has_reason of (either (not (carries_reason of)) (is_reasoned of)
    (of_each (λ c. not (carries_reason c) || is_reasoned c) reason_rows of) (ap not carries))
