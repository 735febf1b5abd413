-- Two elements of an array of shorts: what is refused ends plainly, and what is given lies within reach.
use Rattle.std.proofs.Common.{◌≡◌, ◌+◌, ◌≤◌, ◌∙◌, ℕ, Bool, true, false, List, Option, Some, None, Ok, Err, refl, sym, ap, subst, inr, if◌then◌else◌}
use Rattle.std.proofs.lemmas.Bool.{leb-true}
use Rattle.std.proofs.lemmas.Option.{none-some, same_Some}
use Rattle.std.specs.Prelude.{ℤ, pos, nat_le, ◌==◌}
use Rattle.jc_heap.specs.Heap.{facts}
use Rattle.jc_heap.specs.declared.object.Facts.{Facts}
use Rattle.jc_heap.specs.declared.object.Kind.{Kind}
use Rattle.jc_heap.specs.declared.object.Kind.TheVariants.{Instance, BooleanArray, ByteArray, ShortArray, ReferenceArray}
use Rattle.jc_firewall.specs.FirewallLaws.{IsInReach}
use Rattle.jc_firewall.specs.declared.access.Access.TheVariants.{ArrayElement}
use Rattle.jc_memory.specs.Cells.{header_at}
use Rattle.jc_memory.specs.State.{MemoryState}
use Rattle.jc_linker.specs.Values.{Packages}
use Rattle.jc_frames.specs.declared.cell.Cell.{Cell}
use Rattle.jc_frames.specs.declared.exceptions.Exception.TheVariants.{ArrayIndexOutOfBoundsException}
use Rattle.jc_frames.specs.declared.outcome.FrameExit.TheVariants.{Throw}
use Rattle.jc_world.specs.Arrays.{elements_of, within}
use Rattle.jc_world.specs.Contexts.{firewall_check, situation_of}
use Rattle.jc_world.specs.Numbers.{not_negative}
use Rattle.jc_world.specs.Objects.{reference_argument, short_argument, some_or_fault}
use Rattle.jc_world.specs.declared.arrays.Stretch.{Stretch}
use Rattle.jc_api.specs.Arguments.{if_shorts, if_shorts_there, shorts_argument, two_shorts_of}
use Rattle.jc_api.proofs.Exits.{FaultsOnly, plain_elements, plain_if, plain_some, plain_then}
use Rattle.jc_api.proofs.Reaching.{element_allowed, err_not_ok, header_is, same_Ok}
use Rattle.jc_api.proofs.Stretches.{both_ok, IsStretch}

plain_kind : (kind : Kind) (f : Facts) → FaultsOnly (if_shorts kind f)
plain_kind Instance f = tt
plain_kind BooleanArray f = tt
plain_kind ByteArray f = tt
plain_kind ShortArray f = tt
plain_kind ReferenceArray f = tt

plain_there : (o : Option Facts) → FaultsOnly (if_shorts_there o)
plain_there None = tt
plain_there (Some f) = plain_kind f.kind f

plain_shorts : (m : MemoryState) (r : ℕ) → FaultsOnly (shorts_argument m r)
unfolding shorts_argument
plain_shorts m r = plain_if (r == 0) _ _ tt (plain_there (header_at m r))

pub plain_two_shorts : (args : List Cell) (p : Packages) (m : MemoryState) → FaultsOnly (two_shorts_of args p m)
plain_two_shorts args p m =
    plain_then (some_or_fault (reference_argument args 0)) _ (plain_some (reference_argument args 0)) (λ array.
    plain_then (some_or_fault (short_argument args 1)) _ (plain_some (short_argument args 1)) (λ start.
    plain_then (shorts_argument m array) _ (plain_shorts m array) (λ header. plain_elements p m array header start (pos 2))))

shorts_if : (kind : Kind) (f : Facts) (argument : Option Facts) → if_shorts kind f ≡ Ok argument → (argument ≡ Some f) × (kind ≡ ShortArray)
shorts_if Instance f argument e = absurd (err_not_ok e)
shorts_if BooleanArray f argument e = absurd (err_not_ok e)
shorts_if ByteArray f argument e = absurd (err_not_ok e)
shorts_if ShortArray f argument e = (sym (same_Ok (Some f) argument e), refl)
shorts_if ReferenceArray f argument e = absurd (err_not_ok e)

-- the header of an array of shorts
abbrev ShortsOf : MemoryState → ℕ → Option Facts → Type 0
ShortsOf m r argument = (f : Facts) → argument ≡ Some f → (f ≡ facts m.heap.now r) × (f.kind ≡ ShortArray)

module _ (m : MemoryState) (r : ℕ) (argument : Option Facts) where
  there : (o : Option Facts) → header_at m r ≡ o → if_shorts_there o ≡ Ok argument → ShortsOf m r argument
  there None is e = absurd (err_not_ok e)
  there (Some g) is e = λ f given.
      let so = shorts_if g.kind g argument e in
      let same : f ≡ g = same_Some f g (sym given ∙ so.0) in
      (same ∙ (header_is m r g is).1, ap (λ x. x.kind) same ∙ so.1)

  or_null : (null : Bool) → (if null then Ok None else if_shorts_there (header_at m r)) ≡ Ok argument → ShortsOf m r argument
  or_null true e = λ f given. absurd (none-some f (same_Ok None argument e ∙ given))
  or_null false e = there (header_at m r) refl e

  shorts_are : shorts_argument m r ≡ Ok argument → ShortsOf m r argument
  unfolding shorts_argument
  shorts_are e = or_null (r == 0) e

module _ (p : Packages) (m : MemoryState) (r : ℕ) (e : Stretch) where
  two_if : (f : Facts) → (f ≡ facts m.heap.now r) × (f.kind ≡ ShortArray) → IsInReach (situation_of p m f) → (n : ℕ) (b : Bool) → nat_le (n + 2) f.length ≡ b
      → (if b then Ok (record { array = r; start = n; count = 2 }) else Err (Throw ArrayIndexOutOfBoundsException)) ≡ Ok e → IsStretch p m r (pos 2) e
  two_if f is reach n false le fine = absurd (err_not_ok fine)
  two_if f is reach n true le fine =
      let s : Stretch = record { array = r; start = n; count = 2 } in
      subst (IsStretch p m r (pos 2)) (same_Ok s e fine) (record {
        array = refl;
        kind = inr (subst (λ g. g.kind ≡ ShortArray) is.0 is.1);
        reach = subst (λ g. IsInReach (situation_of p m g)) is.0 reach;
        within = subst (λ g. n + 2 ≤ g.length) is.0 (leb-true (n + 2) f.length le);
        counted = refl;
      })

  two_within : (f : Facts) → (f ≡ facts m.heap.now r) × (f.kind ≡ ShortArray) → IsInReach (situation_of p m f) → (n : Option ℕ)
      → within r f.length n (Some 2) ≡ Ok e → IsStretch p m r (pos 2) e
  two_within f is reach None fine = absurd (err_not_ok fine)
  two_within f is reach (Some n) fine = two_if f is reach n (nat_le (n + 2) f.length) refl fine

  two_in : (argument : Option Facts) (start : ℤ) → ShortsOf m r argument → elements_of p m r argument start (pos 2) ≡ Ok e → IsStretch p m r (pos 2) e
  unfolding elements_of
  two_in None start is fine = absurd (err_not_ok fine)
  two_in (Some f) start is fine =
      let b = both_ok (firewall_check ArrayElement p m f) (λ u. within r f.length (not_negative start) (Some 2)) e fine in
      two_within f (is f refl) (element_allowed p m f b.1) (not_negative start) b.2

-- the two elements that a call writes
pub two_shorts_is : (args : List Cell) (p : Packages) (m : MemoryState) (e : Stretch) → two_shorts_of args p m ≡ Ok e → (r : ℕ) × IsStretch p m r (pos 2) e
two_shorts_is args p m e fine =
    let one = both_ok (some_or_fault (reference_argument args 0)) _ e fine in
    let two = both_ok (some_or_fault (short_argument args 1)) _ e one.2 in
    let three = both_ok (shorts_argument m one.0) _ e two.2 in
    (one.0, two_in p m one.0 e three.0 two.0 (shorts_are m one.0 three.0 three.1) three.2)
