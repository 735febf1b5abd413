-- Elements of arrays, and instances, that checks let a call go on with.
use Rattle.std.specs.List.{range_with_len}
use Rattle.std.specs.Prelude.{◌⊎◌, ◌==◌, ℤ, nat_le}
use Rattle.std.proofs.Common.{◌≡◌, ◌+◌, ◌≤◌, ◌∙◌, Result, Ok, Err, refl, ℕ, Some, Option, sym, None, ap, Bool, true, false, if◌then◌else◌, subst, inl}
use Rattle.std.proofs.Common.{length}
use Rattle.std.proofs.lemmas.Bool.{leb-true}
use Rattle.std.proofs.lemmas.List.{length-map}
use Rattle.std.proofs.lemmas.List.FromFn.{length-range_with_len}
use Rattle.std.proofs.lemmas.Option.{same_Some, none-some}
use Rattle.jc_heap.specs.Heap.{facts}
use Rattle.jc_heap.specs.declared.object.Facts.{Facts}
use Rattle.jc_heap.specs.declared.object.Kind.{Kind}
use Rattle.jc_heap.specs.declared.object.Kind.TheVariants.{ByteArray, ShortArray, Instance, BooleanArray, ReferenceArray}
use Rattle.jc_firewall.specs.FirewallLaws.{IsInReach}
use Rattle.jc_firewall.specs.declared.access.Access.TheVariants.{ArrayElement}
use Rattle.jc_memory.specs.Cells.{header_at, byte_at}
use Rattle.jc_memory.specs.State.{MemoryState}
use Rattle.jc_linker.specs.Values.{Packages}
use Rattle.jc_frames.specs.declared.exceptions.Exception.TheVariants.{ArrayIndexOutOfBoundsException}
use Rattle.jc_frames.specs.declared.outcome.FrameExit.{FrameExit}
use Rattle.jc_frames.specs.declared.outcome.FrameExit.TheVariants.{Throw, End}
use Rattle.jc_frames.specs.declared.outcome.Outcome.TheVariants.{Fault}
use Rattle.jc_world.specs.Answers.{and_then}
use Rattle.jc_world.specs.Arrays.{within, if_bytes, if_array, bytes_argument, elements_of, bytes_in}
use Rattle.jc_world.specs.Contexts.{situation_of, firewall_check}
use Rattle.jc_world.specs.Instances.{with_cells, IsInstanceWith, instance_at}
use Rattle.jc_world.specs.Numbers.{not_negative}
use Rattle.jc_world.specs.Objects.{object_at}
use Rattle.jc_world.specs.declared.arrays.Stretch.{Stretch}
use Rattle.jc_api.proofs.Reaching.{err_not_ok, same_Ok, header_is, element_allowed, object_is}

-- a check and then another one: both let it go on
pub both_ok : {A B : Type 0} (o : Result A FrameExit) (go : A → Result B FrameExit) (b : B) → and_then o go ≡ Ok b → (a : A) × (o ≡ Ok a) × (go a ≡ Ok b)
both_ok (Ok a) go b e = (a, refl, e)
both_ok (Err x) go b e = absurd (err_not_ok e)

-- an array of numbers whose elements calls set
abbrev pub HoldsNumbers : Kind → Type 0
HoldsNumbers kind = (kind ≡ ByteArray) ⊎ (kind ≡ ShortArray)

-- elements of such an array within reach
pub record IsStretch (p : Packages) (m : MemoryState) (r : ℕ) (count : ℤ) (e : Stretch) : Type 0 where
  pub array : e.array ≡ r
  pub kind : HoldsNumbers (facts m.heap.now r).kind
  pub reach : IsInReach (situation_of p m (facts m.heap.now r))
  pub within : e.start + e.count ≤ (facts m.heap.now r).length
  pub counted : not_negative count ≡ Some e.count

-- an argument is null, or this is the header of the array of bytes that it names
abbrev HeaderOf : MemoryState → ℕ → Option Facts → Type 0
HeaderOf m r argument = (f : Facts) → argument ≡ Some f → (f ≡ facts m.heap.now r) × (f.kind ≡ ByteArray)

bytes_is : (kind : Kind) (f : Facts) (argument : Option Facts) → if_bytes kind f ≡ Ok argument → (argument ≡ Some f) × (kind ≡ ByteArray)
bytes_is Instance f argument e = absurd (err_not_ok e)
bytes_is BooleanArray f argument e = absurd (err_not_ok e)
bytes_is ByteArray f argument e = (sym (same_Ok (Some f) argument e), refl)
bytes_is ShortArray f argument e = absurd (err_not_ok e)
bytes_is ReferenceArray f argument e = absurd (err_not_ok e)

array_is : (m : MemoryState) (r : ℕ) (o : Option Facts) → header_at m r ≡ o → (argument : Option Facts) → if_array o ≡ Ok argument → HeaderOf m r argument
array_is m r None is argument e = absurd (err_not_ok e)
array_is m r (Some g) is argument e = λ f there.
    let bytes = bytes_is g.kind g argument e in
    let same : f ≡ g = same_Some f g (sym there ∙ bytes.0) in
    (same ∙ (header_is m r g is).1, ap (λ x. x.kind) same ∙ bytes.1)

argument_in : (m : MemoryState) (r : ℕ) (null : Bool) (argument : Option Facts) → (if null then Ok None else if_array (header_at m r)) ≡ Ok argument
    → HeaderOf m r argument
argument_in m r true argument e = λ f there. absurd (none-some f (same_Ok None argument e ∙ there))
argument_in m r false argument e = array_is m r (header_at m r) refl argument e

argument_is : (m : MemoryState) (r : ℕ) (argument : Option Facts) → bytes_argument m r ≡ Ok argument → HeaderOf m r argument
unfolding bytes_argument
argument_is m r argument e = argument_in m r (r == 0) argument e

module _ (p : Packages) (m : MemoryState) (r : ℕ) (start count : ℤ) (e : Stretch) where
  stretch_if : (f : Facts) → (f ≡ facts m.heap.now r) × (f.kind ≡ ByteArray) → IsInReach (situation_of p m f) → (n c : ℕ) → not_negative count ≡ Some c
      → (b : Bool) → nat_le (n + c) f.length ≡ b →
      (if b then Ok (record { array = r; start = n; count = c }) else Err (Throw ArrayIndexOutOfBoundsException)) ≡ Ok e → IsStretch p m r count e
  stretch_if f is reach n c counts false le fine = absurd (err_not_ok fine)
  stretch_if f is reach n c counts true le fine =
      let s : Stretch = record { array = r; start = n; count = c } in
      subst (IsStretch p m r count) (same_Ok s e fine) (record {
        array = refl;
        kind = inl (subst (λ g. g.kind ≡ ByteArray) is.0 is.1);
        reach = subst (λ g. IsInReach (situation_of p m g)) is.0 reach;
        within = subst (λ g. n + c ≤ g.length) is.0 (leb-true (n + c) f.length le);
        counted = counts;
      })

  stretch_within : (f : Facts) → (f ≡ facts m.heap.now r) × (f.kind ≡ ByteArray) → IsInReach (situation_of p m f) → (n c : Option ℕ) → not_negative count ≡ c
      → within r f.length n c ≡ Ok e → IsStretch p m r count e
  stretch_within f is reach None c counts fine = absurd (err_not_ok fine)
  stretch_within f is reach (Some n) None counts fine = absurd (err_not_ok fine)
  stretch_within f is reach (Some n) (Some c) counts fine = stretch_if f is reach n c counts (nat_le (n + c) f.length) refl fine

  stretch_in : (argument : Option Facts) → HeaderOf m r argument → elements_of p m r argument start count ≡ Ok e → IsStretch p m r count e
  unfolding elements_of
  stretch_in None is fine = absurd (err_not_ok fine)
  stretch_in (Some f) is fine =
      let b = both_ok (firewall_check ArrayElement p m f) (λ u. within r f.length (not_negative start) (not_negative count)) e fine in
      stretch_within f (is f refl) (element_allowed p m f b.1) (not_negative start) (not_negative count) refl b.2

  -- the elements of an argument that a call may read or write
  pub stretch_is : (argument : Option Facts) → bytes_argument m r ≡ Ok argument → elements_of p m r argument start count ≡ Ok e → IsStretch p m r count e
  stretch_is argument there fine = stretch_in argument (argument_is m r argument there) fine

  -- which is one of bytes
  pub stretch_bytes : (argument : Option Facts) → bytes_argument m r ≡ Ok argument → elements_of p m r argument start count ≡ Ok e
      → (facts m.heap.now r).kind ≡ ByteArray
  unfolding elements_of
  stretch_bytes None there fine = absurd (err_not_ok fine)
  stretch_bytes (Some f) there fine = let is = argument_is m r (Some f) there f refl in ap (λ (g : Facts). g.kind) (sym is.0) ∙ is.1

pub length_bytes : (m : MemoryState) (e : Stretch) → length (bytes_in m e) ≡ e.count
length_bytes m e = length-map (range_with_len e.start e.count) (byte_at m e.array) ∙ length-range_with_len e.start e.count

-- an instance with at least n cells
cells_if : (n : ℕ) (kind : Kind) (f g : Facts) → with_cells n kind f ≡ Ok g → (kind ≡ Instance) × (n ≤ f.length)
cells_if n Instance f g e = (refl, long (nat_le n f.length) refl e)
  where
    long : (b : Bool) → nat_le n f.length ≡ b → (if b then Ok f else Err (End Fault)) ≡ Ok g → n ≤ f.length
    long true le is = leb-true n f.length le
    long false le is = absurd (err_not_ok is)
cells_if n _ f g e = absurd (err_not_ok e)

pub instance_is : (m : MemoryState) (r n : ℕ) (f : Facts) → instance_at m r n ≡ Ok f → IsInstanceWith m r n
unfolding instance_at
instance_is m r n f e =
    let b = both_ok (object_at m r) (λ g. with_cells n g.kind g) f e in
    let o = object_is m r b.0 b.1 in
    let so = cells_if n (b.0).kind b.0 f b.2 in
    record { there = o.0; instance = subst (λ g. g.kind ≡ Instance) o.1 so.0; cells = subst (λ g. n ≤ g.length) o.1 so.1 }
