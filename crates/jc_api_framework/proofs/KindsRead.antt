-- Arguments that were read one by one are of the kinds in a row.
use Rattle.std.proofs.Common.{◌≡◌, ◌∙◌, ℕ, suc, Bool, true, false, List, [], ◌∷◌, Option, Some, None, Result, Ok, Err, refl, sym, ap, if◌then◌else◌}
use Rattle.std.proofs.lemmas.Option.{none-some, same_Some}
use Rattle.std.specs.Prelude.{ℤ, ◌==◌, ◌&&◌, ◌||◌, slice_get}
use Rattle.std.specs.Option.{option_and_then}
use Rattle.jc_heap.specs.declared.object.Facts.{Facts}
use Rattle.jc_heap.specs.declared.object.Kind.{Kind}
use Rattle.jc_heap.specs.declared.object.Kind.TheVariants as kinds
use Rattle.jc_memory.specs.Cells.{header_at}
use Rattle.jc_memory.specs.State.{MemoryState}
use Rattle.jc_platform.specs.declared.kinds.ParameterKind.{ParameterKind}
use Rattle.jc_platform.specs.declared.kinds.ParameterKind.TheVariants.{Bytes}
use Rattle.jc_linker.specs.Values.{Packages}
use Rattle.jc_frames.specs.Cell.{as_reference, as_short}
use Rattle.jc_frames.specs.declared.cell.Cell.{Cell}
use Rattle.jc_frames.specs.declared.cell.Cell.TheVariants.{Short, Reference, ReturnAddress}
use Rattle.jc_frames.specs.declared.outcome.FrameExit.{FrameExit}
use Rattle.jc_frames.specs.declared.outcome.FrameExit.TheVariants.{End}
use Rattle.jc_frames.specs.declared.outcome.Outcome.TheVariants.{Fault}
use Rattle.jc_world.specs.Answers.{and_then}
use Rattle.jc_world.specs.Arrays.{bytes_argument, if_array, if_bytes}
use Rattle.jc_world.specs.Objects.{reference_argument, short_argument, some_or_fault}
use Rattle.jc_api.specs.Kinds.{have_kinds, is_bytes, is_number, is_object_of, is_of_kind, is_present_and}
use Rattle.jc_api.proofs.Reaching.{err_not_ok}

-- ---- what is read, and then something that is a code fault

pub past_some : {A B : Type 0} (o : Option A) (go : A → Result B FrameExit) → ((a : A) → o ≡ Some a → go a ≡ Err (End Fault))
    → and_then (some_or_fault o) go ≡ Err (End Fault)
past_some None go each = refl
past_some (Some a) go each = each a refl

pub past_then : {A B C : Type 0} (x : Result A FrameExit) (f : A → Result B FrameExit) (go : B → Result C FrameExit)
    → and_then x (λ a. and_then (f a) go) ≡ Err (End Fault) → and_then (and_then x f) go ≡ Err (End Fault)
past_then (Ok a) f go e = e
past_then (Err x) f go e = e

faulty_kind : {B : Type 0} (kind : Kind) (f : Facts) (x : Result (Option Facts) FrameExit) (go : Option Facts → Result B FrameExit) → if_bytes kind f ≡ x
    → ((h : Option Facts) → x ≡ Ok h → go h ≡ Err (End Fault)) → and_then x go ≡ Err (End Fault)
faulty_kind kinds.Instance f x go is each = ap (λ y. and_then y go) (sym is)
faulty_kind kinds.BooleanArray f x go is each = ap (λ y. and_then y go) (sym is)
faulty_kind kinds.ByteArray f x go is each = ap (λ y. and_then y go) (sym is) ∙ each (Some f) (sym is)
faulty_kind kinds.ShortArray f x go is each = ap (λ y. and_then y go) (sym is)
faulty_kind kinds.ReferenceArray f x go is each = ap (λ y. and_then y go) (sym is)

faulty_array : {B : Type 0} (o : Option Facts) (go : Option Facts → Result B FrameExit) → ((h : Option Facts) → if_array o ≡ Ok h → go h ≡ Err (End Fault))
    → and_then (if_array o) go ≡ Err (End Fault)
faulty_array None go each = refl
faulty_array (Some f) go each = faulty_kind f.kind f (if_bytes f.kind f) go refl each

faulty_null : {B : Type 0} (null : Bool) (o : Option Facts) (go : Option Facts → Result B FrameExit)
    → ((h : Option Facts) → (if null then Ok None else if_array o) ≡ Ok h → go h ≡ Err (End Fault))
    → and_then (if null then Ok None else if_array o) go ≡ Err (End Fault)
faulty_null true o go each = each None refl
faulty_null false o go each = faulty_array o go each

pub past_bytes : {B : Type 0} (m : MemoryState) (r : ℕ) (go : Option Facts → Result B FrameExit)
    → ((h : Option Facts) → bytes_argument m r ≡ Ok h → go h ≡ Err (End Fault)) → and_then (bytes_argument m r) go ≡ Err (End Fault)
unfolding bytes_argument
past_bytes m r go each = faulty_null (r == 0) (header_at m r) go each

-- ---- kinds at places

module _ (p : Packages) (m : MemoryState) where
  -- the argument with a place is of a kind
  abbrev pub IsAt : List Cell → ℕ → ParameterKind → Type 0
  IsAt args i k = (c : Cell) × (slice_get args i ≡ Some c) × (is_of_kind k p m c ≡ true)

  short_at : (o : Option Cell) (k : ParameterKind) → is_number k ≡ true → (v : ℤ) → option_and_then as_short o ≡ Some v
      → (c : Cell) × (o ≡ Some c) × (is_of_kind k p m c ≡ true)
  short_at None k number v is = absurd (none-some v is)
  short_at (Some (Short x)) k number v is = (Short x, refl, number)
  short_at (Some (Reference r)) k number v is = absurd (none-some v is)
  short_at (Some (ReturnAddress r)) k number v is = absurd (none-some v is)

  pub number_at : (args : List Cell) (i : ℕ) (k : ParameterKind) → is_number k ≡ true → (v : ℤ) → short_argument args i ≡ Some v → IsAt args i k
  number_at args i k number v is = short_at (slice_get args i) k number v is

  bytes_of : (kind : Kind) (f : Facts) (h : Option Facts) → if_bytes kind f ≡ Ok h → kind ≡ kinds.ByteArray
  bytes_of kinds.Instance f h e = absurd (err_not_ok e)
  bytes_of kinds.BooleanArray f h e = absurd (err_not_ok e)
  bytes_of kinds.ByteArray f h e = refl
  bytes_of kinds.ShortArray f h e = absurd (err_not_ok e)
  bytes_of kinds.ReferenceArray f h e = absurd (err_not_ok e)

  present : (o : Option Facts) (h : Option Facts) → if_array o ≡ Ok h → is_present_and o (is_object_of Bytes p) ≡ true
  present None h e = absurd (err_not_ok e)
  present (Some f) h e = ap is_bytes (bytes_of f.kind f h e)

  refers : (r : ℕ) (null : Bool) (h : Option Facts) → (if null then Ok None else if_array (header_at m r)) ≡ Ok h
      → (null || is_present_and (header_at m r) (is_object_of Bytes p)) ≡ true
  refers r true h e = refl
  refers r false h e = present (header_at m r) h e

  refers_to_bytes : (r : ℕ) (h : Option Facts) → bytes_argument m r ≡ Ok h → is_of_kind Bytes p m (Reference r) ≡ true
  unfolding bytes_argument
  refers_to_bytes r h e = refers r (r == 0) h e

  reference_at : (o : Option Cell) (r : ℕ) → option_and_then as_reference o ≡ Some r → o ≡ Some (Reference r)
  reference_at None r is = absurd (none-some r is)
  reference_at (Some (Short x)) r is = absurd (none-some r is)
  reference_at (Some (Reference x)) r is = ap (λ y. Some (Reference y)) (same_Some x r is)
  reference_at (Some (ReturnAddress x)) r is = absurd (none-some r is)

  pub bytes_at : (args : List Cell) (i : ℕ) (r : ℕ) (h : Option Facts) → reference_argument args i ≡ Some r → bytes_argument m r ≡ Ok h → IsAt args i Bytes
  bytes_at args i r h is there = (Reference r, reference_at (slice_get args i) r is, refers_to_bytes r h there)

  -- kinds, one at each place from one on
  abbrev pub AreAt : List ParameterKind → ℕ → List Cell → Type 0
  AreAt [] i args = Unit {0}
  AreAt (k ∷ ks) i args = IsAt args i k × AreAt ks (suc i) args

  -- the same of what comes after the first argument
  shifted : (ks : List ParameterKind) (i : ℕ) (c : Cell) (args : List Cell) → AreAt ks (suc i) (c ∷ args) → AreAt ks i args
  shifted [] i c args at = tt
  shifted (k ∷ ks) i c args at = (at.0, shifted ks (suc i) c args at.1)

  pub have_all : (ks : List ParameterKind) (args : List Cell) → AreAt ks 0 args → have_kinds ks p m args ≡ true
  have_all [] args at = refl
  have_all (k ∷ ks) [] at = absurd (none-some (at.0).0 (at.0).1)
  have_all (k ∷ ks) (a ∷ args) at =
      let first : is_of_kind k p m a ≡ true = ap (is_of_kind k p m) (same_Some a (at.0).0 (at.0).1) ∙ (at.0).2 in
      ap (λ b. b && have_kinds ks p m args) first ∙ have_all ks args (shifted ks 0 a args at.1)
