-- What is read of arguments of the kinds in a row, by their places, is what the row hands out.
use Rattle.std.proofs.Common.{◌≡◌, ◌+◌, ◌∙◌, ℕ, suc, Bool, true, false, List, [], ◌∷◌, Option, Some, None, Result, Ok, Err, refl, sym, ap, if◌then◌else◌}
use Rattle.std.proofs.lemmas.Bool.{false≢true}
use Rattle.std.proofs.lemmas.Option.{none-some}
use Rattle.std.specs.Prelude.{ℤ, pos, ◌==◌, ◌&&◌, ◌||◌, not, slice_get, unwrap_or}
use Rattle.std.specs.Option.{option_and_then}
use Rattle.jc_heap.specs.declared.object.Facts.{Facts}
use Rattle.jc_heap.specs.declared.object.Kind.{Kind}
use Rattle.jc_heap.specs.declared.object.Kind.TheVariants as kinds
use Rattle.jc_memory.specs.Cells.{header_at}
use Rattle.jc_memory.specs.State.{MemoryState}
use Rattle.jc_platform.specs.declared.kinds.ParameterKind.{ParameterKind}
use Rattle.jc_platform.specs.declared.kinds.ParameterKind.TheVariants.{Bytes, Shorts}
use Rattle.jc_linker.specs.Values.{Packages}
use Rattle.jc_frames.specs.Cell.{as_reference, as_short}
use Rattle.jc_frames.specs.declared.cell.Cell.{Cell}
use Rattle.jc_frames.specs.declared.cell.Cell.TheVariants.{Short, Reference, ReturnAddress}
use Rattle.jc_frames.specs.declared.outcome.FrameExit.{FrameExit}
use Rattle.jc_frames.specs.declared.outcome.FrameExit.TheVariants.{End, Throw}
use Rattle.jc_frames.specs.declared.outcome.Outcome.TheVariants.{Void, Short as ShortResult, Reference as ReferenceResult, Thrown, Fault}
use Rattle.jc_memory.specs.Programs.{Finish}
use Rattle.jc_world.specs.Answers.{and_then}
use Rattle.jc_world.specs.Arrays.{bytes_argument, elements_of, if_array, if_bytes}
use Rattle.jc_world.specs.NativeCalls.{NativeProgram, code_fault, if_ok, if_some}
use Rattle.jc_world.specs.Objects.{reference_argument, short_argument, some_or_fault}
use Rattle.jc_world.specs.declared.arrays.Stretch.{Stretch}
use Rattle.jc_api.specs.Arguments.{argument_bytes, array_arguments, counted_of, elements_at, if_shorts, if_shorts_there, pair_arguments, pair_of, shorts_argument}
use Rattle.jc_api.specs.Arguments.{two_of, two_shorts_of}
use Rattle.jc_api.specs.declared.arguments.ArrayArguments.{ArrayArguments}
use Rattle.jc_api.specs.declared.arguments.Pair.{Pair}
use Rattle.jc_api.specs.declared.arguments.PairArguments.{PairArguments}
use Rattle.jc_api.specs.Kinds.{have_kinds, is_bytes, is_number, is_object_of, is_of_kind, is_present_and, is_shorts}
use Rattle.jc_api.specs.Exits.{plain_exit}
use Rattle.jc_api.specs.Forms.{CallAnswer, reading_call}
use Rattle.jc_api_framework.specs.ArgumentReading.{Wanting, elements_in, named_header, number_in, reference_in}
use Rattle.jc_api.proofs.Exits.{FaultsOnly, IsPlainExit, plain_elements}
use Rattle.jc_api_framework.proofs.KindsRead.{AreAt, IsAt}

-- ---- something that was given, and what follows

pub after_some : {A B : Type 0} (o : Option A) (a : A) (go : A → Result B FrameExit) → o ≡ Some a → and_then (some_or_fault o) go ≡ go a
after_some o a go is = ap (λ x. and_then (some_or_fault x) go) is

pub after_ok : {A B : Type 0} (x : Result A FrameExit) (a : A) (go : A → Result B FrameExit) → x ≡ Ok a → and_then x go ≡ go a
after_ok x a go is = ap (λ y. and_then y go) is

-- the same in a call
pub called_some : {A : Type 0} (o : Option A) (a : A) (go : A → NativeProgram) → o ≡ Some a → if_some o go ≡ go a
called_some o a go is = ap (λ x. if_some x go) is

pub called_ok : {A : Type 0} (x : Result A FrameExit) (a : A) (go : A → NativeProgram) → x ≡ Ok a → if_ok x go ≡ go a
called_ok x a go is = ap (λ y. if_ok y go) is

-- what is there or not, and then something that is a code fault
pub faulty_some : {A : Type 0} (o : Option A) (go : A → NativeProgram) → ((a : A) → o ≡ Some a → go a ≡ code_fault) → if_some o go ≡ code_fault
faulty_some None go each = refl
faulty_some (Some a) go each = each a refl

-- ---- the kinds that a list of arguments has, at their places

and_true : (a b : Bool) → (a && b) ≡ true → (a ≡ true) × (b ≡ true)
and_true true b e = (refl, e)
and_true false b e = absurd (false≢true e)

held : {A : Type 0} (o : Option A) (a d : A) → o ≡ Some a → o ≡ Some (unwrap_or o d)
held None a d e = absurd (none-some a e)
held (Some x) a d e = refl

module _ (p : Packages) (m : MemoryState) where
  later : (ks : List ParameterKind) (i : ℕ) (c : Cell) (args : List Cell) → AreAt p m ks i args → AreAt p m ks (suc i) (c ∷ args)
  later [] i c args at = tt
  later (k ∷ ks) i c args at = (at.0, later ks (suc i) c args at.1)

  pub all_at : (ks : List ParameterKind) (args : List Cell) → have_kinds ks p m args ≡ true → AreAt p m ks 0 args
  all_at [] args on = tt
  all_at (k ∷ ks) [] on = absurd (false≢true on)
  all_at (k ∷ ks) (a ∷ args) on =
      let both = and_true (is_of_kind k p m a) (have_kinds ks p m args) on in
      ((a, refl, both.0), later ks 0 a args (all_at ks args both.1))

  -- a number
  number_of : (k : ParameterKind) → is_number k ≡ true → (o : Option Cell) (c : Cell) → o ≡ Some c → is_of_kind k p m c ≡ true
      → (v : ℤ) × (option_and_then as_short o ≡ Some v)
  number_of k number o (Short v) is on = (v, ap (option_and_then as_short) is)
  number_of k number o (Reference r) is on =
      absurd (false≢true (ap (λ b. not b && (r == 0 || is_present_and (header_at m r) (is_object_of k p))) (sym number) ∙ on))
  number_of k number o (ReturnAddress a) is on = absurd (false≢true on)

  pub number_read : (args : List Cell) (i : ℕ) (k : ParameterKind) → is_number k ≡ true → IsAt p m args i k → short_argument args i ≡ Some (number_in args i)
  number_read args i k number at =
      let v = number_of k number (slice_get args i) at.0 at.1 at.2 in held (short_argument args i) v.0 (pos 0) v.1

  -- an array of bytes, or null
  kind_bytes : (kind : Kind) (f : Facts) → is_bytes kind ≡ true → if_bytes kind f ≡ Ok (Some f)
  kind_bytes kinds.Instance f on = absurd (false≢true on)
  kind_bytes kinds.BooleanArray f on = absurd (false≢true on)
  kind_bytes kinds.ByteArray f on = refl
  kind_bytes kinds.ShortArray f on = absurd (false≢true on)
  kind_bytes kinds.ReferenceArray f on = absurd (false≢true on)

  there_bytes : (o : Option Facts) → is_present_and o (is_object_of Bytes p) ≡ true → if_array o ≡ Ok o
  there_bytes None on = absurd (false≢true on)
  there_bytes (Some f) on = kind_bytes f.kind f on

  null_bytes : (null : Bool) (o : Option Facts) → (null || is_present_and o (is_object_of Bytes p)) ≡ true
      → (if null then Ok None else if_array o) ≡ Ok (if null then None else o)
  null_bytes true o on = refl
  null_bytes false o on = there_bytes o on

  argument_bytes_read : (r : ℕ) → is_of_kind Bytes p m (Reference r) ≡ true → bytes_argument m r ≡ Ok (named_header m r)
  unfolding bytes_argument
  argument_bytes_read r on = null_bytes (r == 0) (header_at m r) on

  -- an array of shorts, or null
  kind_shorts : (kind : Kind) (f : Facts) → is_shorts kind ≡ true → if_shorts kind f ≡ Ok (Some f)
  kind_shorts kinds.Instance f on = absurd (false≢true on)
  kind_shorts kinds.BooleanArray f on = absurd (false≢true on)
  kind_shorts kinds.ByteArray f on = absurd (false≢true on)
  kind_shorts kinds.ShortArray f on = refl
  kind_shorts kinds.ReferenceArray f on = absurd (false≢true on)

  there_shorts : (o : Option Facts) → is_present_and o (is_object_of Shorts p) ≡ true → if_shorts_there o ≡ Ok o
  there_shorts None on = absurd (false≢true on)
  there_shorts (Some f) on = kind_shorts f.kind f on

  null_shorts : (null : Bool) (o : Option Facts) → (null || is_present_and o (is_object_of Shorts p)) ≡ true
      → (if null then Ok None else if_shorts_there o) ≡ Ok (if null then None else o)
  null_shorts true o on = refl
  null_shorts false o on = there_shorts o on

  argument_shorts_read : (r : ℕ) → is_of_kind Shorts p m (Reference r) ≡ true → shorts_argument m r ≡ Ok (named_header m r)
  unfolding shorts_argument
  argument_shorts_read r on = null_shorts (r == 0) (header_at m r) on

  -- a reference that is read at its place
  abbrev pub IsReadAt : (MemoryState → ℕ → Result (Option Facts) FrameExit) → List Cell → ℕ → Type 0
  IsReadAt header args i = (reference_argument args i ≡ Some (reference_in args i)) × (header m (reference_in args i) ≡ Ok (named_header m (reference_in args i)))

  reference_of : (header : MemoryState → ℕ → Result (Option Facts) FrameExit) (o : Option Cell) (r : ℕ) → o ≡ Some (Reference r)
      → header m r ≡ Ok (named_header m r)
      → (option_and_then as_reference o ≡ Some (unwrap_or (option_and_then as_reference o) 0))
      × (header m (unwrap_or (option_and_then as_reference o) 0) ≡ Ok (named_header m (unwrap_or (option_and_then as_reference o) 0)))
  reference_of header o r is there =
      let e : option_and_then as_reference o ≡ Some r = ap (option_and_then as_reference) is in
      let same : unwrap_or (option_and_then as_reference o) 0 ≡ r = ap (λ x. unwrap_or x 0) e in
      (held (option_and_then as_reference o) r 0 e, ap (header m) same ∙ there ∙ ap (λ x. Ok (named_header m x)) (sym same))

  bytes_cell : (o : Option Cell) (c : Cell) → o ≡ Some c → is_of_kind Bytes p m c ≡ true → (r : ℕ) × (o ≡ Some (Reference r)) × (is_of_kind Bytes p m (Reference r) ≡ true)
  bytes_cell o (Short v) is on = absurd (false≢true on)
  bytes_cell o (Reference r) is on = (r, is, on)
  bytes_cell o (ReturnAddress a) is on = absurd (false≢true on)

  shorts_cell : (o : Option Cell) (c : Cell) → o ≡ Some c → is_of_kind Shorts p m c ≡ true
      → (r : ℕ) × (o ≡ Some (Reference r)) × (is_of_kind Shorts p m (Reference r) ≡ true)
  shorts_cell o (Short v) is on = absurd (false≢true on)
  shorts_cell o (Reference r) is on = (r, is, on)
  shorts_cell o (ReturnAddress a) is on = absurd (false≢true on)

  pub bytes_read : (args : List Cell) (i : ℕ) → IsAt p m args i Bytes → IsReadAt bytes_argument args i
  bytes_read args i at =
      let r = bytes_cell (slice_get args i) at.0 at.1 at.2 in
      reference_of bytes_argument (slice_get args i) r.0 r.1 (argument_bytes_read r.0 r.2)

  pub shorts_read : (args : List Cell) (i : ℕ) → IsAt p m args i Shorts → IsReadAt shorts_argument args i
  shorts_read args i at =
      let r = shorts_cell (slice_get args i) at.0 at.1 at.2 in
      reference_of shorts_argument (slice_get args i) r.0 r.1 (argument_shorts_read r.0 r.2)

  -- ---- the readers by place

  -- an array, its offset and a length
  abbrev pub given_in : List Cell → ℕ → ArrayArguments
  given_in args i = record { array = reference_in args i; header = named_header m (reference_in args i); start = number_in args (i + 1); count = number_in args (i + 2) }

  pub given_read : (args : List Cell) (i : ℕ) (k l : ParameterKind) → is_number k ≡ true → is_number l ≡ true → IsAt p m args i Bytes → IsAt p m args (i + 1) k
      → IsAt p m args (i + 2) l → array_arguments i args m ≡ Ok (given_in args i)
  given_read args i k l first second a b c =
      let r = bytes_read args i a in
      after_some (reference_argument args i) (reference_in args i) _ r.0
      ∙ after_some (short_argument args (i + 1)) (number_in args (i + 1)) _ (number_read args (i + 1) k first b)
      ∙ after_some (short_argument args (i + 2)) (number_in args (i + 2)) _ (number_read args (i + 2) l second c)
      ∙ after_ok (bytes_argument m (reference_in args i)) (named_header m (reference_in args i)) _ r.1

  pub counted_read : (args : List Cell) (i : ℕ) (k l : ParameterKind) → is_number k ≡ true → is_number l ≡ true → IsAt p m args i Bytes → IsAt p m args (i + 1) k
      → IsAt p m args (i + 2) l → counted_of i args p m ≡ elements_in args p m i (number_in args (i + 2))
  counted_read args i k l first second a b c =
      after_ok (array_arguments i args m) (given_in args i) (λ given. argument_bytes given p m) (given_read args i k l first second a b c)

  -- elements of an array that was named
  pub at_read : (args : List Cell) (i : ℕ) (count : ℤ) → IsAt p m args i Bytes
      → elements_at p m (reference_in args i) (number_in args (i + 1)) count ≡ elements_in args p m i count
  unfolding elements_at
  at_read args i count a =
      after_ok (bytes_argument m (reference_in args i)) (named_header m (reference_in args i))
      (λ h. elements_of p m (reference_in args i) h (number_in args (i + 1)) count) (bytes_read args i a).1

  pub two_read : (args : List Cell) (k : ParameterKind) → is_number k ≡ true → IsAt p m args 0 Bytes → IsAt p m args 1 k
      → two_of args p m ≡ elements_in args p m 0 (pos 2)
  two_read args k number a b =
      after_some (reference_argument args 0) (reference_in args 0) _ (bytes_read args 0 a).0
      ∙ after_some (short_argument args 1) (number_in args 1) _ (number_read args 1 k number b)
      ∙ at_read args 0 (pos 2) a

  pub two_shorts_read : (args : List Cell) (k : ParameterKind) → is_number k ≡ true → IsAt p m args 0 Shorts → IsAt p m args 1 k
      → two_shorts_of args p m ≡ elements_in args p m 0 (pos 2)
  two_shorts_read args k number a b =
      let r = shorts_read args 0 a in
      after_some (reference_argument args 0) (reference_in args 0) _ r.0
      ∙ after_some (short_argument args 1) (number_in args 1) _ (number_read args 1 k number b)
      ∙ after_ok (shorts_argument m (reference_in args 0)) (named_header m (reference_in args 0)) _ r.1

  -- both arrays of a copy or a comparison
  abbrev pub pair_in : List Cell → Result Pair FrameExit
  pair_in args = and_then (elements_in args p m 0 (number_in args 4)) (λ from. and_then (elements_in args p m 2 (number_in args 4))
      (λ to. Ok (record { from = from; to = to })))

  pub pair_read : (args : List Cell) (k l n : ParameterKind) → is_number k ≡ true → is_number l ≡ true → is_number n ≡ true → IsAt p m args 0 Bytes
      → IsAt p m args 1 k → IsAt p m args 2 Bytes → IsAt p m args 3 l → IsAt p m args 4 n
      → and_then (pair_arguments args) (λ named. pair_of p m named) ≡ pair_in args
  pair_read args k l n first second third a b c d e =
      let from = bytes_read args 0 a in
      let to = bytes_read args 2 c in
      let named : PairArguments = record { source = reference_in args 0; source_start = number_in args 1; destination = reference_in args 2; destination_start = number_in args 3; count = number_in args 4 } in
      let read : pair_arguments args ≡ Ok named =
      after_some (reference_argument args 0) (reference_in args 0) _ from.0
      ∙ after_some (short_argument args 1) (number_in args 1) _ (number_read args 1 k first b)
      ∙ after_some (reference_argument args 2) (reference_in args 2) _ to.0
      ∙ after_some (short_argument args 3) (number_in args 3) _ (number_read args 3 l second d)
      ∙ after_some (short_argument args 4) (number_in args 4) _ (number_read args 4 n third e) in
      after_ok (pair_arguments args) named (λ x. pair_of p m x) read
      ∙ after_ok (bytes_argument m (reference_in args 0)) (named_header m (reference_in args 0)) _ from.1
      ∙ after_ok (bytes_argument m (reference_in args 2)) (named_header m (reference_in args 2)) _ to.1

-- ---- what follows a reading

-- how many elements of one array a call wants, and of two: the number that it is given with this place; and always two
abbrev pub wants_given : ℕ → Wanting
wants_given i own numbers m = Ok (numbers i ∷ [])

abbrev pub wants_both : ℕ → Wanting
wants_both i own numbers m = Ok (numbers i ∷ numbers i ∷ [])

abbrev pub wants_two : Wanting
wants_two own numbers m = Ok (pos 2 ∷ [])

-- it wants none
abbrev pub wants_none : Wanting
wants_none own numbers m = Ok []

-- the elements of the one array, or what was refused
abbrev pub the_one : Result (List Stretch) FrameExit → Result Stretch FrameExit
the_one (Ok []) = Err (End Fault)
the_one (Ok (e ∷ es)) = Ok e
the_one (Err z) = Err z

pub one_is : (x : Result Stretch FrameExit) → the_one (and_then x (λ e. Ok (e ∷ []))) ≡ x
one_is (Ok e) = refl
one_is (Err z) = refl

-- what follows a reading of one array, and of two
abbrev pub with_one : (Stretch → NativeProgram) → List Stretch → NativeProgram
with_one go [] = code_fault
with_one go (e ∷ es) = go e

abbrev pub with_two : (Stretch → Stretch → NativeProgram) → List Stretch → NativeProgram
with_two go [] = code_fault
with_two go (e ∷ es) = with_one (go e) es

pub one_follows : (x : Result Stretch FrameExit) (go : Stretch → NativeProgram) → if_ok x go ≡ if_ok (and_then x (λ e. Ok (e ∷ []))) (with_one go)
one_follows (Ok e) go = refl
one_follows (Err z) go = refl

-- a plain exit of a check is that of the call
pub exit_same : (z : FrameExit) → IsPlainExit z → plain_exit z ≡ z
exit_same (Throw e) plain = refl
exit_same (End Void) plain = absurd plain
exit_same (End (ShortResult v)) plain = absurd plain
exit_same (End (ReferenceResult r)) plain = absurd plain
exit_same (End (Thrown r)) plain = absurd plain
exit_same (End Fault) plain = refl

-- a call in form 1 that answers by what it read
answered_exit : (z : FrameExit) → IsPlainExit z → (p : Packages) (m : MemoryState) → reading_call (Err z) p m ≡ Finish (Err z)
answered_exit z plain p m = ap (λ y. Finish (Err y)) (exit_same z plain)

module _ (p : Packages) (m : MemoryState) where
  pub one_answers : (x : Result Stretch FrameExit) → FaultsOnly x → (answer : Stretch → CallAnswer)
      → reading_call (and_then x (λ e. Ok (answer e))) p m ≡ if_ok (and_then x (λ e. Ok (e ∷ []))) (with_one (λ e. reading_call (Ok (answer e)) p m))
  one_answers (Ok e) plain answer = refl
  one_answers (Err z) plain answer = answered_exit z plain p m

  abbrev pub both_of : Result Stretch FrameExit → Result Stretch FrameExit → Result Pair FrameExit
  both_of x y = and_then x (λ from. and_then y (λ to. Ok (record { from = from; to = to })))

  second_answers : (a : Stretch) (y : Result Stretch FrameExit) → FaultsOnly y → (answer : Pair → CallAnswer)
      → reading_call (and_then (and_then y (λ to. Ok (record { from = a; to = to }))) (λ both. Ok (answer both))) p m
      ≡ if_ok (and_then (and_then y (λ to. Ok (to ∷ []))) (λ es. Ok (a ∷ es))) (with_two (λ from to. reading_call (Ok (answer (record { from = from; to = to }))) p m))
  second_answers a (Ok b) plain answer = refl
  second_answers a (Err z) plain answer = answered_exit z plain p m

  pub two_answer : (x y : Result Stretch FrameExit) → FaultsOnly x → FaultsOnly y → (answer : Pair → CallAnswer)
      → reading_call (and_then (both_of x y) (λ both. Ok (answer both))) p m
      ≡ if_ok (and_then x (λ from. and_then (and_then y (λ to. Ok (to ∷ []))) (λ es. Ok (from ∷ es))))
      (with_two (λ from to. reading_call (Ok (answer (record { from = from; to = to }))) p m))
  two_answer (Ok a) y first second answer = second_answers a y second answer
  two_answer (Err z) y first second answer = answered_exit z first p m

  -- what is wanted of an array ends plainly
  pub elements_plain_in : (args : List Cell) (i : ℕ) (count : ℤ) → FaultsOnly (elements_in args p m i count)
  elements_plain_in args i count = plain_elements p m (reference_in args i) (named_header m (reference_in args i)) (number_in args (i + 1)) count
