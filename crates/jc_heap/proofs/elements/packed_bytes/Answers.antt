use Rattle.std.proofs.Common.{◌≡◌, ◌<◌, ◌+◌, ◌*◌, ◌/◌, ◌%◌, ◌-◌, ◌∙◌, ℕ, List, length, set, get_or, refl, sym, ap, subst, arith}
use Rattle.std.specs.Prelude.{slice_index}
use Rattle.std.proofs.lemmas.List.{length-set}
use Rattle.jc_commit.specs.Image.{IsReadable}
use Rattle.jc_heap.specs.Heap.{heap_of, cells, cell_address}
use Rattle.jc_heap.specs.Packed.{low_byte_of}
use Rattle.jc_heap.proofs.Views.{readable, packed_spot}
use Rattle.jc_heap.proofs.ByteReads.{all_read, read_more, pair_spot, pairs_end, high_read, low_read}
use Rattle.jc_heap.proofs.elements.packed_bytes.Goals as goal
use Rattle.jc_heap.proofs.elements.packed_bytes.Goals.{then-odd-eq1, else-odd-eq1}

pub word_at-requires : goal.word_at-requires
word_at-requires g c =
    let spot = packed_spot c.args.journal.now.plain c.args.object c.args.i (omega (arith, c.requires.cells, c.requires.some)) c.requires.packed in
    omega (arith, spot.0, c.requires.small)

pub read-requires : goal.read-requires
read-requires g c =
    let spot = packed_spot c.args.journal.now.plain c.args.object c.args.i (omega (arith, c.requires.cells, c.requires.some)) c.requires.packed in
    rw c.word_at.ensures (readable (length c.args.journal.now.plain) _ spot.0 spot.1)

pub word_at-first-requires : goal.word_at-first-requires
unfolding cell_address
word_at-first-requires g c =
    let spot = packed_spot c.args.journal.now.plain c.args.object c.args.i (omega (arith, c.requires.cells, c.requires.some)) c.requires.packed in
    omega (arith, spot.0, c.requires.small)

pub overflow_cast-behind : goal.overflow_cast-behind
overflow_cast-behind g c =
    let end = pairs_end c.args.journal.now.plain c.args.object c.args.i (c.args.i % 2) (length c.args.out.now) c.requires.cells c.requires.packed
    c.requires.some c.requires.small refl in
    omega (arith, end, c.if-odd-eq1.auto.out)

pub overflow_add-behind : goal.overflow_add-behind
overflow_add-behind g c =
    let end = pairs_end c.args.journal.now.plain c.args.object c.args.i (c.args.i % 2) (length c.args.out.now) c.requires.cells c.requires.packed
    c.requires.some c.requires.small refl in
    omega (arith, end, c.if-odd-eq1.auto.out, c.word_at-first.ensures)

pub loop-address-init : goal.loop-address-init
loop-address-init g c = (
  λ m h.
      let ws = c.args.journal.now.plain in
      let cs = cells (heap_of ws) c.args.object in
      elim c.if-odd-eq1.branch [
        | then-odd-eq1 w ↦
            let byte : w.byte_in.result ≡ low_byte_of cs c.args.i =
            low_read ws c.args.object c.args.i w.read.result w.byte_in.result (omega (arith, c.requires.cells, c.requires.some)) c.requires.packed
            (λ e. omega (arith, e, w.if-odd-eq1.true)) (w.read.ensures ∙ ap (slice_index ws) w.word_at.ensures) w.byte_in.ensures in
            let same : c.args.i ≡ c.args.i + 0 = omega arith in
            subst (λ (l : List ℕ). get_or l m 0 ≡ low_byte_of cs (c.args.i + m)) (sym w.out-is)
            (read_more (low_byte_of cs) c.args.out.now c.args.i 0 w.byte_in.result c.requires.some (λ k below. absurd (omega (arith, below)))
            (subst (λ (x : ℕ). w.byte_in.result ≡ low_byte_of cs x) same byte) m (omega (arith, h)))
        | else-odd-eq1 w ↦ absurd (omega (arith, h, w.if-odd-eq1.false))
      ],
  omega arith,
  omega arith,
  omega arith,
)

pub read-word-requires : goal.read-word-requires
read-word-requires g c =
    let step = c.loop-address.address - c.word_at-first.result in
    let there : c.args.i % 2 + 2 * step < length c.args.out.now =
    omega (arith, c.loop-address-test.true, c.loop-address.invariant.2, c.if-odd-eq1.auto.out) in
    let spot = pair_spot c.args.journal.now.plain c.args.object c.args.i (c.args.i % 2) step (length c.args.out.now) c.requires.cells c.requires.packed refl
    there in
    let is : cell_address c.args.object (c.args.i / 2 + c.args.i % 2) + step ≡ c.loop-address.address =
    omega (arith, c.word_at-first.ensures, c.loop-address.invariant.2) in
    subst (λ (a : ℕ). IsReadable (length c.args.journal.now.plain) a) is (readable (length c.args.journal.now.plain) _ spot.0 spot.1)

pub bounds-out-k : goal.bounds-out-k
bounds-out-k g c = omega (
  arith,
  c.loop-address.invariant.1,
  c.loop-address.invariant.2,
  c.loop-address-test.true,
  c.loop-address.auto.out,
)

pub overflow_add-out : goal.overflow_add-out
overflow_add-out g c = omega (
  arith,
  c.loop-address.invariant.1,
  c.loop-address.invariant.2,
  c.loop-address-test.true,
  c.loop-address.auto.out,
)

pub bounds-out-k-in-loop-address : goal.bounds-out-k-in-loop-address
bounds-out-k-in-loop-address g c = omega (
  arith,
  c.loop-address.invariant.1,
  c.loop-address.invariant.2,
  c.loop-address-test.true,
  c.loop-address.auto.out,
  length-set c.loop-address.out c.loop-address.k c.byte_in-in-loop-address.result,
)

pub overflow_add-k : goal.overflow_add-k
overflow_add-k g c = omega (
  arith,
  c.loop-address.invariant.1,
  c.loop-address.invariant.2,
  c.loop-address-test.true,
  c.loop-address.auto.out,
)

pub loop-address-preserved : goal.loop-address-preserved
loop-address-preserved g c =
    let ws = c.args.journal.now.plain in
    let r = c.args.object in
    let i = c.args.i in
    let step = c.loop-address.address - c.word_at-first.result in
    let p = c.loop-address.k in
    let out = c.loop-address.out in
    let word = c.read-word.result in
    let high = c.byte_in-in-loop-address.result in
    let low = c.byte_in-in-loop-address-2.result in
    let at : p ≡ i % 2 + 2 * step = c.loop-address.invariant.1 in
    let there : p + 1 < length c.args.out.now = omega (arith, at, c.loop-address-test.true, c.loop-address.invariant.2, c.if-odd-eq1.auto.out) in
    let spot = pair_spot ws r i (i % 2) step (length c.args.out.now) c.requires.cells c.requires.packed refl (omega (arith, there, at)) in
    let place : c.loop-address.address ≡ cell_address r (i / 2 + i % 2) + step = omega (arith, c.word_at-first.ensures, c.loop-address.invariant.2) in
    let is : word ≡ get_or ws (cell_address r ((i + p) / 2)) 0 =
    c.read-word.ensures ∙ ap (slice_index ws) (place ∙ spot.2 ∙ ap (λ (k : ℕ). cell_address r ((i + k) / 2)) (sym at)) in
    let half : (i + p) / 2 ≡ (i + (p + 1)) / 2 = omega (arith, at) in
    let first : high ≡ low_byte_of (cells (heap_of ws) r) (i + p) =
    high_read ws r (i + p) word high (omega (arith, c.requires.cells, there)) c.requires.packed (omega (arith, at)) is
    c.byte_in-in-loop-address.ensures c.byte_in-in-loop-address.type_inv in
    let second : low ≡ low_byte_of (cells (heap_of ws) r) (i + (p + 1)) =
    low_read ws r (i + (p + 1)) word low (omega (arith, c.requires.cells, there)) c.requires.packed (λ e. omega (arith, e, at))
    (is ∙ ap (λ (k : ℕ). get_or ws (cell_address r k) 0) half) c.byte_in-in-loop-address-2.ensures in (
      λ m h. read_more (low_byte_of (cells (heap_of ws) r)) (set out p high) i (p + 1) low
          (omega (arith, there, length-set out p high, c.loop-address.auto.out, c.if-odd-eq1.auto.out))
          (read_more (low_byte_of (cells (heap_of ws) r)) out i p high (omega (arith, there, c.loop-address.auto.out, c.if-odd-eq1.auto.out))
          c.loop-address.invariant.0 first) second m (omega (arith, h)),
      omega (arith, at, c.loop-address.invariant.2),
      omega (arith, c.loop-address.invariant.2),
      omega (arith, c.loop-address-test.true),
    )

pub read-requires-then-k-out : goal.read-requires-then-k-out
read-requires-then-k-out g c =
    let pairs = (length c.if-odd-eq1.out - c.args.i % 2) / 2 in
    let there : c.args.i % 2 + 2 * pairs < length c.args.out.now = omega (
      arith,
      c.if-k-out.true,
      c.loop-address.auto.out,
      c.if-odd-eq1.auto.out,
      c.loop-address.invariant.1,
      c.loop-address.invariant.2,
      c.loop-address.invariant.3,
      c.loop-address-test.false,
    ) in
    let spot = pair_spot c.args.journal.now.plain c.args.object c.args.i (c.args.i % 2) pairs (length c.args.out.now) c.requires.cells c.requires.packed
    refl there in
    rw c.word_at-first.ensures (readable (length c.args.journal.now.plain) _ spot.0 spot.1)

pub returns-then-k-out : goal.returns-then-k-out
returns-then-k-out g c =
    let ws = c.args.journal.now.plain in
    let r = c.args.object in
    let i = c.args.i in
    let n = length c.args.out.now in
    let pairs = (length c.if-odd-eq1.out - i % 2) / 2 in
    let p = c.loop-address.k in
    let out = c.loop-address.out in
    let word = c.read-then-k-out.result in
    let byte = c.byte_in-then-k-out.result in
    let at : p ≡ i % 2 + 2 * pairs = omega (
      arith,
      c.loop-address.invariant.1,
      c.loop-address.invariant.2,
      c.loop-address.invariant.3,
      c.loop-address-test.false,
    ) in
    let there : p < n = omega (arith, c.if-k-out.true, c.loop-address.auto.out, c.if-odd-eq1.auto.out) in
    let spot = pair_spot ws r i (i % 2) pairs n c.requires.cells c.requires.packed refl (omega (arith, there, at)) in
    let is : word ≡ get_or ws (cell_address r ((i + p) / 2)) 0 =
    c.read-then-k-out.ensures
    ∙ ap (slice_index ws) (ap (λ (a : ℕ). a + pairs) c.word_at-first.ensures ∙ spot.2 ∙ ap (λ (k : ℕ). cell_address r ((i + k) / 2)) (sym at)) in
    let last : byte ≡ low_byte_of (cells (heap_of ws) r) (i + p) =
    high_read ws r (i + p) word byte (omega (arith, c.requires.cells, there)) c.requires.packed (omega (arith, at)) is c.byte_in-then-k-out.ensures
    c.byte_in-then-k-out.type_inv in
    let all = read_more (low_byte_of (cells (heap_of ws) r)) out i p byte (omega (arith, there, c.loop-address.auto.out, c.if-odd-eq1.auto.out))
    c.loop-address.invariant.0 last in
    all_read (low_byte_of (cells (heap_of ws) r)) (set out p byte) i n (length-set out p byte ∙ c.loop-address.auto.out ∙ c.if-odd-eq1.auto.out)
    (λ m h. all m (omega (arith, h, at, c.if-odd-eq1.auto.out)))

pub returns-else-k-out : goal.returns-else-k-out
returns-else-k-out g c =
    all_read (low_byte_of (cells (heap_of c.args.journal.now.plain) c.args.object)) c.loop-address.out c.args.i (length c.args.out.now)
    (c.loop-address.auto.out ∙ c.if-odd-eq1.auto.out)
    (λ m h. c.loop-address.invariant.0 m (omega (arith, h, c.if-k-out.false, c.loop-address.auto.out, c.if-odd-eq1.auto.out)))
