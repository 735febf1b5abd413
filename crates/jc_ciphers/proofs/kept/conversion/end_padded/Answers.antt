use Rattle.std.proofs.Common.{◌≡◌, ◌∙◌, ◌≤◌, ◌<◌, ◌+◌, ◌%◌, ◌++◌, Bool, List, [], ℕ, append-nil, length, length-append, length-take-le, sym, take, ap, arith}
use Rattle.jc_ciphers.specs.declared.padding.Padding.{Padding}
use Rattle.jc_ciphers.specs.Kept.Conversion.{last_size, whole_output}
use Rattle.jc_ciphers.specs.Padding.{padding_of, space}
use Rattle.jc_ciphers.proofs.Pieces.{part_put}
use Rattle.jc_ciphers.proofs.Ready.{ended_part, ended_whole, last_size-mod, left_over, space_left}
use Rattle.jc_ciphers.proofs.kept.conversion.end_padded.Goals as goal

-- what is padded at the end of a message
padding_eq : (p : Padding) (size size' last n used : ℕ) (came : Bool) → size' ≡ size → last ≡ last_size size' came used → used < size → n % size ≡ used
    → padding_of p size' last ≡ padding_of p size (last_size size came n)
padding_eq p size size' last n used came same is low left =
    (λ j. padding_of p (same j) (is j)) ∙ ap (λ (s : ℕ). padding_of p size (last_size s came used)) same
    ∙ ap (padding_of p size) (sym (last_size-mod size came n used low left))

pub returns-then-progress-count-eq0-clause-ended : goal.returns-then-progress-count-eq0-clause-ended
returns-then-progress-count-eq0-clause-ended g c = λ first m was.
    let f = g.S.Step.chained c.args.step.now in
    let w = g.S.Step.written c.args.step.now in
    let size = g.S.Step.size in
    let used = c.args.progress.used in
    let count = c.pad-count.result in
    let none = c.if-progress-count-eq0.true in
    let left = left_over size (length m) was.blocks used c.requires.used was.long in
    let padding : List ℕ = padding_of c.args.padding size (last_size size c.args.came (length m)) in
    let zero_long : count ≡ 0 = omega (arith, none) in
    let nothing : padding ≡ [] =
    sym (c.pad-count.ensures.padded
    ∙ padding_eq c.args.padding size (length c.args.block.now) c.last_size.result (length m) used c.args.came c.requires.block c.last_size.ensures
    c.requires.used left)
    ∙ ap (λ (n : ℕ). take n c.pad-count.new.to) zero_long in
    let all : m ≡ m ++ padding = sym (append-nil m) ∙ ap (λ (xs : List ℕ). m ++ xs) (sym nothing) in
    ended_whole f w size first m c.args.chain.now c.args.block.now used (take c.args.progress.written c.args.to.now) c.requires.some
    (omega (arith, none)) was
    ∙ ap (λ (xs : List ℕ). whole_output f w size first xs) all

-- the padding that is put has room in the block
within_block : (size size' used count last : ℕ) (came : Bool) → size' ≡ size → last ≡ last_size size' came used → count ≤ space size' last → used < size
    → used + count ≤ size
within_block size size' used count last came same is fits low =
    let room = space_left size used came low in
    let here : space size' last ≡ space size (last_size size came used) = (λ j. space (same j) (is j)) ∙ ap (λ (s : ℕ). space size (last_size s came used)) same in
    omega (arith, fits, here, room, low)

pub returns-then-progress-count-clause-ended : goal.returns-then-progress-count-clause-ended
returns-then-progress-count-clause-ended g c = λ first m was.
    let f = g.S.Step.chained c.args.step.now in
    let w = g.S.Step.written c.args.step.now in
    let size = g.S.Step.size in
    let used = c.args.progress.used in
    let count = c.pad-count.result in
    let block = c.requires.block in
    let some = c.if-progress-count-eq0.false in
    let part = c.if-progress-count.true in
    let within = c.pad-count.ensures.within in
    let fits = c.requires.fits in
    let left = left_over size (length m) was.blocks used c.requires.used was.long in
    let padding : List ℕ = padding_of c.args.padding size (last_size size c.args.came (length m)) in
    let is : take count c.pad-count.new.to ≡ padding =
    c.pad-count.ensures.padded
    ∙ padding_eq c.args.padding size (length c.args.block.now) c.last_size.result (length m) used c.args.came block c.last_size.ensures c.requires.used left in
    let long : length padding ≡ count =
    ap (λ (xs : List ℕ). length xs) (sym is) ∙ length-take-le count c.pad-count.new.to (omega (arith, within, block, fits, c.pad-count.array_long)) in
    ended_part f w size first (m ++ padding) was.blocks (used + count) (omega (arith, was.long, length-append m padding, long))
    (omega (arith, some)) (omega (arith, part, block))

pub put-requires : goal.put-requires
put-requires g c =
    let used = c.args.progress.used in
    let count = c.pad-count.result in
    let block = c.requires.block in
    let within = c.pad-count.ensures.within in
    let fits = c.requires.fits in
    let room = within_block g.S.Step.size (length c.args.block.now) used count c.last_size.result c.args.came block c.last_size.ensures
    c.pad-count.ensures.room c.requires.used in
    omega (arith, room, block, length-take-le count c.pad-count.new.to (omega (arith, within, block, fits, c.pad-count.array_long)))

pub returns-clause-ended : goal.returns-clause-ended
returns-clause-ended g c = λ first m was.
    let f = g.S.Step.chained c.args.step.now in
    let w = g.S.Step.written c.args.step.now in
    let size = g.S.Step.size in
    let used = c.args.progress.used in
    let count = c.pad-count.result in
    let block = c.requires.block in
    let within = c.pad-count.ensures.within in
    let fits = c.requires.fits in
    let full = c.if-progress-count.false in
    let room = within_block size (length c.args.block.now) used count c.last_size.result c.args.came block c.last_size.ensures
    c.pad-count.ensures.room c.requires.used in
    let left = left_over size (length m) was.blocks used c.requires.used was.long in
    let padding : List ℕ = padding_of c.args.padding size (last_size size c.args.came (length m)) in
    let part : List ℕ = take count c.pad-count.new.to in
    let is : part ≡ padding =
    c.pad-count.ensures.padded
    ∙ padding_eq c.args.padding size (length c.args.block.now) c.last_size.result (length m) used c.args.came block c.last_size.ensures c.requires.used left in
    let long : length part ≡ count = length-take-le count c.pad-count.new.to (omega (arith, within, block, fits, c.pad-count.array_long)) in
    let put = part_put f w size first m c.args.chain.now c.args.block.now c.put.new.to part used size (take c.args.progress.written c.args.to.now) was
    (omega (arith, full, room, long, block)) c.put.ensures in
    let flushed = c.flush-progress.ensures.converted first (m ++ part) [] put in
    ended_whole f w size first (m ++ part) c.flush-progress.new.chain c.flush-progress.new.block c.flush-progress.result.used
    (take c.flush-progress.result.written c.flush-progress.new.to) c.requires.some c.flush-progress.ensures.used flushed
    ∙ ap (λ (xs : List ℕ). whole_output f w size first (m ++ xs)) is
