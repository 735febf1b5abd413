use Rattle.std.proofs.Common.{[], ◌++◌, ◌∷◌, ◌+◌, drop, get_or, List, ℕ, map, refl, sym, subst, take, inl, inr}
use Rattle.std.proofs.lemmas.Result.{err_from_is_err_and}
use Rattle.std.specs.Borrow.{Bor}
use Rattle.jcard_sweeps.specs.PartTexts.{AreRead}
use Rattle.jcard_sweeps.specs.Texts.{texts_of}
use Rattle.jcard_sweeps.proofs.PartJoins.{names_around, names_next, names_split, nothing, pushed, read_push, texts_next}
use Rattle.jcard_sweeps.proofs.part_texts.texts_of.Goals as goal

pub returns-in_err-text-clause-read : goal.returns-in_err-text-clause-read
returns-in_err-text-clause-read g c =
    let read = c.in_err-text.ensures.read in
    let before = c.loop-file.invariant in
    let p = err_from_is_err_and c.from_residual.result c.from_residual.ensures.1 in
    rw (p.1, p.2) (
      before.0 ++ read.0,
      g.met.D.Disk.then _ _ _ before.0 read.0 before.1 read.1,
      inr (
        texts_of (take c.loop-file.file-index c.args.files.now),
        texts_of (drop (c.loop-file.file-index + 1) c.args.files.now),
        map (λ t. t.items) c.loop-file.texts.items,
        (get_or c.args.files.now c.loop-file.file-index nothing).now,
        before.0,
        read.0,
        names_around c.args.files.now c.loop-file.file-index c.loop-file-test.true,
        before.2,
        read.2,
        refl,
      ),
    )

pub returns-then-is_err-clause-read : goal.returns-then-is_err-clause-read
returns-then-is_err-clause-read g c =
    let read = c.in_ok-text.ensures.read in
    let before = c.loop-file.invariant in
    let names = texts_of (take c.loop-file.file-index c.args.files.now) in
    let texts = map (λ t. t.items) c.loop-file.texts.items in
    let more = read_push names texts before.0 (get_or c.args.files.now c.loop-file.file-index nothing).now c.in_ok-text.text.items read.0 before.2 read.2 in
    let next = names_next c.args.files.now c.loop-file.file-index c.loop-file-test.true in (
      before.0 ++ read.0,
      g.met.D.Disk.then _ _ _ before.0 read.0 before.1 read.1,
      inl (
        refl,
        (
          texts_of (take (c.loop-file.file-index + 1) c.args.files.now),
          texts_of (drop (c.loop-file.file-index + 1) c.args.files.now),
          texts ++ c.in_ok-text.text.items ∷ [],
          names_split (λ (f : Bor (List ℕ)). f.now) c.args.files.now (c.loop-file.file-index + 1),
          subst (λ first. AreRead first (texts ++ c.in_ok-text.text.items ∷ []) (before.0 ++ read.0)) (sym next) more,
        ),
      ),
    )

pub loop-file-preserved : goal.loop-file-preserved
loop-file-preserved g c =
    let read = c.in_ok-text.ensures.read in
    let before = c.loop-file.invariant in
    let one = pushed c.push.result c.is_err.result c.push.new.self.items c.loop-file.texts.items c.in_ok-text.text c.is_err.ensures.value c.if-is_err.false
    c.push.ensures.items in
    let names = texts_of (take c.loop-file.file-index c.args.files.now) in
    let name = (get_or c.args.files.now c.loop-file.file-index nothing).now in
    let more = read_push names (map (λ t. t.items) c.loop-file.texts.items) before.0 name c.in_ok-text.text.items read.0 before.2 read.2 in (
      before.0 ++ read.0,
      g.met.D.Disk.then _ _ _ before.0 read.0 before.1 read.1,
      subst (λ names. AreRead names (map (λ t. t.items) c.push.new.self.items) (before.0 ++ read.0))
          (sym (names_next c.args.files.now c.loop-file.file-index c.loop-file-test.true))
          (subst (λ texts. AreRead (names ++ name ∷ []) texts (before.0 ++ read.0))
          (sym (texts_next (λ t. t.items) c.loop-file.texts.items c.push.new.self.items c.in_ok-text.text one)) more),
    )
