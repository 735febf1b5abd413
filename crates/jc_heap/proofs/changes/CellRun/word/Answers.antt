use Rattle.std.proofs.Common.{◌≡◌, ℕ, ◌+◌, ◌*◌, List, length, get_or, sym, ap, subst, ◌∙◌, arith}
use Rattle.jc_commit.proofs.WordRuns.{viewed_length, run_word}
use Rattle.jc_heap.specs.Packed.{packed_words}
use Rattle.jc_heap.specs.Elements.{elements_of, packing_words, bytes_with, FitPacking}
use Rattle.jc_heap.proofs.Packing.{packed_words-word}
use Rattle.jc_heap.proofs.changes.CellRun.word.Goals.{in-Single, in-Double}
use Rattle.jc_heap.proofs.changes.CellRun.word.Goals as goal

pub element-value-requires : goal.element-value-requires
element-value-requires c =
    let packing = viewed_length c.self.inside.at (packing_words c.self.inside.packing (elements_of c.self.inside.values)) c.args.self.now c.self.view_is in
    let long : length (packing_words c.self.inside.packing (elements_of c.self.inside.values)) ≡ length (elements_of c.self.inside.values) =
    ap (λ p. length (packing_words p (elements_of c.self.inside.values))) c.in-Single.is in
    omega (arith, packing, long, c.requires)

pub overflow_mul-k : goal.overflow_mul-k
overflow_mul-k c =
    let packing = viewed_length c.self.inside.at (packing_words c.self.inside.packing (elements_of c.self.inside.values)) c.args.self.now c.self.view_is in
    omega (arith, packing, c.requires, c.self.invariant.0)

pub overflow_mul-k-in-Double : goal.overflow_mul-k-in-Double
overflow_mul-k-in-Double c =
    let packing = viewed_length c.self.inside.at (packing_words c.self.inside.packing (elements_of c.self.inside.values)) c.args.self.now c.self.view_is in
    omega (arith, packing, c.requires, c.self.invariant.0)

pub overflow_add-k : goal.overflow_add-k
overflow_add-k c =
    let packing = viewed_length c.self.inside.at (packing_words c.self.inside.packing (elements_of c.self.inside.values)) c.args.self.now c.self.view_is in
    omega (arith, packing, c.requires, c.self.invariant.0)

pub byte_of_run-requires : goal.byte_of_run-requires
byte_of_run-requires c = subst (λ p. FitPacking p (elements_of c.self.inside.values)) c.in-Double.is c.self.invariant.1

pub returns : goal.returns
returns c =
    let packing = viewed_length c.self.inside.at (packing_words c.self.inside.packing (elements_of c.self.inside.values)) c.args.self.now c.self.view_is in
    let value : c.match-self.value ≡ get_or (packing_words c.self.inside.packing (elements_of c.self.inside.values)) c.args.k 0 =
    elim c.match-self.branch [
      | in-Single w ↦ w.value-is ∙ w.element-value.ensures
          ∙ ap (λ p. get_or (packing_words p (elements_of c.self.inside.values)) c.args.k 0) (sym w.in-Single.is)
      | in-Double w ↦
          let bytes : List ℕ = bytes_with w.in-Double.before (elements_of c.self.inside.values) w.in-Double.behind in
          let word : get_or (packed_words bytes) c.args.k 0 ≡ 256 * get_or bytes (2 * c.args.k) 0 + get_or bytes (2 * c.args.k + 1) 0 =
          packed_words-word bytes c.args.k in
          let said : c.match-self.value ≡ get_or (packed_words bytes) c.args.k 0 =
          omega (arith, w.value-is, w.byte_of_run.ensures.value, w.byte_of_run-in-Double.ensures.value, word) in
          said ∙ ap (λ p. get_or (packing_words p (elements_of c.self.inside.values)) c.args.k 0) (sym w.in-Double.is)
    ] in
    let there : (c.self.inside.at + c.args.k, c.match-self.value) ≡ get_or c.args.self.now c.args.k (0, 0) =
    run_word c.self.inside.at (packing_words c.self.inside.packing (elements_of c.self.inside.values)) c.args.self.now c.args.k c.match-self.value
    c.self.view_is c.requires value in
    ap (λ (a : ℕ). (a, c.match-self.value)) (c.address.ensures ∙ ap (λ (w : ℕ × ℕ). w.0) (sym there)) ∙ there
