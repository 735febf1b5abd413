use Rattle.std.proofs.Common.{◌-◌, sym, subst, ◌∙◌, arith, ℕ}
use Rattle.jc_cap.specs.StaticReading.{static_array_at}
use Rattle.jc_cap.specs.StaticViews.{static_array}
use Rattle.jc_cap.specs.Reading.{many_at, list_or_empty, BeginsWithList}
use Rattle.jc_cap.proofs.Many.{BeginsWithList-nil, BeginsWithList-begins_above, Begins-reads, Begins-no_fault}
use Rattle.jc_cap.proofs.static_arrays.ArrayInits.split_first.Goals as goal

pub returns-then-self-eq0-clause-first : goal.returns-then-self-eq0-clause-first
returns-then-self-eq0-clause-first c = sym c.self.view_is ∙ BeginsWithList-nil static_array_at c.self.inside.bytes.now
    (list_or_empty (many_at static_array_at c.self.inside.count c.self.inside.bytes.now))
    (subst (λ (n : ℕ). BeginsWithList static_array_at n c.self.inside.bytes.now (list_or_empty
    (many_at static_array_at c.self.inside.count c.self.inside.bytes.now))) c.if-self-eq0.true c.self.invariant)

pub invariant_of-others : goal.invariant_of-others
invariant_of-others c =
    let all = list_or_empty (many_at static_array_at c.self.inside.count c.self.inside.bytes.now) in
    let b = BeginsWithList-begins_above static_array_at c.self.inside.count c.self.inside.bytes.now all (omega (arith, c.if-self-eq0.false)) c.self.invariant in
    (Begins-reads static_array_at (c.self.inside.count - 1) c.self.inside.bytes.now all (static_array c.in-Ok.array) c.in-Ok.rest.now b c.in-Ok.ensures.read).0

pub unreachable-requires : goal.unreachable-requires
unreachable-requires c =
    let all = list_or_empty (many_at static_array_at c.self.inside.count c.self.inside.bytes.now) in
    let b = BeginsWithList-begins_above static_array_at c.self.inside.count c.self.inside.bytes.now all (omega (arith, c.if-self-eq0.false)) c.self.invariant in
    Begins-no_fault static_array_at (c.self.inside.count - 1) c.self.inside.bytes.now all c.in-Err.field-0 b c.in-Err.ensures.read

pub returns-clause-first : goal.returns-clause-first
returns-clause-first c =
    let all = list_or_empty (many_at static_array_at c.self.inside.count c.self.inside.bytes.now) in
    let b = BeginsWithList-begins_above static_array_at c.self.inside.count c.self.inside.bytes.now all (omega (arith, c.if-self-eq0.false)) c.self.invariant in
    sym c.self.view_is ∙ (Begins-reads static_array_at (c.self.inside.count - 1) c.self.inside.bytes.now all
    (static_array c.in-Ok.array) c.in-Ok.rest.now b c.in-Ok.ensures.read).1
