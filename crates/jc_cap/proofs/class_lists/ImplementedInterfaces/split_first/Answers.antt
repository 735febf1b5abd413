use Rattle.std.proofs.Common.{◌-◌, sym, subst, ◌∙◌, arith, ℕ}
use Rattle.jc_cap.specs.ClassLists.{implemented_at, implemented_value}
use Rattle.jc_cap.specs.Reading.{many_at, list_or_empty, BeginsWithList}
use Rattle.jc_cap.proofs.Many.{BeginsWithList-nil, BeginsWithList-begins_above, Begins-reads, Begins-no_fault}
use Rattle.jc_cap.proofs.class_lists.ImplementedInterfaces.split_first.Goals as goal

pub returns-then-self-eq0 : goal.returns-then-self-eq0
returns-then-self-eq0 c = sym c.self.view_is ∙ BeginsWithList-nil implemented_at c.self.inside.bytes.now
    (list_or_empty (many_at implemented_at c.self.inside.count c.self.inside.bytes.now))
    (subst (λ (n : ℕ). BeginsWithList implemented_at n c.self.inside.bytes.now (list_or_empty
    (many_at implemented_at c.self.inside.count c.self.inside.bytes.now))) c.if-self-eq0.true c.self.invariant)

pub invariant_of-others : goal.invariant_of-others
invariant_of-others c =
    let all = list_or_empty (many_at implemented_at c.self.inside.count c.self.inside.bytes.now) in
    let b = BeginsWithList-begins_above implemented_at c.self.inside.count c.self.inside.bytes.now all (omega (arith, c.if-self-eq0.false)) c.self.invariant in
    (Begins-reads implemented_at (c.self.inside.count - 1) c.self.inside.bytes.now all (implemented_value c.in-Ok.first) c.in-Ok.rest.now b c.in-Ok.ensures).0

pub unreachable-requires : goal.unreachable-requires
unreachable-requires c =
    let all = list_or_empty (many_at implemented_at c.self.inside.count c.self.inside.bytes.now) in
    let b = BeginsWithList-begins_above implemented_at c.self.inside.count c.self.inside.bytes.now all (omega (arith, c.if-self-eq0.false)) c.self.invariant in
    Begins-no_fault implemented_at (c.self.inside.count - 1) c.self.inside.bytes.now all c.in-Err.field-0 b c.in-Err.ensures

pub returns : goal.returns
returns c =
    let all = list_or_empty (many_at implemented_at c.self.inside.count c.self.inside.bytes.now) in
    let b = BeginsWithList-begins_above implemented_at c.self.inside.count c.self.inside.bytes.now all (omega (arith, c.if-self-eq0.false)) c.self.invariant in
    sym c.self.view_is ∙ (Begins-reads implemented_at (c.self.inside.count - 1) c.self.inside.bytes.now all
    (implemented_value c.in-Ok.first) c.in-Ok.rest.now b c.in-Ok.ensures).1
