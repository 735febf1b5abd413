use Rattle.std.proofs.Common.{◌≡◌, ◌∙◌, ◌%◌, List, ℕ, length, get_or, set, [], ap}
use Rattle.std.specs.Borrow.{Bor}
use Rattle.std.proofs.lemmas.List.{map-set}
use Rattle.jcard_outcomes.proofs.Ends.{lent}
use Rattle.jcard_outcomes.proofs.Heads.{next_fault, next_some}
use Rattle.jcard_outcomes.proofs.join.next_line.Goals as goal

pub returns-in_default : goal.returns-in_default
returns-in_default c =
    let rests = c.args.rests.now.items in
    let size : c.len-parts.result ≡ length rests = c.len-parts.ensures ∙ c.args.rests.now.ok.0 in
    let text : c.text_at-rest.result.now ≡ get_or (lent rests) (c.args.number % length rests) [] =
    rw (c.deref.ensures.value, size) at c.text_at-rest.ensures in
    next_fault c.args.number c.len-parts.result rests (lent rests) c.text_at-rest.result.now c.is_empty.result c.head_fault.result size text
    c.is_empty.ensures c.if-is_empty.false (rw c.in_default.is at c.in_ok-told.ensures) c.head_fault.ensures

pub returns : goal.returns
returns c =
    let rests = c.args.rests.now.items in
    let size : c.len-parts.result ≡ length rests = c.len-parts.ensures ∙ c.args.rests.now.ok.0 in
    let text : c.text_at-rest.result.now ≡ get_or (lent rests) (c.args.number % length rests) [] =
    rw (c.deref.ensures.value, size) at c.text_at-rest.ensures in
    let line = rw c.in-Some.is at c.in_ok-told.ensures in
    next_some c.args.number rests (lent (set rests (c.args.number % c.len-parts.result) c.in-Some.more)) c.text_at-rest.result.now c.in-Some.told
    c.in-Some.more.now text line.0 line.1
    (map-set (λ (t : Bor (List ℕ)). t.now) rests (c.args.number % c.len-parts.result) c.in-Some.more
    ∙ ap (λ n. set (lent rests) (c.args.number % n) c.in-Some.more.now) size)
