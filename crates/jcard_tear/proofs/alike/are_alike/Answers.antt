use Rattle.std.proofs.Common.{◌≡◌, ◌+◌, ◌*◌, ℕ, length, take, drop, rules, subst}
use Rattle.jc_words.specs.Image.{IsLogAmong}
use Rattle.jc_words.specs.declared.log.Log.{Log}
use Rattle.jcard_tear.proofs.SameHeaps.{alike_plain}
use Rattle.jcard_tear.proofs.alike.are_alike.Goals as goal

pub returns : goal.returns
returns c = λ same.
    let a = c.args.a.now in
    let b = c.args.b.now in
    let is = c.in-Some.ensures.log in
    let long : length a ≡ length b = search rules in
    let both = c.agree.ensures same in
    let front = subst (λ (n : ℕ). take n a ≡ take n b) c.from-start.ensures both.0 in
    let from = subst (λ (n : ℕ). drop (n + 2 * c.from.result) a ≡ drop (n + 2 * c.from.result) b) c.from-start.ensures both.1 in
    let back = subst (λ (n : ℕ). drop (c.in-Some.log.start + 2 * n) a ≡ drop (c.in-Some.log.start + 2 * n) b) c.from.ensures from in
    alike_plain a b long c.in-Some.ensures.size
    (subst (λ (l : Log). IsLogAmong (length b) l) is c.in-Some.ensures.fits)
    (subst (λ (l : Log). take l.start a ≡ take l.start b) is front)
    (subst (λ (l : Log). drop (l.start + 2 * l.capacity) a ≡ drop (l.start + 2 * l.capacity) b) is back)
