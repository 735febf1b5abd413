use Rattle.std.proofs.Common.{◌≡◌, ◌∙◌, ◌+◌, ◌*◌, ◌-◌, ◌≤◌, ◌⊎◌, ℕ, length, take, drop, get_or, ap, ap₂, rules, subst}
use Rattle.jc_words.specs.Image.{IsLogAmong, log_of}
use Rattle.jc_words.specs.Layout.{front_length}
use Rattle.jc_words.specs.declared.log.Log.{Log}
use Rattle.jc_commit.specs.Image.{top_of}
use Rattle.jcard_tear.proofs.OneHeaps.{one_heap}
use Rattle.jcard_tear.proofs.alike.hold_one_heap.Goals as goal

pub returns : goal.returns
returns c = λ same.
    let a = c.args.a.now in
    let b = c.args.b.now in
    let is = c.in-Some.ensures.log in
    let long : length a ≡ length b = search rules in
    let start : c.from-start.result ≡ (log_of b).start = c.from-start.ensures ∙ ap (λ (l : Log). l.start) is in
    let capacity : c.from.result ≡ (log_of b).capacity = c.from.ensures ∙ ap (λ (l : Log). l.capacity) is in
    let end : c.from-start.result + 2 * c.from.result ≡ (log_of b).start + 2 * (log_of b).capacity = ap₂ (λ (s n : ℕ). s + 2 * n) start capacity in
    let top : c.from-top.result ≡ top_of b = c.from-top.ensures ∙ ap (λ (k : ℕ). get_or b k 0) c.from-2.ensures in
    let front = c.front_end.result in
    let back = c.back_end.result in
    let both = c.agree_in_parts.ensures same in
    let from_start = subst (λ (s : ℕ). (front ≡ s) ⊎ ((front_length ≤ front) × (c.from-top.result ≤ front))) start c.front_end.ensures.enough in
    let at_front = subst (λ (t : ℕ). (front ≡ (log_of b).start) ⊎ ((front_length ≤ front) × (t ≤ front))) top from_start in
    let at_back = subst (λ (t : ℕ). (back ≡ length b) ⊎ (t ≤ back)) top c.back_end.ensures.enough in
    one_heap a b front back long c.in-Some.ensures.size (subst (λ (l : Log). IsLogAmong (length b) l) is c.in-Some.ensures.fits) at_front at_back both.0
    (subst (λ (e : ℕ). take (back - e) (drop e a) ≡ take (back - e) (drop e b)) end both.1)
