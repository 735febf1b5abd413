-- Images of the same heap.
use Rattle.std.proofs.Common.{◌≡◌, ◌∙◌, ◌+◌, ◌*◌, ◌-◌, ◌<◌, ◌≤◌, ◌⊎◌, ℕ, List, false, length, take, drop, get_or, ap, ap₂, arith, subst, sym, ⊎_elim, get_or-take, get_or-drop}
use Rattle.std.proofs.lemmas.Bool.{cases_lt}
use Rattle.jc_words.specs.Image.{IsLogAmong, heap_end, log_of}
use Rattle.jc_words.specs.Layout.{capacity_address, journal_address, least_size, version_address}
use Rattle.jc_words.specs.declared.log.Log.{Log}
use Rattle.jc_commit.specs.Image.{is_log, limit_of, plain_of, words_by}
use Rattle.jc_commit.proofs.Words.{bounds, log-same, not_entry, words_by_same}

-- words that are the same below some place and from another on
pub agree_below : (a b : List ℕ) (start k : ℕ) → take start a ≡ take start b → k < start → get_or a k 0 ≡ get_or b k 0
agree_below a b start k front h = sym (get_or-take start a k 0 h) ∙ ap (λ (u : List ℕ). get_or u k 0) front ∙ get_or-take start b k 0 h

agree_above : (a b : List ℕ) (end k : ℕ) → drop end a ≡ drop end b → end ≤ k → get_or a k 0 ≡ get_or b k 0
agree_above a b end k back h =
    let place : end + (k - end) ≡ k = omega (arith, h) in
    subst (λ (i : ℕ). get_or a i 0 ≡ get_or b i 0) place
    (sym (get_or-drop end a (k - end) 0) ∙ ap (λ (u : List ℕ). get_or u (k - end) 0) back ∙ get_or-drop end b (k - end) 0)

-- two images whose words are the same but for the entries of their journals are of the same heap
pub alike_plain : (a b : List ℕ) → length a ≡ length b → least_size ≤ length b → IsLogAmong (length b) (log_of b)
    → take (log_of b).start a ≡ take (log_of b).start b
    → drop ((log_of b).start + 2 * (log_of b).capacity) a ≡ drop ((log_of b).start + 2 * (log_of b).capacity) b → plain_of a ≡ plain_of b
unfolding plain_of
alike_plain a b long enough fits front back =
    let l : Log = log_of b in
    let within = bounds (length b) l enough fits in
    let low = within.low in
    let same : log_of a ≡ l = log-same b a
    (agree_below a b l.start version_address front (omega (arith, low)))
    (agree_below a b l.start capacity_address front (omega (arith, low)))
    (agree_below a b l.start journal_address front (omega (arith, low))) in
    let limit : limit_of a ≡ limit_of b = ap₂ (λ (n : ℕ) (x : Log). heap_end n x.capacity) long same in
    let each : (k : ℕ) → k < limit_of b → is_log l k ≡ false → get_or a k 0 ≡ get_or b k 0 =
    λ k below plain. ⊎_elim (λ h. agree_below a b l.start k front h)
    (λ h. agree_above a b (l.start + 2 * l.capacity) k back (not_entry l k plain h)) (cases_lt k l.start) in
    ap₂ (λ (x : Log) (n : ℕ). words_by x n (λ k. get_or a k 0)) same limit ∙ words_by_same l (limit_of b) (λ k. get_or a k 0) (λ k. get_or b k 0) each
