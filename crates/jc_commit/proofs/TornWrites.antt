-- A replay that is stopped keeps what a recovery gives.
use Rattle.std.specs.Prelude.{if◌then◌else◌, ◌==◌, Bool, true, false}
use Rattle.std.proofs.Common.{◌≡◌, ◌≤◌, ℕ, zero, suc, ◌+◌, ◌*◌, List, [], ◌∷◌, ◌++◌, take, set, refl, sym, ◌∙◌, subst, arith, get_or-set_other}
use Rattle.std.proofs.lemmas.List.{length-set}
use Rattle.jc_commit.specs.Image.{count_of, address_at, old_at, with_words, IsGoodLog, StillRecovers}
use Rattle.jc_words.specs.Layout.{count_address}
use Rattle.jc_words.specs.Image.{log_of}
use Rattle.jc_words.specs.declared.log.Log.{Log}
use Rattle.jc_commit.proofs.Words.{place_spot}
use Rattle.jc_commit.specs.Replay.{write_backs, torn_replay, after_replays}
use Rattle.jc_commit.proofs.Steps.{Replayed, WroteBack, wrote_back, replayed_none, replayed_all, recovered-set_zero, IsGoodLog-set_zero}

write_backs-set : (l : Log) (w : List ℕ) (k a x : ℕ) → k ≤ l.capacity → (l.start ≤ a → l.start + 2 * l.capacity ≤ a)
    → write_backs l (set w a x) k ≡ write_backs l w k
write_backs-set l w zero a x few beside = refl
write_backs-set l w (suc k) a x few beside =
    let address : address_at l (set w a x) k ≡ address_at l w k = get_or-set_other w a (l.start + 2 * k) x 0
    (λ same. let far = beside (omega arith) in absurd (omega arith)) in
    let old : old_at l (set w a x) k ≡ old_at l w k = get_or-set_other w a (l.start + 2 * k + 1) x 0
    (λ same. let far = beside (omega arith) in absurd (omega arith)) in
    let rest : write_backs l (set w a x) k ≡ write_backs l w k = write_backs-set l w k a x (omega arith) beside in
    cc

pub ended : (n : ℕ) (w : List ℕ) → with_words w (take n []) ≡ w
ended zero w = refl
ended (suc n) w = refl

still : (w : List ℕ) → IsGoodLog w → StillRecovers w w
still w good = record { good = good; size = refl; recovered = refl }

stops_at : (l : Log) (w : List ℕ) (k m n : ℕ) → l ≡ log_of w → IsGoodLog w → k + m ≡ count_of w → Replayed l w k m
    → StillRecovers w (with_words w (take n (write_backs l w k ++ (count_address, 0) ∷ [])))
stops_at l w k m zero log good is replayed = still w good
stops_at l w zero m (suc n) log good is replayed =
    let size = good.size.enough in
    let all : m ≡ count_of w = omega arith in
    let whole : Replayed (log_of w) w 0 (count_of w) = subst (λ (o : Log). Replayed o w 0 (count_of w)) log (subst (λ (j : ℕ). Replayed l w 0 j) all replayed) in
    subst (λ (u : List ℕ). StillRecovers w u) (sym (ended n (set w count_address 0)))
    (record {
      good = IsGoodLog-set_zero w good;
      size = length-set w count_address 0;
      recovered = recovered-set_zero w (omega arith) ∙ replayed_all w whole;
    })
stops_at l w (suc k) m (suc n) log good is replayed =
    let few : count_of w ≤ l.capacity = subst (λ (o : Log). count_of w ≤ o.capacity) (sym log) good.few in
    let e : suc k ≡ k + 1 = omega arith in
    let f : k + suc m ≡ count_of w = omega arith in
    let spot = place_spot w (address_at (log_of w) w k) good (good.places k (omega arith)) in
    let beside : l.start ≤ address_at l w k → l.start + 2 * l.capacity ≤ address_at l w k =
    subst (λ (o : Log). o.start ≤ address_at o w k → o.start + 2 * o.capacity ≤ address_at o w k) (sym log) spot.beside in
    let step : WroteBack l w k (suc m) (set w (address_at l w k) (old_at l w k)) =
    wrote_back l w k m log good f (subst (λ (j : ℕ). Replayed l w j m) e replayed) in
    let kept : write_backs l (set w (address_at l w k) (old_at l w k)) k ≡ write_backs l w k =
    write_backs-set l w k (address_at l w k) (old_at l w k) (omega (arith, few, f)) beside in
    let rest = stops_at l (set w (address_at l w k) (old_at l w k)) k (suc m) n step.log step.good (f ∙ sym step.count) step.replayed in
    let there = subst (λ (ws : List (ℕ × ℕ)). StillRecovers (set w (address_at l w k) (old_at l w k))
    (with_words (set w (address_at l w k) (old_at l w k)) (take n (ws ++ (count_address, 0) ∷ [])))) kept rest in
    record { good = there.good; size = there.size ∙ length-set w (address_at l w k) (old_at l w k); recovered = there.recovered ∙ step.recovered }

none_or_all : (b : Bool) (n : ℕ) (w : List ℕ) → IsGoodLog w → StillRecovers w (with_words w (take n (write_backs (log_of w) w (count_of w) ++ (count_address, 0) ∷ [])))
    → StillRecovers w (with_words w (take n (if b then [] else write_backs (log_of w) w (count_of w) ++ (count_address, 0) ∷ [])))
none_or_all true n w good all = subst (λ (u : List ℕ). StillRecovers w u) (sym (ended n w)) (still w good)
none_or_all false n w good all = all

pub stops : (n : ℕ) (w : List ℕ) → IsGoodLog w → StillRecovers w (torn_replay n w)
stops n w good =
    none_or_all (count_of w == 0) n w good (stops_at (log_of w) w (count_of w) 0 n refl good (omega arith) (replayed_none (log_of w) w (count_of w)))

pub replays : (w ns : List ℕ) → IsGoodLog w → StillRecovers w (after_replays ns w)
replays w [] good = still w good
replays w (n ∷ ns) good =
    let first = stops n w good in
    let rest = replays (torn_replay n w) ns first.good in
    record { good = rest.good; size = rest.size ∙ first.size; recovered = rest.recovered ∙ first.recovered }
