-- What a store in memory under a fuse has let pass where it refused a write.
use Rattle.std.specs.Prelude.{if◌then◌else◌, ◌==◌}
use Rattle.std.proofs.Common.{◌≡◌, ◌≢◌, ◌∙◌, ◌<◌, ◌++◌, ℕ, Bool, true, false, List, [], ◌∷◌, Some, refl, ap, sym, subst, take, arith, slice_index}
use Rattle.std.proofs.lemmas.Bool.{eqb-true, ne_eqb}
use Rattle.std.proofs.lemmas.List.{append-nil}
use Rattle.jc_words.specs.Count.{saturating_count}
use Rattle.jc_words.specs.Refusals.{Refusals, refused_once}
use Rattle.jc_words.specs.Store.{FuseStoreValue, with_fuse_armed}
use Rattle.jc_words.specs.Layout.{capacity_address, first_version, front_capacity, journal_address, log_start, version, version_address}
use Rattle.jc_commit.specs.Image.{with_words}
use Rattle.jc_commit.specs.Migration.{IsPartOfOpening, opening_writes}
use Rattle.jc_commit.specs.Replay.{replay_writes, torn_replay}
use Rattle.jcard_sweeps.specs.Runs.{store_of}

counted : (n : ℕ) → n < 65536 → saturating_count 0 n ≡ n
counted n h = omega arith

counted_back : (m n : ℕ) → n < 65536 → n ≡ saturating_count 0 m → m ≡ n
counted_back m n h e = omega arith

-- one that is no fault is the fuse's
by_fuse : (b : Bool) → (if b then 0 else saturating_count 0 1) ≡ 0 → b ≡ true
by_fuse true e = refl
by_fuse false e = absurd (omega (arith, e))

-- this many writes have passed
passed_at : (passed number : ℕ) (after : Refusals) → number < 65536
    → after ≡ refused_once false passed (record { count = 0; fuse = Some (saturating_count 0 number); faults = 0 }) → after.faults ≡ 0 → number ≡ passed
unfolding refused_once
passed_at passed number after h refused none =
    let blown : (saturating_count 0 number == passed) ≡ true = by_fuse (saturating_count 0 number == passed) (sym (ap (λ (r : Refusals). r.faults) refused) ∙ none) in
    sym (counted number h) ∙ eqb-true (saturating_count 0 number) passed blown

-- an opening of words of another version than the first is a recovery
none_migrated : (w : List ℕ) → slice_index w version_address ≢ first_version → opening_writes w ≡ replay_writes w
none_migrated w second =
    ap (λ (b : Bool). replay_writes w ++ (if b then (capacity_address, front_capacity) ∷ (journal_address, log_start) ∷ (version_address, version) ∷ [] else []))
    (ne_eqb (slice_index w version_address) first_version second) ∙ append-nil (replay_writes w)

-- a recovery over these words, which are of another version than the first, whose power was cut after this many writes left the words of one that is stopped after as many
pub torn_at : (words : List ℕ) (armed after : FuseStoreValue) (number : ℕ) → armed ≡ with_fuse_armed number (store_of words) → number < 65536
    → slice_index words version_address ≢ first_version → IsPartOfOpening armed.words after.words armed.passed after.passed
    → (armed.down ≡ false → after.refusals ≡ refused_once false after.passed armed.refusals) → after.refusals.faults ≡ 0
    → after.words ≡ torn_replay number words
torn_at words armed after number is h second part refused none =
    let torn = subst (λ (s : FuseStoreValue). IsPartOfOpening s.words after.words s.passed after.passed) is part in
    let up : armed.down ≡ false = ap (λ (s : FuseStoreValue). s.down) is in
    let told = refused up ∙ ap (λ (s : FuseStoreValue). refused_once false after.passed s.refusals) is in
    let passed : number ≡ after.passed = passed_at after.passed number after.refusals h told none in
    let same : torn.0 ≡ number = counted_back torn.0 number h (passed ∙ torn.3) in
    torn.2
    ∙ ap (λ (ws : List (ℕ × ℕ)). with_words words (take torn.0 ws)) (none_migrated words second)
    ∙ ap (λ (n : ℕ). torn_replay n words) same
