-- An opening that is stopped.
use Rattle.std.specs.Prelude.{if◌then◌else◌, ◌==◌, Bool}
use Rattle.std.proofs.Common.{◌≡◌, ◌≤◌, ℕ, suc, ◌+◌, List, [], ◌∷◌, ◌++◌, length, slice_index, take, sym, ap, subst, ◌∙◌, ⊎_elim, arith, length-append, eq-eqb}
use Rattle.std.proofs.lemmas.List.{take-append-le}
use Rattle.std.proofs.lemmas.Bool.{cases_eq, ne_eqb}
use Rattle.jc_words.specs.Count.{saturating_count}
use Rattle.jc_words.specs.Layout.{version_address}
use Rattle.jc_commit.specs.Image.{count_of, recovered_of, with_words, IsGoodLog}
use Rattle.jc_commit.specs.Replay.{replay_writes, IsPartOfReplay}
use Rattle.jc_commit.specs.Migration.{migration, migrated, StillOpens, IsPartOfOpening}
use Rattle.jc_commit.specs.State.{undo_writes}
use Rattle.jc_commit.proofs.Migrations.{migrates, migration-recovered, few_writes}
use Rattle.jc_commit.proofs.Parts.{with_words-append, replay_none, so_many_writes}

-- a replay leaves the migration's writes as they are
pub migration_after : (w u : List ℕ) → IsGoodLog w → IsGoodLog u → recovered_of u ≡ recovered_of w → migration u ≡ migration w
migration_after w u good after same = sym (migration-recovered u after) ∙ ap migration same ∙ migration-recovered w good

-- its length
pub undo_length : (w : List ℕ) → length (replay_writes w) ≡ undo_writes (count_of w)
undo_length w = ⊎_elim none some (cases_eq (count_of w) 0)
  where
    none : count_of w ≡ 0 → length (replay_writes w) ≡ undo_writes (count_of w)
    none e = ap (λ (ws : List (ℕ × ℕ)). length ws) (replay_none w e) ∙ sym (ap (λ (b : Bool). if b then 0 else count_of w + 1) (eq-eqb (count_of w) 0 e))

    some : (count_of w ≡ 0 → ⊥) → length (replay_writes w) ≡ undo_writes (count_of w)
    some e = so_many_writes w e ∙ sym (ap (λ (b : Bool). if b then 0 else count_of w + 1) (ne_eqb (count_of w) 0 e))

take_behind : {A : Type 0} (xs ys : List A) (n : ℕ) → take (length xs + n) (xs ++ ys) ≡ xs ++ take n ys
take_behind [] ys n = ap (λ (k : ℕ). take k ys) (omega arith)
take_behind (x ∷ xs) ys n =
    let e : length (x ∷ xs) + n ≡ suc (length xs + n) = omega arith in
    ap (λ (k : ℕ). take k (x ∷ (xs ++ ys))) e ∙ ap (λ l. x ∷ l) (take_behind xs ys n)

-- stopped in the recovery
pub stops_first : (w v : List ℕ) (p q : ℕ) → IsPartOfReplay w v p q → IsPartOfOpening w v p q
stops_first w v p q part = (
  part.0,
  omega (arith, part.1, length-append (replay_writes w) (migration w)),
  part.2 ∙ ap (λ (ws : List (ℕ × ℕ)). with_words w ws) (sym (take-append-le part.0 (replay_writes w) (migration w) part.1)),
  part.3,
)

-- stopped in the migration
pub stops_later : (w u v : List ℕ) (p q r : ℕ) → u ≡ with_words w (replay_writes w) → migration u ≡ migration w → q ≡ saturating_count p (undo_writes (count_of w))
    → (n : ℕ) → n ≤ length (migration w) → v ≡ migrated n u → r ≡ saturating_count q n → IsPartOfOpening w v p r
stops_later w u v p q r replayed same passed n few left more =
    let long = undo_length w in (
      length (replay_writes w) + n,
      omega (arith, few, length-append (replay_writes w) (migration w)),
      left ∙ ap (λ (ws : List (ℕ × ℕ)). with_words u (take n ws)) same ∙ ap (λ (x : List ℕ). with_words x (take n (migration w))) replayed
          ∙ sym (with_words-append w (replay_writes w) (take n (migration w)))
          ∙ ap (λ (ws : List (ℕ × ℕ)). with_words w ws) (sym (take_behind (replay_writes w) (migration w) n)),
      omega (arith, more, passed, long),
    )

pub still_first : (w v : List ℕ) → IsGoodLog v → length v ≡ length w → recovered_of v ≡ recovered_of w → StillOpens w v
still_first w v good size same = record { good = good; size = size; done = 0; within = omega arith; recovered = same }

pub still_later : (w u v : List ℕ) (n : ℕ) → IsGoodLog u → length u ≡ length w → recovered_of u ≡ recovered_of w → n ≤ 2 → v ≡ migrated n u → StillOpens w v
still_later w u v n good size same few left =
    subst (λ (x : List ℕ). StillOpens w x) (sym left)
    (let m = migrates u n good in record {
      good = m.good;
      size = m.size ∙ size;
      done = n;
      within = few;
      recovered = m.recovered ∙ ap (migrated n) same;
    })

pub most_writes : (w : List ℕ) → length (migration w) ≤ 3
most_writes w = few_writes (slice_index w version_address == 1)
