-- The four words of a change of one word whose old value has to be kept: two of its entry, the count, and the word.
use Rattle.std.specs.Prelude.{◌<◌, ◌≤◌, Bool, false, if◌then◌else◌}
use Rattle.std.proofs.Common.{◌≡◌, ℕ, zero, suc, ◌+◌, ◌*◌, List, [], ◌∷◌, set, take, slice_index, refl, sym, ap, subst, ◌∙◌, arith, get_or-set_other, ne_eqb}
use Rattle.std.proofs.lemmas.List.{length-set}
use Rattle.jc_words.specs.Layout.{count_address}
use Rattle.jc_words.specs.declared.log.Log.{Log}
use Rattle.jc_words.specs.PlacedWords.{with_placed}
use Rattle.jc_commit.specs.Image.{count_of, limit_of, touched_of, with_words, IsPlace}
use Rattle.jc_commit.specs.Entries.{SameBefore}
use Rattle.jc_commit.specs.Keep.{is_taken_back}
use Rattle.jc_commit.specs.EntryIndex.{with_entries}
use Rattle.jc_commit.specs.Writing.{ChangesInside, HasLog, IsFreeFrom, KeepsTransaction}
use Rattle.jc_commit.proofs.Steps.{limit-same}
use Rattle.jc_commit.proofs.Changing.{stays_same}
use Rattle.jc_commit.proofs.Counted.{touched_counted, touched_same}
use Rattle.jc_commit.proofs.EntryKeeping.{Counting, Through, all_go_back, counting_one, entry_same, free_kept, stays_counted, stays_put, through}
use Rattle.jc_commit.proofs.Writes.{stays_more}

-- these words, by the word as it was
abbrev pub kept_words : Log → List ℕ → ℕ → ℕ → ℕ → List (ℕ × ℕ)
kept_words l w n a x = (l.start + 2 * n, a) ∷ (l.start + 2 * n + 1, slice_index w a) ∷ (count_address, n + 1) ∷ (a, x) ∷ []

module _ (l : Log) (w : List ℕ) (n born a x : ℕ) (has : HasLog l w) (place : IsPlace (limit_of w) a) (room : n < l.capacity) (is : n ≡ count_of w)
    (new : is_taken_back (touched_of w) born a ≡ false) (free : IsFreeFrom w born) where
  -- the words with the entry, and with the count
  abbrev v : List ℕ
  v = with_entries l w n ((a, 0) ∷ [])

  abbrev u : List ℕ
  u = set v count_address (n + 1)

  now : Counting l w u n (n + 1) born ((a, x) ∷ [])
  now = counting_one u x has place room is new refl
      (sym (ap (λ (b : Bool). if b then v else set v count_address (n + 1)) (ne_eqb n (n + 1) (λ same. absurd (omega (arith, same))))))

  step : Through u a x (set u a x)
  step = through u a x born now.done.good (subst (λ (m : ℕ). IsPlace m a) (sym (limit-same w u now.done.size now.done.log)) place)
      (free_kept (stays_counted now.done) free) (all_go_back w u born ((a, x) ∷ []) now.done.entries 0 (omega arith))

  -- with the first word of the entry alone
  half : SameBefore l n w (set w (l.start + 2 * n) a)
  half = (length-set w (l.start + 2 * n) a, λ b other. get_or-set_other w (l.start + 2 * n) b a 0 (λ same. absurd (omega (arith, other, same, room))))

  -- what the first k of them leave
  pub stays_at : (k : ℕ) → k ≤ 4 → KeepsTransaction w (with_placed w (take k (kept_words l w n a x)))
  stays_at zero few = stays_same has.good refl
  stays_at (suc zero) few = stays_put has is half
  stays_at (suc (suc zero)) few = stays_put has is (entry_same l w n (a, 0) room)
  stays_at (suc (suc (suc zero))) few = stays_counted now.done
  stays_at (suc (suc (suc (suc zero)))) few = stays_more (stays_counted now.done) step.stays
  stays_at (suc (suc (suc (suc (suc k))))) few = absurd (omega (arith, few))

  -- and all
  pub changed_kept : ChangesInside born ((a, x) ∷ []) w (set u a x) (n + 1)
  changed_kept =
      let grown = touched_same u (set u a x) step.entries ∙ touched_counted w u _ now.done.entries in
      record {
        count = now.count _ grown;
        plain = step.plain ∙ ap (λ (p : List ℕ). with_words p ((a, x) ∷ [])) now.done.plain;
        touched = grown;
      }
