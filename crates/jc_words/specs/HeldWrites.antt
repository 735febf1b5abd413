-- Writes that a store over a file holds back.
use Rattle.std.specs.Prelude.{ℕ, ◌≡◌, ◌+◌, ◌*◌, ◌<◌, ◌⊎◌, ◌==◌, ◌&&◌, not, List, Bool, true, false, Option, None, Some, Result, Ok, Err, is_ok, IfSome, length, slice_index, slice_set, if◌then◌else◌}
use Rattle.jc_words.specs.File.{AreWordsOf, with_word, PutsWord}
use Rattle.jc_words.specs.declared.held_writes.HeldWrites.{HeldWrites}

-- the words that the file has below a store of these words
abbrev pub words_in_file : List ℕ → Option HeldWrites → List ℕ
words_in_file words None = words
words_in_file words (Some h) = slice_set (slice_set words h.place h.place_before) h.mark h.mark_before

-- the bytes of the file are known, and are those words
abbrev pub IsInStep : Option (List ℕ) → List ℕ → Option HeldWrites → Type 0
IsInStep bytes words held = (known : List ℕ) × (bytes ≡ Some known) × AreWordsOf known (words_in_file words held)

-- as many bytes, and those beside words i and j are the same
pub record SameBesideBoth (i j : ℕ) (old new : List ℕ) : Type 0 where
  pub size : length new ≡ length old
  pub each : (k : ℕ) → (k < 2 * i ⊎ 2 * i + 1 < k) → (k < 2 * j ⊎ 2 * j + 1 < k) → slice_index new k ≡ slice_index old k

-- word i and then word j were written to known bytes that have them, and no other byte changed; where that failed, these two may have
abbrev pub PutsBoth : ℕ → ℕ → ℕ → ℕ → Bool → Option (List ℕ) → Option (List ℕ) → Type 0
PutsBoth i a j b true old new = IfSome old (λ bytes. 2 * i + 1 < length bytes → 2 * j + 1 < length bytes
    → new ≡ Some (with_word j b (with_word i a bytes)))
PutsBoth i a j b false old new = IfSome old (λ bytes. 2 * i + 1 < length bytes → 2 * j + 1 < length bytes
    → (left : List ℕ) × (new ≡ Some left) × SameBesideBoth i j bytes left)

-- held back is that the word at the mark and then that at a place were written, by what the file has there
abbrev pub IsHeld : List ℕ → ℕ → ℕ → Option HeldWrites → Type 0
IsHeld words mark place held = held ≡ Some (record { mark = mark; mark_before = slice_index words mark; place = place; place_before = slice_index words place })

-- what is held back after the file was handed it and more; where that failed, it may have been handed already
abbrev pub HoldsAfter : {E : Type 0} → Result Unit E → Option HeldWrites → Option HeldWrites → Type 0
HoldsAfter (Ok done) old new = new ≡ None
HoldsAfter (Err failed) old new = (new ≡ old) ⊎ (new ≡ None)

-- the file was handed what is held back; or a call of it failed
abbrev pub Settles : Option HeldWrites → List ℕ → Bool → Option (List ℕ) → Option (List ℕ) → Type 0
Settles None words done old new = (done ≡ true) × (new ≡ old)
Settles (Some h) words done old new = PutsBoth h.mark (slice_index words h.mark) h.place (slice_index words h.place) done old new

-- the file was handed what is held back, and then this became of it; or a call of it failed before
abbrev pub SettlesThen : Option HeldWrites → List ℕ → (Option (List ℕ) → Option (List ℕ) → Type 0) → Bool → Option (List ℕ) → Option (List ℕ) → Type 0
SettlesThen held words goes_on done old new =
    ((settled : Option (List ℕ)) × Settles held words true old settled × goes_on settled new)
    ⊎ ((done ≡ false) × Settles held words false old new)

-- the place of the word beside the mark, where v in word i takes the mark back to what the file has, and no call of the file has failed
abbrev pub taken_back_at : Option HeldWrites → ℕ → ℕ → ℕ → Option ℕ
taken_back_at None faults i v = None
taken_back_at (Some h) faults i v = if h.mark == i && (h.mark_before == v && (faults == 0 && not (h.mark == h.place))) then Some h.place else None

-- the same where the place of the word beside the mark is known
abbrev pub HandsAt : {E : Type 0} → Option ℕ → Option HeldWrites → List ℕ → ℕ → ℕ → Result Unit E → Option (List ℕ) → Option (List ℕ) → Type 0
HandsAt (Some place) held words i v result old new = PutsWord place (slice_index words place) result old new
HandsAt None held words i v result old new = SettlesThen held words (PutsWord i v result) (is_ok result) old new

-- what the file was handed for v in word i: the word beside the mark alone, where that is taken back; or what is held back, and then the word
abbrev pub HandsOver : {E : Type 0} → Option HeldWrites → List ℕ → ℕ → ℕ → ℕ → Result Unit E → Option (List ℕ) → Option (List ℕ) → Type 0
HandsOver held words faults i v result old new = HandsAt (taken_back_at held faults i v) held words i v result old new
