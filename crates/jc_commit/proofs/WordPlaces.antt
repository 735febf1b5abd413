-- A change of one word by the place in the index where one more entry has to stand before.
use Rattle.std.specs.Prelude.{Bool, true, not, Option, None, Some, is_some, Result, Ok, Err, OnOk, if◌then◌else◌}
use Rattle.std.proofs.Common.{◌≡◌, ℕ, ◌+◌, List, [], ◌∷◌, ◌++◌, length, map, cond, insert, refl, sym, ap, subst, ◌∙◌, arith}
use Rattle.std.proofs.Common.{append-nil, get_or}
use Rattle.std.proofs.Math.Seq.{get_or-append_seam}
use Rattle.jc_words.specs.Image.{log_of}
use Rattle.jc_words.specs.declared.log.Log.{Log}
use Rattle.jc_commit.specs.Image.{address_at, count_of, entries, plain_of, touched_of, with_words}
use Rattle.jc_commit.specs.Entries.{addresses_of}
use Rattle.jc_commit.specs.Keep.{is_taken_back}
use Rattle.jc_commit.specs.EntryIndex.{named_by, needing, IsIndexOf, IsGapFor, IsPlaceFor, GoBack}
use Rattle.jc_commit.specs.Writing.{ChangesInside}
use Rattle.jc_commit.proofs.Views.{length-touched}
use Rattle.jc_commit.proofs.Counted.{entry_of, touched_same}
use Rattle.jc_commit.proofs.EntryKeeping.{all_go_back, names_touched, needing_one}
use Rattle.jc_commit.proofs.Indexes.{gap_later, get_or-named_by, index_later, index_more, length-named_by}

-- nothing has to be kept where no entry has to be more
pub needing_none : (touched : List ℕ) (born a x : ℕ) → is_taken_back touched born a ≡ true → needing touched born ((a, x) ∷ []) ≡ []
needing_none touched born a x taken = ap (λ (b : Bool). cond (not b) ((a, x) ∷ []) []) taken

-- no entry has to be more where there is no place for it
module _ (l : Log) (w numbers : List ℕ) (n born a : ℕ) where
  pub taken_where : (place : Option ℕ) → ((i : ℕ) → place ≡ Some i → ⊥) → IsPlaceFor l w n numbers born a place → is_taken_back (named_by l w n) born a ≡ true
  taken_where None not_some is = is
  taken_where (Some i) not_some is = absurd (not_some i refl)

-- how many entries have to be more
abbrev pub more_at : Option ℕ → ℕ
more_at place = if is_some place then 1 else 0

pub none_more : (place : Option ℕ) → ((i : ℕ) → place ≡ Some i → ⊥) → more_at place ≡ 0
none_more None not_some = refl
none_more (Some i) not_some = absurd (not_some i refl)

-- the change needs as many
pub needed_where : (l : Log) (w numbers : List ℕ) (n born a x : ℕ) (place : Option ℕ) → IsPlaceFor l w n numbers born a place
    → length (needing (named_by l w n) born ((a, x) ∷ [])) ≡ more_at place
needed_where l w numbers n born a x None is = ap (λ (c : List (ℕ × ℕ)). length c) (needing_none (named_by l w n) born a x is)
needed_where l w numbers n born a x (Some i) is = ap (λ (c : List (ℕ × ℕ)). length c) (needing_one (named_by l w n) born (a, x) is.0)

pub on_ok : {E P Q : Type 0} (result : Result Unit E) → (P → Q) → OnOk result P → OnOk result Q
on_ok (Ok done) next holds = next holds
on_ok (Err refusal) next holds = tt

-- what the words stand for where the word alone was written
module _ (l : Log) (w v numbers : List ℕ) (n born a x : ℕ) (stands : l ≡ log_of w) (count : n ≡ count_of w) (taken : is_taken_back (named_by l w n) born a ≡ true) where
  names : named_by l w n ≡ touched_of w
  names = ap (named_by l w) count ∙ names_touched l w stands

  none : needing (touched_of w) born ((a, x) ∷ []) ≡ []
  none = needing_none (touched_of w) born a x (ap (λ (t : List ℕ). is_taken_back t born a) (sym names) ∙ taken)

  pub goes_back_again : GoBack w born ((a, x) ∷ [])
  goes_back_again = all_go_back w w born ((a, x) ∷ [])
      (sym (append-nil (entries w)) ∙ ap (λ (c : List (ℕ × ℕ)). entries w ++ map (entry_of w) c) (sym none))

  pub changed_again : entries v ≡ entries w → plain_of v ≡ with_words (plain_of w) ((a, x) ∷ []) → ChangesInside born ((a, x) ∷ []) w v n
  changed_again same plain =
      let touched : touched_of v ≡ touched_of w = touched_same w v same in
      record {
        count = sym (length-touched v) ∙ ap (λ (t : List ℕ). length t) touched ∙ length-touched w ∙ sym count;
        plain = plain;
        touched = touched ∙ sym (append-nil (touched_of w)) ∙ ap (λ (c : List (ℕ × ℕ)). touched_of w ++ addresses_of c) (sym none);
      }

  pub index_again : log_of v ≡ log_of w → entries v ≡ entries w → IsIndexOf l w n numbers → IsIndexOf l v n numbers
  index_again log same index =
      let touched : touched_of v ≡ touched_of w = touched_same w v same in
      let still : n ≡ count_of v = count ∙ sym (length-touched w) ∙ ap (λ (t : List ℕ). length t) (sym touched) ∙ length-touched v in
      index_later l w v n n numbers []
      (ap (named_by l v) still ∙ names_touched l v (stands ∙ sym log) ∙ touched ∙ sym names ∙ sym (append-nil (named_by l w n))) index

-- the index with the number of the entry that was put
pub index_with : (l : Log) (w u numbers : List ℕ) (n born a x i : ℕ) → l ≡ log_of w → log_of u ≡ log_of w → n ≡ count_of w → IsIndexOf l w n numbers
    → IsPlaceFor l w n numbers born a (Some i) → ChangesInside born ((a, x) ∷ []) w u (n + 1) → IsIndexOf l u (n + 1) (insert numbers i n)
index_with l w u numbers n born a x i stands log count index place did =
    let names : named_by l w n ≡ touched_of w = ap (named_by l w) count ∙ names_touched l w stands in
    let one : needing (touched_of w) born ((a, x) ∷ []) ≡ (a, x) ∷ [] =
    needing_one (touched_of w) born (a, x) (ap (λ (t : List ℕ). is_taken_back t born a) (sym names) ∙ place.0) in
    let grown : named_by l u (n + 1) ≡ named_by l w n ++ (a ∷ []) =
    ap (named_by l u) (sym did.count) ∙ names_touched l u (stands ∙ sym log) ∙ did.touched
    ∙ (λ i. sym names i ++ addresses_of (one i)) in
    let last : address_at l u n ≡ a =
    sym (get_or-named_by l u (n + 1) n 0 (omega arith)) ∙ ap (λ (xs : List ℕ). get_or xs n 0) grown
    ∙ ap (λ (k : ℕ). get_or (named_by l w n ++ (a ∷ [])) k 0) (sym (length-named_by l w n)) ∙ get_or-append_seam (named_by l w n) a [] 0 in
    index_more l u numbers n i (index_later l w u n (n + 1) numbers (a ∷ []) grown index)
    (subst (λ (b : ℕ). IsGapFor l u numbers b i) (sym last) (gap_later l w u n (n + 1) a i numbers (a ∷ []) grown index place.1))
