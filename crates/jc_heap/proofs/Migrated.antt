-- Words that are migrated stand for the same heap.
use Rattle.std.specs.Prelude.{if◌then◌else◌, ◌==◌, Bool, true, false}
use Rattle.std.proofs.Common.{◌≡◌, inl, inr, ℕ, zero, suc, ◌+◌, ◌/◌, ◌<◌, List, length, take, set, get_or, refl, sym, ◌∙◌, ap, subst, arith, ⊎_elim}
use Rattle.std.proofs.lemmas.List.{get_or-set_other, get_or-set_same, length-set, length-take, set-get_or, set-set, drop-set-lt}
use Rattle.std.proofs.lemmas.Bool.{cases_lt, eqb-true, lt-ltb, le-ltb}
use Rattle.jc_words.specs.Layout.{magic_address, size_address, first_version, version, version_address, capacity_address, journal_address, front_capacity, log_start, top_address, text_length_address, text_start}
use Rattle.jc_words.specs.Image.{log_of}
use Rattle.jc_words.specs.declared.log.Log.{Log}
use Rattle.jc_commit.specs.Image.{capacity_of, with_words}
use Rattle.jc_commit.specs.Migration.{migrated}
use Rattle.jc_commit.proofs.Migrations.{log_first, log_second, moved_log, steps}
use Rattle.jc_commit.proofs.TornWrites.{ended}
use Rattle.jc_heap.specs.Image.{image, capacity_in, IsWellFormed}
use Rattle.jc_heap.specs.HeapLaws.{StandAlike}
use Rattle.jc_heap.proofs.RawWords.{capacity-image}
use Rattle.jc_heap.proofs.AreaEnds.{IsJournals, image-aside, laid-aside, heap-journals}
use Rattle.jc_heap.proofs.Images.{head-same, text-same}

its_version : IsJournals version_address
its_version = record {
  aside = record {
    before = omega arith;
    not_top = λ e. omega (arith, e);
    not_packages = λ e. omega (arith, e);
    not_text = λ e. omega (arith, e);
  };
  not_magic = λ e. omega (arith, e);
  not_size = λ e. omega (arith, e);
  not_applets = λ e. omega (arith, e);
  not_reset = λ e. omega (arith, e);
  not_deselect = λ e. omega (arith, e);
  not_lasting = λ k h e. ⊎_elim (λ four. omega (arith, four, e)) (λ far. omega (arith, far, e)) h;
}

its_capacity : IsJournals capacity_address
its_capacity = record {
  aside = record {
    before = omega arith;
    not_top = λ e. omega (arith, e);
    not_packages = λ e. omega (arith, e);
    not_text = λ e. omega (arith, e);
  };
  not_magic = λ e. omega (arith, e);
  not_size = λ e. omega (arith, e);
  not_applets = λ e. omega (arith, e);
  not_reset = λ e. omega (arith, e);
  not_deselect = λ e. omega (arith, e);
  not_lasting = λ k h e. ⊎_elim (λ four. omega (arith, four, e)) (λ far. omega (arith, far, e)) h;
}

its_journal : IsJournals journal_address
its_journal = record {
  aside = record {
    before = omega arith;
    not_top = λ e. omega (arith, e);
    not_packages = λ e. omega (arith, e);
    not_text = λ e. omega (arith, e);
  };
  not_magic = λ e. omega (arith, e);
  not_size = λ e. omega (arith, e);
  not_applets = λ e. omega (arith, e);
  not_reset = λ e. omega (arith, e);
  not_deselect = λ e. omega (arith, e);
  not_lasting = λ k h e. ⊎_elim (λ four. omega (arith, four, e)) (λ far. omega (arith, far, e)) h;
}

-- the capacity stays in the image, also where that does not reach it
capacity-alike : (ws : List ℕ) (a v : ℕ) → IsJournals a → (journal_address < length ws → capacity_of (set ws a v) ≡ capacity_of ws) → capacity_in (image (set ws a v)) ≡ capacity_in (image ws)
capacity-alike ws a v its same =
    let at : image (set ws a v) ≡ set (image ws) a v = image-aside ws a v its.aside in
    let long : length (image (set ws a v)) ≡ length (image ws) = ap (λ (l : List ℕ). length l) at ∙ length-set (image ws) a v in
    elim (cases_lt journal_address (length (image ws))) [
      | inl h ↦
          let g : journal_address < length (image (set ws a v)) = omega (arith, h, long) in
          ap (λ (b : Bool). if b then capacity_of (image (set ws a v)) else front_capacity) (lt-ltb journal_address (length (image (set ws a v))) g)
          ∙ capacity-image (set ws a v) g ∙ same (omega (arith, h, length-take (get_or ws top_address 0) ws)) ∙ sym (capacity-image ws h)
          ∙ sym (ap (λ (b : Bool). if b then capacity_of (image ws) else front_capacity) (lt-ltb journal_address (length (image ws)) h))
      | inr h ↦
          ap (λ (b : Bool). if b then capacity_of (image (set ws a v)) else front_capacity) (le-ltb journal_address (length (image (set ws a v))) (omega (arith, h, long)))
          ∙ sym (ap (λ (b : Bool). if b then capacity_of (image ws) else front_capacity) (le-ltb journal_address (length (image ws)) h))
    ]

alike_set : (ws : List ℕ) (a v : ℕ) → IsJournals a → (journal_address < length ws → capacity_of (set ws a v) ≡ capacity_of ws) → StandAlike ws (set ws a v)
alike_set ws a v its same = record {
  heap = heap-journals ws a v its (capacity-alike ws a v its same);
  text = text-same ws (set ws a v) (get_or-set_other ws a text_length_address v 0 its.aside.not_text)
      (ap (take ((get_or ws text_length_address 0 + 1) / 2)) (drop-set-lt text_start ws a v (omega (arith, its.aside.before))));
  text_length = get_or-set_other ws a text_length_address v 0 its.aside.not_text;
  size = length-set ws a v;
  head = head-same ws (set ws a v) (get_or-set_other ws a magic_address v 0 its.not_magic) (get_or-set_other ws a size_address v 0 its.not_size);
  laid = laid-aside ws a v its.aside;
  back = λ laid. subst IsWellFormed (set-set ws a v (get_or ws a 0) ∙ set-get_or ws a 0) (laid-aside (set ws a v) a (get_or ws a 0) its.aside laid);
}

alike_then : (us vs ws : List ℕ) → StandAlike us vs → StandAlike vs ws → StandAlike us ws
alike_then us vs ws first second = record {
  heap = second.heap ∙ first.heap;
  text = second.text ∙ first.text;
  text_length = second.text_length ∙ first.text_length;
  size = second.size ∙ first.size;
  head = second.head ∙ first.head;
  laid = λ laid. second.laid (first.laid laid);
  back = λ laid. first.back (second.back laid);
}

alike_same : (ws : List ℕ) → StandAlike ws ws
alike_same ws = record { heap = refl; text = refl; text_length = refl; size = refl; head = refl; laid = λ laid. laid; back = λ laid. laid }

module _ (ws : List ℕ) (is : get_or ws version_address 0 ≡ first_version) where
  abbrev one : List ℕ
  one = set ws capacity_address front_capacity

  abbrev two : List ℕ
  two = set one journal_address log_start

  abbrev three : List ℕ
  three = set two version_address version

  one-version : get_or one version_address 0 ≡ first_version
  one-version = get_or-set_other ws capacity_address version_address front_capacity 0 (λ e. absurd (omega arith)) ∙ is

  two-version : get_or two version_address 0 ≡ first_version
  two-version = get_or-set_other one journal_address version_address log_start 0 (λ e. absurd (omega arith)) ∙ one-version

  long-one : length one ≡ length ws
  long-one = length-set ws capacity_address front_capacity

  long-two : length two ≡ length one
  long-two = length-set one journal_address log_start

  log-three : journal_address < length ws → log_of three ≡ moved_log
  log-three wide =
      log_second three (get_or-set_same two version_address version 0 (omega (arith, wide, long-one, long-two)))
      (get_or-set_other two version_address capacity_address version 0 (λ e. absurd (omega arith))
      ∙ get_or-set_other one journal_address capacity_address log_start 0 (λ e. absurd (omega arith))
      ∙ get_or-set_same ws capacity_address front_capacity 0 (omega (arith, wide)))
      (get_or-set_other two version_address journal_address version 0 (λ e. absurd (omega arith))
      ∙ get_or-set_same one journal_address log_start 0 (omega (arith, wide, long-one)))

  alike_one : StandAlike ws one
  alike_one = alike_set ws capacity_address front_capacity its_capacity (λ wide. ap (λ (l : Log). l.capacity) (log_first one one-version ∙ sym (log_first ws is)))

  alike_two : StandAlike ws two
  alike_two = alike_then ws one two alike_one
      (alike_set one journal_address log_start its_journal (λ wide. ap (λ (l : Log). l.capacity) (log_first two two-version ∙ sym (log_first one one-version))))

  alike_three : StandAlike ws three
  alike_three = alike_then ws two three alike_two (alike_set two version_address version its_version
      (λ far. ap (λ (l : Log). l.capacity) (log-three (omega (arith, far, long-one, long-two))) ∙ sym (ap (λ (l : Log). l.capacity) (log_first two two-version))))

  alike_first : (n : ℕ) → StandAlike ws (with_words ws (take n (steps true)))
  alike_first zero = alike_same ws
  alike_first (suc zero) = alike_one
  alike_first (suc (suc zero)) = alike_two
  alike_first (suc (suc (suc n))) = subst (λ vs. StandAlike ws vs) (sym (ended n three)) alike_three

alike_by : (ws : List ℕ) (b : Bool) (n : ℕ) → (get_or ws version_address 0 == first_version) ≡ b
    → StandAlike ws (with_words ws (take n (steps b)))
alike_by ws true n is = alike_first ws (eqb-true (get_or ws version_address 0) first_version is) n
alike_by ws false n is = subst (λ vs. StandAlike ws vs) (sym (ended n ws)) (alike_same ws)

-- for every number of the migration's writes
pub migrated_alike : (ws : List ℕ) (n : ℕ) → StandAlike ws (migrated n ws)
migrated_alike ws n = alike_by ws (get_or ws version_address 0 == first_version) n refl
