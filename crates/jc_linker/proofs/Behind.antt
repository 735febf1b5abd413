-- One step of linking classes, and of looking whether they are whole.
use Rattle.std.proofs.Common.{◌≡◌, ◌∙◌, ◌≤◌, ◌+◌, ◌*◌, ◌==◌, ◌&&◌, ◌||◌, not, ℕ, Bool, true, false, List, [], ◌∷◌, ◌++◌, Some, length, drop, refl, ap}
use Rattle.std.proofs.Common.{add_assoc}
use Rattle.std.specs.Prelude.{slice_get}
use Rattle.std.proofs.lemmas.List.{drop_all}
use Rattle.jc_cap.specs.declared.class_records.ClassRecord.{ClassRecord}
use Rattle.jc_cap.specs.ClassValues.{RecordAt}
use Rattle.jc_linker.specs.Values.{ClassValue, Packages}
use Rattle.jc_linker.specs.Linking.{class_by_record, classes_behind}
use Rattle.jc_linker.specs.Completeness.{are_complete_from, has_method, inherits_from, is_complete}
use Rattle.jc_linker.proofs.Walks.{dropped_next}

behind_cons : (p names : Packages) (number : ℕ) (done : List ClassValue) (r : RecordAt) (rs : List RecordAt)
    → classes_behind p names number done (r ∷ rs) ≡ classes_behind p names number (done ++ class_by_record p names number done r.offset r.contents ∷ []) rs
unfolding classes_behind
behind_cons p names number done r rs = refl

behind_nil : (p names : Packages) (number : ℕ) (done : List ClassValue) → classes_behind p names number done [] ≡ done
unfolding classes_behind
behind_nil p names number done = refl

pub behind_next : (p names : Packages) (number : ℕ) (done : List ClassValue) (rs : List RecordAt) (i offset : ℕ) (contents : ClassRecord)
    → slice_get rs i ≡ Some (record { offset = offset; contents = contents })
    → classes_behind p names number done (drop i rs) ≡ classes_behind p names number (done ++ class_by_record p names number done offset contents ∷ [])
    (drop (i + 1) rs)
behind_next p names number done rs i offset contents at =
    ap (classes_behind p names number done) (dropped_next rs i (record { offset = offset; contents = contents }) at)
    ∙ behind_cons p names number done (record { offset = offset; contents = contents }) (drop (i + 1) rs)

pub behind_end : (p names : Packages) (number : ℕ) (done : List ClassValue) (rs : List RecordAt) (i : ℕ) → length rs ≤ i
    → classes_behind p names number done (drop i rs) ≡ done
behind_end p names number done rs i h = ap (classes_behind p names number done) (drop_all i rs h) ∙ behind_nil p names number done

-- ---- whole classes

whole_cons : (p : Packages) (number class : ℕ) (c : ClassValue) (cs : List ClassValue) (b : Bool) → is_complete p number class c ≡ b
    → are_complete_from p number class (c ∷ cs) ≡ (b && are_complete_from p number (class + 1) cs)
unfolding are_complete_from
whole_cons p number class c cs b is = ap (λ v. v && are_complete_from p number (class + 1) cs) is

whole_nil : (p : Packages) (number class : ℕ) → are_complete_from p number class [] ≡ true
unfolding are_complete_from
whole_nil p number class = refl

pub whole_next : (p : Packages) (number base : ℕ) (cs : List ClassValue) (i : ℕ) (c : ClassValue) → slice_get cs i ≡ Some c
    → is_complete p number (base + i) c ≡ true
    → are_complete_from p number (base + i) (drop i cs) ≡ are_complete_from p number (base + (i + 1)) (drop (i + 1) cs)
whole_next p number base cs i c at is =
    ap (are_complete_from p number (base + i)) (dropped_next cs i c at) ∙ whole_cons p number (base + i) c (drop (i + 1) cs) true is
    ∙ ap (λ n. are_complete_from p number n (drop (i + 1) cs)) (add_assoc base i 1)

pub whole_none : (p : Packages) (number base : ℕ) (cs : List ClassValue) (i : ℕ) (c : ClassValue) → slice_get cs i ≡ Some c
    → is_complete p number (base + i) c ≡ false → are_complete_from p number (base + i) (drop i cs) ≡ false
whole_none p number base cs i c at is =
    ap (are_complete_from p number (base + i)) (dropped_next cs i c at) ∙ whole_cons p number (base + i) c (drop (i + 1) cs) false is

pub whole_end : (p : Packages) (number class : ℕ) (cs : List ClassValue) (i : ℕ) → length cs ≤ i → are_complete_from p number class (drop i cs) ≡ true
whole_end p number class cs i h = ap (are_complete_from p number class) (drop_all i cs h) ∙ whole_nil p number class

-- ---- inherited methods

abbrev there : Packages → ℕ → ℕ → ℕ → ℕ → Bool
there p number superclass token offset = not (offset == 65535) || has_method p number superclass token

inherits_cons : (p : Packages) (number superclass token offset : ℕ) (os : List ℕ) (b : Bool) → there p number superclass token offset ≡ b
    → inherits_from p number superclass token (offset ∷ os) ≡ (b && inherits_from p number superclass (token + 1) os)
unfolding inherits_from
inherits_cons p number superclass token offset os b is = ap (λ v. v && inherits_from p number superclass (token + 1) os) is

inherits_nil : (p : Packages) (number superclass token : ℕ) → inherits_from p number superclass token [] ≡ true
unfolding inherits_from
inherits_nil p number superclass token = refl

pub inherits_next : (p : Packages) (number superclass base : ℕ) (os : List ℕ) (i offset : ℕ) → slice_get os i ≡ Some offset
    → there p number superclass (base + i) offset ≡ true
    → inherits_from p number superclass (base + i) (drop i os) ≡ inherits_from p number superclass (base + (i + 1)) (drop (i + 1) os)
inherits_next p number superclass base os i offset at is =
    ap (inherits_from p number superclass (base + i)) (dropped_next os i offset at)
    ∙ inherits_cons p number superclass (base + i) offset (drop (i + 1) os) true is
    ∙ ap (λ n. inherits_from p number superclass n (drop (i + 1) os)) (add_assoc base i 1)

pub inherits_none : (p : Packages) (number superclass base : ℕ) (os : List ℕ) (i offset : ℕ) → slice_get os i ≡ Some offset
    → there p number superclass (base + i) offset ≡ false → inherits_from p number superclass (base + i) (drop i os) ≡ false
inherits_none p number superclass base os i offset at is =
    ap (inherits_from p number superclass (base + i)) (dropped_next os i offset at)
    ∙ inherits_cons p number superclass (base + i) offset (drop (i + 1) os) false is

pub inherits_end : (p : Packages) (number superclass token : ℕ) (os : List ℕ) (i : ℕ) → length os ≤ i
    → inherits_from p number superclass token (drop i os) ≡ true
inherits_end p number superclass token os i h = ap (inherits_from p number superclass token) (drop_all i os h) ∙ inherits_nil p number superclass token
