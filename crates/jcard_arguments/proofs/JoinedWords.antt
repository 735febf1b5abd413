-- Words that belong together, at a place in a list.
use Rattle.std.proofs.Common.{◌≡◌, ◌∙◌, ℕ, ◌+◌, ◌<◌, true, false, List, [], ◌∷◌, ◌++◌, codes, length, get_or, drop, map, ap, refl, sym, ⊎_elim, append_assoc, arith}
use Rattle.std.proofs.lemmas.Bool.{cases_lt, false≢true}
use Rattle.std.proofs.lemmas.List.{drop_all, drop_more}
use Rattle.std.specs.Str.{bytes_eq}
use Rattle.jcard_arguments.specs.JoinedWords.{joined, takes_count}

-- the words after `--` stay
operands_stay : (word : List ℕ) (more : List (List ℕ)) → bytes_eq word (codes "--") ≡ true → joined (word ∷ more) ≡ word ∷ more
unfolding joined
operands_stay word [] h = refl
operands_stay word (next ∷ more) h = rw h refl

-- a word that is no such option stays
word_stays : (word : List ℕ) (more : List (List ℕ)) → bytes_eq word (codes "--") ≡ false → takes_count word more ≡ false
    → joined (word ∷ more) ≡ word ∷ joined more
unfolding joined
word_stays word [] h k = refl
word_stays word (next ∷ more) h k = rw (h, k) refl

-- the option and the word after it are one
option_joins : (word next : List ℕ) (more : List (List ℕ)) → bytes_eq word (codes "--") ≡ false → takes_count word (next ∷ more) ≡ true
    → joined (word ∷ next ∷ more) ≡ (codes "--lines=" ++ next) ∷ joined more
unfolding joined
option_joins word next more h k = rw (h, k) refl

-- the words from a place on: the one there, and those after it
rest_at : {A : Type 0} (f : A → List ℕ) (words : List A) (place : ℕ) (word : A) → place < length words → word ≡ get_or words place word
    → map f (drop place words) ≡ f word ∷ map f (drop (place + 1) words)
rest_at f words place word h e = ap (map f) (drop_more words place word h) ∙ ap (λ x. f x ∷ map f (drop (place + 1) words)) (sym e)

-- at `--` they stay
pub operands_at : {A : Type 0} (f : A → List ℕ) (words : List A) (place : ℕ) (word : A) → place < length words → word ≡ get_or words place word
    → bytes_eq (f word) (codes "--") ≡ true → joined (map f (drop place words)) ≡ map f (drop place words)
operands_at f words place word h e is = ap joined (rest_at f words place word h e) ∙ operands_stay (f word) _ is ∙ sym (rest_at f words place word h e)

-- at another word than the option it stays
pub word_at : {A : Type 0} (f : A → List ℕ) (words : List A) (place : ℕ) (word : A) → place < length words → word ≡ get_or words place word
    → bytes_eq (f word) (codes "--") ≡ false → takes_count (f word) (map f (drop (place + 1) words)) ≡ false
    → joined (map f (drop place words)) ≡ f word ∷ joined (map f (drop (place + 1) words))
word_at f words place word h e other plain = ap joined (rest_at f words place word h e) ∙ word_stays (f word) _ other plain

-- at the option two are one
pub option_at : {A : Type 0} (f : A → List ℕ) (words : List A) (place : ℕ) (word next : A) → place + 1 < length words → word ≡ get_or words place word
    → next ≡ get_or words (place + 1) next → bytes_eq (f word) (codes "--") ≡ false → takes_count (f word) (map f (drop (place + 1) words)) ≡ true
    → joined (map f (drop place words)) ≡ (codes "--lines=" ++ f next) ∷ joined (map f (drop (place + 2) words))
option_at f words place word next h e n other option =
    let rest = rest_at f words (place + 1) next h n in
    let two : place + 1 + 1 ≡ place + 2 = omega arith in
    ap joined (rest_at f words place word (omega arith) e ∙ ap (λ r. f word ∷ r) rest)
    ∙ option_joins (f word) (f next) _ other (sym (ap (takes_count (f word)) rest) ∙ option)
    ∙ ap (λ p. (codes "--lines=" ++ f next) ∷ joined (map f (drop p words))) two

-- where the option takes a word, there is one
pub word_after : {A : Type 0} (f : A → List ℕ) (words : List A) (place : ℕ) (word : List ℕ) → takes_count word (map f (drop (place + 1) words)) ≡ true
    → place + 1 < length words
word_after f words place word h = ⊎_elim (λ less. less)
    (λ more. absurd (false≢true (sym (ap (λ r. takes_count word (map f r)) (drop_all (place + 1) words more)) ∙ h))) (cases_lt (place + 1) (length words))

-- one more word is done
pub one_more : (done after : List (List ℕ)) (word : List ℕ) (rest more whole : List (List ℕ)) → after ≡ done ++ word ∷ [] → rest ≡ word ∷ more
    → done ++ rest ≡ whole → after ++ more ≡ whole
one_more done after word rest more whole e r h = ap (λ a. a ++ more) e ∙ append_assoc done (word ∷ []) more ∙ ap (λ l. done ++ l) (sym r) ∙ h
