-- Bytes that are known, over several calls.
use Rattle.std.proofs.Common.{◌≡◌, ℕ, ◌+◌, ◌≤◌, List, [], ◌++◌, length, take, drop, refl, sym, ◌∙◌, ap, arith, Option, Some, None, Result, Ok, Err}
use Rattle.std.proofs.Common.{append_assoc, append-nil, length-append, take-add}
use Rattle.std.specs.Prelude.{MatchResult}
use Rattle.std.specs.Io.KnownBytes.{Keeps, Appends, Consumes}
use Rattle.std.proofs.Math.Seq.{take-append-add}
use Rattle.std.proofs.lemmas.Grind.{common_steps}
use Rattle.jcard_texts.specs.Texts.{AppendsCut}

pub keeps_same : (a : Option (List ℕ)) → Keeps a a
keeps_same None = tt
keeps_same (Some x) = refl

pub consumes_then_consumes : (a b c : Option (List ℕ)) (bs cs : List ℕ) → Consumes a b bs → Consumes b c cs → Consumes a c (bs ++ cs)
consumes_then_consumes None b c bs cs h k = tt
consumes_then_consumes (Some x) None c bs cs h k = absurd h
consumes_then_consumes (Some x) (Some y) None bs cs h k = absurd k
consumes_then_consumes (Some x) (Some y) (Some z) bs cs h k = h ∙ ap (λ l. bs ++ l) k ∙ sym (append_assoc bs cs z)

pub appends_then_appends : (a b c : Option (List ℕ)) (bs cs : List ℕ) → Appends a b bs → Appends b c cs → Appends a c (bs ++ cs)
appends_then_appends None b c bs cs h k = tt
appends_then_appends (Some x) None c bs cs h k = absurd h
appends_then_appends (Some x) (Some y) None bs cs h k = absurd k
appends_then_appends (Some x) (Some y) (Some z) bs cs h k = k ∙ ap (λ l. l ++ cs) h ∙ append_assoc x bs cs

pub keeps_consumes_none : (a b : Option (List ℕ)) → Keeps a b → Consumes a b []
keeps_consumes_none None b h = tt
keeps_consumes_none (Some x) None h = absurd h
keeps_consumes_none (Some x) (Some y) h = sym h

pub keeps_appends_none : (a b : Option (List ℕ)) → Keeps a b → Appends a b []
keeps_appends_none None b h = tt
keeps_appends_none (Some x) None h = absurd h
keeps_appends_none (Some x) (Some y) h = h ∙ sym (append-nil x)

pub appends_same : (a : Option (List ℕ)) → Appends a a []
appends_same a = keeps_appends_none a a (keeps_same a)

pub consumes_same : (a : Option (List ℕ)) → Consumes a a []
consumes_same a = keeps_consumes_none a a (keeps_same a)

-- ---- a text in pieces

-- what was written so far, and one more piece
pub one_piece : (a b : ℕ) (xs : List ℕ) (old now next : Option (List ℕ)) → Appends old now (take a xs) → Appends now next (take b (drop a xs))
    → Appends old next (take (a + b) xs)
one_piece a b xs old now next h k = rw (take-add a b xs) (appends_then_appends old now next (take a xs) (take b (drop a xs)) h k)

-- ---- a script in pieces

pub consumes_then_keeps : (a b c : Option (List ℕ)) (bs : List ℕ) → Consumes a b bs → Keeps b c → Consumes a c bs
consumes_then_keeps None b c bs h k = tt
consumes_then_keeps (Some x) None c bs h k = absurd h
consumes_then_keeps (Some x) (Some y) None bs h k = absurd k
consumes_then_keeps (Some x) (Some y) (Some z) bs h k = h ∙ ap (λ l. bs ++ l) (sym k)

-- a read of nothing
pub consumes_then_none : (a b c : Option (List ℕ)) (bs buffer : List ℕ) (n : ℕ) → n ≡ 0 → Consumes a b bs → Consumes b c (take n buffer) → Consumes a c bs
consumes_then_none a b c bs buffer n z h k =
    let none : Consumes b c [] = rw z at k in
    rw append-nil at (consumes_then_consumes a b c bs [] h none)

-- what of the read bytes lies within the bound
pub within_bound : (m : ℕ) (s buffer : List ℕ) (left n : ℕ) → length s + left ≡ m → left ≤ n → take m (s ++ take n buffer) ≡ s ++ take left buffer
within_bound m s buffer left n e h =
    ap (λ k. take k (s ++ take n buffer)) (sym e) ∙ take-append-add s (take n buffer) left ∙ ap (λ l. s ++ l) (shorter left n buffer h)
  where
    shorter : (left n : ℕ) (buffer : List ℕ) → left ≤ n → take left (take n buffer) ≡ take left buffer
    shorter left n buffer h = grind (arith, common_steps)

-- ---- texts one after another, of which a write may fail

-- the first text is cut
pub cut_first : (a b : Option (List ℕ)) (xs ys : List ℕ) → AppendsCut a b xs → AppendsCut a b (xs ++ ys)
cut_first a b xs ys h =
    let more = h.2.0 in
    (h.0, h.1, (more ++ ys, ap (λ l. l ++ ys) h.2.1 ∙ append_assoc h.0 more ys, omega (arith, h.2.2, length-append more ys)))

-- the second text is cut
pub cut_second : (a b c : Option (List ℕ)) (xs ys : List ℕ) → Appends a b xs → AppendsCut b c ys → AppendsCut a c (xs ++ ys)
cut_second a b c xs ys h k =
    let more = k.2.0 in
    (xs ++ k.0, appends_then_appends a b c xs k.0 h k.1, (more, ap (λ l. xs ++ l) k.2.1 ∙ sym (append_assoc xs k.0 more), k.2.2))

-- the last write ends both
pub both_written : {E : Type 0} (r : Result Unit E) (a b c : Option (List ℕ)) (xs ys : List ℕ) → Appends a b xs
    → MatchResult r (λ _. Appends b c ys) (λ _. AppendsCut b c ys) → MatchResult r (λ _. Appends a c (xs ++ ys)) (λ _. AppendsCut a c (xs ++ ys))
both_written (Ok done) a b c xs ys h k = appends_then_appends a b c xs ys h k
both_written (Err e) a b c xs ys h k = cut_second a b c xs ys h k
