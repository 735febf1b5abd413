-- Lines that are reported one after another.
use Rattle.std.proofs.Common.{◌≡◌, ◌∙◌, ℕ, zero, suc, ◌+◌, ◌<◌, ◌≤◌, true, false, List, [], ◌++◌, Result, Ok, Err, refl, ap, subst, sym, arith, add-one}
use Rattle.std.proofs.Common.{⊎_elim, append-nil, append_assoc}
use Rattle.std.proofs.lemmas.Bool.{cases_lt}
use Rattle.jcard_dump.specs.InventoryLines.{Lines, then_lines}
use Rattle.jcard_dump.specs.Fault.{Lists, each_line}
use Rattle.jcard_dump.specs.declared.fault.ListFault.{ListFault}
use Rattle.jcard_dump.specs.declared.fault.ListFault.TheVariants.{Unreadable, NoMemory}

pub then_read : (a b : Lines) → a.readable ≡ true → then_lines a b ≡ record { text = a.text ++ b.text; readable = b.readable }
unfolding then_lines
then_read a b h = rw h refl

pub then_unread : (a b : Lines) → a.readable ≡ false → then_lines a b ≡ a
unfolding then_lines
then_unread a b h = rw h refl

-- all of the first were reported, and of the others as many
pub lists_then : (r : Result Unit ListFault) (a b c : List ℕ) (x y : Lines) → Lists a b x (Ok tt) → Lists b c y r → Lists a c (then_lines x y) r
lists_then (Ok done) a b c x y h k = rw (then_read x y h.0) (k.0, k.1 ∙ ap (λ (l : List ℕ). l ++ y.text) h.1 ∙ append_assoc a x.text y.text)
lists_then (Err Unreadable) a b c x y h k = rw (then_read x y h.0) (k.0, k.1 ∙ ap (λ (l : List ℕ). l ++ y.text) h.1 ∙ append_assoc a x.text y.text)
lists_then (Err NoMemory) a b c x y h k = tt

-- the first were not all reported, so none of the others
pub lists_stopped : (stop : ListFault) (a b : List ℕ) (x y : Lines) → Lists a b x (Err stop) → Lists a b (then_lines x y) (Err stop)
lists_stopped Unreadable a b x y h = rw (then_unread x y h.0) h
lists_stopped NoMemory a b x y h = tt

-- one line more
pub each_more : (one : ℕ → Lines) (n : ℕ) → each_line one (n + 1) ≡ then_lines (each_line one n) (one (n + 1))
unfolding each_line
each_more one n = rw add-one refl

-- no line so far
pub none_listed : (one : ℕ → Lines) (a : List ℕ) → Lists a a (each_line one 0) (Ok tt)
unfolding each_line
none_listed one a = (refl, sym (append-nil a))

-- all so far were reported, and the next
pub next_listed : (one : ℕ → Lines) (i : ℕ) (a b c : List ℕ) → Lists a b (each_line one i) (Ok tt) → Lists b c (one (i + 1)) (Ok tt)
    → Lists a c (each_line one (i + 1)) (Ok tt)
next_listed one i a b c h k = rw (each_more one i) (lists_then (Ok tt) a b c (each_line one i) (one (i + 1)) h k)

-- lines that stop at one stop there whatever follows
each_stopped : (one : ℕ → Lines) (n k : ℕ) (stop : ListFault) (a b : List ℕ) → k ≤ n → Lists a b (each_line one k) (Err stop)
    → Lists a b (each_line one n) (Err stop)
unfolding each_line
each_stopped one zero k stop a b h t = let e : k ≡ 0 = omega arith in subst (λ m. Lists a b (each_line one m) (Err stop)) e t
each_stopped one (suc n) k stop a b h t =
    ⊎_elim (λ below. lists_stopped stop a b (each_line one n) (one (suc n)) (each_stopped one n k stop a b (omega (arith, below)) t))
    (λ above. let e : k ≡ suc n = omega (arith, above) in subst (λ m. Lists a b (each_line one m) (Err stop)) e t)
    (cases_lt k (suc n))

-- all so far were reported, and not the next, so none after it
pub next_stopped : (one : ℕ → Lines) (n i : ℕ) (stop : ListFault) (a b c : List ℕ) → i < n → Lists a b (each_line one i) (Ok tt)
    → Lists b c (one (i + 1)) (Err stop) → Lists a c (each_line one n) (Err stop)
next_stopped one n i stop a b c lt h k = each_stopped one n (i + 1) stop a c (omega (arith, lt))
    (subst (λ (m : Lines). Lists a c m (Err stop)) (sym (each_more one i)) (lists_then (Err stop) a b c (each_line one i) (one (i + 1)) h k))

-- of all lines these were reported after a text, and others are left
abbrev pub IsTelling : List ℕ → List ℕ → Lines → Lines → Type 0
IsTelling old new all rest = (told : List ℕ) × (new ≡ old ++ told) × (all ≡ record { text = told ++ rest.text; readable = rest.readable })

-- nothing yet
pub telling_none : (old : List ℕ) (all : Lines) → IsTelling old old all all
telling_none old all = ([], sym (append-nil old), refl)

-- one line more
pub telling_more : (old new next piece : List ℕ) (all rest left : Lines) → IsTelling old new all rest
    → rest ≡ record { text = piece ++ left.text; readable = left.readable } → next ≡ new ++ piece → IsTelling old next all left
telling_more old new next piece all rest left so one e = (
  so.0 ++ piece,
  e ∙ ap (λ (l : List ℕ). l ++ piece) so.1 ∙ append_assoc old so.0 piece,
  so.2 ∙ ap (λ (l : Lines). let both : Lines = record { text = so.0 ++ l.text; readable = l.readable } in both) one
      ∙ ap (λ (l : List ℕ). let both : Lines = record { text = l; readable = left.readable } in both) (sym (append_assoc so.0 piece left.text)),
)

-- and those that are left
pub telling_then : (r : Result Unit ListFault) (old new next : List ℕ) (all rest : Lines) → IsTelling old new all rest → Lists new next rest r
    → Lists old next all r
telling_then (Ok done) old new next all rest so left = (
  ap (λ (l : Lines). l.readable) so.2 ∙ left.0,
  left.1 ∙ ap (λ (l : List ℕ). l ++ rest.text) so.1 ∙ append_assoc old so.0 rest.text
      ∙ ap (λ (l : Lines). old ++ l.text) (sym so.2),
)
telling_then (Err Unreadable) old new next all rest so left = (
  ap (λ (l : Lines). l.readable) so.2 ∙ left.0,
  left.1 ∙ ap (λ (l : List ℕ). l ++ rest.text) so.1 ∙ append_assoc old so.0 rest.text
      ∙ ap (λ (l : Lines). old ++ l.text) (sym so.2),
)
telling_then (Err NoMemory) old new next all rest so left = tt

-- there are none
pub lists_none : (a : List ℕ) (l : Lines) → l.text ≡ [] → l.readable ≡ true → Lists a a l (Ok tt)
lists_none a l e r = (r, sym (ap (λ (t : List ℕ). a ++ t) e ∙ append-nil a))

-- there is one that cannot be read
pub lists_unread : (a : List ℕ) (l : Lines) → l.text ≡ [] → l.readable ≡ false → Lists a a l (Err Unreadable)
lists_unread a l e r = (r, sym (ap (λ (t : List ℕ). a ++ t) e ∙ append-nil a))

-- lines, and a text after them however far they were reported
pub lists_ended : (r : Result Unit ListFault) (a b c tail : List ℕ) (l : Lines) → Lists a b l r → c ≡ b ++ tail
    → Lists a c (record { text = l.text ++ tail; readable = l.readable }) r
lists_ended (Ok done) a b c tail l told e = (told.0, e ∙ ap (λ (t : List ℕ). t ++ tail) told.1 ∙ append_assoc a l.text tail)
lists_ended (Err Unreadable) a b c tail l told e = (told.0, e ∙ ap (λ (t : List ℕ). t ++ tail) told.1 ∙ append_assoc a l.text tail)
lists_ended (Err NoMemory) a b c tail l told e = tt
