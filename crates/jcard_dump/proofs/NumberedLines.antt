-- Lines that are reported one after another.
use Rattle.std.proofs.Common.{◌≡◌, ℕ, zero, suc, ◌+◌, ◌<◌, ◌≤◌, true, false, List, ◌++◌, Option, Result, Ok, Err, refl, subst, sym, inl, inr, arith, add-one}
use Rattle.std.proofs.Common.{⊎_elim}
use Rattle.std.proofs.lemmas.Bool.{cases_Bool, cases_lt}
use Rattle.jcard_texts.proofs.Known.{appends_same, appends_then_appends, cut_first, cut_second}
use Rattle.jcard_dump.specs.InventoryLines.{Lines, Tells, line_if, numbered_lines, then_lines}
use Rattle.jcard_dump.specs.declared.inventory_lines.ListingFault.{ListingFault}
use Rattle.jcard_dump.specs.declared.inventory_lines.ListingFault.TheVariants.{Unreadable, NotWritten}

pub then_read : (a b : Lines) → a.readable ≡ true → then_lines a b ≡ record { text = a.text ++ b.text; readable = b.readable }
unfolding then_lines
then_read a b h = rw h refl

pub then_unread : (a b : Lines) → a.readable ≡ false → then_lines a b ≡ a
unfolding then_lines
then_unread a b h = rw h refl

-- all of the first were reported, and of the others as many
pub told_then : (r : Result Unit ListingFault) (a b c : Option (List ℕ)) (x y : Lines) → Tells a b x (Ok tt) → Tells b c y r → Tells a c (then_lines x y) r
told_then (Ok done) a b c x y h k = rw (then_read x y h.0) (k.0, appends_then_appends a b c x.text y.text h.1 k.1)
told_then (Err Unreadable) a b c x y h k = rw (then_read x y h.0) (k.0, appends_then_appends a b c x.text y.text h.1 k.1)
told_then (Err NotWritten) a b c x y h k = rw (then_read x y h.0) (cut_second a b c x.text y.text h.1 k)

-- the first were not all reported, so none of the others
pub told_stopped : (stop : ListingFault) (a b : Option (List ℕ)) (x y : Lines) → Tells a b x (Err stop) → Tells a b (then_lines x y) (Err stop)
told_stopped Unreadable a b x y h = rw (then_unread x y h.0) h
told_stopped NotWritten a b x y h = elim (cases_Bool x.readable) [
  | inl read ↦ rw (then_read x y read) (cut_first a b x.text y.text h)
  | inr not ↦ rw (then_unread x y not) h
]

-- one line more
pub numbered_more : (one : ℕ → Option (List ℕ)) (n : ℕ) → numbered_lines one (n + 1) ≡ then_lines (numbered_lines one n) (line_if (one (n + 1)))
unfolding numbered_lines
numbered_more one n = rw add-one refl

-- lines that stop at one stop there whatever follows
pub numbered_stopped : (one : ℕ → Option (List ℕ)) (n k : ℕ) (stop : ListingFault) (a b : Option (List ℕ)) → k ≤ n → Tells a b (numbered_lines one k) (Err stop)
    → Tells a b (numbered_lines one n) (Err stop)
unfolding numbered_lines
numbered_stopped one zero k stop a b h t = let e : k ≡ 0 = omega arith in subst (λ m. Tells a b (numbered_lines one m) (Err stop)) e t
numbered_stopped one (suc n) k stop a b h t =
    ⊎_elim (λ below. told_stopped stop a b (numbered_lines one n) (line_if (one (suc n))) (numbered_stopped one n k stop a b (omega (arith, below)) t))
    (λ above. let e : k ≡ suc n = omega (arith, above) in subst (λ m. Tells a b (numbered_lines one m) (Err stop)) e t)
    (cases_lt k (suc n))

-- no line so far
pub none_told : (one : ℕ → Option (List ℕ)) (a : Option (List ℕ)) → Tells a a (numbered_lines one 0) (Ok tt)
unfolding numbered_lines
none_told one a = (refl, appends_same a)

-- all so far were reported, and the next
pub next_told : (one : ℕ → Option (List ℕ)) (i : ℕ) (a b c : Option (List ℕ)) → Tells a b (numbered_lines one i) (Ok tt)
    → Tells b c (line_if (one (i + 1))) (Ok tt) → Tells a c (numbered_lines one (i + 1)) (Ok tt)
next_told one i a b c h k = rw (numbered_more one i) (told_then (Ok tt) a b c (numbered_lines one i) (line_if (one (i + 1))) h k)

-- all so far were reported, and not the next, so none after it
pub next_stopped : (one : ℕ → Option (List ℕ)) (n i : ℕ) (stop : ListingFault) (a b c : Option (List ℕ)) → i < n → Tells a b (numbered_lines one i) (Ok tt)
    → Tells b c (line_if (one (i + 1))) (Err stop) → Tells a c (numbered_lines one n) (Err stop)
next_stopped one n i stop a b c lt h k = numbered_stopped one n (i + 1) stop a c (omega (arith, lt))
    (subst (λ (m : Lines). Tells a c m (Err stop)) (sym (numbered_more one i)) (told_then (Err stop) a b c (numbered_lines one i) (line_if (one (i + 1))) h k))
