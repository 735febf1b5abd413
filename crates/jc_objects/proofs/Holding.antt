-- The cell of an object in a word, by its header.
use Rattle.std.proofs.Common.{◌≡◌, ◌∙◌, ℕ, ◌+◌, ◌-◌, ◌<◌, ◌≤◌, ◌&&◌, Bool, true, false, Option, Some, None, ap, refl, sym, arith, if◌then◌else◌, is_some}
use Rattle.std.specs.Prelude.{is_none, nat_le, nat_lt, unwrap_or}
use Rattle.std.proofs.Common.{lt-ltb}
use Rattle.std.proofs.Math.Bool.{and-false}
use Rattle.std.proofs.lemmas.Bool.{false≢true, le-leb, le-ltb, lt-leb}
use Rattle.jc_heap.specs.Object.{Item, AnObject, APackage}
use Rattle.jc_heap.specs.declared.object.Facts.{Facts}
use Rattle.jc_objects.specs.Holders.{cell_behind, holder_at, is_holder}
use Rattle.jc_objects.specs.Records.{object_in}
use Rattle.jc_objects.specs.declared.holders.Holder.{Holder}

-- the cell of an object with this header and address in a word, if one stands there
abbrev pub holder_by : Facts → ℕ → ℕ → Option Holder
holder_by f r a = if is_holder f r a then Some (record { object = r; cell = cell_behind f (a - (r + 4)); facts = f }) else None

pub held : (f : Facts) (e : Item) (r a : ℕ) → Some f ≡ object_in e → holder_at (r, e) a ≡ holder_by f r a
held f (AnObject o) r a is = ap (λ (g : Facts). holder_by g r a) (sym (ap (λ (p : Option Facts). unwrap_or p f) is))
held f (APackage ws) r a is = absurd (false≢true (sym (ap is_some is)))

-- a package has none
pub held_none : (e : Item) (r a : ℕ) → None ≡ object_in e → None ≡ holder_at (r, e) a
held_none (AnObject o) r a is = absurd (false≢true (ap is_some is))
held_none (APackage ws) r a is = refl

-- none stands there
pub not_there : (f : Facts) (e : Item) (r a : ℕ) → Some f ≡ object_in e → is_holder f r a ≡ false → None ≡ holder_at (r, e) a
not_there f e r a is fails =
    sym (ap (λ (b : Bool). if b then Some (let h : Holder = record { object = r; cell = cell_behind f (a - (r + 4)); facts = f } in h) else None) fails)
    ∙ sym (held f e r a is)

pub there : (f : Facts) (e : Item) (r a cell : ℕ) → Some f ≡ object_in e → is_holder f r a ≡ true → cell ≡ cell_behind f (a - (r + 4))
    → Some (let h : Holder = record { object = r; cell = cell; facts = f } in h) ≡ holder_at (r, e) a
there f e r a cell is holds same =
    ap (λ (n : ℕ). Some (let h : Holder = record { object = r; cell = n; facts = f } in h)) same
    ∙ sym (ap (λ (b : Bool). if b then Some (let h : Holder = record { object = r; cell = cell_behind f (a - (r + 4)); facts = f } in h) else None) holds)
    ∙ sym (held f e r a is)

none_not : {A : Type 0} (o : Option A) → is_some o ≡ true → is_none o ≡ false
none_not None e = absurd (false≢true e)
none_not (Some x) e = refl

none_is : {A : Type 0} (o : Option A) → is_some o ≡ false → is_none o ≡ true
none_is None e = refl
none_is (Some x) e = absurd (false≢true (sym e))

-- of a transient object no cell does, nor below the header's end, nor after the last cell
pub of_transient : (f : Facts) (r a : ℕ) → is_some f.event ≡ true → is_holder f r a ≡ false
of_transient f r a e = ap (λ (b : Bool). b && (nat_le (r + 4) a && nat_lt (cell_behind f (a - (r + 4))) f.length)) (none_not f.event e)

pub too_low : (f : Facts) (r a : ℕ) → a < r + 4 → is_holder f r a ≡ false
too_low f r a low =
    ap (λ (b : Bool). is_none f.event && (b && nat_lt (cell_behind f (a - (r + 4))) f.length)) (lt-leb (r + 4) a low)
    ∙ and-false (is_none f.event)

pub too_far : (f : Facts) (r a cell : ℕ) → cell ≡ cell_behind f (a - (r + 4)) → f.length ≤ cell → is_holder f r a ≡ false
too_far f r a cell same far =
    let behind : f.length ≤ cell_behind f (a - (r + 4)) = omega (arith, far, same) in
    ap (λ (b : Bool). is_none f.event && (nat_le (r + 4) a && b)) (le-ltb (cell_behind f (a - (r + 4))) f.length behind)
    ∙ ap (λ (b : Bool). is_none f.event && b) (and-false (nat_le (r + 4) a)) ∙ and-false (is_none f.event)

pub is_held : (f : Facts) (r a cell : ℕ) → is_some f.event ≡ false → r + 4 ≤ a → cell ≡ cell_behind f (a - (r + 4)) → cell < f.length
    → is_holder f r a ≡ true
is_held f r a cell none low same near =
    let within : cell_behind f (a - (r + 4)) < f.length = omega (arith, near, same) in
    ap (λ (b : Bool). b && (nat_le (r + 4) a && nat_lt (cell_behind f (a - (r + 4))) f.length)) (none_is f.event none)
    ∙ ap (λ (b : Bool). b && nat_lt (cell_behind f (a - (r + 4))) f.length) (le-leb (r + 4) a low)
    ∙ lt-ltb (cell_behind f (a - (r + 4))) f.length within
