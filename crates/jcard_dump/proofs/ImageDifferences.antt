-- What is not the same in two images, part by part.
use Rattle.std.proofs.Common.{◌≡◌, ◌∙◌, ◌&&◌, ◌++◌, ℕ, Bool, true, false, inl, inr, List, Some, Result, Ok, Err, ap, ap₂, refl, subst, sym}
use Rattle.std.proofs.lemmas.Bool.{cases_Bool, false≢true}
use Rattle.jc_objects.specs.declared.legend.Legend.{Legend}
use Rattle.jc_objects.specs.Bounds.{has_bounds}
use Rattle.jcard_dump.specs.InventoryLines.{Lines, line, line_if, then_lines}
use Rattle.jcard_dump.specs.Areas.{areas_line}
use Rattle.jcard_dump.specs.Differences.{AreToldTo, IsContent, IsContentTold, area_lines}
use Rattle.jcard_dump.specs.Fault.{Lists}
use Rattle.jcard_dump.specs.Listing.{IsLegendOf}
use Rattle.jcard_dump.specs.Pairs.{end_lines}
use Rattle.jcard_dump.specs.Table.{IsLegendFor}
use Rattle.jcard_dump.specs.declared.fault.ListFault.{ListFault}
use Rattle.jcard_dump.specs.declared.fault.ListFault.TheVariants.{Unreadable, NoMemory}
use Rattle.jcard_dump.proofs.LineLists.{lists_then, then_read}
use Rattle.jcard_dump.proofs.Listings.{areas_readable}
use Rattle.jcard_dump.specs.declared.shown.Shown.{Shown}

left_of : (a b : Bool) → (a && b) ≡ true → a ≡ true
left_of true b e = refl
left_of false b e = absurd (false≢true e)

right_of : (a b : Bool) → (a && b) ≡ true → b ≡ true
right_of true b e = e
right_of false b e = absurd (false≢true e)

-- a text, and after it what says how far both could be read
pub text_then : (r : Result Unit ListFault) (a b c x : List ℕ) (y : Lines) → b ≡ a ++ x → Lists b c y r → Lists a c (then_lines (line x) y) r
text_then r a b c x y e k = lists_then r a b c (line x) y (refl, e) k

-- the line of a heap's end can be read where the heap lies within its bounds
readable_is : (w : List ℕ) → (line_if (areas_line w)).readable ≡ has_bounds w
readable_is w = elim (cases_Bool (has_bounds w)) [
  | inl holds ↦ areas_readable w true holds ∙ sym holds
  | inr fails ↦ areas_readable w false fails ∙ sym fails
]

both_readable : (w v : List ℕ) → (area_lines w v).readable ≡ (has_bounds w && has_bounds v)
both_readable w v =
    ap (λ (l : Lines). l.readable) (then_read (line _) (end_lines (line_if (areas_line w)).readable (line_if (areas_line v)).readable) refl)
    ∙ ap₂ (λ (a b : Bool). a && b) (readable_is w) (readable_is v)

-- where both lines were reported, both heaps do
pub first_bounds : (w v old new : List ℕ) → Lists old new (area_lines w v) (Ok tt) → has_bounds w ≡ true
first_bounds w v old new told = left_of (has_bounds w) (has_bounds v) (sym (both_readable w v) ∙ told.0)

pub other_bounds : (w v old new : List ℕ) → Lists old new (area_lines w v) (Ok tt) → has_bounds v ≡ true
other_bounds w v old new told = right_of (has_bounds w) (has_bounds v) (sym (both_readable w v) ∙ told.0)

-- and where one was not, nothing else is reported
pub areas_untold : (stop : ListFault) (w v : List ℕ) (shown : Shown) (old new : List ℕ) → Lists old new (area_lines w v) (Err stop)
    → AreToldTo w v shown old new (Err stop)
areas_untold Unreadable w v shown old new told = (area_lines w v, inl (sym (both_readable w v) ∙ told.0, refl), told)
areas_untold NoMemory w v shown old new told = tt

-- what is reported after them
pub content_by : (r : Result Unit ListFault) (w v : List ℕ) (shown : Shown) (old new : List ℕ) (l : Lines) → IsContent w v shown l → Lists old new l r
    → IsContentTold w v shown old new r
content_by (Ok done) w v shown old new l is told = (l, is, told)
content_by (Err Unreadable) w v shown old new l is told = (l, is, told)
content_by (Err NoMemory) w v shown old new l is told = tt

-- where a table cannot be read, which that is; or memory was refused
pub no_table : (fault : ListFault) (r : Result Unit ListFault) (w v : List ℕ) (shown : Shown) (old new : List ℕ) → IsLegendFor w (Err fault)
    → Lists old new (end_lines false true) r → (fault ≡ NoMemory → r ≡ Err NoMemory) → IsContentTold w v shown old new r
no_table Unreadable r w v shown old new none told memory = content_by r w v shown old new (end_lines false true) (inl (none, refl)) told
no_table NoMemory r w v shown old new none told memory = subst (λ (s : Result Unit ListFault). IsContentTold w v shown old new s) (sym (memory refl)) tt

pub no_other_table : (fault : ListFault) (r : Result Unit ListFault) (w v : List ℕ) (shown : Shown) (old new : List ℕ) (t : Legend) → IsLegendOf w (Some t)
    → IsLegendFor v (Err fault) → Lists old new (end_lines true false) r → (fault ≡ NoMemory → r ≡ Err NoMemory) → IsContentTold w v shown old new r
no_other_table Unreadable r w v shown old new t table none told memory =
    content_by r w v shown old new (end_lines true false) (inr (inl (t, table, none, refl))) told
no_other_table NoMemory r w v shown old new t table none told memory =
    subst (λ (s : Result Unit ListFault). IsContentTold w v shown old new s) (sym (memory refl)) tt

pub content_told : (r : Result Unit ListFault) (w v : List ℕ) (shown : Shown) (old new next : List ℕ) → Lists old new (area_lines w v) (Ok tt)
    → IsContentTold w v shown new next r → AreToldTo w v shown old next r
content_told (Ok done) w v shown old new next told more = (
  then_lines (area_lines w v) more.0,
  inr (more.0, first_bounds w v old new told, other_bounds w v old new told, more.1, refl),
  lists_then (Ok tt) old new next (area_lines w v) more.0 told more.2,
)
content_told (Err Unreadable) w v shown old new next told more = (
  then_lines (area_lines w v) more.0,
  inr (more.0, first_bounds w v old new told, other_bounds w v old new told, more.1, refl),
  lists_then (Err Unreadable) old new next (area_lines w v) more.0 told more.2,
)
content_told (Err NoMemory) w v shown old new next told more = tt
