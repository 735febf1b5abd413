-- A listing, part by part.
use Rattle.std.proofs.Common.{◌≡◌, ◌∙◌, ℕ, Bool, true, false, inl, inr, List, Some, None, Result, Ok, Err, ap, refl, sym, if◌then◌else◌}
use Rattle.std.proofs.lemmas.Bool.{cases_Bool, false≢true}
use Rattle.jc_objects.specs.declared.legend.Legend.{Legend}
use Rattle.jc_objects.specs.Bounds.{has_bounds}
use Rattle.jcard_dump.specs.InventoryLines.{Lines, line_if, then_lines}
use Rattle.jcard_dump.specs.Areas.{areas_line, areas_text}
use Rattle.jcard_dump.specs.Fault.{Lists}
use Rattle.jcard_dump.specs.Listing.{IsListed, IsListing, contents_lines}
use Rattle.jcard_dump.specs.Table.{IsLegendFor}
use Rattle.jcard_dump.specs.declared.fault.ListFault.{ListFault}
use Rattle.jcard_dump.specs.declared.fault.ListFault.TheVariants.{Unreadable, NoMemory}
use Rattle.jcard_dump.proofs.LineLists.{lists_then, lists_unread}
use Rattle.jcard_dump.specs.declared.shown.Shown.{Shown}

listed_by : (r : Result Unit ListFault) (w : List ℕ) (shown : Shown) (old new : List ℕ) (l : Lines) → IsListing w shown l → Lists old new l r
    → IsListed w shown old new r
listed_by (Ok done) w shown old new l is told = (l, is, told)
listed_by (Err Unreadable) w shown old new l is told = (l, is, told)
listed_by (Err NoMemory) w shown old new l is told = tt

pub areas_readable : (w : List ℕ) (b : Bool) → has_bounds w ≡ b → (line_if (areas_line w)).readable ≡ b
areas_readable w true e = ap (λ (c : Bool). (line_if (if c then Some (areas_text w) else None)).readable) e
areas_readable w false e = ap (λ (c : Bool). (line_if (if c then Some (areas_text w) else None)).readable) e

-- where the first line was reported, the heap lies within its bounds
pub areas_told : (w old new : List ℕ) → Lists old new (line_if (areas_line w)) (Ok tt) → has_bounds w ≡ true
areas_told w old new told = elim (cases_Bool (has_bounds w)) [
  | inl holds ↦ holds
  | inr fails ↦ absurd (false≢true (sym (areas_readable w false fails) ∙ told.0))
]

-- and where it was not, nothing is
pub areas_untold : (stop : ListFault) (w : List ℕ) (shown : Shown) (old new : List ℕ) → Lists old new (line_if (areas_line w)) (Err stop)
    → IsListed w shown old new (Err stop)
areas_untold Unreadable w shown old new told = elim (cases_Bool (has_bounds w)) [
  | inl holds ↦ absurd (false≢true (sym told.0 ∙ areas_readable w true holds))
  | inr fails ↦ (line_if (areas_line w), inl (fails, refl), told)
]
areas_untold NoMemory w shown old new told = tt

-- nor is anything after a text that is no table
pub table_untold : (stop : ListFault) (w : List ℕ) (shown : Shown) (old new : List ℕ) → Lists old new (line_if (areas_line w)) (Ok tt)
    → IsLegendFor w (Err stop) → IsListed w shown old new (Err stop)
table_untold Unreadable w shown old new told none = (
  then_lines (line_if (areas_line w)) (contents_lines None w shown),
  inr (None, areas_told w old new told, none, refl),
  lists_then (Err Unreadable) old new new (line_if (areas_line w)) (contents_lines None w shown) told (lists_unread new (line_if None) refl refl),
)
table_untold NoMemory w shown old new told none = tt

-- all that is reported after a table
pub contents_told : (r : Result Unit ListFault) (w : List ℕ) (shown : Shown) (t : Legend) (old new next : List ℕ) → Lists old new (line_if (areas_line w)) (Ok tt)
    → IsLegendFor w (Ok t) → Lists new next (contents_lines (Some t) w shown) r → IsListed w shown old next r
contents_told r w shown t old new next told reads more = listed_by r w shown old next (then_lines (line_if (areas_line w)) (contents_lines (Some t) w shown))
    (inr (Some t, areas_told w old new told, reads, refl)) (lists_then r old new next (line_if (areas_line w)) (contents_lines (Some t) w shown) told more)
