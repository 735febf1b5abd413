-- Which object begins at an address of a heap.
use Rattle.std.specs.Prelude.{ℕ, ◌≡◌, ◌≤◌, ◌==◌, nat_le, Bool, List, [], ◌∷◌, length, Option, Some, None, if◌then◌else◌}
use Rattle.jc_words.specs.Layout.{text_start}
use Rattle.jc_commit.specs.Image.{top_of}
use Rattle.jc_heap.specs.Object.{Item, cells_of}
use Rattle.jc_heap.specs.declared.object.Facts.{Facts}
use Rattle.jc_objects.specs.Records.{IsRecord, are_whole, is_whole_from, item_at, items_from, object_in, standing_items}
use Rattle.jc_objects.specs.declared.places.Standing.{Standing}
use Rattle.jc_objects.specs.declared.places.Standing.TheVariants.{Object, Nothing, Unread}

-- an object, by what its header says; a package is none
abbrev pub standing_by : Option Facts → Standing
standing_by (Some f) = Object f
standing_by None = Nothing

-- the same, where the record begins at this address
abbrev pub standing_here : ℕ × Item → ℕ → Standing
standing_here (r, e) a = if r == a then standing_by (object_in e) else Nothing

-- what begins at an address, by records in their order: after the last nothing does, or it cannot be read
abbrev pub standing_in : Bool → List (ℕ × Item) → ℕ → Standing
standing_in whole [] a = if whole then Nothing else Unread
standing_in whole (e ∷ es) a = if nat_le a e.0 then standing_here e a else standing_in whole es a

-- what begins at an address of the heap that words are
abbrev pub standing_at : List ℕ → ℕ → Standing
standing_at w a = standing_in (are_whole w) (standing_items w) a

-- the records from an address on say what begins at another one, and at each address after that
pub record IsPlaceFor (w : List ℕ) (at : ℕ) (a : ℕ) : Type 0 where
  pub low : text_start ≤ at
  pub high : at ≤ top_of w
  pub tells : (b : ℕ) → a ≤ b → standing_in (is_whole_from w at) (items_from w at) b ≡ standing_at w b

-- an object that does has a record, with the header and with as many cells as that says
abbrev pub IsStanding : List ℕ → ℕ → Standing → Type 0
IsStanding w a (Object f) = IsRecord w a × (object_in (item_at w a) ≡ Some f) × (f.event ≡ None → length (cells_of (item_at w a)) ≡ f.length)
IsStanding w a Nothing = Unit {0}
IsStanding w a Unread = Unit {0}
