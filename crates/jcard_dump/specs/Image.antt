-- An image as it is listed, and the objects in it.
use Rattle.std.specs.Prelude.{ℕ, ◌==◌, ◌&&◌, ◌||◌, not, Bool, List, [], Option, Some, None, if◌then◌else◌}
use Rattle.std.specs.List.{list_any}
use Rattle.jc_words.specs.Image.{HasSize}
use Rattle.jc_heap.specs.Object.{Item, AnObject, APackage, cells_of}
use Rattle.jc_objects.specs.declared.legend.Legend.{Legend}
use Rattle.jc_objects.specs.Bounds.{IsBounded}
use Rattle.jc_objects.specs.Keys.{is_bytes, key_arrays}
use Rattle.jc_objects.specs.Places.{IsStanding}
use Rattle.jc_objects.specs.Records.{item_at}
use Rattle.jc_objects.specs.declared.places.Standing.TheVariants.{Object}
use Rattle.jcard_dump.specs.declared.image.PlacedObject.{PlacedObject}

-- what the cells of its objects are read by, its words, the arrays whose bytes are not shown, and whether the objects of the runtime environment are listed
pub record ListedImage : Type 0 where
  pub legend : Legend
  pub words : List ℕ
  pub hidden : List ℕ
  pub all : Bool

-- an image with these, all of whose bytes are shown
abbrev pub image_of : Legend → List ℕ → Bool → ListedImage
image_of t w all = record { legend = t; words = w; hidden = []; all = all }

-- the same without the bytes of these arrays
abbrev pub hiding : ListedImage → List ℕ → ListedImage
hiding i hidden = record { legend = i.legend; words = i.words; hidden = hidden; all = i.all }

-- the arrays whose bytes are not to be shown: those that hold keys, unless secrets are shown
abbrev pub keys_in : ListedImage → Bool → List ℕ
keys_in i secrets = if secrets then [] else key_arrays i.legend.platform i.words

-- the words are an image's, and its heap lies among them
pub record IsWithinBounds (w : List ℕ) : Type 0 where
  pub size : HasSize w
  pub bounds : IsBounded w

-- an object with this header stands at this address and, if it is persistent, has as many cells as that says
abbrev pub IsObjectIn : List ℕ → PlacedObject → Type 0
IsObjectIn w o = IsStanding w o.at (Object o.facts)

-- its cells
abbrev pub cells_in : List ℕ → PlacedObject → List ℕ
cells_in w o = cells_of (item_at w o.at)

-- the object whose record begins at an address
abbrev pub object_here : ℕ → Item → Option PlacedObject
object_here at (AnObject o) = Some (record { at = at; facts = o.facts })
object_here at (APackage ws) = None

-- an object is listed: any one, or one that is not the runtime environment's
abbrev pub is_listed : ListedImage → PlacedObject → Bool
is_listed i o = i.all || not (o.facts.owner == 0)

-- it is an array whose bytes are not shown
abbrev pub is_hidden : ListedImage → PlacedObject → Bool
is_hidden i o = is_bytes o.facts.kind && list_any (λ y. y == o.at) i.hidden
