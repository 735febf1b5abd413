-- What an inventory says of words.
use Rattle.std.specs.Prelude.{ℕ, List, length, slice_index}
use Rattle.jc_words.specs.Layout.{packages_address, applets_address}
use Rattle.jc_commit.specs.Image.{capacity_of, count_of}
use Rattle.jc_card.specs.declared.inventory.Inventory.{Inventory}

-- the counts that stand in the words themselves, as they are, and how many entries the journal can have
abbrev pub inventory_of : List ℕ → Inventory
inventory_of w = record { words = length w; journal = count_of w; capacity = capacity_of w; packages = slice_index w packages_address; applets = slice_index w applets_address }
