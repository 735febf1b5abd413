-- How large a new image is.
use Rattle.std.specs.Prelude.{ℕ, ◌≡◌, ◌≤◌, List, Option, None, Some}
use Rattle.std.specs.Str.Parse.{IsNumeral, digits_value}
use Rattle.jc_words.specs.Layout.{least_capacity, least_size, most_capacity}
use Rattle.jc_transient.specs.State.{buffer_size, most_buffer, most_cells, usual_cells}
use Rattle.jcard_files.specs.declared.fault.Fault.{Fault}
use Rattle.jcard_files.specs.declared.fault.Fault.TheVariants.{BadApdu, BadJournal, BadTransient, BadWords}
use Rattle.jcard_files.specs.declared.extent.Extent.{Extent}

-- the text is decimal digits, and spells a number that is neither below the least nor above the most
pub record IsNumberAmong (least most : ℕ) (text : List ℕ) (n : ℕ) : Type 0 where
  pub digits : IsNumeral 10 text
  pub told : digits_value 10 text ≡ n
  pub low : least ≤ n
  pub high : n ≤ most

-- the text says how many words an image has, 4096 to 65535
abbrev pub IsWordCount : List ℕ → ℕ → Type 0
IsWordCount = IsNumberAmong least_size 65535

-- the text says how many entries a journal can have, 16 to 1024
abbrev pub IsJournalCapacity : List ℕ → ℕ → Type 0
IsJournalCapacity = IsNumberAmong least_capacity most_capacity

-- the text says how many cells the transient objects of each event can have, 2048 to 16384; with none the word that says it is 0
abbrev pub IsCellCount : Option (List ℕ) → ℕ → Type 0
IsCellCount None n = n ≡ 0
IsCellCount (Some text) n = IsNumberAmong usual_cells most_cells text n

-- the text says how many bytes the APDU buffer has, 261 to 32767; with none the word that says it is 0
abbrev pub IsBufferLength : Option (List ℕ) → ℕ → Type 0
IsBufferLength None n = n ≡ 0
IsBufferLength (Some text) n = IsNumberAmong buffer_size most_buffer text n

-- the extent of an image with this many words, a journal of this many entries, this many cells, and an APDU buffer of this many bytes
pub record IsExtent (words journal : List ℕ) (cells buffer : Option (List ℕ)) (extent : Extent) : Type 0 where
  pub count : IsWordCount words extent.count
  pub capacity : IsJournalCapacity journal extent.room.capacity
  pub cells_said : IsCellCount cells extent.room.cells
  pub buffer_said : IsBufferLength buffer extent.room.buffer

-- the first text is no number of words of an image; or it is, and the second is no number of entries of a journal; or both are, and the third is no number
-- of cells; or all are, and the fourth is no length of an APDU buffer
abbrev pub IsNoExtent : List ℕ → List ℕ → Option (List ℕ) → Option (List ℕ) → Fault → Type 0
IsNoExtent words journal cells buffer BadWords = (n : ℕ) → IsWordCount words n → ⊥
IsNoExtent words journal cells buffer BadJournal = ((n : ℕ) × IsWordCount words n) × ((c : ℕ) → IsJournalCapacity journal c → ⊥)
IsNoExtent words journal cells buffer BadTransient = ((n : ℕ) × IsWordCount words n) × ((c : ℕ) × IsJournalCapacity journal c) × ((m : ℕ) → IsCellCount cells m → ⊥)
IsNoExtent words journal cells buffer BadApdu = ((n : ℕ) × IsWordCount words n) × ((c : ℕ) × IsJournalCapacity journal c) × ((m : ℕ) × IsCellCount cells m)
    × ((b : ℕ) → IsBufferLength buffer b → ⊥)
IsNoExtent words journal cells buffer other = ⊥
