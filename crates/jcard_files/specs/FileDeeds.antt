-- What is done with the files of a disk.
use Rattle.std.specs.Prelude.{ℕ, List, false, Option, Result, Ok, Err}
use Rattle.jc_words.specs.Refusals.{no_refusals}
use Rattle.jc_words.specs.Store.{FuseStoreValue, StoreValue}
use Rattle.jcard_files.specs.declared.fault.Fault.{Fault}

-- one thing that is done with a file, by its name. What was not done holds its fault
pub data FileDeed : Type 0 where
  -- an image was asked for, to change it: its words
  OpensImage : List ℕ → Result (List ℕ) Fault → FileDeed
  -- an image was asked for, to read it alone: its words
  ReadsImage : List ℕ → Result (List ℕ) Fault → FileDeed
  -- a file of this many zero words was asked for: how that ended
  MakesImage : List ℕ → ℕ → Result Unit Fault → FileDeed
  -- an image was closed: what its store was then, with the writes since it was opened
  ClosesImage : List ℕ → StoreValue → FileDeed
  -- a text was asked for: its bytes, where they are known
  ReadsText : List ℕ → Result (Option (List ℕ)) Fault → FileDeed
  -- a file of these bytes was asked for: how that ended
  WritesText : List ℕ → List ℕ → Result Unit Fault → FileDeed

-- the store of these words, of which no write was asked for
abbrev pub untouched : List ℕ → StoreValue
untouched w = record { words = w; down = false; passed = 0; refused = 0 }

-- the same under a fuse, which is not armed
abbrev pub fresh_store : List ℕ → FuseStoreValue
fresh_store w = record {
  words = w;
  down = false;
  passed = 0;
  refusals = no_refusals;
  down_below = false;
  passed_below = 0;
}

-- what is reported of a file that was asked for
abbrev pub told_of : {S T E : Type 0} → (S → T) → Result S E → Result T E
told_of f (Ok file) = Ok (f file)
told_of f (Err fault) = Err fault
