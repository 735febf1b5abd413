-- Scripts that are run on cards in memory.
use Rattle.std.specs.Prelude.{ℕ, ◌≡◌, ◌≢◌, Bool, true, false, List, ◌++◌, Ok, Err, slice_index}
use Rattle.jc_words.specs.Layout.{first_version, version_address}
use Rattle.jc_words.specs.Refusals.{no_refusals}
use Rattle.jc_words.specs.Store.{FuseStoreValue}
use Rattle.jc_commit.specs.Image.{IsGoodLog, plain_of, recovered_of}
use Rattle.jc_commit.specs.Migration.{migrated}
use Rattle.jcard_outcomes.specs.declared.standing.Left.{Left}
use Rattle.jcard_script.specs.Script.{EndsWithin}
use Rattle.jcard_sweeps.specs.declared.runs.Ran.{Ran}
use Rattle.jcard_sweeps.specs.declared.runs.RunFault.{RunFault}
use Rattle.jcard_sweeps.specs.declared.runs.RunFault.TheVariants.{NoMemory, Script}

-- a new store of these words, which nobody asked to write
abbrev pub store_of : List ℕ → FuseStoreValue
store_of words = record { words = words; down = false; passed = 0; refusals = no_refusals; down_below = false; passed_below = 0 }

-- the script, from a power up over these words on, with at most this many instructions a command, was carried out to its end, printed this text,
-- and left this store
abbrev pub Runs : ℕ → List ℕ → List ℕ → List ℕ → FuseStoreValue → Type 0
Runs budget words script text after = EndsWithin budget (Ok tt) (store_of words) after true script text

-- it was, and this is known of what it left
abbrev pub HasRun : ℕ → List ℕ → List ℕ → Ran → Type 0
HasRun budget words script ran = (after : FuseStoreValue) × Runs budget words script ran.text.items after × (ran.words.items ≡ after.words)
    × (ran.is_down ≡ after.down)

-- it was not: memory was refused, or it ended so, somewhere
abbrev pub IsRunFault : ℕ → List ℕ → List ℕ → RunFault → Type 0
IsRunFault budget words script NoMemory = Unit {0}
IsRunFault budget words script (Script fault) = (read rest text : List ℕ) × (at_end : Bool) × (after : FuseStoreValue) × (script ≡ read ++ rest)
    × EndsWithin budget (Err fault) (store_of words) after at_end read text

-- words that a recovery leaves as they are: the log is good, no entry of it changes a word, and the version is not the first
abbrev pub IsRecovered : List ℕ → Type 0
IsRecovered words = IsGoodLog words × (recovered_of words ≡ plain_of words) × (slice_index words version_address ≢ first_version)

-- a power up over these words leaves this heap, which another one leaves as it is, and after it a card gives the lines of the probe these answers
abbrev pub IsLeft : ℕ → List ℕ → List ℕ → Left → Type 0
IsLeft budget words probe left = (last : FuseStoreValue) × (plain_of left.words.items ≡ migrated 3 (recovered_of words)) × Runs budget words probe left.answers.items last
    × IsRecovered left.words.items

-- the whole script was carried out to its end over these words
abbrev pub IsCarriedThrough : ℕ → List ℕ → List ℕ → Type 0
IsCarriedThrough budget words script = (text : List ℕ) × (after : FuseStoreValue) × Runs budget words script text after
