-- What is written, where nothing is.
use Rattle.std.proofs.Common.{◌≡◌, ℕ, List, false, Err, ap, refl, sym, inl, inr}
use Rattle.jc_words.specs.Count.{failures_after}
use Rattle.jcard_files.specs.Fault.{is_unwritten}
use Rattle.jcard_files.specs.FileDeeds.{FileDeed}
use Rattle.jcard_files.specs.Images.{IsNotMade, IsNotOpened, IsNotOpenedToWrite, IsNotRead, IsUnopened}
use Rattle.jcard_files.specs.Reading.{IsUnread}
use Rattle.jcard_files.specs.declared.fault.Fault.{Fault}
use Rattle.jcard_files.specs.declared.fault.Fault.TheVariants.{WriteFailed}

-- no write failed, where another fault is reported
pub unfailed : (count : ℕ) (fault : Fault) → is_unwritten (Err fault) ≡ false → count ≡ failures_after count (is_unwritten (Err fault))
unfailed count fault h = sym (ap (failures_after count) h)

-- ---- faults that say nothing of a write

pub not_read_unwritten : (name : List ℕ) (fault : Fault) → IsNotRead name fault → is_unwritten (Err fault) ≡ false
not_read_unwritten name WriteFailed h = absurd h
not_read_unwritten name other h = refl

pub unopened_unwritten : (name : List ℕ) (fault : Fault) → IsUnopened name fault → is_unwritten (Err fault) ≡ false
unopened_unwritten name fault h = ap (λ (f : Fault). is_unwritten (Err f)) h.1

pub not_opened_unwritten : (name : List ℕ) (fault : Fault) → IsNotOpened name fault → is_unwritten (Err fault) ≡ false
not_opened_unwritten name WriteFailed h = absurd h
not_opened_unwritten name other h = refl

pub not_opened_to_write_unwritten : (name : List ℕ) (fault : Fault) → IsNotOpenedToWrite name fault → is_unwritten (Err fault) ≡ false
not_opened_to_write_unwritten name WriteFailed h = absurd h
not_opened_to_write_unwritten name other h = refl

pub not_made_unwritten : (name : List ℕ) (fault : Fault) → IsNotMade name fault → is_unwritten (Err fault) ≡ false
not_made_unwritten name WriteFailed h = absurd h
not_made_unwritten name other h = refl

pub unread_unwritten : (name : List ℕ) (fault : Fault) (deeds : List FileDeed) → IsUnread name fault deeds → is_unwritten (Err fault) ≡ false
unread_unwritten name fault deeds (inl u) = unopened_unwritten name fault u.0
unread_unwritten name fault deeds (inr u) = not_read_unwritten name fault u.0
