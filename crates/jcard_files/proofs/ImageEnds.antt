-- Ends of the making of an image, which say nothing of a write to a stream.
use Rattle.std.proofs.Common.{◌≡◌, ℕ, List, Result, Ok, Err, Option, Some, None, false, refl, ap, ◌∙◌, inl, inr}
use Rattle.jc_image.specs.declared.laying.ImageRoom.{ImageRoom}
use Rattle.jc_words.specs.Store.{StoreValue}
use Rattle.jcard_files.specs.Fault.{is_unwritten}
use Rattle.jcard_files.specs.FileDeeds.{FileDeed}
use Rattle.jcard_files.specs.declared.fault.Fault.{Fault}
use Rattle.jcard_files.specs.declared.fault.Fault.TheVariants.{BadApdu, BadJournal, BadTransient, BadWords, WriteFailed}
use Rattle.jcard_files.proofs.Effects.{not_made_unwritten, unread_unwritten}
use Rattle.jcard_files.specs.declared.extent.Extent.{Extent}
use Rattle.jcard_files.specs.ImageSize.{IsNoExtent}
use Rattle.jcard_files.specs.NewImage.{IsLaid, IsMadeFrom, IsNew, IsNewImageInMemory}
use Rattle.jcard_files.specs.UsualTable.{IsNoPlatform}

pub platform_unwritten : (table : Option (List ℕ)) (fault : Fault) (deeds : List FileDeed) → IsNoPlatform table fault deeds → is_unwritten (Err fault) ≡ false
platform_unwritten None fault deeds h = ap (λ (f : Fault). is_unwritten (Err f)) h.0
platform_unwritten (Some name) fault deeds h = unread_unwritten name fault deeds h

pub no_extent_unwritten : (words journal : List ℕ) (cells buffer : Option (List ℕ)) (fault : Fault) → IsNoExtent words journal cells buffer fault
    → is_unwritten (Err fault) ≡ false
no_extent_unwritten words journal cells buffer BadWords h = refl
no_extent_unwritten words journal cells buffer BadJournal h = refl
no_extent_unwritten words journal cells buffer BadTransient h = refl
no_extent_unwritten words journal cells buffer BadApdu h = refl
no_extent_unwritten words journal cells buffer other h = absurd h

laid_unwritten : (image : List ℕ) (n : ℕ) (room : ImageRoom) (text : List ℕ) (ended : Result Unit Fault) (store : StoreValue)
    → IsLaid image n room text ended store → is_unwritten ended ≡ false
laid_unwritten image n room text (Ok done) store h = refl
laid_unwritten image n room text (Err WriteFailed) store h = absurd h
laid_unwritten image n room text (Err other) store h = refl

made_unwritten : (image : List ℕ) (extent : Extent) (text : List ℕ) (ended : Result Unit Fault) (deeds : List FileDeed)
    → IsMadeFrom image extent text ended deeds → is_unwritten ended ≡ false
made_unwritten image extent text ended deeds (inl h) = ap is_unwritten h.1
made_unwritten image extent text ended deeds (inr (inl h)) = ap is_unwritten h.1 ∙ not_made_unwritten image h.0 h.3
made_unwritten image extent text ended deeds (inr (inr h)) = laid_unwritten image extent.count extent.room text ended h.0 h.2

pub new_unwritten : (image words journal : List ℕ) (cells buffer table : Option (List ℕ)) (ended : Result Unit Fault) (deeds : List FileDeed)
    → IsNew image words journal cells buffer table ended deeds → is_unwritten ended ≡ false
new_unwritten image words journal cells buffer table ended deeds (inl h) = ap is_unwritten h.1 ∙ no_extent_unwritten words journal cells buffer h.0 h.2
new_unwritten image words journal cells buffer table ended deeds (inr (_, _, inl h)) = ap is_unwritten h.1 ∙ platform_unwritten table h.0 deeds h.2
new_unwritten image words journal cells buffer table ended deeds (inr (extent, _, inr h)) = made_unwritten image extent h.0 ended h.2 h.4

pub in_memory_unwritten : (n : ℕ) (room : ImageRoom) (text : List ℕ) (fault : Fault) → IsNewImageInMemory n room text (Err fault)
    → is_unwritten (Err fault) ≡ false
in_memory_unwritten n room text WriteFailed h = absurd h
in_memory_unwritten n room text other h = refl
