-- Which instructions called, in the array that holds the cells of all frames.
use Rattle.std.proofs.Common.{◌≡◌, ℕ, zero, suc, ◌-◌, ◌<◌, ◌≤◌, List, [], ◌∷◌, length, reverse, take, refl, ◌∙◌, ap, arith, get_or}
use Rattle.std.specs.Prelude.{Some, None}
use Rattle.std.proofs.lemmas.List.{get_or-reverse, length-reverse}
use Rattle.jc_frames.specs.declared.cell.Cell.{Cell}
use Rattle.jc_frames.specs.declared.call_sites.CallSite.{CallSite}
use Rattle.jc_frames.specs.declared.frames.SavedFrame.{SavedFrame}
use Rattle.jc_frames.specs.Frames.{callers_in}
use Rattle.jc_frames.specs.CallSites.{call_site_at}

-- that of a frame that is kept
abbrev pub saved_site : SavedFrame → CallSite
saved_site s = record { origin = s.region.origin; place = s.resume.place }

site_in : (cells : List Cell) (saved : List SavedFrame) (n : ℕ) (d : SavedFrame) → n < length saved →
    call_site_at n (callers_in cells saved) ≡ Some (saved_site (get_or saved n d))
site_in cells [] n d h = absurd (omega (arith, h))
site_in cells (s ∷ rest) zero d h = refl
site_in cells (s ∷ rest) (suc n) d h = site_in (take s.region.base cells) rest n d (omega (arith, h))

past : (cells : List Cell) (saved : List SavedFrame) (n : ℕ) → length saved ≤ n → call_site_at n (callers_in cells saved) ≡ None
past cells [] n h = refl
past cells (s ∷ rest) zero h = absurd (omega (arith, h))
past cells (s ∷ rest) (suc n) h = past (take s.region.base cells) rest n (omega (arith, h))

pub site_of_saved : (cells : List Cell) (saved : List SavedFrame) (n : ℕ) (d : SavedFrame) → n < length saved →
    call_site_at n (callers_in cells (reverse saved)) ≡ Some (saved_site (get_or saved (length saved - 1 - n) d))
site_of_saved cells saved n d h =
    site_in cells (reverse saved) n d (omega (arith, length-reverse saved, h))
    ∙ ap (λ s. Some (saved_site s)) (get_or-reverse saved n d h)

pub site_past : (cells : List Cell) (saved : List SavedFrame) (n : ℕ) → length saved ≤ n → call_site_at n (callers_in cells (reverse saved)) ≡ None
site_past cells saved n h = past cells (reverse saved) n (omega (arith, length-reverse saved, h))
