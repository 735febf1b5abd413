-- Which instructions called the frame that runs.
use Rattle.std.specs.Prelude.{ℕ, zero, suc, List, [], ◌∷◌, Option, Some, None}
use Rattle.jc_frames.specs.declared.call_sites.CallSite.{CallSite}
use Rattle.jc_frames.specs.Frames.{Caller}

-- the method of a caller, and where its call stands
abbrev pub call_site_of : Caller → CallSite
call_site_of c = record { origin = c.frame.origin; place = c.resume.place }

-- that of the caller with this number, from 0 for the nearest; none, where there are not this many
abbrev pub call_site_at : ℕ → List Caller → Option CallSite
call_site_at number [] = None
call_site_at zero (c ∷ rest) = Some (call_site_of c)
call_site_at (suc number) (c ∷ rest) = call_site_at number rest
