-- What the Method component says, and which bytes are one.
use Rattle.std.specs.Prelude.{ℕ, List, ◌≡◌, ◌+◌, ◌*◌, ◌<◌, Bool, true, false, [], ◌∷◌, ◌++◌, length}
use Rattle.jc_cap.specs.declared.handlers.Handler.{Handler}
use Rattle.jc_cap.specs.declared.methods.MethodHeader.{MethodHeader}
use Rattle.jc_cap.specs.Grammar.{AreEncodedInTurn, IsU2}

-- the exception handlers, and after them the methods, to the end of the info
pub record MethodParts : Type 0 where
  pub handlers : List Handler
  pub code : List ℕ

-- a method: its header, and its bytes from the header to the end of the info
pub record MethodText : Type 0 where
  pub header : MethodHeader
  pub bytes : List ℕ

-- ---- which bytes are a Method component

-- two bytes: the stop bit, and a length in the other 15 bits
abbrev pub IsActiveLength : Bool → ℕ → List ℕ → Type 0
IsActiveLength false n text = (high : ℕ) × (low : ℕ) × (high < 128) × (n ≡ high * 256 + low) × (text ≡ high ∷ low ∷ [])
IsActiveLength true n text = (high : ℕ) × (low : ℕ) × (n ≡ high * 256 + low) × (text ≡ (128 + high) ∷ low ∷ [])

abbrev pub IsHandler : Handler → List ℕ → Type 0
IsHandler h text = (start : List ℕ) × (active : List ℕ) × (target : List ℕ) × (catch : List ℕ)
    × IsU2 h.start_offset start × IsActiveLength h.stop h.active_length active × IsU2 h.handler_offset target × IsU2 h.catch_type_index catch
    × (text ≡ start ++ (active ++ (target ++ catch)))

-- a byte of count, the handlers, and the methods to the end of the info
abbrev pub AreMethods : MethodParts → List ℕ → Type 0
AreMethods m info = (handlers : List ℕ) × AreEncodedInTurn IsHandler m.handlers handlers × (info ≡ length m.handlers ∷ (handlers ++ m.code))
