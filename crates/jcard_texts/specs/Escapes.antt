-- Texts within quotes in XML.
use Rattle.std.specs.Prelude.{ℕ, zero, suc, ◌==◌, ◌&&◌, Bool, nat_lt, List, [], ◌∷◌, ◌++◌, codes, length, slice_index, if◌then◌else◌}

-- a byte of a text: & < > and " by their names, and a question mark for a control character, which XML lacks
abbrev pub escape : ℕ → List ℕ
escape c = if c == 38 then codes "&amp;" else (if c == 60 then codes "&lt;" else (if c == 62 then codes "&gt;"
    else (if c == 34 then codes "&quot;" else (if nat_lt c 32 then codes "?" else c ∷ []))))

-- a text begins with U+FFFE or U+FFFF, which XML lacks: the bytes 239, 191, and 190 or 191, the greatest that can follow
abbrev pub begins_outside : List ℕ → Bool
begins_outside cs = nat_lt 2 (length cs) && (slice_index cs 0 == 239) && (slice_index cs 1 == 191) && nat_lt 189 (slice_index cs 2)

-- a text without its first bytes, this many of them. A question mark stands for a character that XML lacks, of three bytes
unfoldable pub escaped_behind : ℕ → List ℕ → List ℕ
escaped_behind k [] = []
escaped_behind (suc k) (c ∷ cs) = escaped_behind k cs
escaped_behind zero (c ∷ cs) = if begins_outside (c ∷ cs) then codes "?" ++ escaped_behind 2 cs else escape c ++ escaped_behind 0 cs

-- a text
abbrev pub escaped : List ℕ → List ℕ
escaped cs = escaped_behind 0 cs
