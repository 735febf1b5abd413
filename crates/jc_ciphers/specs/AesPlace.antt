-- Where a word of the key's schedule stands.
use Rattle.std.specs.Prelude.{◌≡◌, ℕ, ◌/◌, ◌%◌}
use Rattle.jc_ciphers.specs.declared.aes_place.Place.{Place}

-- word i, of a key of k words
abbrev pub IsPlace : ℕ → ℕ → Place → Type 0
IsPlace k i place = (place.turn ≡ i / k) × (place.rest ≡ i % k)
