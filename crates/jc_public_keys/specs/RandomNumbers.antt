-- Numbers of random bytes, and what is made of the first that can be used.
use Rattle.std.specs.Prelude.{ℕ, zero, suc, ◌+◌, ◌-◌, ◌*◌, List, [], ◌∷◌, ◌++◌, Option, Some, None}
use Rattle.jc_curves.specs.Curves.{octets}
use Rattle.jc_rsa.specs.EmsaPss.{cleared}
use Rattle.jc_public_keys.specs.Random.{random_bytes}

-- number t of a seed and a message: as many random bits, in as few bytes as hold them
unfoldable pub random_bits : ℕ → List ℕ → List ℕ → ℕ → List ℕ
random_bits bits seed message t = cleared (8 * octets bits - bits) (random_bytes (seed ++ t ∷ []) message (octets bits))

-- how many numbers are tried: each is below n with a chance of one half at least
abbrev pub tries : ℕ
tries = 64

abbrev pub or_next : {A : Type 0} → Option A → Option A → Option A
or_next None next = next
or_next (Some v) next = Some v

-- the first that there is, of m numbers from t on
unfoldable pub first_of : {A : Type 0} → (ℕ → Option A) → ℕ → ℕ → Option A
first_of f zero t = None
first_of f (suc m) t = or_next (f t) (first_of f m (t + 1))

-- the first of all tries
abbrev pub first_try : {A : Type 0} → (ℕ → Option A) → Option A
first_try f = first_of f tries 0
