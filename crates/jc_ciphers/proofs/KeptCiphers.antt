-- Which cipher a key's length says.
use Rattle.std.proofs.Common.{◌≡◌, ◌∙◌, ◌⊎◌, ℕ, Bool, List, true, false, length, inl, inr, sym, ap, if◌then◌else◌}
use Rattle.std.specs.Prelude.{nat_eq}
use Rattle.std.proofs.lemmas.Bool.{true≢false}
use Rattle.jc_ciphers.specs.Des as Des
use Rattle.jc_ciphers.specs.TripleDes.{IsTripleLength, parts_of, triple_encrypted}
use Rattle.jc_ciphers.specs.declared.kept.BlockAlgorithm.TheVariants as algorithm
use Rattle.jc_ciphers.specs.Kept.{IsKeyLength, encrypted_under}

pub not_single : (n : ℕ) → IsTripleLength n → nat_eq n 8 ≡ false
not_single n (inl two) = ap (λ (k : ℕ). nat_eq k 8) two
not_single n (inr three) = ap (λ (k : ℕ). nat_eq k 8) three

pub des_under : (key : List ℕ) → length key ≡ 8 → encrypted_under algorithm.Des key ≡ Des.encrypted key
des_under key eight = λ j b. if nat_eq (eight j) 8 then Des.encrypted key b else triple_encrypted (parts_of key) b

pub triple_under : (key : List ℕ) → IsTripleLength (length key) → encrypted_under algorithm.Des key ≡ triple_encrypted (parts_of key)
triple_under key parts =
    λ j b. if not_single (length key) parts j then Des.encrypted key b else triple_encrypted (parts_of key) b

pub two_or_three : (n : ℕ) → IsKeyLength algorithm.Des n → nat_eq n 8 ≡ false → IsTripleLength n
two_or_three n (inl one) other = absurd (true≢false (ap (λ (k : ℕ). nat_eq k 8) (sym one) ∙ other))
two_or_three n (inr more) other = more
