-- The message of an encoding is no longer than that.
use Rattle.std.proofs.Common.{◌≡◌, ◌≤◌, ◌==◌, ◌&&◌, ℕ, suc, Bool, true, false, List, [], ◌∷◌, Option, None, Some, Bor, IfSome, if◌then◌else◌, length, nat_le, subst, sym, arith}
use Rattle.std.specs.Option.{option_map}
use Rattle.jc_public_keys.specs.RsaCiphers.{after_padding, message_of, pkcs1_message}
use Rattle.jc_public_keys.specs.declared.rsa_ciphers.CipherPadding.{CipherPadding}
use Rattle.jc_public_keys.specs.declared.rsa_ciphers.CipherPadding.TheVariants.{NoPadding, Pkcs1}

-- it has at most as many bytes as n
abbrev IsWithin : ℕ → Option (List ℕ) → Type 0
IsWithin n message = IfSome message (λ m. length m ≤ n)

longer : (n : ℕ) (message : Option (List ℕ)) → IsWithin n message → IsWithin (suc n) message
longer n None within = tt
longer n (Some m) within = omega (arith, within)

at_zero : (long : Bool) (xs : List ℕ) → IsWithin (suc (length xs)) (if long then Some xs else None)
at_zero true xs = omega arith
at_zero false xs = tt

either : (b : Bool) (n : ℕ) (one other : Option (List ℕ)) → IsWithin n one → IsWithin n other → IsWithin n (if b then one else other)
either true n one other first second = first
either false n one other first second = second

after_within : (count : ℕ) (xs : List ℕ) → IsWithin (length xs) (after_padding count xs)
unfolding after_padding
after_within count [] = tt
after_within count (x ∷ xs) =
    either (x == 0) (suc (length xs)) (if nat_le 8 count then Some xs else None) (after_padding (suc count) xs) (at_zero (nat_le 8 count) xs)
    (longer (length xs) (after_padding (suc count) xs) (after_within (suc count) xs))

pkcs1_within : (em : List ℕ) → IsWithin (length em) (pkcs1_message em)
unfolding pkcs1_message
pkcs1_within [] = tt
pkcs1_within (x ∷ []) = tt
pkcs1_within (x ∷ y ∷ rest) =
    let n : ℕ = length rest in
    either (x == 0 && y == 2) (suc (suc n)) (after_padding 0 rest) None
    (longer (suc n) (after_padding 0 rest) (longer n (after_padding 0 rest) (after_within 0 rest))) tt

message_within : (p : CipherPadding) (em : List ℕ) → IsWithin (length em) (message_of p em)
message_within NoPadding em = omega arith
message_within Pkcs1 em = pkcs1_within em

lent_within : (n : ℕ) (r : Option (Bor (List ℕ))) → IsWithin n (option_map (λ m. m.now) r) → IfSome r (λ m. length m.now ≤ n)
lent_within n None within = tt
lent_within n (Some m) within = within

-- as it is lent
pub lent_message_within : (p : CipherPadding) (em : List ℕ) (r : Option (Bor (List ℕ))) → option_map (λ m. m.now) r ≡ message_of p em
    → IfSome r (λ m. length m.now ≤ length em)
lent_message_within p em r is = lent_within (length em) r (subst (IsWithin (length em)) (sym is) (message_within p em))
