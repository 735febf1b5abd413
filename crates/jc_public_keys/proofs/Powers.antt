-- Powers, by what the library says of them.
use Rattle.std.proofs.Common.{◌≡◌, ◌∙◌, ◌%◌, ◌^◌, ◌<◌, ◌≤◌, ℕ, true, false, List, length, get_or, Some, None, Err, sym, ap, arith}
use Rattle.std.proofs.lemmas.Bool.{cond-false, cond-true, false_from_ne_true}
use Rattle.std.proofs.lemmas.Bool.Decides.{Decides-and, Decides-eqb, Decides-ltb, nat_tests}
use Rattle.std.specs.Prelude.{◌*◌, ◌==◌, ◌&&◌, nat_lt}
use Rattle.std.specs.Bool.{Decides}
use Rattle.jc_numbers.specs.Numbers.{number_of_bytes}
use Rattle.jc_rsa.specs.Power.{IsUsable, PowerGives}
use Rattle.jc_rsa.specs.Crt.{CrtGives, IsUsableKey, message_of, modulus_of}
use Rattle.jc_rsa.specs.declared.crt.CrtKey.{CrtKey}
use Rattle.jc_rsa.specs.declared.power.PowerError.{PowerError}
use Rattle.jc_rsa.specs.declared.power.PowerError.TheVariants.{MessageOutOfRange, ModulusNotUsable}
use Rattle.jc_public_keys.specs.Rsa.{bytes_of_key, bytes_of_number, crt_power_of, is_usable, joined_power, may_join, power_of}
use Rattle.jc_public_keys.proofs.BytesOfNumbers.{bytes_from}

tested : (n m : ℕ) → IsUsable n → m < n → is_usable n && nat_lt m n ≡ true
tested n m usable below = grind (arith, nat_tests)

not_usable : (n m : ℕ) → ¬ IsUsable n → is_usable n && nat_lt m n ≡ false
not_usable n m none = grind (arith, nat_tests)

not_below : (n m : ℕ) → n ≤ m → is_usable n && nat_lt m n ≡ false
not_below n m above = grind (arith, nat_tests)

pub power_is : (modulus exponent message new : List ℕ) → ((k : ℕ) → get_or new k 0 < 256) → length new ≡ length modulus
    → IsUsable (number_of_bytes modulus) → number_of_bytes message < number_of_bytes modulus
    → number_of_bytes new ≡ number_of_bytes message ^ number_of_bytes exponent % number_of_bytes modulus
    → Some new ≡ power_of modulus exponent message
unfolding power_of
power_is modulus exponent message new small long usable below is =
    let n = number_of_bytes modulus in
    let m = number_of_bytes message in
    let bytes : List ℕ = bytes_of_number (length modulus) (m ^ number_of_bytes exponent % n) in
    ap Some (bytes_from new (length modulus) _ small long is) ∙ sym (cond-true (is_usable n && nat_lt m n) (Some bytes) None (tested n m usable below))

none_is : (modulus exponent message : List ℕ)
    → is_usable (number_of_bytes modulus) && nat_lt (number_of_bytes message) (number_of_bytes modulus) ≡ false
    → None ≡ power_of modulus exponent message
unfolding power_of
none_is modulus exponent message not =
    let n = number_of_bytes modulus in
    let m = number_of_bytes message in
    let bytes : List ℕ = bytes_of_number (length modulus) (m ^ number_of_bytes exponent % n) in
    sym (cond-false (is_usable n && nat_lt m n) (Some bytes) None not)

pub no_power : (modulus exponent message : List ℕ) → ¬ IsUsable (number_of_bytes modulus) → None ≡ power_of modulus exponent message
no_power modulus exponent message none = none_is modulus exponent message (not_usable (number_of_bytes modulus) (number_of_bytes message) none)

pub no_residue : (modulus exponent message : List ℕ) → number_of_bytes modulus ≤ number_of_bytes message → None ≡ power_of modulus exponent message
no_residue modulus exponent message above = none_is modulus exponent message (not_below (number_of_bytes modulus) (number_of_bytes message) above)

-- what an error says
pub power_refused : (modulus exponent message old new : List ℕ) (e : PowerError) → PowerGives modulus exponent message old new (Err e)
    → None ≡ power_of modulus exponent message
power_refused modulus exponent message old new ModulusNotUsable is = no_power modulus exponent message is.0
power_refused modulus exponent message old new MessageOutOfRange is = no_residue modulus exponent message is.1

-- ---- by primes

pub usable_is : (n : ℕ) → Decides (is_usable n) (IsUsable n)
usable_is n = Decides-and (n % 2 == 1) (nat_lt 1 n) (Decides-eqb (n % 2) 1) (Decides-ltb 1 n)

join_is : (k : CrtKey) (c n : ℕ) → Decides (may_join (bytes_of_key k) c n) ((IsUsable (number_of_bytes k.p.now) × IsUsable (number_of_bytes k.q.now))
    × ((modulus_of k < 256 ^ n) × (c < modulus_of k)))
join_is k c n =
    let p = number_of_bytes k.p.now in
    let q = number_of_bytes k.q.now in
    Decides-and (is_usable p && is_usable q) (nat_lt (p * q) (256 ^ n) && nat_lt c (p * q))
    (Decides-and (is_usable p) (is_usable q) (usable_is p) (usable_is q))
    (Decides-and (nat_lt (p * q) (256 ^ n)) (nat_lt c (p * q)) (Decides-ltb (p * q) (256 ^ n)) (Decides-ltb c (p * q)))

joins : (k : CrtKey) (c n : ℕ) → IsUsableKey k n → c < modulus_of k → may_join (bytes_of_key k) c n ≡ true
joins k c n usable below = (join_is k c n).1 ((usable.0, usable.1), (usable.2, below))

no_join : (k : CrtKey) (c n : ℕ) → ¬ IsUsableKey k n → may_join (bytes_of_key k) c n ≡ false
no_join k c n none = false_from_ne_true (may_join (bytes_of_key k) c n) (λ yes. let all = (join_is k c n).0 yes in none (all.0.0, all.0.1, all.1.0))

not_joined : (k : CrtKey) (c n : ℕ) → modulus_of k ≤ c → may_join (bytes_of_key k) c n ≡ false
not_joined k c n above = false_from_ne_true (may_join (bytes_of_key k) c n) (λ yes. let all = (join_is k c n).0 yes in absurd (omega (arith, all.1.1, above)))

pub crt_power_is : (k : CrtKey) (message new : List ℕ) (n : ℕ) → ((i : ℕ) → get_or new i 0 < 256) → length new ≡ n
    → IsUsableKey k n → number_of_bytes message < modulus_of k → number_of_bytes new ≡ message_of k (number_of_bytes message)
    → Some new ≡ crt_power_of (bytes_of_key k) message n
unfolding crt_power_of
crt_power_is k message new n small long usable below is =
    let c = number_of_bytes message in
    let yes : may_join (bytes_of_key k) c n ≡ true = joins k c n usable below in
    let bytes : List ℕ = bytes_of_number n (joined_power (bytes_of_key k) c) in
    ap Some (bytes_from new n _ small long is) ∙ sym (cond-true (may_join (bytes_of_key k) c n) (Some bytes) None yes)

no_crt : (k : CrtKey) (message : List ℕ) (n : ℕ) → may_join (bytes_of_key k) (number_of_bytes message) n ≡ false → None ≡ crt_power_of (bytes_of_key k) message n
unfolding crt_power_of
no_crt k message n not =
    let c = number_of_bytes message in
    sym (cond-false (may_join (bytes_of_key k) c n) (Some (bytes_of_number n (joined_power (bytes_of_key k) c))) None not)

pub no_key : (k : CrtKey) (message : List ℕ) (n : ℕ) → ¬ IsUsableKey k n → None ≡ crt_power_of (bytes_of_key k) message n
no_key k message n none = no_crt k message n (no_join k (number_of_bytes message) n none)

pub no_crt_residue : (k : CrtKey) (message : List ℕ) (n : ℕ) → modulus_of k ≤ number_of_bytes message → None ≡ crt_power_of (bytes_of_key k) message n
no_crt_residue k message n above = no_crt k message n (not_joined k (number_of_bytes message) n above)

pub crt_refused : (k : CrtKey) (message old new : List ℕ) (e : PowerError) → CrtGives k message old new (Err e)
    → None ≡ crt_power_of (bytes_of_key k) message (length old)
crt_refused k message old new ModulusNotUsable is = no_key k message (length old) is.0
crt_refused k message old new MessageOutOfRange is = no_crt_residue k message (length old) is.1
