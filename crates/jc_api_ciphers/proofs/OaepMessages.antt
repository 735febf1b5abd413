-- The message that EME-OAEP encodes, by what the library says of it.
use Rattle.std.proofs.Common.{◌≡◌, ◌≤◌, ◌+◌, ◌-◌, ◌∙◌, ◌∷◌, ◌++◌, [], ℕ, zero, suc, List, Bool, true, append_assoc, drop, length, replicate, Option, Some, None, inl, inr, refl, sym, ap, arith}
use Rattle.std.proofs.lemmas.Bool.{and_parts, cases_Bool, cond-false, cond-true, le-leb, leb-true}
use Rattle.std.proofs.lemmas.List.{drop_at}
use Rattle.std.proofs.lemmas.Slice.Eq.{bytes_eq-Decides}
use Rattle.std.specs.Option.{option_map}
use Rattle.std.specs.Str.{bytes_eq}
use Rattle.std.specs.Prelude.{MatchOption, ◌&&◌, nat_le, if◌then◌else◌}
use Rattle.jc_digests.specs.declared.kept.HashAlgorithm.TheVariants.{Sha1}
use Rattle.jc_rsa.specs.EmeOaep.{IsDataBlock, IsOaep, data_block, oaep}
use Rattle.jc_rsa.specs.Hashing.{digest_of}
use Rattle.jc_rsa.proofs.Digests.{length-digest_of}
use Rattle.jc_rsa.proofs.OaepBlocks as blocks
use Rattle.jc_api_ciphers.specs.Cipher.Rsa.Oaep.{after_zeros, block_in, last_in, oaep_message, seed_in}

zeros_passed : (k : ℕ) (m : List ℕ) → after_zeros (replicate k 0 ++ 1 ∷ m) ≡ m
unfolding after_zeros
zeros_passed zero m = refl
zeros_passed (suc k) m = zeros_passed k m

-- after the digest and the zeros of a data block its message begins
last_of_block : (m block : List ℕ) → IsDataBlock Sha1 m block → after_zeros (drop 20 block) ≡ m
unfolding data_block
last_of_block m block is =
    let label : List ℕ = digest_of Sha1 [] in
    let k = length block - length m - 20 - 1 in
    let rest : List ℕ = replicate k 0 ++ 1 ∷ m in
    let parts : block ≡ label ++ rest = is.is ∙ append_assoc label (replicate k 0) (1 ∷ m) in
    ap (λ (xs : List ℕ). after_zeros (drop 20 xs)) parts ∙ ap after_zeros (drop_at label rest 20 (length-digest_of Sha1 [])) ∙ zeros_passed k m

last_is : (m em : List ℕ) → IsOaep Sha1 m em → last_in em ≡ m
last_is m em is = last_of_block m (block_in em) (blocks.oaep_has Sha1 m em is)

seed_is : (m em : List ℕ) (is : IsOaep Sha1 m em) → seed_in em ≡ is.seed
seed_is m em is =
    let found = blocks.found Sha1 is.seed (data_block Sha1 m (length em - 20 - 1)) em (is.is ∙ blocks.oaep-is Sha1 is.seed m (length em)) is.whole in
    found.seed_is

-- that it is made again
abbrev is_made : List ℕ → Bool
is_made em = nat_le (length (last_in em) + 42) (length em) && bytes_eq em (oaep Sha1 (seed_in em) (last_in em) (length em))

both : (a b : Bool) → a ≡ true → b ≡ true → (a && b) ≡ true
both a b first second = (λ j. first j && b) ∙ second

made : (m em : List ℕ) → IsOaep Sha1 m em → oaep_message em ≡ Some m
unfolding oaep_message
made m em is =
    let last = last_is m em is in
    let again : em ≡ oaep Sha1 (seed_in em) (last_in em) (length em) = is.is ∙ sym (λ j. oaep Sha1 (seed_is m em is j) (last j) (length em)) in
    let room = le-leb (length (last_in em) + 42) (length em) (omega (arith, is.fits, ap length last)) in
    let same = (bytes_eq-Decides em (oaep Sha1 (seed_in em) (last_in em) (length em))).1 again in
    let holds = both (nat_le (length (last_in em) + 42) (length em)) (bytes_eq em (oaep Sha1 (seed_in em) (last_in em) (length em))) room same in
    cond-true (is_made em) (Some (last_in em)) None holds ∙ ap Some last

encoded : (em : List ℕ) → is_made em ≡ true → IsOaep Sha1 (last_in em) em
encoded em holds =
    let parts = and_parts (nat_le (length (last_in em) + 42) (length em)) (bytes_eq em (oaep Sha1 (seed_in em) (last_in em) (length em))) holds in
    let fits = leb-true (length (last_in em) + 42) (length em) parts.0 in
    record {
      seed = seed_in em;
      whole = blocks.length-seed_in Sha1 em (omega (arith, fits));
      fits = omega (arith, fits);
      is = (bytes_eq-Decides em (oaep Sha1 (seed_in em) (last_in em) (length em))).0 parts.1;
    }

none : (em : List ℕ) → ((m : List ℕ) → ¬ (IsOaep Sha1 m em)) → oaep_message em ≡ None
unfolding oaep_message
none em never = elim (cases_Bool (is_made em)) as (λ _. oaep_message em ≡ None) [
  | inl holds ↦ absurd (never (last_in em) (encoded em holds))
  | inr fails ↦ cond-false (is_made em) (Some (last_in em)) None fails
]

pub told : (o : Option ℕ) (after em : List ℕ) → MatchOption o ((m : List ℕ) → ¬ (IsOaep Sha1 m em)) (λ start. IsOaep Sha1 (drop start after) em)
    → option_map (λ (start : ℕ). drop start after) o ≡ oaep_message em
told None after em is = sym (none em is)
told (Some start) after em is = sym (made (drop start after) em is)
