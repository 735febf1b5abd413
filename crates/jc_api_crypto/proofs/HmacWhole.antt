-- HMAC of a message in pieces is that of the whole, over the hash functions of the standards.
use Rattle.std.proofs.Common.{◌≡◌, ◌<◌, ◌^◌, ◌++◌, ◌∷◌, ℕ, List, [], append-nil, append_assoc, length, length-append, replicate, subst, sym, arith}
use Rattle.std.specs.Prelude.{fold}
use Rattle.std.specs.List.{concat}
use Rattle.jc_digests.specs.Kept.{form_of, initial_of, state_after, state_size}
use Rattle.jc_digests.specs.declared.kept.HashAlgorithm.{HashAlgorithm}
use Rattle.jc_ciphers.specs.Kept.Hmac.{DigestsTheWhole}
use Rattle.jc_ciphers.proofs.HmacPieces.{hmac_of_the_whole}
use Rattle.jc_api_crypto.specs.MessagesInPieces.{HoldsMessage, hash_of, HmacsAreOfTheWhole}
use Rattle.jc_api_crypto.proofs.Whole.{of_the_whole}

-- once pieces follow a message, a state holds it and them
held_on : (a : HashAlgorithm) (pieces : List (List ℕ)) (m state : List ℕ) → length (m ++ concat pieces) < 2 ^ 64
    → HoldsMessage (form_of a) (initial_of a) m state → HoldsMessage (form_of a) (initial_of a) (m ++ concat pieces) (fold (state_after a) state pieces)
held_on a [] m state small holds = subst (λ (x : List ℕ). HoldsMessage (form_of a) (initial_of a) x state) (sym (append-nil m)) holds
held_on a (p ∷ ps) m state small holds =
    let joined : (m ++ p) ++ concat ps ≡ m ++ (p ++ concat ps) = append_assoc m p (concat ps) in
    let fits : length ((m ++ p) ++ concat ps) < 2 ^ 64 = subst (λ (x : List ℕ). length x < 2 ^ 64) (sym joined) small in
    let long = length-append (m ++ p) (concat ps) in
    let few : length (m ++ p) < 2 ^ 64 = omega (arith, long, fits) in
    subst (λ (x : List ℕ). HoldsMessage (form_of a) (initial_of a) x (fold (state_after a) (state_after a state p) ps)) joined
    (held_on a ps (m ++ p) (state_after a state p) fits ((of_the_whole a).longer m p state few holds))

held_all : (a : HashAlgorithm) (pieces : List (List ℕ)) → length (concat pieces) < 2 ^ 64
    → HoldsMessage (form_of a) (initial_of a) (concat pieces) (fold (state_after a) (replicate (state_size a) 0) pieces)
held_all a pieces small = held_on a pieces [] (replicate (state_size a) 0) small (of_the_whole a).nothing

digests_the_whole : (a : HashAlgorithm) → DigestsTheWhole a (hash_of a)
digests_the_whole a = record {
  digested = λ pieces small. (of_the_whole a).digest (concat pieces) (fold (state_after a) (replicate (state_size a) 0) pieces) (held_all a pieces small);
  long = λ pieces small. (held_all a pieces small).long;
}

pub hmacs_of_the_whole : HmacsAreOfTheWhole
hmacs_of_the_whole a key last pieces small fits = hmac_of_the_whole a (hash_of a) (digests_the_whole a) key last pieces small fits
