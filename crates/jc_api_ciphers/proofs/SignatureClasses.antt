-- Signature: the class of the objects that its calls make, and the cells that init sets.
use Rattle.std.proofs.Common.{◌≡◌, ℕ, ℤ, List, [], Ok, refl, subst, arith}
use Rattle.jc_platform.specs.Hierarchy.{cells_of, holds_reference, is_interface}
use Rattle.jc_platform.specs.Names.{classes}
use Rattle.jc_platform.specs.declared.names.PlatformClass.TheVariants as class
use Rattle.jc_linker.specs.Values.{Packages}
use Rattle.jc_memory.specs.State.{MemoryState}
use Rattle.jc_frames.specs.declared.cell.Cell.{Cell}
use Rattle.jc_world.specs.Arrays.{bytes_in}
use Rattle.jc_world.specs.Objects.{short_argument, some_or_fault}
use Rattle.jc_api.specs.Arguments.{counted_of}
use Rattle.jc_api.specs.Factory.{HasState}
use Rattle.jc_api.specs.Initializing.{FieldsAnswer, FitsFields}
use Rattle.jc_api.specs.declared.factory.NewEngine.{NewEngine}
use Rattle.jc_api.proofs.Reaching.{err_not_ok, same_Ok}
use Rattle.jc_api.proofs.Stretches.{both_ok}
use Rattle.jc_api_ciphers.specs.Initialized.{initializes, key_init, taken_key, taken_mode, taken_vector, vector_init}
use Rattle.jc_api_keys.specs.KeyObjects.Contents.{key_elements}
use Rattle.jc_api_keys.specs.Receivers.{named_or_throw}
use Rattle.jc_api_keys.specs.Shorts.{first_shorts}
use Rattle.jc_api_ciphers.specs.Signature.PairAlgorithms.{pair_shorts}
use Rattle.jc_api_ciphers.specs.Signature.{init_of, init_with_vector_of, new_signature, own_signature, signature_get_instance}
use Rattle.jc_api_ciphers.specs.Signature.{signature_get_instance_of_digest_cipher_and_padding, signature_init, signature_init_with_vector, signature_of_one}
use Rattle.jc_api_ciphers.specs.Signature.Codes.{code_init, code_init_with_vector, key_of_length, signature_requirements}
use Rattle.jc_api_ciphers.specs.Signature.Kinds.{kind_named, kind_of_numbers}
use Rattle.jc_api_ciphers.specs.Signature.Pair.{pair_init, pair_init_with_vector}
use Rattle.jc_api_ciphers.specs.Signature.Pair.Keys.{pair_parts, taken_pair_key}
use Rattle.jc_api_ciphers.specs.declared.initialized.KeyedEngine.{KeyedEngine}
use Rattle.jc_api_ciphers.specs.declared.initialized.Requirements.{Requirements}
use Rattle.jc_api_ciphers.specs.declared.signature.algorithms.SignatureAlgorithm.{SignatureAlgorithm}
use Rattle.jc_api_ciphers.specs.declared.signature.kinds.SignatureKind.{SignatureKind}
use Rattle.jc_api_ciphers.specs.declared.signature.kinds.SignatureKind.TheVariants.{Code, Pair}
use Rattle.jc_api_ciphers.specs.declared.signature.pair_algorithms.PairSignature.{PairSignature}

pub signatures_have_state : HasState class.Signature
unfolding is_interface cells_of holds_reference classes
signatures_have_state = record { instances = refl; cells = omega arith; number = refl; state = refl }

-- what a call makes is of the class
made_of_one : (number : ℤ) (e : NewEngine) → signature_of_one number ≡ Ok e → HasState e.class
made_of_one number e is =
    let named = both_ok (named_or_throw (kind_named number)) _ e is in
    subst (λ (x : NewEngine). HasState x.class) (same_Ok (new_signature number named.0) e named.2) signatures_have_state

pub made_signature : (args : List Cell) (e : NewEngine) → signature_get_instance args ≡ Ok e → HasState e.class
unfolding signature_get_instance
made_signature args e is =
    let number = both_ok (some_or_fault (short_argument args 0)) _ e is in
    let external = both_ok (some_or_fault (short_argument args 1)) _ e number.2 in
    made_of_one number.0 e external.2

pub made_signature_of_three : (args : List Cell) (e : NewEngine) → signature_get_instance_of_digest_cipher_and_padding args ≡ Ok e → HasState e.class
unfolding signature_get_instance_of_digest_cipher_and_padding
made_signature_of_three args e is =
    let digest = both_ok (some_or_fault (short_argument args 0)) _ e is in
    let cipher = both_ok (some_or_fault (short_argument args 1)) _ e digest.2 in
    let padding = both_ok (some_or_fault (short_argument args 2)) _ e cipher.2 in
    let external = both_ok (some_or_fault (short_argument args 3)) _ e padding.2 in
    let number = both_ok (named_or_throw (kind_of_numbers digest.0 cipher.0 padding.0)) _ e external.2 in
    made_of_one number.0 e number.2

-- key, mode and vector fit in their cells
fits : (shorts : ℕ) (own : KeyedEngine) (mode : ℤ) (bytes : List ℕ) → FitsFields (initializes class.Signature shorts own mode bytes)
unfolding cells_of holds_reference classes first_shorts
fits shorts own mode bytes =
    record { class = signatures_have_state; within = omega arith; fields = (refl, (refl, (refl, (refl, (refl, (refl, (refl, (refl, (refl, tt))))))))) }

fits_key : (needs : Requirements) (own : KeyedEngine) (args : List Cell) (p : Packages) (m : MemoryState) (a : FieldsAnswer)
    → key_init class.Signature needs own args p m ≡ Ok a → FitsFields a
unfolding key_init
fits_key needs own args p m a is =
    let key = both_ok (taken_key needs args p m) _ a is in
    let mode = both_ok (taken_mode args) _ a key.2 in
    let set = both_ok (key_elements m key.0) _ a mode.2 in
    subst FitsFields (same_Ok (initializes class.Signature needs.state own mode.0 []) a set.2) (fits needs.state own mode.0 [])

fits_vector : (needs : Requirements) (own : KeyedEngine) (args : List Cell) (p : Packages) (m : MemoryState) (a : FieldsAnswer)
    → vector_init class.Signature needs own args p m ≡ Ok a → FitsFields a
unfolding vector_init
fits_vector needs own args p m a is =
    let key = both_ok (taken_key needs args p m) _ a is in
    let mode = both_ok (taken_mode args) _ a key.2 in
    let e = both_ok (taken_vector needs args p m) _ a mode.2 in
    let set = both_ok (key_elements m key.0) _ a e.2 in
    subst FitsFields (same_Ok (initializes class.Signature needs.state own mode.0 (bytes_in m e.0)) a set.2) (fits needs.state own mode.0 (bytes_in m e.0))

fits_code : (a : SignatureAlgorithm) (own : KeyedEngine) (args : List Cell) (p : Packages) (m : MemoryState) (set : FieldsAnswer)
    → code_init a own args p m ≡ Ok set → FitsFields set
unfolding code_init
fits_code a own args p m set is = let long = both_ok (key_of_length a args p m) _ set is in fits_key (signature_requirements a) own args p m set long.2

fits_code_with_vector : (a : SignatureAlgorithm) (own : KeyedEngine) (args : List Cell) (p : Packages) (m : MemoryState) (set : FieldsAnswer)
    → code_init_with_vector a own args p m ≡ Ok set → FitsFields set
unfolding code_init_with_vector
fits_code_with_vector a own args p m set is =
    let long = both_ok (key_of_length a args p m) _ set is in fits_vector (signature_requirements a) own args p m set long.2

fits_pair : (a : PairSignature) (own : KeyedEngine) (args : List Cell) (p : Packages) (m : MemoryState) (set : FieldsAnswer)
    → pair_init a own args p m ≡ Ok set → FitsFields set
unfolding pair_init
fits_pair a own args p m set is =
    let mode = both_ok (taken_mode args) _ set is in
    let key = both_ok (taken_pair_key a mode.0 args p m) _ set mode.2 in
    let parts = both_ok (pair_parts m key.0) _ set key.2 in
    let shorts : ℕ = pair_shorts a in
    subst FitsFields (same_Ok (initializes class.Signature shorts own mode.0 []) set parts.2) (fits shorts own mode.0 [])

-- no vector is taken
fits_pair_with_vector : (a : PairSignature) (args : List Cell) (p : Packages) (m : MemoryState) (set : FieldsAnswer)
    → pair_init_with_vector a args p m ≡ Ok set → FitsFields set
unfolding pair_init_with_vector
fits_pair_with_vector a args p m set is =
    let mode = both_ok (taken_mode args) _ set is in
    let key = both_ok (taken_pair_key a mode.0 args p m) _ set mode.2 in
    let e = both_ok (counted_of 3 args p m) _ set key.2 in
    absurd (err_not_ok e.2)

fits_kind : (kind : SignatureKind) (own : KeyedEngine) (args : List Cell) (p : Packages) (m : MemoryState) (set : FieldsAnswer)
    → init_of kind own args p m ≡ Ok set → FitsFields set
fits_kind (Code a) own args p m set is = fits_code a own args p m set is
fits_kind (Pair a) own args p m set is = fits_pair a own args p m set is

fits_kind_with_vector : (kind : SignatureKind) (own : KeyedEngine) (args : List Cell) (p : Packages) (m : MemoryState) (set : FieldsAnswer)
    → init_with_vector_of kind own args p m ≡ Ok set → FitsFields set
fits_kind_with_vector (Code a) own args p m set is = fits_code_with_vector a own args p m set is
fits_kind_with_vector (Pair a) own args p m set is = fits_pair_with_vector a args p m set is

pub fits_signature_init : (args : List Cell) (p : Packages) (m : MemoryState) (a : FieldsAnswer) → signature_init args p m ≡ Ok a → FitsFields a
unfolding signature_init
fits_signature_init args p m a is =
    let own = both_ok (own_signature args p m) _ a is in fits_kind (own.0).kind (own.0).engine args p m a own.2

pub fits_signature_init_with_vector : (args : List Cell) (p : Packages) (m : MemoryState) (a : FieldsAnswer)
    → signature_init_with_vector args p m ≡ Ok a → FitsFields a
unfolding signature_init_with_vector
fits_signature_init_with_vector args p m a is =
    let own = both_ok (own_signature args p m) _ a is in fits_kind_with_vector (own.0).kind (own.0).engine args p m a own.2
