-- Cipher: the class of the objects that its calls make, and the cells that init sets.
use Rattle.std.proofs.Common.{◌≡◌, ℕ, ℤ, List, [], Ok, refl, subst, arith}
use Rattle.jc_platform.specs.Hierarchy.{cells_of, holds_reference, is_interface}
use Rattle.jc_platform.specs.Names.{classes}
use Rattle.jc_platform.specs.declared.names.PlatformClass.TheVariants as class
use Rattle.jc_linker.specs.Values.{Packages}
use Rattle.jc_memory.specs.State.{MemoryState}
use Rattle.jc_frames.specs.declared.cell.Cell.{Cell}
use Rattle.jc_world.specs.Arrays.{bytes_in}
use Rattle.jc_world.specs.Objects.{short_argument, some_or_fault}
use Rattle.jc_api.specs.Arguments.{counted_of}
use Rattle.jc_api.specs.Factory.{HasState}
use Rattle.jc_api.specs.Initializing.{FieldsAnswer, FitsFields}
use Rattle.jc_api.specs.declared.factory.NewEngine.{NewEngine}
use Rattle.jc_api.proofs.Reaching.{err_not_ok, same_Ok}
use Rattle.jc_api.proofs.Stretches.{both_ok}
use Rattle.jc_api_ciphers.specs.Cipher.Block.{block_init, block_init_with_vector, cipher_requirements}
use Rattle.jc_api_ciphers.specs.Cipher.{cipher_get_instance, cipher_get_instance_of_cipher_and_padding, cipher_init, cipher_init_with_vector, init_of}
use Rattle.jc_api_ciphers.specs.Cipher.{init_with_vector_of, new_cipher, own_cipher}
use Rattle.jc_api_ciphers.specs.Cipher.Kinds.{kind_named, kind_number, kind_of_numbers, rsa_shorts}
use Rattle.jc_api_ciphers.specs.Signature.Pair.Keys.{pair_parts}
use Rattle.jc_api_ciphers.specs.Cipher.Rsa.{rsa_init, rsa_init_with_vector, taken_rsa_key}
use Rattle.jc_api_ciphers.specs.Initialized.{initializes, key_init, taken_key, taken_mode, taken_vector, vector_init}
use Rattle.jc_api_keys.specs.KeyObjects.Contents.{key_elements}
use Rattle.jc_api_keys.specs.Receivers.{named_or_throw}
use Rattle.jc_api_keys.specs.Shorts.{first_shorts}
use Rattle.jc_api_ciphers.specs.declared.cipher.algorithms.CipherAlgorithm.{CipherAlgorithm}
use Rattle.jc_api_ciphers.specs.declared.cipher.kinds.CipherKind.{CipherKind}
use Rattle.jc_api_ciphers.specs.declared.cipher.kinds.CipherKind.TheVariants.{Block, Rsa}
use Rattle.jc_api_ciphers.specs.declared.cipher.kinds.RsaPadding.{RsaPadding}
use Rattle.jc_api_ciphers.specs.declared.initialized.KeyedEngine.{KeyedEngine}
use Rattle.jc_api_ciphers.specs.declared.initialized.Requirements.{Requirements}

pub ciphers_have_state : HasState class.Cipher
unfolding is_interface cells_of holds_reference classes
ciphers_have_state = record { instances = refl; cells = omega arith; number = refl; state = refl }

-- what a call makes is of the class
pub made_cipher : (args : List Cell) (e : NewEngine) → cipher_get_instance args ≡ Ok e → HasState e.class
unfolding cipher_get_instance
made_cipher args e is =
    let number = both_ok (some_or_fault (short_argument args 0)) _ e is in
    let external = both_ok (some_or_fault (short_argument args 1)) _ e number.2 in
    let named = both_ok (named_or_throw (kind_named number.0)) _ e external.2 in
    subst (λ (x : NewEngine). HasState x.class) (same_Ok (new_cipher number.0 named.0) e named.2) ciphers_have_state

pub made_cipher_of_two : (args : List Cell) (e : NewEngine) → cipher_get_instance_of_cipher_and_padding args ≡ Ok e → HasState e.class
unfolding cipher_get_instance_of_cipher_and_padding
made_cipher_of_two args e is =
    let cipher = both_ok (some_or_fault (short_argument args 0)) _ e is in
    let padding = both_ok (some_or_fault (short_argument args 1)) _ e cipher.2 in
    let external = both_ok (some_or_fault (short_argument args 2)) _ e padding.2 in
    let named = both_ok (named_or_throw (kind_of_numbers cipher.0 padding.0)) _ e external.2 in
    subst (λ (x : NewEngine). HasState x.class) (same_Ok (new_cipher (kind_number named.0) named.0) e named.2) ciphers_have_state

-- key, mode and vector fit in their cells
fits : (shorts : ℕ) (own : KeyedEngine) (mode : ℤ) (bytes : List ℕ) → FitsFields (initializes class.Cipher shorts own mode bytes)
unfolding cells_of holds_reference classes first_shorts
fits shorts own mode bytes =
    record { class = ciphers_have_state; within = omega arith; fields = (refl, (refl, (refl, (refl, (refl, (refl, (refl, (refl, (refl, tt))))))))) }

fits_key : (needs : Requirements) (own : KeyedEngine) (args : List Cell) (p : Packages) (m : MemoryState) (a : FieldsAnswer)
    → key_init class.Cipher needs own args p m ≡ Ok a → FitsFields a
unfolding key_init
fits_key needs own args p m a is =
    let key = both_ok (taken_key needs args p m) _ a is in
    let mode = both_ok (taken_mode args) _ a key.2 in
    let set = both_ok (key_elements m key.0) _ a mode.2 in
    subst FitsFields (same_Ok (initializes class.Cipher needs.state own mode.0 []) a set.2) (fits needs.state own mode.0 [])

fits_vector : (needs : Requirements) (own : KeyedEngine) (args : List Cell) (p : Packages) (m : MemoryState) (a : FieldsAnswer)
    → vector_init class.Cipher needs own args p m ≡ Ok a → FitsFields a
unfolding vector_init
fits_vector needs own args p m a is =
    let key = both_ok (taken_key needs args p m) _ a is in
    let mode = both_ok (taken_mode args) _ a key.2 in
    let e = both_ok (taken_vector needs args p m) _ a mode.2 in
    let set = both_ok (key_elements m key.0) _ a e.2 in
    subst FitsFields (same_Ok (initializes class.Cipher needs.state own mode.0 (bytes_in m e.0)) a set.2) (fits needs.state own mode.0 (bytes_in m e.0))

fits_block : (a : CipherAlgorithm) (own : KeyedEngine) (args : List Cell) (p : Packages) (m : MemoryState) (set : FieldsAnswer)
    → block_init a own args p m ≡ Ok set → FitsFields set
unfolding block_init
fits_block a own args p m set is = fits_key (cipher_requirements a) own args p m set is

fits_block_with_vector : (a : CipherAlgorithm) (own : KeyedEngine) (args : List Cell) (p : Packages) (m : MemoryState) (set : FieldsAnswer)
    → block_init_with_vector a own args p m ≡ Ok set → FitsFields set
unfolding block_init_with_vector
fits_block_with_vector a own args p m set is = fits_vector (cipher_requirements a) own args p m set is

fits_rsa : (padding : RsaPadding) (own : KeyedEngine) (args : List Cell) (p : Packages) (m : MemoryState) (set : FieldsAnswer)
    → rsa_init padding own args p m ≡ Ok set → FitsFields set
unfolding rsa_init
fits_rsa padding own args p m set is =
    let mode = both_ok (taken_mode args) _ set is in
    let key = both_ok (taken_rsa_key padding mode.0 args p m) _ set mode.2 in
    let parts = both_ok (pair_parts m (key.0).key) _ set key.2 in
    subst FitsFields (same_Ok (initializes class.Cipher rsa_shorts own mode.0 []) set parts.2) (fits rsa_shorts own mode.0 [])

-- no vector is taken
fits_rsa_with_vector : (padding : RsaPadding) (args : List Cell) (p : Packages) (m : MemoryState) (set : FieldsAnswer)
    → rsa_init_with_vector padding args p m ≡ Ok set → FitsFields set
unfolding rsa_init_with_vector
fits_rsa_with_vector padding args p m set is =
    let mode = both_ok (taken_mode args) _ set is in
    let key = both_ok (taken_rsa_key padding mode.0 args p m) _ set mode.2 in
    let e = both_ok (counted_of 3 args p m) _ set key.2 in
    absurd (err_not_ok e.2)

fits_kind : (kind : CipherKind) (own : KeyedEngine) (args : List Cell) (p : Packages) (m : MemoryState) (set : FieldsAnswer)
    → init_of kind own args p m ≡ Ok set → FitsFields set
fits_kind (Block a) own args p m set is = fits_block a own args p m set is
fits_kind (Rsa padding) own args p m set is = fits_rsa padding own args p m set is

fits_kind_with_vector : (kind : CipherKind) (own : KeyedEngine) (args : List Cell) (p : Packages) (m : MemoryState) (set : FieldsAnswer)
    → init_with_vector_of kind own args p m ≡ Ok set → FitsFields set
fits_kind_with_vector (Block a) own args p m set is = fits_block_with_vector a own args p m set is
fits_kind_with_vector (Rsa padding) own args p m set is = fits_rsa_with_vector padding args p m set is

pub fits_init : (args : List Cell) (p : Packages) (m : MemoryState) (a : FieldsAnswer) → cipher_init args p m ≡ Ok a → FitsFields a
unfolding cipher_init
fits_init args p m a is =
    let own = both_ok (own_cipher args p m) _ a is in fits_kind (own.0).kind (own.0).engine args p m a own.2

pub fits_init_with_vector : (args : List Cell) (p : Packages) (m : MemoryState) (a : FieldsAnswer) → cipher_init_with_vector args p m ≡ Ok a → FitsFields a
unfolding cipher_init_with_vector
fits_init_with_vector args p m a is =
    let own = both_ok (own_cipher args p m) _ a is in fits_kind_with_vector (own.0).kind (own.0).engine args p m a own.2
