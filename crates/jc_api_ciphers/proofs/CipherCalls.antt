-- Cipher and Signature: what their calls may do, all of which do what they answer.
use Rattle.std.proofs.Common.{ℕ, List, refl}
use Rattle.jc_memory.specs.State.{MemoryState, Effect}
use Rattle.jc_platform.specs.Names.{ciphers_rows}
use Rattle.jc_platform.specs.Signatures.{sets_receiver}
use Rattle.jc_platform.specs.declared.names.CiphersMethod.{CiphersMethod}
use Rattle.jc_platform.specs.declared.names.CiphersMethod.TheVariants as ciphers
use Rattle.jc_platform.specs.declared.names.PlatformMethod.TheVariants as rooms
use Rattle.jc_linker.specs.Values.{Packages}
use Rattle.jc_frames.specs.declared.cell.Cell.{Cell}
use Rattle.jc_api.proofs.ChangingCalls.{changing_due}
use Rattle.jc_api.proofs.Due.{IsPlainCall}
use Rattle.jc_api.proofs.FactoryCalls.{factory_due}
use Rattle.jc_api.proofs.Forms.{reading_due}
use Rattle.jc_api.proofs.InitializingCalls.{initializing_due}
use Rattle.jc_api.proofs.Passing.{CallPasses, RefersToNew}
use Rattle.jc_api_ciphers.specs.Cipher.{cipher_do_final, cipher_get_algorithm, cipher_get_cipher_algorithm, cipher_get_instance, cipher_get_instance_of_cipher_and_padding}
use Rattle.jc_api_ciphers.specs.Cipher.{cipher_get_padding_algorithm, cipher_init, cipher_init_with_vector, cipher_update}
use Rattle.jc_api_ciphers.specs.Ciphers.{cipher_call}
use Rattle.jc_api_ciphers.specs.Signature.{signature_get_algorithm, signature_get_cipher_algorithm, signature_get_instance, signature_get_length}
use Rattle.jc_api_ciphers.specs.Signature.{signature_get_instance_of_digest_cipher_and_padding, signature_get_message_digest_algorithm}
use Rattle.jc_api_ciphers.specs.Signature.{signature_get_padding_algorithm, signature_init, signature_init_with_vector, signature_sign, signature_update}
use Rattle.jc_api_ciphers.specs.Signature.{signature_verify}
use Rattle.jc_api_ciphers.proofs.SignatureClasses.{fits_signature_init, fits_signature_init_with_vector, made_signature, made_signature_of_three}
use Rattle.jc_api_ciphers.proofs.CipherClasses.{fits_init, fits_init_with_vector, made_cipher, made_cipher_of_two}

module _ (P : Effect → MemoryState → Type 0) (L : MemoryState → ℕ → Type 0) (args : List Cell) (p : Packages) (m : MemoryState) (refers : RefersToNew L) where
  pub ciphers_due : (method : CiphersMethod) → CallPasses P (rooms.Ciphers method) args p m → IsPlainCall P L (cipher_call method args p m) m
  unfolding cipher_call sets_receiver ciphers_rows
  ciphers_due ciphers.CipherGetInstance pass = factory_due P L (rooms.Ciphers ciphers.CipherGetInstance) args p m pass refers
      (cipher_get_instance args) (made_cipher args)
  ciphers_due ciphers.CipherGetInstanceOfCipherAndPadding pass = factory_due P L (rooms.Ciphers ciphers.CipherGetInstanceOfCipherAndPadding) args p m pass refers
      (cipher_get_instance_of_cipher_and_padding args) (made_cipher_of_two args)
  ciphers_due ciphers.CipherInit pass = initializing_due P L (rooms.Ciphers ciphers.CipherInit) args p m pass refl (cipher_init args p m)
      (fits_init args p m)
  ciphers_due ciphers.CipherInitWithVector pass = initializing_due P L (rooms.Ciphers ciphers.CipherInitWithVector) args p m pass refl
      (cipher_init_with_vector args p m) (fits_init_with_vector args p m)
  ciphers_due ciphers.CipherUpdate pass = changing_due P L (rooms.Ciphers ciphers.CipherUpdate) args p m pass (cipher_update args p m)
  ciphers_due ciphers.CipherDoFinal pass = changing_due P L (rooms.Ciphers ciphers.CipherDoFinal) args p m pass (cipher_do_final args p m)
  ciphers_due ciphers.CipherGetAlgorithm pass = reading_due P L (rooms.Ciphers ciphers.CipherGetAlgorithm) args p m pass (cipher_get_algorithm args p m)
  ciphers_due ciphers.CipherGetCipherAlgorithm pass = reading_due P L (rooms.Ciphers ciphers.CipherGetCipherAlgorithm) args p m pass
      (cipher_get_cipher_algorithm args p m)
  ciphers_due ciphers.CipherGetPaddingAlgorithm pass = reading_due P L (rooms.Ciphers ciphers.CipherGetPaddingAlgorithm) args p m pass
      (cipher_get_padding_algorithm args p m)
  ciphers_due ciphers.SignatureGetInstance pass = factory_due P L (rooms.Ciphers ciphers.SignatureGetInstance) args p m pass refers
      (signature_get_instance args) (made_signature args)
  ciphers_due ciphers.SignatureGetInstanceOfDigestCipherAndPadding pass = factory_due P L
      (rooms.Ciphers ciphers.SignatureGetInstanceOfDigestCipherAndPadding) args p m pass refers
      (signature_get_instance_of_digest_cipher_and_padding args) (made_signature_of_three args)
  ciphers_due ciphers.SignatureInit pass = initializing_due P L (rooms.Ciphers ciphers.SignatureInit) args p m pass refl (signature_init args p m)
      (fits_signature_init args p m)
  ciphers_due ciphers.SignatureInitWithVector pass = initializing_due P L (rooms.Ciphers ciphers.SignatureInitWithVector) args p m pass refl
      (signature_init_with_vector args p m) (fits_signature_init_with_vector args p m)
  ciphers_due ciphers.SignatureUpdate pass = changing_due P L (rooms.Ciphers ciphers.SignatureUpdate) args p m pass (signature_update args p m)
  ciphers_due ciphers.SignatureSign pass = changing_due P L (rooms.Ciphers ciphers.SignatureSign) args p m pass (signature_sign args p m)
  ciphers_due ciphers.SignatureVerify pass = changing_due P L (rooms.Ciphers ciphers.SignatureVerify) args p m pass (signature_verify args p m)
  ciphers_due ciphers.SignatureGetAlgorithm pass = reading_due P L (rooms.Ciphers ciphers.SignatureGetAlgorithm) args p m pass
      (signature_get_algorithm args p m)
  ciphers_due ciphers.SignatureGetMessageDigestAlgorithm pass = reading_due P L (rooms.Ciphers ciphers.SignatureGetMessageDigestAlgorithm) args p m pass
      (signature_get_message_digest_algorithm args p m)
  ciphers_due ciphers.SignatureGetCipherAlgorithm pass = reading_due P L (rooms.Ciphers ciphers.SignatureGetCipherAlgorithm) args p m pass
      (signature_get_cipher_algorithm args p m)
  ciphers_due ciphers.SignatureGetPaddingAlgorithm pass = reading_due P L (rooms.Ciphers ciphers.SignatureGetPaddingAlgorithm) args p m pass
      (signature_get_padding_algorithm args p m)
  ciphers_due ciphers.SignatureGetLength pass = reading_due P L (rooms.Ciphers ciphers.SignatureGetLength) args p m pass (signature_get_length args p m)
