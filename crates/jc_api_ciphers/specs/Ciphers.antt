-- The calls of Cipher and Signature.
use Rattle.std.specs.Prelude.{List}
use Rattle.jc_frames.specs.declared.cell.Cell.{Cell}
use Rattle.jc_memory.specs.State.{MemoryState}
use Rattle.jc_platform.specs.declared.names.CiphersMethod.{CiphersMethod}
use Rattle.jc_platform.specs.declared.names.CiphersMethod.TheVariants.{CipherGetInstance, CipherGetInstanceOfCipherAndPadding, CipherInit}
use Rattle.jc_platform.specs.declared.names.CiphersMethod.TheVariants.{CipherInitWithVector, CipherUpdate, CipherDoFinal, CipherGetAlgorithm}
use Rattle.jc_platform.specs.declared.names.CiphersMethod.TheVariants.{CipherGetCipherAlgorithm, CipherGetPaddingAlgorithm, SignatureGetInstance}
use Rattle.jc_platform.specs.declared.names.CiphersMethod.TheVariants.{SignatureGetInstanceOfDigestCipherAndPadding, SignatureInit, SignatureInitWithVector}
use Rattle.jc_platform.specs.declared.names.CiphersMethod.TheVariants.{SignatureUpdate, SignatureSign, SignatureVerify, SignatureGetAlgorithm}
use Rattle.jc_platform.specs.declared.names.CiphersMethod.TheVariants.{SignatureGetMessageDigestAlgorithm, SignatureGetCipherAlgorithm}
use Rattle.jc_platform.specs.declared.names.CiphersMethod.TheVariants.{SignatureGetPaddingAlgorithm, SignatureGetLength}
use Rattle.jc_linker.specs.Values.{Packages}
use Rattle.jc_world.specs.NativeCalls.{NativeProgram}
use Rattle.jc_api.specs.Changing.{changing_call}
use Rattle.jc_api.specs.Factory.{factory_call}
use Rattle.jc_api.specs.Forms.{reading_call}
use Rattle.jc_api.specs.Initializing.{initializing_call}
use Rattle.jc_api_ciphers.specs.Cipher.{cipher_do_final, cipher_get_algorithm, cipher_get_cipher_algorithm, cipher_get_instance, cipher_get_instance_of_cipher_and_padding}
use Rattle.jc_api_ciphers.specs.Cipher.{cipher_get_padding_algorithm, cipher_init, cipher_init_with_vector, cipher_update}
use Rattle.jc_api_ciphers.specs.Signature.{signature_get_algorithm, signature_get_cipher_algorithm, signature_get_instance, signature_get_length}
use Rattle.jc_api_ciphers.specs.Signature.{signature_get_instance_of_digest_cipher_and_padding, signature_get_message_digest_algorithm}
use Rattle.jc_api_ciphers.specs.Signature.{signature_get_padding_algorithm, signature_init, signature_init_with_vector, signature_sign, signature_update, signature_verify}

-- what a call of a method of Cipher or Signature may do: what its answer says
unfoldable pub cipher_call : CiphersMethod → List Cell → Packages → MemoryState → NativeProgram
cipher_call CipherGetInstance args p m = factory_call (cipher_get_instance args) p m
cipher_call CipherGetInstanceOfCipherAndPadding args p m = factory_call (cipher_get_instance_of_cipher_and_padding args) p m
cipher_call CipherInit args p m = initializing_call (cipher_init args p m) args p m
cipher_call CipherInitWithVector args p m = initializing_call (cipher_init_with_vector args p m) args p m
cipher_call CipherUpdate args p m = changing_call (cipher_update args p m) p m
cipher_call CipherDoFinal args p m = changing_call (cipher_do_final args p m) p m
cipher_call CipherGetAlgorithm args p m = reading_call (cipher_get_algorithm args p m) p m
cipher_call CipherGetCipherAlgorithm args p m = reading_call (cipher_get_cipher_algorithm args p m) p m
cipher_call CipherGetPaddingAlgorithm args p m = reading_call (cipher_get_padding_algorithm args p m) p m
cipher_call SignatureGetInstance args p m = factory_call (signature_get_instance args) p m
cipher_call SignatureGetInstanceOfDigestCipherAndPadding args p m = factory_call (signature_get_instance_of_digest_cipher_and_padding args) p m
cipher_call SignatureInit args p m = initializing_call (signature_init args p m) args p m
cipher_call SignatureInitWithVector args p m = initializing_call (signature_init_with_vector args p m) args p m
cipher_call SignatureUpdate args p m = changing_call (signature_update args p m) p m
cipher_call SignatureSign args p m = changing_call (signature_sign args p m) p m
cipher_call SignatureVerify args p m = changing_call (signature_verify args p m) p m
cipher_call SignatureGetAlgorithm args p m = reading_call (signature_get_algorithm args p m) p m
cipher_call SignatureGetMessageDigestAlgorithm args p m = reading_call (signature_get_message_digest_algorithm args p m) p m
cipher_call SignatureGetCipherAlgorithm args p m = reading_call (signature_get_cipher_algorithm args p m) p m
cipher_call SignatureGetPaddingAlgorithm args p m = reading_call (signature_get_padding_algorithm args p m) p m
cipher_call SignatureGetLength args p m = reading_call (signature_get_length args p m) p m
