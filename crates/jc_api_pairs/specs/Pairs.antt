-- The calls of KeyPair and KeyAgreement.
use Rattle.std.specs.Prelude.{List}
use Rattle.jc_frames.specs.declared.cell.Cell.{Cell}
use Rattle.jc_memory.specs.State.{MemoryState}
use Rattle.jc_platform.specs.declared.key_methods.KeyPairsMethod.{KeyPairsMethod}
use Rattle.jc_platform.specs.declared.key_methods.KeyPairsMethod.TheVariants.{KeyPairInit, KeyPairInitOfKeys, KeyPairGenKeyPair, KeyPairGetPublic, KeyPairGetPrivate}
use Rattle.jc_platform.specs.declared.key_methods.KeyPairsMethod.TheVariants.{KeyAgreementGetInstance, KeyAgreementInit, KeyAgreementGenerateSecret}
use Rattle.jc_platform.specs.declared.key_methods.KeyPairsMethod.TheVariants.{KeyAgreementGetAlgorithm}
use Rattle.jc_platform.specs.declared.names.PlatformClass.TheVariants as class
use Rattle.jc_linker.specs.Values.{Packages}
use Rattle.jc_world.specs.NativeCalls.{NativeProgram}
use Rattle.jc_api.specs.Factory.{factory_call}
use Rattle.jc_api.specs.Forms.{reading_call}
use Rattle.jc_api.specs.Initializing.{initializing_call}
use Rattle.jc_api.specs.Keeping.{keeping_call}
use Rattle.jc_api.specs.Pairing.{pairing_call}
use Rattle.jc_api_pairs.specs.KeyAgreement.{key_agreement_generate_secret, key_agreement_get_algorithm, key_agreement_get_instance, key_agreement_init}
use Rattle.jc_api_pairs.specs.KeyPair.{key_pair_gen_key_pair, key_pair_init, key_pair_init_of_keys}
use Rattle.jc_api_pairs.specs.KeyPair.Changes.{generating_call}
use Rattle.jc_api_pairs.specs.KeyPair.Keys.{private_cell, public_cell}

-- what a call of a method of KeyPair or KeyAgreement may do: what its answer says
unfoldable pub pair_call : KeyPairsMethod → List Cell → Packages → MemoryState → NativeProgram
pair_call KeyPairInit args p m = pairing_call (key_pair_init args p m) args p m
pair_call KeyPairInitOfKeys args p m = pairing_call (key_pair_init_of_keys args p m) args p m
pair_call KeyPairGenKeyPair args p m = generating_call (key_pair_gen_key_pair args p m) args p m
pair_call KeyPairGetPublic args p m = keeping_call class.KeyPair public_cell args p m
pair_call KeyPairGetPrivate args p m = keeping_call class.KeyPair private_cell args p m
pair_call KeyAgreementGetInstance args p m = factory_call (key_agreement_get_instance args) p m
pair_call KeyAgreementInit args p m = initializing_call (key_agreement_init args p m) args p m
pair_call KeyAgreementGenerateSecret args p m = reading_call (key_agreement_generate_secret args p m) p m
pair_call KeyAgreementGetAlgorithm args p m = reading_call (key_agreement_get_algorithm args p m) p m
