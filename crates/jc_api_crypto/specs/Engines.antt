-- The calls of javacard.security.
use Rattle.std.specs.Prelude.{List}
use Rattle.jc_frames.specs.declared.cell.Cell.{Cell}
use Rattle.jc_memory.specs.State.{MemoryState}
use Rattle.jc_platform.specs.declared.names.EnginesMethod.{EnginesMethod}
use Rattle.jc_platform.specs.declared.names.EnginesMethod.TheVariants.{MessageDigestGetInstance}
use Rattle.jc_platform.specs.declared.names.EnginesMethod.TheVariants.{MessageDigestGetAlgorithm, MessageDigestGetLength, MessageDigestUpdate}
use Rattle.jc_platform.specs.declared.names.EnginesMethod.TheVariants.{MessageDigestDoFinal, MessageDigestReset}
use Rattle.jc_platform.specs.declared.names.EnginesMethod.TheVariants.{ChecksumGetInstance, ChecksumGetAlgorithm, ChecksumInit, ChecksumUpdate}
use Rattle.jc_platform.specs.declared.names.EnginesMethod.TheVariants.{ChecksumDoFinal, RandomDataGetInstance, RandomDataGenerateData, RandomDataNextBytes}
use Rattle.jc_platform.specs.declared.names.EnginesMethod.TheVariants.{RandomDataSetSeed, RandomDataGetAlgorithm}
use Rattle.jc_platform.specs.declared.names.EnginesMethod.TheVariants.{MessageDigestGetInitializedMessageDigestInstance}
use Rattle.jc_platform.specs.declared.names.EnginesMethod.TheVariants.{InitializedMessageDigestSetInitialDigest}
use Rattle.jc_linker.specs.Values.{Packages}
use Rattle.jc_world.specs.NativeCalls.{NativeProgram}
use Rattle.jc_api.specs.Changing.{changing_call}
use Rattle.jc_api.specs.Factory.{factory_call}
use Rattle.jc_api.specs.Forms.{reading_call}
use Rattle.jc_api_crypto.specs.Checksum.{checksum_do_final, checksum_get_algorithm, checksum_get_instance, checksum_init, checksum_update}
use Rattle.jc_api_crypto.specs.InitializedMessageDigest.{initialized_message_digest_set_initial_digest}
use Rattle.jc_api_crypto.specs.MessageDigest.{message_digest_do_final, message_digest_get_algorithm, message_digest_get_initialized_message_digest_instance}
use Rattle.jc_api_crypto.specs.MessageDigest.{message_digest_get_instance, message_digest_get_length, message_digest_reset, message_digest_update}
use Rattle.jc_api_crypto.specs.RandomData.{random_data_generate_data, random_data_get_algorithm, random_data_get_instance, random_data_next_bytes}
use Rattle.jc_api_crypto.specs.RandomData.{random_data_set_seed}

-- what a call of a method of javacard.security may do: what its answer says
unfoldable pub engine_call : EnginesMethod → List Cell → Packages → MemoryState → NativeProgram
engine_call MessageDigestGetInstance args p m = factory_call (message_digest_get_instance args) p m
engine_call MessageDigestGetAlgorithm args p m = reading_call (message_digest_get_algorithm args p m) p m
engine_call MessageDigestGetLength args p m = reading_call (message_digest_get_length args p m) p m
engine_call MessageDigestUpdate args p m = changing_call (message_digest_update args p m) p m
engine_call MessageDigestDoFinal args p m = changing_call (message_digest_do_final args p m) p m
engine_call MessageDigestReset args p m = changing_call (message_digest_reset args p m) p m
engine_call MessageDigestGetInitializedMessageDigestInstance args p m = factory_call (message_digest_get_initialized_message_digest_instance args) p m
engine_call ChecksumGetInstance args p m = factory_call (checksum_get_instance args) p m
engine_call ChecksumGetAlgorithm args p m = reading_call (checksum_get_algorithm args p m) p m
engine_call ChecksumInit args p m = changing_call (checksum_init args p m) p m
engine_call ChecksumUpdate args p m = changing_call (checksum_update args p m) p m
engine_call ChecksumDoFinal args p m = changing_call (checksum_do_final args p m) p m
engine_call RandomDataGetInstance args p m = factory_call (random_data_get_instance args) p m
engine_call RandomDataGenerateData args p m = changing_call (random_data_generate_data args p m) p m
engine_call RandomDataNextBytes args p m = changing_call (random_data_next_bytes args p m) p m
engine_call RandomDataSetSeed args p m = changing_call (random_data_set_seed args p m) p m
engine_call RandomDataGetAlgorithm args p m = reading_call (random_data_get_algorithm args p m) p m
engine_call InitializedMessageDigestSetInitialDigest args p m = changing_call (initialized_message_digest_set_initial_digest args p m) p m
