-- javacard.security: what its calls may do, all of which do what they answer.
use Rattle.std.proofs.Common.{ℕ, List}
use Rattle.jc_memory.specs.State.{MemoryState, Effect}
use Rattle.jc_platform.specs.declared.names.EnginesMethod.{EnginesMethod}
use Rattle.jc_platform.specs.declared.names.EnginesMethod.TheVariants as engines
use Rattle.jc_platform.specs.declared.names.PlatformMethod.TheVariants as rooms
use Rattle.jc_linker.specs.Values.{Packages}
use Rattle.jc_frames.specs.declared.cell.Cell.{Cell}
use Rattle.jc_api.proofs.ChangingCalls.{changing_due}
use Rattle.jc_api.proofs.Due.{IsPlainCall}
use Rattle.jc_api.proofs.FactoryCalls.{factory_due}
use Rattle.jc_api.proofs.Forms.{reading_due}
use Rattle.jc_api.proofs.Passing.{CallPasses, RefersToNew}
use Rattle.jc_api_crypto.specs.Checksum.{checksum_do_final, checksum_get_algorithm, checksum_get_instance, checksum_init, checksum_update}
use Rattle.jc_api_crypto.specs.Engines.{engine_call}
use Rattle.jc_api_crypto.specs.InitializedMessageDigest.{initialized_message_digest_set_initial_digest}
use Rattle.jc_api_crypto.specs.MessageDigest.{message_digest_do_final, message_digest_get_algorithm, message_digest_get_initialized_message_digest_instance}
use Rattle.jc_api_crypto.specs.MessageDigest.{message_digest_get_instance, message_digest_get_length, message_digest_reset, message_digest_update}
use Rattle.jc_api_crypto.specs.RandomData.{random_data_generate_data, random_data_get_algorithm, random_data_get_instance, random_data_next_bytes}
use Rattle.jc_api_crypto.specs.RandomData.{random_data_set_seed}
use Rattle.jc_api_crypto.proofs.Classes.{made_checksum, made_digest, made_initialized_digest, made_random}

module _ (P : Effect → MemoryState → Type 0) (L : MemoryState → ℕ → Type 0) (args : List Cell) (p : Packages) (m : MemoryState) (refers : RefersToNew L) where
  pub engines_due : (method : EnginesMethod) → CallPasses P (rooms.Engines method) args p m → IsPlainCall P L (engine_call method args p m) m
  unfolding engine_call
  engines_due engines.MessageDigestGetInstance pass = factory_due P L (rooms.Engines engines.MessageDigestGetInstance) args p m pass refers
      (message_digest_get_instance args) (made_digest args)
  engines_due engines.MessageDigestGetAlgorithm pass = reading_due P L (rooms.Engines engines.MessageDigestGetAlgorithm) args p m pass
      (message_digest_get_algorithm args p m)
  engines_due engines.MessageDigestGetLength pass = reading_due P L (rooms.Engines engines.MessageDigestGetLength) args p m pass
      (message_digest_get_length args p m)
  engines_due engines.MessageDigestUpdate pass = changing_due P L (rooms.Engines engines.MessageDigestUpdate) args p m pass
      (message_digest_update args p m)
  engines_due engines.MessageDigestDoFinal pass = changing_due P L (rooms.Engines engines.MessageDigestDoFinal) args p m pass
      (message_digest_do_final args p m)
  engines_due engines.MessageDigestReset pass = changing_due P L (rooms.Engines engines.MessageDigestReset) args p m pass (message_digest_reset args p m)
  engines_due engines.MessageDigestGetInitializedMessageDigestInstance pass = factory_due P L
      (rooms.Engines engines.MessageDigestGetInitializedMessageDigestInstance) args p m pass refers
      (message_digest_get_initialized_message_digest_instance args) (made_initialized_digest args)
  engines_due engines.ChecksumGetInstance pass = factory_due P L (rooms.Engines engines.ChecksumGetInstance) args p m pass refers
      (checksum_get_instance args) (made_checksum args)
  engines_due engines.ChecksumGetAlgorithm pass = reading_due P L (rooms.Engines engines.ChecksumGetAlgorithm) args p m pass
      (checksum_get_algorithm args p m)
  engines_due engines.ChecksumInit pass = changing_due P L (rooms.Engines engines.ChecksumInit) args p m pass (checksum_init args p m)
  engines_due engines.ChecksumUpdate pass = changing_due P L (rooms.Engines engines.ChecksumUpdate) args p m pass (checksum_update args p m)
  engines_due engines.ChecksumDoFinal pass = changing_due P L (rooms.Engines engines.ChecksumDoFinal) args p m pass (checksum_do_final args p m)
  engines_due engines.RandomDataGetInstance pass = factory_due P L (rooms.Engines engines.RandomDataGetInstance) args p m pass refers
      (random_data_get_instance args) (made_random args)
  engines_due engines.RandomDataGenerateData pass = changing_due P L (rooms.Engines engines.RandomDataGenerateData) args p m pass
      (random_data_generate_data args p m)
  engines_due engines.RandomDataNextBytes pass = changing_due P L (rooms.Engines engines.RandomDataNextBytes) args p m pass
      (random_data_next_bytes args p m)
  engines_due engines.RandomDataSetSeed pass = changing_due P L (rooms.Engines engines.RandomDataSetSeed) args p m pass (random_data_set_seed args p m)
  engines_due engines.RandomDataGetAlgorithm pass = reading_due P L (rooms.Engines engines.RandomDataGetAlgorithm) args p m pass
      (random_data_get_algorithm args p m)
  engines_due engines.InitializedMessageDigestSetInitialDigest pass = changing_due P L
      (rooms.Engines engines.InitializedMessageDigestSetInitialDigest) args p m pass (initialized_message_digest_set_initial_digest args p m)
