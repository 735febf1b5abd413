-- KeyBuilder and key objects: what their calls may do, all of which do what they answer.
use Rattle.std.proofs.Common.{ℕ, List}
use Rattle.jc_memory.specs.State.{MemoryState, Effect}
use Rattle.jc_platform.specs.declared.key_methods.EcKeysMethod.{EcKeysMethod}
use Rattle.jc_platform.specs.declared.names.KeysMethod.{KeysMethod}
use Rattle.jc_platform.specs.declared.key_methods.RsaKeysMethod.{RsaKeysMethod}
use Rattle.jc_platform.specs.declared.names.KeysMethod.TheVariants as keys
use Rattle.jc_platform.specs.declared.names.PlatformMethod.TheVariants as rooms
use Rattle.jc_linker.specs.Values.{Packages}
use Rattle.jc_frames.specs.declared.cell.Cell.{Cell}
use Rattle.jc_api.proofs.Due.{IsPlainCall}
use Rattle.jc_api.proofs.FactoryCalls.{factory_due}
use Rattle.jc_api.proofs.Forms.{reading_due}
use Rattle.jc_api.proofs.Passing.{CallPasses, RefersToNew}
use Rattle.jc_api_keys.specs.EcKeys.{ec_key_answer, ec_key_call}
use Rattle.jc_api_keys.specs.KeyBuilder.{key_builder_build_key}
use Rattle.jc_api_keys.specs.KeyObjects.{hmac_key_object_set_key, key_object_clear_key, key_object_get_key, key_object_get_size, key_object_get_type}
use Rattle.jc_api_keys.specs.KeyObjects.{key_object_is_initialized, key_object_set_key}
use Rattle.jc_api_keys.specs.Keys.{key_call}
use Rattle.jc_api_keys.specs.RsaKeys.{rsa_key_answer, rsa_key_call}
use Rattle.jc_api_keys.proofs.KeyClasses.{made_key}

module _ (P : Effect → MemoryState → Type 0) (L : MemoryState → ℕ → Type 0) (args : List Cell) (p : Packages) (m : MemoryState) (refers : RefersToNew L) where
  pub keys_due : (method : KeysMethod) → CallPasses P (rooms.Keys method) args p m → IsPlainCall P L (key_call method args p m) m
  unfolding key_call
  keys_due keys.KeyBuilderBuildKey pass = factory_due P L (rooms.Keys keys.KeyBuilderBuildKey) args p m pass refers (key_builder_build_key args p m)
      (made_key args p m)
  keys_due keys.KeyObjectClearKey pass = reading_due P L (rooms.Keys keys.KeyObjectClearKey) args p m pass (key_object_clear_key args p m)
  keys_due keys.KeyObjectGetSize pass = reading_due P L (rooms.Keys keys.KeyObjectGetSize) args p m pass (key_object_get_size args p m)
  keys_due keys.KeyObjectGetType pass = reading_due P L (rooms.Keys keys.KeyObjectGetType) args p m pass (key_object_get_type args p m)
  keys_due keys.KeyObjectIsInitialized pass = reading_due P L (rooms.Keys keys.KeyObjectIsInitialized) args p m pass (key_object_is_initialized args p m)
  keys_due keys.KeyObjectGetKey pass = reading_due P L (rooms.Keys keys.KeyObjectGetKey) args p m pass (key_object_get_key args p m)
  keys_due keys.KeyObjectSetKey pass = reading_due P L (rooms.Keys keys.KeyObjectSetKey) args p m pass (key_object_set_key args p m)
  keys_due keys.HmacKeyObjectSetKey pass = reading_due P L (rooms.Keys keys.HmacKeyObjectSetKey) args p m pass (hmac_key_object_set_key args p m)

  pub rsa_keys_due : (method : RsaKeysMethod) → CallPasses P (rooms.RsaKeys method) args p m → IsPlainCall P L (rsa_key_call method args p m) m
  unfolding rsa_key_call
  rsa_keys_due method pass = reading_due P L (rooms.RsaKeys method) args p m pass (rsa_key_answer method args p m)

  pub ec_keys_due : (method : EcKeysMethod) → CallPasses P (rooms.EcKeys method) args p m → IsPlainCall P L (ec_key_call method args p m) m
  unfolding ec_key_call
  ec_keys_due method pass = reading_due P L (rooms.EcKeys method) args p m pass (ec_key_answer method args p m)
