-- The calls of KeyBuilder and of key objects.
use Rattle.std.specs.Prelude.{List}
use Rattle.jc_frames.specs.declared.cell.Cell.{Cell}
use Rattle.jc_memory.specs.State.{MemoryState}
use Rattle.jc_platform.specs.declared.names.KeysMethod.{KeysMethod}
use Rattle.jc_platform.specs.declared.names.KeysMethod.TheVariants.{HmacKeyObjectSetKey, KeyBuilderBuildKey, KeyObjectClearKey, KeyObjectGetKey}
use Rattle.jc_platform.specs.declared.names.KeysMethod.TheVariants.{KeyObjectGetSize, KeyObjectGetType, KeyObjectIsInitialized, KeyObjectSetKey}
use Rattle.jc_linker.specs.Values.{Packages}
use Rattle.jc_world.specs.NativeCalls.{NativeProgram}
use Rattle.jc_api.specs.Factory.{factory_call}
use Rattle.jc_api.specs.Forms.{reading_call}
use Rattle.jc_api_keys.specs.KeyBuilder.{key_builder_build_key}
use Rattle.jc_api_keys.specs.KeyObjects.{hmac_key_object_set_key, key_object_clear_key, key_object_get_key, key_object_get_size, key_object_get_type}
use Rattle.jc_api_keys.specs.KeyObjects.{key_object_is_initialized, key_object_set_key}

-- what a call of a method of KeyBuilder or of a key object may do: what its answer says
unfoldable pub key_call : KeysMethod → List Cell → Packages → MemoryState → NativeProgram
key_call KeyBuilderBuildKey args p m = factory_call (key_builder_build_key args p m) p m
key_call KeyObjectClearKey args p m = reading_call (key_object_clear_key args p m) p m
key_call KeyObjectGetSize args p m = reading_call (key_object_get_size args p m) p m
key_call KeyObjectGetType args p m = reading_call (key_object_get_type args p m) p m
key_call KeyObjectIsInitialized args p m = reading_call (key_object_is_initialized args p m) p m
key_call KeyObjectGetKey args p m = reading_call (key_object_get_key args p m) p m
key_call KeyObjectSetKey args p m = reading_call (key_object_set_key args p m) p m
key_call HmacKeyObjectSetKey args p m = reading_call (hmac_key_object_set_key args p m) p m
