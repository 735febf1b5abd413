-- What a call of a method of the platform may do.
use Rattle.std.specs.Prelude.{List}
use Rattle.jc_frames.specs.declared.cell.Cell.{Cell}
use Rattle.jc_memory.specs.State.{MemoryState}
use Rattle.jc_platform.specs.declared.names.PlatformMethod.{PlatformMethod}
use Rattle.jc_platform.specs.declared.names.PlatformMethod.TheVariants.{Objects, Exceptions, Utilities, System, Aids, Pins, Applets, Apdus, Events, Engines}
use Rattle.jc_platform.specs.declared.names.PlatformMethod.TheVariants.{Keys, KeyInterfaces, Ciphers}
use Rattle.jc_platform.specs.declared.names.PlatformMethod.TheVariants.{RsaKeys, EcKeys, RsaInterfaces, EcInterfaces, KeyPairs}
use Rattle.jc_linker.specs.Values.{Packages}
use Rattle.jc_world.specs.NativeCalls.{NativeProgram, code_fault}
use Rattle.jc_api_ciphers.specs.Ciphers.{cipher_call}
use Rattle.jc_api_crypto.specs.Engines.{engine_call}
use Rattle.jc_api_keys.specs.EcKeys.{ec_key_call}
use Rattle.jc_api_keys.specs.Keys.{key_call}
use Rattle.jc_api_keys.specs.RsaKeys.{rsa_key_call}
use Rattle.jc_api_pairs.specs.Pairs.{pair_call}
use Rattle.jc_api_framework.specs.Aid.{aid_call}
use Rattle.jc_api_framework.specs.Applet.{applet_call}
use Rattle.jc_api_framework.specs.Apdu.{apdu_call}
use Rattle.jc_api_framework.specs.OwnerPin.{pin_call}
use Rattle.jc_api_framework.specs.System.{system_call}
use Rattle.jc_api_framework.specs.Events.{event_call}
use Rattle.jc_api_framework.specs.Exceptions.{exception_call}
use Rattle.jc_api_framework.specs.Objects.{object_call}
use Rattle.jc_api_framework.specs.Util.{util_call}

-- by the room that has the method, with these arguments, the receiver first; the interfaces of keys have no code
unfoldable pub native_call : PlatformMethod → List Cell → Packages → MemoryState → NativeProgram
native_call (Objects method) args p m = object_call method args
native_call (Exceptions method) args p m = exception_call method args m
native_call (Utilities method) args p m = util_call method args p m
native_call (System method) args p m = system_call method args p m
native_call (Aids method) args p m = aid_call method args p m
native_call (Pins method) args p m = pin_call method args p m
native_call (Applets method) args p m = applet_call method args p m
native_call (Apdus method) args p m = apdu_call method args p m
native_call (Events method) args p m = event_call method
native_call (Engines method) args p m = engine_call method args p m
native_call (Keys method) args p m = key_call method args p m
native_call (KeyInterfaces method) args p m = code_fault
native_call (Ciphers method) args p m = cipher_call method args p m
native_call (RsaKeys method) args p m = rsa_key_call method args p m
native_call (EcKeys method) args p m = ec_key_call method args p m
native_call (RsaInterfaces method) args p m = code_fault
native_call (EcInterfaces method) args p m = code_fault
native_call (KeyPairs method) args p m = pair_call method args p m
