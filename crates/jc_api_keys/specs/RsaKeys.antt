-- The calls of RSA keys (API specification): RSAPublicKey, RSAPrivateKey and RSAPrivateCrtKey.
use Rattle.std.specs.Prelude.{List, Result}
use Rattle.jc_frames.specs.declared.cell.Cell.{Cell}
use Rattle.jc_frames.specs.declared.outcome.FrameExit.{FrameExit}
use Rattle.jc_memory.specs.State.{MemoryState}
use Rattle.jc_platform.specs.declared.key_methods.RsaKeysMethod.{RsaKeysMethod}
use Rattle.jc_platform.specs.declared.key_methods.RsaKeysMethod.TheVariants.{RsaKeyObjectSetModulus, RsaKeyObjectSetExponent, RsaKeyObjectGetModulus}
use Rattle.jc_platform.specs.declared.key_methods.RsaKeysMethod.TheVariants.{RsaKeyObjectGetExponent, RsaPrivateCrtKeyObjectSetP, RsaPrivateCrtKeyObjectSetQ}
use Rattle.jc_platform.specs.declared.key_methods.RsaKeysMethod.TheVariants.{RsaPrivateCrtKeyObjectSetDp1, RsaPrivateCrtKeyObjectSetDq1, RsaPrivateCrtKeyObjectSetPq}
use Rattle.jc_platform.specs.declared.key_methods.RsaKeysMethod.TheVariants.{RsaPrivateCrtKeyObjectGetP, RsaPrivateCrtKeyObjectGetQ, RsaPrivateCrtKeyObjectGetDp1}
use Rattle.jc_platform.specs.declared.key_methods.RsaKeysMethod.TheVariants.{RsaPrivateCrtKeyObjectGetDq1, RsaPrivateCrtKeyObjectGetPq}
use Rattle.jc_linker.specs.Values.{Packages}
use Rattle.jc_world.specs.NativeCalls.{NativeProgram}
use Rattle.jc_api.specs.Forms.{CallAnswer, reading_call}
use Rattle.jc_api_keys.specs.KeyObjects.Parts.{get_part, set_part}
use Rattle.jc_api_keys.specs.declared.key_parts.KeyPart.TheVariants as part

-- what a call of a method of an RSA key answers
abbrev pub rsa_key_answer : RsaKeysMethod → List Cell → Packages → MemoryState → Result CallAnswer FrameExit
rsa_key_answer RsaKeyObjectSetModulus args p m = set_part part.Modulus args p m
rsa_key_answer RsaKeyObjectSetExponent args p m = set_part part.Exponent args p m
rsa_key_answer RsaKeyObjectGetModulus args p m = get_part part.Modulus args p m
rsa_key_answer RsaKeyObjectGetExponent args p m = get_part part.Exponent args p m
rsa_key_answer RsaPrivateCrtKeyObjectSetP args p m = set_part part.P args p m
rsa_key_answer RsaPrivateCrtKeyObjectSetQ args p m = set_part part.Q args p m
rsa_key_answer RsaPrivateCrtKeyObjectSetDp1 args p m = set_part part.Dp1 args p m
rsa_key_answer RsaPrivateCrtKeyObjectSetDq1 args p m = set_part part.Dq1 args p m
rsa_key_answer RsaPrivateCrtKeyObjectSetPq args p m = set_part part.Pq args p m
rsa_key_answer RsaPrivateCrtKeyObjectGetP args p m = get_part part.P args p m
rsa_key_answer RsaPrivateCrtKeyObjectGetQ args p m = get_part part.Q args p m
rsa_key_answer RsaPrivateCrtKeyObjectGetDp1 args p m = get_part part.Dp1 args p m
rsa_key_answer RsaPrivateCrtKeyObjectGetDq1 args p m = get_part part.Dq1 args p m
rsa_key_answer RsaPrivateCrtKeyObjectGetPq args p m = get_part part.Pq args p m

-- what it may do
unfoldable pub rsa_key_call : RsaKeysMethod → List Cell → Packages → MemoryState → NativeProgram
rsa_key_call method args p m = reading_call (rsa_key_answer method args p m) p m
