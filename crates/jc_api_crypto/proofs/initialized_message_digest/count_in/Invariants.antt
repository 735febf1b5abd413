use Rattle.std.proofs.Common.{◌≡◌}
use Rattle.jc_api_crypto.specs.InitializedMessageDigest.{first_number}
use Rattle.jc_api_crypto.proofs.initialized_message_digest.count_in.Given as goal

abbrev pub invariant-bytes : goal.invariant-bytes
invariant-bytes l = l.count ≡ first_number l.bytes l.i
