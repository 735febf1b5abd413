-- KeyPair and KeyAgreement: what their calls may do, all of which do what they answer.
use Rattle.std.proofs.Common.{ℕ, List, refl, subst, arith}
use Rattle.jc_memory.specs.State.{MemoryState, Effect}
use Rattle.jc_platform.specs.Names.{key_pairs_rows}
use Rattle.jc_platform.specs.Signatures.{sets_receiver}
use Rattle.jc_platform.specs.declared.key_methods.KeyPairsMethod.{KeyPairsMethod}
use Rattle.jc_platform.specs.declared.key_methods.KeyPairsMethod.TheVariants as pairs
use Rattle.jc_platform.specs.declared.names.PlatformClass.TheVariants.{KeyPair}
use Rattle.jc_platform.specs.declared.names.PlatformMethod.TheVariants as rooms
use Rattle.jc_linker.specs.Values.{Packages}
use Rattle.jc_frames.specs.declared.cell.Cell.{Cell}
use Rattle.jc_api.proofs.Due.{IsPlainCall}
use Rattle.jc_api.proofs.FactoryCalls.{factory_due}
use Rattle.jc_api.proofs.Forms.{reading_due}
use Rattle.jc_api.proofs.InitializingCalls.{initializing_due}
use Rattle.jc_api_pairs.proofs.PairingCalls.{PairsSo, keeping_due, pairing_due}
use Rattle.jc_api.proofs.Passing.{CallPasses, RefersToNew}
use Rattle.jc_api.proofs.Plain.{plainly_ok}
use Rattle.jc_api.specs.Pairing.{HasStateIfNew}
use Rattle.jc_api.specs.declared.pairing.NewPair.{NewPair}
use Rattle.jc_api_pairs.specs.KeyAgreement.{key_agreement_generate_secret, key_agreement_get_algorithm, key_agreement_get_instance, key_agreement_init}
use Rattle.jc_api_pairs.specs.KeyPair.{key_pair_gen_key_pair, key_pair_init, key_pair_init_of_keys}
use Rattle.jc_api_pairs.specs.KeyPair.Keys.{private_cell, public_cell}
use Rattle.jc_api_pairs.specs.Pairs.{pair_call}
use Rattle.jc_api_pairs.proofs.KeyAgreementClasses.{fits_init, made_agreement}
use Rattle.jc_api_pairs.proofs.KeyPairClasses.{given_pair, made_pair}
use Rattle.jc_api_pairs.proofs.PairPasses.{PairPasses, generating_due}

module _ (P : Effect → MemoryState → Type 0) (L : MemoryState → ℕ → Type 0) (args : List Cell) (p : Packages) (m : MemoryState) (refers : RefersToNew L) where
  pub pairs_due : (method : KeyPairsMethod) → CallPasses P (rooms.KeyPairs method) args p m → PairPasses P L (rooms.KeyPairs method) args p m
      → IsPlainCall P L (pair_call method args p m) m
  unfolding pair_call sets_receiver key_pairs_rows
  pairs_due pairs.KeyPairInit pass pair = pairing_due P L args p m (key_pair_init args p m) (λ a fine.
      let made = made_pair args p m a (plainly_ok (key_pair_init args p m) a fine) in
      subst (λ (x : NewPair). HasStateIfNew x.first × HasStateIfNew x.second × PairsSo P args p x m) made.is
      (made.public_state, made.private_state, pair.new refl made.public made.private))
  pairs_due pairs.KeyPairInitOfKeys pass pair = pairing_due P L args p m (key_pair_init_of_keys args p m) (λ a fine.
      subst (λ (x : NewPair). HasStateIfNew x.first × HasStateIfNew x.second × PairsSo P args p x m)
      (given_pair args p m a (plainly_ok (key_pair_init_of_keys args p m) a fine)) (tt, tt, pair.given refl))
  pairs_due pairs.KeyPairGenKeyPair pass pair = generating_due P L (rooms.KeyPairs pairs.KeyPairGenKeyPair) args p m pair (key_pair_gen_key_pair args p m)
  pairs_due pairs.KeyPairGetPublic pass pair = keeping_due P L args p m KeyPair public_cell (λ own is event. pair.keys 0 own (omega arith) is event)
  pairs_due pairs.KeyPairGetPrivate pass pair = keeping_due P L args p m KeyPair private_cell (λ own is event. pair.keys 1 own (omega arith) is event)
  pairs_due pairs.KeyAgreementGetInstance pass pair = factory_due P L (rooms.KeyPairs pairs.KeyAgreementGetInstance) args p m pass refers
      (key_agreement_get_instance args) (made_agreement args)
  pairs_due pairs.KeyAgreementInit pass pair = initializing_due P L (rooms.KeyPairs pairs.KeyAgreementInit) args p m pass refl (key_agreement_init args p m)
      (fits_init args p m)
  pairs_due pairs.KeyAgreementGenerateSecret pass pair = reading_due P L (rooms.KeyPairs pairs.KeyAgreementGenerateSecret) args p m pass
      (key_agreement_generate_secret args p m)
  pairs_due pairs.KeyAgreementGetAlgorithm pass pair = reading_due P L (rooms.KeyPairs pairs.KeyAgreementGetAlgorithm) args p m pass
      (key_agreement_get_algorithm args p m)
