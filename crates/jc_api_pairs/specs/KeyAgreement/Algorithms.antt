-- The algorithms of KeyAgreement (API specification).
use Rattle.std.specs.Ordering.{int_eq}
use Rattle.std.specs.Prelude.{ℤ, pos, Bool, true, false, Option, Some, None, if◌then◌else◌}
use Rattle.jc_api_pairs.specs.declared.key_agreement.algorithms.AgreementAlgorithm.{AgreementAlgorithm}
use Rattle.jc_api_pairs.specs.declared.key_agreement.algorithms.Secret.{Secret}
use Rattle.jc_api_pairs.specs.declared.key_agreement.algorithms.Secret.TheVariants.{Hashed, Plain}

-- the algorithm by whether the multiple is by the cofactor too, and by what is made of the shared point
abbrev pub agreement_with : Bool → Secret → Option AgreementAlgorithm
agreement_with with_cofactor secret = Some (record { with_cofactor = with_cofactor; secret = secret })

-- ALG_EC_SVDP_DH and ALG_EC_SVDP_DHC, whose secret is SHA-1 of x; ALG_EC_SVDP_DH_PLAIN and ALG_EC_SVDP_DHC_PLAIN, whose secret is x
abbrev pub agreement_named : ℤ → Option AgreementAlgorithm
agreement_named v = if int_eq v (pos 1) then agreement_with false Hashed else
    if int_eq v (pos 2) then agreement_with true Hashed else
    if int_eq v (pos 3) then agreement_with false Plain else
    if int_eq v (pos 4) then agreement_with true Plain else None
