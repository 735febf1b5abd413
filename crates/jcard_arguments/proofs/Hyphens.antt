-- Words that are no flags.
use Rattle.std.proofs.Common.{◌≡◌, ℕ, false, ◌∷◌, ap, Some}
use Rattle.std.specs.Prelude.{nat_eq}
use Rattle.std.proofs.lemmas.Bool.{ne_eqb}
use Rattle.clap.specs.Words.{Text}
use Rattle.jcard_arguments.specs.Arguments.{IsNoFlag}

pub no_hyphen : (x : ℕ) (xs : Text) → IsNoFlag (x ∷ xs) → nat_eq x 45 ≡ false
no_hyphen x xs h = ne_eqb x 45 (λ e. h (ap Some e))
