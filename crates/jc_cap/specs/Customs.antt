-- The custom components that a Directory component names.
use Rattle.std.specs.Prelude.{◌≡◌, ◌≤◌, ℕ, List, ◌∷◌, ◌++◌, Ok, Err, nat_lt, if◌then◌else◌}
use Rattle.jc_cap.specs.declared.fault.CapFault.TheVariants.{BadOffset}
use Rattle.jc_cap.specs.Reading.{◌>>=◌, Field, u1_at, u2_at, aid_at}
use Rattle.jc_cap.specs.Grammar.{IsU2, IsAid}
use Rattle.jc_cap.specs.Tags.{first_custom_tag}

-- a custom component: its tag, its size and its AID
pub record CustomNamed : Type 0 where
  pub tag : ℕ
  pub size : ℕ
  pub aid : List ℕ

unfoldable pub custom_at : List ℕ → Field CustomNamed
custom_at bytes = do
  tag ← u1_at bytes
  if nat_lt tag.0 first_custom_tag then Err BadOffset else (do
    size ← u2_at tag.1
    aid ← aid_at size.1
    Ok (record { tag = tag.0; size = size.0; aid = aid.0 }, aid.1))

-- a custom component's tag, two bytes of size, an AID
abbrev pub IsCustom : CustomNamed → List ℕ → Type 0
IsCustom c text = (size : List ℕ) × (aid : List ℕ) × (first_custom_tag ≤ c.tag) × IsU2 c.size size × IsAid c.aid aid × (text ≡ c.tag ∷ (size ++ aid))
