-- The Applet component.
use Rattle.std.specs.Prelude.{◌≡◌, ℕ, List, ◌∷◌, ◌++◌, length, Ok}
use Rattle.jc_cap.specs.Reading.{◌>>=◌, Field, u1_at, u2_at, aid_at, many_at}
use Rattle.jc_cap.specs.Grammar.{AreEncodedInTurn, IsU2, IsAid}

-- an applet: its AID, and where its install method begins in the Method component's info
pub record AppletNamed : Type 0 where
  pub aid : List ℕ
  pub install_method_offset : ℕ

unfoldable pub applet_at : List ℕ → Field AppletNamed
applet_at bytes = do
  aid ← aid_at bytes
  offset ← u2_at aid.1
  Ok (record { aid = aid.0; install_method_offset = offset.0 }, offset.1)

unfoldable pub applets_at : List ℕ → Field (List AppletNamed)
applets_at bytes = do
  count ← u1_at bytes
  many_at applet_at count.0 count.1

-- an AID, and two bytes of offset
abbrev pub IsApplet : AppletNamed → List ℕ → Type 0
IsApplet a text = (aid : List ℕ) × (offset : List ℕ) × IsAid a.aid aid × IsU2 a.install_method_offset offset × (text ≡ aid ++ offset)

-- a byte of count, and then the applets
abbrev pub IsApplets : List AppletNamed → List ℕ → Type 0
IsApplets xs text = (applets : List ℕ) × AreEncodedInTurn IsApplet xs applets × (text ≡ length xs ∷ applets)
