-- Sessions that arm no fuse, and that are answered down once.
use Rattle.std.specs.Prelude.{◌≡◌, List, [], ◌∷◌, ◌++◌}
use Rattle.jc_card.specs.Session.Requests.{Request, Command, Reset, ArmFuse, PlanFault, Reply, Down}
use Rattle.jc_card.specs.State.Power.{PowerState}
use Rattle.jc_card.specs.Session.Serving.{Serves, SessionRun}

-- it arms no fuse
abbrev pub ArmsNone : Request → Type 0
ArmsNone (Command bytes) = Unit {0}
ArmsNone Reset = Unit {0}
ArmsNone (ArmFuse k) = ⊥
ArmsNone (PlanFault fault) = Unit {0}

-- none of these requests does
abbrev pub ArmNone : List Request → Type 0
ArmNone [] = Unit {0}
ArmNone (request ∷ more) = ArmsNone request × ArmNone more

-- these requests are served, and one of them is answered down
pub record RunWithDown (requests : List Request) (replies : List Reply) (s last : PowerState) : Type 0 where
  pub before : List Request
  pub request : Request
  pub after : List Request
  pub first : List Reply
  pub rest : List Reply
  pub mid : PowerState
  pub next : PowerState
  pub are : requests ≡ before ++ request ∷ after
  pub are_told : replies ≡ first ++ Down ∷ rest
  pub up : SessionRun s before first mid
  pub one : Serves mid request Down next
  pub behind : SessionRun next after rest last
