-- What commands rest on is proved.
use Rattle.law_soundness.proofs.StepLaws.{runs_are_sound}
use Rattle.law_soundness.specs.MachineLaws.Commands.{CommandsAreSound}
use Rattle.law_soundness.proofs.Commands.{commands_sound}

pub commands_are_sound : CommandsAreSound
commands_are_sound = commands_sound runs_are_sound
