-- What steps and runs rest on is proved.
use Rattle.law_soundness.proofs.Effects.{keeps_sound}
use Rattle.law_soundness.proofs.Environment.{keeps_environment}
use Rattle.law_soundness.proofs.Natives.{natives_leave}
use Rattle.law_soundness.proofs.LocalEffects.{calm_stays}
use Rattle.law_soundness.proofs.Instructions.{instructions_are_fit}
use Rattle.law_soundness.specs.MachineLaws.Soundness.{RunsAreSound}
use Rattle.law_soundness.proofs.Machines.{Given}
use Rattle.law_soundness.proofs.StepsAndRuns.{runs_sound}

pub given : Given
given = record {
  sound = keeps_sound;
  environment = keeps_environment;
  stays = calm_stays;
  instructions = instructions_are_fit;
  natives = natives_leave;
}

pub runs_are_sound : RunsAreSound
runs_are_sound = runs_sound given
