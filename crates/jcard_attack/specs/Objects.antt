-- What is reported of objects, where it is asked for.
use Rattle.std.specs.Prelude.{◌≡◌, Option}
use Rattle.jc_card.specs.declared.power_up.PowerFault.TheVariants.{BadPackage}
use Rattle.jc_objects.specs.declared.image_objects.ImageObjects.{ImageObjects}
use Rattle.jcard_script.specs.declared.script.ScriptFault.TheVariants.{PowerFault}
use Rattle.jcard_sweeps.specs.Report.{IsTold}
use Rattle.jcard_attack.specs.declared.aftermaths.AttackFault.{AttackFault}
use Rattle.jcard_attack.specs.declared.aftermaths.AttackFault.TheVariants.{NoMemory, Probe}
use Rattle.jcard_attack.specs.declared.outcomes.Aftermath.{Aftermath}

-- why objects were not read: memory was refused, or what stands in the image is bad
abbrev pub IsObjectsFault : AttackFault → Type 0
IsObjectsFault NoMemory = Unit {0}
IsObjectsFault (Probe fault) = fault ≡ PowerFault BadPackage
IsObjectsFault other = ⊥

-- what a command came to is reported so: its answers are those of the probe and then, where these objects stood before, what changed
abbrev pub IsAftermathTold : Option ImageObjects → Aftermath → Aftermath → Type 0
IsAftermathTold objects a told = (told.answer.items ≡ a.answer.items) × (told.left.words.items ≡ a.left.words.items)
    × IsTold objects a.left told.left.answers.items
