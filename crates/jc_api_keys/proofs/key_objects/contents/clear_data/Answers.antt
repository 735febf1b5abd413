use Rattle.std.proofs.Common.{List, ℕ, Ok, subst}
use Rattle.std.proofs.lemmas.List.{take-replicate}
use Rattle.jc_memory.specs.Programs.{Executes}
use Rattle.jc_world.specs.NativeCalls.{after_call}
use Rattle.jc_api.specs.Forms.{reading_call}
use Rattle.jc_api_keys.specs.KeyObjects.Contents.{sets_data}
use Rattle.jc_api_keys.proofs.key_objects.contents.clear_data.Goals as goal

-- the first of these zeros are as many zeros
pub returns : goal.returns
returns g c =
    let m = c.args.memory.now in
    let key = c.args.key.now in
    subst (λ (bytes : List ℕ). Executes (reading_call (Ok (sets_data key bytes)) c.args.linked.now m) m
    (after_call c.set_data.result c.set_data.new.memory)) (take-replicate key.elements.count 1290 0 c.requires.few) c.set_data.ensures
