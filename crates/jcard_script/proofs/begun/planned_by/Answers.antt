use Rattle.jcard_script.proofs.begun.planned_by.Goals as goal
