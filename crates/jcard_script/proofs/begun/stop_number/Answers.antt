use Rattle.jcard_script.proofs.begun.stop_number.Goals as goal
