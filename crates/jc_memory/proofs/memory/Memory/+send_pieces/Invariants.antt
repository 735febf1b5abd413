-- how many bytes are left
use Rattle.jc_memory.proofs.memory.Memory.+send_pieces.Given as goal

abbrev pub decreases-send_pieces : goal.decreases-send_pieces
decreases-send_pieces g l = l.count
