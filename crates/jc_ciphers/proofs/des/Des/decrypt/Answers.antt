use Rattle.jc_ciphers.specs.Des.{schedule, decrypted}
use Rattle.jc_ciphers.proofs.DesHalves.{IsBits-schedule}
use Rattle.jc_ciphers.proofs.des.Des.decrypt.Goals as goal

pub returns : goal.returns
unfolding decrypted
returns c = c.crypted.ensures (schedule c.args.self.now.key 16) (IsBits-schedule c.args.self.now.key 16) c.args.self.now.scheduled
