use Rattle.jc_ciphers.specs.Des.{schedule, encrypted}
use Rattle.jc_ciphers.proofs.DesHalves.{IsBits-schedule}
use Rattle.jc_ciphers.proofs.des.Des.encrypt.Goals as goal

pub returns : goal.returns
unfolding encrypted
returns c = c.crypted.ensures (schedule c.args.self.now.key 16) (IsBits-schedule c.args.self.now.key 16) c.args.self.now.scheduled
