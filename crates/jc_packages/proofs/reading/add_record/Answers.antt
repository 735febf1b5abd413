use Rattle.jc_heap.specs.Component.{record_of}
use Rattle.jc_packages.specs.Reading.{load_of}
use Rattle.jc_packages.proofs.Assembled.{added_is, nothing_is}
use Rattle.jc_packages.proofs.reading.add_record.Goals as goal

pub returns-in-Ok-clause-added : goal.returns-in-Ok-clause-added
returns-in-Ok-clause-added g c = rw (added_is c.args.linked.now c.in_ok-load.load (load_of (record_of c.args.heap.now.now c.args.at))
    c.in-Ok.whole c.in_ok-load.ensures.taken c.in-Ok.ensures.exact) c.link_and_add.ensures.added

pub returns-in-Ok-clause-damaged : goal.returns-in-Ok-clause-damaged
returns-in-Ok-clause-damaged g c = rw (added_is c.args.linked.now c.in_ok-load.load (load_of (record_of c.args.heap.now.now c.args.at))
    c.in-Ok.whole c.in_ok-load.ensures.taken c.in-Ok.ensures.exact) c.link_and_add.ensures.damaged

pub returns-in-Err-clause-damaged : goal.returns-in-Err-clause-damaged
returns-in-Err-clause-damaged g c = λ e. nothing_is c.args.linked.now c.in_ok-load.load (load_of (record_of c.args.heap.now.now c.args.at)) c.in-Err.field-0
    c.in_ok-load.ensures.taken c.in-Err.ensures.exact
