use Rattle.std.proofs.Common.{refl}
use Rattle.jc_cap.proofs.Found.{handlers_read, never_methods}
use Rattle.jc_cap.specs.MethodReading.{methods_of}
use Rattle.jc_cap.proofs.methods.Methods.found_in.Goals as goal

pub handlers_found_in-handlers-requires : goal.handlers_found_in-handlers-requires
handlers_found_in-handlers-requires c = handlers_read c.args.info.now c.in-Ok.bytes.now c.in-Ok.count c.requires c.in-Ok.ensures

pub unreachable-requires : goal.unreachable-requires
unreachable-requires c = never_methods c.args.info.now c.in-Err.field-0 c.requires c.in-Err.ensures

pub returns : goal.returns
unfolding methods_of
returns c = rw (c.in-Ok.ensures, c.handlers_found_in-handlers.ensures) refl
