use Rattle.std.proofs.Common.{◌≡◌, ◌∙◌, ap, Err}
use Rattle.std.proofs.lemmas.Result.{err_from_is_err_and}
use Rattle.jc_heap.specs.Component.{record_of}
use Rattle.jc_packages.specs.declared.fault.ReadFault.TheVariants.{Damaged}
use Rattle.jc_packages.specs.Reading.{text_in, text_taken}
use Rattle.jc_packages.proofs.NoPackages.{no_header, no_directory, no_applets, no_imports, no_pool, no_classes, no_methods, no_statics, no_exports}
use Rattle.jc_packages.proofs.RecordLoads.{all_taken, is_told}
use Rattle.std.proofs.Common.{None}
use Rattle.jc_packages.proofs.reading.take_texts.Goals as goal

pub returns-in_err-told-clause-damaged : goal.returns-in_err-told-clause-damaged
returns-in_err-told-clause-damaged g c = λ e.
    let p = err_from_is_err_and c.from_residual.result c.from_residual.ensures.1 in
    let is : c.in_err-told.field-0.0 ≡ Damaged = cc in
    no_header (record_of c.args.heap.now.now c.args.at) None (c.in_err-told.ensures.damaged (ap Err is))

pub returns-in_err-take_text-clause-damaged : goal.returns-in_err-take_text-clause-damaged
returns-in_err-take_text-clause-damaged g c = λ e.
    let p = err_from_is_err_and c.from_residual-in_err-take_text.result c.from_residual-in_err-take_text.ensures.1 in
    let is : c.in_err-take_text.field-0.0 ≡ Damaged = cc in
    no_directory (record_of c.args.heap.now.now c.args.at) c.in_ok-told.told (is_told c.in_ok-told.told (text_in (record_of c.args.heap.now.now c.args.at) 1) c.take_text.new.load
    (c.in_ok-told.ensures.took ∙ ap (λ l. text_taken None l 1 (text_in (record_of c.args.heap.now.now c.args.at) 1)) c.requires.none)) (c.in_err-take_text.ensures.damaged (ap Err is))

pub returns-in_err-take_text-2-clause-damaged : goal.returns-in_err-take_text-2-clause-damaged
returns-in_err-take_text-2-clause-damaged g c = λ e.
    let p = err_from_is_err_and c.from_residual-in_err-take_text-2.result c.from_residual-in_err-take_text-2.ensures.1 in
    let is : c.in_err-take_text-2.field-0.0 ≡ Damaged = cc in
    no_applets (record_of c.args.heap.now.now c.args.at) c.in_ok-told.told (c.in_err-take_text-2.ensures.damaged (ap Err is))

pub returns-in_err-take_text-3-clause-damaged : goal.returns-in_err-take_text-3-clause-damaged
returns-in_err-take_text-3-clause-damaged g c = λ e.
    let p = err_from_is_err_and c.from_residual-in_err-take_text-3.result c.from_residual-in_err-take_text-3.ensures.1 in
    let is : c.in_err-take_text-3.field-0.0 ≡ Damaged = cc in
    no_imports (record_of c.args.heap.now.now c.args.at) c.in_ok-told.told (c.in_err-take_text-3.ensures.damaged (ap Err is))

pub returns-in_err-take_text-4-clause-damaged : goal.returns-in_err-take_text-4-clause-damaged
returns-in_err-take_text-4-clause-damaged g c = λ e.
    let p = err_from_is_err_and c.from_residual-in_err-take_text-4.result c.from_residual-in_err-take_text-4.ensures.1 in
    let is : c.in_err-take_text-4.field-0.0 ≡ Damaged = cc in
    no_pool (record_of c.args.heap.now.now c.args.at) c.in_ok-told.told (c.in_err-take_text-4.ensures.damaged (ap Err is))

pub returns-in_err-take_text-5-clause-damaged : goal.returns-in_err-take_text-5-clause-damaged
returns-in_err-take_text-5-clause-damaged g c = λ e.
    let p = err_from_is_err_and c.from_residual-in_err-take_text-5.result c.from_residual-in_err-take_text-5.ensures.1 in
    let is : c.in_err-take_text-5.field-0.0 ≡ Damaged = cc in
    no_classes (record_of c.args.heap.now.now c.args.at) c.in_ok-told.told (is_told c.in_ok-told.told (text_in (record_of c.args.heap.now.now c.args.at) 1) c.take_text.new.load
    (c.in_ok-told.ensures.took ∙ ap (λ l. text_taken None l 1 (text_in (record_of c.args.heap.now.now c.args.at) 1)) c.requires.none)) (c.in_err-take_text-5.ensures.damaged (ap Err is))

pub returns-in_err-take_text-6-clause-damaged : goal.returns-in_err-take_text-6-clause-damaged
returns-in_err-take_text-6-clause-damaged g c = λ e.
    let p = err_from_is_err_and c.from_residual-in_err-take_text-6.result c.from_residual-in_err-take_text-6.ensures.1 in
    let is : c.in_err-take_text-6.field-0.0 ≡ Damaged = cc in
    no_methods (record_of c.args.heap.now.now c.args.at) c.in_ok-told.told (c.in_err-take_text-6.ensures.damaged (ap Err is))

pub returns-in_err-take_text-7-clause-damaged : goal.returns-in_err-take_text-7-clause-damaged
returns-in_err-take_text-7-clause-damaged g c = λ e.
    let p = err_from_is_err_and c.from_residual-in_err-take_text-7.result c.from_residual-in_err-take_text-7.ensures.1 in
    let is : c.in_err-take_text-7.field-0.0 ≡ Damaged = cc in
    no_statics (record_of c.args.heap.now.now c.args.at) c.in_ok-told.told (c.in_err-take_text-7.ensures.damaged (ap Err is))

pub returns-in_err-take_text-8-clause-damaged : goal.returns-in_err-take_text-8-clause-damaged
returns-in_err-take_text-8-clause-damaged g c = λ e.
    let p = err_from_is_err_and c.from_residual-in_err-take_text-8.result c.from_residual-in_err-take_text-8.ensures.1 in
    let is : c.in_err-take_text-8.field-0.0 ≡ Damaged = cc in
    no_exports (record_of c.args.heap.now.now c.args.at) c.in_ok-told.told (c.in_err-take_text-8.ensures.damaged (ap Err is))

pub returns-clause-taken : goal.returns-clause-taken
returns-clause-taken g c = all_taken (record_of c.args.heap.now.now c.args.at) c.in_ok-told.told c.in_ok-take_text.field-0 c.in_ok-take_text-2.field-0 c.in_ok-take_text-3.field-0 c.in_ok-take_text-4.field-0 c.in_ok-take_text-5.field-0 c.in_ok-take_text-6.field-0 c.in_ok-take_text-7.field-0 c.in_ok-take_text-8.field-0
    c.take_text.new.load c.take_text-2.new.load c.take_text-3.new.load c.take_text-4.new.load c.take_text-5.new.load c.take_text-6.new.load c.take_text-7.new.load c.take_text-8.new.load c.take_text-9.new.load
    (c.in_ok-told.ensures.took ∙ ap (λ l. text_taken None l 1 (text_in (record_of c.args.heap.now.now c.args.at) 1)) c.requires.none)
    c.in_ok-take_text.ensures.took c.in_ok-take_text-2.ensures.took c.in_ok-take_text-3.ensures.took c.in_ok-take_text-4.ensures.took c.in_ok-take_text-5.ensures.took c.in_ok-take_text-6.ensures.took c.in_ok-take_text-7.ensures.took c.in_ok-take_text-8.ensures.took
