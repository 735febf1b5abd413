use Rattle.std.proofs.Common.{refl, Err}
use Rattle.std.proofs.lemmas.Result.{err_from_is_err_and}
use Rattle.jcard_dump.specs.Inventory.{lines_of}
use Rattle.jcard_dump.specs.InventoryLines.{applet_text, line, numbered_lines, package_text, then_lines}
use Rattle.jcard_dump.specs.declared.inventory_lines.ListingFault.TheVariants.{NotWritten}
use Rattle.jcard_dump.proofs.NumberedLines.{told_stopped, told_then}
use Rattle.jcard_dump.proofs.inventory.write_all_lines.Goals as goal

pub returns-in_err-write_inventory-clause-text : goal.returns-in_err-write_inventory-clause-text
returns-in_err-write_inventory-clause-text g c =
    let p = err_from_is_err_and c.from_residual.result c.from_residual.ensures.1 in
    let w = g.S.WordStore.words c.args.store.now in
    let packages = numbered_lines (package_text w) c.args.found.packages in
    let applets = numbered_lines (applet_text w) c.args.found.applets in
    rw (p.1, p.2) (told_stopped NotWritten _ _ (line (lines_of c.args.found)) (then_lines packages applets) c.in_err-write_inventory.ensures.text)

pub returns-in_err-write_packages-clause-text : goal.returns-in_err-write_packages-clause-text
returns-in_err-write_packages-clause-text g c =
    let p = err_from_is_err_and c.from_residual-in_err-write_packages.result c.from_residual-in_err-write_packages.ensures.1 in
    let stop = c.in_err-write_packages.field-0.0 in
    let w = g.S.WordStore.words c.args.store.now in
    let packages = numbered_lines (package_text w) c.args.found.packages in
    let applets = numbered_lines (applet_text w) c.args.found.applets in
    rw (p.1, p.2) (told_then (Err stop) _ _ _ (line (lines_of c.args.found)) (then_lines packages applets) (refl, c.in_ok-write_inventory.ensures.text)
    (told_stopped stop _ _ packages applets c.in_err-write_packages.ensures.text))

pub returns-clause-text : goal.returns-clause-text
returns-clause-text g c =
    let w = g.S.WordStore.words c.args.store.now in
    let packages = numbered_lines (package_text w) c.args.found.packages in
    let applets = numbered_lines (applet_text w) c.args.found.applets in
    told_then c.write_applets.result _ _ _ (line (lines_of c.args.found)) (then_lines packages applets) (refl, c.in_ok-write_inventory.ensures.text)
    (told_then c.write_applets.result _ _ _ packages applets c.in_ok-write_packages.ensures.text c.write_applets.ensures.text)
