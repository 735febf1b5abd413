use Rattle.std.proofs.Common.{Err}
use Rattle.std.proofs.lemmas.Result.{err_from_is_err_and}
use Rattle.jc_words.specs.Layout.{applets_address, packages_address}
use Rattle.std.specs.Prelude.{slice_index}
use Rattle.jc_commit.specs.Image.{count_of}
use Rattle.jcard_dump.specs.InventoryLines.{then_lines}
use Rattle.jcard_dump.specs.Applets.{applet_lines}
use Rattle.jcard_dump.specs.Entries.{entry_lines}
use Rattle.jcard_dump.specs.Fault.{each_line}
use Rattle.jcard_dump.specs.Packages.{package_lines}
use Rattle.jcard_dump.proofs.LineLists.{lists_stopped, lists_then}
use Rattle.jcard_dump.proofs.listing.push_tables.Goals as goal

pub returns-in_err-push_entries : goal.returns-in_err-push_entries
returns-in_err-push_entries g c =
    let p = err_from_is_err_and c.from_residual.result c.from_residual.ensures.1 in
    let stop = c.in_err-push_entries.field-0.0 in
    let w = g.S.WordStore.words c.args.store.now in
    let t = c.args.legend.now in
    let entries = each_line (entry_lines t.platform w) (count_of w) in
    let packages = each_line (package_lines t w) (slice_index w packages_address) in
    let applets = each_line (applet_lines w) (slice_index w applets_address) in
    rw (p.1, p.2) (lists_stopped stop _ _ entries (then_lines packages applets) c.in_err-push_entries.ensures)

pub returns-in_err-push_packages : goal.returns-in_err-push_packages
returns-in_err-push_packages g c =
    let p = err_from_is_err_and c.from_residual-in_err-push_packages.result c.from_residual-in_err-push_packages.ensures.1 in
    let stop = c.in_err-push_packages.field-0.0 in
    let w = g.S.WordStore.words c.args.store.now in
    let t = c.args.legend.now in
    let entries = each_line (entry_lines t.platform w) (count_of w) in
    let packages = each_line (package_lines t w) (slice_index w packages_address) in
    let applets = each_line (applet_lines w) (slice_index w applets_address) in
    rw (p.1, p.2) (lists_then (Err stop) _ _ _ entries (then_lines packages applets) c.in_ok-push_entries.ensures
    (lists_stopped stop _ _ packages applets c.in_err-push_packages.ensures))

pub returns : goal.returns
returns g c =
    let w = g.S.WordStore.words c.args.store.now in
    let t = c.args.legend.now in
    let r = c.push_applets.result in
    let entries = each_line (entry_lines t.platform w) (count_of w) in
    let packages = each_line (package_lines t w) (slice_index w packages_address) in
    let applets = each_line (applet_lines w) (slice_index w applets_address) in
    lists_then r _ _ _ entries (then_lines packages applets) c.in_ok-push_entries.ensures
    (lists_then r _ _ _ packages applets c.in_ok-push_packages.ensures c.push_applets.ensures)
