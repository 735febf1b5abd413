use Rattle.std.proofs.Common.{◌≡◌, ◌∙◌, ◌+◌, ◌-◌, List, ℕ, Option, Some, None, Err, ap, refl, sym, subst, arith}
use Rattle.jcard_dump.specs.InventoryLines.{line_if}
use Rattle.jcard_dump.specs.Fault.{Lists}
use Rattle.jcard_dump.specs.Packages.{lines_if, record_at}
use Rattle.jcard_dump.specs.declared.fault.ListFault.TheVariants.{Unreadable}
use Rattle.jcard_dump.specs.declared.packages.Record.{Record}
use Rattle.jcard_dump.proofs.LineLists.{lists_unread}
use Rattle.jcard_dump.proofs.PackageRecords.{IsPlaced, record_is}
use Rattle.jcard_dump.proofs.packages.push_package.Goals as goal

pub returns-in_default : goal.returns-in_default
returns-in_default g c =
    let w : List ℕ = g.S.WordStore.words c.args.store.now in
    let old : List ℕ = c.args.text.now.items in
    let n : ℕ = c.args.before + 1 in
    let place : n - 1 ≡ c.args.before = omega arith in
    let none : None ≡ record_at w (n - 1) = c.in_default.ensures ∙ ap (record_at w) (sym place) in
    subst (λ (o : Option Record). Lists old old (lines_if c.args.legend.now w n o) (Err Unreadable)) none (lists_unread old (line_if None) refl refl)

pub push_record-requires-clause-record : goal.push_record-requires-clause-record
push_record-requires-clause-record g c =
    let is : IsPlaced (g.S.WordStore.words c.args.store.now) c.in-Some.found = record_is (g.S.WordStore.words c.args.store.now) c.args.before c.in-Some.found
    c.in-Some.ensures in
    is.there

pub push_record-requires-clause-size : goal.push_record-requires-clause-size
push_record-requires-clause-size g c =
    let is : IsPlaced (g.S.WordStore.words c.args.store.now) c.in-Some.found = record_is (g.S.WordStore.words c.args.store.now) c.args.before c.in-Some.found
    c.in-Some.ensures in
    is.size

pub returns : goal.returns
returns g c =
    let w : List ℕ = g.S.WordStore.words c.args.store.now in
    let n : ℕ = c.args.before + 1 in
    let place : n - 1 ≡ c.args.before = omega arith in
    let some : Some c.in-Some.found ≡ record_at w (n - 1) = c.in-Some.ensures ∙ ap (record_at w) (sym place) in
    subst (λ (o : Option Record). Lists c.args.text.now.items c.push_record.new.text.items (lines_if c.args.legend.now w n o) c.push_record.result) some c.push_record.ensures
