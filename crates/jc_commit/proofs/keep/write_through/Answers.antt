use Rattle.std.proofs.Common.{◌<◌, ℕ, List, length, get_or, sym, subst}
use Rattle.jc_commit.specs.Runs.{WritesWords}
use Rattle.jc_commit.proofs.Words.{place_spot, spot_within}
use Rattle.jc_commit.proofs.Entries.{target}
use Rattle.jc_commit.proofs.Throughout.{left_through}
use Rattle.jc_commit.proofs.keep.write_through.Goals as goal

pub write-requires : goal.write-requires
write-requires g c =
    let w = g.S.WordStore.words c.args.store.now in
    let changes = g.C.WordChanges.changes c.args.changes.now in
    let r = c.requires in
    subst (λ (cs : List (ℕ × ℕ)). (k : ℕ) → k < length cs → (get_or cs k (0, 0)).0 < length w) (sym c.in-Some.ensures)
    (λ k lt. spot_within w (target changes k) r.good (place_spot w (target changes k) r.good (r.places k lt)))

pub write_each-requires : goal.write_each-requires
write_each-requires g c =
    let w = g.S.WordStore.words c.args.store.now in
    let changes = g.C.WordChanges.changes c.args.changes.now in
    let r = c.requires in
    λ k lt. spot_within w (target changes k) r.good (place_spot w (target changes k) r.good (r.places k lt))

pub returns-in-Some : goal.returns-in-Some
returns-in-Some g c =
    let s = g.S.WordStore in
    let changes = g.C.WordChanges.changes c.args.changes.now in
    let r = c.requires in
    let did = subst (λ (cs : List (ℕ × ℕ)). WritesWords s.words s.down s.passed s.refusals cs c.write.result c.args.store.now c.write.new.store) c.in-Some.ensures
    c.write.ensures in
    let left = left_through c.args.born changes c.write.result r.good r.places r.kept r.births did in
    record { stays = left.stays; entries = left.entries; plain = left.plain; wrote = left.wrote }

pub returns : goal.returns
returns g c =
    let changes = g.C.WordChanges.changes c.args.changes.now in
    let r = c.requires in
    let left = left_through c.args.born changes c.write_each.result r.good r.places r.kept r.births c.write_each.ensures in
    record { stays = left.stays; entries = left.entries; plain = left.plain; wrote = left.wrote }
