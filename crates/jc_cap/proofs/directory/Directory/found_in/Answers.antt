use Rattle.std.proofs.Common.{◌≡◌, ◌*◌, ℕ, Ok, ap, sym, ◌∙◌, arith}
use Rattle.std.specs.Prelude.{drop}
use Rattle.jc_cap.specs.Directory.{sizes_of}
use Rattle.jc_cap.proofs.FoundDirectory.{are_customs, are_sizes, back, directory_found, has_sizes, long_enough}
use Rattle.jc_cap.proofs.directory.Directory.found_in.Goals as goal

pub split_at-requires : goal.split_at-requires
split_at-requires c = rw c.from.ensures (has_sizes c.args.format c.args.info.now c.size_count-count.result c.requires c.size_count-count.ensures)

pub unreachable-requires : goal.unreachable-requires
unreachable-requires c =
    let long = long_enough c.args.format c.args.info.now c.split_at.result.1.now c.size_count-count.result c.requires c.size_count-count.ensures
    (c.split_at.ensures.back ∙ ap (λ (n : ℕ). drop (2 * n) c.args.info.now) c.from.ensures) in
    omega (arith, long, c.in_default.len_below)

pub found_in-requires : goal.found_in-requires
found_in-requires c = are_sizes c.args.format c.args.info.now c.size_count-count.result c.requires c.size_count-count.ensures

pub found_in-requires-in-len9-up : goal.found_in-requires-in-len9-up
found_in-requires-in-len9-up c = are_customs c.args.format c.args.info.now c.split_at.result.1.now c.size_count-count.result c.requires
    c.size_count-count.ensures (c.split_at.ensures.back ∙ ap (λ (n : ℕ). drop (2 * n) c.args.info.now) c.from.ensures)

pub returns : goal.returns
returns c = rw (c.found_in.ensures, c.number.ensures, c.number-in-len9-up.ensures, c.number-in-len9-up-2.ensures, c.found_in-in-len9-up.ensures)
    (directory_found c.args.format c.args.info.now c.split_at.result.1.now c.size_count-count.result c.requires
    c.size_count-count.ensures (c.split_at.ensures.back ∙ ap (λ (n : ℕ). drop (2 * n) c.args.info.now) c.from.ensures))
