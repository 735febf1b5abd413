use Rattle.std.proofs.Common.{arith}
use Rattle.jc_cap.proofs.FoundHeader.{has_aid, has_format, has_name, header_found, long_enough}
use Rattle.jc_cap.proofs.header.Header.found_in.Goals as goal

pub unreachable-requires : goal.unreachable-requires
unreachable-requires c = let long = long_enough c.args.info.now c.requires in omega (arith, long, c.in_default.len_below)

pub format_found-format-requires : goal.format_found-format-requires
format_found-format-requires c = has_format c.args.info.now c.requires

pub split_at-requires : goal.split_at-requires
split_at-requires c = has_aid c.args.info.now c.requires

pub name_found-requires : goal.name_found-requires
name_found-requires c = has_name c.args.info.now c.split_at.result.1.now c.format_found-format.result c.requires c.format_found-format.ensures
    c.split_at.ensures.back

pub returns : goal.returns
returns c = header_found c.args.info.now c.split_at.result.0.now c.split_at.result.1.now c.name_found.result.now c.format_found-format.result c.requires
    c.format_found-format.ensures c.split_at.ensures.front c.split_at.ensures.back c.name_found.ensures
