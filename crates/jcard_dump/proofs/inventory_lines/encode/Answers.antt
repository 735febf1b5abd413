use Rattle.std.proofs.Common.{rules, ◌≡◌, ◌∙◌, ap, map}
use Rattle.std.specs.Char.{to_ascii_uppercase}
use Rattle.hex.specs.Hex.{encode_lower}
use Rattle.jcard_dump.proofs.Upper.{upper_of_lower}
use Rattle.jcard_dump.proofs.inventory_lines.encode.Goals as goal

pub returns : goal.returns
returns c =
    let lower : c.encode_to_slice.new.output ≡ encode_lower c.args.bytes.now = search rules in
    c.make_ascii_uppercase.ensures.after ∙ ap (map to_ascii_uppercase) lower ∙ upper_of_lower c.args.bytes.now
