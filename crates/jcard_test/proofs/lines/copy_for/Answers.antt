use Rattle.std.proofs.Common.{refl}
use Rattle.std.specs.String.{string_bytes}
use Rattle.jcard_test.proofs.lines.copy_for.Goals as goal

pub returns : goal.returns
returns c =
    let named = rw c.as_str.ensures.value at c.in_ok-text.ensures.ok in
    let copied = rw c.as_str-2.ensures.value at c.in_ok-replace.ensures.ok in
    (refl, string_bytes c.in_ok-text.text, (_, refl, named.0, named.1), (_, refl, copied.0, copied.1))
