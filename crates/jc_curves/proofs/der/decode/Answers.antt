use Rattle.std.proofs.Common.{◌++◌}
use Rattle.jc_curves.proofs.DerLaws.{no_end, no_first, no_second, nothing_left, signature_read, something_left}
use Rattle.jc_curves.proofs.der.decode.Goals as goal

pub returns-in_default : goal.returns-in_default
returns-in_default c = λ r s encoded. c.in_default.ensures (encoded.left ++ encoded.right) encoded.is

pub returns-in_default-integer : goal.returns-in_default-integer
returns-in_default-integer c =
    λ r s encoded. no_first r s c.in-Some.contents.now c.args.bytes.now c.in-Some.ensures c.in_default-integer.ensures encoded

pub returns-in_default-integer-2 : goal.returns-in_default-integer-2
returns-in_default-integer-2 c =
    let first = c.in-Some-integer.first in
    λ r s encoded. no_second r s c.in-Some.contents.now first.contents.now first.rest.now c.args.bytes.now c.in-Some.ensures
    c.in-Some-integer.ensures c.in_default-integer-2.ensures encoded

pub returns-then-is_empty : goal.returns-then-is_empty
returns-then-is_empty c =
    let first = c.in-Some-integer.first in
    let second = c.in-Some-integer-2.second in
    signature_read c.in-Some.contents.now first.contents.now first.rest.now second.contents.now second.rest.now c.args.bytes.now c.in-Some.ensures
    c.in-Some-integer.ensures c.in-Some-integer-2.ensures (nothing_left second.rest.now c.is_empty.result c.is_empty.ensures c.if-is_empty.true)

pub returns-else-is_empty : goal.returns-else-is_empty
returns-else-is_empty c =
    let first = c.in-Some-integer.first in
    let second = c.in-Some-integer-2.second in
    λ r s encoded. no_end r s c.in-Some.contents.now first.contents.now first.rest.now second.contents.now second.rest.now c.args.bytes.now
    c.in-Some.ensures c.in-Some-integer.ensures c.in-Some-integer-2.ensures
    (something_left second.rest.now c.is_empty.result c.is_empty.ensures c.if-is_empty.false) encoded
