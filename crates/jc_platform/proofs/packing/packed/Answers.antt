use Rattle.std.proofs.Common.{◌≡◌, ◌<◌, ◌≤◌, None, Some, true, length, ap, arith, sym, ◌∙◌, rules, reverse}
use Rattle.std.specs.Option.{option_map}
use Rattle.std.proofs.lemmas.Bool.{false≢true}
use Rattle.jc_platform.specs.PackedEntry.{is_packed}
use Rattle.jc_platform.specs.Table.{Spells}
use Rattle.jc_platform.specs.Packing.{entries_of}
use Rattle.jc_platform.proofs.PackedLines.{none_so, some_so}
use Rattle.jc_platform.proofs.Packed.{never_bad, never_packed, never_read, packed_so}
use Rattle.jc_platform.proofs.packing.packed.Goals as goal

pub returns-then-is_packed : goal.returns-then-is_packed
returns-then-is_packed c = λ bytes form. false≢true (sym form.a_text ∙ sym c.is_packed.ensures ∙ c.if-is_packed.true)

pub returns-in-Err : goal.returns-in-Err
returns-in-Err c = λ bytes form. never_read c.args.text.now bytes _ c.in-Err.ensures form

pub returns-in_default : goal.returns-in_default
returns-in_default c = λ bytes form.
    let bad = none_so _ _ _ c.in_ok-rows.ensures c.in_default.is in
    never_bad c.args.text.now bytes bad.0 bad.1 form

pub returns-in_default-2 : goal.returns-in_default-2
returns-in_default-2 c = λ bytes form.
    let rows = c.in-Some.rows.items in
    let spells : Spells c.args.text.now (reverse rows) = some_so _ _ _ c.in-Some.rows c.in_ok-rows.ensures c.in-Some.is in
    let none : entries_of (reverse rows) ≡ None =
    ap (λ x. entries_of (reverse x)) (sym c.deref.ensures.value) ∙ sym c.in_ok-bytes.ensures ∙ ap (option_map (λ b. b.items)) c.in_default-2.is in
    never_packed c.args.text.now bytes (reverse rows) spells none form

pub returns-then-not-is_packed : goal.returns-then-not-is_packed
returns-then-not-is_packed c = λ others form.
    let rows = c.in-Some.rows.items in
    let spells : Spells c.args.text.now (reverse rows) = some_so _ _ _ c.in-Some.rows c.in_ok-rows.ensures c.in-Some.is in
    let some : entries_of (reverse rows) ≡ Some c.in-Some-2.bytes.items =
    ap (λ x. entries_of (reverse x)) (sym c.deref.ensures.value) ∙ sym c.in_ok-bytes.ensures ∙ ap (option_map (λ b. b.items)) c.in-Some-2.is in
    let same : c.in-Some-2.bytes.items ≡ others = packed_so c.args.text.now c.in-Some-2.bytes.items others (reverse rows) spells some form in
    let is : c.is_packed-2.result ≡ true = c.is_packed-2.ensures ∙ ap is_packed (c.deref-2.ensures.value ∙ same) ∙ form.extended in
    false≢true (sym c.if-not-is_packed.true ∙ is)

pub returns-then-len-gt-LARGEST_TEXT : goal.returns-then-len-gt-LARGEST_TEXT
returns-then-len-gt-LARGEST_TEXT c = λ others form.
    let rows = c.in-Some.rows.items in
    let spells : Spells c.args.text.now (reverse rows) = some_so _ _ _ c.in-Some.rows c.in_ok-rows.ensures c.in-Some.is in
    let some : entries_of (reverse rows) ≡ Some c.in-Some-2.bytes.items =
    ap (λ x. entries_of (reverse x)) (sym c.deref.ensures.value) ∙ sym c.in_ok-bytes.ensures ∙ ap (option_map (λ b. b.items)) c.in-Some-2.is in
    let same : c.in-Some-2.bytes.items ≡ others = packed_so c.args.text.now c.in-Some-2.bytes.items others (reverse rows) spells some form in
    let long : 16384 < length c.in-Some-2.bytes.items = search rules in
    let short : length others ≤ 16384 = form.short in
    let size : length c.in-Some-2.bytes.items ≡ length others = ap length same in
    omega (arith, long, short, size)
