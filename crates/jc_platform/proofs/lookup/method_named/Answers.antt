use Rattle.std.proofs.Common.{◌≡◌, ◌&&◌, sym, ◌∙◌, rules, tests}
use Rattle.std.specs.List.{find}
use Rattle.std.specs.Str.{bytes_eq}
use Rattle.std.proofs.lemmas.Iterator.{YieldsList-from_slice}
use Rattle.std.proofs.lemmas.Iterator.Search.{find_from_yields_List}
use Rattle.jc_platform.specs.Names.{methods}
use Rattle.jc_platform.specs.Numbers.{same_class, same_kind}
use Rattle.jc_platform.specs.Rows.{methods_of}
use Rattle.jc_platform.specs.RowValues.{method_value}
use Rattle.jc_platform.proofs.Lists.{and_within, find-filter, found_through}
use Rattle.jc_platform.proofs.lookup.method_named.Goals as goal

pub returns : goal.returns
returns c =
    let name = c.args.name.now in
    let own = c.methods_of.result.now in
    let found : c.copied.result ≡ find (λ e. same_kind e.kind c.args.kind && bytes_eq e.name.now name) own =
    cc (find_from_yields_List (λ e. same_kind e.kind c.args.kind && bytes_eq e.name.now name) _ _ c.find.result c.find.ensures.ran
    (YieldsList-from_slice own cc) (λ x b q k. search (rules, tests))) in
    found_through (λ e. same_kind e.kind c.args.kind && bytes_eq e.name name) method_value own (methods_of c.args.class) c.copied.result
    c.methods_of.ensures found
    ∙ sym (find-filter (λ e. same_class e.class c.args.class) (λ e. same_kind e.kind c.args.kind && bytes_eq e.name name)
    (λ e. same_class e.class c.args.class && same_kind e.kind c.args.kind && bytes_eq e.name name) methods
    (λ e. and_within (same_class e.class c.args.class) (same_kind e.kind c.args.kind) (bytes_eq e.name name)))
