use Rattle.std.proofs.Common.{◌&&◌, sym, ◌∙◌, rules, tests}
use Rattle.std.proofs.lemmas.Iterator.{YieldsList-from_slice}
use Rattle.std.proofs.lemmas.Iterator.Search.{any_from_yields_List}
use Rattle.jc_platform.specs.Names.{methods}
use Rattle.jc_platform.specs.Numbers.{same_class, same_kind}
use Rattle.jc_platform.specs.Reading.{above_of}
use Rattle.jc_platform.specs.Rows.{is_token, methods_of}
use Rattle.jc_platform.specs.RowValues.{method_value}
use Rattle.jc_platform.proofs.ClassMethods.{any-filter}
use Rattle.jc_platform.proofs.Lists.{any_through}
use Rattle.jc_platform.proofs.reading.Reading.has_method_token.Goals as goal

pub returns : goal.returns
returns c =
    let above = above_of c.args.self.now in
    let own = c.methods_of.result.now in
    any_through (λ e. same_kind e.kind c.args.kind && is_token (above.method_token e.method) c.args.token) method_value own (methods_of c.args.class)
    c.any.result c.methods_of.ensures
    (any_from_yields_List (λ e. same_kind e.kind c.args.kind && is_token (above.method_token e.method) c.args.token) _ _ _ c.any.ensures.ran
    (YieldsList-from_slice own cc) (λ x b q k. search (rules, tests)))
    ∙ sym (any-filter (λ e. same_class e.class c.args.class) (λ e. same_kind e.kind c.args.kind) (λ e. is_token (above.method_token e.method) c.args.token)
    methods)
