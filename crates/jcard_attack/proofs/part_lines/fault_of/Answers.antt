use Rattle.std.proofs.Common.{◌∙◌, sym}
use Rattle.jcard_attack.proofs.PartReads.{no_model, no_number, no_place, no_second, no_told, words_read}
use Rattle.jcard_attack.proofs.part_lines.fault_of.Goals as goal

pub returns-in_default : goal.returns-in_default
returns-in_default c = λ f h. no_model c.args.line.now f c.in_default.ensures h

pub returns-in_default-cut_once : goal.returns-in_default-cut_once
returns-in_default-cut_once c = λ f h. no_number c.args.line.now c.in-Some.model.now c.in-Some.rest.now f c.in-Some.ensures.0 c.in-Some.ensures.1
    c.in_default-cut_once.ensures h

pub returns-in_default-cut_once-2 : goal.returns-in_default-cut_once-2
returns-in_default-cut_once-2 c = λ f h. no_second c.args.line.now c.in-Some.model.now c.in-Some.rest.now c.in-Some-cut_once.number.now c.in-Some-cut_once.rest.now f
    c.in-Some.ensures.0 c.in-Some.ensures.1 c.in-Some-cut_once.ensures.0 c.in-Some-cut_once.ensures.1 c.in_default-cut_once-2.ensures h

pub returns-in_default-cut_once-3 : goal.returns-in_default-cut_once-3
returns-in_default-cut_once-3 c = λ f h. no_told c.args.line.now c.in-Some.model.now c.in-Some.rest.now c.in-Some-cut_once.number.now c.in-Some-cut_once.rest.now
    c.in-Some-cut_once-2.second.now c.in-Some-cut_once-2.rest.now f c.in-Some.ensures.0 c.in-Some.ensures.1 c.in-Some-cut_once.ensures.0
    c.in-Some-cut_once.ensures.1 c.in-Some-cut_once-2.ensures.0 c.in-Some-cut_once-2.ensures.1 c.in_default-cut_once-3.ensures h

pub returns-then-has_tab : goal.returns-then-has_tab
returns-then-has_tab c = λ f h. no_place c.args.line.now c.in-Some.model.now c.in-Some.rest.now c.in-Some-cut_once.number.now c.in-Some-cut_once.rest.now
    c.in-Some-cut_once-2.second.now c.in-Some-cut_once-2.rest.now c.in-Some-cut_once-3.told.now c.in-Some-cut_once-3.place.now f c.in-Some.ensures.0
    c.in-Some.ensures.1 c.in-Some-cut_once.ensures.0 c.in-Some-cut_once.ensures.1 c.in-Some-cut_once-2.ensures.0 c.in-Some-cut_once-2.ensures.1
    c.in-Some-cut_once-3.ensures.0 c.in-Some-cut_once-3.ensures.1 (sym c.has_tab.ensures ∙ c.if-has_tab.true) h
