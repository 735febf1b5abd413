use Rattle.std.proofs.Common.{rules, refl, sym, ap, ◌∙◌}
use Rattle.jc_cap.specs.Texts.{taken_with, with_component}
use Rattle.jc_cap.proofs.ReadAgain.{others_kept}
use Rattle.jc_cap.proofs.Taken.{classes_are, statics_are, unused_is}
use Rattle.jc_cap.proofs.texts.LoadedComponents.take_by_tag.Goals as goal

pub returns-in-6 : goal.returns-in-6
returns-in-6 c = rw c.in-6.is (c.take_classes.ensures ∙ ap (taken_with c.args.self.now 6 c.args.bytes.items) (sym (classes_are c.args.format c.args.bytes.items)))

pub returns-in-8 : goal.returns-in-8
returns-in-8 c = rw c.in-8.is (c.take_statics.ensures ∙ ap (taken_with c.args.self.now 8 c.args.bytes.items) (sym (statics_are c.args.format c.args.bytes.items)))

pub returns-in_ok-read-in-2 : goal.returns-in_ok-read-in-2
unfolding with_component
returns-in_ok-read-in-2 c = rw c.in-2.is (others_kept c.args.self.now c.args.format 2 c.args.bytes.items c.in_ok-read-in-2.field-0 refl
    c.in_ok-read-in-2.ensures.0 c.in_ok-read-in-2.ensures.1)

pub returns-in_ok-read-in-3 : goal.returns-in_ok-read-in-3
unfolding with_component
returns-in_ok-read-in-3 c = rw c.in-3.is (others_kept c.args.self.now c.args.format 3 c.args.bytes.items c.in_ok-read-in-3.field-0 refl
    c.in_ok-read-in-3.ensures.0 c.in_ok-read-in-3.ensures.1)

pub returns-in_ok-read-in-4 : goal.returns-in_ok-read-in-4
unfolding with_component
returns-in_ok-read-in-4 c = rw c.in-4.is (others_kept c.args.self.now c.args.format 4 c.args.bytes.items c.in_ok-read-in-4.field-0 refl
    c.in_ok-read-in-4.ensures.0 c.in_ok-read-in-4.ensures.1)

pub returns-in_ok-read-in-5 : goal.returns-in_ok-read-in-5
unfolding with_component
returns-in_ok-read-in-5 c = rw c.in-5.is (others_kept c.args.self.now c.args.format 5 c.args.bytes.items c.in_ok-read-in-5.field-0 refl
    c.in_ok-read-in-5.ensures.0 c.in_ok-read-in-5.ensures.1)

pub returns-in_ok-read-in-7 : goal.returns-in_ok-read-in-7
unfolding with_component
returns-in_ok-read-in-7 c = rw c.in-7.is (others_kept c.args.self.now c.args.format 7 c.args.bytes.items c.in_ok-read-in-7.field-0 refl
    c.in_ok-read-in-7.ensures.0 c.in_ok-read-in-7.ensures.1)

pub returns-in_ok-read-in-10 : goal.returns-in_ok-read-in-10
unfolding with_component
returns-in_ok-read-in-10 c = rw c.in-10.is (others_kept c.args.self.now c.args.format 10 c.args.bytes.items c.in_ok-read-in-10.field-0 refl
    c.in_ok-read-in-10.ensures.0 c.in_ok-read-in-10.ensures.1)

pub returns-in_default : goal.returns-in_default
returns-in_default c = c.take_unused.ensures ∙ unused_is c.args.self.now c.args.format c.args.tag c.args.bytes.items (search rules)
