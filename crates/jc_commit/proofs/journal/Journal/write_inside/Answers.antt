use Rattle.std.proofs.Common.{ℕ, List, [], ◌∷◌, max, refl, sym, ap, subst, ◌∙◌, arith}
use Rattle.jc_commit.specs.EntryIndex.{IsIndexOf, IsPlaceFor}
use Rattle.std.proofs.lemmas.Bool.{false≢true, true≢false}
use Rattle.jc_words.specs.Layout.{addresses_start}
use Rattle.jc_commit.specs.State.{State, live_words}
use Rattle.jc_commit.proofs.Changing.{sound_kept, changed, torn, match_true}
use Rattle.jc_commit.proofs.Inside.{inside_one}
use Rattle.jc_commit.proofs.Refusals.{not_full}
use Rattle.jc_commit.proofs.journal.Journal.write_inside.Goals as goal

pub returns-then-not-has_room_at-clause-full : goal.returns-then-not-has_room_at-clause-full
returns-then-not-has_room_at-clause-full g c =
    let i = inside_one _ c.args.address c.args.value c.in-Some.place c.self.invariant c.self.view_is c.requires.up c.requires.inside c.read-n.ensures c.requires.place
    c.in-Some.ensures in
    (λ _. i.room ∙ sym c.has_room_at.ensures ∙ c.if-not-has_room_at.true, λ _. refl)

pub write_at-requires-clause-ready : goal.write_at-requires-clause-ready
write_at-requires-clause-ready g c =
    let i = inside_one _ c.args.address c.args.value c.in-Some.place c.self.invariant c.self.view_is c.requires.up c.requires.inside c.read-n.ensures c.requires.place
    c.in-Some.ensures in
    let sound = c.self.invariant in
    let l = c.self.inside.log in
    let w = g.S.WordStore.words c.self.inside.store in
    record {
      stands = record { good = sound.good; stands = sound.stands; within = sound.within; small = sound.small };
      count = c.read-n.ensures;
      index = subst (λ (m : ℕ). IsIndexOf l w m c.self.inside.index.items) (sym c.read-n.ensures) i.whole.index;
      births = λ a high below. omega (arith, i.whole.births, high);
      there = i.there;
      place = subst (λ (numbers : List ℕ). IsPlaceFor l w c.read-n.result numbers c.self.inside.born c.args.address c.in-Some.place) c.as_slice-numbers.ensures.value c.in-Some.ensures;
    }

-- what holds of every journal, where the store refused a write
pub invariant_of-self : goal.invariant_of-self
invariant_of-self g c =
    let stays = c.write_at.ensures.stays in
    sound_kept c.self.invariant stays.good stays.size stays.log
    (λ outside. absurd (false≢true (sym outside ∙ ap (λ (s : State). s.in_transaction) c.self.view_is ∙ c.requires.inside)))
    (λ _ up. absurd (true≢false (sym c.in_err-write_at-in-Some.ensures.wrote.down ∙ up)))

pub returns-in_err-write_at-in-Some-clause-full : goal.returns-in_err-write_at-in-Some-clause-full
returns-in_err-write_at-in-Some-clause-full g c =
    let i = inside_one _ c.args.address c.args.value c.in-Some.place c.self.invariant c.self.view_is c.requires.up c.requires.inside c.read-n.ensures c.requires.place
    c.in-Some.ensures in (
      λ e. absurd (not_full c.from_residual.result c.from_residual.ensures.1 e),
      λ full. absurd (false≢true (sym full ∙ i.room ∙ sym c.has_room_at.ensures ∙ c.if-not-has_room_at.false)),
    )

pub returns-in_err-write_at-in-Some-clause-stopped : goal.returns-in_err-write_at-in-Some-clause-stopped
returns-in_err-write_at-in-Some-clause-stopped g c = λ _.
    let i = inside_one _ c.args.address c.args.value c.in-Some.place c.self.invariant c.self.view_is c.requires.up c.requires.inside c.read-n.ensures c.requires.place
    c.in-Some.ensures in
    torn c.in_err-write_at-in-Some.ensures.wrote c.write_at.ensures.stays c.self.view_is (omega (arith, i.writes))

pub invariant_of-self-in-Some : goal.invariant_of-self-in-Some
invariant_of-self-in-Some g c =
    let stays = c.write_at.ensures.stays in
    let e = c.in_ok-write_at-in-Some.ensures in
    let i = inside_one _ c.args.address c.args.value c.in-Some.place c.self.invariant c.self.view_is c.requires.up c.requires.inside c.read-n.ensures c.requires.place
    c.in-Some.ensures in
    sound_kept c.self.invariant stays.good stays.size stays.log
    (λ outside. absurd (false≢true (sym outside ∙ ap (λ (s : State). s.in_transaction) c.self.view_is ∙ c.requires.inside)))
    (λ _ _. (
      i.whole.births ∙ ap (max addresses_start) (sym stays.top),
      subst (λ (n : ℕ). IsIndexOf c.self.inside.log (g.S.WordStore.words c.write_at.new.store) n c.write_at.new.numbers.items) (sym e.changed.count) e.index,
    ))

pub returns-in_ok-write_at-in-Some-clause-ok : goal.returns-in_ok-write_at-in-Some-clause-ok
returns-in_ok-write_at-in-Some-clause-ok g c =
    let i = inside_one _ c.args.address c.args.value c.in-Some.place c.self.invariant c.self.view_is c.requires.up c.requires.inside c.read-n.ensures c.requires.place
    c.in-Some.ensures in
    let v = c.self.view_is in
    let e = c.in_ok-write_at-in-Some.ensures in
    let stays = c.write_at.ensures.stays in
    changed _ _ ((c.args.address, c.args.value) ∷ []) e.wrote v stays.size stays.log e.changed.plain
    (match_true _ _ _ c.requires.inside (stays.live ∙ ap (λ (s : State). live_words s.recovered) v)) (i.whole.added _ e.changed.touched) i.writes

pub returns-in_ok-write_at-in-Some-clause-full : goal.returns-in_ok-write_at-in-Some-clause-full
returns-in_ok-write_at-in-Some-clause-full g c =
    let i = inside_one _ c.args.address c.args.value c.in-Some.place c.self.invariant c.self.view_is c.requires.up c.requires.inside c.read-n.ensures c.requires.place
    c.in-Some.ensures in
    (λ e. cc, λ full. absurd (false≢true (sym full ∙ i.room ∙ sym c.has_room_at.ensures ∙ c.if-not-has_room_at.false)))
