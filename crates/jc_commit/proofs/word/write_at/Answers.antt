use Rattle.std.proofs.Common.{◌≡◌, ◌+◌, ℕ, List, true, false, [], ◌∷◌, is_some, sym, ap, subst, ◌∙◌, arith}
use Rattle.std.specs.Prelude.{Option, if◌then◌else◌}
use Rattle.jc_commit.specs.Keep.{is_taken_back}
use Rattle.jc_commit.specs.EntryIndex.{named_by, IsIndexOf, IsPlaceFor}
use Rattle.jc_commit.specs.Writing.{ChangesInside}
use Rattle.jc_commit.proofs.EntryKeeping.{names_touched}
use Rattle.jc_commit.proofs.WordPlaces.{taken_where, none_more, on_ok, goes_back_again, changed_again, index_again, index_with}
use Rattle.jc_commit.proofs.word.write_at.Goals as goal

pub write_through-requires-clause-kept : goal.write_through-requires-clause-kept
write_through-requires-clause-kept g c =
    let l = c.args.log in
    let w = g.S.WordStore.words c.args.store.now in
    let numbers = c.args.numbers.now.items in
    let a = c.args.change.0 in
    goes_back_again l w w numbers c.args.n c.args.born a c.args.change.1 c.requires.ready.stands.stands c.requires.ready.count
    (taken_where l w numbers c.args.n c.args.born a c.args.place c.in_default.not-Some c.requires.ready.place)

pub returns-in_default-clause-changed : goal.returns-in_default-clause-changed
returns-in_default-clause-changed g c =
    let l = c.args.log in
    let w = g.S.WordStore.words c.args.store.now in
    let v = g.S.WordStore.words c.write_through.new.store in
    let numbers = c.args.numbers.now.items in
    let n = c.args.n in
    let born = c.args.born in
    let a = c.args.change.0 in
    let x = c.args.change.1 in
    let taken : is_taken_back (named_by l w n) born a ≡ true = taken_where l w numbers n born a c.args.place c.in_default.not-Some c.requires.ready.place in
    let none : n ≡ n + (if is_some c.args.place then 1 else 0) = omega (arith, none_more c.args.place c.in_default.not-Some) in
    on_ok c.write_through.result (λ plain. subst (ChangesInside born ((a, x) ∷ []) w v) none
    (changed_again l w v numbers n born a x c.requires.ready.stands.stands c.requires.ready.count taken c.write_through.ensures.entries plain)) c.write_through.ensures.plain

pub returns-in_default-clause-index : goal.returns-in_default-clause-index
returns-in_default-clause-index g c =
    let l = c.args.log in
    let w = g.S.WordStore.words c.args.store.now in
    let v = g.S.WordStore.words c.write_through.new.store in
    let numbers = c.args.numbers.now.items in
    let n = c.args.n in
    let born = c.args.born in
    let a = c.args.change.0 in
    let x = c.args.change.1 in
    let taken : is_taken_back (named_by l w n) born a ≡ true = taken_where l w numbers n born a c.args.place c.in_default.not-Some c.requires.ready.place in
    let none : n ≡ n + (if is_some c.args.place then 1 else 0) = omega (arith, none_more c.args.place c.in_default.not-Some) in
    on_ok c.write_through.result (λ plain. subst (λ (m : ℕ). IsIndexOf l v m numbers) none
    (index_again l w v numbers n born a x c.requires.ready.stands.stands c.requires.ready.count taken c.write_through.ensures.stays.log c.write_through.ensures.entries
    c.requires.ready.index)) c.write_through.ensures.plain

pub keep_word-requires-clause-new : goal.keep_word-requires-clause-new
keep_word-requires-clause-new g c =
    let l = c.args.log in
    let w = g.S.WordStore.words c.args.store.now in
    let place = subst (IsPlaceFor l w c.args.n c.args.numbers.now.items c.args.born c.args.change.0) c.in-Some.is c.requires.ready.place in
    subst (λ (t : List ℕ). is_taken_back t c.args.born c.args.change.0 ≡ false)
    (ap (named_by l w) c.requires.ready.count ∙ names_touched l w c.requires.ready.stands.stands) place.0

pub returns-clause-index : goal.returns-clause-index
returns-clause-index g c =
    let l = c.args.log in
    let w = g.S.WordStore.words c.args.store.now in
    let u = g.S.WordStore.words c.keep_word.new.store in
    let numbers = c.args.numbers.now.items in
    let n = c.args.n in
    let place = subst (IsPlaceFor l w n numbers c.args.born c.args.change.0) c.in-Some.is c.requires.ready.place in
    let one : n + 1 ≡ n + (if is_some c.args.place then 1 else 0) = ap (λ (p : Option ℕ). n + (if is_some p then 1 else 0)) (sym c.in-Some.is) in
    subst (λ (m : ℕ). IsIndexOf l u m c.insert_at.new.numbers.items) one
    (subst (IsIndexOf l u (n + 1)) (sym c.insert_at.ensures) (index_with l w u numbers n c.args.born c.args.change.0 c.args.change.1 c.in-Some.place
    c.requires.ready.stands.stands c.keep_word.ensures.stays.log c.requires.ready.count c.requires.ready.index place c.in_ok-keep_word.ensures.changed))
