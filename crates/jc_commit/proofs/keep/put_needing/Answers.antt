use Rattle.std.proofs.Common.{◌≡◌, ◌<◌, ◌≤◌, ◌+◌, ◌*◌, ◌++◌, ℕ, List, [], ◌∷◌, length, take, take_all, get_or, sym, ap, subst, ◌∙◌, arith}
use Rattle.std.proofs.lemmas.List.{length-append}
use Rattle.std.specs.Prelude.{IfOk, is_ok}
use Rattle.jc_words.specs.declared.log.Log.{Log}
use Rattle.jc_commit.specs.Entries.{SameBefore, IsBeside}
use Rattle.jc_commit.specs.EntryIndex.{named_by, needing, with_entries}
use Rattle.jc_commit.specs.Writing.{ArePut, Wrote}
use Rattle.jc_commit.proofs.EntryRuns.{needing_all}
use Rattle.jc_commit.proofs.EntryKeeping.{needing_more, needing_part, named_by_kept, index_kept, same_more, with_entries-append}
use Rattle.jc_commit.proofs.Writes.{no_write, more_writes, refused_later, at_err}
use Rattle.jc_commit.proofs.keep.put_needing.Goals as goal

-- what needs an entry up to a change, by what needs one before it and whether that one does
record Next (t names : List ℕ) (born : ℕ) (changes : List (ℕ × ℕ)) (j : ℕ) (change : ℕ × ℕ) : Type 0 where
  all : needing t born (take (j + 1) changes) ≡ needing t born (take j changes) ++ needing names born (change ∷ [])
  long : length (needing t born (take (j + 1) changes)) ≡ length (needing t born (take j changes)) + length (needing names born (change ∷ []))
  within : length (needing t born (take (j + 1) changes)) ≤ length (needing t born changes)

next_of : {j : ℕ} {change : ℕ × ℕ} (l : Log) (w v : List ℕ) (first born : ℕ) (changes : List (ℕ × ℕ)) → SameBefore l first w v → j < length changes
    → change ≡ get_or changes j (0, 0) → Next (named_by l w first) (named_by l v first) born changes j change
next_of {j = j} {change = change} l w v first born changes same below is =
    let t = named_by l w first in
    let more : needing t born (take (j + 1) changes) ≡ needing t born (take j changes) ++ needing (named_by l v first) born (change ∷ []) =
    needing_more t born changes j below
    ∙ (λ i. needing t born (take j changes) ++ needing (sym (named_by_kept l w v first same) i) born (sym is i ∷ [])) in record {
      all = more;
      long = ap (λ (xs : List (ℕ × ℕ)). length xs) more ∙ length-append (needing t born (take j changes)) (needing (named_by l v first) born (change ∷ []));
      within = needing_part t born changes (j + 1);
    }

pub put_change-requires : goal.put_change-requires
put_change-requires g c =
    let changes = g.C.WordChanges.changes c.args.changes.now in
    let i = c.loop-i.invariant in
    let long = i.same.0 in
    let s = c.requires.stands in
    let v = g.S.WordStore.words c.loop-i.store in
    let next = next_of c.args.log (g.S.WordStore.words c.args.store.now) v c.args.first c.args.born changes i.same (omega arith) c.change.ensures in record {
      stands = record {
        size = omega (arith, long, s.size);
        small = s.small;
        few = s.few;
        index = index_kept c.args.log _ _ c.args.first _ i.same s.index;
      };
      place = subst (λ (d : ℕ × ℕ). IsBeside c.args.log (length v) d.0) (sym c.change.ensures)
          (subst (λ (n : ℕ). IsBeside c.args.log n (get_or changes c.loop-i.i (0, 0)).0) (sym long) (c.requires.places c.loop-i.i (omega arith)));
      room = omega (arith, i.k, next.long, next.within, c.requires.room);
    }

pub loop-i-preserved : goal.loop-i-preserved
loop-i-preserved g c =
    let w = g.S.WordStore.words c.args.store.now in
    let l = c.args.log in
    let first = c.args.first in
    let changes = g.C.WordChanges.changes c.args.changes.now in
    let i = c.loop-i.invariant in
    let e = c.in_ok-k.ensures in
    let next = next_of l w (g.S.WordStore.words c.loop-i.store) first c.args.born changes i.same (omega arith) c.change.ensures in
    let done = needing (named_by l w first) c.args.born (take c.loop-i.i changes) in
    let here = needing (named_by l (g.S.WordStore.words c.loop-i.store) first) c.args.born (c.change.result ∷ []) in
    record {
      k = omega (arith, e.put.next, i.k, next.long);
      put = e.put.words ∙ (λ x. with_entries l (i.put x) (i.k x) here) ∙ sym (with_entries-append l w first done here) ∙ ap (with_entries l w first) (sym next.all);
      same = same_more l first c.loop-i.k w _ _ (omega (arith, i.k)) i.same c.put_change.ensures.same;
      wrote = more_writes i.wrote e.wrote (omega (arith, next.long));
    }

pub returns-in_err-k-clause-wrote : goal.returns-in_err-k-clause-wrote
returns-in_err-k-clause-wrote g c =
    let i = c.loop-i.invariant in
    let next = next_of c.args.log (g.S.WordStore.words c.args.store.now) (g.S.WordStore.words c.loop-i.store) c.args.first c.args.born
    (g.C.WordChanges.changes c.args.changes.now) i.same (omega arith) c.change.ensures in
    at_err c.from_residual.result c.from_residual.ensures.0 (refused_later i.wrote c.in_err-k.ensures.wrote (omega (arith, next.long, next.within)))

pub returns-clause-wrote : goal.returns-clause-wrote
returns-clause-wrote g c =
    let t = named_by c.args.log (g.S.WordStore.words c.args.store.now) c.args.first in
    let changes = g.C.WordChanges.changes c.args.changes.now in
    let all = ap (λ (xs : List (ℕ × ℕ)). length (needing t c.args.born xs)) (take_all c.loop-i.i changes (omega arith)) in
    more_writes c.loop-i.invariant.wrote (no_write _) (omega (arith, all))

-- ---- a run that begins a transaction has an entry for each word

pub put_run-requires-clause-room : goal.put_run-requires-clause-room
put_run-requires-clause-room g c =
    let w = g.S.WordStore.words c.args.store.now in
    let all = needing_all c.args.log w c.args.first c.args.born (g.C.WordChanges.changes c.args.changes.now) c.if-first-eq0.true c.if-born-eq65535.true
    c.requires.places (omega (arith, c.size.ensures, c.size.type_inv)) in
    let needed = ap (λ (cs : List (ℕ × ℕ)). length cs) (c.in-Some.ensures ∙ sym all) in
    omega (arith, needed, c.requires.room)

pub returns-in-Some-clause-put : goal.returns-in-Some-clause-put
returns-in-Some-clause-put g c =
    let w = g.S.WordStore.words c.args.store.now in
    let v = g.S.WordStore.words c.put_run.new.store in
    let none = c.if-first-eq0.true in
    let all = needing_all c.args.log w c.args.first c.args.born (g.C.WordChanges.changes c.args.changes.now) none c.if-born-eq65535.true
    c.requires.places (omega (arith, c.size.ensures, c.size.type_inv)) in
    let needed = c.in-Some.ensures ∙ sym all in
    subst (λ (d : ℕ × List (ℕ × ℕ)). IfOk c.put_run.result (λ n. ArePut c.args.log d.0 d.1 w v n)) (λ i. (sym none i, needed i)) c.put_run.ensures.put

pub returns-in-Some-clause-wrote : goal.returns-in-Some-clause-wrote
returns-in-Some-clause-wrote g c =
    let s = g.S.WordStore in
    let w = s.words c.args.store.now in
    let all = needing_all c.args.log w c.args.first c.args.born (g.C.WordChanges.changes c.args.changes.now) c.if-first-eq0.true c.if-born-eq65535.true
    c.requires.places (omega (arith, c.size.ensures, c.size.type_inv)) in
    subst (λ (cs : List (ℕ × ℕ)). Wrote s.down s.passed s.refusals (2 * length cs) (is_ok c.put_run.result) c.args.store.now c.put_run.new.store)
    (c.in-Some.ensures ∙ sym all) c.put_run.ensures.wrote
