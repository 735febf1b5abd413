use Rattle.std.proofs.Common.{◌≡◌, ◌≢◌, ◌∙◌, ◌+◌, ◌-◌, Bool, List, ℕ, suc, drop, length, length-drop, ne_eqb, sym, take, ap, if◌then◌else◌, arith}
use Rattle.std.specs.Prelude.{Option, None, Some}
use Rattle.std.specs.Option.{option_map}
use Rattle.std.proofs.lemmas.Bool.{eqb-false}
use Rattle.std.proofs.lemmas.List.{take_all}
use Rattle.jc_ciphers.specs.declared.padding.Padding.{Padding}
use Rattle.jc_ciphers.specs.Kept.Conversion.{unpadded, unpadded_from}
use Rattle.jc_ciphers.proofs.Ready.{first_place, no_place}
use Rattle.jc_ciphers.proofs.kept.conversion.unpadded_count.Goals as goal

-- what the place of the padding in the last block says of a message that is not empty
by_block : (p : Padding) (size : ℕ) (m block : List ℕ) (r : Option ℕ) → length m ≢ 0 → block ≡ drop (length m - size) m
    → unpadded_from p block 0 (suc (length block)) ≡ r → option_map (λ (n : ℕ). take (length m - size + n) m) r ≡ unpadded p size m
by_block p size m block r some whole is =
    let cut : ℕ → List ℕ = λ n. take (length m - size + n) m in
    let last : List ℕ = drop (length m - size) m in
    sym (ap (λ (t : Bool). if t then None else option_map cut (unpadded_from p last 0 (suc (length last)))) (ne_eqb (length m) 0 some)
    ∙ ap (λ (xs : List ℕ). option_map cut (unpadded_from p xs 0 (suc (length xs)))) (sym whole)
    ∙ ap (option_map cut) is)

pub returns-in_err-count-clause-ended : goal.returns-in_err-count-clause-ended
returns-in_err-count-clause-ended c =
    let m = c.args.to.now in
    let at : ℕ = length m - c.args.size in
    let block : List ℕ = take (length m - at) (drop at m) in
    let whole : block ≡ drop at m = take_all (length m - at) (drop at m) (omega (arith, length-drop at m)) in
    let some = eqb-false (length m) 0 (sym c.is_empty.ensures ∙ c.if-is_empty.false) in
    let none = c.in_err-count.ensures.none in
    ap (λ (r : Option ℕ). option_map (λ (n : ℕ). take n m) r) c.from_residual.ensures
    ∙ by_block c.args.padding c.args.size m block None some whole
    (no_place c.args.padding block 0 (suc (length block)) (λ j below. none j (omega (arith, below))))

pub returns-clause-ended : goal.returns-clause-ended
returns-clause-ended c =
    let m = c.args.to.now in
    let at : ℕ = length m - c.args.size in
    let block : List ℕ = take (length m - at) (drop at m) in
    let whole : block ≡ drop at m = take_all (length m - at) (drop at m) (omega (arith, length-drop at m)) in
    let some = eqb-false (length m) 0 (sym c.is_empty.ensures ∙ c.if-is_empty.false) in
    let within = c.in_ok-count.ensures.within in
    by_block c.args.padding c.args.size m block (Some c.in_ok-count.count) some whole
    (first_place c.args.padding block 0 (suc (length block)) c.in_ok-count.count (omega arith) (omega (arith, within)) c.in_ok-count.ensures.found
    c.in_ok-count.ensures.least)
