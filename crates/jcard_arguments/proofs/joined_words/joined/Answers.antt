use Rattle.std.proofs.Common.{◌∙◌, ◌≡◌, ◌+◌, ◌++◌, ◌∷◌, [], true, false, codes, drop, map, ap, sym, append-nil}
use Rattle.std.specs.Str.{bytes_eq}
use Rattle.std.specs.String.{string_bytes}
use Rattle.std.proofs.lemmas.List.{drop_all, take_rest}
use Rattle.jcard_arguments.specs.JoinedWords.{joined, takes_count}
use Rattle.jcard_arguments.proofs.JoinedWords.{one_more, operands_at, option_at, word_after, word_at}
use Rattle.jcard_arguments.proofs.joined_words.joined.Goals as goal

pub returns-then-eq : goal.returns-then-eq
returns-then-eq c =
    let words = c.args.words.now in
    let place = c.loop-place.place in
    let stay = operands_at string_bytes words place c.index-words-place.result c.loop-place-test.true c.index-words-place.is
    (ap (λ w. bytes_eq w (codes "--")) (sym c.as_str.ensures.value) ∙ sym c.eq.ensures ∙ c.if-eq.true) in
    c.in_ok-push_words.ensures ∙ ap (λ rest. map string_bytes c.loop-place.all.items ++ map string_bytes rest) (take_rest words place)
    ∙ ap (λ rest. map string_bytes c.loop-place.all.items ++ rest) (sym stay) ∙ c.loop-place.invariant

pub loop-place-preserved-then-takes_count : goal.loop-place-preserved-then-takes_count
loop-place-preserved-then-takes_count c =
    let words = c.args.words.now in
    let place = c.loop-place.place in
    let word = c.index-words-place.result in
    let takes : takes_count (string_bytes word) (map string_bytes (drop (place + 1) words)) ≡ true =
    ap (λ w. takes_count w (map string_bytes (drop (place + 1) words))) (sym c.deref.ensures)
    ∙ ap (λ rest. takes_count c.deref.result.now (map string_bytes rest)) (sym (take_rest words (place + 1))) ∙ sym c.takes_count.ensures ∙ c.if-takes_count.true in
    let within = word_after string_bytes words place (string_bytes word) takes in
    let joins = option_at string_bytes words place word c.index-words-place-then-takes_count.result within c.index-words-place.is
    c.index-words-place-then-takes_count.is
    (ap (λ w. bytes_eq w (codes "--")) (sym c.as_str.ensures.value) ∙ sym c.eq.ensures ∙ c.if-eq.false) takes in
    one_more _ _ _ _ _ _ (c.in_ok-push_option.ensures ∙ ap (λ v. map string_bytes c.loop-place.all.items ++ (codes "--lines=" ++ v) ∷ []) c.deref-then-takes_count.ensures) joins c.loop-place.invariant

pub loop-place-preserved : goal.loop-place-preserved
loop-place-preserved c =
    let words = c.args.words.now in
    let place = c.loop-place.place in
    let word = c.index-words-place.result in
    let plain : takes_count (string_bytes word) (map string_bytes (drop (place + 1) words)) ≡ false =
    ap (λ w. takes_count w (map string_bytes (drop (place + 1) words))) (sym c.deref.ensures)
    ∙ ap (λ rest. takes_count c.deref.result.now (map string_bytes rest)) (sym (take_rest words (place + 1))) ∙ sym c.takes_count.ensures ∙ c.if-takes_count.false in
    let stays = word_at string_bytes words place word c.loop-place-test.true c.index-words-place.is
    (ap (λ w. bytes_eq w (codes "--")) (sym c.as_str.ensures.value) ∙ sym c.eq.ensures ∙ c.if-eq.false) plain in
    one_more _ _ _ _ _ _ c.in_ok-push_word.ensures stays c.loop-place.invariant

pub returns : goal.returns
unfolding joined
returns c =
    let words = c.args.words.now in
    sym (append-nil (map string_bytes c.loop-place.all.items))
    ∙ ap (λ rest. map string_bytes c.loop-place.all.items ++ joined (map string_bytes rest)) (sym (drop_all c.loop-place.place words c.loop-place-test.false))
    ∙ c.loop-place.invariant
