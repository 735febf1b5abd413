-- Commands that are longer than any command.
use Rattle.std.proofs.Common.{◌≡◌, ℕ, ◌+◌, ◌<◌, ◌≤◌, ◌==◌, ◌&&◌, ◌||◌, nat_lt, nat_le, Bool, true, false, if◌then◌else◌, List, length, take, slice_index, Option, None}
use Rattle.std.proofs.Common.{refl, sym, ◌∙◌, ap, subst, arith, inl, inr, length-take}
use Rattle.std.proofs.lemmas.Bool.{cases_lt, ne_eqb}
use Rattle.std.proofs.lemmas.Bool.Decides.{nat_tests}
use Rattle.std.proofs.lemmas.List.{take_all}
use Rattle.std.proofs.lemmas.Grind.{common_steps}
use Rattle.jc_memory.specs.Commands.{has_extended_length, most_command, two_bytes}
use Rattle.hex.specs.Hex.{IsBytes}
use Rattle.jc_card.specs.Command.{apdu_of, has_extended_form, has_short_form}
use Rattle.jc_memory.specs.Programs.{Completes, TearLeaves}
use Rattle.jc_card.specs.Card.{CardState}
use Rattle.jc_card.specs.Answers.{exchange, exchange_of_apdu}
use Rattle.jc_card.specs.Dispatching.{with_response}
use Rattle.jc_card.specs.State.Power.{Up, Off}
use Rattle.jc_card.specs.Session.Requests.{Command, Reply, Response, Down}
use Rattle.jc_card.specs.Session.Serving.{AnswersCommandOver}
use Rattle.jcard_script.specs.Line.{IsCommandOf}
use Rattle.jcard_script.specs.Script.{IsAnswered, IsWrittenFor, form_of}
use Rattle.jcard_script.specs.ScriptStates.{ScriptState, IsStoreLeft, fuse_kind}
use Rattle.jcard_script.proofs.Decoding.{command_bytes}
use Rattle.jcard_script.proofs.Words.{form_command}

neither : (a b x d e : Bool) → b ≡ false → d ≡ false → e ≡ false → (a && (b || (x && (d || e)))) ≡ false
neither true b true d e hb hd he = rw (hb, hd, he) refl
neither true b false d e hb hd he = rw hb refl
neither false b x d e hb hd he = refl

-- bytes that are more than any command has have neither form
short_none : (c : List ℕ) → most_command < length c → slice_index c 4 < 256 → has_short_form c ≡ false
short_none c h k =
    let second : nat_le (length c) 5 ≡ false = grind (arith, nat_tests) in
    let five : (length c == 5 + slice_index c 4) ≡ false = ne_eqb (length c) (5 + slice_index c 4) (λ e. omega arith) in
    let six : (length c == 6 + slice_index c 4) ≡ false = ne_eqb (length c) (6 + slice_index c 4) (λ e. omega arith) in
    neither (nat_le 4 (length c)) (nat_le (length c) 5) (nat_lt 0 (slice_index c 4)) (length c == 5 + slice_index c 4) (length c == 6 + slice_index c 4)
    second five six

extended_none : (c : List ℕ) → most_command < length c → slice_index c 5 < 256 → slice_index c 6 < 256 → has_extended_form c ≡ false
extended_none c h k l =
    let first : (length c == 7) ≡ false = ne_eqb (length c) 7 (λ e. omega arith) in
    let seven : (length c == 7 + two_bytes c 5) ≡ false = ne_eqb (length c) (7 + two_bytes c 5) (λ e. omega arith) in
    let nine : (length c == 9 + two_bytes c 5) ≡ false = ne_eqb (length c) (9 + two_bytes c 5) (λ e. omega arith) in
    neither (has_extended_length c) (length c == 7) (nat_lt 0 (two_bytes c 5)) (length c == 7 + two_bytes c 5) (length c == 9 + two_bytes c 5) first seven nine

-- so they are no command
apdu_none : (c : List ℕ) → most_command < length c → slice_index c 4 < 256 → slice_index c 5 < 256 → slice_index c 6 < 256 → apdu_of c ≡ None
apdu_none c h k l m = rw (short_none c h k, extended_none c h l m) refl

-- what the first 65,545 bytes ask for the whole command asks for
exchanging_whole : (whole given : List ℕ) (card : CardState) → IsBytes whole → given ≡ take 65545 whole → exchange given card ≡ exchange whole card
unfolding exchange
exchanging_whole whole given card bytes e =
    elim (cases_lt (length whole) 65546) [
      | inl short ↦ ap (λ c. exchange c card) (e ∙ take_all 65545 whole (omega arith))
      | inr long ↦
          let count : length given ≡ 65545 = ap length e ∙ length_first whole long in
          let fourth : slice_index given 4 ≡ slice_index whole 4 = ap (λ l. slice_index l 4) e ∙ first_kept 65545 whole 4 (omega arith) in
          let fifth : slice_index given 5 ≡ slice_index whole 5 = ap (λ l. slice_index l 5) e ∙ first_kept 65545 whole 5 (omega arith) in
          let sixth : slice_index given 6 ≡ slice_index whole 6 = ap (λ l. slice_index l 6) e ∙ first_kept 65545 whole 6 (omega arith) in
          ap (λ o. exchange_of_apdu given o card) (apdu_none given (omega arith) (rw fourth (bytes 4)) (rw fifth (bytes 5)) (rw sixth (bytes 6)))
          ∙ sym (ap (λ o. exchange_of_apdu whole o card) (apdu_none whole (omega arith) (bytes 4) (bytes 5) (bytes 6)))
    ]
  where
    length_first : (whole : List ℕ) → 65546 ≤ length whole → length (take 65545 whole) ≡ 65545
    length_first whole h = omega (arith, length-take 65545 whole)

    first_kept : (n : ℕ) (whole : List ℕ) (k : ℕ) → k < n → slice_index (take n whole) k ≡ slice_index whole k
    first_kept n whole k h = grind (arith, common_steps)

-- so the first 65,545 bytes are answered as the whole command
pub answered_whole : (s t : ScriptState) (whole given : List ℕ) (reply : Reply) → IsBytes whole → given ≡ take 65545 whole
    → AnswersCommandOver fuse_kind s given reply t → AnswersCommandOver fuse_kind s whole reply t
answered_whole (Up card) (Up next) whole given (Response r) bytes same h =
    subst (λ d. Completes d card.memory (with_response next r) next.memory) (exchanging_whole whole given card bytes same) h
answered_whole (Up card) (Off b store) whole given Down bytes same h =
    (h.0, subst (λ d. IsStoreLeft (TearLeaves d card.memory) card.memory.heap store) (exchanging_whole whole given card bytes same) h.1)
answered_whole (Off b store) (Off d next) whole given Down bytes same h = h
answered_whole (Off b store) (Up next) whole given Down bytes same none = absurd none
answered_whole s t whole given reply bytes same none = absurd none

-- what is answered to a command is written for the line that is the command
pub answered_line : (s t : ScriptState) (line given text : List ℕ) → IsCommandOf given (form_of line) → IsAnswered (Command given) s t text
    → IsWrittenFor (form_of line) s t text
answered_line s t line given text k a =
    let whole : IsAnswered (Command k.0) s t text =
    (a.0, answered_whole s t k.0 given a.0 (command_bytes line k.0 (form_command line k.0 k.1)) k.2 a.1, a.2) in
    rw k.1 whole
