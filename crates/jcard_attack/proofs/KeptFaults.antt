-- What a command comes to on a card that has carried out the lines before it.
use Rattle.std.proofs.Common.{◌≡◌, ◌∙◌, ℕ, ◌+◌, ◌-◌, ◌==◌, if◌then◌else◌, List, [], ◌∷◌, ◌++◌, Option, Some, None, length, length-append, get_or, drop, ap, append_assoc, arith, refl, subst, sym}
use Rattle.std.specs.Prelude.{codes, slice_index}
use Rattle.std.proofs.lemmas.List.{drop_at, get_or_at, same_from_push}
use Rattle.hex.specs.Hex.{encode_upper}
use Rattle.jc_words.specs.Store.{FuseStoreValue}
use Rattle.jc_card.specs.Card.{CardState}
use Rattle.jc_card.specs.State.Power.{Up, planned_card}
use Rattle.jc_card.specs.Session.Requests.{Planned, Response}
use Rattle.jc_card.specs.declared.planned_fault.PlannedFault.{PlannedFault}
use Rattle.jcard_script.specs.Begun.{AnswersGlitched, AnswersLines}
use Rattle.jcard_script.specs.Script.{Form, IsWrittenFor, faults_text, planned_text, text_of}
use Rattle.jcard_script.specs.ScriptStates.{IsSessionStore}
use Rattle.jcard_script.specs.Session.{IsUnbroken}
use Rattle.std.specs.Str.Lines.{strip_carriage_return}
use Rattle.jcard_script.proofs.LongCommands.{answered_line}
use Rattle.jcard_sweeps.specs.Runs.{Runs, store_of}
use Rattle.jcard_sweeps.specs.LastLine.{IsLastLine}
use Rattle.jcard_attack.specs.Aftermaths.{IsAftermath, attacked_script, ended_line, glitch_line, probed_script}
use Rattle.jcard_attack.specs.KeptCard.{HasStruck, IsKeptFor, Leaves}
use Rattle.jcard_attack.specs.declared.aftermaths.Attacked.{Attacked}
use Rattle.jcard_sweeps.specs.declared.at_command.AtCommand.{AtCommand}
use Rattle.jcard_attack.specs.declared.outcomes.Aftermath.{Aftermath}
use Rattle.jcard_attack.proofs.Begins.{HasPrinted, begun_ended, begun_ends, begun_more}
use Rattle.jcard_attack.proofs.LastLines.{IsFree, free_test, free_unbroken, hex_free, last_line_is}

-- ---- lines that a line feed ends

planned_ended : (planned : Option PlannedFault) → (l : List ℕ) × (planned_text planned ≡ l ++ 10 ∷ [])
planned_ended None = (codes "planned none", refl)
planned_ended (Some fault) = (codes "planned " ++ faults_text fault, refl)

glitch_ended : (fault : Option PlannedFault) → (l : List ℕ) × (glitch_line fault ≡ l ++ 10 ∷ [])
glitch_ended None = (codes "glitch none", refl)
glitch_ended (Some fault) = (codes "glitch " ++ faults_text fault, refl)

-- the last byte of the line that plans a fault is its line feed
glitch_split : (fault : Option PlannedFault) (line glitch : List ℕ) (last : ℕ) → line ≡ glitch_line fault → line ≡ glitch ++ last ∷ []
    → glitch_line fault ≡ glitch ++ 10 ∷ []
glitch_split fault line glitch last is split =
    let end = glitch_ended fault in
    let same = same_from_push end.0 glitch 10 last (sym end.1 ∙ sym is ∙ split) in
    end.1 ∙ ap (λ l. l ++ 10 ∷ []) same.0

-- a line that has its line feed gets no other
line_stays : (line bytes : List ℕ) → line ≡ bytes ++ 10 ∷ [] → ended_line line ≡ bytes ++ 10 ∷ []
line_stays line bytes e =
    let at : length (bytes ++ 10 ∷ []) - 1 ≡ length bytes = omega (arith, length-append bytes (10 ∷ [])) in
    let last : slice_index (bytes ++ 10 ∷ []) (length (bytes ++ 10 ∷ []) - 1) ≡ 10 = ap (λ n. get_or (bytes ++ 10 ∷ []) n 0) at
    ∙ get_or_at bytes 10 [] 0 (length bytes) refl in
    ap ended_line e ∙ ap (λ b. if b == 10 then bytes ++ 10 ∷ [] else (bytes ++ 10 ∷ []) ++ codes "\n") last

-- ---- the command

script_is : (c : Attacked) (fault : Option PlannedFault) (glitch bytes : List ℕ) → glitch_line fault ≡ glitch ++ 10 ∷ [] → c.line.now ≡ bytes ++ 10 ∷ []
    → c.before.now ++ glitch ++ 10 ∷ [] ++ bytes ++ 10 ∷ [] ≡ attacked_script c fault
script_is c fault glitch bytes planned line =
    let before : List ℕ = c.before.now in
    append_assoc (before ++ glitch ++ 10 ∷ []) bytes (10 ∷ []) ∙ ap (λ l. l ++ (bytes ++ 10 ∷ [])) (append_assoc before glitch (10 ∷ []))
    ∙ ap (λ l. (before ++ l) ++ (bytes ++ 10 ∷ [])) (sym planned) ∙ ap (λ l. (before ++ glitch_line fault) ++ l) (sym (line_stays c.line.now bytes line))

-- a copy of the card that is kept has carried out the command with this fault, or with none
pub has_struck : (words : List ℕ) (c : Attacked) (kept : AtCommand) (fault : Option PlannedFault) (line glitch : List ℕ) (last : ℕ) (response : List ℕ)
    (next : CardState) → IsKeptFor words c kept → line ≡ glitch_line fault → line ≡ glitch ++ last ∷ []
    → AnswersGlitched kept.begun glitch kept.command.items response next → HasStruck words c fault response next
has_struck words c kept fault line glitch last response next for is split answers =
    let card : CardState = kept.begun in
    let planned : Option PlannedFault = answers.0 in
    let form = answers.1 in
    let with = answers.2 in
    let end : CardState = with.0 in
    let faulted : CardState = planned_card planned card in
    let bytes : List ℕ = for.1.0 in
    let printed : List ℕ = for.0.text ++ planned_text planned in
    let written = subst (λ (f : Form). IsWrittenFor f (Up card) (Up faulted) (planned_text planned)) (sym form.1) (Planned planned, (refl, refl), refl) in
    let one = begun_more c.instructions (store_of words) c.before.now card for.0.text (for.0, refl) glitch (planned_text planned) faulted form.0 written in
    let answered = answered_line (Up faulted) (Up end) (strip_carriage_return bytes) kept.command.items (text_of response) for.1.3
    (Response response, with.1, refl) in
    let two = begun_more c.instructions (store_of words) (c.before.now ++ glitch ++ 10 ∷ []) faulted printed one bytes (text_of response) end for.1.2 answered in
    let script = script_is c fault glitch bytes (glitch_split fault line glitch last is split) for.1.1 in
    let at = subst (λ (s : List ℕ). HasPrinted c.instructions (store_of words) s end (printed ++ text_of response)) script two in
    (end, for.0.text, planned, at.0, at.1, with.2)

none_unbroken : IsUnbroken (codes "glitch none")
none_unbroken = free_unbroken (codes "glitch none") (free_test (codes "glitch none") refl)

-- so it comes to what the copy leaves
pub struck_aftermath : (words : List ℕ) (c : Attacked) (fault : Option PlannedFault) (response : List ℕ) (card : CardState) (a : Aftermath)
    → HasStruck words c fault response card → Leaves card c.probe.now a.left → a.answer.items ≡ encode_upper response → IsAftermath words c fault a
struck_aftermath words c fault response card a struck leaves digits =
    let end : CardState = struck.0 in
    let before : List ℕ = struck.1 in
    let line = planned_ended struck.2 in
    let begun = struck.3 in
    let same = struck.5 in
    let after : FuseStoreValue = leaves.0.0 in
    let script : List ℕ = attacked_script c fault in
    let printed : List ℕ = begun.text in
    let store = subst (λ (x : CardState). IsSessionStore (Up x) after) same leaves.0.1 in
    let runs : Runs c.instructions words script printed after = begun_ended c.instructions (store_of words) script end printed (begun, refl) after store in
    let told : printed ≡ (before ++ line.0 ++ 10 ∷ []) ++ (a.answer.items ++ 10 ∷ []) = struck.4
    ∙ ap (λ (l : List ℕ). (before ++ l) ++ text_of response) line.1 ∙ ap (λ (l : List ℕ). l ++ text_of response) (sym (append_assoc before line.0 (10 ∷ [])))
    ∙ ap (λ (l : List ℕ). (before ++ line.0 ++ 10 ∷ []) ++ (l ++ 10 ∷ [])) (sym digits) in
    let free = subst IsFree (sym digits) (hex_free response) in
    let is_last : IsLastLine printed a.answer.items = subst (λ (t : List ℕ). IsLastLine t a.answer.items) (sym told)
    (last_line_is (before ++ line.0) a.answer.items free) in
    let none = begun_more c.instructions (store_of words) script end printed (begun, refl) (codes "glitch none") (planned_text None) (planned_card None end)
    none_unbroken (Planned None, (refl, refl), refl) in
    let answers = subst (λ (x : CardState). AnswersLines x c.probe.now a.left.answers.items leaves.1) same leaves.2 in
    let ends = begun_ends c.instructions (store_of words) (script ++ codes "glitch none" ++ 10 ∷ []) (planned_card None end) (printed ++ planned_text None) none
    c.probe.now a.left.answers.items leaves.1 answers in
    let probed : script ++ codes "glitch none" ++ 10 ∷ [] ++ c.probe.now ≡ probed_script c script =
    ap (λ (l : List ℕ). l ++ c.probe.now) (append_assoc script (codes "glitch none") (10 ∷ [])) in
    let all : Runs c.instructions words (probed_script c script) ((printed ++ planned_text None) ++ a.left.answers.items) leaves.1 =
    subst (λ (s : List ℕ). Runs c.instructions words s ((printed ++ planned_text None) ++ a.left.answers.items) leaves.1) probed ends in
    let rest : a.left.answers.items ≡ drop (length printed + length (codes "planned none\n")) ((printed ++ planned_text None) ++ a.left.answers.items) =
    sym (drop_at (printed ++ planned_text None) a.left.answers.items (length printed + length (codes "planned none\n"))
    (length-append printed (planned_text None))) in
    (printed, after, runs, is_last, (leaves.0.2, ((printed ++ planned_text None) ++ a.left.answers.items, leaves.1, all, rest)))
