-- The rules of a command, entry by entry, and the commands of the program, one by one.
use Rattle.std.proofs.Common.{◌≡◌, ◌∙◌, true, List, [], ◌∷◌, length, refl, sym, ap, arith}
use Rattle.clap.specs.Words.{App, Rule, new_app, with_rule, with_subcommand}
use Rattle.jcard_arguments.specs.Grammar.{grammar_of, grammars_of, rule_by, rules_of, with_commands, with_rules}
use Rattle.jcard_arguments.specs.declared.grammar.Entry.{Entry}
use Rattle.jcard_arguments.specs.declared.grammar.Usage.{Usage}

-- no entry is left
pub no_entries : (a : App) (all : List Entry) → length all ≡ 0 → a ≡ with_rules a (rules_of all)
no_entries a [] e = refl
no_entries a (x ∷ xs) e = absurd (omega arith)

-- the first entry, and then the others
pub more_entries : (a b c : App) (all others : List Entry) (entry : Entry) → all ≡ entry ∷ others → b ≡ with_rule a (rule_by entry.kind entry.name.now)
    → c ≡ with_rules b (rules_of others) → c ≡ with_rules a (rules_of all)
more_entries a b c all others entry whole one rest = rest ∙ ap (λ (d : App). with_rules d (rules_of others)) one
    ∙ sym (ap (λ (es : List Entry). with_rules a (rules_of es)) whole)

-- rules leave a command as plain as it is
pub stays_plain : (a : App) (rules : List Rule) → (with_rules a rules).top.is_plain ≡ a.top.is_plain
stays_plain a [] = refl
stays_plain a (rule ∷ rules) = stays_plain (with_rule a rule) rules

pub is_plain : (command : App) (usage : Usage) → command ≡ grammar_of usage → command.top.is_plain ≡ true
is_plain command usage same = ap (λ (a : App). a.top.is_plain) same ∙ stays_plain (new_app usage.name.now) (rules_of usage.entries.now)

-- no command is left
pub no_commands : (a : App) (all : List Usage) → length all ≡ 0 → a ≡ with_commands a (grammars_of all)
no_commands a [] e = refl
no_commands a (x ∷ xs) e = absurd (omega arith)

-- the first command, and then the others
pub more_commands : (a b c : App) (all others : List Usage) (usage : Usage) → all ≡ usage ∷ others → b ≡ with_subcommand a (grammar_of usage).top
    → c ≡ with_commands b (grammars_of others) → c ≡ with_commands a (grammars_of all)
more_commands a b c all others usage whole one rest = rest ∙ ap (λ (d : App). with_commands d (grammars_of others)) one
    ∙ sym (ap (λ (us : List Usage). with_commands a (grammars_of us)) whole)
