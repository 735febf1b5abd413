use Rattle.std.proofs.Common.{rules, ◌≡◌, ◌∙◌, ℕ, length, ap, subst, sym}
use Rattle.std.proofs.lemmas.Bool.{false≢true}
use Rattle.jc_linker.specs.Values.{Packages}
use Rattle.jc_packages.specs.Sound.{IsSound}
use Rattle.jc_card.proofs.Linked.{as_many}
use Rattle.jc_card.proofs.PoweredUp.{has_packages, none_fit}
use Rattle.jc_card.proofs.power_up.link_packages.Goals as goal

pub is_sound-requires-clause-linked : goal.is_sound-requires-clause-linked
is_sound-requires-clause-linked g c =
    ap (λ (p : Packages). length p.loaded) c.get.ensures ∙ as_many c.args.table.now c.args.heap.now.now c.in_ok-linked.linked c.in_ok-linked.ensures.linked

pub returns-then-not-is_sound-clause-cause : goal.returns-then-not-is_sound-clause-cause
returns-then-not-is_sound-clause-cause g c =
    let h = c.args.heap.now.now in
    let own : ℕ = c.first_objects-fixed.result.1 in
    none_fit c.args.table.now h c.in_ok-linked.linked own c.in_ok-linked.ensures.linked (search rules)
    (λ fit. absurd (false≢true (sym c.if-not-is_sound.true ∙ c.is_sound.ensures.1 (subst (λ (p : Packages). IsSound p h own) (sym c.get.ensures) fit))))

pub returns-clause-fit : goal.returns-clause-fit
returns-clause-fit g c =
    let h = c.args.heap.now.now in
    let own : ℕ = c.first_objects-fixed.result.1 in
    has_packages c.args.table.now h c.in_ok-linked.linked own c.in_ok-linked.ensures.linked (search rules)
    (subst (λ (p : Packages). IsSound p h own) c.get.ensures (c.is_sound.ensures.0 c.if-not-is_sound.false))

pub returns-clause-parts : goal.returns-clause-parts
returns-clause-parts g c = record {
  ram = c.requires.cleared;
  sizes = c.requires.sizes;
  packages = (c.args.table.now, c.requires.reads, c.in_ok-linked.ensures.linked, search rules);
  command = c.requires.command;
  sent = c.requires.sent;
}
