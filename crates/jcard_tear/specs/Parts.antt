-- A part of the cuts of a command.
use Rattle.std.specs.Prelude.{ℕ, ◌≡◌, List, Option}
use Rattle.jcard_outcomes.specs.declared.part.Part.{Part}
use Rattle.jcard_sweeps.specs.Names.{sweep_name}
use Rattle.jcard_sweeps.specs.ScriptLines.{Line}
use Rattle.jcard_tear.specs.Sweep.{IsProbe, IsSweptBy}
use Rattle.jcard_sweeps.specs.declared.command.Behind.{Behind}
use Rattle.jcard_sweeps.specs.declared.command.Command.{Command}

-- part i of n has the cuts after k writes for which k mod n = i - 1: after i - 1 writes and each n-th number after it, up to the first
-- of these that does not cut the command; what was before the command, its answer and what it leaves are those of the whole sweep
pub record IsPartSwept (words : List ℕ) (c : Command) (first n : ℕ) (p : Part) : Type 0 where
  pub first_is : p.first ≡ first
  pub step_is : p.step ≡ n
  pub name : p.name.items ≡ sweep_name words c n
  pub swept : IsSweptBy words c first n p.sweep

-- a part of the cuts of the command in this line, after which this was to come
abbrev pub IsLinePart : List ℕ → Option (List ℕ) → Behind → Line → ℕ → ℕ → Part → Type 0
IsLinePart words given behind l first n p = (c : Command) × (c.before.now ≡ l.before) × (c.line.now ≡ l.text) × (c.behind ≡ behind)
    × IsProbe behind.instructions words given l.before c.probe.now × IsPartSwept words c first n p
