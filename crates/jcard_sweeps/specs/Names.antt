-- The name of a sweep, by which its parts know one another.
use Rattle.std.specs.Prelude.{ℕ, ◌==◌, ◌++◌, Bool, List, codes, decimal, length, flat_map, if◌then◌else◌, Option, Some, None}
use Rattle.byteorder.specs.Endian.{big_bytes}
use Rattle.hex.specs.Hex.{encode_lower}
use Rattle.sha1.specs.Sha1.{sha1}
use Rattle.jc_card.specs.Dispatching.{usual_budget}
use Rattle.jcard_outcomes.specs.SweepKind.{mark_of}
use Rattle.jcard_outcomes.specs.declared.sweep_kind.SweepKind.TheVariants.{Cuts, Commands}
use Rattle.jcard_sweeps.specs.declared.command.Behind.{Behind}
use Rattle.jcard_sweeps.specs.declared.command.Command.{Command}

-- a text after its length
abbrev pub measured : List ℕ → List ℕ
measured text = decimal (length text) ++ codes " " ++ text

-- the most instructions a command, where they are not the usual ones
abbrev pub instructions_text : ℕ → List ℕ
instructions_text n = if n == usual_budget then codes "" else codes "instructions " ++ decimal n ++ codes " "

-- whether changes are reported, the most instructions a command, and the number of parts
abbrev pub options_text : Behind → ℕ → List ℕ
options_text behind parts = (if behind.objects then codes "objects " else codes "") ++ instructions_text behind.instructions ++ decimal parts

-- what is swept, and how: the words of the image, the script up to the command, the command, the probe and the options
unfoldable pub swept_text : List ℕ → Command → ℕ → List ℕ
swept_text words c parts = measured (flat_map (big_bytes 2) words) ++ measured c.before.now ++ measured c.line.now ++ measured c.probe.now
    ++ options_text c.behind parts

-- the name: the SHA-1 of that, in hexadecimal, and how many recoveries are cut after each cut
abbrev pub sweep_name : List ℕ → Command → ℕ → List ℕ
sweep_name words c parts = encode_lower (sha1 (swept_text words c parts)) ++ mark_of (Cuts c.behind.depth)

-- the lines of a probe, if any are given
abbrev pub probe_text : Option (List ℕ) → List ℕ
probe_text None = codes "no probe "
probe_text (Some given) = codes "probe " ++ measured given

-- what is swept, and how, where each command of a script is: the words of the image, the script, the probe and the options
unfoldable pub commands_text : List ℕ → List ℕ → Option (List ℕ) → Behind → ℕ → List ℕ
commands_text words script given behind parts = measured (flat_map (big_bytes 2) words) ++ measured script ++ probe_text given
    ++ mark_of (Cuts behind.depth) ++ codes " " ++ options_text behind parts

-- its name
abbrev pub commands_name : List ℕ → List ℕ → Option (List ℕ) → Behind → ℕ → List ℕ
commands_name words script given behind parts = encode_lower (sha1 (commands_text words script given behind parts)) ++ mark_of Commands
