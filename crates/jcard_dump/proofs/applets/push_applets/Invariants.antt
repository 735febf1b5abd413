use Rattle.std.proofs.Common.{Ok}
use Rattle.jcard_dump.specs.Applets.{applet_lines}
use Rattle.jcard_dump.specs.Fault.{Lists, each_line}
use Rattle.jcard_dump.proofs.applets.push_applets.Given as goal

abbrev pub invariant-loop-i : goal.invariant-loop-i
invariant-loop-i g l = Lists l.fn.text.items l.text.items (each_line (applet_lines (g.S.WordStore.words l.store)) l.i) (Ok tt)
