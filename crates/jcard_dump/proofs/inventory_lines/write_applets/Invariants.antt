use Rattle.std.proofs.Common.{◌≡◌, Ok}
use Rattle.jcard_dump.specs.InventoryLines.{Tells, applet_text, numbered_lines}
use Rattle.jcard_dump.proofs.inventory_lines.write_applets.Given as goal

abbrev pub invariant-loop-i : goal.invariant-loop-i
invariant-loop-i g l = record {
  told : Tells (g.W.TextOut.contents l.fn.out) (g.W.TextOut.contents l.out) (numbered_lines (applet_text (g.S.WordStore.words l.store)) l.i) (Ok tt);
  failures : g.W.TextOut.failures l.out ≡ g.W.TextOut.failures l.fn.out;
}
