use Rattle.std.proofs.Common.{◌≡◌, ◌++◌, drop, map}
use Rattle.std.specs.Prelude.{option_map}
use Rattle.jcard_attack.specs.Report.{fault_told, row_by, rows_after, rows_text}
use Rattle.jcard_attack.proofs.rows.push_rows.Given as goal

abbrev pub invariant-loop-struck : goal.invariant-loop-struck
invariant-loop-struck l = l.text.items ++ rows_after (option_map row_by l.row) (map (fault_told (map (λ line. line.items) l.instructions)) (drop l.struck-index l.strikes))
    ≡ l.fn.text.items ++ rows_text (map (fault_told (map (λ line. line.items) l.instructions)) l.strikes)
