use Rattle.std.proofs.Common.{◌≡◌, ◌≤◌, ◌-◌, ◌++◌}
use Rattle.jc_objects.specs.Changes.{words_text}
use Rattle.jc_objects.proofs.changes.push_words.Given as goal

abbrev pub invariant-loop-address : goal.invariant-loop-address
invariant-loop-address l = record {
  told : l.text.items ≡ l.fn.text.items ++ words_text l.objects l.now l.first (l.address - l.first);
  further : l.first ≤ l.address;
  close : l.address - l.first ≤ l.end - l.first;
}
