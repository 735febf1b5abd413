use Rattle.std.proofs.Common.{◌≡◌, ◌+◌, ◌≤◌, ◌++◌, length}
use Rattle.jc_frames.specs.Frames.{with_stack}
use Rattle.jc_frames.proofs.frames.Frames.pop_many.Given as goal

abbrev pub invariant-loop-done : goal.invariant-loop-done
invariant-loop-done l = record {
  others : l.self ≡ with_stack l.fn.self l.self.current.stack;
  count : length l.top.items ≡ l._done;
  same : l.top.items ++ l.self.current.stack ≡ l.fn.self.current.stack;
  room : length l.self.current.stack + l._done ≤ l.self.current.limit;
}
