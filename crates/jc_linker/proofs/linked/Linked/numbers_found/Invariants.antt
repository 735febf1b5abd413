use Rattle.std.proofs.Common.{◌≡◌, ◌≤◌, ◌++◌, ℕ, [], ◌∷◌, drop}
use Rattle.arrayvec.specs.ArrayVec.{array_vec_len}
use Rattle.jc_linker.specs.Answers.{list_append}
use Rattle.jc_linker.specs.Imports.{import_numbers}
use Rattle.jc_linker.proofs.linked.Linked.numbers_found.Given as goal

abbrev pub invariant-loop-token : goal.invariant-loop-token
invariant-loop-token l = record {
  going : import_numbers l.self l.imports ≡ list_append l.numbers.items (import_numbers l.self (drop l.token l.imports));
  as_many : array_vec_len l.numbers ≡ l.token;
}
