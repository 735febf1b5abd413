use Rattle.std.proofs.Common.{◌≡◌, ◌-◌, ◌≤◌, length}
use Rattle.arrayvec.specs.ArrayVec.{array_vec_len}
use Rattle.jc_cap.specs.ClassReading.{records_at, classes_of, record_offsets_or_none}
use Rattle.jc_cap.proofs.RecordWalk.{so_far}
use Rattle.jc_cap.proofs.classes.record_offsets.Given as goal

abbrev pub invariant-loop-rest : goal.invariant-loop-rest
invariant-loop-rest l = record {
  within : array_vec_len l.before ≤ 256;
  inside : length l.rest ≤ length l.info;
  going : so_far l.before.items (records_at (256 - array_vec_len l.before) (length l.info) l.before.items l.rest)
      ≡ record_offsets_or_none (classes_of l.fn.format l.info);
}

abbrev pub decreases-loop-rest : goal.decreases-loop-rest
decreases-loop-rest l = 256 - array_vec_len l.before
