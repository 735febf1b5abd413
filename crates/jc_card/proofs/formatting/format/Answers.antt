use Rattle.std.proofs.Common.{arith, rules, refl}
use borrow.Enum.Total.{values_d}
use Rattle.jc_platform.specs.contracts.fault.TableFault.{enum}
use Rattle.jc_card.proofs.FormatFaults.{line_refused}
use Rattle.jc_card.proofs.formatting.format.Goals as goal

pub returns-in-Err-BadTable : goal.returns-in-Err-BadTable
returns-in-Err-BadTable g c = (
  (
    omega (arith, c.size-size.ensures, c.if-size-lt-LEAST_SIZE.false),
    c.is_capacity.ensures.0 c.if-not-is_capacity.false,
    c.are_sizes.ensures.0 c.if-not-are_sizes.false,
    line_refused (λ f. (values_d enum 0 (0, tt {0}) f).0) (λ k. refl) c.in-Err-BadTable.field-0 c.args.text.now c.in-Err-BadTable.ensures,
  ),
  refl,
)

pub returns-in-Ok-make_image : goal.returns-in-Ok-make_image
returns-in-Ok-make_image g c =
    let made = c.in-Ok-make_image.ensures in (
      c.in-Ok.table,
      record {
        enough = search rules;
        entries = c.is_capacity.ensures.0 c.if-not-is_capacity.false;
        sizes = c.are_sizes.ensures.0 c.if-not-are_sizes.false;
        reads = c.in-Ok.ensures;
        space = search rules;
      },
      record {
        made = made.made;
        heap = made.heap;
        front = made.front;
        size = made.size;
        is_up = made.up;
        none_refused = made.none_refused;
      },
    )

pub returns-in-Err : goal.returns-in-Err
returns-in-Err g c =
    let stopped = c.in-Err.ensures in (
      (
        c.in-Ok.table,
        record {
          enough = search rules;
          entries = c.is_capacity.ensures.0 c.if-not-is_capacity.false;
          sizes = c.are_sizes.ensures.0 c.if-not-are_sizes.false;
          reads = c.in-Ok.ensures;
          space = search rules;
        },
      ),
      record {
        is_down = stopped.down;
        one_refused = stopped.refused;
        size = stopped.size_kept;
        unmarked = stopped.unmarked;
      },
    )
