-- The rows of the instruction table from a group on.
use Rattle.std.specs.Prelude.{List, ◌++◌, map}
use Rattle.jc_frames.specs.Table.{Row, arithmetic, arrays, calls, conditions, in_short, in_wide, instance_fields, jumps, locals, objects, returns, stack, static_fields, wide_instance_fields}

abbrev pub from_wide : List Row
from_wide = map in_wide conditions

abbrev pub from_objects : List Row
from_objects = objects ++ from_wide

abbrev pub from_arrays : List Row
from_arrays = arrays ++ from_objects

abbrev pub from_jumps : List Row
from_jumps = jumps ++ from_arrays

abbrev pub from_arithmetic : List Row
from_arithmetic = arithmetic ++ from_jumps

abbrev pub from_wide_instance_fields : List Row
from_wide_instance_fields = wide_instance_fields ++ from_arithmetic

abbrev pub from_instance_fields : List Row
from_instance_fields = instance_fields ++ from_wide_instance_fields

abbrev pub from_static_fields : List Row
from_static_fields = static_fields ++ from_instance_fields

abbrev pub from_returns : List Row
from_returns = returns ++ from_static_fields

abbrev pub from_calls : List Row
from_calls = calls ++ from_returns

abbrev pub from_branches : List Row
from_branches = map in_short conditions ++ from_calls

abbrev pub from_stack : List Row
from_stack = stack ++ from_branches

abbrev pub from_locals : List Row
from_locals = locals ++ from_stack
