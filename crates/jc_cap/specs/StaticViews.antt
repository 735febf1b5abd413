-- What is lent from a StaticField component, without where it lies.
use Rattle.std.specs.Prelude.{◌≡◌, length, Result, Ok}
use Rattle.jc_cap.specs.declared.fault.CapFault.{CapFault}
use Rattle.jc_cap.specs.Reading.{◌>>=◌}
use Rattle.jc_cap.specs.declared.static_arrays.ArrayInit.{ArrayInit}
use Rattle.jc_cap.specs.declared.statics.StaticCounts.{StaticCounts}
use Rattle.jc_cap.specs.declared.statics.StaticFields.{StaticFields}
use Rattle.jc_cap.specs.StaticValues.{StaticArray, StaticParts}

abbrev pub static_array : ArrayInit → StaticArray
static_array a = record { element_type = a.element_type; values = a.values.now }

abbrev pub static_parts : StaticFields → StaticParts
static_parts s = record {
  image_size = s.image_size;
  reference_count = s.reference_count;
  arrays = s.arrays;
  default_value_count = s.default_value_count;
  non_default_values = s.non_default_values.now;
}

-- the numbers that it states
abbrev pub static_counts : StaticParts → StaticCounts
static_counts s = record {
  image_size = s.image_size;
  reference_count = s.reference_count;
  array_count = length s.arrays;
  default_value_count = s.default_value_count;
  non_default_count = length s.non_default_values;
}

-- it can be read, and states these numbers
abbrev pub TellsCounts : StaticCounts → Result StaticParts CapFault → Type 0
TellsCounts counts read = (s : StaticParts) × (read ≡ Ok s) × (counts ≡ static_counts s)

-- the same of one that is read; or the fault of reading it
abbrev pub counts_or_none : Result StaticParts CapFault → Result StaticCounts CapFault
counts_or_none read = read >>= λ s. Ok (static_counts s)
