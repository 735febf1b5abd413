-- What a reader of lines keeps.
use Rattle.std.specs.Prelude.{None, slice_index_or}
use Rattle.jc_platform.specs.declared.reading.Reading.{Reading}
use Rattle.jc_platform.specs.Numbers.{package_number, class_number, method_number}
use Rattle.jc_platform.specs.Rows.{Above}

-- what it keeps as what is above a line
abbrev pub above_of : Reading → Above
above_of r = record {
  extended = r.extended;
  home = r.home;
  class = r.class;
  first = r.first;
  version = λ p. slice_index_or r.versions (package_number p) None;
  class_token = λ c. slice_index_or r.class_tokens (class_number c) None;
  method_token = λ m. slice_index_or r.method_tokens (method_number m) None;
  random = r.random;
}
