use Rattle.std.proofs.Common.{false, None}
use Rattle.jc_platform.specs.Numbers.{class_count, class_number, method_count, method_number, package_count, package_number}
use Rattle.jc_platform.proofs.Lists.{all_alike}
use Rattle.jc_platform.proofs.reading.Reading.new.Goals as goal

pub returns : goal.returns
returns c = λ i. record {
  extended = false;
  home = None;
  class = None;
  first = None;
  version = λ p. all_alike None package_count (package_number p) i;
  class_token = λ d. all_alike None class_count (class_number d) i;
  method_token = λ m. all_alike None method_count (method_number m) i;
  random = None;
}
