-- What holds of every row holds of a name's own: facts of the lists, read back.
use Rattle.std.proofs.Common.{◌≡◌, ◌∙◌, ap, sym, true, Bool, arith}
use Rattle.std.specs.List.{list_all}
use Rattle.jc_platform.specs.declared.names.PlatformClass.{PlatformClass}
use Rattle.jc_platform.specs.declared.names.PlatformMethod.{PlatformMethod}
use Rattle.jc_platform.specs.NamePlaces.{entry_of_class, entry_of_method}
use Rattle.jc_platform.specs.Names.{ClassEntry, MethodEntry, classes, methods, no_class, no_method}
use Rattle.jc_platform.specs.Numbers.{class_number, method_number}
use Rattle.jc_platform.proofs.Facts.{at_number, class_places, method_places}
use Rattle.jc_platform.proofs.Lists.{all_at}
use Rattle.jc_platform.proofs.Numbers.{class_below, method_below}

pub every_class : (q : ClassEntry → Bool) → list_all q classes ≡ true → (c : PlatformClass) → q (entry_of_class c) ≡ true
every_class q all c = all_at q classes (class_number c) no_class all (omega (arith, class_below c, class_places))

pub every_method : (q : MethodEntry → Bool) → list_all q methods ≡ true → (m : PlatformMethod) → q (entry_of_method m) ≡ true
every_method q all m =
    ap q (sym (at_number m)) ∙ all_at q methods (method_number m) no_method all (omega (arith, method_below m, method_places))
