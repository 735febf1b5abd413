-- What is lent from a Method component, without where it lies.
use Rattle.std.specs.Prelude.{Option, Some, None}
use Rattle.jc_cap.specs.declared.methods.Method.{Method}
use Rattle.jc_cap.specs.declared.methods.Methods.{Methods}
use Rattle.jc_cap.specs.Methods.{MethodParts, MethodText}

abbrev pub method_parts : Methods → MethodParts
method_parts m = record { handlers = m.handlers; code = m.code.now }

abbrev pub method_text : Method → MethodText
method_text m = record { header = m.header; bytes = m.bytes.now }

abbrev pub method_value : Option Method → Option MethodText
method_value (Some m) = Some (method_text m)
method_value None = None
