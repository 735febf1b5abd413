-- Which method tables of the Class component name methods.
use Rattle.std.specs.Prelude.{ℕ, Bool, true, false, ◌&&◌, ◌||◌, List, [], ◌∷◌, ◌==◌}
use Rattle.jc_cap.specs.declared.class_records.ClassRecord.{ClassRecord}
use Rattle.jc_cap.specs.declared.class_records.ClassRecord.TheVariants as records
use Rattle.jc_cap.specs.Methods.{MethodParts}
use Rattle.jc_cap.specs.MethodReading.{has_room}
use Rattle.jc_cap.specs.ClassValues.{RecordAt, contents_of}

abbrev pub all_of_list : {A : Type 0} → (A → Bool) → List A → Bool
all_of_list test [] = true
all_of_list test (x ∷ xs) = test x && all_of_list test xs

-- a method's offset; in a public table also 65535, for a method that is inherited from another package's class
abbrev pub entry_fits : MethodParts → Bool → ℕ → Bool
entry_fits m inherits offset = (inherits && offset == 65535) || has_room m offset

abbrev pub table_fits : MethodParts → Bool → List ℕ → Bool
table_fits m inherits offsets = all_of_list (entry_fits m inherits) offsets

abbrev pub record_fits : MethodParts → ClassRecord → Bool
record_fits m (records.Interface i) = true
record_fits m (records.Class c) = table_fits m true c.tables.public_methods && table_fits m false c.tables.package_methods

abbrev pub tables_fit : MethodParts → List RecordAt → Bool
tables_fit m rs = all_of_list (record_fits m) (contents_of rs)
