-- Reading the Class component: records to the end of the info.
use Rattle.std.specs.Prelude.{ℕ, zero, suc, ◌+◌, ◌/◌, ◌%◌, ◌-◌, Bool, true, false, ◌||◌, List, [], ◌∷◌, ◌++◌, length, Result, Ok, Err, nat_lt, ◌==◌}
use Rattle.std.specs.Prelude.{if◌then◌else◌}
use Rattle.jc_cap.specs.declared.fault.CapFault.{CapFault}
use Rattle.jc_cap.specs.declared.fault.CapFault.TheVariants.{BadOffset, Remote}
use Rattle.jc_cap.specs.declared.formats.Format.{Format}
use Rattle.jc_cap.specs.declared.formats.Format.TheVariants.{V2_1, V2_2}
use Rattle.jc_cap.specs.declared.class_refs.ClassRef.{ClassRef}
use Rattle.jc_cap.specs.declared.class_refs.ClassRef.TheVariants.{Internal, External}
use Rattle.jc_cap.specs.Reading.{◌>>=◌, Field, u1_at, u2_at, run_at, many_at}
use Rattle.jc_cap.specs.ClassRefs.{class_ref_at}
use Rattle.jc_cap.specs.declared.class_records.RecordFlags.{RecordFlags}
use Rattle.jc_cap.specs.declared.class_records.ReferenceFields.{ReferenceFields}
use Rattle.jc_cap.specs.declared.class_reading.TableSizes.{TableSizes}
use Rattle.jc_cap.specs.declared.class_records.MethodTables.{MethodTables}
use Rattle.jc_cap.specs.declared.class_records.InterfaceInfo.{InterfaceInfo}
use Rattle.jc_cap.specs.declared.class_records.ClassInfo.{ClassInfo}
use Rattle.jc_cap.specs.declared.class_records.ClassRecord.{ClassRecord}
use Rattle.jc_cap.specs.ClassLists.{implemented_at}
use Rattle.jc_cap.specs.ClassValues.{RecordAt, offsets_of}
use Rattle.jc_cap.specs.declared.class_reading.Known.{Known}
use Rattle.jc_cap.specs.declared.class_reading.Known.TheVariants.{Earlier, Any}
use Rattle.jc_cap.specs.declared.class_records.ClassRecord.TheVariants as records

abbrev pub is_among : ℕ → List ℕ → Bool
is_among n [] = false
is_among n (x ∷ xs) = n == x || is_among n xs

-- a class of this package stands at one of these offsets
abbrev pub is_earlier : List ℕ → ClassRef → Bool
is_earlier before (Internal offset) = is_among offset before
is_earlier before (External package_token class_token) = true

abbrev pub any_class : ClassRef → Bool
any_class class = true

-- the superclass or a superinterface, which is to be known
unfoldable pub super_at : (ClassRef → Bool) → List ℕ → Field ClassRef
super_at known bytes = do
  class ← class_ref_at bytes
  if known class.0 then Ok class else Err BadOffset

-- the first field that holds a reference, and how many do; they lie among the declared fields
unfoldable pub references_at : ℕ → List ℕ → Field ReferenceFields
references_at size bytes = do
  first ← u1_at bytes
  count ← u1_at first.1
  if count.0 == 0 then Ok (record { first_token = first.0; count = count.0 }, count.1)
      else if nat_lt size (first.0 + count.0) then Err BadOffset
      else Ok (record { first_token = first.0; count = count.0 }, count.1)

-- the bases and the lengths of the public and the package table
unfoldable pub table_sizes_at : List ℕ → Field TableSizes
table_sizes_at bytes = do
  public_base ← u1_at bytes
  public_count ← u1_at public_base.1
  package_base ← u1_at public_count.1
  package_count ← u1_at package_base.1
  Ok (
    record { public_base = public_base.0; public_count = public_count.0; package_base = package_base.0 % 128; package_count = package_count.0 },
    package_count.1,
  )

-- both tables; the high bit of the package table's base is masked off
unfoldable pub tables_at : List ℕ → Field MethodTables
tables_at bytes = do
  sizes ← table_sizes_at bytes
  publics ← many_at u2_at sizes.0.public_count sizes.1
  packages ← many_at u2_at sizes.0.package_count publics.1
  Ok (record { public_base = sizes.0.public_base; public_methods = publics.0; package_base = sizes.0.package_base; package_methods = packages.0 }, packages.1)

unfoldable pub class_at : (ClassRef → Bool) → Bool → ℕ → List ℕ → Field ClassInfo
class_at known shareable interfaces bytes = do
  super ← super_at known bytes
  size ← u1_at super.1
  references ← references_at size.0 size.1
  tables ← tables_at references.1
  implemented ← many_at implemented_at interfaces tables.1
  Ok (
    record {
      shareable = shareable;
      superclass = super.0;
      declared_instance_size = size.0;
      references = references.0;
      tables = tables.0;
      interfaces = implemented.0;
    },
    implemented.1,
  )

unfoldable pub interface_at : (ClassRef → Bool) → Bool → ℕ → List ℕ → Field InterfaceInfo
interface_at known shareable interfaces bytes = do
  supers ← many_at (super_at known) interfaces bytes
  Ok (record { shareable = shareable; superinterfaces = supers.0 }, supers.1)

-- 8 interface, 4 shareable; 2 is a remote interface, and 1 is no flag
abbrev pub flags_of : ℕ → Result RecordFlags CapFault
flags_of n =
    if n == 0 then Ok (record { interface = false; shareable = false })
    else if n == 4 then Ok (record { interface = false; shareable = true })
    else if n == 8 then Ok (record { interface = true; shareable = false })
    else if n == 12 then Ok (record { interface = true; shareable = true })
    else if n / 2 % 2 == 1 then Err Remote
    else Err BadOffset

-- the flags in the high four bits, the number of interfaces in the low four
unfoldable pub record_at : (ClassRef → Bool) → List ℕ → Field ClassRecord
record_at known bytes = do
  first ← u1_at bytes
  flags ← flags_of (first.0 / 16)
  if flags.interface then (do
    interface ← interface_at known flags.shareable (first.0 % 16) first.1
    Ok (records.Interface interface.0, interface.1))
      else (do
        class ← class_at known flags.shareable (first.0 % 16) first.1
        Ok (records.Class class.0, class.1))

-- The records to the end of an info of this length, after those at these offsets. No more are allowed than the first
-- number says.
unfoldable pub records_at : ℕ → ℕ → List ℕ → List ℕ → Result (List RecordAt) CapFault
records_at most total before [] = Ok []
records_at zero total before (b ∷ bytes) = Err BadOffset
records_at (suc most) total before (b ∷ bytes) = do
  first ← record_at (is_earlier before) (b ∷ bytes)
  others ← records_at most total (before ++ (total - suc (length bytes)) ∷ []) first.1
  Ok (record { offset = total - suc (length bytes); contents = first.0 } ∷ others)

-- the bytes after what stands in front of the records: in format 2.2 the signature pool after its length
unfoldable pub records_start : Format → List ℕ → Result (List ℕ) CapFault
records_start V2_1 info = Ok info
records_start V2_2 info = do
  size ← u2_at info
  pool ← run_at size.0 size.1
  Ok pool.1

-- a class's number is its place among the records, which are 256 at most; their offsets count from the info's first byte
unfoldable pub classes_of : Format → List ℕ → Result (List RecordAt) CapFault
classes_of format info = do
  start ← records_start format info
  records_at 256 (length info) [] start

-- the records that were read, none at a fault, and their offsets
abbrev pub records_or_none : Result (List RecordAt) CapFault → List RecordAt
records_or_none (Ok rs) = rs
records_or_none (Err f) = []

abbrev pub record_offsets_or_none : Result (List RecordAt) CapFault → Result (List ℕ) CapFault
record_offsets_or_none (Ok rs) = Ok (offsets_of rs)
record_offsets_or_none (Err f) = Err f

-- ---- which classes may be named as a superclass or a superinterface

abbrev pub is_known_class : Known → ClassRef → Bool
is_known_class (Earlier before) = is_earlier before.now
is_known_class Any = any_class
