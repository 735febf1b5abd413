-- Which bytes are a Class component.
use Rattle.std.specs.Prelude.{◌≡◌, ℕ, ◌+◌, ◌*◌, ◌%◌, ◌<◌, ◌≤◌, ◌⊎◌, Bool, true, false, List, [], ◌∷◌, ◌++◌, length, Contains, if◌then◌else◌}
use Rattle.jc_cap.specs.declared.formats.Format.{Format}
use Rattle.jc_cap.specs.declared.formats.Format.TheVariants.{V2_1, V2_2}
use Rattle.jc_cap.specs.declared.class_refs.ClassRef.{ClassRef}
use Rattle.jc_cap.specs.declared.class_refs.ClassRef.TheVariants.{Internal, External}
use Rattle.jc_cap.specs.Grammar.{AreEncodedInTurn, IsU2, IsClassRef}
use Rattle.jc_cap.specs.declared.class_records.ReferenceFields.{ReferenceFields}
use Rattle.jc_cap.specs.declared.class_records.MethodTables.{MethodTables}
use Rattle.jc_cap.specs.declared.class_records.InterfaceInfo.{InterfaceInfo}
use Rattle.jc_cap.specs.declared.class_records.ClassInfo.{ClassInfo}
use Rattle.jc_cap.specs.declared.class_records.ClassRecord.{ClassRecord}
use Rattle.jc_cap.specs.declared.class_records.ClassRecord.TheVariants as records
use Rattle.jc_cap.specs.ClassLists.{Implemented}
use Rattle.jc_cap.specs.ClassValues.{RecordAt}

-- the interface, the number of its methods, and a token for each
abbrev pub IsImplemented : Implemented → List ℕ → Type 0
IsImplemented i text = (interface : List ℕ) × IsClassRef i.interface interface × (text ≡ interface ++ length i.tokens ∷ i.tokens)

-- the fields that hold references lie among the declared ones, where there are any
abbrev pub FitsIn : ℕ → ReferenceFields → Type 0
FitsIn size r = (r.count ≡ 0) ⊎ (r.first_token + r.count ≤ size)

-- the flags (interface 8, shareable 4) in the high four bits, the number of interfaces in the low four
abbrev pub first_byte : Bool → Bool → ℕ → ℕ
first_byte interface shareable count = ((if interface then 8 else 0) + (if shareable then 4 else 0)) * 16 + count

abbrev pub IsInterface : InterfaceInfo → List ℕ → Type 0
IsInterface i text = AreEncodedInTurn IsClassRef i.superinterfaces text

-- the bases and the lengths of the public and the package table, and then the tables; the base of the package table may
-- have its high bit set
abbrev pub AreTables : MethodTables → List ℕ → Type 0
AreTables t text = (package_base : ℕ) × (publics : List ℕ) × (packages : List ℕ) × (package_base % 128 ≡ t.package_base)
    × AreEncodedInTurn IsU2 t.public_methods publics × AreEncodedInTurn IsU2 t.package_methods packages
    × (text ≡ t.public_base ∷ length t.public_methods ∷ package_base ∷ length t.package_methods ∷ (publics ++ packages))

abbrev pub IsClass : ClassInfo → List ℕ → Type 0
IsClass c text = (super : List ℕ) × (tables : List ℕ) × (interfaces : List ℕ)
    × IsClassRef c.superclass super × FitsIn c.declared_instance_size c.references × AreTables c.tables tables
    × AreEncodedInTurn IsImplemented c.interfaces interfaces
    × (text ≡ super ++ c.declared_instance_size ∷ c.references.first_token ∷ c.references.count ∷ (tables ++ interfaces))

abbrev pub IsRecord : ClassRecord → List ℕ → Type 0
IsRecord (records.Interface i) text = (rest : List ℕ) × (length i.superinterfaces < 16) × IsInterface i rest
    × (text ≡ first_byte true i.shareable (length i.superinterfaces) ∷ rest)
IsRecord (records.Class c) text = (rest : List ℕ) × (length c.interfaces < 16) × IsClass c rest
    × (text ≡ first_byte false c.shareable (length c.interfaces) ∷ rest)

-- a class of this package stands at one of these offsets
abbrev pub IsEarlier : List ℕ → ClassRef → Type 0
IsEarlier before (Internal offset) = Contains before offset
IsEarlier before (External package_token class_token) = Unit {0}

abbrev pub AreEarlier : List ℕ → List ClassRef → Type 0
AreEarlier before [] = Unit {0}
AreEarlier before (c ∷ cs) = IsEarlier before c × AreEarlier before cs

-- its superclass, or its superinterfaces, stand at these offsets or in other packages
abbrev pub LooksBack : List ℕ → ClassRecord → Type 0
LooksBack before (records.Interface i) = AreEarlier before i.superinterfaces
LooksBack before (records.Class c) = IsEarlier before c.superclass

-- the records from an offset on, one after the other, where others stand before them
abbrev pub AreRecords : ℕ → List ℕ → List RecordAt → List ℕ → Type 0
AreRecords at before [] text = text ≡ []
AreRecords at before (r ∷ rs) text = (front : List ℕ) × (back : List ℕ)
    × (r.offset ≡ at) × IsRecord r.contents front × LooksBack before r.contents
    × (text ≡ front ++ back) × AreRecords (at + length front) (before ++ at ∷ []) rs back

-- what stands in front of the records: nothing in format 2.1, in format 2.2 a signature pool of any bytes after its length
abbrev pub IsInFront : Format → List ℕ → Type 0
IsInFront V2_1 front = front ≡ []
IsInFront V2_2 front = (size : List ℕ) × (pool : List ℕ) × IsU2 (length pool) size × (front ≡ size ++ pool)

-- the info is what stands in front, and the records, 256 at most
abbrev pub AreClasses : Format → List RecordAt → List ℕ → Type 0
AreClasses format rs info = (front : List ℕ) × (back : List ℕ) × IsInFront format front × (info ≡ front ++ back)
    × (length rs ≤ 256) × AreRecords (length front) [] rs back
