-- A package as it is linked.
use Rattle.std.specs.Prelude.{ℕ, ◌+◌, ◌*◌, ◌/◌, ◌%◌, ◌==◌, min, true, false, List, [], ◌∷◌, ◌++◌, map, length, Option, Some, None, Result, Ok, Err}
use Rattle.std.specs.Prelude.{if◌then◌else◌, slice_get, unwrap_or}
use Rattle.jc_cap.specs.declared.class_refs.ClassRef.{ClassRef}
use Rattle.jc_cap.specs.declared.pool.Entry.{Entry}
use Rattle.jc_cap.specs.declared.class_records.ClassRecord.{ClassRecord}
use Rattle.jc_cap.specs.declared.class_records.ClassRecord.TheVariants as records
use Rattle.jc_cap.specs.declared.class_records.ClassInfo.{ClassInfo}
use Rattle.jc_cap.specs.ClassValues.{RecordAt}
use Rattle.jc_cap.specs.ClassLists.{Implemented}
use Rattle.jc_linker.specs.declared.target.Target.{Target}
use Rattle.jc_linker.specs.Classes.{size_of}
use Rattle.jc_linker.specs.Resolve.{class_named, resolution}
use Rattle.jc_linker.specs.Values.{ClassValue, Implementation, LinkerComponents, PackageValue, Packages}
use Rattle.jc_linker.specs.Outlines.{outline_of, package_outline}
use Rattle.jc_linker.specs.declared.fault.LinkFault.{LinkFault}
use Rattle.jc_linker.specs.declared.fault.LinkFault.TheVariants.{Unresolved}
use Rattle.jc_linker.specs.Answers.{then_on}
use Rattle.jc_linker.specs.Imports.{import_numbers}
use Rattle.jc_linker.specs.Completeness.{are_complete}

-- the packages with one more after them
abbrev pub with_package : Packages → PackageValue → Packages
with_package p q = record p { loaded = p.loaded ++ q ∷ [] }

-- the number that the next package gets
abbrev pub next_number : Packages → ℕ
next_number p = length p.loaded + 1

-- ---- classes. Names are looked up among packages in which each class of this one is known by its offset.

-- the class that a reference names, 0 for none
abbrev pub word_of : Packages → ℕ → ClassRef → ℕ
word_of names number ref = unwrap_or (class_named names number ref) 0

abbrev pub superinterface_of : Packages → ℕ → ClassRef → Implementation
superinterface_of names number ref = record { interface = word_of names number ref; tokens = [] }

abbrev pub implementation_of : Packages → ℕ → Implemented → Implementation
implementation_of names number i = record { interface = word_of names number i.interface; tokens = i.tokens }

-- how many cells a class that is linked already has
abbrev pub cells_in : Option ClassValue → ℕ
cells_in None = 0
cells_in (Some c) = c.inherited_cells + c.declared_cells

-- how many cells a superclass has: one of this package, of which these are linked, or of another. No object has more than
-- 65,535, so more than 65,536 are not distinguished.
abbrev pub cells_above : Packages → ℕ → List ClassValue → ℕ → ℕ
cells_above p number done word = min 65536 (if word / 256 == number then cells_in (slice_get done (word % 256)) else size_of p word)

abbrev pub class_of : Packages → Packages → ℕ → List ClassValue → ℕ → ClassInfo → ClassValue
class_of p names number done offset c = record {
  offset = offset;
  is_interface = false;
  superclass = word_of names number c.superclass;
  interfaces = map (implementation_of names number) c.interfaces;
  inherited_cells = cells_above p number done (word_of names number c.superclass);
  declared_cells = c.declared_instance_size;
  first_reference = c.references.first_token;
  reference_count = c.references.count;
  public_methods = record { base = c.tables.public_base; offsets = c.tables.public_methods };
  package_methods = record { base = c.tables.package_base; offsets = c.tables.package_methods };
}

abbrev pub class_by_record : Packages → Packages → ℕ → List ClassValue → ℕ → ClassRecord → ClassValue
class_by_record p names number done offset (records.Class c) = class_of p names number done offset c
class_by_record p names number done offset (records.Interface i) = record (outline_of offset) {
  is_interface = true;
  interfaces = map (superinterface_of names number) i.superinterfaces;
}

-- the classes of these records, after those that are linked
unfoldable pub classes_behind : Packages → Packages → ℕ → List ClassValue → List RecordAt → List ClassValue
classes_behind p names number done [] = done
classes_behind p names number done (r ∷ rs) = classes_behind p names number (done ++ class_by_record p names number done r.offset r.contents ∷ []) rs

-- ---- the package

abbrev pub if_resolved : ℕ → Option Target → Result (List Target) LinkFault → Result (List Target) LinkFault
if_resolved index None others = Err (Unresolved index)
if_resolved index (Some t) others = then_on others (λ ts. Ok (t ∷ ts))

-- what the entries from an index on resolve to, or the index of the first that doesn't
unfoldable pub targets_from : Packages → ℕ → ℕ → List Entry → Result (List Target) LinkFault
targets_from p number index [] = Ok []
targets_from p number index (e ∷ es) = if_resolved index (resolution p number e) (targets_from p number (index + 1) es)

-- the package with its classes
abbrev pub with_classes : Packages → LinkerComponents → List ℕ → PackageValue
with_classes p c imports = record (package_outline c imports)
    { classes = classes_behind p (with_package p (package_outline c imports)) (next_number p) [] c.classes }

-- the package with what its entries resolve to, if its classes are whole
abbrev pub if_complete : Packages → PackageValue → List Target → Result PackageValue LinkFault
if_complete p q targets = if are_complete (with_package p q) (next_number p) q.classes then Ok (record q { targets = targets }) else Err (Unresolved 65535)

-- the package with its classes, with what its entries resolve to
abbrev pub resolved_package : Packages → LinkerComponents → PackageValue → Result PackageValue LinkFault
resolved_package p c q = then_on (targets_from (with_package p q) (next_number p) 0 c.pool) (if_complete p q)

-- a package linked against these: the fault of the first import that fails, else the lowest index of an entry that
-- doesn't resolve, else 65535 where the Class component names what is not there
unfoldable pub link_result : Packages → LinkerComponents → Result PackageValue LinkFault
link_result p c = then_on (import_numbers p c.imports) (λ imports. resolved_package p c (with_classes p c imports))
