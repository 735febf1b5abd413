-- Packages as the records of a heap have them.
use Rattle.std.specs.Prelude.{◌≡◌, ℕ, ◌/◌, ◌%◌, List, [], ◌∷◌, drop, map, Option, Some, None, Result, Ok, Err}
use Rattle.std.specs.Option.{option_and_then, option_map}
use Rattle.jc_cap.specs.Tags.{header_tag, directory_tag, applet_tag, import_tag, constant_pool_tag, class_tag, method_tag, static_field_tag, export_tag}
use Rattle.jc_cap.specs.declared.fault.CapFault.{CapFault}
use Rattle.jc_cap.specs.declared.formats.Format.{Format}
use Rattle.jc_cap.specs.declared.texts.LoadedComponents.{LoadedComponents}
use Rattle.jc_cap.specs.Texts.{Taken}
use Rattle.jc_packages.specs.Load.{content_in, taken_behind}
use Rattle.jc_heap.specs.declared.component.Span.{Span}
use Rattle.jc_heap.specs.Component.{info_of, record_of}
use Rattle.jc_heap.specs.Heap.{HeapState}
use Rattle.jc_heap.specs.Packed.{bytes_of_packed}
use Rattle.jc_linker.specs.Values.{Packages}
use Rattle.jc_platform.specs.Tokens.{Tokens}
use Rattle.jc_linker.specs.Linking.{with_package}
use Rattle.jc_linker.specs.declared.fault.LinkFault.TheVariants as link
use Rattle.jc_packages.specs.declared.load_refusal.LoadRefusal.{LoadRefusal}
use Rattle.jc_packages.specs.declared.load_refusal.LoadRefusal.TheVariants.{OutOfSequence, UnknownTag, BadComponents, AidTaken, Full, LinkFailed, HeapFull}
use Rattle.jc_packages.specs.declared.fault.ReadFault.{ReadFault}
use Rattle.jc_packages.specs.declared.fault.ReadFault.TheVariants.{Damaged, NoMemory}
use Rattle.jc_packages.specs.PendingPackages.{PendingPackageValue, linked_components}

-- the bytes of a component whose info stands there in a record, with its tag and its size in front
abbrev pub text_at : ℕ → List ℕ → Span → List ℕ
text_at tag words span = tag ∷ span.size / 256 ∷ span.size % 256 ∷ bytes_of_packed span.size (drop span.at words)

-- the bytes of a record's component with this tag, if there is one
abbrev pub text_in : List ℕ → ℕ → Option (List ℕ)
text_in words tag = option_map (text_at tag words) (info_of words tag)

-- the components of a record
abbrev pub load_of : List ℕ → LoadedComponents
load_of words = record {
  header = text_in words header_tag;
  directory = text_in words directory_tag;
  applets = text_in words applet_tag;
  imports = text_in words import_tag;
  pool = text_in words constant_pool_tag;
  classes = text_in words class_tag;
  methods = text_in words method_tag;
  statics = text_in words static_field_tag;
  exports = text_in words export_tag;
  reference_location = None;
  descriptor = None;
}

-- a record's component, if there is one, is kept with the others after a header that stated this format
abbrev pub text_taken : Option Format → LoadedComponents → ℕ → Option (List ℕ) → Taken
text_taken told load tag (Some text) = taken_behind told load tag text (content_in told tag text)
text_taken told load tag None = (Ok told, load)

-- it is there, and cannot be read
abbrev pub CannotBeTaken : Option Format → ℕ → Option (List ℕ) → Type 0
CannotBeTaken told tag (Some text) = (fault : CapFault) × (content_in told tag text ≡ Err fault)
CannotBeTaken told tag None = ⊥

-- why a package that was refused is not read: the only refusal of it for want of memory is that of linking
abbrev pub fault_of : LoadRefusal → ReadFault
fault_of (LinkFailed link.NoMemory) = NoMemory
fault_of (LinkFailed link.ImportMissing) = Damaged
fault_of (LinkFailed link.ImportVersion) = Damaged
fault_of (LinkFailed (link.Unresolved index)) = Damaged
fault_of (BadComponents fault) = Damaged
fault_of AidTaken = Damaged
fault_of Full = Damaged
fault_of OutOfSequence = Damaged
fault_of UnknownTag = Damaged
fault_of HeapFull = Damaged

-- the packages with the one that was prepared, if it was
abbrev pub with_prepared : Packages → Result PendingPackageValue LoadRefusal → Option Packages
with_prepared p (Err refusal) = None
with_prepared p (Ok q) = Some (with_package p q.linked)

-- whatever packages are there, none is added of these components
abbrev pub IsNoPackage : LoadedComponents → Type 0
IsNoPackage load = (p : Packages) → with_prepared p (linked_components p load) ≡ None

-- with the packages of these records after them, each linked against those before it; none, where one does not link
abbrev pub with_records : Packages → List (List ℕ) → Option Packages
with_records p [] = Some p
with_records p (words ∷ more) = option_and_then (λ q. with_records q more) (with_prepared p (linked_components p (load_of words)))

-- the packages of a heap, after those of a platform
unfoldable pub packages_of : Tokens → HeapState → Option Packages
packages_of t h = with_records (record { platform = t; loaded = [] }) (map (record_of h) h.packages)
