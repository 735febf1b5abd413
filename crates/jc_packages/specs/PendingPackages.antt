-- A package that is put together and linked.
use Rattle.std.specs.Prelude.{◌≡◌, nat_le, length, Result, Ok, Err, is_some, if◌then◌else◌}
use Rattle.jc_words.specs.Layout.{most_packages}
use Rattle.jc_cap.specs.declared.fault.CapFault.{CapFault}
use Rattle.jc_cap.specs.declared.texts.LoadedComponents.{LoadedComponents}
use Rattle.jc_cap.specs.declared.texts.PackageBytes.{PackageBytes}
use Rattle.jc_cap.specs.Contents.{PackageContents}
use Rattle.jc_cap.specs.Assembling.{assembly_of}
use Rattle.jc_cap.specs.PackageReading.{contents_of}
use Rattle.jc_linker.specs.Values.{PackageValue, Packages}
use Rattle.jc_linker.specs.Lookups.{package_with_aid}
use Rattle.jc_linker.specs.declared.fault.LinkFault.{LinkFault}
use Rattle.jc_linker.specs.declared.fault.LinkFault.TheVariants as link
use Rattle.jc_linker.specs.Linking.{link_result}
use Rattle.jc_packages.specs.LinkerView.{linker_view}
use Rattle.jc_packages.specs.declared.load_refusal.LoadRefusal.{LoadRefusal}
use Rattle.jc_packages.specs.declared.load_refusal.LoadRefusal.TheVariants.{OutOfSequence, UnknownTag, BadComponents, AidTaken, Full, LinkFailed, HeapFull}

-- a package's components, and what is linked of them
pub record PendingPackageValue : Type 0 where
  pub texts : PackageBytes
  pub linked : PackageValue

-- this was linked of these components
abbrev pub linked_as : PackageBytes → PackageValue → PendingPackageValue
linked_as t q = record { texts = t; linked = q }

-- first the one, and if its components are right the other
abbrev pub if_read : {A B : Type 0} → Result A CapFault → (A → Result B LoadRefusal) → Result B LoadRefusal
if_read (Ok x) f = f x
if_read (Err fault) f = Err (BadComponents fault)

abbrev pub if_linked : {A B : Type 0} → Result A LinkFault → (A → Result B LoadRefusal) → Result B LoadRefusal
if_linked (Ok x) f = f x
if_linked (Err fault) f = Err (LinkFailed fault)

-- linked against these packages: first its AID must be new, then there must be a place for it
unfoldable pub linked_package : Packages → PackageBytes → PackageContents → Result PendingPackageValue LoadRefusal
linked_package p t c =
    if is_some (package_with_aid p c.header.this_package.aid) then Err AidTaken else
    if nat_le most_packages (length p.loaded) then Err Full else
    if_linked (link_result p (linker_view t c)) (λ q. Ok (linked_as t q))

-- the package that these components are, linked
abbrev pub linked_texts : Packages → PackageBytes → Result PendingPackageValue LoadRefusal
linked_texts p t = if_read (contents_of t) (λ c. linked_package p t c)

-- put together of the components that came, and linked
unfoldable pub linked_components : Packages → LoadedComponents → Result PendingPackageValue LoadRefusal
linked_components p load = if_read (assembly_of load) (λ t. linked_texts p t)

-- the refusal is this, if it is not that memory was refused
abbrev pub IsUnlinked : {Y : Type 0} → LinkFault → Result Y LoadRefusal → Type 0
IsUnlinked link.NoMemory said = Unit {0}
IsUnlinked link.ImportMissing said = said ≡ Err (LinkFailed link.ImportMissing)
IsUnlinked link.ImportVersion said = said ≡ Err (LinkFailed link.ImportVersion)
IsUnlinked (link.Unresolved index) said = said ≡ Err (LinkFailed (link.Unresolved index))

abbrev pub IsRefusal : {Y : Type 0} → LoadRefusal → Result Y LoadRefusal → Type 0
IsRefusal OutOfSequence said = said ≡ Err OutOfSequence
IsRefusal UnknownTag said = said ≡ Err UnknownTag
IsRefusal (BadComponents fault) said = said ≡ Err (BadComponents fault)
IsRefusal AidTaken said = said ≡ Err AidTaken
IsRefusal Full said = said ≡ Err Full
IsRefusal (LinkFailed fault) said = IsUnlinked fault said
IsRefusal HeapFull said = said ≡ Err HeapFull

-- what a function returned, seen by view, is this, if it was not that memory was refused
abbrev pub Answers : {X Y : Type 0} → (X → Y) → Result X LoadRefusal → Result Y LoadRefusal → Type 0
Answers view (Ok x) said = said ≡ Ok (view x)
Answers view (Err e) said = IsRefusal e said
