-- The end of a load: the package comes in, or it is refused.
use Rattle.std.specs.Prelude.{ℕ, nat_le, length, List, Option, Some, None, Result, Ok, Err, if◌then◌else◌, is_none}
use Rattle.jc_words.specs.Layout.{most_packages}
use Rattle.jc_words.specs.declared.store.StoreDown.{StoreDown}
use Rattle.jc_cap.specs.declared.texts.LoadedComponents.{LoadedComponents}
use Rattle.jc_cap.specs.declared.texts.PackageBytes.{PackageBytes}
use Rattle.jc_heap.specs.declared.object.Kind.{Kind}
use Rattle.jc_heap.specs.Completions.{Attempt, Done, Refused, Completion, Completed, Torn}
use Rattle.jc_linker.specs.Values.{Packages, PackageValue}
use Rattle.jc_linker.specs.declared.fault.LinkFault.TheVariants as link
use Rattle.jc_linker.specs.Linking.{with_package}
use Rattle.jc_memory.specs.State.{MemoryState}
use Rattle.jc_memory.specs.Programs.{Program, Finish, Either, bind}
use Rattle.jc_memory.specs.Changes.{package_addition}
use Rattle.jc_packages.specs.PendingPackages.{PendingPackageValue, linked_components, linked_texts}
use Rattle.jc_packages.specs.RecordContents.{arrays_of, image_of, parts_of, statics_of}
use Rattle.jc_packages.specs.declared.load.OpenLoad.{OpenLoad}
use Rattle.jc_packages.specs.declared.load_refusal.LoadRefusal.{LoadRefusal}
use Rattle.jc_packages.specs.declared.load_refusal.LoadRefusal.TheVariants.{OutOfSequence, Full, LinkFailed, HeapFull}
use Rattle.jc_packages.specs.Load.{CommandResult}

-- how the end of a load ends, the packages and the load that it leaves
pub record LoadResult : Type 0 where
  pub ended : CommandResult
  pub packages : Packages
  pub load : Option OpenLoad

-- a refusal drops the load
abbrev pub with_dropped_load : Packages → LoadRefusal → Program LoadResult
with_dropped_load p refusal = Finish (record { ended = Err refusal; packages = p; load = None })

-- the package is there from then on, if the heap had space for it
abbrev pub after_record : Packages → PackageValue → Attempt ℕ → Program LoadResult
after_record p linked (Done r) = Finish (record { ended = Ok tt; packages = with_package p linked; load = None })
after_record p linked (Refused reason) = with_dropped_load p HeapFull

-- the package is written as a record of these components, arrays and bytes: no memory is asked for
abbrev pub record_entry : Packages → PackageValue → List (ℕ × List ℕ) → List (Kind × List ℕ) → List ℕ → MemoryState → Program LoadResult
record_entry p linked components arrays image s = bind (package_addition s components arrays image) s (λ answer after. after_record p linked answer)

abbrev pub after_addition : Packages → PendingPackageValue → Attempt ℕ → Program LoadResult
after_addition p q answer = after_record p q.linked answer

-- its record is written, if there is a place for its address
abbrev pub package_entry : Packages → PendingPackageValue → MemoryState → Program LoadResult
package_entry p q s =
    if nat_le most_packages (length s.heap.now.packages) then with_dropped_load p Full else
    record_entry p q.linked (parts_of q.texts) (arrays_of (statics_of q.texts)) (image_of (statics_of q.texts)) s

abbrev pub after_preparation : Packages → MemoryState → Result PendingPackageValue LoadRefusal → Program LoadResult
after_preparation p s (Err refusal) = with_dropped_load p refusal
after_preparation p s (Ok q) = package_entry p q s

-- what the components of a package may become: memory may be refused for it
abbrev pub texts_result : Packages → MemoryState → PackageBytes → Program LoadResult
texts_result p s t = Either (after_preparation p s (linked_texts p t)) (with_dropped_load p (LinkFailed link.NoMemory))

-- what the components of a load may become: memory may be refused for it
unfoldable pub assembly_result : Packages → MemoryState → LoadedComponents → Program LoadResult
assembly_result p s texts = Either (after_preparation p s (linked_components p texts)) (with_dropped_load p (LinkFailed link.NoMemory))

-- what the end of a load may do: a load must be open, and no component
abbrev pub end_of_load : Packages → MemoryState → Option OpenLoad → Program LoadResult
end_of_load p s None = Finish (record { ended = Err OutOfSequence; packages = p; load = None })
end_of_load p s (Some load) = if is_none load.coming then assembly_result p s load.texts else Finish
    (record { ended = Err OutOfSequence; packages = p; load = Some load })

-- how the call ends: as the command does, or the store refused a write
abbrev pub after_end : Result CommandResult StoreDown → Packages → Option OpenLoad → MemoryState → Completion MemoryState LoadResult
after_end (Ok ended) p load s = Completed (record { ended = ended; packages = p; load = load }) s
after_end (Err down) p load s = Torn s
