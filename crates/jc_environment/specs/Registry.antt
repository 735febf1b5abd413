-- The applets of the registry, by their numbers, of which the first is 1.
use Rattle.std.specs.Prelude.{ℕ, ◌+◌, ◌-◌, ◌*◌, ◌&&◌, Bool, false, nat_lt, nat_le, min, find, List, slice_index, Option, Some, None, if◌then◌else◌}
use Rattle.std.specs.List.{range_with_len}
use Rattle.std.specs.Option.{option_map, option_and_then}
use Rattle.std.specs.Str.{bytes_eq}
use Rattle.jc_words.specs.Layout.{most_applets}
use Rattle.jc_heap.specs.RegistryLayout.{entry_start, entry_aid, entry_package, entry_instance}
use Rattle.jc_heap.specs.declared.place.AppletEntry.{AppletEntry}
use Rattle.jc_heap.specs.Heap.{HeapState}
use Rattle.jc_memory.specs.State.{MemoryState}
use Rattle.jc_transient.specs.declared.owner.AppletNumber.{AppletNumber}
use Rattle.jc_environment.specs.Aid.{aid_at}

-- how many applets there are
abbrev pub applet_count : HeapState → ℕ
applet_count h = min h.counts.1 most_applets

-- an applet has this number
abbrev pub is_applet : HeapState → ℕ → Bool
is_applet h n = nat_lt 0 n && nat_le n (applet_count h)

-- a word of the registry's entry for an applet: its AID object, the number of its package, its instance
abbrev pub entry_word : HeapState → ℕ → ℕ → ℕ
entry_word h n k = slice_index h.applets (entry_start (n - 1) + k)

-- what the registry keeps of an applet
unfoldable pub applet_entry : HeapState → ℕ → Option AppletEntry
applet_entry h n = if is_applet h n then Some (record {
  aid = entry_word h n entry_aid;
  «package» = entry_word h n entry_package;
  instance = entry_word h n entry_instance;
}) else None

-- its AID object
abbrev pub aid_of_applet : HeapState → ℕ → Option ℕ
aid_of_applet h n = option_map (λ e. e.aid) (applet_entry h n)

-- the number of its package
abbrev pub package_of_applet : HeapState → ℕ → Option ℕ
package_of_applet h n = option_map (λ e. e.«package») (applet_entry h n)

-- its instance
abbrev pub instance_of_applet : HeapState → ℕ → Option ℕ
instance_of_applet h n = option_map (λ e. e.instance) (applet_entry h n)

-- the AID that an AID object holds is this
abbrev pub is_aid : List ℕ → Option (List ℕ) → Bool
is_aid aid None = false
is_aid aid (Some held) = bytes_eq held aid

-- the applet has this AID
abbrev pub has_aid : MemoryState → List ℕ → ℕ → Bool
has_aid s aid n = is_aid aid (option_and_then (λ r. aid_at s r) (aid_of_applet s.heap.now n))

-- the first of n applets, from a number on, with this AID
abbrev pub first_with_aid : MemoryState → List ℕ → ℕ → ℕ → Option ℕ
first_with_aid s aid n count = find (λ k. has_aid s aid k) (range_with_len n count)

-- the first applet with this AID
unfoldable pub applet_with_aid : MemoryState → List ℕ → Option AppletNumber
applet_with_aid s aid = option_map (λ n. record { 0 = n }) (first_with_aid s aid 1 (applet_count s.heap.now))
