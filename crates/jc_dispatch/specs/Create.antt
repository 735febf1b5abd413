-- "Create applet": what its data say, and what it does.
use Rattle.std.specs.Prelude.{ℕ, ◌==◌, ◌&&◌, ◌||◌, nat_le, nat_lt, Bool, List, [], ◌∷◌, length, take, drop, find, is_some, Option, Some, None}
use Rattle.std.specs.Prelude.{if◌then◌else◌}
use Rattle.std.specs.List.{range_with_len}
use Rattle.std.specs.Option.{option_map, option_and_then}
use Rattle.jc_words.specs.Layout.{most_applets}
use Rattle.jc_memory.specs.State.{MemoryState}
use Rattle.jc_memory.specs.Programs.{Program, Finish}
use Rattle.jc_linker.specs.Lookups.{applet_entry, entry_with_aid}
use Rattle.jc_linker.specs.Values.{Packages}
use Rattle.jc_interp.specs.declared.attacks.Budget.{Budget}
use Rattle.jc_dispatch.specs.declared.applet_result.AppletResult.{AppletResult}
use Rattle.jc_dispatch.specs.declared.applet_result.AppletResult.TheVariants.{Malformed, NoApplet, RegistryFull}
use Rattle.jc_dispatch.specs.Install.{applet_installation}
use Rattle.std.specs.Borrow.{Bor}

-- a field after its length, and what follows it
abbrev pub field_of : List ℕ → Option (List ℕ × List ℕ)
field_of [] = None
field_of (n ∷ rest) = if nat_le n (length rest) then Some (take n rest, drop n rest) else None

-- an AID has 5 to 16 bytes
abbrev pub has_aid_length : List ℕ → Bool
has_aid_length aid = nat_le 5 (length aid) && nat_le (length aid) 16

-- an instance may be left without an AID of its own
abbrev pub names_instance : List ℕ → Bool
names_instance aid = length aid == 0 || has_aid_length aid

-- the fields of an installation's parameters, where nothing follows them: the instance's AID, the control information and
-- the applet's data
abbrev pub third_field : List ℕ → Option (List ℕ × List ℕ)
third_field bytes = option_and_then (λ i. option_and_then (λ c. field_of c.1) (field_of i.1)) (field_of bytes)

abbrev pub instance_named : List ℕ → Bool
instance_named bytes = is_some (option_and_then (λ i. if names_instance i.0 then Some i else None) (field_of bytes))

abbrev pub ends_with_data : List ℕ → Bool
ends_with_data bytes = is_some (option_and_then (λ d. if length d.1 == 0 then Some d else None) (third_field bytes))

-- parameters, 127 bytes at most
abbrev pub are_parameters : List ℕ → Bool
are_parameters bytes = nat_le (length bytes) 127 && instance_named bytes && ends_with_data bytes

-- the AID of the applet in its package, and the parameters; none where the data are malformed
abbrev pub parameters_or_none : List ℕ × List ℕ → Option (List ℕ × List ℕ)
parameters_or_none c = if has_aid_length c.0 && are_parameters c.1 then Some c else None

unfoldable pub creation_of : List ℕ → Option (List ℕ × List ℕ)
creation_of bytes = option_and_then parameters_or_none (field_of bytes)

-- the first package, of this many from a number on, with an applet of this AID
abbrev pub first_with_entry : Packages → List ℕ → ℕ → ℕ → Option ℕ
first_with_entry p aid n count = find (λ q. is_some (entry_with_aid p q aid)) (range_with_len n count)

-- what is installed: the number of the package, and of the entry of its Applet component
unfoldable pub applet_named : Packages → List ℕ → Option (ℕ × ℕ)
applet_named p aid = option_and_then (λ q. option_map (λ entry. (q, entry)) (entry_with_aid p q aid)) (first_with_entry p aid 1 (length p.loaded))

-- its install runs
abbrev pub creation_by_entry : Budget → Packages → ℕ × ℕ → Option ℕ → List ℕ → MemoryState → Program AppletResult
creation_by_entry budget p e None parameters m = Finish NoApplet
creation_by_entry budget p e (Some offset) parameters m = applet_installation budget p (record { 0 = e.0 }) e.1 offset parameters m

-- where the registry has a place for it
abbrev pub creation_in_registry : Budget → Packages → Option (ℕ × ℕ) → List ℕ → MemoryState → Program AppletResult
creation_in_registry budget p None parameters m = Finish NoApplet
creation_in_registry budget p (Some e) parameters m =
    if nat_lt m.heap.now.counts.1 most_applets then creation_by_entry budget p e (option_map (λ a. a.install_offset) (applet_entry p e.0 e.1)) parameters m else
    Finish RegistryFull

abbrev pub creation_by_data : Budget → Packages → Option (List ℕ × List ℕ) → MemoryState → Program AppletResult
creation_by_data budget p None m = Finish Malformed
creation_by_data budget p (Some c) m = creation_in_registry budget p (applet_named p c.0) c.1 m

-- malformed data first, then an AID that no package has, then a registry without a place
unfoldable pub applet_creation : Budget → Packages → List ℕ → MemoryState → Program AppletResult
applet_creation budget p bytes m = creation_by_data budget p (creation_of bytes) m

-- ---- what slices lend

-- the bytes that a slice lends
abbrev pub slice_bytes : Bor (List ℕ) → List ℕ
slice_bytes s = s.now

-- and those of two
abbrev pub slice_pair_bytes : Bor (List ℕ) × Bor (List ℕ) → List ℕ × List ℕ
slice_pair_bytes s = (s.0.now, s.1.now)
