-- A load, component by component.
use Rattle.std.specs.Prelude.{ℕ, ◌+◌, ◌==◌, ◌&&◌, ◌||◌, nat_lt, nat_le, Bool, true, false, List, [], ◌++◌, length, replicate, slice_set}
use Rattle.std.specs.Prelude.{slice_index_or, Option, Some, None, is_some, Result, Ok, Err, if◌then◌else◌}
use Rattle.jc_cap.specs.declared.fault.CapFault.{CapFault}
use Rattle.jc_cap.specs.declared.fault.CapFault.TheVariants.{Trailing, Missing, Repeated, NoMemory}
use Rattle.jc_cap.specs.declared.formats.Format.{Format}
use Rattle.jc_cap.specs.declared.formats.Format.TheVariants.{V2_1}
use Rattle.jc_cap.specs.Tags.{header_tag, directory_tag, class_tag, debug_tag, first_custom_tag}
use Rattle.jc_cap.specs.declared.texts.LoadedComponents.{LoadedComponents}
use Rattle.jc_cap.specs.Texts.{Taken, no_components, with_component}
use Rattle.jc_cap.specs.Contents.{Content}
use Rattle.jc_cap.specs.Contents as contents
use Rattle.jc_cap.specs.Component.{component_at}
use Rattle.jc_packages.specs.declared.load_refusal.LoadRefusal.{LoadRefusal}
use Rattle.jc_packages.specs.declared.load_refusal.LoadRefusal.TheVariants.{OutOfSequence, UnknownTag, BadComponents}
use Rattle.jc_packages.specs.declared.load.OpenLoad.{OpenLoad}
use Rattle.jc_packages.specs.Incoming.{IncomingValue}

-- how a command ends: well or with a refusal
abbrev pub CommandResult : Type 0
CommandResult = Result (Unit {0}) LoadRefusal

-- a command ended so, and left this
abbrev pub command_result : {A : Type 0} → CommandResult → A → CommandResult × A
command_result ended left = (ended, left)

-- memory was refused
abbrev pub no_memory : LoadRefusal
no_memory = BadComponents NoMemory

-- how a command ends where the memory that it asks for is refused: it asks for none where there is another refusal
abbrev pub ended_without_memory : CommandResult → CommandResult
ended_without_memory (Ok done) = Err no_memory
ended_without_memory (Err refusal) = Err refusal

-- what it then does, in place of this: it changes nothing
abbrev pub without_memory : {A : Type 0} → A → CommandResult × A → CommandResult × A
without_memory unchanged done = command_result (ended_without_memory done.0) unchanged

-- ---- a component that is coming

-- nothing has come yet
abbrev pub empty_component : ℕ → IncomingValue
empty_component tag = record { tag = tag; bytes = [] }

-- more bytes come: at most as many as a component can have with its tag and its size
abbrev pub component_with_bytes : List ℕ → IncomingValue → CommandResult × IncomingValue
component_with_bytes more c = if nat_lt 65538 (length c.bytes + length more) then (Err (BadComponents Trailing), c) else
    (Ok tt, record c { bytes = c.bytes ++ more })

-- ---- an open load

-- no component has come yet
unfoldable pub empty_load : OpenLoad
empty_load = record { format = None; texts = no_components; came = replicate 256 false; coming = None }

-- from Header's to Debug's, or that of a custom component
abbrev pub is_tag : ℕ → Bool
is_tag tag = (nat_le header_tag tag && nat_le tag debug_tag) || nat_le first_custom_tag tag

-- a component begins: none may be open, its tag must be one, and no component with it may have come
abbrev pub component_begin : ℕ → OpenLoad → CommandResult × OpenLoad
component_begin tag load =
    if is_some load.coming then (Err OutOfSequence, load) else
    if is_tag tag then (
    if slice_index_or load.came tag false then (Err (BadComponents (Repeated tag)), load) else
    (Ok tt, record load { coming = Some (empty_component tag) }))
    else (Err UnknownTag, load)

-- more of the component that is open, if one is
abbrev pub with_incoming : OpenLoad → CommandResult × IncomingValue → CommandResult × OpenLoad
with_incoming load r = (r.0, record load { coming = Some r.1 })

abbrev pub more_of : List ℕ → OpenLoad → Option IncomingValue → CommandResult × OpenLoad
more_of more load None = (Err OutOfSequence, load)
more_of more load (Some c) = with_incoming load (component_with_bytes more c)

abbrev pub component_append : List ℕ → OpenLoad → CommandResult × OpenLoad
component_append more load = more_of more load load.coming

-- what the component with this tag says, where the header that came, if one came, stated this format: a Directory and a Class
-- component are not read before a header, and the others are read alike in each format
abbrev pub content_in : Option Format → ℕ → List ℕ → Result Content CapFault
content_in (Some format) tag bytes = component_at format tag bytes
content_in None tag bytes = if tag == directory_tag || tag == class_tag then Err (Missing header_tag) else component_at V2_1 tag bytes

-- the format that a load's header has stated after a component that says this
abbrev pub format_behind : Option Format → Content → Option Format
format_behind told (contents.header h) = Some h.format
format_behind told x = told

-- the format in which a component with this tag is read, where the header that came, if one came, stated this one
abbrev pub format_for : Option Format → ℕ → Result Format CapFault
format_for (Some format) tag = Ok format
format_for None tag = if tag == directory_tag || tag == class_tag then Err (Missing header_tag) else Ok V2_1

-- a component that says this is kept with the others, and the format that is known after it; where it cannot be read nothing is kept
abbrev pub taken_behind : Option Format → LoadedComponents → ℕ → List ℕ → Result Content CapFault → Taken
taken_behind told texts tag bytes (Ok x) = (Ok (format_behind told x), with_component texts tag bytes)
taken_behind told texts tag bytes (Err fault) = (Err fault, texts)

-- a component that was read is kept; one that cannot be read is dropped
abbrev pub load_with : OpenLoad → IncomingValue → Result Content CapFault → CommandResult × OpenLoad
load_with load c (Err fault) = (Err (BadComponents fault), record load { coming = None })
load_with load c (Ok x) = (
  Ok tt,
  record load {
    format = format_behind load.format x;
    texts = with_component load.texts c.tag c.bytes;
    came = slice_set load.came c.tag true;
    coming = None;
  },
)

abbrev pub read_of : OpenLoad → Option IncomingValue → CommandResult × OpenLoad
read_of load None = (Err OutOfSequence, load)
read_of load (Some c) = load_with load c (content_in load.format c.tag c.bytes)

-- the component that is open ends
abbrev pub component_end : OpenLoad → CommandResult × OpenLoad
component_end load = read_of load load.coming
