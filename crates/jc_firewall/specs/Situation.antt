-- What the firewall sees of an access: the active context, the selected applet's, and the object.
use Rattle.std.specs.Prelude.{Bool, true, false, not, ◌||◌, ◌==◌}
use Rattle.jc_firewall.specs.declared.subject.Context.{Context}
use Rattle.jc_firewall.specs.declared.subject.Context.TheVariants.{Jcre, Package}
use Rattle.jc_firewall.specs.declared.subject.Designation.{Designation}
use Rattle.jc_firewall.specs.declared.subject.Designation.TheVariants.{Ordinary, PermanentEntryPoint, TemporaryEntryPoint, GlobalArray}
use Rattle.jc_firewall.specs.declared.subject.Subject.{Subject}
use Rattle.jc_firewall.specs.declared.subject.Situation.{Situation}

-- two contexts are one
abbrev pub same_context : Context → Context → Bool
same_context Jcre Jcre = true
same_context Jcre (Package q) = false
same_context (Package p) Jcre = false
same_context (Package p) (Package q) = p == q

-- a JCRE entry point object, temporary or permanent
abbrev pub entry_point : Designation → Bool
entry_point Ordinary = false
entry_point PermanentEntryPoint = true
entry_point TemporaryEntryPoint = true
entry_point GlobalArray = false

-- a global array
abbrev pub global_array : Designation → Bool
global_array Ordinary = false
global_array PermanentEntryPoint = false
global_array TemporaryEntryPoint = false
global_array GlobalArray = true

-- neither a global array nor a temporary JCRE entry point object
abbrev pub storable : Designation → Bool
storable Ordinary = true
storable PermanentEntryPoint = true
storable TemporaryEntryPoint = false
storable GlobalArray = false

abbrev pub is_entry_point : Subject → Bool
is_entry_point o = entry_point o.designation

abbrev pub is_global_array : Subject → Bool
is_global_array o = global_array o.designation

abbrev pub may_be_stored : Subject → Bool
may_be_stored o = storable o.designation

-- the object's owner is in the active context
abbrev pub is_own : Situation → Bool
is_own s = same_context s.object.owner s.active

-- the runtime environment's context is active
abbrev pub is_environment : Situation → Bool
is_environment s = same_context s.active Jcre

-- no array that is cleared at a deselection, or the active context is the selected applet's
abbrev pub is_live_transient : Situation → Bool
is_live_transient s = not s.object.is_clear_on_deselect || same_context s.selected s.active
