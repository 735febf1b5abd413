-- MultiSelectable and AppletEvent: interfaces that classes of applets implement (API specification).
use Rattle.jc_platform.specs.declared.names.EventsMethod.{EventsMethod}
use Rattle.jc_platform.specs.declared.names.EventsMethod.TheVariants.{MultiSelectableSelect, MultiSelectableDeselect, AppletEventUninstall}
use Rattle.jc_world.specs.NativeCalls.{NativeProgram, code_fault}

-- no class of the platform has them
unfoldable pub event_call : EventsMethod → NativeProgram
event_call MultiSelectableSelect = code_fault
event_call MultiSelectableDeselect = code_fault
event_call AppletEventUninstall = code_fault
