-- JCSystem (API specification).
pub mod Memory
pub mod Sharing
pub mod Transactions
pub mod Transient
use Rattle.std.specs.Prelude.{List, false, pos}
use Rattle.jc_heap.specs.declared.object.Kind.TheVariants.{BooleanArray, ByteArray, ShortArray, ReferenceArray}
use Rattle.jc_frames.specs.declared.cell.Cell.{Cell}
use Rattle.jc_memory.specs.State.{MemoryState}
use Rattle.jc_linker.specs.Values.{Packages}
use Rattle.jc_platform.specs.declared.names.SystemMethod.{SystemMethod}
use Rattle.jc_platform.specs.declared.names.SystemMethod.TheVariants.{JcSystemAbortTransaction, JcSystemBeginTransaction, JcSystemCommitTransaction}
use Rattle.jc_platform.specs.declared.names.SystemMethod.TheVariants.{JcSystemGetAid, JcSystemGetAppletShareableInterfaceObject, JcSystemGetMaxCommitCapacity}
use Rattle.jc_platform.specs.declared.names.SystemMethod.TheVariants.{JcSystemGetPreviousContextAid, JcSystemGetTransactionDepth}
use Rattle.jc_platform.specs.declared.names.SystemMethod.TheVariants.{JcSystemGetUnusedCommitCapacity, JcSystemIsTransient, JcSystemLookupAid}
use Rattle.jc_platform.specs.declared.names.SystemMethod.TheVariants.{JcSystemMakeTransientBooleanArray, JcSystemMakeTransientByteArray}
use Rattle.jc_platform.specs.declared.names.SystemMethod.TheVariants.{JcSystemMakeTransientObjectArray, JcSystemMakeTransientShortArray}
use Rattle.jc_platform.specs.declared.names.SystemMethod.TheVariants.{JcSystemGetVersion, JcSystemIsObjectDeletionSupported}
use Rattle.jc_platform.specs.declared.names.SystemMethod.TheVariants.{JcSystemRequestObjectDeletion, JcSystemIsAppletActive, JcSystemGetAssignedChannel}
use Rattle.jc_platform.specs.declared.names.SystemMethod.TheVariants.{JcSystemGetAvailableMemory, JcSystemGetAvailableMemoryShorts}
use Rattle.jc_frames.specs.declared.exceptions.Exception.{Exception}
use Rattle.jc_frames.specs.declared.exceptions.Exception.TheVariants.{SystemException}
use Rattle.jc_world.specs.NativeCalls.{NativeProgram, throw_exception}
use Rattle.jc_world.specs.Answers.{returns_bool, returns_short}
use Rattle.jc_api_framework.specs.System.Transactions.{jc_system_begin_transaction, jc_system_commit_transaction, jc_system_abort_transaction}
use Rattle.jc_api_framework.specs.System.Transactions.{jc_system_get_transaction_depth, jc_system_get_max_commit_capacity, jc_system_get_unused_commit_capacity}
use Rattle.jc_api_framework.specs.System.Transient.{jc_system_make_transient_array, jc_system_is_transient}
use Rattle.jc_api_framework.specs.System.Memory.{jc_system_get_available_memory, jc_system_get_available_memory_shorts}
use Rattle.jc_api_framework.specs.System.Sharing.{returns_reference, jc_system_get_aid, jc_system_get_previous_context_aid, jc_system_lookup_aid}
use Rattle.jc_api_framework.specs.System.Sharing.{jc_system_get_applet_shareable_interface_object, jc_system_is_applet_active}

-- JCSystem.getVersion: the version of the API, 3.1, the major one in the high byte
abbrev pub jc_system_get_version : NativeProgram
jc_system_get_version = returns_short (pos 769)

-- JCSystem.isObjectDeletionSupported: no
abbrev pub jc_system_is_object_deletion_supported : NativeProgram
jc_system_is_object_deletion_supported = returns_bool false

-- SystemException: the call is not there on this card
abbrev pub illegal_use_of_system : Exception
illegal_use_of_system = SystemException (pos 6)

-- JCSystem.requestObjectDeletion: a card without object deletion throws
abbrev pub jc_system_request_object_deletion : NativeProgram
jc_system_request_object_deletion = throw_exception illegal_use_of_system

-- JCSystem.getAssignedChannel: the basic channel, the only one
abbrev pub jc_system_get_assigned_channel : NativeProgram
jc_system_get_assigned_channel = returns_short (pos 0)

-- what a call of any method of JCSystem may do
unfoldable pub system_call : SystemMethod → List Cell → Packages → MemoryState → NativeProgram
system_call JcSystemAbortTransaction args p m = jc_system_abort_transaction m.registers.depth m
system_call JcSystemBeginTransaction args p m = jc_system_begin_transaction m.registers.depth m
system_call JcSystemCommitTransaction args p m = jc_system_commit_transaction m.registers.depth m
system_call JcSystemGetAid args p m = returns_reference (jc_system_get_aid m)
system_call JcSystemGetAppletShareableInterfaceObject args p m = jc_system_get_applet_shareable_interface_object args p m
system_call JcSystemGetMaxCommitCapacity args p m = returns_short (jc_system_get_max_commit_capacity m)
system_call JcSystemGetPreviousContextAid args p m = returns_reference (jc_system_get_previous_context_aid m)
system_call JcSystemGetTransactionDepth args p m = returns_short (jc_system_get_transaction_depth m.registers.depth)
system_call JcSystemGetUnusedCommitCapacity args p m = returns_short (jc_system_get_unused_commit_capacity m)
system_call JcSystemIsTransient args p m = jc_system_is_transient args m
system_call JcSystemLookupAid args p m = jc_system_lookup_aid args p m
system_call JcSystemMakeTransientBooleanArray args p m = jc_system_make_transient_array BooleanArray args p m
system_call JcSystemMakeTransientByteArray args p m = jc_system_make_transient_array ByteArray args p m
system_call JcSystemMakeTransientObjectArray args p m = jc_system_make_transient_array ReferenceArray args p m
system_call JcSystemMakeTransientShortArray args p m = jc_system_make_transient_array ShortArray args p m
system_call JcSystemGetVersion args p m = jc_system_get_version
system_call JcSystemIsObjectDeletionSupported args p m = jc_system_is_object_deletion_supported
system_call JcSystemRequestObjectDeletion args p m = jc_system_request_object_deletion
system_call JcSystemIsAppletActive args p m = jc_system_is_applet_active args p m
system_call JcSystemGetAssignedChannel args p m = jc_system_get_assigned_channel
system_call JcSystemGetAvailableMemory args p m = jc_system_get_available_memory args m
system_call JcSystemGetAvailableMemoryShorts args p m = jc_system_get_available_memory_shorts args p m
