-- Which method a call runs, and for whom.
use Rattle.std.specs.Prelude.{ℕ, ◌≡◌, ◌-◌, ◌==◌, ◌||◌, not, Bool, true, false, List, slice_get, Option, Some, None, Result, Ok, Err, if◌then◌else◌}
use Rattle.std.specs.Option.{option_map, option_and_then}
use Rattle.jc_heap.specs.declared.object.Facts.{Facts}
use Rattle.jc_transient.specs.declared.owner.Owner.{Owner}
use Rattle.jc_transient.specs.Owners.{owner_of}
use Rattle.jc_memory.specs.State.{MemoryState}
use Rattle.jc_cap.specs.declared.pool.VirtualToken.{VirtualToken}
use Rattle.jc_platform.specs.declared.names.PlatformClass.TheVariants.{Object}
use Rattle.jc_platform.specs.declared.names.PlatformMethod.{PlatformMethod}
use Rattle.jc_platform.specs.NamePlaces.{class_word}
use Rattle.jc_linker.specs.declared.target.Method.{Method}
use Rattle.jc_linker.specs.declared.target.Method.TheVariants.{Code, Native}
use Rattle.jc_linker.specs.declared.target.Target.{Target}
use Rattle.jc_linker.specs.declared.target.Target.TheVariants.{Class, VirtualMethod, SuperMethod, StaticMethod}
use Rattle.jc_linker.specs.Values.{Packages}
use Rattle.jc_linker.specs.Classes.{is_below, is_shareable}
use Rattle.jc_linker.specs.Lookups.{target_at}
use Rattle.jc_linker.specs.Methods.{interface_method_at, method_below}
use Rattle.jc_firewall.specs.declared.access.Access.{Access}
use Rattle.jc_firewall.specs.declared.access.Access.TheVariants.{InstanceField, VirtualCall, StandardInterfaceCall, ShareableInterfaceCall}
use Rattle.jc_firewall.specs.declared.decide.Decision.{Decision}
use Rattle.jc_firewall.specs.declared.decide.Decision.TheVariants.{Allow, Switch, Deny}
use Rattle.jc_frames.specs.declared.instr.InvokeOp.{InvokeOp}
use Rattle.jc_frames.specs.declared.instr.InvokeOp.TheVariants.{Virtual, Special, Static, Interface}
use Rattle.jc_frames.specs.declared.cell.Cell.{Cell}
use Rattle.jc_frames.specs.declared.exceptions.Exception.TheVariants.{SecurityException}
use Rattle.jc_frames.specs.declared.outcome.Outcome.TheVariants.{Fault}
use Rattle.jc_frames.specs.declared.outcome.FrameExit.{FrameExit}
use Rattle.jc_frames.specs.declared.outcome.FrameExit.TheVariants.{Throw, End}
use Rattle.jc_frames.specs.Cell.{as_reference}
use Rattle.jc_frames.specs.Frames.{Frames}
use Rattle.jc_frames.specs.declared.header.Header.{Header}
use Rattle.jc_frames.specs.Header.{header_in}
use Rattle.jc_world.specs.Contexts.{firewall_check, firewall_decision}
use Rattle.jc_world.specs.Answers.{and_then}
use Rattle.jc_world.specs.Objects.{object_at, some_or_fault, check_or_fault, is_instance}
use Rattle.jc_api.specs.Kinds.{is_present_and}
use Rattle.jc_instructions.specs.declared.invoke.MethodCall.{MethodCall}
use Rattle.jc_instructions.specs.declared.invoke.SelectedCall.{SelectedCall}
use Rattle.jc_instructions.specs.declared.known_calls.CodeMethod.{CodeMethod}
use Rattle.jc_instructions.specs.declared.enter.Callee.{Callee}
use Rattle.jc_instructions.specs.Parameters.{fits}
use Rattle.jc_platform.specs.Signatures.{argument_cells, is_constructor}
use Rattle.jc_instructions.specs.MethodComponent.{method_component_of}

-- what the header of a method in bytecode says, if it is not cut
unfoldable pub header_of : Packages → Method → Option Header
header_of p (Code number offset) = header_in (method_component_of p number) offset
header_of p (Native method) = None

-- how many cells the arguments of a method have, the receiver among them; none where its header is cut
unfoldable pub arguments_of : Packages → Method → Option ℕ
arguments_of p (Code number offset) = option_map (λ h. h.arguments) (header_in (method_component_of p number) offset)
arguments_of p (Native method) = Some (argument_cells method)

-- ---- receivers

-- the reference below the other arguments; none where there is none
abbrev pub receiver_on : ℕ → List Cell → Option ℕ
receiver_on n stack = if n == 0 then None else option_and_then as_reference (slice_get stack (n - 1))

-- the header of the receiver of a method with this many arguments
unfoldable pub receiver_of : ℕ → List Cell → MemoryState → Result Facts FrameExit
receiver_of n stack m = and_then (some_or_fault (receiver_on n stack)) (λ r. object_at m r)

abbrev pub is_null_on : ℕ → List Cell → Bool
is_null_on n stack = is_present_and (receiver_on n stack) (λ r. r == 0)

-- after a null receiver the arguments have the kinds that the method of the entry wants
abbrev pub fits_at_null : ℕ → Method → Packages → List Cell → MemoryState → Bool
fits_at_null n method p stack m = not (is_null_on n stack) || fits method p m stack

-- an object's class; arrays are instances of Object
abbrev pub class_of : Packages → Facts → ℕ
class_of p f = if is_instance f.kind then f.class else class_word p.platform Object

abbrev pub is_of : Packages → Facts → ℕ → Bool
is_of p f class = is_below p (class_of p f) class

-- an entry that names no class asks for none
abbrev pub is_of_any : Packages → Facts → Option ℕ → Bool
is_of_any p f None = true
is_of_any p f (Some class) = is_of p f class

-- ---- calls

abbrev pub call_of : Method → ℕ → Option Owner → MethodCall
call_of method arguments owner = record { method = method; arguments = arguments; switches_to = owner }

-- what the firewall says of a call on an object: in another context it runs for the object's owner
abbrev pub call_decision : Decision → Facts → Method → ℕ → Result MethodCall FrameExit
call_decision Allow f method n = Ok (call_of method n None)
call_decision (Switch context) f method n = Ok (call_of method n (Some (owner_of f.owner)))
call_decision (Deny rule) f method n = Err (Throw SecurityException)

-- a method that was found runs, where the arguments have the kinds that it wants, as the firewall decides
abbrev pub found_call : Decision → Method → ℕ → Packages → List Cell → MemoryState → Facts → Result MethodCall FrameExit
found_call decision found n p stack m f = and_then (check_or_fault (fits found p m stack)) (λ w. call_decision decision f found n)

-- the method that a virtual call selects on a receiver with this header
abbrev pub virtual_on : ℕ → VirtualToken → Method → ℕ → Packages → List Cell → MemoryState → Facts → Result MethodCall FrameExit
virtual_on class token method n p stack m f =
    and_then (check_or_fault (is_of p f class)) (λ v. and_then (some_or_fault (method_below p (class_of p f) class token method))
    (λ found. found_call (firewall_decision VirtualCall p m f) found n p stack m f))

-- invokevirtual: the method selected by the receiver's class, by its token; the arguments are those of the
-- method of the class that the entry names
unfoldable pub invokevirtual : ℕ → VirtualToken → Method → Packages → List Cell → MemoryState → Result MethodCall FrameExit
invokevirtual class token method p stack m =
    and_then (some_or_fault (arguments_of p method)) (λ n. and_then (check_or_fault (fits_at_null n method p stack m))
    (λ u. and_then (receiver_of n stack m) (virtual_on class token method n p stack m)))

-- the method that an entry names runs on a receiver with this header
abbrev pub special_on : Option ℕ → Method → ℕ → Packages → List Cell → MemoryState → Facts → Result MethodCall FrameExit
special_on class method n p stack m f =
    and_then (check_or_fault (is_of_any p f class)) (λ v. and_then (check_or_fault (fits method p m stack)) (λ w.
    and_then (firewall_check InstanceField p m f) (λ x. Ok (call_of method n None))))

-- invokespecial: the method that the entry names, on an instance of its class where the entry names one; the
-- caller's context stays
unfoldable pub invokespecial : Option ℕ → Method → Packages → List Cell → MemoryState → Result MethodCall FrameExit
invokespecial class method p stack m =
    and_then (some_or_fault (arguments_of p method)) (λ n. and_then (check_or_fault (fits_at_null n method p stack m))
    (λ u. and_then (receiver_of n stack m) (special_on class method n p stack m)))

-- a constructor of the platform
abbrev pub is_native_constructor : Method → Bool
is_native_constructor (Code number offset) = false
is_native_constructor (Native method) = is_constructor method

-- invokestatic: the method that the entry names, without a receiver; no constructor of the platform, which has one
unfoldable pub invokestatic : Method → Packages → Result MethodCall FrameExit
invokestatic method p =
    and_then (check_or_fault (not (is_native_constructor method))) (λ u. and_then (some_or_fault (arguments_of p method)) (λ n. Ok (call_of method n None)))

-- a call of an interface's method, as the firewall sees it
abbrev pub interface_access : Packages → ℕ → Access
interface_access p interface = if is_shareable p interface then ShareableInterfaceCall else StandardInterfaceCall

-- invokeinterface: the method of the receiver's class that implements the interface's, with this many arguments
unfoldable pub invokeinterface : ℕ → ℕ → ℕ → Packages → List Cell → MemoryState → Result MethodCall FrameExit
invokeinterface interface n token p stack m =
    and_then (receiver_of n stack m) (λ f. and_then (check_or_fault (is_of p f interface))
    (λ u. and_then (some_or_fault (interface_method_at p (class_of p f) interface token)) (λ found.
    found_call (firewall_decision (interface_access p interface) p m f) found n p stack m f)))

-- ---- by what the entry of the constant pool resolves to; another one is a code fault

abbrev pub virtual_by : Option Target → Packages → List Cell → MemoryState → Result MethodCall FrameExit
virtual_by (Some (VirtualMethod class token method)) p stack m = invokevirtual class token method p stack m
virtual_by _ p stack m = Err (End Fault)

abbrev pub special_by : Option Target → Packages → List Cell → MemoryState → Result MethodCall FrameExit
special_by (Some (StaticMethod class method)) p stack m = invokespecial class method p stack m
special_by (Some (SuperMethod class method)) p stack m = invokespecial (Some class) method p stack m
special_by _ p stack m = Err (End Fault)

abbrev pub static_by : Option Target → Packages → Result MethodCall FrameExit
static_by (Some (StaticMethod class method)) p = invokestatic method p
static_by _ p = Err (End Fault)

abbrev pub interface_by : Option Target → ℕ → ℕ → Packages → List Cell → MemoryState → Result MethodCall FrameExit
interface_by (Some (Class class)) n token p stack m = invokeinterface class n token p stack m
interface_by _ n token p stack m = Err (End Fault)

-- which method a virtual call runs
abbrev pub virtual_selection : ℕ → Packages → Frames → MemoryState → Result MethodCall FrameExit
virtual_selection index p s m = virtual_by (target_at p s.current.origin.package_number index) p s.current.stack m

-- which method a static call runs
abbrev pub static_selection : ℕ → Packages → Frames → Result MethodCall FrameExit
static_selection index p s = static_by (target_at p s.current.origin.package_number index) p

-- which method a call runs, with how many arguments, and for whom
unfoldable pub method_selection : InvokeOp → Packages → Frames → MemoryState → Result MethodCall FrameExit
method_selection (Virtual index) p s m = virtual_selection index p s m
method_selection (Special index) p s m = special_by (target_at p s.current.origin.package_number index) p s.current.stack m
method_selection (Static index) p s m = static_selection index p s
method_selection (Interface n index token) p s m = interface_by (target_at p s.current.origin.package_number index) n token p s.current.stack m

-- a virtual call that names this class and this method of the platform finds one on instances of a class, which takes as many cells
abbrev pub IsFoundAt : Packages → ℕ → ℕ → VirtualToken → PlatformMethod → PlatformMethod → Type 0
IsFoundAt p own class token method found = (is_below p own class ≡ true) × (method_below p own class token (Native method) ≡ Some (Native found))
    × (argument_cells found ≡ argument_cells method)

-- a virtual call that names this class and this method finds one in bytecode on instances of a class, with this header
abbrev pub IsFoundCode : Packages → ℕ → ℕ → VirtualToken → Method → CodeMethod → Type 0
IsFoundCode p own class token method found = (is_below p own class ≡ true)
    × (method_below p own class token method ≡ Some (Code found.package_number found.offset))
    × (header_of p (Code found.package_number found.offset) ≡ Some found.header)

-- no rule refuses a call on an object, and the method that it runs runs for this owner, or for the caller's
abbrev pub IsSwitchedTo : Access → Packages → MemoryState → Facts → Option Owner → Type 0
IsSwitchedTo access p m f owner = (method : Method) (n : ℕ) → call_decision (firewall_decision access p m f) f method n ≡ Ok (call_of method n owner)

-- the call of a method in bytecode
abbrev pub call_of_code : Callee → MethodCall
call_of_code c = call_of (Code c.package_number c.offset) c.arguments c.switches_to

-- an entry that names a method of the platform, for virtual calls
abbrev pub Names : PlatformMethod → Target → Type 0
Names method (VirtualMethod class token (Native named)) = named ≡ method
Names method other = ⊥

-- a call of a method of the platform was chosen, with as many cells as arguments as it takes
abbrev pub ChoosesOfPlatform : Result MethodCall FrameExit → PlatformMethod → Type 0
ChoosesOfPlatform result method = (owner : Option Owner) × (result ≡ Ok (call_of (Native method) (argument_cells method) owner))

-- the call that was chosen, with what the header of its method says
abbrev pub with_header : Packages → Result MethodCall FrameExit → Result SelectedCall FrameExit
with_header p (Ok c) = Ok (record { call = c; header = header_of p c.method })
with_header p (Err e) = Err e
