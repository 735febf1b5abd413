-- Accesses whose rules do not ask for shareable interfaces.
use Rattle.std.proofs.Common.{◌≡◌, Bool, false, refl}
use Rattle.jc_firewall.specs.declared.access.Access.{Access}
use Rattle.jc_firewall.specs.declared.access.Access.TheVariants.{StaticField, ArrayElement, InstanceField, VirtualCall, StandardInterfaceCall}
use Rattle.jc_firewall.specs.declared.access.Access.TheVariants.{ShareableInterfaceCall, Throw, CastToClass, CastToStandardInterface, CastToShareableInterface}
use Rattle.jc_firewall.specs.declared.access.Access.TheVariants.{StoreReference}
use Rattle.jc_firewall.specs.declared.subject.Context.{Context}
use Rattle.jc_firewall.specs.declared.subject.Subject.{Subject}
use Rattle.jc_firewall.specs.Table.{decision}
use Rattle.jc_world.specs.Contexts.{needs_shareable}

-- the answer is the same whatever the object shares
pub unasked : (a : Access) (active selected : Context) (o : Subject) (b : Bool) → needs_shareable a ≡ false
    → decision a (record { active = active; selected = selected; object = record o { has_shareable_interface = b } })
    ≡ decision a (record { active = active; selected = selected; object = o })
unasked StaticField active selected o b e = refl
unasked ArrayElement active selected o b e = refl
unasked InstanceField active selected o b e = refl
unasked VirtualCall active selected o b e = refl
unasked StandardInterfaceCall active selected o b e = refl
unasked ShareableInterfaceCall active selected o b e = absurd cc
unasked Throw active selected o b e = refl
unasked CastToClass active selected o b e = refl
unasked CastToStandardInterface active selected o b e = refl
unasked CastToShareableInterface active selected o b e = absurd cc
unasked StoreReference active selected o b e = refl
