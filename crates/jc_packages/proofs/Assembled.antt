-- A package that is put together is read of its components.
use Rattle.std.proofs.Common.{◌≡◌, Result, Ok, Err, None, sym, ap, ◌∙◌}
use Rattle.jc_cap.specs.declared.fault.CapFault.{CapFault}
use Rattle.jc_cap.specs.declared.texts.LoadedComponents.{LoadedComponents}
use Rattle.jc_cap.specs.declared.texts.PackageBytes.{PackageBytes}
use Rattle.jc_cap.specs.Assembling.{assembly_of}
use Rattle.jc_linker.specs.Values.{Packages}
use Rattle.jc_packages.specs.PendingPackages.{if_read, linked_components, linked_texts}
use Rattle.jc_packages.specs.Reading.{with_prepared}
use Rattle.jc_packages.specs.declared.load_refusal.LoadRefusal.TheVariants.{BadComponents}

pub linked_is : (p : Packages) (load : LoadedComponents) (t : PackageBytes) → assembly_of load ≡ Ok t → linked_components p load ≡ linked_texts p t
unfolding linked_components
linked_is p load t e = ap (λ (r : Result PackageBytes CapFault). if_read r (linked_texts p)) e

pub refused_is : (p : Packages) (load : LoadedComponents) (fault : CapFault) → assembly_of load ≡ Err fault
    → linked_components p load ≡ Err (BadComponents fault)
unfolding linked_components
refused_is p load fault e = ap (λ (r : Result PackageBytes CapFault). if_read r (linked_texts p)) e

-- what is added of the components of a record
pub added_is : (p : Packages) (load whole : LoadedComponents) (t : PackageBytes) → load ≡ whole → assembly_of load ≡ Ok t
    → with_prepared p (linked_components p whole) ≡ with_prepared p (linked_texts p t)
added_is p load whole t is e = ap (λ l. with_prepared p (linked_components p l)) (sym is) ∙ ap (with_prepared p) (linked_is p load t e)

pub nothing_is : (p : Packages) (load whole : LoadedComponents) (fault : CapFault) → load ≡ whole → assembly_of load ≡ Err fault
    → with_prepared p (linked_components p whole) ≡ None
nothing_is p load whole fault is e = ap (λ l. with_prepared p (linked_components p l)) (sym is) ∙ ap (with_prepared p) (refused_is p load fault e)
