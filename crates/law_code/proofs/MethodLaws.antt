-- The laws.
use Rattle.std.proofs.Common.{◌≡◌, ℕ, ◌/◌, true, List, Some, arith}
use Rattle.jc_platform.specs.declared.names.PlatformMethod.{PlatformMethod}
use Rattle.jc_platform.specs.NamePlaces.{class_of, class_word}
use Rattle.jc_cap.specs.declared.pool.VirtualToken.{VirtualToken}
use Rattle.jc_linker.specs.declared.target.Method.TheVariants.{Native}
use Rattle.jc_linker.specs.declared.target.Target.TheVariants.{SuperMethod, VirtualMethod}
use Rattle.jc_linker.specs.Classes.{is_below, most_classes, is_a}
use Rattle.jc_linker.specs.Methods.{method_at, method_below}
use Rattle.jc_linker.specs.Lookups.{target_at}
use Rattle.jc_linker.specs.Values.{Packages}
use Rattle.jc_linker.specs.Values.{LinkerComponents}
use Rattle.law_code.proofs.EntryTargets.{few_packages}
use Rattle.law_code.specs.ReadPackages.{AreRead}
use Rattle.law_code.proofs.Chains.{below_reached}
use Rattle.law_code.proofs.ClassLaws.{good_of}
use Rattle.law_code.proofs.CellOrder.{listed}
use Rattle.law_code.specs.MethodLaws.{HaveMethods, HaveNoCode, RunTheirMethods}
use Rattle.law_code.specs.Methods.{IsMethodOf}
use Rattle.law_code.proofs.Above.{no_interface, super_entry, virtual_entry}
use Rattle.law_code.proofs.Behind.{all_stand_behind}
use Rattle.law_code.proofs.Ends.{all_end, below_above, below_through}
use Rattle.law_code.proofs.PlatformSearches.{by_interface, by_virtual}
use Rattle.law_code.proofs.InheritedMethods.{from_below}
use Rattle.law_code.proofs.PlatformClasses.{above_none, keeps_platform}

above_is : (cs : List LinkerComponents) (p : Packages) → AreRead cs p → (number index class below : ℕ) (m : PlatformMethod)
    → target_at p number index ≡ Some (SuperMethod class (Native m)) → is_below p below class ≡ true → is_a p below (class_of m) ≡ true
above_is cs p read number index class below m is e =
    let few = few_packages cs p read.linked in
    let (above, home, token, super, found) = super_entry cs p read.linked number index class (Native m) is in
    let reached = below_reached p (listed p few read.names read.bytes (good_of cs p read)) class (no_interface p class above super) below e in
    below_above p below class above (class_word p.platform (class_of m)) (all_end p few read.names read.bytes (all_stand_behind cs p read) below) reached super
    (by_virtual p above home token m found).0

entry_is : (cs : List LinkerComponents) (p : Packages) → AreRead cs p → (number index class below : ℕ) (token : VirtualToken) (m : PlatformMethod)
    → target_at p number index ≡ Some (VirtualMethod class token (Native m)) → is_below p below class ≡ true → IsMethodOf p below m
entry_is cs p read number index class below token m is e =
    let few = few_packages cs p read.linked in
    let (plain, found) = virtual_entry cs p read.linked number index class token (Native m) is in
    let reached = below_reached p (listed p few read.names read.bytes (good_of cs p read)) class plain below e in
    let its = by_virtual p class (class / 256) token m found in (
      below_through p below class (class_word p.platform (class_of m)) (all_end p few read.names read.bytes (all_stand_behind cs p read) below) reached its.0,
      its.1,
    )

pub have_methods : HaveMethods
have_methods cs p read = record {
  virtually = by_virtual p;
  by_interface = by_interface p;
  above = above_is cs p read;
  top = above_none p (few_packages cs p read.linked) read.names read.bytes;
  entries = entry_is cs p read;
  few = few_packages cs p read.linked;
}

pub run_their_methods : RunTheirMethods
unfolding method_below method_at
run_their_methods cs p read number index class below token method is e =
    let few = few_packages cs p read.linked in
    let (plain, found) = virtual_entry cs p read.linked number index class token method is in
    let reached = below_reached p (listed p few read.names read.bytes (good_of cs p read)) class plain below e in
    from_below p class token method found most_classes (Some below) (omega arith) reached
    (all_end p few read.names read.bytes (all_stand_behind cs p read) below)

pub have_no_code : HaveNoCode
have_no_code cs p linked = keeps_platform p (few_packages cs p linked) (λ number index class token m is. (virtual_entry cs p linked number index class token m is).1)
