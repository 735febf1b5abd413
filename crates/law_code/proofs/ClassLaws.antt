-- The laws.
use Rattle.std.proofs.Common.{◌≡◌, ℕ, ◌≤◌, Bool, false, true, List, Some, subst, sym, ◌∙◌}
use Rattle.jc_platform.specs.declared.names.PlatformClass.{PlatformClass}
use Rattle.jc_platform.specs.Hierarchy.{cells_of, is_interface}
use Rattle.jc_linker.specs.declared.target.Target.TheVariants.{InstanceField}
use Rattle.jc_linker.specs.Classes.{is_below, reference_cell, is_a}
use Rattle.jc_linker.specs.Lookups.{target_at}
use Rattle.jc_linker.specs.Values.{Packages}
use Rattle.jc_linker.specs.Values.{LinkerComponents}
use Rattle.law_code.proofs.EntryTargets.{few_packages}
use Rattle.law_code.proofs.Fields.{named_field}
use Rattle.law_code.specs.Classes.{has_instances}
use Rattle.law_code.specs.ReadPackages.{AreRead}
use Rattle.law_code.specs.ClassLaws.{HaveCells, HaveClasses, HaveFields, HaveReceivers}
use Rattle.law_code.proofs.Cells.{field_behind, field_is, platform_cells}
use Rattle.law_code.proofs.Fields.{hide_fields}
use Rattle.law_code.proofs.Good.{AllGood, all_good}
use Rattle.law_code.proofs.NamedClasses.{named_there}
use Rattle.law_code.proofs.PlatformReceivers.{by_entry, by_token}

pub good_of : (cs : List LinkerComponents) (p : Packages) → AreRead cs p → AllGood p
good_of cs p read = all_good cs p read.linked read.classes

pub have_cells : HaveCells
have_cells cs p read = platform_cells p (few_packages cs p read.linked) read.names read.bytes (good_of cs p read)

field_kind : (cs : List LinkerComponents) (p : Packages) → AreRead cs p → (number index of cell class : ℕ) (reference : Bool)
    → target_at p number index ≡ Some (InstanceField of cell reference) → has_instances p class ≡ true → is_below p class of ≡ true
    → reference_cell p class cell ≡ reference
field_kind cs p read number index of cell class reference is has below =
    let (c, token, at, less, place, kind) = named_field cs p read.linked number index of cell reference is in
    subst (λ k. reference_cell p class k ≡ reference) (sym place) (field_is p (few_packages cs p read.linked) read.names read.bytes
    (good_of cs p read) of token class c at less has below ∙ sym kind)

field_place : (cs : List LinkerComponents) (p : Packages) → AreRead cs p → (number index of cell class : ℕ) (reference : Bool) (platform : PlatformClass)
    → target_at p number index ≡ Some (InstanceField of cell reference) → has_instances p class ≡ true → is_interface platform ≡ false →
    is_below p class of ≡ true → is_a p class platform ≡ true → cells_of platform ≤ cell
field_place cs p read number index of cell class reference platform is has plain below also =
    let (c, token, at, less, place, kind) = named_field cs p read.linked number index of cell reference is in
    subst (λ k. cells_of platform ≤ k) (sym place) (field_behind p (few_packages cs p read.linked) read.names read.bytes
    (good_of cs p read) of token class c platform at less has plain below also)

pub have_fields : HaveFields
have_fields cs p read = record { kinds = field_kind cs p read; hidden = hide_fields cs p read.linked; behind = field_place cs p read }

pub have_receivers : HaveReceivers
have_receivers cs p linked = record {
  virtually = λ class number token method there is. by_token p class number token method is;
  statically = by_entry cs p linked;
}

pub have_classes : HaveClasses
have_classes cs p read = record {
  platform = have_cells cs p read;
  fields = have_fields cs p read;
  receivers = have_receivers cs p read.linked;
  classes = named_there cs p read;
}
