-- What a package that was prepared was prepared of.
use Rattle.std.proofs.Common.{◌≡◌, ◌<◌, Result, Ok, Err, length, ap, ◌∙◌, nat_le}
use Rattle.std.specs.Prelude.{is_some}
use Rattle.std.proofs.lemmas.Bool.{leb-false}
use Rattle.jc_cap.specs.declared.texts.LoadedComponents.{LoadedComponents}
use Rattle.jc_cap.specs.declared.texts.PackageBytes.{PackageBytes}
use Rattle.jc_cap.specs.Contents.{PackageContents}
use Rattle.jc_cap.specs.Assembling.{assembly_of}
use Rattle.jc_cap.specs.PackageReading.{contents_of}
use Rattle.jc_linker.specs.Values.{PackageValue, Packages}
use Rattle.jc_linker.specs.Lookups.{package_with_aid}
use Rattle.jc_linker.specs.Linking.{link_result}
use Rattle.jc_packages.specs.PendingPackages.{PendingPackageValue, if_read, linked_components, linked_package}
use Rattle.jc_packages.specs.LinkerView.{linker_view}
use Rattle.jc_packages.specs.declared.load_refusal.LoadRefusal.{LoadRefusal}
use Rattle.jc_packages.specs.declared.load_refusal.LoadRefusal.TheVariants.{AidTaken, Full}
use Rattle.law_soundness.proofs.RecordPackages.{linked_ok, read_ok, refused}

abbrev prepared_or : PendingPackageValue → Result PendingPackageValue LoadRefusal → PendingPackageValue
prepared_or d (Ok q) = q
prepared_or d (Err why) = d

linked_of : (q r : PendingPackageValue) → ◌≡◌ {A = Result PendingPackageValue LoadRefusal} (Ok q) (Ok r) → q.linked ≡ r.linked
linked_of q r e = ap (λ o. (prepared_or q o).linked) e

-- the components and what they say; there was a place for the package, and it was linked
pub record IsPrepared (p : Packages) (load : LoadedComponents) (q : PackageValue) : Type 0 where
  pub texts : PackageBytes
  pub contents : PackageContents
  pub assembles : assembly_of load ≡ Ok texts
  pub reads : contents_of texts ≡ Ok contents
  pub few : length p.loaded < 32
  pub links : link_result p (linker_view texts contents) ≡ Ok q

pub prepares : (p : Packages) (load : LoadedComponents) (q : PendingPackageValue) → linked_components p load ≡ Ok q → IsPrepared p load q.linked
unfolding linked_components linked_package
prepares p load q e =
    let t = read_ok (assembly_of load) (λ t. if_read (contents_of t) (λ c. linked_package p t c)) q e in
    let c = read_ok (contents_of t.0) (λ c. linked_package p t.0 c) q t.2 in
    let known = refused (is_some (package_with_aid p c.0.header.this_package.aid)) AidTaken _ q c.2 in
    let full = refused (nat_le 32 (length p.loaded)) Full _ q known.1 in
    let l = linked_ok (link_result p (linker_view t.0 c.0)) (λ r. Ok (record { texts = t.0; linked = r })) q full.1 in
    record {
      texts = t.0;
      contents = c.0;
      assembles = t.1;
      reads = c.1;
      few = leb-false 32 (length p.loaded) full.0;
      links = l.1 ∙ ap Ok (linked_of (record { texts = t.0; linked = l.0 }) q l.2);
    }
