-- What is known of a package's static fields.
use Rattle.std.proofs.Common.{◌≡◌, ℕ, ◌+◌, ◌*◌, ◌≤◌, List, length, sym, ap, subst, arith, Ok}
use Rattle.jc_cap.specs.Statics.{AreStatics}
use Rattle.jc_cap.specs.declared.texts.PackageBytes.{PackageBytes}
use Rattle.jc_cap.specs.Contents.{PackageContents}
use Rattle.jc_cap.specs.Assembling.{IsPackage}
use Rattle.jc_cap.specs.PackageReading.{contents_of}
use Rattle.jc_packages.specs.RecordContents.{statics_if_present, statics_of, zeros_of}

-- the statics that were read are those of the package
pub statics_read : (t : PackageBytes) (c : PackageContents) → contents_of t ≡ Ok c → statics_of t ≡ c.statics
statics_read t c read = ap statics_if_present read

grammar : (t : PackageBytes) → IsPackage t → (info : List ℕ) × AreStatics (statics_of t) info
grammar t sound = subst (λ s. (info : List ℕ) × AreStatics s info) (sym (statics_read t sound.contents sound.read)) sound.statics

-- there is a reference for each array
pub few_arrays : (t : PackageBytes) → IsPackage t → length (statics_of t).arrays ≤ (statics_of t).reference_count
few_arrays t sound = let g = grammar t sound in g.1.7.2

-- the image is as large as it says
pub image_adds_up : (t : PackageBytes) → IsPackage t → 2 * length (statics_of t).arrays + (zeros_of (statics_of t) + length (statics_of t).non_default_values)
    ≡ (statics_of t).image_size
image_adds_up t sound =
    let g = grammar t sound in
    let few : length (statics_of t).arrays ≤ (statics_of t).reference_count = g.1.7.2 in
    let size : (statics_of t).image_size ≡ 2 * (statics_of t).reference_count + (statics_of t).default_value_count + length (statics_of t).non_default_values =
    g.1.10 in
    omega (arith, few, size)
