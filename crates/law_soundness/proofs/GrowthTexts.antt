-- Components as a record has them.
use Rattle.std.proofs.Common.{◌≡◌, ℕ, ◌+◌, ◌/◌, ◌%◌, ◌==◌, ◌<◌, Bool, true, false, List, ◌∷◌, ◌++◌, Option, Some, None, Ok, drop, length, get_or, sym, ap}
use Rattle.std.proofs.Common.{subst, ◌∙◌, arith, if◌then◌else◌}
use Rattle.std.specs.Prelude.{All}
use Rattle.std.proofs.lemmas.List.{get_or-drop}
use Rattle.std.proofs.lemmas.List.Elements.{All-from_get_or}
use Rattle.std.proofs.lemmas.List.FromFn.{length-map-range_with_len, get_or-map-range_with_len}
use Rattle.jc_heap.specs.Component.{info_of}
use Rattle.jc_heap.specs.Packed.{packed_byte, bytes_of_packed}
use Rattle.jc_cap.specs.declared.formats.Format.{Format}
use Rattle.jc_cap.specs.Reading.{value_of_whole}
use Rattle.jc_cap.proofs.Many.{bind_ok, ok_is}
use Rattle.jc_cap.proofs.Wholes.{whole_takes}
use Rattle.jc_cap.specs.Applets.{AppletNamed, IsApplets, applets_at}
use Rattle.jc_cap.specs.Envelope.{info_at}
use Rattle.jc_cap.proofs.ToldEnvelope.{info_takes}
use Rattle.jc_cap.proofs.ToldLists.{applets_tells}
use Rattle.jc_cap.specs.Classes.{AreClasses}
use Rattle.jc_cap.specs.ClassValues.{RecordAt}
use Rattle.jc_cap.specs.declared.texts.LoadedComponents.{LoadedComponents}
use Rattle.jc_cap.specs.declared.texts.PackageBytes.{PackageBytes}
use Rattle.jc_cap.specs.Contents.{PackageContents}
use Rattle.jc_cap.specs.Assembling.{assembly_of, checked_package, required_components}
use Rattle.jc_cap.specs.ComponentReading.{applets_in, classes_in, directory_in, exports_in, header_in, imports_in, methods_in, pool_in, statics_in}
use Rattle.jc_cap.specs.PackageReading.{contents_of}
use Rattle.jc_cap.proofs.Named.{is_assembled}
use Rattle.jc_packages.specs.Reading.{text_at, text_in}
use Rattle.law_code.proofs.ClosedPackages.{anything}
use Rattle.law_code.proofs.Lists.{IfThere, map_there}
use Rattle.law_code.specs.ReadPackages.{HasAppletComponent}
use Rattle.law_soundness.specs.GrowthLaws.{AreWords}
use Rattle.law_soundness.proofs.RecordPackages.{has_all}

-- ---- bytes

abbrev IsByte : ℕ → Type 0
IsByte b = b < 256

abbrev IsWord : ℕ → Type 0
IsWord w = w < 65536

half : (b : Bool) (w : ℕ) → w < 65536 → (if b then w / 256 else w % 256) < 256
half true w small = omega (arith, small)
half false w small = omega arith

unpacked_bytes : (count : ℕ) (words : List ℕ) → AreWords words → All IsByte (bytes_of_packed count words)
unfolding bytes_of_packed
unpacked_bytes count words small =
    let f = packed_byte words in
    All-from_get_or IsByte _ 0 (λ i lt.
    subst IsByte (sym (get_or-map-range_with_len f 0 count i i 0 (let long = length-map-range_with_len f 0 count in omega (arith, lt, long)) (omega arith)))
    (half (i % 2 == 0) (get_or words (i / 2) 0) (small (i / 2))))

-- what stands after the tag and the size is bytes
abbrev pub IsOfBytes : List ℕ → Type 0
IsOfBytes text = All IsByte (drop 3 text)

pub text_bytes : (words : List ℕ) (tag : ℕ) → AreWords words → IfThere IsOfBytes (text_in words tag)
text_bytes words tag small = map_there (λ s. Unit {0}) IsOfBytes (text_at tag words) (info_of words tag) (anything (info_of words tag)) (λ s any.
    unpacked_bytes s.size (drop s.at words) (λ i. subst IsWord (sym (get_or-drop s.at words i 0)) (small (s.at + i))))

-- ---- the Applet component

info_behind : (tag : ℕ) (text info : List ℕ) → info_at tag text ≡ Ok info → drop 3 text ≡ info
info_behind tag text info e =
    let is = info_takes tag text info e in
    ap (drop 3) (is.2 ∙ ap (λ s. tag ∷ (s ++ info)) is.1.2)

pub applet_component : (o : Option (List ℕ)) (xs : Option (List AppletNamed)) → IfThere IsOfBytes o → applets_in o ≡ Ok xs → HasAppletComponent xs
applet_component None xs bytes e = subst HasAppletComponent (ok_is None xs e) tt
applet_component (Some text) xs bytes e =
    let info = bind_ok (info_at 3 text) _ xs e in
    let named = bind_ok (value_of_whole (applets_at info.0)) _ xs info.2 in
    subst HasAppletComponent (ok_is (Some named.0) xs named.2)
    (info.0, subst (All IsByte) (info_behind 3 text info.0 info.1) bytes, whole_takes applets_at IsApplets applets_tells info.0 named.0 named.1)

pub assembled_applets : (load : LoadedComponents) (t : PackageBytes) → assembly_of load ≡ Ok t → load.applets ≡ t.applets
unfolding assembly_of
assembled_applets load t e =
    let texts = bind_ok (required_components load) _ t e in
    let good = bind_ok (checked_package texts.0) _ t texts.2 in
    (has_all load texts.0 texts.1).applets ∙ ap (λ (x : PackageBytes). x.applets) (ok_is texts.0 t good.2)

pub applets_said : (t : PackageBytes) (c : PackageContents) → contents_of t ≡ Ok c → applets_in t.applets ≡ Ok c.applets
unfolding contents_of
applets_said t c e =
    let header = bind_ok (header_in t.header) _ c e in
    let directory = bind_ok (directory_in header.0.format t.directory) _ c header.2 in
    let applets = bind_ok (applets_in t.applets) _ c directory.2 in
    let imports = bind_ok (imports_in t.imports) _ c applets.2 in
    let pool = bind_ok (pool_in t.pool) _ c imports.2 in
    let classes = bind_ok (classes_in header.0.format t.classes) _ c pool.2 in
    let methods = bind_ok (methods_in t.methods) _ c classes.2 in
    let statics = bind_ok (statics_in t.statics) _ c methods.2 in
    let exports = bind_ok (exports_in t.exports) _ c statics.2 in
    applets.1 ∙ ap (λ (x : PackageContents). Ok x.applets) (ok_is _ c exports.2)

-- ---- the Class component

pub class_component : (load : LoadedComponents) (t : PackageBytes) (c : PackageContents) → assembly_of load ≡ Ok t → contents_of t ≡ Ok c
    → (info : List ℕ) × AreClasses c.header.format c.classes info
class_component load t c e read =
    let sound = is_assembled load t e in
    subst (λ (x : PackageContents). (info : List ℕ) × AreClasses x.header.format x.classes info) (ok_is sound.contents c (sym sound.read ∙ read)) sound.classes

pub few_classes : (format : Format) (rs : List RecordAt) (info : List ℕ) → AreClasses format rs info → length rs < 257
few_classes format rs info are = (let few = are.4 in omega (arith, few))
