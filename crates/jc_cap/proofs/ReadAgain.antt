-- What a component says can be read again.
use Rattle.std.proofs.Common.{◌≡◌, ℕ, eqb, true, false, List, Option, Some, None, Result, Ok, Err, refl, sym, ap, subst, ◌∙◌}
use Rattle.jc_cap.specs.declared.fault.CapFault.{CapFault}
use Rattle.jc_cap.specs.declared.formats.Format.{Format}
use Rattle.jc_cap.specs.Reading.{IsReadable, ◌>>=◌, value_of_whole}
use Rattle.jc_cap.specs.Envelope.{info_at}
use Rattle.jc_cap.specs.Header.{HeaderValue, header_at}
use Rattle.jc_cap.specs.declared.directory.Directory.{Directory}
use Rattle.jc_cap.specs.declared.pool.Entry.{Entry}
use Rattle.jc_cap.specs.declared.exports.ExportedClass.{ExportedClass}
use Rattle.jc_cap.specs.Packages.{NamedPackage}
use Rattle.jc_cap.specs.Directory.{directory_at}
use Rattle.jc_cap.specs.Applets.{AppletNamed, applets_at}
use Rattle.jc_cap.specs.Imports.{imports_at}
use Rattle.jc_cap.specs.Pool.{pool_at}
use Rattle.jc_cap.specs.Exports.{exports_at}
use Rattle.jc_cap.proofs.Many.{bind_ok, ok_is}
use Rattle.jc_cap.specs.ClassValues.{RecordAt}
use Rattle.jc_cap.specs.ClassReading.{classes_of}
use Rattle.jc_cap.specs.Methods.{MethodParts}
use Rattle.jc_cap.specs.MethodReading.{methods_of}
use Rattle.jc_cap.specs.StaticValues.{StaticParts}
use Rattle.jc_cap.specs.StaticReading.{statics_at}
use Rattle.jc_cap.specs.StaticViews.{TellsCounts, counts_or_none, static_counts}
use Rattle.jc_cap.specs.declared.statics.StaticCounts.{StaticCounts}
use Rattle.jc_cap.specs.declared.texts.LoadedComponents.{LoadedComponents}
use Rattle.jc_cap.specs.ComponentReading.{header_in, classes_in, statics_in}
use Rattle.jc_cap.specs.Texts.{taken, taken_with, told_by, with_component}
use Rattle.jc_cap.proofs.Taken.{classes_are, header_is}
use Rattle.jc_cap.proofs.Told.{component_takes}
use Rattle.jc_cap.specs.Contents.{Content}
use Rattle.jc_cap.specs.Contents as contents
use Rattle.jc_cap.specs.Component.{IsContent, content_at, component_at, content_result}

unwrapped : {A : Type 0} (wrap : A → Content) (r : Result A CapFault) → IsReadable (content_result wrap r) → IsReadable r
unwrapped wrap r given = let x = bind_ok r _ given.0 given.1 in (x.0, x.1)

-- in some format
abbrev pub Again : ℕ → List ℕ → Type 0
Again tag info = (format : Format) × IsReadable (content_at format tag info)

pub of_header : (info : List ℕ) → Again 1 info → IsReadable (value_of_whole (header_at info))
unfolding content_at
of_header info given = unwrapped contents.header (value_of_whole (header_at info)) given.1

pub of_directory : (format : Format) (info : List ℕ) → IsReadable (content_at format 2 info) → IsReadable (value_of_whole (directory_at format info))
unfolding content_at
of_directory format info given = unwrapped contents.directory (value_of_whole (directory_at format info)) given

pub of_applets : (info : List ℕ) → Again 3 info → IsReadable (value_of_whole (applets_at info))
unfolding content_at
of_applets info given = unwrapped contents.applets (value_of_whole (applets_at info)) given.1

pub of_imports : (info : List ℕ) → Again 4 info → IsReadable (value_of_whole (imports_at info))
unfolding content_at
of_imports info given = unwrapped contents.imports (value_of_whole (imports_at info)) given.1

pub of_pool : (info : List ℕ) → Again 5 info → IsReadable (value_of_whole (pool_at info))
unfolding content_at
of_pool info given = unwrapped contents.pool (value_of_whole (pool_at info)) given.1

pub of_methods : (info : List ℕ) → Again 7 info → IsReadable (methods_of info)
unfolding content_at
of_methods info given = unwrapped contents.methods (methods_of info) given.1

pub of_exports : (info : List ℕ) → Again 10 info → IsReadable (value_of_whole (exports_at info))
unfolding content_at
of_exports info given = unwrapped contents.exports (value_of_whole (exports_at info)) given.1

-- the info of a component that can be read
pub has_info : (format : Format) (tag : ℕ) (bytes : List ℕ) → IsReadable (component_at format tag bytes) → IsReadable (info_at tag bytes)
unfolding component_at
has_info format tag bytes given = let x = bind_ok (info_at tag bytes) (content_at format tag) given.0 given.1 in (x.0, x.1)

pub in_info : (format : Format) (tag : ℕ) (bytes info : List ℕ) → IsReadable (component_at format tag bytes) → info_at tag bytes ≡ Ok info
    → IsReadable (content_at format tag info)
unfolding component_at
in_info format tag bytes info given is = (given.0, ap (λ (r : Result (List ℕ) CapFault). r >>= content_at format tag) (sym is) ∙ given.1)

-- ---- the other way round

wrapped : {A : Type 0} (wrap : A → Content) (r : Result A CapFault) (x : A) → r ≡ Ok x → IsReadable (content_result wrap r)
wrapped wrap r x e = (wrap x, ap (content_result wrap) e)

pub is_header : (format : Format) (info : List ℕ) (x : HeaderValue) → value_of_whole (header_at info) ≡ Ok x → IsReadable (content_at format 1 info)
unfolding content_at
is_header format info x e = wrapped contents.header (value_of_whole (header_at info)) x e

pub is_directory : (format : Format) (info : List ℕ) (x : Directory) → value_of_whole (directory_at format info) ≡ Ok x → IsReadable (content_at format 2 info)
unfolding content_at
is_directory format info x e = wrapped contents.directory (value_of_whole (directory_at format info)) x e

pub is_applets : (format : Format) (info : List ℕ) (x : List AppletNamed) → value_of_whole (applets_at info) ≡ Ok x → IsReadable (content_at format 3 info)
unfolding content_at
is_applets format info x e = wrapped contents.applets (value_of_whole (applets_at info)) x e

pub is_imports : (format : Format) (info : List ℕ) (x : List NamedPackage) → value_of_whole (imports_at info) ≡ Ok x → IsReadable (content_at format 4 info)
unfolding content_at
is_imports format info x e = wrapped contents.imports (value_of_whole (imports_at info)) x e

pub is_pool : (format : Format) (info : List ℕ) (x : List Entry) → value_of_whole (pool_at info) ≡ Ok x → IsReadable (content_at format 5 info)
unfolding content_at
is_pool format info x e = wrapped contents.pool (value_of_whole (pool_at info)) x e

pub are_classes : (format : Format) (info : List ℕ) (x : List RecordAt) → classes_of format info ≡ Ok x → IsReadable (content_at format 6 info)
unfolding content_at
are_classes format info x e = wrapped contents.classes (classes_of format info) x e

pub are_methods : (format : Format) (info : List ℕ) (x : MethodParts) → methods_of info ≡ Ok x → IsReadable (content_at format 7 info)
unfolding content_at
are_methods format info x e = wrapped contents.methods (methods_of info) x e

pub are_statics : (format : Format) (info : List ℕ) (x : StaticParts) → value_of_whole (statics_at info) ≡ Ok x → IsReadable (content_at format 8 info)
unfolding content_at
are_statics format info x e = wrapped contents.statics (value_of_whole (statics_at info)) x e

pub is_exports : (format : Format) (info : List ℕ) (x : List ExportedClass) → value_of_whole (exports_at info) ≡ Ok x → IsReadable (content_at format 10 info)
unfolding content_at
is_exports format info x e = wrapped contents.exports (value_of_whole (exports_at info)) x e

pub classes_wrapped : (format : Format) (bytes : List ℕ) → IsReadable (classes_in format bytes) → IsReadable (component_at format 6 bytes)
classes_wrapped format bytes given = let w = wrapped contents.classes (classes_in format bytes) given.0 given.1 in (w.0, classes_are format bytes ∙ w.1)

-- ---- what is kept

-- a header states its format
pub header_kept : (old : LoadedComponents) (format : Format) (bytes kept : List ℕ) (h : HeaderValue) → kept ≡ bytes → header_in kept ≡ Ok h
    → taken (Ok (Some h.format)) (record old { header = Some kept }) ≡ taken_with old 1 bytes (component_at format 1 bytes)
unfolding with_component
header_kept old format bytes kept h same e =
    let of : component_at format 1 kept ≡ Ok (contents.header h) = header_is format kept ∙ ap (λ (r : Result HeaderValue CapFault). content_result contents.header r) e in
    subst (λ (t : List ℕ). taken (Ok (Some h.format)) (record old { header = Some kept }) ≡ taken_with old 1 t (component_at format 1 t)) same
    (sym (ap (taken_with old 1 kept) of))

told_none : (format : Format) (tag : ℕ) (info : List ℕ) (x : Content) → eqb tag 1 ≡ false → IsContent format tag x info → told_by x ≡ None
told_none format tag info (contents.header h) other is = let wrong : true ≡ false = subst (λ (t : ℕ). eqb t 1 ≡ false) is.0 other in absurd cc
told_none format tag info (contents.directory x) other is = refl
told_none format tag info (contents.applets x) other is = refl
told_none format tag info (contents.imports x) other is = refl
told_none format tag info (contents.pool x) other is = refl
told_none format tag info (contents.classes x) other is = refl
told_none format tag info (contents.methods x) other is = refl
told_none format tag info (contents.statics x) other is = refl
told_none format tag info (contents.exports x) other is = refl
told_none format tag info contents.unused other is = refl

-- the others state none
pub others_kept : (old : LoadedComponents) (format : Format) (tag : ℕ) (bytes kept : List ℕ) → eqb tag 1 ≡ false → kept ≡ bytes
    → IsReadable (component_at format tag bytes) → taken (Ok None) (with_component old tag kept) ≡ taken_with old tag bytes (component_at format tag bytes)
others_kept old format tag bytes kept other same given =
    let is = component_takes format tag bytes given.0 given.1 in
    let none = told_none format tag is.0 given.0 other is.2 in
    ap (λ (t : List ℕ). taken (Ok None) (with_component old tag t)) same
    ∙ ap (λ (o : Option Format). taken (Ok o) (with_component old tag bytes)) (sym none)
    ∙ sym (ap (taken_with old tag bytes) given.1)

-- ---- the numbers of a StaticField component

pub counts_told : (read : Result StaticParts CapFault) (counts : StaticCounts) → counts_or_none read ≡ Ok counts → TellsCounts counts read
counts_told read counts e = let s = bind_ok read _ counts e in (s.0, s.1, sym (ok_is (static_counts s.0) counts s.2))

pub counts_fault : (read : Result StaticParts CapFault) (fault : CapFault) → counts_or_none read ≡ Err fault → read ≡ Err fault
counts_fault (Ok s) fault e = absurd cc
counts_fault (Err f) fault e = cc

pub counts_of_info : (counts : StaticCounts) (bytes info : List ℕ) → TellsCounts counts (statics_in bytes) → info_at 8 bytes ≡ Ok info
    → TellsCounts counts (value_of_whole (statics_at info))
counts_of_info counts bytes info told is =
    (told.0, ap (λ (r : Result (List ℕ) CapFault). r >>= λ i. value_of_whole (statics_at i)) (sym is) ∙ told.1, told.2)
