-- A component is read by its tag.
use Rattle.std.proofs.Common.{◌≡◌, ◌≢◌, ℕ, List, None, Result, Ok, Err, refl, sym, ap, ◌∙◌}
use Rattle.std.proofs.lemmas.Bool.{ne_eqb}
use Rattle.jc_cap.specs.declared.fault.CapFault.{CapFault}
use Rattle.jc_cap.specs.declared.formats.Format.{Format}
use Rattle.jc_cap.specs.Reading.{◌>>=◌, value_of_whole}
use Rattle.jc_cap.specs.Envelope.{info_at}
use Rattle.jc_cap.specs.Header.{header_at}
use Rattle.jc_cap.specs.Directory.{directory_at}
use Rattle.jc_cap.specs.Applets.{applets_at}
use Rattle.jc_cap.specs.Imports.{imports_at}
use Rattle.jc_cap.specs.Pool.{pool_at}
use Rattle.jc_cap.specs.Exports.{exports_at}
use Rattle.jc_cap.specs.ClassReading.{classes_of}
use Rattle.jc_cap.specs.MethodReading.{methods_of}
use Rattle.jc_cap.specs.StaticReading.{statics_at}
use Rattle.jc_cap.specs.declared.texts.LoadedComponents.{LoadedComponents}
use Rattle.jc_cap.specs.Contents.{Content}
use Rattle.jc_cap.specs.Contents as contents
use Rattle.jc_cap.specs.Component.{content_result, content_at, component_at}
use Rattle.jc_cap.specs.KeptComponents.{applets_told, exports_told}
use Rattle.jc_cap.specs.ComponentReading.{header_in, directory_in, imports_in, pool_in, classes_in, methods_in, statics_in}
use Rattle.jc_cap.specs.Texts.{taken_with, with_size, unused_taken, with_component}

-- what is read of an info is wrapped in the end
wrapped : {A : Type 0} (wrap : A → Content) (i : Result (List ℕ) CapFault) (r : List ℕ → Result A CapFault)
    → (i >>= λ info. content_result wrap (r info)) ≡ content_result wrap (i >>= λ info. r info)
wrapped wrap (Ok info) r = refl
wrapped wrap (Err fault) r = refl

pub header_is : (format : Format) (bytes : List ℕ) → component_at format 1 bytes ≡ content_result contents.header (header_in bytes)
unfolding component_at content_at
header_is format bytes = wrapped contents.header (info_at 1 bytes) (λ info. value_of_whole (header_at info))

pub directory_is : (format : Format) (bytes : List ℕ) → component_at format 2 bytes ≡ content_result contents.directory (directory_in format bytes)
unfolding component_at content_at
directory_is format bytes = wrapped contents.directory (info_at 2 bytes) (λ info. value_of_whole (directory_at format info))

pub applets_are : (format : Format) (bytes : List ℕ) → component_at format 3 bytes ≡ content_result contents.applets (applets_told bytes)
unfolding component_at content_at
applets_are format bytes = wrapped contents.applets (info_at 3 bytes) (λ info. value_of_whole (applets_at info))

pub imports_are : (format : Format) (bytes : List ℕ) → component_at format 4 bytes ≡ content_result contents.imports (imports_in bytes)
unfolding component_at content_at
imports_are format bytes = wrapped contents.imports (info_at 4 bytes) (λ info. value_of_whole (imports_at info))

pub pool_is : (format : Format) (bytes : List ℕ) → component_at format 5 bytes ≡ content_result contents.pool (pool_in bytes)
unfolding component_at content_at
pool_is format bytes = wrapped contents.pool (info_at 5 bytes) (λ info. value_of_whole (pool_at info))

pub classes_are : (format : Format) (bytes : List ℕ) → component_at format 6 bytes ≡ content_result contents.classes (classes_in format bytes)
unfolding component_at content_at
classes_are format bytes = wrapped contents.classes (info_at 6 bytes) (λ info. classes_of format info)

pub methods_are : (format : Format) (bytes : List ℕ) → component_at format 7 bytes ≡ content_result contents.methods (methods_in bytes)
unfolding component_at content_at
methods_are format bytes = wrapped contents.methods (info_at 7 bytes) (λ info. methods_of info)

pub statics_are : (format : Format) (bytes : List ℕ) → component_at format 8 bytes ≡ content_result contents.statics (statics_in bytes)
unfolding component_at content_at
statics_are format bytes = wrapped contents.statics (info_at 8 bytes) (λ info. value_of_whole (statics_at info))

pub exports_are : (format : Format) (bytes : List ℕ) → component_at format 10 bytes ≡ content_result contents.exports (exports_told bytes)
unfolding component_at content_at
exports_are format bytes = wrapped contents.exports (info_at 10 bytes) (λ info. value_of_whole (exports_at info))

-- no component of these tags
abbrev pub IsOther : ℕ → Type 0
IsOther tag = (tag ≢ 1) × (tag ≢ 2) × (tag ≢ 3) × (tag ≢ 4) × (tag ≢ 5) × (tag ≢ 6) × (tag ≢ 7) × (tag ≢ 8) × (tag ≢ 10)

pub unused_says : (format : Format) (tag : ℕ) (info : List ℕ) → IsOther tag → content_at format tag info ≡ Ok contents.unused
unfolding content_at
unused_says format tag info n = rw (
  ne_eqb tag 1 n.0,
  ne_eqb tag 2 n.1,
  ne_eqb tag 3 n.2,
  ne_eqb tag 4 n.3,
  ne_eqb tag 5 n.4,
  ne_eqb tag 6 n.5,
  ne_eqb tag 7 n.6,
  ne_eqb tag 8 n.7,
  ne_eqb tag 10 n.8,
) refl

unused_kept : (old : LoadedComponents) (tag : ℕ) (bytes : List ℕ) → IsOther tag → with_size old tag bytes ≡ with_component old tag bytes
unfolding with_size with_component
unused_kept old tag bytes n = rw (
  ne_eqb tag 1 n.0,
  ne_eqb tag 2 n.1,
  ne_eqb tag 3 n.2,
  ne_eqb tag 4 n.3,
  ne_eqb tag 5 n.4,
  ne_eqb tag 6 n.5,
  ne_eqb tag 7 n.6,
  ne_eqb tag 8 n.7,
  ne_eqb tag 10 n.8,
) refl

-- one that is not looked at
pub unused_is : (old : LoadedComponents) (format : Format) (tag : ℕ) (bytes : List ℕ) → IsOther tag
    → unused_taken old tag bytes (info_at tag bytes) ≡ taken_with old tag bytes (component_at format tag bytes)
unfolding component_at
unused_is old format tag bytes n = by_info (info_at tag bytes)
  where
    by_info : (i : Result (List ℕ) CapFault) → unused_taken old tag bytes i ≡ taken_with old tag bytes (i >>= λ info. content_at format tag info)
    by_info (Ok info) = ap (λ l. (Ok None, l)) (unused_kept old tag bytes n) ∙ sym (ap (taken_with old tag bytes) (unused_says format tag info n))
    by_info (Err fault) = refl
