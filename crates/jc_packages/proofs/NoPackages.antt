-- A record one of whose components cannot be read holds no package.
use Rattle.std.proofs.Common.{◌≡◌, ℕ, List, Option, Some, None, Result, Ok, Err, refl, sym, ap, ◌∙◌}
use Rattle.jc_cap.specs.declared.fault.CapFault.{CapFault}
use Rattle.jc_cap.specs.declared.formats.Format.{Format}
use Rattle.jc_cap.specs.declared.formats.Format.TheVariants.{V2_1}
use Rattle.jc_cap.specs.Reading.{IsReadable}
use Rattle.jc_cap.specs.Header.{HeaderValue}
use Rattle.jc_cap.proofs.Many.{ok_is}
use Rattle.jc_cap.specs.declared.texts.LoadedComponents.{LoadedComponents}
use Rattle.jc_cap.specs.declared.texts.PackageBytes.{PackageBytes}
use Rattle.jc_cap.specs.Assembling.{assembly_of}
use Rattle.jc_cap.specs.ComponentReading.{classes_in, directory_in, header_in, imports_in, methods_in, pool_in, statics_in}
use Rattle.jc_cap.specs.Component.{component_at, content_result}
use Rattle.jc_cap.specs.Contents.{Content}
use Rattle.jc_cap.specs.Contents as contents
use Rattle.jc_cap.specs.KeptComponents.{applets_told, exports_told}
use Rattle.jc_cap.proofs.AreRead.{AreRead, are_read}
use Rattle.jc_cap.proofs.Taken.{header_is, directory_is, applets_are, imports_are, pool_is, classes_are, methods_are, statics_are, exports_are}
use Rattle.jc_linker.specs.Values.{Packages}
use Rattle.jc_packages.specs.Load.{content_in}
use Rattle.jc_packages.specs.PendingPackages.{if_read, linked_components, linked_package}
use Rattle.jc_packages.specs.Reading.{CannotBeTaken, IsNoPackage, load_of, text_in, with_prepared}
use Rattle.jc_cap.specs.PackageReading.{contents_of}

-- the format that a header that came states
abbrev pub IsTold : Option (List ℕ) → Option Format → Type 0
IsTold None told = told ≡ None
IsTold (Some text) told = (h : HeaderValue) × (header_in text ≡ Ok h) × (told ≡ Some h.format)

-- where the components are no package, none is added
refused_so : (p : Packages) (r : Result PackageBytes CapFault) → ((t : PackageBytes) → r ≡ Ok t → ⊥)
    → with_prepared p (if_read r (λ t. if_read (contents_of t) (λ c. linked_package p t c))) ≡ None
refused_so p (Ok t) never = absurd (never t refl)
refused_so p (Err fault) never = refl

no_package : (l : LoadedComponents) → (AreRead l → ⊥) → IsNoPackage l
unfolding linked_components
no_package l never = λ p. refused_so p (assembly_of l) (λ t e. never (are_read l t e))

-- what is wrapped was not read
faulty : {A : Type 0} (wrap : A → Content) (read : Result A CapFault) (fault : CapFault) → content_result wrap read ≡ Err fault → IsReadable read → ⊥
faulty wrap (Ok x) fault e given = cc
faulty wrap (Err other) fault e given = let wrong = given.1 in absurd cc

-- a component that is read alike in each format
alike : {A : Type 0} (tag : ℕ) (wrap : A → Content) (read : List ℕ → Result A CapFault)
    → ((format : Format) (bytes : List ℕ) → component_at format tag bytes ≡ content_result wrap (read bytes))
    → ((told : Option Format) (text : List ℕ) → (format : Format) × (content_in told tag text ≡ component_at format tag text))
    → (told : Option Format) (o : Option (List ℕ)) → CannotBeTaken told tag o → ((text : List ℕ) → o ≡ Some text → IsReadable (read text)) → ⊥
alike tag wrap read is some told (Some text) cannot came =
    let at = some told text in
    faulty wrap (read text) cannot.0 (sym (is at.0 text) ∙ sym at.1 ∙ cannot.1) (came text refl)
alike tag wrap read is some told None cannot came = absurd cannot

-- the format in which those are read
in_3 : (told : Option Format) (text : List ℕ) → (format : Format) × (content_in told 3 text ≡ component_at format 3 text)
in_3 (Some format) text = (format, refl)
in_3 None text = (V2_1, refl)

in_4 : (told : Option Format) (text : List ℕ) → (format : Format) × (content_in told 4 text ≡ component_at format 4 text)
in_4 (Some format) text = (format, refl)
in_4 None text = (V2_1, refl)

in_5 : (told : Option Format) (text : List ℕ) → (format : Format) × (content_in told 5 text ≡ component_at format 5 text)
in_5 (Some format) text = (format, refl)
in_5 None text = (V2_1, refl)

in_7 : (told : Option Format) (text : List ℕ) → (format : Format) × (content_in told 7 text ≡ component_at format 7 text)
in_7 (Some format) text = (format, refl)
in_7 None text = (V2_1, refl)

in_8 : (told : Option Format) (text : List ℕ) → (format : Format) × (content_in told 8 text ≡ component_at format 8 text)
in_8 (Some format) text = (format, refl)
in_8 None text = (V2_1, refl)

in_10 : (told : Option Format) (text : List ℕ) → (format : Format) × (content_in told 10 text ≡ component_at format 10 text)
in_10 (Some format) text = (format, refl)
in_10 None text = (V2_1, refl)

-- the header of a package stated it
told_so : (o : Option (List ℕ)) (told : Option Format) (text : List ℕ) (head : HeaderValue) → o ≡ Some text → header_in text ≡ Ok head → IsTold o told
    → told ≡ Some head.format
told_so (Some t) told text head is says given =
    let same : t ≡ text = cc in
    let head_is : given.0 ≡ head = ok_is given.0 head (sym given.1 ∙ ap header_in same ∙ says) in
    given.2 ∙ ap (λ (h : HeaderValue). Some h.format) head_is
told_so None told text head is says given = absurd cc

-- one that is read in the header's format
in_format : {A : Type 0} (tag : ℕ) (wrap : A → Content) (read : Format → List ℕ → Result A CapFault) (format : Format)
    → ((f : Format) (bytes : List ℕ) → component_at f tag bytes ≡ content_result wrap (read f bytes)) → (told : Option Format) (o : Option (List ℕ))
    → told ≡ Some format → CannotBeTaken told tag o → ((text : List ℕ) → o ≡ Some text → IsReadable (read format text)) → ⊥
in_format tag wrap read format is told (Some text) e cannot came =
    let at : content_in told tag text ≡ component_at format tag text = ap (λ z. content_in z tag text) e in
    faulty wrap (read format text) cannot.0 (sym (is format text) ∙ sym at ∙ cannot.1) (came text refl)
in_format tag wrap read format is told None e cannot came = absurd cannot

module _ (words : List ℕ) (told : Option Format) where
  pub no_header : CannotBeTaken None 1 (text_in words 1) → IsNoPackage (load_of words)
  no_header cannot = no_package (load_of words) (λ (r : AreRead (load_of words)). at (text_in words 1) r.header_text r.head r.header r.header_says cannot)
    where
      at : (o : Option (List ℕ)) (text : List ℕ) (head : HeaderValue) → o ≡ Some text → header_in text ≡ Ok head → CannotBeTaken None 1 o → ⊥
      at (Some t) text head is says cannot =
          let same : t ≡ text = cc in
          faulty contents.header (header_in t) cannot.0 (sym (header_is V2_1 t) ∙ cannot.1) (head, ap header_in same ∙ says)
      at None text head is says cannot = absurd cannot

  pub no_directory : IsTold (text_in words 1) told → CannotBeTaken told 2 (text_in words 2) → IsNoPackage (load_of words)
  no_directory is cannot = no_package (load_of words) (λ (r : AreRead (load_of words)). in_format 2 contents.directory directory_in r.head.format directory_is
      told (text_in words 2) (told_so (text_in words 1) told r.header_text r.head r.header r.header_says is) cannot r.directory)

  pub no_applets : CannotBeTaken told 3 (text_in words 3) → IsNoPackage (load_of words)
  no_applets cannot = no_package (load_of words) (λ (r : AreRead (load_of words)). alike 3 contents.applets applets_told applets_are in_3 told (text_in words 3)
      cannot r.applets)

  pub no_imports : CannotBeTaken told 4 (text_in words 4) → IsNoPackage (load_of words)
  no_imports cannot = no_package (load_of words) (λ (r : AreRead (load_of words)). alike 4 contents.imports imports_in imports_are in_4 told (text_in words 4)
      cannot r.imports)

  pub no_pool : CannotBeTaken told 5 (text_in words 5) → IsNoPackage (load_of words)
  no_pool cannot = no_package (load_of words) (λ (r : AreRead (load_of words)). alike 5 contents.pool pool_in pool_is in_5 told (text_in words 5) cannot r.pool)

  pub no_classes : IsTold (text_in words 1) told → CannotBeTaken told 6 (text_in words 6) → IsNoPackage (load_of words)
  no_classes is cannot = no_package (load_of words) (λ (r : AreRead (load_of words)). in_format 6 contents.classes classes_in r.head.format classes_are
      told (text_in words 6) (told_so (text_in words 1) told r.header_text r.head r.header r.header_says is) cannot r.classes)

  pub no_methods : CannotBeTaken told 7 (text_in words 7) → IsNoPackage (load_of words)
  no_methods cannot = no_package (load_of words) (λ (r : AreRead (load_of words)). alike 7 contents.methods methods_in methods_are in_7 told (text_in words 7)
      cannot r.methods)

  pub no_statics : CannotBeTaken told 8 (text_in words 8) → IsNoPackage (load_of words)
  no_statics cannot = no_package (load_of words) (λ (r : AreRead (load_of words)). alike 8 contents.statics statics_in statics_are in_8 told (text_in words 8)
      cannot r.statics)

  pub no_exports : CannotBeTaken told 10 (text_in words 10) → IsNoPackage (load_of words)
  no_exports cannot = no_package (load_of words) (λ (r : AreRead (load_of words)). alike 10 contents.exports exports_told exports_are in_10 told (text_in words 10)
      cannot r.exports)
