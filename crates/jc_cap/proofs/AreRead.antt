-- Each component of a package that is put together can be read.
use Rattle.std.proofs.Common.{◌≡◌, ℕ, Bool, true, false, List, Option, Some, None, Result, Ok, Err, sym, ap, subst, ◌∙◌}
use Rattle.jc_cap.specs.declared.fault.CapFault.{CapFault}
use Rattle.jc_cap.specs.Reading.{IsReadable, ◌>>=◌, value_of_whole}
use Rattle.jc_cap.specs.Header.{HeaderValue}
use Rattle.jc_cap.specs.Applets.{applets_at}
use Rattle.jc_cap.specs.Envelope.{info_at}
use Rattle.jc_cap.specs.Exports.{exports_at}
use Rattle.jc_cap.proofs.Many.{bind_ok, ok_is}
use Rattle.jc_cap.specs.declared.texts.LoadedComponents.{LoadedComponents}
use Rattle.jc_cap.specs.declared.texts.PackageBytes.{PackageBytes}
use Rattle.jc_cap.specs.Assembling.{assembly_of, checked_package, flagged_component, flags_in, required_component, required_components}
use Rattle.jc_cap.specs.ComponentReading.{applets_in, classes_in, directory_in, exports_in, header_in, imports_in, methods_in, pool_in, statics_in}
use Rattle.jc_cap.specs.Contents.{PackageContents}
use Rattle.jc_cap.specs.KeptComponents.{applets_told, exports_told}
use Rattle.jc_cap.specs.PackageReading.{contents_of}

-- a component that came can be read, where it is one of these
abbrev pub Came : Option (List ℕ) → (List ℕ → Type 0) → Type 0
Came o P = (text : List ℕ) → o ≡ Some text → P text

pub record AreRead (l : LoadedComponents) : Type 0 where
  pub head : HeaderValue
  pub header_text : List ℕ
  pub header : l.header ≡ Some header_text
  pub header_says : header_in header_text ≡ Ok head
  pub directory : Came l.directory (λ text. IsReadable (directory_in head.format text))
  pub applets : Came l.applets (λ text. IsReadable (applets_told text))
  pub imports : Came l.imports (λ text. IsReadable (imports_in text))
  pub pool : Came l.pool (λ text. IsReadable (pool_in text))
  pub classes : Came l.classes (λ text. IsReadable (classes_in head.format text))
  pub methods : Came l.methods (λ text. IsReadable (methods_in text))
  pub statics : Came l.statics (λ text. IsReadable (statics_in text))
  pub exports : Came l.exports (λ text. IsReadable (exports_told text))

-- what every component of these says
record Said (t : PackageBytes) : Type 0 where
  head : HeaderValue
  header : header_in t.header ≡ Ok head
  directory : IsReadable (directory_in head.format t.directory)
  applets : IsReadable (applets_in t.applets)
  imports : IsReadable (imports_in t.imports)
  pool : IsReadable (pool_in t.pool)
  classes : IsReadable (classes_in head.format t.classes)
  methods : IsReadable (methods_in t.methods)
  statics : IsReadable (statics_in t.statics)
  exports : IsReadable (exports_in t.exports)

said : (t : PackageBytes) (c : PackageContents) → contents_of t ≡ Ok c → Said t
unfolding contents_of
said t c e =
    let header = bind_ok (header_in t.header) _ c e in
    let directory = bind_ok (directory_in header.0.format t.directory) _ c header.2 in
    let applets = bind_ok (applets_in t.applets) _ c directory.2 in
    let imports = bind_ok (imports_in t.imports) _ c applets.2 in
    let pool = bind_ok (pool_in t.pool) _ c imports.2 in
    let classes = bind_ok (classes_in header.0.format t.classes) _ c pool.2 in
    let methods = bind_ok (methods_in t.methods) _ c classes.2 in
    let statics = bind_ok (statics_in t.statics) _ c methods.2 in
    let exports = bind_ok (exports_in t.exports) _ c statics.2 in
    record {
      head = header.0;
      header = header.1;
      directory = (directory.0, directory.1);
      applets = (applets.0, applets.1);
      imports = (imports.0, imports.1);
      pool = (pool.0, pool.1);
      classes = (classes.0, classes.1);
      methods = (methods.0, methods.1);
      statics = (statics.0, statics.1);
      exports = (exports.0, exports.1);
    }

-- what is required is there
there : (tag : ℕ) (o : Option (List ℕ)) (r : List ℕ) → required_component tag o ≡ Ok r → o ≡ Some r
there tag (Some text) r e = ap Some (ok_is text r e)
there tag None r e = absurd cc

asked : (tag : ℕ) (flag : Bool) (o r : Option (List ℕ)) → flagged_component tag flag o ≡ Ok r → o ≡ r
asked tag flag (Some text) r e = ok_is (Some text) r e
asked tag true None r e = absurd cc
asked tag false None r e = ok_is None r e

pub record Taken (l : LoadedComponents) (t : PackageBytes) : Type 0 where
  pub header : l.header ≡ Some t.header
  pub directory : l.directory ≡ Some t.directory
  pub applets : l.applets ≡ t.applets
  pub imports : l.imports ≡ Some t.imports
  pub pool : l.pool ≡ Some t.pool
  pub classes : l.classes ≡ Some t.classes
  pub methods : l.methods ≡ Some t.methods
  pub statics : l.statics ≡ Some t.statics
  pub exports : l.exports ≡ t.exports
  pub reference_location : l.reference_location ≡ t.reference_location
  pub descriptor : l.descriptor ≡ t.descriptor

pub taken : (l : LoadedComponents) (t : PackageBytes) → required_components l ≡ Ok t → Taken l t
unfolding required_components
taken l t e =
    let header = bind_ok (required_component 1 l.header) _ t e in
    let directory = bind_ok (required_component 2 l.directory) _ t header.2 in
    let flags = bind_ok (flags_in header.0) _ t directory.2 in
    let applets = bind_ok (flagged_component 3 flags.0.1 l.applets) _ t flags.2 in
    let imports = bind_ok (required_component 4 l.imports) _ t applets.2 in
    let pool = bind_ok (required_component 5 l.pool) _ t imports.2 in
    let classes = bind_ok (required_component 6 l.classes) _ t pool.2 in
    let methods = bind_ok (required_component 7 l.methods) _ t classes.2 in
    let statics = bind_ok (required_component 8 l.statics) _ t methods.2 in
    let exports = bind_ok (flagged_component 10 flags.0.0 l.exports) _ t statics.2 in
    let is = ok_is _ t exports.2 in
    record {
      header = there 1 l.header header.0 header.1 ∙ ap (λ (x : PackageBytes). Some x.header) is;
      directory = there 2 l.directory directory.0 directory.1 ∙ ap (λ (x : PackageBytes). Some x.directory) is;
      applets = asked 3 flags.0.1 l.applets applets.0 applets.1 ∙ ap (λ (x : PackageBytes). x.applets) is;
      imports = there 4 l.imports imports.0 imports.1 ∙ ap (λ (x : PackageBytes). Some x.imports) is;
      pool = there 5 l.pool pool.0 pool.1 ∙ ap (λ (x : PackageBytes). Some x.pool) is;
      classes = there 6 l.classes classes.0 classes.1 ∙ ap (λ (x : PackageBytes). Some x.classes) is;
      methods = there 7 l.methods methods.0 methods.1 ∙ ap (λ (x : PackageBytes). Some x.methods) is;
      statics = there 8 l.statics statics.0 statics.1 ∙ ap (λ (x : PackageBytes). Some x.statics) is;
      exports = asked 10 flags.0.0 l.exports exports.0 exports.1 ∙ ap (λ (x : PackageBytes). x.exports) is;
      reference_location = ap (λ (x : PackageBytes). x.reference_location) is;
      descriptor = ap (λ (x : PackageBytes). x.descriptor) is;
    }

same_some : {A : Type 0} (o : Option A) (x y : A) → o ≡ Some x → o ≡ Some y → x ≡ y
same_some o x y e f = cc

abbrev parts : PackageBytes → PackageBytes
parts t = record {
  header = t.header;
  directory = t.directory;
  applets = t.applets;
  imports = t.imports;
  pool = t.pool;
  classes = t.classes;
  methods = t.methods;
  statics = t.statics;
  exports = t.exports;
  reference_location = t.reference_location;
  descriptor = t.descriptor;
}

-- the components that came are one package
pub made : (l : LoadedComponents) (t r : PackageBytes) → Taken l t → Taken l r → t ≡ r
made l t r k j =
    let header = same_some l.header t.header r.header k.header j.header in
    let directory = same_some l.directory t.directory r.directory k.directory j.directory in
    let applets : t.applets ≡ r.applets = sym k.applets ∙ j.applets in
    let imports = same_some l.imports t.imports r.imports k.imports j.imports in
    let pool = same_some l.pool t.pool r.pool k.pool j.pool in
    let classes = same_some l.classes t.classes r.classes k.classes j.classes in
    let methods = same_some l.methods t.methods r.methods k.methods j.methods in
    let statics = same_some l.statics t.statics r.statics k.statics j.statics in
    let exports : t.exports ≡ r.exports = sym k.exports ∙ j.exports in
    let reference_location : t.reference_location ≡ r.reference_location = sym k.reference_location ∙ j.reference_location in
    let descriptor : t.descriptor ≡ r.descriptor = sym k.descriptor ∙ j.descriptor in
    let same : parts t ≡ parts r = cc in
    same

-- the text that came is the one that is there
came : (o : Option (List ℕ)) (t : List ℕ) (P : List ℕ → Type 0) → o ≡ Some t → P t → Came o P
came o t P is p = λ text e. let same : t ≡ text = cc in subst P same p

came_if : (o r : Option (List ℕ)) (P : Option (List ℕ) → Type 0) → o ≡ r → P r → Came o (λ text. P (Some text))
came_if o r P is p = λ text e. subst P (sym is ∙ e) p

-- what is wrapped in the end was read
unwrapped : {A : Type 0} (i : Result (List ℕ) CapFault) (r : List ℕ → Result A CapFault) → IsReadable (i >>= λ info. r info >>= λ x. Ok (Some x))
    → IsReadable (i >>= λ info. r info)
unwrapped (Ok info) r given = let a = bind_ok (r info) _ given.0 given.1 in (a.0, a.1)
unwrapped (Err fault) r given = absurd cc

of_applets : (text : List ℕ) → IsReadable (applets_in (Some text)) → IsReadable (applets_told text)
of_applets text given = unwrapped (info_at 3 text) (λ info. value_of_whole (applets_at info)) given

of_exports : (text : List ℕ) → IsReadable (exports_in (Some text)) → IsReadable (exports_told text)
of_exports text given = unwrapped (info_at 10 text) (λ info. value_of_whole (exports_at info)) given

pub are_read : (l : LoadedComponents) (t : PackageBytes) → assembly_of l ≡ Ok t → AreRead l
unfolding assembly_of checked_package
are_read l t e =
    let texts = bind_ok (required_components l) _ t e in
    let good = bind_ok (checked_package texts.0) _ t texts.2 in
    let contents = bind_ok (contents_of texts.0) _ good.0 good.1 in
    let s = said texts.0 contents.0 contents.1 in
    let k = taken l texts.0 texts.1 in
    record {
      head = s.head;
      header_text = texts.0.header;
      header = k.header;
      header_says = s.header;
      directory = came l.directory texts.0.directory (λ text. IsReadable (directory_in s.head.format text)) k.directory s.directory;
      applets = λ text is. of_applets text (came_if l.applets texts.0.applets (λ o. IsReadable (applets_in o)) k.applets s.applets text is);
      imports = came l.imports texts.0.imports (λ text. IsReadable (imports_in text)) k.imports s.imports;
      pool = came l.pool texts.0.pool (λ text. IsReadable (pool_in text)) k.pool s.pool;
      classes = came l.classes texts.0.classes (λ text. IsReadable (classes_in s.head.format text)) k.classes s.classes;
      methods = came l.methods texts.0.methods (λ text. IsReadable (methods_in text)) k.methods s.methods;
      statics = came l.statics texts.0.statics (λ text. IsReadable (statics_in text)) k.statics s.statics;
      exports = λ text is. of_exports text (came_if l.exports texts.0.exports (λ o. IsReadable (exports_in o)) k.exports s.exports text is);
    }
