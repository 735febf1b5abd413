-- Open loads stay readable.
use Rattle.std.proofs.Common.{ℕ, ◌+◌, ◌-◌, ◌==◌, ◌<◌, false, List, length, Option, Some, None, Result, Ok, Err, nat_lt}
use Rattle.std.specs.Prelude.{IfSome, is_some, slice_index_or}
use Rattle.std.proofs.lemmas.List.Elements.{All-append, All-nil}
use Rattle.jc_cap.specs.declared.fault.CapFault.{CapFault}
use Rattle.jc_cap.specs.declared.texts.LoadedComponents.{LoadedComponents}
use Rattle.jc_cap.specs.Contents.{Content}
use Rattle.jc_packages.specs.declared.load.OpenLoad.{OpenLoad}
use Rattle.jc_packages.specs.Incoming.{IncomingValue}
use Rattle.jc_cap.specs.Texts.{with_component}
use Rattle.jc_packages.specs.Load.{CommandResult, content_in, empty_load, component_begin, is_tag, load_with, more_of, read_of}
use Rattle.law_soundness.proofs.Memories.{choose}
use Rattle.law_soundness.specs.LoadedPackages.{AreBytes, IsReadable}
use Rattle.law_soundness.specs.ReadingLoads.{IsOpenReadable, LoadsAreReadable}

-- ---- the components that came

readable : (texts : LoadedComponents) → IfSome texts.header AreBytes → IfSome texts.directory AreBytes → IfSome texts.applets AreBytes
    → IfSome texts.imports AreBytes → IfSome texts.pool AreBytes → IfSome texts.classes AreBytes → IfSome texts.methods AreBytes
    → IfSome texts.statics AreBytes → IfSome texts.exports AreBytes → IsReadable texts
readable texts header directory applets imports pool classes methods statics exports = record {
  header = header;
  directory = directory;
  applets = applets;
  imports = imports;
  pool = pool;
  classes = classes;
  methods = methods;
  statics = statics;
  exports = exports;
}

-- one component more, of bytes
module _ (texts : LoadedComponents) (bytes : List ℕ) (r : IsReadable texts) (b : AreBytes bytes) where
  with_header : IsReadable (record texts { header = Some bytes })
  with_header = readable (record texts { header = Some bytes }) b r.directory r.applets r.imports r.pool r.classes r.methods r.statics r.exports

  with_directory : IsReadable (record texts { directory = Some bytes })
  with_directory = readable (record texts { directory = Some bytes }) r.header b r.applets r.imports r.pool r.classes r.methods r.statics r.exports

  with_applets : IsReadable (record texts { applets = Some bytes })
  with_applets = readable (record texts { applets = Some bytes }) r.header r.directory b r.imports r.pool r.classes r.methods r.statics r.exports

  with_imports : IsReadable (record texts { imports = Some bytes })
  with_imports = readable (record texts { imports = Some bytes }) r.header r.directory r.applets b r.pool r.classes r.methods r.statics r.exports

  with_pool : IsReadable (record texts { pool = Some bytes })
  with_pool = readable (record texts { pool = Some bytes }) r.header r.directory r.applets r.imports b r.classes r.methods r.statics r.exports

  with_classes : IsReadable (record texts { classes = Some bytes })
  with_classes = readable (record texts { classes = Some bytes }) r.header r.directory r.applets r.imports r.pool b r.methods r.statics r.exports

  with_methods : IsReadable (record texts { methods = Some bytes })
  with_methods = readable (record texts { methods = Some bytes }) r.header r.directory r.applets r.imports r.pool r.classes b r.statics r.exports

  with_statics : IsReadable (record texts { statics = Some bytes })
  with_statics = readable (record texts { statics = Some bytes }) r.header r.directory r.applets r.imports r.pool r.classes r.methods b r.exports

  with_reference_location : IsReadable (record texts { reference_location = Some (length bytes - 3) })
  with_reference_location = readable (record texts { reference_location = Some (length bytes - 3) })
      r.header r.directory r.applets r.imports r.pool r.classes r.methods r.statics r.exports

  with_exports : IsReadable (record texts { exports = Some bytes })
  with_exports = readable (record texts { exports = Some bytes }) r.header r.directory r.applets r.imports r.pool r.classes r.methods r.statics b

  with_descriptor : IsReadable (record texts { descriptor = Some (length bytes - 3) })
  with_descriptor = readable (record texts { descriptor = Some (length bytes - 3) })
      r.header r.directory r.applets r.imports r.pool r.classes r.methods r.statics r.exports

  text_kept : (tag : ℕ) → IsReadable (with_component texts tag bytes)
  unfolding with_component
  text_kept tag =
      choose IsReadable (tag == 1) _ _ (λ on. with_header) (λ off1.
      choose IsReadable (tag == 2) _ _ (λ on. with_directory) (λ off2.
      choose IsReadable (tag == 3) _ _ (λ on. with_applets) (λ off3.
      choose IsReadable (tag == 4) _ _ (λ on. with_imports) (λ off4.
      choose IsReadable (tag == 5) _ _ (λ on. with_pool) (λ off5.
      choose IsReadable (tag == 6) _ _ (λ on. with_classes) (λ off6.
      choose IsReadable (tag == 7) _ _ (λ on. with_methods) (λ off7.
      choose IsReadable (tag == 8) _ _ (λ on. with_statics) (λ off8.
      choose IsReadable (tag == 9) _ _ (λ on. with_reference_location) (λ off9.
      choose IsReadable (tag == 10) _ _ (λ on. with_exports) (λ off10.
      choose IsReadable (tag == 11) _ _ (λ on. with_descriptor) (λ off11.
      r)))))))))))

-- ---- a component that comes

module _ (load : OpenLoad) (r : IsOpenReadable load) where
  begins : (tag : ℕ) → IsOpenReadable (component_begin tag load).1
  begins tag =
      choose (λ (x : CommandResult × OpenLoad). IsOpenReadable x.1) (is_some load.coming) _ _ (λ on. r)
      (λ off. choose (λ (x : CommandResult × OpenLoad). IsOpenReadable x.1) (is_tag tag) _ _
      (λ good. choose (λ (x : CommandResult × OpenLoad). IsOpenReadable x.1) (slice_index_or load.came tag false) _ _ (λ on. r)
      (λ new. record { texts = r.texts; coming = All-nil (λ b. b < 256) })) (λ bad. r))

  grows_so : (more : List ℕ) (o : Option IncomingValue) → AreBytes more → IfSome o (λ c. AreBytes c.bytes) → IsOpenReadable (more_of more load o).1
  grows_so more None bytes came = r
  grows_so more (Some c) bytes came = record {
    texts = r.texts;
    coming = choose (λ (x : CommandResult × IncomingValue). AreBytes x.1.bytes) (nat_lt 65538 (length c.bytes + length more)) _ _ (λ long. came)
        (λ fits. All-append (λ b. b < 256) c.bytes more came bytes);
  }

  ends_as : (c : IncomingValue) (said : Result Content CapFault) → AreBytes c.bytes → IsOpenReadable (load_with load c said).1
  ends_as c (Err fault) bytes = record { texts = r.texts; coming = tt }
  ends_as c (Ok x) bytes = record { texts = text_kept load.texts c.bytes r.texts bytes c.tag; coming = tt }

  ends_so : (o : Option IncomingValue) → IfSome o (λ c. AreBytes c.bytes) → IsOpenReadable (read_of load o).1
  ends_so None came = r
  ends_so (Some c) came = ends_as c (content_in load.format c.tag c.bytes) came

new : IsOpenReadable empty_load
unfolding empty_load
new = record {
  texts = record {
    header = tt;
    directory = tt;
    applets = tt;
    imports = tt;
    pool = tt;
    classes = tt;
    methods = tt;
    statics = tt;
    exports = tt;
  };
  coming = tt;
}

pub are_readable : LoadsAreReadable
are_readable = record {
  new = new;
  begins = λ tag load r. begins load r tag;
  grows = λ more load bytes r. grows_so load r more load.coming bytes r.coming;
  ends = λ load r. ends_so load r load.coming r.coming;
}
