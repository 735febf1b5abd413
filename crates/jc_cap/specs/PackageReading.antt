-- Reading the components of a package, the one with the lowest tag first. Its header states the format of the others.
use Rattle.std.specs.Prelude.{Result, Ok}
use Rattle.jc_cap.specs.declared.fault.CapFault.{CapFault}
use Rattle.jc_cap.specs.Reading.{◌>>=◌}
use Rattle.jc_cap.specs.declared.texts.PackageBytes.{PackageBytes}
use Rattle.jc_cap.specs.ComponentReading.{header_in, directory_in, applets_in, imports_in, pool_in, classes_in, methods_in, statics_in, exports_in}
use Rattle.jc_cap.specs.Contents.{PackageContents}

unfoldable pub contents_of : PackageBytes → Result PackageContents CapFault
contents_of texts = do
  header ← header_in texts.header
  directory ← directory_in header.format texts.directory
  applets ← applets_in texts.applets
  imports ← imports_in texts.imports
  pool ← pool_in texts.pool
  classes ← classes_in header.format texts.classes
  methods ← methods_in texts.methods
  statics ← statics_in texts.statics
  exports ← exports_in texts.exports
  Ok (record {
    header = header;
    directory = directory;
    applets = applets;
    imports = imports;
    pool = pool;
    classes = classes;
    methods = methods;
    statics = statics;
    exports = exports;
  })
