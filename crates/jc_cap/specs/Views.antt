-- What components say, without where it lies.
use Rattle.jc_cap.specs.declared.contents.Contents.{Contents}
use Rattle.jc_cap.specs.Contents.{PackageContents}
use Rattle.jc_cap.specs.ComponentViews.{head}
use Rattle.jc_cap.specs.MethodViews.{method_parts}
use Rattle.jc_cap.specs.StaticViews.{static_parts}

abbrev pub package_contents : Contents → PackageContents
package_contents c = record {
  header = head c.header;
  directory = c.directory;
  applets = c.applets;
  imports = c.imports;
  pool = c.pool;
  classes = c.classes;
  methods = method_parts c.methods;
  statics = static_parts c.statics;
  exports = c.exports;
}
