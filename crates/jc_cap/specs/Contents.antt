-- What a component says.
use Rattle.std.specs.Prelude.{List, Option}
use Rattle.jc_cap.specs.Packages.{NamedPackage}
use Rattle.jc_cap.specs.Header.{HeaderValue}
use Rattle.jc_cap.specs.Applets.{AppletNamed}
use Rattle.jc_cap.specs.declared.directory.Directory.{Directory}
use Rattle.jc_cap.specs.declared.pool.Entry.{Entry}
use Rattle.jc_cap.specs.declared.exports.ExportedClass.{ExportedClass}
use Rattle.jc_cap.specs.ClassValues.{RecordAt}
use Rattle.jc_cap.specs.Methods.{MethodParts}
use Rattle.jc_cap.specs.StaticValues.{StaticParts}

pub data Content : Type 0 where
  header : HeaderValue → Content
  directory : Directory → Content
  applets : List AppletNamed → Content
  imports : List NamedPackage → Content
  pool : List Entry → Content
  classes : List RecordAt → Content
  methods : MethodParts → Content
  statics : StaticParts → Content
  exports : List ExportedClass → Content
  unused : Content

-- what all components of a package say; None for an Applet or an Export component that did not come
pub record PackageContents : Type 0 where
  pub header : HeaderValue
  pub directory : Directory
  pub applets : Option (List AppletNamed)
  pub imports : List NamedPackage
  pub pool : List Entry
  pub classes : List RecordAt
  pub methods : MethodParts
  pub statics : StaticParts
  pub exports : Option (List ExportedClass)
