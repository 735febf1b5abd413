-- What is lent from a component's bytes, without where it lies.
use Rattle.jc_cap.specs.declared.header.Header.{Header}
use Rattle.jc_cap.specs.declared.applets.AppletInfo.{AppletInfo}
use Rattle.jc_cap.specs.declared.customs.CustomComponent.{CustomComponent}
use Rattle.jc_cap.specs.FieldViews.{package_info}
use Rattle.jc_cap.specs.Header.{HeaderValue}
use Rattle.jc_cap.specs.Applets.{AppletNamed}
use Rattle.jc_cap.specs.Customs.{CustomNamed}

abbrev pub head : Header → HeaderValue
head h = record {
  format = h.format;
  exports = h.exports;
  has_applets = h.has_applets;
  this_package = package_info h.this_package;
  name = h.name.now;
}

abbrev pub applet_info : AppletInfo → AppletNamed
applet_info a = record { aid = a.aid.now; install_method_offset = a.install_method_offset }

abbrev pub custom_component : CustomComponent → CustomNamed
custom_component c = record { tag = c.tag; size = c.size; aid = c.aid.now }
