use Rattle.std.proofs.Common.{◌≡◌, subst, sym}
use Rattle.jc_cap.specs.Assembling.{IsPackage}
use Rattle.jc_cap.specs.Views.{package_contents}
use Rattle.jc_cap.specs.StaticViews.{static_parts}
use Rattle.jc_packages.specs.RecordContents.{statics_of}
use Rattle.jc_packages.proofs.StaticCells.{statics_read}
use Rattle.jc_packages.proofs.record_contents.record_contents_of.Goals as goal

pub contents_with-requires : goal.contents_with-requires
contents_with-requires c = record {
  sound = subst IsPackage (sym c.texts.ensures) c.contents-contents.ensures.sound;
  read = subst (λ t. static_parts c.contents-contents.result.statics ≡ statics_of t) (sym c.texts.ensures)
      (sym (statics_read c.args.whole.now (package_contents c.contents-contents.result) c.contents-contents.ensures.read));
}
