use Rattle.std.proofs.Common.{subst}
use Rattle.jc_image.specs.Opening.{HoldsImage}
use Rattle.jc_image.proofs.OpenImages.{holds_image}
use Rattle.jc_image.proofs.opening.OpenImage.into_store.Goals as goal

pub returns : goal.returns
returns g c =
    let s = c.into_store.result in
    let e = c.into_store.ensures in
    subst (HoldsImage (g.S.WordStore.words s) (g.S.WordStore.down s) (g.S.WordStore.passed s) (g.S.WordStore.refusals s)) c.self.view_is
    (holds_image _ _ _ _ c.self.inside.journal c.self.inside.size
    (record {
      good = e.stands.good;
      plain = e.stands.plain;
      recovered = e.stands.recovered;
      size = e.size;
      down = e.down;
      passed = e.passed;
      refusals = e.refusals;
      closed = e.closed;
      current = e.current;
    })
    c.self.invariant)
