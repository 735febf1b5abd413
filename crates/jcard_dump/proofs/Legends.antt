-- What the cells of an image are read by.
use Rattle.std.proofs.Common.{◌≡◌, List, ℕ, Some, Ok, Err, arith, refl, subst, sym}
use Rattle.jc_heap.specs.Image.{table_text}
use Rattle.jc_objects.specs.Bounds.{IsBounded}
use Rattle.jc_objects.specs.Legend.{ArePackagesIn, IsLegend}
use Rattle.jc_objects.specs.declared.legend.Legend.{Legend}
use Rattle.jc_packages.specs.Tables.{IsNoTable}
use Rattle.jc_packages.specs.declared.fault.ReadFault.{ReadFault}
use Rattle.jc_packages.specs.declared.fault.ReadFault.TheVariants.{Damaged, NoMemory}
use Rattle.jc_platform.specs.Table.{Reads}
use Rattle.jc_platform.specs.Tokens.{Tokens}
use Rattle.jcard_dump.specs.Listing.{IsLegendOf}
use Rattle.jcard_dump.specs.Fault.{list_fault}
use Rattle.jcard_dump.specs.Table.{IsLegendFor}

-- the legend of the words by their platform
pub legend_told : (w items : List ℕ) (t : Tokens) (l : Legend) → items ≡ w → Reads (table_text w) (Ok t) → IsLegend t items l → IsLegendOf w (Some l)
legend_told w items t l same reads is = (
  subst (λ (u : Tokens). Reads (table_text w) (Ok u)) (sym is.0) reads,
  (refl, subst (λ (u : Tokens). ArePackagesIn u w l.packages) (sym is.0) (subst (λ (v : List ℕ). ArePackagesIn t v l.packages) same is.1)),
)

-- none, where they have no table
pub legend_untold : (fault : ReadFault) (w : List ℕ) → IsBounded w → IsNoTable w fault → IsLegendFor w (Err (list_fault fault))
legend_untold Damaged w b none = λ t reads. none t (omega (arith, b.first, b.fits), reads)
legend_untold NoMemory w b none = tt
