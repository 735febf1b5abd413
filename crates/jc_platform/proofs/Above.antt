-- What is above a line, with one more row.
use Rattle.std.proofs.Common.{◌≡◌, ◌<◌, ℕ, true, List, ◌∷◌, Option, Some, None, length, set, ap, subst, ◌∙◌}
use Rattle.std.specs.Prelude.{unwrap_or, if◌then◌else◌}
use Rattle.jc_platform.specs.declared.names.PlatformPackage.{PlatformPackage}
use Rattle.jc_platform.specs.declared.names.PlatformClass.{PlatformClass}
use Rattle.jc_platform.specs.declared.names.PlatformMethod.{PlatformMethod}
use Rattle.jc_platform.specs.declared.reading.Reading.{Reading}
use Rattle.jc_platform.specs.declared.row.Row.{Row}
use Rattle.jc_platform.specs.declared.row.Row.TheVariants.{Extended, Random, Package, Class, Method}
use Rattle.jc_platform.specs.declared.row.Version.{Version}
use Rattle.jc_platform.specs.Numbers.{package_number, class_number, method_number, same_package, same_class, same_method}
use Rattle.jc_platform.specs.Reading.{above_of}
use Rattle.jc_platform.specs.Rows.{Above, above}
use Rattle.jc_platform.proofs.Lists.{read_written}

-- below a package
abbrev with_package : Above → PlatformPackage → Version → Above
with_package a p v = record {
  extended = a.extended;
  home = Some p;
  class = None;
  first = Some (unwrap_or a.first p);
  version = λ q. if same_package p q then Some v else a.version q;
  class_token = a.class_token;
  method_token = a.method_token;
  random = a.random;
}

-- below a class
abbrev with_class : Above → PlatformClass → ℕ → Above
with_class a c t = record {
  extended = a.extended;
  home = a.home;
  class = Some c;
  first = a.first;
  version = a.version;
  class_token = λ d. if same_class c d then Some t else a.class_token d;
  method_token = a.method_token;
  random = a.random;
}

-- below a method
abbrev with_method : Above → PlatformMethod → ℕ → Above
with_method a m t = record {
  extended = a.extended;
  home = a.home;
  class = a.class;
  first = a.first;
  version = a.version;
  class_token = a.class_token;
  method_token = λ n. if same_method m n then Some t else a.method_token n;
  random = a.random;
}

-- a reader that took a package in, with these versions, where f stands first
abbrev pub package_in : Reading → List (Option Version) → PlatformPackage → PlatformPackage → Reading
package_in r vs f p = record r { home = Some p; class = None; first = Some f; versions = vs }

-- a reader that took a class in, at the place i
abbrev pub class_in : Reading → ℕ → PlatformClass → ℕ → Reading
class_in r i c t = record r { class = Some c; class_tokens = set r.class_tokens i (Some t) }

-- a reader that took a method in, at the place i
abbrev pub method_in : Reading → ℕ → ℕ → Reading
method_in r i t = record r { method_tokens = set r.method_tokens i (Some t) }

package_taken : (r : Reading) (p : PlatformPackage) (v : Version) (rows : List Row) → package_number p < length r.versions → above_of r ≡ above rows
    → above_of (package_in r (set r.versions (package_number p) (Some v)) (unwrap_or r.first p) p) ≡ above (Package p v ∷ rows)
package_taken r p v rows h e =
    let written : above_of (package_in r (set r.versions (package_number p) (Some v)) (unwrap_or r.first p) p) ≡ with_package (above_of r) p v =
    λ i. record {
      extended = r.extended;
      home = Some p;
      class = None;
      first = Some (unwrap_or r.first p);
      version = λ q. (read_written r.versions (package_number p) (package_number q) (Some v) h) i;
      class_token = (above_of r).class_token;
      method_token = (above_of r).method_token;
      random = r.random;
    } in
    written ∙ ap (λ (a : Above). with_package a p v) e

class_taken : (r : Reading) (c : PlatformClass) (t : ℕ) (rows : List Row) → class_number c < length r.class_tokens → above_of r ≡ above rows
    → above_of (class_in r (class_number c) c t) ≡ above (Class c t ∷ rows)
class_taken r c t rows h e =
    let written : above_of (class_in r (class_number c) c t) ≡ with_class (above_of r) c t =
    λ i. record {
      extended = r.extended;
      home = r.home;
      class = Some c;
      first = r.first;
      version = (above_of r).version;
      class_token = λ d. (read_written r.class_tokens (class_number c) (class_number d) (Some t) h) i;
      method_token = (above_of r).method_token;
      random = r.random;
    } in
    written ∙ ap (λ (a : Above). with_class a c t) e

method_taken : (r : Reading) (m : PlatformMethod) (t : ℕ) (rows : List Row) → method_number m < length r.method_tokens → above_of r ≡ above rows
    → above_of (method_in r (method_number m) t) ≡ above (Method m t ∷ rows)
method_taken r m t rows h e =
    let written : above_of (method_in r (method_number m) t) ≡ with_method (above_of r) m t =
    λ i. record {
      extended = r.extended;
      home = r.home;
      class = r.class;
      first = r.first;
      version = (above_of r).version;
      class_token = (above_of r).class_token;
      method_token = λ n. (read_written r.method_tokens (method_number m) (method_number n) (Some t) h) i;
      random = r.random;
    } in
    written ∙ ap (λ (a : Above). with_method a m t) e

-- a reader that took the first line of an extended table in
abbrev pub extended_in : Reading → Reading
extended_in r = record r { extended = true }

pub above-extended_in : (r : Reading) (rows : List Row) → above_of r ≡ above rows → above_of (extended_in r) ≡ above (Extended ∷ rows)
above-extended_in r rows e = ap (λ (a : Above). record a { extended = true }) e

-- a reader that took the line `random` in
abbrev pub random_in_reader : Reading → List ℕ → Reading
random_in_reader r bytes = record r { random = Some bytes }

pub above-random_in_reader : (r : Reading) (bytes : List ℕ) (rows : List Row) → above_of r ≡ above rows → above_of (random_in_reader r bytes) ≡ above (Random bytes ∷ rows)
above-random_in_reader r bytes rows e = ap (λ (a : Above). record a { random = Some bytes }) e

pub above-package_in : (r : Reading) (vs : List (Option Version)) (f p : PlatformPackage) (v : Version) → vs ≡ set r.versions (package_number p) (Some v)
    → f ≡ unwrap_or r.first p → package_number p < length r.versions → (rows : List Row) → above_of r ≡ above rows
    → above_of (package_in r vs f p) ≡ above (Package p v ∷ rows)
above-package_in r vs f p v written first h rows e =
    ap (λ (xs : List (Option Version)). above_of (package_in r xs f p)) written
    ∙ ap (λ (g : PlatformPackage). above_of (package_in r (set r.versions (package_number p) (Some v)) g p)) first
    ∙ package_taken r p v rows h e

pub above-class_in : (r : Reading) (i : ℕ) (c : PlatformClass) (t : ℕ) → i ≡ class_number c → i < length r.class_tokens → (rows : List Row)
    → above_of r ≡ above rows → above_of (class_in r i c t) ≡ above (Class c t ∷ rows)
above-class_in r i c t place h rows e =
    let at : class_number c < length r.class_tokens = subst (λ (j : ℕ). j < length r.class_tokens) place h in
    ap (λ (j : ℕ). above_of (class_in r j c t)) place ∙ class_taken r c t rows at e

pub above-method_in : (r : Reading) (i : ℕ) (m : PlatformMethod) (t : ℕ) → i ≡ method_number m → i < length r.method_tokens → (rows : List Row)
    → above_of r ≡ above rows → above_of (method_in r i t) ≡ above (Method m t ∷ rows)
above-method_in r i m t place h rows e =
    let at : method_number m < length r.method_tokens = subst (λ (j : ℕ). j < length r.method_tokens) place h in
    ap (λ (j : ℕ). above_of (method_in r j t)) place ∙ method_taken r m t rows at e
