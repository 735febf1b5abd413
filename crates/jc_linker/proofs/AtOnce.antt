-- Methods that a loaded class, or the class right above it, has.
use Rattle.std.proofs.Common.{◌≡◌, ◌∙◌, ℕ, suc, ◌-◌, ◌/◌, ◌==◌, true, false, Option, None, Some, if◌then◌else◌, refl, arith}
use Rattle.std.specs.Prelude.{find, nat_lt, slice_get}
use Rattle.std.proofs.lemmas.Bool.{or_right}
use Rattle.jc_cap.specs.declared.pool.VirtualToken.TheVariants.{Public}
use Rattle.jc_linker.specs.declared.target.Method.{Method}
use Rattle.jc_linker.specs.declared.target.Method.TheVariants.{Code}
use Rattle.jc_linker.specs.declared.search.Search.TheVariants.{Found, Above}
use Rattle.jc_linker.specs.Classes.{class_in, lineage, lineage_from, superclass_in}
use Rattle.jc_linker.specs.Methods.{by_offset, first_decided, implementation_in, in_list, in_table, inherits_method, is_silent, leads_to, method_at, method_in}
use Rattle.jc_linker.specs.Values.{ClassValue, MethodTable, Packages}

-- a number is itself
itself : (n : ℕ) → (n == n) ≡ true
itself n = grind arith

-- whether a table says anything of a token does not depend on the package's number
silent_offset : (m n : ℕ) (o : Option ℕ) → is_silent (by_offset m o) ≡ is_silent (by_offset n o)
silent_offset m n None = refl
silent_offset m n (Some offset) =
    elim (offset == 65535) as (λ b. is_silent (if b then Above else Found (Code m offset)) ≡ is_silent (if b then Above else Found (Code n offset)))
    [ true ↦ refl | false ↦ refl ]

silent_any : (m n : ℕ) (table : MethodTable) (token : ℕ) → is_silent (in_table m table token) ≡ is_silent (in_table n table token)
silent_any m n table token =
    elim (nat_lt token table.base) as (λ b. is_silent (if b then Above else by_offset m (slice_get table.offsets (token - table.base)))
    ≡ is_silent (if b then Above else by_offset n (slice_get table.offsets (token - table.base))))
    [ true ↦ refl | false ↦ silent_offset m n (slice_get table.offsets (token - table.base)) ]

module _ (p : Packages) (class token : ℕ) (c : ClassValue) (here : class_in p class ≡ Some c) where
  -- a walk from the class on, over one class at least
  first_found : (n : ℕ) (method : Method) → in_table (class / 256) c.public_methods token ≡ Found method
      → first_decided (method_in p (Public token)) (lineage_from p (suc n) (Some class)) ≡ Some method
  unfolding first_decided lineage_from method_in
  first_found n method found = rw here (rw found refl)

  -- a walk from the class on, over two classes at least
  second_leads : (n superclass : ℕ) → c.is_interface ≡ false → c.superclass ≡ superclass → is_silent (in_table (class / 256) c.public_methods token) ≡ true
      → leads_to p (Public token) superclass (lineage_from p (suc (suc n)) (Some class)) ≡ true
  unfolding leads_to lineage_from method_in superclass_in
  second_leads n superclass plain above silent = rw here (rw plain (rw above (rw silent (rw (itself superclass) (or_right (class == superclass) true refl)))))

pub own_found : (p : Packages) (class token : ℕ) (c : ClassValue) → class_in p class ≡ Some c → (package_number : ℕ) (method : Method)
    → in_table (class / 256) c.public_methods token ≡ Found method → method_at p class package_number (Public token) ≡ Some method
unfolding method_at
own_found p class token c here package_number method found = first_found p class token c here 8703 method found

-- a walk from the class on, which itself carries out the interface
first_implements : (p : Packages) (class interface token n own : ℕ) (c : ClassValue) → class_in p class ≡ Some c
    → in_list token (find (λ i. i.interface == interface) c.interfaces) ≡ Found own
    → first_decided (implementation_in p interface token) (lineage_from p (suc n) (Some class)) ≡ Some own
unfolding first_decided lineage_from implementation_in
first_implements p class interface token n own c here found = rw here (rw found refl)

pub implemented_at_once : (p : Packages) (class interface token : ℕ) (c : ClassValue) → class_in p class ≡ Some c → (own : ℕ)
    → in_list token (find (λ i. i.interface == interface) c.interfaces) ≡ Found own
    → first_decided (implementation_in p interface token) (lineage p class) ≡ Some own
implemented_at_once p class interface token c here own found = first_implements p class interface token 8703 own c here found

pub inherited_at_once : (p : Packages) (own class token : ℕ) (c : ClassValue) → class_in p own ≡ Some c → c.is_interface ≡ false → c.superclass ≡ class
    → is_silent (in_table 0 c.public_methods token) ≡ true → inherits_method p own class token ≡ true
inherited_at_once p own class token c here plain above silent =
    second_leads p own token c here 8702 class plain above (silent_any (own / 256) 0 c.public_methods token ∙ silent)
