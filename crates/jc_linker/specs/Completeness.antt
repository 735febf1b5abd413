-- Whether what a package's classes name is there.
use Rattle.std.specs.Prelude.{ℕ, ◌+◌, ◌*◌, ◌==◌, ◌&&◌, ◌||◌, not, nat_le, Bool, true, List, [], ◌∷◌, is_some}
use Rattle.std.specs.List.{list_all}
use Rattle.jc_cap.specs.declared.pool.VirtualToken.TheVariants.{Public}
use Rattle.jc_linker.specs.Classes.{is_class}
use Rattle.jc_linker.specs.Methods.{method_at}
use Rattle.jc_linker.specs.Resolve.{names_interface}
use Rattle.jc_linker.specs.Values.{ClassValue, Implementation, Packages}

-- a class has a public method with this token
unfoldable pub has_method : Packages → ℕ → ℕ → ℕ → Bool
has_method p number class token = nat_le token 255 && is_some (method_at p class number (Public token))

-- the methods from a token on that are inherited are there in the superclass
unfoldable pub inherits_from : Packages → ℕ → ℕ → ℕ → List ℕ → Bool
inherits_from p number superclass token [] = true
inherits_from p number superclass token (offset ∷ offsets) = (not (offset == 65535) || has_method p number superclass token) && inherits_from p number
    superclass (token + 1) offsets

-- the word names an interface, and the class has each method that carries out one of its
abbrev pub is_implemented : Packages → ℕ → ℕ → Implementation → Bool
is_implemented p number class i = names_interface p i.interface && list_all (λ token. has_method p number class token) i.tokens

-- the superclass is a class
abbrev pub has_superclass : Packages → ClassValue → Bool
has_superclass p c = c.is_interface || (is_class p c.superclass && not (names_interface p c.superclass))

-- all that the class with this word names is there
unfoldable pub is_complete : Packages → ℕ → ℕ → ClassValue → Bool
is_complete p number class c = has_superclass p c && list_all (is_implemented p number class) c.interfaces && inherits_from p number c.superclass
    c.public_methods.base c.public_methods.offsets

-- all that these classes name is there, of which the first has this word
unfoldable pub are_complete_from : Packages → ℕ → ℕ → List ClassValue → Bool
are_complete_from p number class [] = true
are_complete_from p number class (c ∷ cs) = is_complete p number class c && are_complete_from p number (class + 1) cs

abbrev pub are_complete : Packages → ℕ → List ClassValue → Bool
are_complete p number classes = are_complete_from p number (256 * number) classes
