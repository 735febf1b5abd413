-- Methods by class and token.
use Rattle.std.specs.Prelude.{ℕ, ◌-◌, ◌/◌, ◌==◌, ◌||◌, ◌&&◌, nat_lt, Bool, true, false, List, [], ◌∷◌, Option, Some, None, if◌then◌else◌, slice_get, filter, find}
use Rattle.std.specs.Option.{option_and_then, option_map}
use Rattle.jc_platform.specs.declared.names.PlatformClass.{PlatformClass}
use Rattle.jc_platform.specs.declared.names.MethodKind.TheVariants as kinds
use Rattle.jc_platform.specs.declared.names.PlatformMethod.{PlatformMethod}
use Rattle.jc_platform.specs.NamePlaces.{class_word}
use Rattle.jc_platform.specs.Hierarchy.{implementation_of, interfaces_of}
use Rattle.jc_platform.specs.Tokens.{method_token}
use Rattle.jc_platform.specs.Platform.{class_by_word, method_by_token}
use Rattle.jc_linker.specs.declared.target.Method.{Method}
use Rattle.jc_linker.specs.declared.target.Method.TheVariants.{Code, Native}
use Rattle.jc_cap.specs.declared.pool.VirtualToken.{VirtualToken}
use Rattle.jc_cap.specs.declared.pool.VirtualToken.TheVariants.{Public, PackageVisible}
use Rattle.jc_linker.specs.declared.search.Search.{Search}
use Rattle.jc_linker.specs.declared.search.Search.TheVariants.{Found, Above, Nowhere}
use Rattle.jc_linker.specs.Classes.{class_in, lineage}
use Rattle.jc_linker.specs.Values.{ClassValue, Implementation, MethodTable, Packages}

-- what was found, or what is found above
abbrev pub found_or_above : {A : Type 0} → Search A → Option A → Option A
found_or_above (Found a) above = Some a
found_or_above Above above = above
found_or_above Nowhere above = None

-- the first of these classes that doesn't send the search on decides it
unfoldable pub first_decided : {A : Type 0} → (ℕ → Search A) → List ℕ → Option A
first_decided step [] = None
first_decided step (c ∷ cs) = found_or_above (step c) (first_decided step cs)

-- what the entry of a table says
abbrev pub by_offset : ℕ → Option ℕ → Search Method
by_offset package_number None = Nowhere
by_offset package_number (Some offset) = if offset == 65535 then Above else Found (Code package_number offset)

-- a token below the base is the superclass's, and one after the table's end is no method's
abbrev pub in_table : ℕ → MethodTable → ℕ → Search Method
in_table package_number table token = if nat_lt token table.base then Above else by_offset package_number (slice_get table.offsets (token - table.base))

-- a method of the platform, or the superclass's
abbrev pub if_native : Option PlatformMethod → Search Method
if_native None = Above
if_native (Some m) = Found (Native m)

-- what a loaded class, or else one of the platform, says of a token
abbrev pub method_by_class : Packages → VirtualToken → ℕ → Option ClassValue → Option PlatformClass → Search Method
method_by_class p (Public token) word (Some c) other = in_table (word / 256) c.public_methods token
method_by_class p (PackageVisible token) word (Some c) other = in_table (word / 256) c.package_methods token
method_by_class p token word None None = Nowhere
method_by_class p (Public token) word None (Some c) = if_native (method_by_token p.platform c kinds.Virtual token)
method_by_class p (PackageVisible token) word None (Some c) = Nowhere

unfoldable pub method_in : Packages → VirtualToken → ℕ → Search Method
method_in p token word = method_by_class p token word (class_in p word) (class_by_word p.platform word)

-- where a method is looked up that is called through a class of this package: a public one in all classes, one that is
-- visible in its package in that package's
abbrev pub lookup_classes : VirtualToken → ℕ → List ℕ → List ℕ
lookup_classes (Public token) package_number classes = classes
lookup_classes (PackageVisible token) package_number classes = filter (λ c. c / 256 == package_number) classes

-- the method that a call by token on an instance of a class runs, through a class of the package with this number
unfoldable pub method_at : Packages → ℕ → ℕ → VirtualToken → Option Method
method_at p class package_number token = first_decided (method_in p token) (lookup_classes token package_number (lineage p class))

-- the method that a call runs on an instance of a class, where linking found this method for the class that the call names: one that a class
-- below that class has in its place, or else this one
unfoldable pub method_below : Packages → ℕ → ℕ → VirtualToken → Method → Option Method
method_below p own class token method = first_decided (λ c. if c == class then Found method else method_in p token c)
    (lookup_classes token (class / 256) (lineage p own))

-- a class that says nothing of what is looked up sends the search on
abbrev pub is_silent : {A : Type 0} → Search A → Bool
is_silent (Found a) = false
is_silent Above = true
is_silent Nowhere = false

-- this class is among these, and none before it says anything of the token
unfoldable pub leads_to : Packages → VirtualToken → ℕ → List ℕ → Bool
leads_to p token class [] = false
leads_to p token class (c ∷ cs) = c == class || (is_silent (method_in p token c) && leads_to p token class cs)

-- no class from the first one on up to the second one says anything of this public token
abbrev pub inherits_method : Packages → ℕ → ℕ → ℕ → Bool
inherits_method p own class token = leads_to p (Public token) class (lineage p own)

-- ---- methods of interfaces: which virtual method carries one out, by its token

abbrev pub by_token : Option ℕ → Search ℕ
by_token None = Nowhere
by_token (Some token) = Found token

-- what the class's list says of the interface
abbrev pub in_list : ℕ → Option Implementation → Search ℕ
in_list token None = Above
in_list token (Some i) = by_token (slice_get i.tokens token)

-- the token of a method of the platform
abbrev pub token_of : Packages → PlatformMethod → ℕ
token_of p m = method_token p.platform m

-- the method of the platform's interface with this token, by the platform's class that implements these interfaces
abbrev pub native_implementation : Packages → ℕ → ℕ → List PlatformClass → Search ℕ
native_implementation p interface token [] = Above
native_implementation p interface token (i ∷ is) = if class_word p.platform i == interface then by_token
    (option_map (token_of p) (option_and_then implementation_of (method_by_token p.platform i kinds.Interface token)))
    else native_implementation p interface token is

abbrev pub implementation_by : Packages → ℕ → ℕ → Option ClassValue → Option PlatformClass → Search ℕ
implementation_by p interface token (Some c) other = in_list token (find (λ i. i.interface == interface) c.interfaces)
implementation_by p interface token None None = Nowhere
implementation_by p interface token None (Some c) = native_implementation p interface token (interfaces_of c)

unfoldable pub implementation_in : Packages → ℕ → ℕ → ℕ → Search ℕ
implementation_in p interface token word = implementation_by p interface token (class_in p word) (class_by_word p.platform word)

-- the method that a call of an interface's method by token on an instance of a class runs: the virtual method, as the
-- instance's own class has it
unfoldable pub interface_method_at : Packages → ℕ → ℕ → ℕ → Option Method
interface_method_at p class interface token = option_and_then (λ own. method_at p class 0 (Public own))
    (first_decided (implementation_in p interface token) (lineage p class))
