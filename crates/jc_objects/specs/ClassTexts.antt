-- How the classes of objects are reported.
use Rattle.std.specs.Prelude.{ℕ, ◌++◌, ◌/◌, ◌%◌, List, Option, Some, None, codes, decimal}
use Rattle.hex.specs.Hex.{encode_upper}
use Rattle.jc_heap.specs.declared.object.Kind.{Kind}
use Rattle.jc_heap.specs.declared.object.Kind.TheVariants.{Instance, BooleanArray, ByteArray, ShortArray, ReferenceArray}
use Rattle.jc_cap.specs.Packages.{NamedPackage}
use Rattle.jc_image.specs.Listing.{package_at}
use Rattle.jc_platform.specs.NamePlaces.{name_of_class}
use Rattle.jc_platform.specs.Platform.{class_by_word}
use Rattle.jc_platform.specs.Tokens.{Tokens}
use Rattle.jc_platform.specs.declared.names.PlatformClass.{PlatformClass}

-- a class of a package that was loaded: the package's AID and the class's number in it, or its word where no package states its AID
abbrev pub loaded_text : Option NamedPackage → ℕ → List ℕ
loaded_text (Some named) class = encode_upper named.aid ++ codes "." ++ decimal (class % 256)
loaded_text None class = decimal class

-- a class of the platform: its name; else this
abbrev pub named_text : Option PlatformClass → List ℕ → List ℕ
named_text (Some class) other = name_of_class class
named_text None other = other

-- the class that a word of a header names, in an image of these words with these tokens of the platform
abbrev pub class_text : Tokens → List ℕ → ℕ → List ℕ
class_text t words class = named_text (class_by_word t class) (loaded_text (package_at words (class / 256)) class)

-- an object of a kind and a class
abbrev pub kind_text : Tokens → List ℕ → Kind → ℕ → List ℕ
kind_text t words Instance class = class_text t words class
kind_text t words BooleanArray class = codes "boolean[]"
kind_text t words ByteArray class = codes "byte[]"
kind_text t words ShortArray class = codes "short[]"
kind_text t words ReferenceArray class = class_text t words class ++ codes "[]"
