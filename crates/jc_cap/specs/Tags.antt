-- The tags of components (virtual machine specification, 6.2).
use Rattle.std.specs.Prelude.{ℕ}

abbrev pub header_tag : ℕ
header_tag = 1

abbrev pub directory_tag : ℕ
directory_tag = 2

abbrev pub applet_tag : ℕ
applet_tag = 3

abbrev pub import_tag : ℕ
import_tag = 4

abbrev pub constant_pool_tag : ℕ
constant_pool_tag = 5

abbrev pub class_tag : ℕ
class_tag = 6

abbrev pub method_tag : ℕ
method_tag = 7

abbrev pub static_field_tag : ℕ
static_field_tag = 8

abbrev pub reference_location_tag : ℕ
reference_location_tag = 9

abbrev pub export_tag : ℕ
export_tag = 10

abbrev pub descriptor_tag : ℕ
descriptor_tag = 11

abbrev pub debug_tag : ℕ
debug_tag = 12

-- the least tag of a custom component
abbrev pub first_custom_tag : ℕ
first_custom_tag = 128
