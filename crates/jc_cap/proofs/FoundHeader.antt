-- Where the fields of a header stand.
use Rattle.std.proofs.Common.{◌≡◌, ℕ, ◌-◌, ◌≤◌, ◌/◌, ◌%◌, Bool, true, false, eqb, ltb, List, [], ◌∷◌, ◌++◌, length, take, drop, slice_index_or, Ok, refl, sym, ap, subst, ◌∙◌}
use Rattle.std.proofs.Common.{arith, length-append}
use Rattle.std.proofs.lemmas.List.{append-nil, take_all}
use Rattle.jc_cap.specs.declared.formats.Format.{Format}
use Rattle.jc_cap.specs.declared.formats.Format.TheVariants.{V2_1, V2_2}
use Rattle.jc_cap.specs.Reading.{IsReadable, value_of_whole}
use Rattle.jc_cap.specs.Header.{HeaderValue, IsName, IsHeader, flags_byte, format_of, header_at, minor_of, name_at}
use Rattle.jc_cap.proofs.Many.{ok_is}
use Rattle.jc_cap.proofs.ToldHeader.{header_tells, name_again, name_takes}
use Rattle.jc_cap.proofs.Wholes.{whole_reads, whole_takes}

-- a name of format 2.2 stands after its length
pub behind_count : (bytes name : List ℕ) → value_of_whole (name_at V2_2 bytes) ≡ Ok name → bytes ≡ length name ∷ name
behind_count bytes name e =
    let n = name_takes V2_2 bytes name [] (whole_reads (name_at V2_2 bytes) name e) in
    n.parts ∙ append-nil n.text ∙ n.is

pub no_name : (bytes : List ℕ) → IsReadable (value_of_whole (name_at V2_1 bytes)) → value_of_whole (name_at V2_1 bytes) ≡ Ok []
no_name bytes given =
    let n = name_takes V2_1 bytes given.0 [] (whole_reads (name_at V2_1 bytes) given.0 given.1) in
    given.1 ∙ ap Ok n.is.0

pub has_count : (bytes : List ℕ) → IsReadable (value_of_whole (name_at V2_2 bytes)) → 1 ≤ length bytes
has_count bytes given = let is = ap length (behind_count bytes given.0 given.1) in omega (arith, is)

pub name_behind : (bytes : List ℕ) → IsReadable (value_of_whole (name_at V2_2 bytes)) → value_of_whole (name_at V2_2 bytes) ≡ Ok (drop 1 bytes)
name_behind bytes given = given.1 ∙ ap Ok (sym (ap (drop 1) (behind_count bytes given.0 given.1)))

-- ---- the whole

abbrev laid : HeaderValue → List ℕ → List ℕ
laid h behind = 222 ∷ 202 ∷ 255 ∷ 237 ∷ minor_of h.format ∷ 2 ∷ flags_byte h.exports h.has_applets ∷ h.this_package.minor_version ∷ h.this_package.major_version
    ∷ length h.this_package.aid ∷ (h.this_package.aid ++ behind)

record Laid (info : List ℕ) : Type 0 where
  h : HeaderValue
  says : value_of_whole (header_at info) ≡ Ok h
  behind : List ℕ
  name : IsName h.format h.name behind
  is : info ≡ laid h behind

laid_of : (info : List ℕ) → IsReadable (value_of_whole (header_at info)) → Laid info
laid_of info given =
    let h = given.0 in
    let is = whole_takes header_at IsHeader header_tells info h given.1 in
    let front : List ℕ → List ℕ = λ t. 222 ∷ 202 ∷ 255 ∷ 237 ∷ minor_of h.format ∷ 2 ∷ flags_byte h.exports h.has_applets ∷ (t ++ is.1) in
    record {
      h = h;
      says = given.1;
      behind = is.1;
      name = is.3;
      is = is.4 ∙ ap front (is.2.2 ∙ ap (λ (t : List ℕ). h.this_package.minor_version ∷ h.this_package.major_version ∷ t) is.2.1.0);
    }

format_is : (f : Format) → format_of (minor_of f) ≡ Ok f
format_is V2_1 = refl
format_is V2_2 = refl

pub long_enough : (info : List ℕ) → IsReadable (value_of_whole (header_at info)) → 10 ≤ length info
long_enough info given = let l = laid_of info given in let is = ap length l.is in omega (arith, is)

pub has_format : (info : List ℕ) → IsReadable (value_of_whole (header_at info)) → IsReadable (format_of (slice_index_or info 4 0))
has_format info given = let l = laid_of info given in (l.h.format, ap (λ (t : List ℕ). format_of (slice_index_or t 4 0)) l.is ∙ format_is l.h.format)

-- what stands after the AID's length
abbrev pub rest_of : List ℕ → List ℕ
rest_of info = take (length info - 10) (drop 10 info)

rest_is : (info : List ℕ) (l : Laid info) → rest_of info ≡ l.h.this_package.aid ++ l.behind
rest_is info l =
    let r : List ℕ = l.h.this_package.aid ++ l.behind in
    let long : length info ≡ length (laid l.h l.behind) = ap length l.is in
    let n : length info - 10 ≡ length r = omega (arith, long) in
    ap (λ (t : List ℕ). take (length info - 10) (drop 10 t)) l.is ∙ ap (λ (k : ℕ). take k r) n ∙ take_all (length r) r (omega arith)

count_is : (info : List ℕ) (l : Laid info) → slice_index_or info 9 0 ≡ length l.h.this_package.aid
count_is info l = ap (λ (t : List ℕ). slice_index_or t 9 0) l.is

pub has_aid : (info : List ℕ) → IsReadable (value_of_whole (header_at info)) → slice_index_or info 9 0 ≤ length (rest_of info)
has_aid info given =
    let l = laid_of info given in
    let count = count_is info l in
    let rest = ap length (rest_is info l) ∙ length-append l.h.this_package.aid l.behind in
    omega (arith, count, rest)

front_of : (xs ys : List ℕ) → take (length xs) (xs ++ ys) ≡ xs
front_of [] ys = refl
front_of (x ∷ xs) ys = ap (λ (t : List ℕ). x ∷ t) (front_of xs ys)

pub back_of : (xs ys : List ℕ) → drop (length xs) (xs ++ ys) ≡ ys
back_of [] ys = refl
back_of (x ∷ xs) ys = back_of xs ys

aid_is : (info : List ℕ) (l : Laid info) → take (slice_index_or info 9 0) (rest_of info) ≡ l.h.this_package.aid
aid_is info l = ap (λ (n : ℕ). take n (rest_of info)) (count_is info l) ∙ ap (take (length l.h.this_package.aid)) (rest_is info l)
    ∙ front_of l.h.this_package.aid l.behind

behind_is : (info : List ℕ) (l : Laid info) → drop (slice_index_or info 9 0) (rest_of info) ≡ l.behind
behind_is info l = ap (λ (n : ℕ). drop n (rest_of info)) (count_is info l) ∙ ap (drop (length l.h.this_package.aid)) (rest_is info l)
    ∙ back_of l.h.this_package.aid l.behind

name_says : (f : Format) (name behind : List ℕ) → IsName f name behind → value_of_whole (name_at f behind) ≡ Ok name
name_says f name behind is = ap (λ (t : List ℕ). value_of_whole (name_at f t)) (sym (append-nil behind)) ∙ ap value_of_whole (name_again f name behind [] is)

found_format : (info : List ℕ) (l : Laid info) (f : Format) → format_of (slice_index_or info 4 0) ≡ Ok f → f ≡ l.h.format
found_format info l f e = sym (ok_is l.h.format f
    (sym (format_is l.h.format) ∙ ap (λ (t : List ℕ). format_of (slice_index_or t 4 0)) (sym l.is) ∙ e))

name_is : (info behind : List ℕ) (l : Laid info) (f : Format) → format_of (slice_index_or info 4 0) ≡ Ok f
    → behind ≡ drop (slice_index_or info 9 0) (rest_of info) → value_of_whole (name_at f behind) ≡ Ok l.h.name
name_is info behind l f e b = ap (λ (g : Format). value_of_whole (name_at g behind)) (found_format info l f e)
    ∙ ap (λ (t : List ℕ). value_of_whole (name_at l.h.format t)) (b ∙ behind_is info l) ∙ name_says l.h.format l.h.name l.behind l.name

pub has_name : (info behind : List ℕ) (f : Format) → IsReadable (value_of_whole (header_at info)) → format_of (slice_index_or info 4 0) ≡ Ok f
    → behind ≡ drop (slice_index_or info 9 0) (rest_of info) → IsReadable (value_of_whole (name_at f behind))
has_name info behind f given e b = let l = laid_of info given in (l.h.name, name_is info behind l f e b)

exports_are : (e a : Bool) → eqb (flags_byte e a / 2 % 2) 1 ≡ e
exports_are true true = refl
exports_are true false = refl
exports_are false true = refl
exports_are false false = refl

applets_are : (e a : Bool) → ltb 3 (flags_byte e a) ≡ a
applets_are true true = refl
applets_are true false = refl
applets_are false true = refl
applets_are false false = refl

abbrev header_of : Format → Bool → Bool → ℕ → ℕ → List ℕ → List ℕ → HeaderValue
header_of f e a minor major aid name = record {
  format = f;
  exports = e;
  has_applets = a;
  this_package = record { minor_version = minor; major_version = major; aid = aid };
  name = name;
}

pub header_found : (info aid behind name : List ℕ) (f : Format) → IsReadable (value_of_whole (header_at info)) → format_of (slice_index_or info 4 0) ≡ Ok f
    → aid ≡ take (slice_index_or info 9 0) (rest_of info) → behind ≡ drop (slice_index_or info 9 0) (rest_of info)
    → value_of_whole (name_at f behind) ≡ Ok name
    → value_of_whole (header_at info) ≡ Ok (header_of f (eqb (slice_index_or info 6 0 / 2 % 2) 1) (ltb 3 (slice_index_or info 6 0)) (slice_index_or info 7 0)
    (slice_index_or info 8 0) aid name)
header_found info aid behind name f given format a b n =
    let l = laid_of info given in
    let flags : slice_index_or info 6 0 ≡ flags_byte l.h.exports l.h.has_applets = ap (λ (t : List ℕ). slice_index_or t 6 0) l.is in
    let minor : slice_index_or info 7 0 ≡ l.h.this_package.minor_version = ap (λ (t : List ℕ). slice_index_or t 7 0) l.is in
    let major : slice_index_or info 8 0 ≡ l.h.this_package.major_version = ap (λ (t : List ℕ). slice_index_or t 8 0) l.is in
    let of : f ≡ l.h.format = found_format info l f format in
    let named : name ≡ l.h.name = ok_is name l.h.name (sym n ∙ name_is info behind l f format b) in
    let said : aid ≡ l.h.this_package.aid = a ∙ aid_is info l in
    l.says ∙ sym (ap Ok (
    ap (λ (x : Format). header_of x (eqb (slice_index_or info 6 0 / 2 % 2) 1) (ltb 3 (slice_index_or info 6 0)) (slice_index_or info 7 0)
    (slice_index_or info 8 0) aid name) of
    ∙ ap (λ (x : ℕ). header_of l.h.format (eqb (x / 2 % 2) 1) (ltb 3 x) (slice_index_or info 7 0) (slice_index_or info 8 0) aid name) flags
    ∙ ap (λ (x : Bool). header_of l.h.format x (ltb 3 (flags_byte l.h.exports l.h.has_applets)) (slice_index_or info 7 0) (slice_index_or info 8 0) aid name)
    (exports_are l.h.exports l.h.has_applets)
    ∙ ap (λ (x : Bool). header_of l.h.format l.h.exports x (slice_index_or info 7 0) (slice_index_or info 8 0) aid name)
    (applets_are l.h.exports l.h.has_applets)
    ∙ ap (λ (x : ℕ). header_of l.h.format l.h.exports l.h.has_applets x (slice_index_or info 8 0) aid name) minor
    ∙ ap (λ (x : ℕ). header_of l.h.format l.h.exports l.h.has_applets l.h.this_package.minor_version x aid name) major
    ∙ ap (λ (x : List ℕ). header_of l.h.format l.h.exports l.h.has_applets l.h.this_package.minor_version l.h.this_package.major_version x name) said
    ∙ ap (λ (x : List ℕ). header_of l.h.format l.h.exports l.h.has_applets l.h.this_package.minor_version l.h.this_package.major_version
    l.h.this_package.aid x) named))
