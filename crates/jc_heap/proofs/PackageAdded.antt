-- A package's record and its arrays after a whole table, in all the words.
use Rattle.std.proofs.Common.{◌≡◌, ℕ, ◌+◌, ◌-◌, ◌<◌, ◌≤◌, ◌||◌, true, List, [], ◌∷◌, ◌++◌, length, take, set, get_or, refl, sym, ◌∙◌, ap, subst, arith}
use Rattle.std.proofs.Common.{append_assoc, add-zero, if◌then◌else◌, ◌==◌}
use Rattle.std.proofs.Math.Bool.{or-true}
use Rattle.std.proofs.lemmas.List.{get_or-set_same, get_or-take, length-set, length-append, length-take-le, set-append_left, set-get_or, set-set, take-take}
use Rattle.std.proofs.lemmas.List.{take-append-le}
use Rattle.std.proofs.Math.Seq.{take-length}
use Rattle.std.proofs.lemmas.Bool.{eq-eqb}
use Rattle.jc_words.specs.Layout.{top_address, packages_address, addresses_start, most_packages, text_start}
use Rattle.jc_heap.specs.declared.object.Kind.{Kind}
use Rattle.jc_heap.specs.declared.object.Kind.TheVariants.{Instance, BooleanArray, ByteArray, ShortArray, ReferenceArray}
use Rattle.jc_heap.specs.Object.{AnObject, APackage, object_of, payload, cells_of_words}
use Rattle.jc_heap.specs.Image.{image, base, package_addresses, is_package, sizes, item, missing_words_of_image, IsWellFormed}
use Rattle.jc_heap.specs.Heap.{read_image, heap_of, add_object}
use Rattle.jc_heap.specs.Package.{push_package, add_arrays, array_object, array_words, arrays_words, array_size, AreArraysOfBytes}
use Rattle.jc_heap.specs.Packed.{packed_words}
use Rattle.jc_heap.proofs.Records.{take-set_comm}
use Rattle.jc_heap.proofs.Packing.{length-packed_words}
use Rattle.jc_heap.proofs.PackedBytes.{bytes_of_packed_words, bytes_of_all}
use Rattle.jc_heap.proofs.Added.{add_item, heap_of-grown, IsLaid-grown, packages-grown, base-grown, missing-grown, read-grown}
use Rattle.jc_heap.proofs.Packages.{is_package-push, base-named, length-named, packages-named, missing-named, read-named}

is_package-last : (ps : List ℕ) (p : ℕ) → is_package (ps ++ p ∷ []) p ≡ true
is_package-last [] p = rw (eq-eqb p p refl) refl
is_package-last (q ∷ ps) p = ap (λ b. (q == p) || b) (is_package-last ps p) ∙ or-true (q == p)

-- a run in two parts
pub front_part : (ws front xs ys : List ℕ) (t : ℕ) → take (t + length (xs ++ ys)) ws ≡ front ++ (xs ++ ys) → length front ≡ t
    → take (t + length xs) ws ≡ front ++ xs
front_part ws front xs ys t e long =
    let le : t + length xs ≤ t + length (xs ++ ys) = omega (arith, length-append xs ys) in
    let within : t + length xs ≤ length (front ++ xs) = omega (arith, length-append front xs, long) in
    let whole : length (front ++ xs) ≡ t + length xs = omega (arith, length-append front xs, long) in
    sym (take-take (t + length xs) (t + length (xs ++ ys)) ws le)
    ∙ ap (take (t + length xs)) (e ∙ sym (append_assoc front xs ys))
    ∙ take-append-le (t + length xs) (front ++ xs) ys within
    ∙ ap (λ n. take n (front ++ xs)) (sym whole)
    ∙ take-length (front ++ xs)

pub back_part : (ws front xs ys : List ℕ) (t : ℕ) → take (t + length (xs ++ ys)) ws ≡ front ++ (xs ++ ys) → length front ≡ t
    → take (t + length xs + length ys) ws ≡ take (t + length xs) ws ++ ys
back_part ws front xs ys t e long =
    let whole : t + length xs + length ys ≡ t + length (xs ++ ys) = omega (arith, length-append xs ys) in
    ap (λ n. take n ws) whole ∙ e ∙ sym (append_assoc front xs ys) ∙ ap (λ l. l ++ ys) (sym (front_part ws front xs ys t e long))

-- a word before them changes nothing of them
pub behind_set : (ws xs : List ℕ) (m a v : ℕ) → take (m + length xs) ws ≡ take m ws ++ xs → a < m → m ≤ length ws
    → take (m + length xs) (set ws a v) ≡ take m (set ws a v) ++ xs
behind_set ws xs m a v e h le =
    take-set_comm (m + length xs) ws a v
    ∙ ap (λ l. set l a v) e
    ∙ set-append_left (take m ws) xs a v (omega (arith, length-take-le m ws le))
    ∙ ap (λ l. l ++ xs) (sym (take-set_comm m ws a v))

-- the words of an object say it
array_cells : (bytes : List ℕ) → ((i : ℕ) → get_or bytes i 0 < 256) → cells_of_words true (length bytes) (packed_words bytes) ≡ bytes
array_cells bytes small =
    bytes_of_all (length bytes) (packed_words bytes) (omega (arith, length-packed_words bytes)) ∙ bytes_of_packed_words bytes small

object_of-array : (owner : ℕ) (a : Kind × List ℕ) → ((i : ℕ) → get_or a.1 i 0 < 256) → object_of (array_words owner a) ≡ array_object owner a
object_of-array owner (Instance, bytes) small = refl
object_of-array owner (BooleanArray, bytes) small = ap (λ l. record (array_object owner (BooleanArray, bytes)) { cells = l }) (array_cells bytes small)
object_of-array owner (ByteArray, bytes) small = ap (λ l. record (array_object owner (ByteArray, bytes)) { cells = l }) (array_cells bytes small)
object_of-array owner (ShortArray, bytes) small = refl
object_of-array owner (ReferenceArray, bytes) small = refl

own-array : (owner : ℕ) (a : Kind × List ℕ) → 3 + payload (get_or (array_words owner a) 0 0) (get_or (array_words owner a) 3 0) + 1
    ≡ length (array_words owner a)
own-array owner (Instance, bytes) = omega arith
own-array owner (BooleanArray, bytes) = omega (arith, length-packed_words bytes)
own-array owner (ByteArray, bytes) = omega (arith, length-packed_words bytes)
own-array owner (ShortArray, bytes) = omega arith
own-array owner (ReferenceArray, bytes) = omega arith

-- the top moves over objects that stand there
pub arrays-grown : (ws : List ℕ) (t owner : ℕ) (xs : List (Kind × List ℕ)) → AreArraysOfBytes xs → get_or ws top_address 0 ≡ t → IsWellFormed ws
    → take (t + length (arrays_words owner xs)) ws ≡ take t ws ++ arrays_words owner xs → t + length (arrays_words owner xs) ≤ length ws →
    (heap_of (set ws top_address (t + length (arrays_words owner xs))) ≡ add_arrays (heap_of ws) owner xs)
    × IsWellFormed (set ws top_address (t + length (arrays_words owner xs)))
arrays-grown ws t owner [] bytes is laid e fits =
    let same : set ws top_address (t + 0) ≡ ws = ap (set ws top_address) (add-zero t ∙ sym is) ∙ set-get_or ws top_address 0 in
    (ap heap_of same, subst IsWellFormed (sym same) laid)
arrays-grown ws t owner (x ∷ xs) bytes is laid e fits =
    let rec : List ℕ = array_words owner x in
    let rest : List ℕ = arrays_words owner xs in
    let all : length (rec ++ rest) ≡ length rec + length rest = length-append rec rest in
    let far : top_address < t = omega (arith, laid.based, is) in
    let front : length (take t ws) ≡ t = length-take-le t ws (omega arith) in
    let first : take (t + length rec) ws ≡ take t ws ++ rec = front_part ws (take t ws) rec rest t e front in
    let second : take (t + length rec + length rest) ws ≡ take (t + length rec) ws ++ rest = back_part ws (take t ws) rec rest t e front in
    let first_at : take (get_or ws top_address 0 + length rec) ws ≡ take (get_or ws top_address 0) ws ++ rec =
    subst (λ n. take (n + length rec) ws ≡ take n ws ++ rec) (sym is) first in
    let fits_at : get_or ws top_address 0 + length rec ≤ length ws = omega (arith, is, fits, all) in
    let moved : List ℕ = set ws top_address (t + length rec) in
    let at : set ws top_address (get_or ws top_address 0 + length rec) ≡ moved = ap (λ n. set ws top_address (n + length rec)) is in
    let one : heap_of moved ≡ add_object (heap_of ws) (array_object owner x) (array_size x) =
    ap heap_of (sym at) ∙ heap_of-grown ws ws rec laid first_at fits_at (own-array owner x)
    ∙ ap (λ o. add_object (heap_of ws) o (length rec)) (object_of-array owner x bytes.0) ∙ ap (add_object (heap_of ws) (array_object owner x)) (omega arith) in
    let laid_one : IsWellFormed moved = subst IsWellFormed at (IsLaid-grown ws ws rec laid first_at fits_at (own-array owner x)) in
    let top_one : get_or moved top_address 0 ≡ t + length rec = get_or-set_same ws top_address (t + length rec) 0 (omega arith) in
    let rest_one : take (t + length rec + length rest) moved ≡ take (t + length rec) moved ++ rest =
    behind_set ws rest (t + length rec) top_address (t + length rec) second (omega arith) (omega (arith, all)) in
    let ih : (heap_of (set moved top_address (t + length rec + length rest)) ≡ add_arrays (heap_of moved) owner xs)
    × IsWellFormed (set moved top_address (t + length rec + length rest)) =
    arrays-grown moved (t + length rec) owner xs bytes.1 top_one laid_one rest_one (omega (arith, all, length-set ws top_address (t + length rec))) in
    let last : set moved top_address (t + length rec + length rest) ≡ set ws top_address (t + length (rec ++ rest)) =
    set-set ws top_address (t + length rec) (t + length rec + length rest) ∙ ap (set ws top_address) (omega (arith, all)) in
    (ap heap_of (sym last) ∙ ih.0 ∙ ap (λ h. add_arrays h owner xs) one, subst IsWellFormed last ih.1)

-- three words of the fixed area, in a run in front of other words
take-three : (n : ℕ) (ws : List ℕ) (a b c x y z : ℕ) → take n (set (set (set ws a x) b y) c z) ≡ set (set (set (take n ws) a x) b y) c z
take-three n ws a b c x y z =
    take-set_comm n (set (set ws a x) b y) c z
    ∙ ap (λ l. set l c z) (take-set_comm n (set ws a x) b y)
    ∙ ap (λ l. set (set l b y) c z) (take-set_comm n ws a x)

three-append : (front xs : List ℕ) (a b c x y z : ℕ) → a < length front → b < length front → c < length front
    → set (set (set (front ++ xs) a x) b y) c z ≡ set (set (set front a x) b y) c z ++ xs
three-append front xs a b c x y z ha hb hc =
    ap (λ l. set (set l b y) c z) (set-append_left front xs a x ha)
    ∙ ap (λ l. set l c z) (set-append_left (set front a x) xs b y (omega (arith, length-set front a x)))
    ∙ set-append_left (set (set front a x) b y) xs c z (omega (arith, length-set front a x, length-set (set front a x) b y))

-- a record is named as a package's, and the top moves over it
module _ (old ws rec : List ℕ) (laid : IsWellFormed old) (few : get_or old packages_address 0 < most_packages)
    (e : take (get_or old top_address 0 + length rec) ws ≡ take (get_or old top_address 0) old ++ rec)
    (fits : get_or old top_address 0 + length rec ≤ length ws) (own : get_or rec 0 0 ≡ length rec) (some : 0 < length rec) where
  -- the words after the change
  abbrev pub pushed : List ℕ
  pushed = set (set (set ws (addresses_start + get_or old packages_address 0) (get_or old top_address 0)) packages_address (get_or old packages_address 0 + 1))
      top_address (get_or old top_address 0 + length rec)

  long : length (image old) ≡ get_or old top_address 0
  long = length-take-le (get_or old top_address 0) old laid.fits

  wide : text_start ≤ length (image old)
  wide = omega (arith, long, laid.based)

  based : base (image old) ≤ length (image old)
  based = omega (arith, long, laid.based)

  count : get_or (image old) packages_address 0 ≡ get_or old packages_address 0
  count = get_or-take (get_or old top_address 0) old packages_address 0 (omega (arith, laid.based))

  few_there : get_or (image old) packages_address 0 < most_packages
  few_there = omega (arith, count, few)

  -- the image with the name, before the top moves
  abbrev nm : List ℕ
  nm = set (set (image old) (addresses_start + get_or (image old) packages_address 0) (length (image old))) packages_address
      (get_or (image old) packages_address 0 + 1)

  long_named : length nm ≡ length (image old)
  long_named = length-named (image old) wide few_there based

  names_named : package_addresses nm ≡ package_addresses (image old) ++ length (image old) ∷ []
  names_named = packages-named (image old) wide few_there based

  top_pushed : get_or pushed top_address 0 ≡ get_or old top_address 0 + length rec
  top_pushed = get_or-set_same (set (set ws (addresses_start + get_or old packages_address 0) (get_or old top_address 0)) packages_address
      (get_or old packages_address 0 + 1)) top_address (get_or old top_address 0 + length rec) 0
      (omega (
        arith,
        length-set ws (addresses_start + get_or old packages_address 0) (get_or old top_address 0),
        length-set (set ws (addresses_start + get_or old packages_address 0) (get_or old top_address 0)) packages_address (get_or old packages_address 0 + 1),
        laid.based,
      ))

  is_pushed : image pushed ≡ set nm top_address (length nm + length rec) ++ rec
  is_pushed =
      ap (λ n. take n pushed) top_pushed
      ∙ take-three (get_or old top_address 0 + length rec) ws (addresses_start + get_or old packages_address 0) packages_address top_address
      (get_or old top_address 0) (get_or old packages_address 0 + 1) (get_or old top_address 0 + length rec)
      ∙ ap (λ l. set (set (set l (addresses_start + get_or old packages_address 0) (get_or old top_address 0)) packages_address
      (get_or old packages_address 0 + 1)) top_address (get_or old top_address 0 + length rec)) e
      ∙ three-append (image old) rec (addresses_start + get_or old packages_address 0) packages_address top_address (get_or old top_address 0)
      (get_or old packages_address 0 + 1) (get_or old top_address 0 + length rec) (omega (arith, wide, few)) (omega (arith, wide)) (omega (arith, wide))
      ∙ ap (λ k. set (set (set (image old) (addresses_start + k) (get_or old top_address 0)) packages_address (k + 1)) top_address
      (get_or old top_address 0 + length rec) ++ rec) (sym count)
      ∙ ap (λ t. set (set (set (image old) (addresses_start + get_or (image old) packages_address 0) t) packages_address
      (get_or (image old) packages_address 0 + 1)) top_address (t + length rec) ++ rec) (sym long)
      ∙ ap (λ t. set nm top_address (t + length rec) ++ rec) (sym long_named)

  wide_named : text_start ≤ length nm
  wide_named = omega (arith, long_named, wide)

  base_named : base nm ≡ base (image old)
  base_named = base-named (image old) wide few_there based

  based_named : base nm ≤ length nm
  based_named = omega (arith, base_named, long_named, based)

  whole_named : missing_words_of_image nm ≡ 0
  whole_named = missing-named (image old) wide few_there based ∙ laid.whole

  is_named : is_package (package_addresses nm) (length nm) ≡ true
  is_named = ap (is_package (package_addresses nm)) long_named ∙ ap (λ ps. is_package ps (length (image old))) names_named
      ∙ is_package-last (package_addresses (image old)) (length (image old))

  own_named : sizes (package_addresses nm) (length nm) rec + 1 ≡ length rec
  own_named = ap (λ b. (if b then get_or rec 0 0 - 1 else 3 + payload (get_or rec 0 0) (get_or rec 3 0)) + 1) is_named ∙ (omega (arith, own, some))

  item_named : item (package_addresses nm) (length nm) rec ≡ APackage rec
  item_named = ap (λ b. if b then APackage rec else AnObject (object_of rec)) is_named

  pub heap_of-pushed : heap_of pushed ≡ push_package (heap_of old) rec
  unfolding read_image push_package
  heap_of-pushed =
      ap read_image is_pushed
      ∙ read-grown nm rec wide_named based_named whole_named own_named
      ∙ ap (λ t. add_item (read_image nm) t (length rec)) item_named
      ∙ ap (λ h. add_item h (APackage rec) (length rec)) (read-named (image old) wide few_there based)

  pub laid-pushed : IsWellFormed pushed
  laid-pushed = record {
    based =
        let b : base (image pushed) ≡ base (image old) = ap base is_pushed ∙ base-grown nm rec wide_named ∙ base_named in omega (arith, top_pushed, laid.based);
    fits = omega (
      arith,
      top_pushed,
      fits,
      length-set ws (addresses_start + get_or old packages_address 0) (get_or old top_address 0),
      length-set (set ws (addresses_start + get_or old packages_address 0) (get_or old top_address 0)) packages_address (get_or old packages_address 0 + 1),
      length-set (set (set ws (addresses_start + get_or old packages_address 0) (get_or old top_address 0)) packages_address
          (get_or old packages_address 0 + 1)) top_address (get_or old top_address 0 + length rec),
    );
    whole = ap missing_words_of_image is_pushed ∙ missing-grown nm rec wide_named based_named whole_named own_named;
    packages = λ a le.
        ap (λ l. is_package (package_addresses l) a) is_pushed
        ∙ ap (λ ps. is_package ps a) (packages-grown nm rec wide_named ∙ names_named)
        ∙ is_package-push (package_addresses (image old)) (length (image old)) a (λ f. omega (arith, f, long, le, top_pushed, some))
        ∙ laid.packages a (omega (arith, le, top_pushed));
  }

-- the same with arrays after the record, which get their owner
module _ (old ws rec : List ℕ) (owner : ℕ) (xs : List (Kind × List ℕ)) (bytes : AreArraysOfBytes xs) (laid : IsWellFormed old) (few : get_or old packages_address 0 < most_packages)
    (e : take (get_or old top_address 0 + length (rec ++ arrays_words owner xs)) ws ≡ take (get_or old top_address 0) old ++ (rec ++ arrays_words owner xs))
    (fits : get_or old top_address 0 + length (rec ++ arrays_words owner xs) ≤ length ws)
    (own : get_or rec 0 0 ≡ length rec) (some : 0 < length rec) where
  -- the words after the change
  abbrev pub packaged : List ℕ
  packaged = set (set (set ws (addresses_start + get_or old packages_address 0) (get_or old top_address 0)) packages_address
      (get_or old packages_address 0 + 1)) top_address (get_or old top_address 0 + length (rec ++ arrays_words owner xs))

  all : length (rec ++ arrays_words owner xs) ≡ length rec + length (arrays_words owner xs)
  all = length-append rec (arrays_words owner xs)

  front : length (take (get_or old top_address 0) old) ≡ get_or old top_address 0
  front = length-take-le (get_or old top_address 0) old laid.fits

  first : take (get_or old top_address 0 + length rec) ws ≡ take (get_or old top_address 0) old ++ rec
  first = front_part ws (take (get_or old top_address 0) old) rec (arrays_words owner xs) (get_or old top_address 0) e front

  second : take (get_or old top_address 0 + length rec + length (arrays_words owner xs)) ws ≡ take (get_or old top_address 0 + length rec) ws
      ++ arrays_words owner xs
  second = back_part ws (take (get_or old top_address 0) old) rec (arrays_words owner xs) (get_or old top_address 0) e front

  fits_first : get_or old top_address 0 + length rec ≤ length ws
  fits_first = omega (arith, all, fits)

  far : text_start ≤ get_or old top_address 0
  far = omega (arith, laid.based)

  -- the words with the record alone
  abbrev one : List ℕ
  one = set (set (set ws (addresses_start + get_or old packages_address 0) (get_or old top_address 0)) packages_address (get_or old packages_address 0 + 1))
      top_address (get_or old top_address 0 + length rec)

  size_one : length (set (set ws (addresses_start + get_or old packages_address 0) (get_or old top_address 0)) packages_address
      (get_or old packages_address 0 + 1)) ≡ length ws
  size_one = length-set (set ws (addresses_start + get_or old packages_address 0) (get_or old top_address 0)) packages_address
      (get_or old packages_address 0 + 1) ∙ length-set ws (addresses_start + get_or old packages_address 0) (get_or old top_address 0)

  heap_one : heap_of one ≡ push_package (heap_of old) rec
  heap_one = heap_of-pushed old ws rec laid few first fits_first own some

  laid_one : IsWellFormed one
  laid_one = laid-pushed old ws rec laid few first fits_first own some

  top_one : get_or one top_address 0 ≡ get_or old top_address 0 + length rec
  top_one = get_or-set_same (set (set ws (addresses_start + get_or old packages_address 0) (get_or old top_address 0)) packages_address
      (get_or old packages_address 0 + 1)) top_address (get_or old top_address 0 + length rec) 0 (omega (arith, size_one, far, fits_first))

  behind_one : take (get_or old top_address 0 + length rec + length (arrays_words owner xs)) one ≡ take (get_or old top_address 0 + length rec) one
      ++ arrays_words owner xs
  behind_one =
      let m : ℕ = get_or old top_address 0 + length rec in
      let w1 : List ℕ = set ws (addresses_start + get_or old packages_address 0) (get_or old top_address 0) in
      let w2 : List ℕ = set w1 packages_address (get_or old packages_address 0 + 1) in
      let b1 : take (m + length (arrays_words owner xs)) w1 ≡ take m w1 ++ arrays_words owner xs =
      behind_set ws (arrays_words owner xs) m (addresses_start + get_or old packages_address 0) (get_or old top_address 0) second
      (omega (arith, few, far)) fits_first in
      let b2 : take (m + length (arrays_words owner xs)) w2 ≡ take m w2 ++ arrays_words owner xs =
      behind_set w1 (arrays_words owner xs) m packages_address (get_or old packages_address 0 + 1) b1 (omega (arith, far))
      (omega (arith, fits_first, length-set ws (addresses_start + get_or old packages_address 0) (get_or old top_address 0))) in
      behind_set w2 (arrays_words owner xs) m top_address (get_or old top_address 0 + length rec) b2 (omega (arith, far)) (omega (arith, fits_first, size_one))

  both : (heap_of (set one top_address (get_or old top_address 0 + length rec + length (arrays_words owner xs))) ≡ add_arrays (heap_of one) owner xs)
      × IsWellFormed (set one top_address (get_or old top_address 0 + length rec + length (arrays_words owner xs)))
  both = arrays-grown one (get_or old top_address 0 + length rec) owner xs bytes top_one laid_one behind_one
      (omega (
        arith,
        all,
        fits,
        size_one,
        length-set (set (set ws (addresses_start + get_or old packages_address 0) (get_or old top_address 0)) packages_address
            (get_or old packages_address 0 + 1)) top_address (get_or old top_address 0 + length rec),
      ))

  same : set one top_address (get_or old top_address 0 + length rec + length (arrays_words owner xs)) ≡ packaged
  same = set-set (set (set ws (addresses_start + get_or old packages_address 0) (get_or old top_address 0)) packages_address
      (get_or old packages_address 0 + 1)) top_address (get_or old top_address 0 + length rec)
      (get_or old top_address 0 + length rec + length (arrays_words owner xs))
      ∙ ap (set (set (set ws (addresses_start + get_or old packages_address 0) (get_or old top_address 0)) packages_address (get_or old packages_address 0 + 1))
      top_address) (omega (arith, all))

  pub heap_of-packaged : heap_of packaged ≡ add_arrays (push_package (heap_of old) rec) owner xs
  heap_of-packaged = ap heap_of (sym same) ∙ both.0 ∙ ap (λ h. add_arrays h owner xs) heap_one

  pub laid-packaged : IsWellFormed packaged
  laid-packaged = subst IsWellFormed same both.1

  pub top-packaged : get_or packaged top_address 0 ≡ get_or old top_address 0 + length (rec ++ arrays_words owner xs)
  top-packaged = get_or-set_same (set (set ws (addresses_start + get_or old packages_address 0) (get_or old top_address 0)) packages_address
      (get_or old packages_address 0 + 1)) top_address (get_or old top_address 0 + length (rec ++ arrays_words owner xs)) 0 (omega (arith, size_one, far, fits))
