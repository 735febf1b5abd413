-- Lists of words that a package is made from.
use Rattle.std.proofs.Common.{◌≡◌, ℕ, true, false, if◌then◌else◌, zero, suc, ◌+◌, ◌*◌, ◌/◌, ◌%◌, ◌<◌, ◌≤◌, List, [], ◌∷◌, ◌++◌, length, take, drop, map, get_or}
use Rattle.std.proofs.Common.{refl, sym, ◌∙◌, ap, subst, arith, add-zero, append_assoc}
use Rattle.std.proofs.lemmas.List.{take_more, map-append, length-append, append-nil, length-take-le, take-append-drop}
use Rattle.jc_heap.specs.declared.object.Kind.{Kind}
use Rattle.jc_heap.specs.declared.object.Kind.TheVariants.{Instance}
use Rattle.jc_heap.specs.declared.package.RecordComponent.{RecordComponent}
use Rattle.jc_heap.specs.declared.package.StaticArray.{StaticArray}
use Rattle.jc_heap.specs.Object.{has_bytes}
use Rattle.jc_heap.specs.Package.{part, parts, array_init, array_inits, component_words, components_words, elements, array_words, arrays_words, array_size}
use Rattle.jc_heap.specs.Package.{AreComponents, AreArrays, AreArraysOfBytes, arrays_size, array_addresses}
use Rattle.jc_heap.specs.Packed.{packed_words}

pub length-packed_words : (bs : List ℕ) → length (packed_words bs) ≡ length bs / 2 + length bs % 2
length-packed_words [] = refl
length-packed_words (b ∷ []) = refl
length-packed_words (b ∷ c ∷ bs) = omega (arith, length-packed_words bs)

pub packed_words-at : (bs : List ℕ) (k : ℕ) → k < length (packed_words bs) → get_or (packed_words bs) k 0 ≡ get_or bs (2 * k) 0 * 256 + get_or bs (2 * k + 1) 0
packed_words-at [] k h = absurd (omega arith)
packed_words-at (b ∷ []) zero h = omega arith
packed_words-at (b ∷ []) (suc k) h = absurd (omega arith)
packed_words-at (b ∷ c ∷ bs) zero h = omega arith
packed_words-at (b ∷ c ∷ bs) (suc k) h =
    let even : 2 * suc k ≡ suc (suc (2 * k)) = omega arith in
    let odd : 2 * suc k + 1 ≡ suc (suc (2 * k + 1)) = omega arith in
    packed_words-at bs k (omega arith) ∙ (λ i. get_or (b ∷ c ∷ bs) (sym even i) 0 * 256 + get_or (b ∷ c ∷ bs) (sym odd i) 0)

pub packed_words-word : (text : List ℕ) (k : ℕ) → get_or (packed_words text) k 0 ≡ 256 * get_or text (2 * k) 0 + get_or text (2 * k + 1) 0
packed_words-word [] k = refl
packed_words-word (b ∷ []) zero = omega arith
packed_words-word (b ∷ []) (suc k) =
    let e : 2 * suc k ≡ suc (suc (2 * k)) = omega arith in
    let f : suc (suc (2 * k)) + 1 ≡ suc (suc (2 * k + 1)) = omega arith in
    rw (e, f) refl
packed_words-word (b ∷ c ∷ bytes) zero = refl
packed_words-word (b ∷ c ∷ bytes) (suc k) =
    let e : 2 * suc k ≡ suc (suc (2 * k)) = omega arith in
    let f : suc (suc (2 * k)) + 1 ≡ suc (suc (2 * k + 1)) = omega arith in
    rw (e, f) (packed_words-word bytes k)

pub components_words-append : (xs ys : List (ℕ × List ℕ)) → components_words (xs ++ ys) ≡ components_words xs ++ components_words ys
components_words-append [] ys = refl
components_words-append (x ∷ xs) ys = ap (λ l. component_words x ++ l) (components_words-append xs ys)
    ∙ sym (append_assoc (component_words x) (components_words xs) (components_words ys))

pub arrays_size-append : (xs ys : List (Kind × List ℕ)) → arrays_size (xs ++ ys) ≡ arrays_size xs + arrays_size ys
arrays_size-append [] ys = omega arith
arrays_size-append (x ∷ xs) ys = omega (arith, arrays_size-append xs ys)

pub addresses-append : (at : ℕ) (xs ys : List (Kind × List ℕ)) → array_addresses at (xs ++ ys) ≡ array_addresses at xs
    ++ array_addresses (at + arrays_size xs) ys
addresses-append at [] ys = ap (λ a. array_addresses a ys) (sym (add-zero at))
addresses-append at (x ∷ xs) ys =
    let here : at + array_size x + arrays_size xs ≡ at + (array_size x + arrays_size xs) = omega arith in
    ap (λ l. at ∷ l) (addresses-append (at + array_size x) xs ys ∙ ap (λ a. array_addresses (at + array_size x) xs ++ array_addresses a ys) here)

pub parts-push : (cs : List RecordComponent) (k : ℕ) (d : RecordComponent) → k < length cs
    → parts (take (k + 1) cs) ≡ parts (take k cs) ++ part (get_or cs k d) ∷ []
parts-push cs k d h = ap (map part) (take_more cs k d h) ∙ map-append part (take k cs) (get_or cs k d ∷ [])

pub array_inits-push : (xs : List StaticArray) (k : ℕ) (d : StaticArray) → k < length xs
    → array_inits (take (k + 1) xs) ≡ array_inits (take k xs) ++ array_init (get_or xs k d) ∷ []
array_inits-push xs k d h = ap (map array_init) (take_more xs k d h) ∙ map-append array_init (take k xs) (get_or xs k d ∷ [])

-- what a loop reads beyond its slice
abbrev pub no_component : RecordComponent
no_component = record { tag = 0; info = record { ref_ptr = (0, 0); now = [] } }

abbrev pub no_array : StaticArray
no_array = record { kind = Instance; values = record { ref_ptr = (0, 0); now = [] } }

pub part-at : (cs : List RecordComponent) (k : ℕ) → get_or (parts cs) k (0, []) ≡ part (get_or cs k no_component)
part-at [] k = refl
part-at (c ∷ cs) zero = refl
part-at (c ∷ cs) (suc k) = part-at cs k

pub array_init-at : (xs : List StaticArray) (k : ℕ) → get_or (array_inits xs) k (Instance, []) ≡ array_init (get_or xs k no_array)
array_init-at [] k = refl
array_init-at (x ∷ xs) zero = refl
array_init-at (x ∷ xs) (suc k) = array_init-at xs k

pub length-parts : (cs : List RecordComponent) → length (parts cs) ≡ length cs
length-parts [] = refl
length-parts (c ∷ cs) = ap suc (length-parts cs)

pub length-array_inits : (xs : List StaticArray) → length (array_inits xs) ≡ length xs
length-array_inits [] = refl
length-array_inits (x ∷ xs) = ap suc (length-array_inits xs)

-- tags that ascend are few
tag_low : (cs : List (ℕ × List ℕ)) → AreComponents cs → (k : ℕ) → k < length cs → k < (get_or cs k (0, [])).0
tag_low cs a zero h = (a.tags 0 h).0
tag_low cs a (suc k) h =
    let before : k < (get_or cs k (0, [])).0 = tag_low cs a k (omega arith) in
    let more : (get_or cs k (0, [])).0 < (get_or cs (suc k) (0, [])).0 = a.ascending k (suc k) (omega arith) h in
    omega arith

few_tags : (cs : List (ℕ × List ℕ)) (n : ℕ) → AreComponents cs → length cs ≡ n → n ≤ 10
few_tags cs zero a e = omega arith
few_tags cs (suc n) a e =
    let last : n < (get_or cs n (0, [])).0 = tag_low cs a n (omega arith) in
    let low : (get_or cs n (0, [])).0 ≤ 10 = (a.tags n (omega arith)).1 in
    omega arith

pub few_components : (cs : List RecordComponent) → AreComponents (parts cs) → length cs ≤ 10
few_components cs a = few_tags (parts cs) (length cs) a (length-parts cs)

pub info_small : (cs : List RecordComponent) (k : ℕ) → AreComponents (parts cs) → k < length cs → length ((get_or cs k no_component).info.now) < 65536
info_small cs k a h = omega (arith, a.sizes k (omega (arith, length-parts cs)), ap (λ p. length (p.1)) (part-at cs k))

pub info_words : (cs : List RecordComponent) (k : ℕ) → AreComponents (parts cs) → k < length cs
    → length (packed_words ((get_or cs k no_component).info.now)) < 32769
info_words cs k a h = omega (arith, length-packed_words ((get_or cs k no_component).info.now), info_small cs k a h)

-- an array has no more cells than bytes
pub length-elements : (a : Kind × List ℕ) → length (elements a) ≤ length a.1
length-elements a = elim (has_bytes a.0) as (λ b. length (if b then a.1 else packed_words a.1) ≤ length a.1)
    [ true ↦ omega arith | false ↦ omega (arith, length-packed_words a.1) ]

pub values_small : (xs : List StaticArray) (k : ℕ) → AreArrays (array_inits xs) → k < length xs → length ((get_or xs k no_array).values.now) < 65536
values_small xs k a h = omega (arith, a.sizes k (omega (arith, length-array_inits xs)), ap (λ p. length (p.1)) (array_init-at xs k))

pub values_words : (xs : List StaticArray) (k : ℕ) → AreArrays (array_inits xs) → k < length xs
    → length (packed_words ((get_or xs k no_array).values.now)) < 32769
values_words xs k a h = omega (arith, length-packed_words ((get_or xs k no_array).values.now), values_small xs k a h)

-- one more is counted
pub components-counted : (cs : List RecordComponent) (k : ℕ) → k < length cs →
    length (components_words (parts (take (k + 1) cs))) ≡ length (components_words (parts (take k cs)))
    + (2 + length (packed_words ((get_or cs k no_component).info.now)))
components-counted cs k h =
    ap (λ l. length (components_words l)) (parts-push cs k no_component h)
    ∙ ap length (components_words-append (parts (take k cs)) (part (get_or cs k no_component) ∷ []))
    ∙ length-append (components_words (parts (take k cs))) (component_words (part (get_or cs k no_component)) ++ [])
    ∙ ap (λ l. length (components_words (parts (take k cs))) + length l) (append-nil (component_words (part (get_or cs k no_component))))
    ∙ (omega arith)

pub arrays-counted : (xs : List StaticArray) (k : ℕ) → k < length xs →
    arrays_size (array_inits (take (k + 1) xs)) ≡ arrays_size (array_inits (take k xs)) + (4 + length (packed_words ((get_or xs k no_array).values.now)))
arrays-counted xs k h =
    ap arrays_size (array_inits-push xs k no_array h) ∙ arrays_size-append (array_inits (take k xs)) (array_init (get_or xs k no_array) ∷ []) ∙ (omega arith)

-- one more is written
pub components-step : (cs : List RecordComponent) (k : ℕ) → k < length cs →
    components_words (parts (take (k + 1) cs)) ≡ components_words (parts (take k cs)) ++ component_words (part (get_or cs k no_component))
components-step cs k h =
    ap components_words (parts-push cs k no_component h)
    ∙ components_words-append (parts (take k cs)) (part (get_or cs k no_component) ∷ [])
    ∙ ap (λ l. components_words (parts (take k cs)) ++ l) (append-nil (component_words (part (get_or cs k no_component))))

pub arrays_words-append : (owner : ℕ) (xs ys : List (Kind × List ℕ)) → arrays_words owner (xs ++ ys) ≡ arrays_words owner xs ++ arrays_words owner ys
arrays_words-append owner [] ys = refl
arrays_words-append owner (x ∷ xs) ys = ap (λ l. array_words owner x ++ l) (arrays_words-append owner xs ys)
    ∙ sym (append_assoc (array_words owner x) (arrays_words owner xs) (arrays_words owner ys))

pub arrays-step : (owner : ℕ) (xs : List StaticArray) (k : ℕ) → k < length xs →
    arrays_words owner (array_inits (take (k + 1) xs)) ≡ arrays_words owner (array_inits (take k xs)) ++ array_words owner (array_init (get_or xs k no_array))
arrays-step owner xs k h =
    ap (arrays_words owner) (array_inits-push xs k no_array h)
    ∙ arrays_words-append owner (array_inits (take k xs)) (array_init (get_or xs k no_array) ∷ [])
    ∙ ap (λ l. arrays_words owner (array_inits (take k xs)) ++ l) (append-nil (array_words owner (array_init (get_or xs k no_array))))

pub addresses-step : (first address : ℕ) (xs : List StaticArray) (k : ℕ) → k < length xs → address ≡ first + arrays_size (array_inits (take k xs)) →
    array_addresses first (array_inits (take (k + 1) xs)) ≡ array_addresses first (array_inits (take k xs)) ++ address ∷ []
addresses-step first address xs k h e =
    ap (array_addresses first) (array_inits-push xs k no_array h)
    ∙ addresses-append first (array_inits (take k xs)) (array_init (get_or xs k no_array) ∷ [])
    ∙ ap (λ a. array_addresses first (array_inits (take k xs)) ++ a ∷ []) (sym e)

-- one more is of bytes
are_bytes-push : (xs : List (Kind × List ℕ)) (a : Kind × List ℕ) → AreArraysOfBytes xs → ((i : ℕ) → get_or a.1 i 0 < 256) → AreArraysOfBytes (xs ++ a ∷ [])
are_bytes-push [] a all here = (here, tt)
are_bytes-push (x ∷ xs) a all here = (all.0, are_bytes-push xs a all.1 here)

pub are_bytes-step : (xs : List StaticArray) (k : ℕ) → k < length xs → AreArraysOfBytes (array_inits (take k xs))
    → ((i : ℕ) → get_or ((get_or xs k no_array).values.now) i 0 < 256) → AreArraysOfBytes (array_inits (take (k + 1) xs))
are_bytes-step xs k h all here = subst AreArraysOfBytes (sym (array_inits-push xs k no_array h))
    (are_bytes-push (array_inits (take k xs)) (array_init (get_or xs k no_array)) all here)

-- what is written so far is a part of all
components-all : (cs : List RecordComponent) (k : ℕ) → components_words (parts cs) ≡ components_words (parts (take k cs))
    ++ components_words (parts (drop k cs))
components-all cs k =
    ap (λ l. components_words (parts l)) (sym (take-append-drop k cs))
    ∙ ap components_words (map-append part (take k cs) (drop k cs))
    ∙ components_words-append (parts (take k cs)) (parts (drop k cs))

pub components-within : (cs : List RecordComponent) (k : ℕ) → k < length cs →
    length (components_words (parts (take k cs))) + length (component_words (part (get_or cs k no_component))) ≤ length (components_words (parts cs))
components-within cs k h =
    omega (
      arith,
      components-counted cs k h,
      ap length (components-all cs (k + 1)),
      length-append (components_words (parts (take (k + 1) cs))) (components_words (parts (drop (k + 1) cs))),
    )

arrays_words-all : (owner : ℕ) (xs : List StaticArray) (k : ℕ) → arrays_words owner (array_inits xs) ≡ arrays_words owner (array_inits (take k xs))
    ++ arrays_words owner (array_inits (drop k xs))
arrays_words-all owner xs k =
    ap (λ l. arrays_words owner (array_inits l)) (sym (take-append-drop k xs))
    ∙ ap (arrays_words owner) (map-append array_init (take k xs) (drop k xs))
    ∙ arrays_words-append owner (array_inits (take k xs)) (array_inits (drop k xs))

pub arrays-within : (owner : ℕ) (xs : List StaticArray) (k : ℕ) → k < length xs →
    length (arrays_words owner (array_inits (take k xs))) + length (array_words owner (array_init (get_or xs k no_array)))
    ≤ length (arrays_words owner (array_inits xs))
arrays-within owner xs k h =
    omega (
      arith,
      ap length (arrays-step owner xs k h),
      length-append (arrays_words owner (array_inits (take k xs))) (array_words owner (array_init (get_or xs k no_array))),
      ap length (arrays_words-all owner xs (k + 1)),
      length-append (arrays_words owner (array_inits (take (k + 1) xs))) (arrays_words owner (array_inits (drop (k + 1) xs))),
    )

pub arrays-below : (xs : List StaticArray) (k : ℕ) → arrays_size (array_inits (take k xs)) ≤ arrays_size (array_inits xs)
arrays-below xs k =
    let all : arrays_size (array_inits xs) ≡ arrays_size (array_inits (take k xs)) + arrays_size (array_inits (drop k xs)) =
    ap (λ l. arrays_size (array_inits l)) (sym (take-append-drop k xs)) ∙ ap arrays_size (map-append array_init (take k xs) (drop k xs))
    ∙ arrays_size-append (array_inits (take k xs)) (array_inits (drop k xs)) in
    omega arith

pub length-array_addresses : (at : ℕ) (xs : List (Kind × List ℕ)) → length (array_addresses at xs) ≡ length xs
length-array_addresses at [] = refl
length-array_addresses at (x ∷ xs) = ap suc (length-array_addresses (at + array_size x) xs)

pub length-addresses : (at : ℕ) (xs : List StaticArray) → length (array_addresses at (array_inits xs)) ≡ length xs
length-addresses at xs = length-array_addresses at (array_inits xs) ∙ length-array_inits xs

pub length-addresses_taken : (at : ℕ) (xs : List StaticArray) (k : ℕ) → k < length xs → length (array_addresses at (array_inits (take k xs))) ≡ k
length-addresses_taken at xs k h = length-addresses at (take k xs) ∙ length-take-le k xs (omega arith)

-- the words of objects are as many as their sizes
pub length-arrays_words : (owner : ℕ) (xs : List (Kind × List ℕ)) → length (arrays_words owner xs) ≡ arrays_size xs
length-arrays_words owner [] = refl
length-arrays_words owner (x ∷ xs) = length-append (array_words owner x) (arrays_words owner xs) ∙ (omega (arith, length-arrays_words owner xs))
