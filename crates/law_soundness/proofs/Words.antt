-- The words of an image's records.
use Rattle.std.proofs.Common.{ℕ, zero, suc, ◌<◌, ◌==◌, Bool, true, false, List, [], ◌∷◌, map, take, drop, get_or, arith, if◌then◌else◌}
use Rattle.jc_heap.specs.Component.{words_of}
use Rattle.jc_heap.specs.Walk.{Sizes, records_from, entry_or}
use Rattle.jc_heap.specs.Heap.{heap_item_at, read_image}
use Rattle.jc_heap.specs.Image.{base, image, is_package, item, item_entry, package_addresses, records, sizes}
use Rattle.jc_heap.specs.Object.{Item, AnObject, APackage, object_of}
use Rattle.law_code.proofs.Lists.{AllOf}
use Rattle.law_soundness.specs.GrowthLaws.{AreWords, ImagesHaveWords}

no_words : AreWords []
no_words i = omega arith

one_more : (w : ℕ) (ws : List ℕ) → w < 65536 → AreWords ws → AreWords (w ∷ ws)
one_more w ws first rest zero = first
one_more w ws first rest (suc i) = rest i

behind : (w : ℕ) (ws : List ℕ) → AreWords (w ∷ ws) → AreWords ws
behind w ws small i = small (suc i)

take_words : (n : ℕ) (ws : List ℕ) → AreWords ws → AreWords (take n ws)
take_words zero ws small = no_words
take_words (suc n) [] small = no_words
take_words (suc n) (w ∷ ws) small = one_more w (take n ws) (small 0) (take_words n ws (behind w ws small))

drop_words : (n : ℕ) (ws : List ℕ) → AreWords ws → AreWords (drop n ws)
drop_words zero ws small = small
drop_words (suc n) [] small = no_words
drop_words (suc n) (w ∷ ws) small = drop_words n ws (behind w ws small)

abbrev IsEntry : ℕ × List ℕ → Type 0
IsEntry e = AreWords e.1

cut_words : (more : Sizes) (skip at : ℕ) (ws : List ℕ) → AreWords ws → AllOf IsEntry (records_from more skip at ws)
cut_words more skip at [] small = tt
cut_words more (suc skip) at (w ∷ ws) small = cut_words more skip (suc at) ws (behind w ws small)
cut_words more zero at (w ∷ ws) small = (
  one_more w (take (more at (w ∷ ws)) ws) (small 0) (take_words (more at (w ∷ ws)) ws (behind w ws small)),
  cut_words more (more at (w ∷ ws)) (suc at) ws (behind w ws small),
)

abbrev IsItem : Item → Type 0
IsItem i = AreWords (words_of i)

chosen : (b : Bool) (x y : Item) → IsItem x → IsItem y → IsItem (if b then x else y)
chosen true x y first second = first
chosen false x y first second = second

item_words : (ps : List ℕ) (es : List (ℕ × List ℕ)) (r : ℕ) → AllOf IsEntry es → IsItem (entry_or (APackage []) (map (item_entry ps) es) r)
item_words ps [] r each = no_words
item_words ps (e ∷ es) r each =
    chosen (e.0 == r) (item ps e.0 e.1) (entry_or (APackage []) (map (item_entry ps) es) r)
    (chosen (is_package ps e.0) (APackage e.1) (AnObject (object_of e.1)) each.0 no_words) (item_words ps es r each.1)

pub images_have_words : ImagesHaveWords
unfolding heap_item_at read_image
images_have_words words small k lt =
    let all = image words in
    item_words (package_addresses all) (records all) (get_or (package_addresses all) k 0)
    (cut_words (sizes (package_addresses all)) 0 (base all) (drop (base all) all) (drop_words (base all) all (take_words _ words small)))
