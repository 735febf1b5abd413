-- The magic word, written in place.
use Rattle.std.proofs.Common.{◌≡◌, sym, subst, ℕ, ◌+◌, ◌/◌, ◌<◌, ◌&&◌, Bool, true, false, List, length, take, drop, set, get_or, map, refl, ◌∙◌, ap}
use Rattle.std.proofs.Common.{arith, if◌then◌else◌, lit<}
use Rattle.std.proofs.lemmas.List.{get_or-set_other, get_or-set_same, drop-set-lt, length-set, length-take-le}
use Rattle.std.proofs.lemmas.Bool.{true≢false}
use Rattle.jc_words.specs.Refusals.{Refusals}
use Rattle.jc_words.specs.Layout.{size_address, top_address, packages_address, applets_address, reset_end_address, deselect_end_address, text_length_address}
use Rattle.jc_words.specs.Layout.{addresses_start, registry_start, registry_length, text_start, magic}
use Rattle.jc_commit.specs.State.{State, after_refusal, after_write_in_place, is_touched}
use Rattle.jc_heap.specs.Walk.{records_from, missing_words}
use Rattle.jc_heap.specs.Image.{image, base, package_addresses, is_package, sizes, item_entry, records, missing_words_of_image, table_text, IsWellFormed}
use Rattle.jc_heap.specs.Heap.{HeapView, heap_of, heap_view, read_image, IsSound}
use Rattle.jc_heap.specs.Heap.Store.{HoldsHeap}
use Rattle.jc_image.specs.Laying.{sealed_heap, sealed_view, heap_after_refused_seal}
use Rattle.jc_heap.proofs.Holding.{IsStoreOf, holds}
use Rattle.jc_heap.proofs.Images.{text-same}
use Rattle.jc_heap.proofs.Images.{lasting-same, capacity-same}
use Rattle.jc_words.specs.Layout.{version_address, journal_address}
use Rattle.std.specs.Prelude.{nat_lt}
use Rattle.jc_heap.proofs.Records.{take-set_comm}
use Rattle.jc_heap.proofs.Changing.{up_is}

-- an image with another word 0
module _ (img : List ℕ) (v : ℕ) where
  word : (k : ℕ) → 0 < k → get_or (set img 0 v) k 0 ≡ get_or img k 0
  word k h = get_or-set_other img 0 k v 0 (λ e. omega (arith, h, e))

  tail : (from : ℕ) → 0 < from → drop from (set img 0 v) ≡ drop from img
  tail from h = drop-set-lt from img 0 v h

  addresses-magic : package_addresses (set img 0 v) ≡ package_addresses img
  addresses-magic = rw (word packages_address (lit< tt), tail addresses_start (lit< tt)) refl

  base-magic : base (set img 0 v) ≡ base img
  base-magic = rw (word text_length_address (lit< tt)) refl

  records-magic : records (set img 0 v) ≡ records img
  records-magic =
      ap (λ ps. records_from (sizes ps) 0 (base (set img 0 v)) (drop (base (set img 0 v)) (set img 0 v))) addresses-magic
      ∙ ap (λ b. records_from (sizes (package_addresses img)) 0 b (drop b (set img 0 v))) base-magic
      ∙ ap (records_from (sizes (package_addresses img)) 0 (base img)) (tail (base img) (omega arith))

  missing-magic : missing_words_of_image (set img 0 v) ≡ missing_words_of_image img
  unfolding missing_words_of_image
  missing-magic =
      ap (λ ps. missing_words (sizes ps) 0 (base (set img 0 v)) (drop (base (set img 0 v)) (set img 0 v))) addresses-magic
      ∙ ap (λ b. missing_words (sizes (package_addresses img)) 0 b (drop b (set img 0 v))) base-magic
      ∙ ap (missing_words (sizes (package_addresses img)) 0 (base img)) (tail (base img) (omega arith))

  items-magic : map (item_entry (package_addresses (set img 0 v))) (records (set img 0 v)) ≡ map (item_entry (package_addresses img)) (records img)
  items-magic = ap (λ ps. map (item_entry ps) (records (set img 0 v))) addresses-magic ∙ ap (map (item_entry (package_addresses img))) records-magic

  text-magic : table_text (set img 0 v) ≡ table_text img
  text-magic = text-same img (set img 0 v) (word text_length_address (lit< tt)) (ap (take ((get_or img text_length_address 0 + 1) / 2))
      (tail text_start (lit< tt)))

read-magic : (img : List ℕ) (v : ℕ) → 0 < length img → read_image (set img 0 v) ≡ record (read_image img) { head = (v, (read_image img).head.1) }
unfolding read_image
read-magic img v h = λ k. record {
  head = (get_or-set_same img 0 v 0 h k, word img v size_address (lit< tt) k);
  text = text-magic img v k;
  items = items-magic img v k;
  counts = (word img v packages_address (lit< tt) k, word img v applets_address (lit< tt) k);
  packages = addresses-magic img v k;
  applets = ap (take registry_length) (tail img v registry_start (lit< tt)) k;
  area_ends = (word img v reset_end_address (lit< tt) k, word img v deselect_end_address (lit< tt) k);
  top = length-set img 0 v k;
  capacity = capacity-same img (set img 0 v) (ap (nat_lt journal_address) (length-set img 0 v)) (word img v version_address (lit< tt)) (λ a above below. word img v a (omega arith)) k;
  lasting = lasting-same img (set img 0 v) (word img v 4 (lit< tt)) (λ a above below. word img v a (omega arith)) k;
}

image-magic : (ws : List ℕ) (v : ℕ) → image (set ws 0 v) ≡ set (image ws) 0 v
image-magic ws v = ap (λ t. take t (set ws 0 v)) (word ws v top_address (lit< tt)) ∙ take-set_comm (get_or ws top_address 0) ws 0 v

heap_of-magic : (ws : List ℕ) (v : ℕ) → IsWellFormed ws → heap_of (set ws 0 v) ≡ record (heap_of ws) { head = (v, (heap_of ws).head.1) }
heap_of-magic ws v laid = ap read_image (image-magic ws v) ∙ read-magic (image ws) v
    (omega (arith, laid.based, length-take-le (get_or ws top_address 0) ws laid.fits))

IsWellFormed-magic : (ws : List ℕ) (v : ℕ) → IsWellFormed ws → IsWellFormed (set ws 0 v)
IsWellFormed-magic ws v laid =
    let top : get_or (set ws 0 v) top_address 0 ≡ get_or ws top_address 0 = word ws v top_address (lit< tt) in
    let same_base : base (image (set ws 0 v)) ≡ base (image ws) = ap base (image-magic ws v) ∙ base-magic (image ws) v in
    record {
      based = omega (arith, same_base, top, laid.based);
      fits = omega (arith, top, length-set ws 0 v, laid.fits);
      whole = ap missing_words_of_image (image-magic ws v) ∙ missing-magic (image ws) v ∙ laid.whole;
      packages = λ b le. ap (λ ps. is_package ps b) (ap package_addresses (image-magic ws v) ∙ addresses-magic (image ws) v)
          ∙ laid.packages b (omega (arith, top, le));
    }

-- what the words with the magic word stand for
pub record IsSealed (v : HeapView) (k : State) : Type 0 where
  pub now : heap_of k.plain ≡ sealed_heap v.now
  pub laid : IsWellFormed k.plain
  pub recovered : k.recovered ≡ k.plain

closed_words : (b c : Bool) (rec set_rec : List ℕ) → b ≡ false → (if b && c then rec else set_rec) ≡ set_rec
closed_words false c rec set_rec e = refl
closed_words true c rec set_rec e = absurd (true≢false e)

pub is_sealed : (j : State) (v : HeapView) (n : ℕ) → heap_view j n ≡ v → IsSound j n → v.down ≡ false → v.begun ≡ false
    → IsSealed v (after_write_in_place j 0 magic)
is_sealed j v n is s up closed =
    let here : j.down ≡ false = up_is j v n is up in
    let outside : j.in_transaction ≡ false = ap (λ u. u.begun) is ∙ closed in
    record {
      now = heap_of-magic j.plain magic (s.now here) ∙ ap (λ u. sealed_heap (u.now)) is;
      laid = IsWellFormed-magic j.plain magic (s.now here);
      recovered = closed_words j.in_transaction (is_touched j 0) j.recovered (set j.recovered 0 magic) outside
          ∙ ap (λ l. set l 0 magic) (s.settled here outside);
    }

view_sealed : (j : State) (v : HeapView) (n : ℕ) → heap_view j n ≡ v → IsSealed v (after_write_in_place j 0 magic)
    → heap_view (after_write_in_place j 0 magic) n ≡ sealed_view v
view_sealed j v n is s =
    let durable : heap_of (after_write_in_place j 0 magic).recovered ≡ sealed_heap v.now = ap heap_of s.recovered ∙ s.now in
    λ i. record (sealed_view (is i)) { now = s.now i; durable = durable i }

-- the store of a journal that wrote the magic word
pub holds_sealed : (w : List ℕ) (d : Bool) (p : ℕ) (r : Refusals) (k j : State) (v : HeapView) (n : ℕ) → IsStoreOf w d p r k → k ≡ after_write_in_place j 0 magic
    → heap_view j n ≡ v → IsSound j n → v.down ≡ false → v.begun ≡ false → HoldsHeap w d p r (sealed_view v)
holds_sealed w d p r k j v n store same is sound up closed =
    let s : IsSealed v (after_write_in_place j 0 magic) = is_sealed j v n is sound up closed in
    let long : length (after_write_in_place j 0 magic).recovered ≡ n = ap length s.recovered ∙ length-set j.plain 0 magic
    ∙ sound.size_now (up_is j v n is up) in
    subst (HoldsHeap w d p r) (view_sealed j v n is s)
    (holds w d p r (after_write_in_place j 0 magic) n (subst (IsStoreOf w d p r) same store) (subst IsWellFormed (sym s.recovered) s.laid) long)

-- and that of one whose store refused it
pub holds_unsealed : (w : List ℕ) (d : Bool) (p : ℕ) (r : Refusals) (k j : State) (v : HeapView) (n : ℕ) → IsStoreOf w d p r k → k ≡ after_refusal j → heap_view j n ≡ v
    → IsSound j n → HoldsHeap w d p r (heap_after_refused_seal v)
holds_unsealed w d p r k j v n store same is sound =
    subst (HoldsHeap w d p r) (ap heap_after_refused_seal is)
    (holds w d p r (after_refusal j) n (subst (IsStoreOf w d p r) same store) sound.back sound.size_recovered)

pub settled_outside : (j : State) (v : HeapView) (n : ℕ) → heap_view j n ≡ v → IsSound j n → v.down ≡ false → v.begun ≡ false → v.durable ≡ v.now
settled_outside j v n is sound up closed =
    let outside : j.in_transaction ≡ false = ap (λ u. u.begun) is ∙ closed in
    ap (λ u. u.durable) (sym is) ∙ ap heap_of (sound.settled (up_is j v n is up) outside) ∙ ap (λ u. u.now) is
