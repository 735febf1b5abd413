-- A new object through the journal: fresh words, then the top.
use Rattle.std.proofs.Common.{◌≡◌, ℕ, ◌+◌, ◌/◌, ◌<◌, ◌≤◌, true, false, List, [], ◌∷◌, ◌++◌, length, get_or, set, replicate, refl, sym, ◌∙◌, ap, subst, arith}
use Rattle.std.proofs.Common.{if◌then◌else◌, Some}
use Rattle.std.proofs.lemmas.Bool.{false≢true}
use Rattle.jc_commit.specs.declared.refusal.WriteRefusal.{WriteRefusal}
use Rattle.jc_commit.specs.declared.refusal.WriteRefusal.TheVariants.{StoreDown, Full}
use Rattle.std.proofs.lemmas.List.{length-replicate, length-take-le}
use Rattle.jc_words.specs.Count.{saturating_count}
use Rattle.jc_words.specs.Refusals.{refused_once}
use Rattle.jc_words.specs.Layout.{top_address}
use Rattle.jc_commit.specs.Image.{with_words}
use Rattle.jc_commit.specs.Entries.{addresses_of}
use Rattle.jc_commit.specs.Keep.{Keeping, unlogged_addresses, writes_for, has_room_for as journal_room}
use Rattle.jc_commit.specs.State.{State, keeping as journal_keeping, live_words, Changes, IsTornWrite as JournalStopped}
use Rattle.jc_heap.proofs.RawWords.{capacity_is}
use Rattle.jc_heap.proofs.JournalViews.{keeping_view, keeping_same}
use Rattle.jc_heap.specs.declared.object.Kind.{Kind}
use Rattle.jc_heap.specs.declared.object.Kind.TheVariants.{Instance, BooleanArray, ByteArray, ShortArray, ReferenceArray}
use Rattle.jc_transient.specs.declared.cell.ClearEvent.{ClearEvent}
use Rattle.jc_transient.specs.declared.cell.ClearEvent.TheVariants.{Reset, Deselect}
use Rattle.jc_heap.specs.Object.{Object, AnObject, header_word, header_number, has_bytes, words_of_cells, cells_of_words, object_size, new_transient, transient_size}
use Rattle.jc_heap.specs.Object.{object_of, new_object, payload}
use Rattle.jc_heap.specs.Image.{IsWellFormed}
use Rattle.jc_heap.specs.Fresh.{KeepsBelow, Fills, IsTornFresh}
use Rattle.jc_heap.specs.Heap.{HeapState, HeapView, heap_view, read_image, heap_of, add_object, end_address, heap_after_change, keeping, IsSound, IsTornChange}
use Rattle.jc_heap.specs.Heap.{LacksSpace, SameShape, is_allocated, heap_item_at, add_transient, area_end_address, area_end, with_area_end}
use Rattle.jc_heap.proofs.PackedBytes.{bytes_of_zeros, bytes_of_all}
use Rattle.jc_heap.proofs.Laws.{shape-add, heap_item_at-add_object}
use Rattle.jc_heap.proofs.Added.{heap_of-grown, top-moved, IsLaid-grown, image-same_below, IsWellFormed-same_below}
use Rattle.jc_heap.proofs.Changing.{change_view, change_sound, stopped_sound, stopped_view, top-live_words}
use Rattle.jc_heap.proofs.Views.{view_top}
use Rattle.jc_heap.proofs.AreaEnds.{area_read, with_area_end-heap_of, IsWellFormed-end, shape-end, top-end}

pub lacks_space : (j : State) (v : HeapView) (n count : ℕ) → heap_view j n ≡ v → IsWellFormed j.plain → n < get_or j.plain top_address 0 + count
    → LacksSpace v count
lacks_space j v n count is laid h = subst (λ u. u.size < u.now.top + count) is (omega (arith, view_top j (heap_view j n) n refl laid, h))

pub has_space : (j : State) (v : HeapView) (n count : ℕ) → heap_view j n ≡ v → IsWellFormed j.plain → get_or j.plain top_address 0 + count ≤ n
    → LacksSpace v count → ⊥
has_space j v n count is laid h = subst (λ u. u.size < u.now.top + count → ⊥) is (λ lacks. omega (arith, view_top j (heap_view j n) n refl laid, h, lacks))

-- the same words, where the class and the owner are the same
pub fills_same : (at word : ℕ) (k l m n : ℕ) (rest : List ℕ) (old new : State) → k ≡ l → m ≡ n → Fills at (word ∷ k ∷ m ∷ rest) old new
    → Fills at (word ∷ l ∷ n ∷ rest) old new
fills_same at word k l m n rest old new class owner f = subst (λ x. Fills at (word ∷ x ∷ n ∷ rest) old new) class
    (subst (λ x. Fills at (word ∷ k ∷ x ∷ rest) old new) owner f)

-- the words that a new object takes
unfoldable pub new_record : Kind → ℕ → ℕ → ℕ → List ℕ
new_record kind class owner long = (header_number kind (has_bytes kind) ∷ class ∷ owner ∷ long ∷ []) ++ replicate (words_of_cells (has_bytes kind) long) 0

pub fills_new : (t at word k l zeros : ℕ) (kind : Kind) (class owner long : ℕ) (old new : State) → t ≡ at → word ≡ header_number kind (has_bytes kind)
    → k ≡ class → l ≡ owner → zeros ≡ words_of_cells (has_bytes kind) long → Fills t ((word ∷ k ∷ l ∷ long ∷ []) ++ replicate zeros 0) old new
    → Fills at (new_record kind class owner long) old new
unfolding new_record
fills_new t at word k l zeros kind class owner long old new there number class_is owner_is count f =
    subst (λ x. Fills x (new_record kind class owner long) old new) there
    (subst (λ x. Fills t ((x ∷ class ∷ owner ∷ long ∷ []) ++ replicate (words_of_cells (has_bytes kind) long) 0) old new) number
    (subst (λ x. Fills t ((word ∷ x ∷ owner ∷ long ∷ []) ++ replicate (words_of_cells (has_bytes kind) long) 0) old new) class_is
    (subst (λ x. Fills t ((word ∷ k ∷ x ∷ long ∷ []) ++ replicate (words_of_cells (has_bytes kind) long) 0) old new) owner_is
    (subst (λ x. Fills t ((word ∷ k ∷ l ∷ long ∷ []) ++ replicate x 0) old new) count f))))

zero_cells : (long : ℕ) → cells_of_words true long (replicate (words_of_cells true long) 0) ≡ replicate long 0
zero_cells long =
    let words : List ℕ = replicate (words_of_cells true long) 0 in
    bytes_of_all long words (omega (arith, length-replicate {A = ℕ} ((long + 1) / 2) 0)) ∙ bytes_of_zeros long (words_of_cells true long)

object_of-new_record : (kind : Kind) (class owner long : ℕ) → object_of (new_record kind class owner long) ≡ new_object kind class owner long
unfolding new_record
object_of-new_record Instance class owner long = refl
object_of-new_record BooleanArray class owner long = ap (λ l. record (new_object BooleanArray class owner long) { cells = l }) (zero_cells long)
object_of-new_record ByteArray class owner long = ap (λ l. record (new_object ByteArray class owner long) { cells = l }) (zero_cells long)
object_of-new_record ShortArray class owner long = refl
object_of-new_record ReferenceArray class owner long = refl

own-new_record : (kind : Kind) (class owner n : ℕ) → 3 + payload (get_or (new_record kind class owner n) 0 0)
    (get_or (new_record kind class owner n) 3 0) + 1 ≡ length (new_record kind class owner n)
unfolding new_record
own-new_record Instance class owner n = omega (arith, length-replicate {A = ℕ} n 0)
own-new_record BooleanArray class owner n = omega (arith, length-replicate {A = ℕ} ((n + 1) / 2) 0)
own-new_record ByteArray class owner n = omega (arith, length-replicate {A = ℕ} ((n + 1) / 2) 0)
own-new_record ShortArray class owner n = omega (arith, length-replicate {A = ℕ} n 0)
own-new_record ReferenceArray class owner n = omega (arith, length-replicate {A = ℕ} n 0)

pub length-new_record : (kind : Kind) (class owner n : ℕ) → length (new_record kind class owner n) ≡ object_size kind n
unfolding new_record
length-new_record kind class owner n = omega (arith, length-replicate {A = ℕ} (words_of_cells (has_bytes kind) n) 0)

module _ (j k : State) (n : ℕ) (s : IsSound j n) (up : j.down ≡ false) (b : KeepsBelow (get_or j.plain top_address 0) j k) where
  far : top_address < get_or j.plain top_address 0
  far = omega (arith, (s.now up).based)

  pub live_back : live_words k.recovered ≡ live_words j.recovered
  live_back = image-same_below j.recovered k.recovered (get_or j.plain top_address 0) far (s.order up) b.recovered

  laid_back : IsWellFormed k.recovered
  laid_back = IsWellFormed-same_below j.recovered k.recovered (get_or j.plain top_address 0) far (s.order up) b.recovered b.size_recovered s.back

  -- fresh words leave what a change has to know as it is
  pub kept_alike : journal_keeping k ≡ journal_keeping j
  kept_alike = keeping_same j k b.in_transaction b.touched (top-live_words j.recovered k.recovered s.back live_back)
      (sym (capacity_is k.recovered laid_back) ∙ ap (λ ws. (read_image ws).capacity) live_back ∙ capacity_is j.recovered s.back)

  -- the store refused a fresh word
  pub fresh_stopped_sound : {writes : ℕ} → IsTornFresh writes j k → IsSound k n
  fresh_stopped_sound st = stopped_sound j k n live_back b.size_recovered st.down s.back s.size_recovered s.small

  pub fresh_stopped_view : {fresh : ℕ} (writes : ℕ) → fresh ≤ writes → (v : HeapView) → heap_view j n ≡ v → IsTornFresh fresh j k → IsTornChange writes v (heap_view k n)
  fresh_stopped_view writes most v is st = stopped_view writes j k v n is live_back st.down st.from (λ small. omega (arith, small, st.short small, most)) st.refusals

  module _ (rec : List ℕ) (f : Fills (get_or j.plain top_address 0) rec j k) where
    -- the store refused the top's change
    pub top_stopped_sound : {writes : ℕ} (m : State) → JournalStopped writes k m → IsSound m n
    top_stopped_sound m st = stopped_sound k m n st.recovered st.size_recovered st.down laid_back (b.size_recovered ∙ s.size_recovered) s.small

    pub top_stopped_view : (writes : ℕ) (m : State) (v : HeapView) → heap_view j n ≡ v → JournalStopped writes k m → IsTornChange (length rec + writes) v (heap_view m n)
    top_stopped_view writes m v is st = stopped_view (length rec + writes) j m v n is (st.recovered ∙ live_back) st.down (omega (arith, f.passed, st.from)) (λ small. omega (arith, small, st.short small, f.passed, st.from)) (st.refusals ∙ (λ i. refused_once (f.down i) m.passed (f.refusals i)))

    raised_twice : (p q a w : ℕ) → q ≡ saturating_count p a → saturating_count q (0 + w) ≡ saturating_count p (a + w)
    raised_twice p q a w e = omega (arith, e)

    -- a change of words after the fresh ones is a change of the heap
    pub view_then : (cs : List (ℕ × ℕ)) (h : HeapState) (m : State) → Changes cs k m → heap_of (with_words k.plain cs) ≡ h
        → heap_view m n ≡ heap_after_change (heap_view j n) h (addresses_of cs) (length rec)
    view_then cs h m c now =
        let made : heap_view m n ≡ heap_after_change (heap_view k n) h (addresses_of cs) 0 = change_view cs k m n h laid_back c now in
        let durable : (if k.in_transaction then heap_of k.recovered else h) ≡ (if j.in_transaction then heap_of j.recovered else h) =
        ap (λ d. if k.in_transaction then d else h) (ap read_image live_back) ∙ ap (λ g. if g then heap_of j.recovered else h) b.in_transaction in
        let same : keeping (heap_view k n) ≡ keeping (heap_view j n) = keeping_view k n laid_back ∙ kept_alike ∙ sym (keeping_view j n s.back) in
        let touched : k.touched ++ unlogged_addresses (keeping (heap_view k n)) (addresses_of cs)
        ≡ j.touched ++ unlogged_addresses (keeping (heap_view j n)) (addresses_of cs) =
        ap (λ l. l ++ unlogged_addresses (keeping (heap_view k n)) (addresses_of cs)) b.touched
        ∙ ap (λ (g : Keeping). j.touched ++ unlogged_addresses g (addresses_of cs)) same in
        let sum : saturating_count k.passed (0 + writes_for (keeping (heap_view j n)) (addresses_of cs))
        ≡ saturating_count j.passed (length rec + writes_for (keeping (heap_view j n)) (addresses_of cs)) =
        raised_twice j.passed k.passed (length rec) (writes_for (keeping (heap_view j n)) (addresses_of cs)) f.passed in
        let passed : saturating_count k.passed (0 + writes_for (keeping (heap_view k n)) (addresses_of cs))
        ≡ saturating_count j.passed (length rec + writes_for (keeping (heap_view j n)) (addresses_of cs)) =
        ap (λ (g : Keeping). saturating_count k.passed (0 + writes_for g (addresses_of cs))) same ∙ sum in
        made ∙ (λ i. record {
          now = h;
          durable = durable i;
          begun = b.in_transaction i;
          touched = touched i;
          down = f.down i;
          passed = passed i;
          refusals = f.refusals i;
          size = n;
        })

    pub sound_then : (cs : List (ℕ × ℕ)) (h : HeapState) (m : State) → Changes cs k m → heap_of (with_words k.plain cs) ≡ h
        → IsWellFormed (with_words k.plain cs) →
        get_or j.plain top_address 0 ≤ get_or (with_words k.plain cs) top_address 0 → SameShape (heap_of j.recovered) h → IsSound m n
    sound_then cs h m c now laid order shape = change_sound cs k m n c (f.down ∙ up) laid_back (b.size_recovered ∙ s.size_recovered)
        (b.size ∙ s.size_now up) s.small laid
        (λ _. omega (arith, order, s.order up, top-live_words j.recovered k.recovered s.back live_back))
        (λ _. subst (λ d. SameShape d (heap_of (with_words k.plain cs))) (ap read_image (sym live_back))
        (subst (SameShape (heap_of j.recovered)) (sym now) shape))

    module _ (own : 3 + payload (get_or rec 0 0) (get_or rec 3 0) + 1 ≡ length rec) (fits : get_or j.plain top_address 0 + length rec ≤ n) where
      fits_now : get_or j.plain top_address 0 + length rec ≤ length k.plain
      fits_now = omega (arith, fits, b.size, s.size_now up)

      -- the top moved over the record
      abbrev pub moved_top : List ℕ
      moved_top = set k.plain top_address (get_or j.plain top_address 0 + length rec)

      pub laid_now : IsWellFormed moved_top
      laid_now = IsLaid-grown j.plain k.plain rec (s.now up) f.words fits_now own

      pub top_now : get_or moved_top top_address 0 ≡ get_or j.plain top_address 0 + length rec
      top_now = top-moved j.plain k.plain rec (s.now up) f.words fits_now own

      pub heap_now : heap_of moved_top ≡ add_object (heap_of j.plain) (object_of rec) (length rec)
      heap_now = heap_of-grown j.plain k.plain rec (s.now up) f.words fits_now own

      tops : (heap_of j.recovered).top ≤ (heap_of j.plain).top
      unfolding read_image
      tops = omega (
        arith,
        length-take-le (get_or j.plain top_address 0) j.plain (s.now up).fits,
        length-take-le (get_or j.recovered top_address 0) j.recovered s.back.fits,
        s.order up,
      )

      pub shape_now : SameShape (heap_of j.recovered) (add_object (heap_of j.plain) (object_of rec) (length rec))
      shape_now = shape-add (heap_of j.recovered) (heap_of j.plain) (object_of rec) (length rec) tops (s.shape up)

      pub sound_made_at : (m : State) → Changes ((top_address, get_or j.plain top_address 0 + length rec) ∷ []) k m → IsSound m n
      sound_made_at m c = sound_then ((top_address, get_or j.plain top_address 0 + length rec) ∷ [])
          (add_object (heap_of j.plain) (object_of rec) (length rec)) m c heap_now laid_now (omega (arith, top_now)) shape_now

      pub view_made_at : (m : State) → Changes ((top_address, get_or j.plain top_address 0 + length rec) ∷ []) k m
          → heap_view m n ≡ heap_after_change (heap_view j n) (add_object (heap_of j.plain) (object_of rec) (length rec)) (top_address ∷ []) (length rec)
      view_made_at m c = view_then ((top_address, get_or j.plain top_address 0 + length rec) ∷ [])
          (add_object (heap_of j.plain) (object_of rec) (length rec)) m c heap_now

module _ (j k m : State) (n : ℕ) (kind : Kind) (class owner long end : ℕ) (s : IsSound j n) (up : j.down ≡ false)
    (b : KeepsBelow (get_or j.plain top_address 0) j k) (f : Fills (get_or j.plain top_address 0) (new_record kind class owner long) j k)
    (e : end ≡ get_or j.plain top_address 0 + object_size kind long) (fits : end ≤ n) (c : Changes ((top_address, end) ∷ []) k m) where
  abbrev new : List ℕ
  new = new_record kind class owner long

  size : length new ≡ object_size kind long
  size = length-new_record kind class owner long

  new_fits : get_or j.plain top_address 0 + length new ≤ n
  new_fits = omega (arith, size, e, fits)

  top_there : Changes ((top_address, get_or j.plain top_address 0 + length new) ∷ []) k m
  top_there = subst (λ t. Changes ((top_address, t) ∷ []) k m) (e ∙ ap (λ l. get_or j.plain top_address 0 + l) (sym size)) c

  pub sound_made : IsSound m n
  sound_made = sound_made_at j k n s up b new f (own-new_record kind class owner long) new_fits m top_there

  pub view_made : (v : HeapView) → heap_view j n ≡ v → heap_view m n ≡ heap_after_change v
      (add_object v.now (new_object kind class owner long) (object_size kind long)) (end_address ∷ []) (object_size kind long)
  unfolding end_address
  view_made v is = subst (λ u. heap_view m n ≡ heap_after_change u (add_object (u.now) (new_object kind class owner long) (object_size kind long))
      (top_address ∷ []) (object_size kind long)) is
      (subst (λ o. heap_view m n ≡ heap_after_change (heap_view j n) (add_object (heap_of j.plain) o (object_size kind long)) (top_address ∷ [])
      (object_size kind long)) (object_of-new_record kind class owner long)
      (subst (λ l. heap_view m n ≡ heap_after_change (heap_view j n) (add_object (heap_of j.plain) (object_of new) l) (top_address ∷ []) l) size
      (view_made_at j k n s up b new f (own-new_record kind class owner long) new_fits m top_there)))

-- what stands at a new object's address
pub made_object : (v : HeapView) (o : Object) (size fresh : ℕ) (places : List ℕ) → is_allocated v.now v.now.top ≡ false
    → heap_item_at ((heap_after_change v (add_object v.now o size) places fresh).now) v.now.top ≡ AnObject o
made_object v o size fresh places free = heap_item_at-add_object v.now o size free

transient_there : (h : HeapState) (kind : Kind) (event : ClearEvent) (class owner long : ℕ) → is_allocated h h.top ≡ false
    → heap_item_at (add_transient h kind event class owner long) h.top ≡ AnObject (new_transient kind event class owner long (area_end h event))
unfolding add_transient heap_item_at
transient_there h kind Reset class owner long free = heap_item_at-add_object h (new_transient kind Reset class owner long (area_end h Reset)) transient_size
    free
transient_there h kind Deselect class owner long free = heap_item_at-add_object h
    (new_transient kind Deselect class owner long (area_end h Deselect)) transient_size free

-- the same of a new transient object
pub made_transient : (v w : HeapView) (r fresh : ℕ) (places : List ℕ) (kind : Kind) (event : ClearEvent) (class owner long : ℕ) → r ≡ v.now.top
    → w ≡ heap_after_change v (add_transient v.now kind event class owner long) places fresh → is_allocated v.now v.now.top ≡ false →
    heap_item_at w.now r ≡ AnObject (new_transient kind event class owner long (area_end v.now event))
made_transient v w r fresh places kind event class owner long named is free = ap (heap_item_at (w.now)) named ∙ ap (λ u. heap_item_at (u.now) v.now.top) is
    ∙ transient_there v.now kind event class owner long free

-- the words that a new transient object takes
abbrev pub transient_record : Kind → ClearEvent → ℕ → ℕ → ℕ → ℕ → List ℕ
transient_record kind event class owner long place = header_word kind (Some event) ∷ class ∷ owner ∷ long ∷ place ∷ []

object_of-transient : (kind : Kind) (event : ClearEvent) (class owner long place : ℕ)
    → object_of (transient_record kind event class owner long place) ≡ new_transient kind event class owner long place
object_of-transient Instance Reset class owner long place = refl
object_of-transient Instance Deselect class owner long place = refl
object_of-transient BooleanArray Reset class owner long place = refl
object_of-transient BooleanArray Deselect class owner long place = refl
object_of-transient ByteArray Reset class owner long place = refl
object_of-transient ByteArray Deselect class owner long place = refl
object_of-transient ShortArray Reset class owner long place = refl
object_of-transient ShortArray Deselect class owner long place = refl
object_of-transient ReferenceArray Reset class owner long place = refl
object_of-transient ReferenceArray Deselect class owner long place = refl

own-transient : (kind : Kind) (event : ClearEvent) (class owner long place : ℕ) → 3 + payload (header_word kind (Some event)) long + 1 ≡ transient_size
own-transient Instance Reset class owner long place = refl
own-transient Instance Deselect class owner long place = refl
own-transient BooleanArray Reset class owner long place = refl
own-transient BooleanArray Deselect class owner long place = refl
own-transient ByteArray Reset class owner long place = refl
own-transient ByteArray Deselect class owner long place = refl
own-transient ShortArray Reset class owner long place = refl
own-transient ShortArray Deselect class owner long place = refl
own-transient ReferenceArray Reset class owner long place = refl
own-transient ReferenceArray Deselect class owner long place = refl

-- a new transient object: the top and its area's end move together
module _ (j k m : State) (n : ℕ) (kind : Kind) (event : ClearEvent) (class owner long place end : ℕ) (s : IsSound j n) (up : j.down ≡ false)
    (b : KeepsBelow (get_or j.plain top_address 0) j k)
    (f : Fills (get_or j.plain top_address 0) (transient_record kind event class owner long place) j k) (at : place ≡ get_or j.plain (area_end_address event) 0)
    (e : end ≡ get_or j.plain top_address 0 + transient_size) (fits : end ≤ n)
    (c : Changes ((top_address, end) ∷ (area_end_address event, place + long) ∷ []) k m) where
  own_fits : get_or j.plain top_address 0 + transient_size ≤ n
  own_fits = omega (arith, e, fits)

  abbrev first : List ℕ
  first = set k.plain top_address (get_or j.plain top_address 0 + transient_size)

  laid_first : IsWellFormed first
  laid_first = laid_now j k n s up b (transient_record kind event class owner long place) f (own-transient kind event class owner long place) own_fits

  heap_first : heap_of first ≡ add_object (heap_of j.plain) (new_transient kind event class owner long place) transient_size
  heap_first = heap_now j k n s up b (transient_record kind event class owner long place) f (own-transient kind event class owner long place) own_fits
      ∙ ap (λ o. add_object (heap_of j.plain) o transient_size) (object_of-transient kind event class owner long place)

  there : Changes ((top_address, get_or j.plain top_address 0 + transient_size) ∷ (area_end_address event, place + long) ∷ []) k m
  there = subst (λ t. Changes ((top_address, t) ∷ (area_end_address event, place + long) ∷ []) k m) e c

  heap_both : heap_of (set first (area_end_address event) (place + long)) ≡ add_transient (heap_of j.plain) kind event class owner long
  unfolding add_transient
  heap_both =
      let end_is : place ≡ area_end (heap_of j.plain) event = at ∙ sym (area_read j.plain event (s.now up)) in
      with_area_end-heap_of first event (place + long) laid_first
      ∙ ap (λ h. with_area_end h event (place + long)) heap_first
      ∙ ap (λ p. with_area_end (add_object (heap_of j.plain) (new_transient kind event class owner long p) transient_size) event (p + long)) end_is

  shape_both : SameShape (heap_of j.recovered) (add_transient (heap_of j.plain) kind event class owner long)
  shape_both = subst (SameShape (heap_of j.recovered)) (sym (with_area_end-heap_of first event (place + long) laid_first) ∙ heap_both)
      (shape-end (heap_of j.recovered) (heap_of first) event (place + long)
      (subst (SameShape (heap_of j.recovered)) (sym (heap_now j k n s up b (transient_record kind event class owner long place) f
      (own-transient kind event class owner long place) own_fits))
      (shape_now j k n s up b (transient_record kind event class owner long place) f (own-transient kind event class owner long place) own_fits)))

  pub transient_sound : IsSound m n
  transient_sound = sound_then j k n s up b (transient_record kind event class owner long place) f
      ((top_address, get_or j.plain top_address 0 + transient_size) ∷ (area_end_address event, place + long) ∷ [])
      (add_transient (heap_of j.plain) kind event class owner long) m there heap_both (IsWellFormed-end first event (place + long) laid_first)
      (omega (
        arith,
        top-end first event (place + long),
        top_now j k n s up b (transient_record kind event class owner long place) f
            (own-transient kind event class owner long place) own_fits,
      )) shape_both

  pub transient_view : (v : HeapView) → heap_view j n ≡ v → heap_view m n ≡ heap_after_change v (add_transient v.now kind event class owner long)
      (end_address ∷ area_end_address event ∷ []) transient_size
  unfolding end_address
  transient_view v is = subst (λ u. heap_view m n ≡ heap_after_change u (add_transient (u.now) kind event class owner long)
      (top_address ∷ area_end_address event ∷ []) transient_size) is
      (view_then j k n s up b (transient_record kind event class owner long place) f
      ((top_address, get_or j.plain top_address 0 + transient_size) ∷ (area_end_address event, place + long) ∷ [])
      (add_transient (heap_of j.plain) kind event class owner long) m there heap_both)

-- where there was room, the store alone refuses
pub only_down : (j k : State) (n : ℕ) → IsSound j n → j.down ≡ false → KeepsBelow (get_or j.plain top_address 0) j k → (places : List ℕ)
    → journal_room (journal_keeping j) places ≡ true → (r : WriteRefusal) → (r ≡ Full → journal_room (journal_keeping k) places ≡ false) → r ≡ StoreDown
only_down j k n s up b places fit StoreDown f = refl
only_down j k n s up b places fit Full f =
    absurd (false≢true (sym (f refl) ∙ ap (λ g. journal_room g places) (kept_alike j k n s up b) ∙ fit))

pub view_area : (j : State) (v : HeapView) (n : ℕ) (event : ClearEvent) → heap_view j n ≡ v → IsWellFormed j.plain
    → area_end v.now event ≡ get_or j.plain (area_end_address event) 0
view_area j v n event is laid = subst (λ u. area_end (u.now) event ≡ get_or j.plain (area_end_address event) 0) is (area_read j.plain event laid)
