-- What power up finds.
use Rattle.std.proofs.Common.{◌≡◌, ℕ, ◌+◌, ◌/◌, ◌≤◌, ◌⊎◌, inl, inr, List, length, get_or, refl, sym, ◌∙◌, ap, subst, arith, Ok, Err}
use Rattle.std.specs.Prelude.{Result, IsOk, Some}
use Rattle.jc_words.specs.Image.{HasSize, IsVersion}
use Rattle.jc_words.specs.declared.image.ImageFault.{ImageFault}
use Rattle.jc_words.specs.Layout.{magic_address, version_address, text_length_address, text_start, magic}
use Rattle.jc_commit.specs.Image.{IsGoodLog, limit_of, recovered_of}
use Rattle.jc_commit.specs.Migration.{migrated, StillOpens}
use Rattle.jc_commit.proofs.InPlace.{length-recovered}
use Rattle.jc_heap.specs.WholeHeap.{IsConsistent}
use Rattle.jc_heap.specs.HeapLaws.{StandAlike}
use Rattle.jc_heap.proofs.Migrated.{migrated_alike}
use Rattle.jc_heap.specs.Image.{IsWellFormed, base, image}
use Rattle.jc_heap.specs.Heap.{HeapState, head_of, heap_of}
use Rattle.jc_packages.specs.Sound.{IsSound}
use Rattle.jc_packages.specs.Reading.{packages_of}
use Rattle.jc_packages.specs.Tables.{HasTable}
use Rattle.jc_heap.proofs.RawWords.{recovered-head, head_is, text_is}
use Rattle.jc_heap.proofs.Following.{base_is}
use Rattle.jc_linker.specs.Values.{Packages}
use Rattle.jc_platform.specs.Tokens.{Tokens}
use Rattle.jc_platform.specs.Table.{Reads}
use Rattle.jc_platform.proofs.OneAnswer.{one_table}
use Rattle.jc_card.specs.Fixed.{BeginsWithFixed, last_fixed}
use Rattle.jc_card.specs.ProductImages.{IsMade}
use Rattle.jc_card.specs.PowerUp.{HasHead, HasHeap, PowerUpRefuses, RecoveredWordsFail, HasPackages}
use Rattle.jc_card.specs.declared.power_up.PowerFault.{PowerFault}
use Rattle.jc_card.specs.declared.power_up.PowerFault.TheVariants.{BadMagic, BadVersion, BadSize, BadLog, BadTable, BadPackage, NoMemory, StoreDown}

-- the first words were asked for
pub head_found : (r : Result Unit ImageFault) (w : List ℕ) → ((f : ImageFault) → r ≡ Err f → ⊥) →
    (IsOk r → (get_or w magic_address 0 ≡ magic) × IsVersion (get_or w version_address 0) × HasSize w) → HasHead w
head_found (Ok u) w n f =
    let h : (get_or w magic_address 0 ≡ magic) × IsVersion (get_or w version_address 0) × HasSize w = f refl in
    record { magic = h.0; version = h.1; size = h.2 }
head_found (Err e) w n f = absurd (n e refl)

pub made_found : (w : List ℕ) → HasHead w → IsGoodLog w → (t : Tokens) → HasTable (recovered_of w) t → HasHeap t (recovered_of w) → IsMade w
made_found w head log t table heap = record {
  log = log;
  laid = heap.0;
  heap = record {
    head = head_is (recovered_of w) heap.0 ∙ recovered-head w log ∙ (λ i. (head.magic i, head.size.told i));
    enough = head.size.enough;
    platform = (t, subst (λ l. Reads l (Ok t)) (sym (text_is (recovered_of w) heap.0)) table.1, heap.2, heap.3);
    whole = heap.1;
  };
}

-- an image that the product made has a head and a table
head_made : (w : List ℕ) → IsMade w → head_of w ≡ (magic, length w)
head_made w made = sym (recovered-head w made.log) ∙ sym (head_is (recovered_of w) made.laid) ∙ made.heap.head

pub has_head : (w : List ℕ) → IsMade w → HasHead w
has_head w made =
    let is = head_made w made in
    record {
      magic = ap (λ (h : ℕ × ℕ). h.0) is;
      version = made.log.known;
      size = made.log.size;
    }

text_fits : (w : List ℕ) → IsWellFormed w → text_start + (get_or w text_length_address 0 + 1) / 2 ≤ length w
text_fits w laid =
    let b : base (image w) ≡ text_start + (get_or w text_length_address 0 + 1) / 2 = base_is w laid in
    omega (arith, laid.based, laid.fits, b)

pub has_table : (w : List ℕ) (t : Tokens) → IsWellFormed w → Reads (heap_of w).text (Ok t) → HasTable w t
has_table w t laid reads = (text_fits w laid, subst (λ l. Reads l (Ok t)) (text_is w laid) reads)

-- what the product made is refused for want of memory alone, or by the store
pub refused_made : (w : List ℕ) (f : PowerFault) → IsMade w → PowerUpRefuses f w → (f ≡ NoMemory) ⊎ (f ≡ StoreDown)
refused_made w BadMagic made r = absurd (r (has_head w made).magic)
refused_made w BadVersion made r = absurd (r.1 (has_head w made).version)
refused_made w BadSize made r = absurd (r.2 (has_head w made).size)
refused_made w BadLog made r = absurd (r.1 made.log)
refused_made w BadTable made r = absurd (r.2 made.heap.platform.0 (has_table (recovered_of w) made.heap.platform.0 made.laid made.heap.platform.1))
refused_made w BadPackage made r =
    let h = heap_of (recovered_of w) in
    let reads : Reads h.text (Ok r.2.0) = subst (λ l. Reads l (Ok r.2.0)) (sym (text_is (recovered_of w) made.laid)) r.2.1.1 in
    let same : made.heap.platform.0 ≡ r.2.0 = one_table h.text made.heap.platform.0 r.2.0 made.heap.platform.1 reads in
    absurd (r.2.2 (subst (λ t. HasHeap t (recovered_of w)) same (made.laid, made.heap.whole, made.heap.platform.2, made.heap.platform.3)))
refused_made w NoMemory made r = inl refl
refused_made w StoreDown made r = inr refl

-- the same for the parts of a recovered image
pub refuses_from : (w : List ℕ) (f : PowerFault) → HasHead w → IsGoodLog w → RecoveredWordsFail f (recovered_of w) → PowerUpRefuses f w
refuses_from w BadMagic head log r = absurd r
refuses_from w BadVersion head log r = absurd r
refuses_from w BadSize head log r = absurd r
refuses_from w BadLog head log r = absurd r
refuses_from w BadTable head log r = (head, log, r)
refuses_from w BadPackage head log r = (head, log, r)
refuses_from w NoMemory head log r = (head, log)
refuses_from w StoreDown head log r = absurd r

-- words that stand alike have the same table and the same heap
module _ (ws vs : List ℕ) (alike : StandAlike ws vs) where
  table_to : (t : Tokens) → HasTable ws t → HasTable vs t
  table_to t has = (omega (arith, has.0, alike.text_length, alike.size), subst (λ l. Reads l (Ok t)) (sym alike.text) has.1)

  pub table_back : (t : Tokens) → HasTable vs t → HasTable ws t
  table_back t has = (omega (arith, has.0, alike.text_length, alike.size), subst (λ l. Reads l (Ok t)) alike.text has.1)

  heap_to : (t : Tokens) → HasHeap t ws → HasHeap t vs
  heap_to t has = (
    alike.laid has.0,
    subst IsConsistent (sym alike.heap) has.1,
    subst (BeginsWithFixed t) (sym alike.heap) has.2,
    subst (HasPackages t) (sym alike.heap) has.3,
  )

  pub heap_back : (t : Tokens) → HasHeap t vs → HasHeap t ws
  heap_back t has = (
    alike.back has.0,
    subst IsConsistent alike.heap has.1,
    subst (BeginsWithFixed t) alike.heap has.2,
    subst (HasPackages t) alike.heap has.3,
  )

  pub fails_back : (f : PowerFault) → RecoveredWordsFail f vs → RecoveredWordsFail f ws
  fails_back BadMagic fail = fail
  fails_back BadVersion fail = fail
  fails_back BadSize fail = fail
  fails_back BadLog fail = fail
  fails_back BadTable fail = λ t has. fail t (table_to t has)
  fails_back BadPackage fail = (fail.0, table_back fail.0 fail.1, λ has. fail.2 (heap_to fail.0 has))
  fails_back NoMemory fail = fail
  fails_back StoreDown fail = fail

-- recovered words stand alike with what a migration makes of them
pub recovered_alike : (w : List ℕ) → StandAlike (recovered_of w) (migrated 3 (recovered_of w))
recovered_alike w = migrated_alike (recovered_of w) 3

pub long_image : (w : List ℕ) → length (migrated 3 (recovered_of w)) ≡ limit_of w
long_image w = (recovered_alike w).size ∙ length-recovered w

-- an opening that a refused write stops leaves the heap's end where it is
pub limit_still : (old new : List ℕ) → StillOpens old new → limit_of new ≡ limit_of old
limit_still old new still =
    sym (length-recovered new) ∙ ap (λ (l : List ℕ). length l) still.recovered ∙ (migrated_alike (recovered_of old) still.done).size ∙ length-recovered old

-- what does not fit the packages that are linked of it fits none
pub none_fit : (t : Tokens) (h : HeapState) (p : Packages) (own : ℕ) → packages_of t h ≡ Some p → own ≡ last_fixed t h → (IsSound p h own → ⊥)
    → HasPackages t h → ⊥
none_fit t h p own linked at misfit has =
    let both : Some has.0 ≡ Some p = sym has.1 ∙ linked in
    let same : has.0 ≡ p = cc in
    misfit (subst (λ (o : ℕ). IsSound p h o) (sym at) (subst (λ q. IsSound q h (last_fixed t h)) same has.2))

-- packages that the heap fits
pub has_packages : (t : Tokens) (h : HeapState) (p : Packages) (own : ℕ) → packages_of t h ≡ Some p → own ≡ last_fixed t h → IsSound p h own → HasPackages t h
has_packages t h p own linked at sound = (p, linked, subst (λ (o : ℕ). IsSound p h o) at sound)
