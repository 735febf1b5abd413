-- What is answered about an image that is opened: if that migrated it, it stands for the same heap.
use Rattle.std.proofs.Common.{◌≡◌, ◌∙◌, ◌+◌, ◌/◌, ◌≤◌, ℕ, List, Option, Some, None, Result, Ok, Err, ap, arith, get_or, length, refl, subst, sym}
use Rattle.jc_words.specs.Layout.{text_length_address, text_start}
use Rattle.jc_commit.specs.Image.{IsGoodLog, recovered_of}
use Rattle.jc_commit.specs.Migration.{migrated}
use Rattle.jc_heap.specs.HeapLaws.{StandAlike}
use Rattle.jc_heap.specs.Heap.{HeapState, heap_of}
use Rattle.jc_heap.specs.Image.{IsWellFormed, base, image, table_text}
use Rattle.jc_heap.proofs.Following.{base_is}
use Rattle.jc_heap.specs.WholeHeap.{IsConsistent}
use Rattle.jc_heap.proofs.Migrated.{migrated_alike}
use Rattle.jc_platform.specs.Table.{Reads}
use Rattle.jc_platform.specs.Tokens.{Tokens}
use Rattle.jc_platform.proofs.OneAnswer.{one_table}
use Rattle.jc_linker.specs.Values.{Packages}
use Rattle.jc_packages.specs.Tables.{IsNoTable}
use Rattle.jc_packages.specs.Reading.{packages_of}
use Rattle.jc_objects.specs.ImageObjects.{IsImage, IsNoImage, IsNotWhole, IsWhole}
use Rattle.jc_objects.specs.Legend.{ArePackagesIn, HasNoPackages, IsNotLinked}
use Rattle.jc_packages.specs.declared.fault.ReadFault.{ReadFault}
use Rattle.jc_packages.specs.declared.fault.ReadFault.TheVariants.{NoMemory, Damaged}

-- the words that an opening leaves are whole where the recovered ones are
pub whole_before : (w plain : List ℕ) (t : Tokens) → plain ≡ migrated 3 w → IsWhole plain t → IsWhole w t
whole_before w plain t same whole =
    let alike : StandAlike w (migrated 3 w) = migrated_alike w 3 in
    let moved : IsWhole (migrated 3 w) t = subst (λ (p : List ℕ). IsWhole p t) same whole in
    record {
      formed = alike.back moved.formed;
      consistent = subst IsConsistent alike.heap moved.consistent;
      table = subst (λ (text : List ℕ). Reads text (Ok t)) alike.text moved.table;
    }

pub whole_behind : (w plain : List ℕ) (t : Tokens) → plain ≡ migrated 3 w → IsWhole w t → IsWhole plain t
whole_behind w plain t same whole =
    let alike : StandAlike w (migrated 3 w) = migrated_alike w 3 in
    subst (λ (p : List ℕ). IsWhole p t) (sym same) (record {
      formed = alike.laid whole.formed;
      consistent = subst IsConsistent (sym alike.heap) whole.consistent;
      table = subst (λ (text : List ℕ). Reads text (Ok t)) (sym alike.text) whole.table;
    })

-- and stand for the same heap
pub heap_behind : (w plain : List ℕ) → plain ≡ migrated 3 w → heap_of plain ≡ heap_of w
heap_behind w plain same = ap heap_of same ∙ (let alike : StandAlike w (migrated 3 w) = migrated_alike w 3 in alike.heap)

-- so the image is one, or is none
pub image_before : (words plain : List ℕ) (t : Tokens) → IsGoodLog words → plain ≡ migrated 3 (recovered_of words) → IsWhole plain t → IsImage words t
image_before words plain t good same whole = record { good = good; whole = whole_before (recovered_of words) plain t same whole }

pub no_image : (words plain : List ℕ) → plain ≡ migrated 3 (recovered_of words) → ((t : Tokens) → IsWhole plain t → ⊥) → (t : Tokens) → IsImage words t → ⊥
no_image words plain same none t is = none t (whole_behind (recovered_of words) plain t same is.whole)

-- well-formed words have those of their table text
text_there : (w : List ℕ) → IsWellFormed w → text_start + (get_or w text_length_address 0 + 1) / 2 ≤ length w
text_there w formed =
    let b : base (image w) ≡ text_start + (get_or w text_length_address 0 + 1) / 2 = base_is w formed in
    omega (arith, b, formed.based, formed.fits)

-- why nothing is answered, from the table, the heap and the packages to the words
pub whole_untold : (fault : ReadFault) (w : List ℕ) → IsNoTable w fault → IsNotWhole w fault
whole_untold NoMemory w none = tt
whole_untold Damaged w none = λ t whole. none t (text_there w whole.formed, whole.table)

pub image_untold : (fault : ReadFault) (words plain : List ℕ) → plain ≡ migrated 3 (recovered_of words) → IsNotWhole plain fault → IsNoImage words fault
image_untold NoMemory words plain same none = tt
image_untold Damaged words plain same none = no_image words plain same none

pub packages_untold : (fault : ReadFault) (words plain : List ℕ) → plain ≡ migrated 3 (recovered_of words) → IsNotWhole plain fault
    → HasNoPackages words fault
packages_untold NoMemory words plain same none = tt
packages_untold Damaged words plain same none = λ t is. absurd (no_image words plain same none t is)

pub legend_untold : (fault : ReadFault) (t : Tokens) (words plain : List ℕ) → plain ≡ migrated 3 (recovered_of words) → IsNotWhole plain fault
    → IsNotLinked t words fault
legend_untold NoMemory t words plain same none = tt
legend_untold Damaged t words plain same none = λ u is. absurd (no_image words plain same none u is)

-- why a heap has no packages: memory was refused, or they do not link
abbrev pub HasNoneLinked : Tokens → HeapState → ReadFault → Type 0
HasNoneLinked t h NoMemory = Unit {0}
HasNoneLinked t h Damaged = packages_of t h ≡ None

pub unlinked : (fault : ReadFault) (t : Tokens) (h : HeapState) → ((let r : Result Packages ReadFault = Err fault in r ≡ Err Damaged) → packages_of t h ≡ None)
    → HasNoneLinked t h fault
unlinked NoMemory t h none = tt
unlinked Damaged t h none = none refl

-- the packages of a heap that an opened image is
pub packages_behind : (t : Tokens) (words plain : List ℕ) (h : HeapState) (o : Option Packages) → plain ≡ migrated 3 (recovered_of words) → h ≡ heap_of plain
    → packages_of t h ≡ o → packages_of t (heap_of (recovered_of words)) ≡ o
packages_behind t words plain h o same is told =
    ap (packages_of t) (sym (heap_behind (recovered_of words) plain same)) ∙ ap (packages_of t) (sym is) ∙ told

pub none_linked : (fault : ReadFault) (t : Tokens) (words plain : List ℕ) (h : HeapState) → plain ≡ migrated 3 (recovered_of words) → h ≡ heap_of plain
    → HasNoneLinked t h fault → IsNotLinked t words fault
none_linked NoMemory t words plain h same is none = tt
none_linked Damaged t words plain h same is none = λ u image. packages_behind t words plain h None same is none

-- one image has one platform, so no packages after it are none after any
pub none_packaged : (fault : ReadFault) (t : Tokens) (words plain : List ℕ) (h : HeapState) → plain ≡ migrated 3 (recovered_of words) → h ≡ heap_of plain
    → IsWhole plain t → HasNoneLinked t h fault → HasNoPackages words fault
none_packaged NoMemory t words plain h same is whole none = tt
none_packaged Damaged t words plain h same is whole none = λ u image.
    let mine : IsWhole (recovered_of words) t = whole_before (recovered_of words) plain t same whole in
    subst (λ (s : Tokens). packages_of s (heap_of (recovered_of words)) ≡ None) (one_table (table_text (recovered_of words)) t u mine.table image.whole.table)
    (packages_behind t words plain h None same is none)

pub none_found : (fault : ReadFault) (t : Tokens) (words : List ℕ) → fault ≡ Damaged → IsNotLinked t words fault → ArePackagesIn t words None
none_found fault t words is none = subst (λ (f : ReadFault). IsNotLinked t words f) is none
