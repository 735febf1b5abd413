-- A card with two packages and an applet of each, and what a command of the first applet does, as the checker computes it.
use Rattle.std.proofs.Common.{ℕ, ◌+◌, ◌*◌, ◌-◌, List, [], ◌∷◌, ◌++◌, drop, take}
use Rattle.std.specs.Prelude.{codes, if◌then◌else◌, nat_lt, slice_get, slice_index}
use Rattle.jc_words.specs.Image.{heap_end}
use Rattle.jc_words.specs.Refusals.{no_refusals}
use Rattle.jc_heap.specs.declared.place.Place.{Place}
use Rattle.jc_heap.specs.declared.place.Place.TheVariants.{Cell}
use Rattle.jc_heap.specs.Heap.{HeapState, cells}
use Rattle.jc_heap.specs.Moves.{Begin, SetPlaces, Write, WriteNonAtomic}
use Rattle.jc_memory.specs.State.{Effect, HeapMove}
use Rattle.jc_linker.specs.Values.{Packages}
use Rattle.jc_dispatch.specs.Phase.{instance_of}
use Rattle.jc_image.specs.declared.laying.ImageRoom.{ImageRoom}
use Rattle.jc_card.specs.Card.{CardState}
use Rattle.jc_card.specs.Dispatching.{usual_budget}
use Rattle.jc_card.specs.ProductImages.{new_card_heap}
use Rattle.law_theorems.proofs.Restarts.{restarted}
use Rattle.law_theorems.proofs.TableText.{table, table_text}
use Rattle.law_theorems.proofs.Ways.{or_else}

-- ---- the bytes of the commands

-- the digit with this code
abbrev pub digit : ℕ → ℕ
digit c = if nat_lt c 58 then c - 48 else c - 55

-- the bytes that hexadecimal digits write
abbrev pub bytes_written : List ℕ → List ℕ
bytes_written (a ∷ b ∷ more) = (digit a * 16 + digit b) ∷ bytes_written more
bytes_written (a ∷ []) = []
bytes_written [] = []

-- a package with an applet comes in, by its Header and its Applet component. The applet's class has one field: as it is installed, it makes an OwnerPIN
-- of 3 tries and values of 4 bytes at most, and keeps it. Whatever it is asked, it checks the first byte of the APDU buffer, keeps the PIN again,
-- begins a transaction, updates the PIN by that byte and commits, and then does the same once more and aborts
abbrev pub load_of : List ℕ → List ℕ → List (List ℕ)
load_of header applets =
    bytes_written (codes "80B00000") ∷
    bytes_written (codes "80B20100") ∷
    bytes_written header ∷
    bytes_written (codes "80BC0000") ∷
    bytes_written (codes "80B20200") ∷
    bytes_written (codes "80B400002202001F000F001F000A00150036000C0057000A000000000000000000000000020100") ∷
    bytes_written (codes "80BC0000") ∷
    bytes_written (codes "80B20300") ∷
    bytes_written applets ∷
    bytes_written (codes "80BC0000") ∷
    bytes_written (codes "80B20400") ∷
    bytes_written (codes "80B400001804001502000107A0000000620101000107A0000000620001") ∷
    bytes_written (codes "80BC0000") ∷
    bytes_written (codes "80B20500") ∷
    bytes_written (codes "80B4000039050036000D010000000600000E0380020306800200018007000680070002000000068005010380030103800706068005020680050003800701") ∷
    bytes_written (codes "80BC0000") ∷
    bytes_written (codes "80B20600") ∷
    bytes_written (codes "80B400000F06000C008002010001070100000021") ∷
    bytes_written (codes "80BC0000") ∷
    bytes_written (codes "80B20700") ∷
    bytes_written (codes "80B400005A0700570002308F00003D8C00018B00027A0510188C0003188F00043D06078C000587067A04211883062D1A198B"
    ++ codes "000803048B000C3B181A87068D00071A198B000803048B00098D000A8D00071A198B000803048B00098D000B7A") ∷
    bytes_written (codes "80BC0000") ∷
    bytes_written (codes "80B20800") ∷
    bytes_written (codes "80B400000D08000A00000000000000000000") ∷
    bytes_written (codes "80BC0000") ∷
    bytes_written (codes "80BA0000") ∷
    []

-- so two packages come in, and an applet of each is installed
abbrev pub commands : List (List ℕ)
commands =
    load_of (codes "80B400001201000FDECAFFED010204000105F000000001") (codes "80B400000D03000A0106F000000001010001")
    ++ (load_of (codes "80B400001201000FDECAFFED010204000105F000000002") (codes "80B400000D03000A0106F000000002010001")
    ++ (bytes_written (codes "80B800000A06F00000000101000000") ∷ bytes_written (codes "80B800000A06F00000000201000000") ∷ []))

-- SELECT of the first
abbrev pub select_first : List ℕ
select_first = bytes_written (codes "00A4040006F00000000101")

-- ---- the card

abbrev pub no_packages : Packages
no_packages = record { platform = table; loaded = [] }

-- with a journal of 256 entries, and as many transient cells as are usual
abbrev pub usual_room : ImageRoom
usual_room = record { capacity = 256; cells = 0; buffer = 0 }

abbrev pub new_heap : HeapState
new_heap = new_card_heap 8192 usual_room table_text table

-- a new card
abbrev pub new_card : CardState
new_card = restarted usual_budget table no_packages new_heap 0 (heap_end 8192 256) no_refusals

-- the PIN of the applet with a number
abbrev pub pin_of : CardState → ℕ → ℕ
pin_of card a = slice_index (cells card.memory.heap.now (instance_of card.memory a)) 0

-- ---- what the command does, of its effects

abbrev pub effect : List Effect → ℕ → Effect
effect es n = or_else (HeapMove Begin) (slice_get es n)

-- those from number n on, k of them
abbrev pub part : List Effect → ℕ → ℕ → List Effect
part es n k = take k (drop n es)

-- the place that is set for good, and what is set
abbrev pub place_counted : Effect → Place
place_counted (HeapMove (WriteNonAtomic place v)) = place
place_counted e = Cell 0 0

abbrev pub tries_set : Effect → ℕ
tries_set (HeapMove (WriteNonAtomic place v)) = v
tries_set e = 0

abbrev pub place_set : Effect → Place
place_set (HeapMove (Write place v)) = place
place_set e = Cell 0 0

abbrev pub value_set : Effect → ℕ
value_set (HeapMove (Write place v)) = v
value_set e = 0

abbrev pub changes_set : Effect → List (Place × ℕ)
changes_set (HeapMove (SetPlaces changes)) = changes
changes_set e = []
