-- Lists of moves, one after another, and the law of atomicity.
use Rattle.std.proofs.Common.{◌≡◌, true, List, [], ◌∷◌, refl, ◌∙◌, ap, if◌then◌else◌}
use Rattle.jc_heap.specs.Heap.{HeapState, HeapView}
use Rattle.jc_heap.specs.Moves.{Move, Write, SetPlaces, WriteNonAtomic, SetCells, AddObject, AddTransient, AddPackage, Begin, Commit, Abort, apply_move}
use Rattle.jc_heap.specs.Moves.{apply_moves, with_nonatomic_writes, KeepsDurable}

-- moves neither clear nor set what is down, and refuse nothing
down-apply_move : (m : Move) (h : HeapView) → (apply_move m h).down ≡ h.down
down-apply_move (Write p v) h = refl
down-apply_move (SetPlaces cs) h = refl
down-apply_move (WriteNonAtomic p v) h = refl
down-apply_move (SetCells r i vs) h = refl
down-apply_move (AddObject o size) h = refl
down-apply_move (AddTransient kind event class owner long) h = refl
down-apply_move (AddPackage components arrays rest) h = refl
down-apply_move Begin h = refl
down-apply_move Commit h = refl
down-apply_move Abort h = refl

refusals-apply_move : (m : Move) (h : HeapView) → (apply_move m h).refusals ≡ h.refusals
refusals-apply_move (Write p v) h = refl
refusals-apply_move (SetPlaces cs) h = refl
refusals-apply_move (WriteNonAtomic p v) h = refl
refusals-apply_move (SetCells r i vs) h = refl
refusals-apply_move (AddObject o size) h = refl
refusals-apply_move (AddTransient kind event class owner long) h = refl
refusals-apply_move (AddPackage components arrays rest) h = refl
refusals-apply_move Begin h = refl
refusals-apply_move Commit h = refl
refusals-apply_move Abort h = refl

size-apply_move : (m : Move) (h : HeapView) → (apply_move m h).size ≡ h.size
size-apply_move (Write p v) h = refl
size-apply_move (SetPlaces cs) h = refl
size-apply_move (WriteNonAtomic p v) h = refl
size-apply_move (SetCells r i vs) h = refl
size-apply_move (AddObject o size) h = refl
size-apply_move (AddTransient kind event class owner long) h = refl
size-apply_move (AddPackage components arrays rest) h = refl
size-apply_move Begin h = refl
size-apply_move Commit h = refl
size-apply_move Abort h = refl

pub down-apply_moves : (ms : List Move) (h : HeapView) → (apply_moves ms h).down ≡ h.down
down-apply_moves [] h = refl
down-apply_moves (m ∷ ms) h = down-apply_moves ms (apply_move m h) ∙ down-apply_move m h

pub refusals-apply_moves : (ms : List Move) (h : HeapView) → (apply_moves ms h).refusals ≡ h.refusals
refusals-apply_moves [] h = refl
refusals-apply_moves (m ∷ ms) h = refusals-apply_moves ms (apply_move m h) ∙ refusals-apply_move m h

pub size-apply_moves : (ms : List Move) (h : HeapView) → (apply_moves ms h).size ≡ h.size
size-apply_moves [] h = refl
size-apply_moves (m ∷ ms) h = size-apply_moves ms (apply_move m h) ∙ size-apply_move m h

-- the durable heap of a change inside
kept_inside : (h : HeapView) (x : HeapState) → h.begun ≡ true → (if h.begun then h.durable else x) ≡ h.durable
kept_inside h x b = ap (λ g. if g then h.durable else x) b

pub keeps_durable : KeepsDurable
keeps_durable [] h b p = refl
keeps_durable (Write p v ∷ ms) h b q = keeps_durable ms (apply_move (Write p v) h) b q
    ∙ ap (with_nonatomic_writes ms (apply_move (Write p v) h)) (kept_inside h _ b)
keeps_durable (SetPlaces cs ∷ ms) h b p = keeps_durable ms (apply_move (SetPlaces cs) h) b p
    ∙ ap (with_nonatomic_writes ms (apply_move (SetPlaces cs) h)) (kept_inside h _ b)
keeps_durable (WriteNonAtomic p v ∷ ms) h b q = keeps_durable ms (apply_move (WriteNonAtomic p v) h) b q
keeps_durable (SetCells r i vs ∷ ms) h b p = keeps_durable ms (apply_move (SetCells r i vs) h) b p
    ∙ ap (with_nonatomic_writes ms (apply_move (SetCells r i vs) h)) (kept_inside h _ b)
keeps_durable (AddObject o size ∷ ms) h b p = keeps_durable ms (apply_move (AddObject o size) h) b p
    ∙ ap (with_nonatomic_writes ms (apply_move (AddObject o size) h)) (kept_inside h _ b)
keeps_durable (AddTransient kind event class owner long ∷ ms) h b p =
    keeps_durable ms (apply_move (AddTransient kind event class owner long) h) b p
    ∙ ap (with_nonatomic_writes ms (apply_move (AddTransient kind event class owner long) h)) (kept_inside h _ b)
keeps_durable (AddPackage components arrays rest ∷ ms) h b p =
    keeps_durable ms (apply_move (AddPackage components arrays rest) h) b p ∙ ap (with_nonatomic_writes ms (apply_move (AddPackage components arrays rest) h))
    (kept_inside h _ b)
keeps_durable (Begin ∷ ms) h b p = absurd p
keeps_durable (Commit ∷ ms) h b p = absurd p
keeps_durable (Abort ∷ ms) h b p = absurd p
