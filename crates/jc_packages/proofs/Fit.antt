-- What a heap asks of components and arrays.
use Rattle.std.proofs.Common.{◌≡◌, ℕ, zero, suc, ◌<◌, List, [], ◌∷◌, ◌++◌, length, slice_index_or, sym, ap, subst, arith, Option, Some, None, lit<, lit≤}
use Rattle.std.proofs.Common.{append_assoc}
use Rattle.std.proofs.lemmas.List.{length-take}
use Rattle.std.specs.Result.{result_unwrap_or}
use Rattle.jc_cap.specs.Envelope.{info_at}
use Rattle.jc_cap.specs.declared.texts.PackageBytes.{PackageBytes}
use Rattle.jc_heap.specs.Package.{AreComponents, IsTag}
use Rattle.jc_packages.specs.LinkerView.{info_of_component}
use Rattle.jc_packages.specs.RecordContents.{part, component_if_present, parts_of}

-- tags ascend from above one on, and each info has a size that is a word
abbrev pub Ascend : ℕ → List (ℕ × List ℕ) → Type 0
Ascend low [] = Unit {0}
Ascend low (c ∷ cs) = (low < c.0) × IsTag c.0 × (length c.1 < 65536) × Ascend c.0 cs

above : (low : ℕ) (cs : List (ℕ × List ℕ)) → Ascend low cs → (k : ℕ) → k < length cs → low < (slice_index_or cs k (0, [])).0
above low [] a k below = absurd (omega (arith, below))
above low (c ∷ cs) a zero below = a.0
above low (c ∷ cs) a (suc k) below = let next : c.0 < (slice_index_or cs k (0, [])).0 = above c.0 cs a.3 k (omega (arith, below)) in omega (arith, a.0, next)

tags : (low : ℕ) (cs : List (ℕ × List ℕ)) → Ascend low cs → (k : ℕ) → k < length cs → IsTag (slice_index_or cs k (0, [])).0
tags low [] a k below = absurd (omega (arith, below))
tags low (c ∷ cs) a zero below = a.1
tags low (c ∷ cs) a (suc k) below = tags c.0 cs a.3 k (omega (arith, below))

sizes : (low : ℕ) (cs : List (ℕ × List ℕ)) → Ascend low cs → (k : ℕ) → k < length cs → length (slice_index_or cs k (0, [])).1 < 65536
sizes low [] a k below = absurd (omega (arith, below))
sizes low (c ∷ cs) a zero below = a.2
sizes low (c ∷ cs) a (suc k) below = sizes c.0 cs a.3 k (omega (arith, below))

ascending : (low : ℕ) (cs : List (ℕ × List ℕ)) → Ascend low cs → (i k : ℕ) → i < k → k < length cs
    → (slice_index_or cs i (0, [])).0 < (slice_index_or cs k (0, [])).0
ascending low [] a i k before below = absurd (omega (arith, below))
ascending low (c ∷ cs) a i zero before below = absurd (omega (arith, before))
ascending low (c ∷ cs) a zero (suc k) before below = above c.0 cs a.3 k (omega (arith, below))
ascending low (c ∷ cs) a (suc i) (suc k) before below = ascending c.0 cs a.3 i k (omega (arith, before)) (omega (arith, below))

pub fit_if_ascending : (low : ℕ) (cs : List (ℕ × List ℕ)) → Ascend low cs → AreComponents cs
fit_if_ascending low cs a = record { tags = tags low cs a; ascending = ascending low cs a; sizes = sizes low cs a }

small : (tag : ℕ) (text : List ℕ) → length (info_of_component tag text) < 65536
small tag text = let short = length-take 65535 (result_unwrap_or (info_at tag text) []) in omega (arith, short)

-- one more component before others with higher tags
before : (low tag : ℕ) (text : List ℕ) (cs : List (ℕ × List ℕ)) → low < tag → IsTag tag → Ascend tag cs → Ascend low (part tag text ∷ cs)
before low tag text cs a t rest = (a, t, small tag text, rest)

from_10 : (e : Option (List ℕ)) → Ascend 8 (component_if_present 10 e)
from_10 None = tt
from_10 (Some x) = before 8 10 x [] (lit< tt) (lit< tt, lit≤ tt, λ e. omega (arith, e)) tt

from_4 : (low : ℕ) (i p c m s : List ℕ) (e : Option (List ℕ)) → low < 4 → Ascend low
    ((part 4 i ∷ part 5 p ∷ part 6 c ∷ part 7 m ∷ part 8 s ∷ []) ++ component_if_present 10 e)
from_4 low i p c m s e below =
    before low 4 i (part 5 p ∷ part 6 c ∷ part 7 m ∷ part 8 s ∷ component_if_present 10 e) below (lit< tt, lit≤ tt, λ h. omega (arith, h))
    (before 4 5 p (part 6 c ∷ part 7 m ∷ part 8 s ∷ component_if_present 10 e) (lit< tt) (lit< tt, lit≤ tt, λ h. omega (arith, h))
    (before 5 6 c (part 7 m ∷ part 8 s ∷ component_if_present 10 e) (lit< tt) (lit< tt, lit≤ tt, λ h. omega (arith, h))
    (before 6 7 m (part 8 s ∷ component_if_present 10 e) (lit< tt) (lit< tt, lit≤ tt, λ h. omega (arith, h))
    (before 7 8 s (component_if_present 10 e) (lit< tt) (lit< tt, lit≤ tt, λ h. omega (arith, h)) (from_10 e)))))

from_3 : (a : Option (List ℕ)) (i p c m s : List ℕ) (e : Option (List ℕ)) → Ascend 2
    (component_if_present 3 a ++ ((part 4 i ∷ part 5 p ∷ part 6 c ∷ part 7 m ∷ part 8 s ∷ []) ++ component_if_present 10 e))
from_3 None i p c m s e = from_4 2 i p c m s e (lit< tt)
from_3 (Some x) i p c m s e = before 2 3 x (part 4 i ∷ part 5 p ∷ part 6 c ∷ part 7 m ∷ part 8 s ∷ component_if_present 10 e) (lit< tt)
    (lit< tt, lit≤ tt, λ h. omega (arith, h)) (from_4 3 i p c m s e (lit< tt))

abbrev rest : PackageBytes → List (ℕ × List ℕ)
rest t = component_if_present 3 t.applets ++ ((part 4 t.imports ∷ part 5 t.pool ∷ part 6 t.classes ∷ part 7 t.methods ∷ part 8 t.statics ∷ [])
    ++ component_if_present 10 t.exports)

parts_are : (t : PackageBytes) → parts_of t ≡ part 1 t.header ∷ part 2 t.directory ∷ rest t
unfolding parts_of
parts_are t =
    ap (λ l. part 1 t.header ∷ part 2 t.directory ∷ l)
    (append_assoc (component_if_present 3 t.applets) (part 4 t.imports ∷ part 5 t.pool ∷ part 6 t.classes ∷ part 7 t.methods ∷ part 8 t.statics ∷ [])
    (component_if_present 10 t.exports))

ascends : (t : PackageBytes) → Ascend 0 (part 1 t.header ∷ part 2 t.directory ∷ rest t)
ascends t =
    before 0 1 t.header (part 2 t.directory ∷ rest t) (lit< tt) (lit< tt, lit≤ tt, λ h. omega (arith, h))
    (before 1 2 t.directory (rest t) (lit< tt) (lit< tt, lit≤ tt, λ h. omega (arith, h))
    (from_3 t.applets t.imports t.pool t.classes t.methods t.statics t.exports))

-- the components of a package's record
pub parts_fit : (t : PackageBytes) → AreComponents (parts_of t)
parts_fit t = subst AreComponents (sym (parts_are t)) (fit_if_ascending 0 (part 1 t.header ∷ part 2 t.directory ∷ rest t) (ascends t))
