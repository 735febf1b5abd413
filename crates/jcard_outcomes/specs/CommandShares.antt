-- Shares of the commands of a script: what the text of each says, and what all of them say together.
use Rattle.std.specs.Prelude.{ℕ, ◌≡◌, ◌⊎◌, ◌+◌, ◌<◌, ◌&&◌, Bool, true, false, List, [], ◌∷◌, ◌++◌, codes, decimal, length}
use Rattle.std.specs.List.{slice_index_or}
use Rattle.jcard_outcomes.specs.Order.{AreInOrder, AreUnplaced}
use Rattle.jcard_outcomes.specs.Part.{numbered}
use Rattle.jcard_outcomes.specs.declared.join_fault.JoinFault.{JoinFault}
use Rattle.jcard_outcomes.specs.declared.join_fault.JoinFault.TheVariants.{BadLine, Missing, NoMemory}
use Rattle.jcard_outcomes.specs.declared.join.Joined.{Joined}

-- ---- one share

-- the label of the first line of a share
abbrev pub share_label : List ℕ
share_label = codes "share "

-- whether the cuts of each of its commands were all or nothing
abbrev pub whole_told : Bool → List ℕ
whole_told true = codes " all or nothing\n"
whole_told false = codes " NOT all or nothing\n"

-- how the first line of share k of n begins, k counted from 0
abbrev pub share_start : ℕ → ℕ → List ℕ
share_start k n = numbered share_label k ++ (codes "of " ++ (decimal n ++ codes ","))

-- share k of n, and the verdicts over its commands
abbrev pub share_text : ℕ → ℕ → Bool → List ℕ → List ℕ
share_text k n whole verdicts = share_start k n ++ (whole_told whole ++ verdicts)

-- ---- all shares

-- these texts are those of shares k, k + 1, .. of n, their verdicts are these, and so were the cuts of all commands
unfoldable pub AreShares : ℕ → ℕ → List (List ℕ) → List ℕ → Bool → Type 0
AreShares k n [] verdicts whole = (verdicts ≡ []) × (whole ≡ true)
AreShares k n (text ∷ texts) verdicts whole = (own : List ℕ) × (is : Bool) × (others : List ℕ) × (are : Bool) × (text ≡ share_text k n is own)
    × AreShares (k + 1) n texts others are × (verdicts ≡ own ++ others) × (whole ≡ is && are)

-- these texts, which have no heads, are those of all shares, in any order, and this is what they say together
abbrev pub AreSharesJoined : List (List ℕ) → Joined → Type 0
AreSharesJoined texts joined = (ordered : List (List ℕ)) × AreInOrder share_label texts ordered
    × AreShares 0 (length ordered) ordered joined.text.items joined.is_all_or_nothing

-- a text is that of share k of more than n
abbrev pub IsOfMore : ℕ → ℕ → List ℕ → Type 0
IsOfMore k n text = (m : ℕ) × (rest : List ℕ) × (n < m) × (m < 65536) × (text ≡ numbered share_label k ++ (codes "of " ++ (decimal m ++ 44 ∷ rest)))

-- why a text is not that of share k of n: it is one of more, and the share after those that are there is missing; or it has no such form
abbrev pub IsNoShare : ℕ → ℕ → List ℕ → JoinFault → Type 0
IsNoShare k n text NoMemory = Unit {0}
IsNoShare k n text (Missing m) = (m ≡ n) × IsOfMore k n text
IsNoShare k n text (BadLine m) = (m ≡ k) × ((whole : Bool) (verdicts : List ℕ) → text ≡ share_text k n whole verdicts → ⊥) × (IsOfMore k n text → ⊥)
IsNoShare k n text other = ⊥

-- why texts are not joined: the order of their beginnings has a gap, or two of them begin so; or one of them is no share of as many
abbrev pub AreNoShares : List (List ℕ) → JoinFault → Type 0
AreNoShares texts fault = AreUnplaced share_label texts fault
    ⊎ ((ordered : List (List ℕ)) × AreInOrder share_label texts ordered × (k : ℕ) × (k < length ordered)
    × IsNoShare k (length ordered) (slice_index_or ordered k []) fault)
