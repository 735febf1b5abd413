-- Whether words are laid, as an answer.
use Rattle.std.proofs.Common.{arith, ◌≡◌, ℕ, ◌≤◌, inl, inr, List, [], ◌∷◌, length, get_or, refl, sym, ◌∙◌, ap, true, false}
use Rattle.std.specs.Prelude.{◌↔◌, ◌==◌, ◌&&◌, nat_le, nat_lt}
use Rattle.std.specs.List.{list_all}
use Rattle.std.proofs.lemmas.Bool.{and_from, and_parts, cases_Bool, cases_lt, eq-eqb, eqb-true, le-leb, leb-true, lt-ltb, ltb-true, ne_eqb, or_from, or_parts}
use Rattle.std.proofs.lemmas.Bool.{true≢false}
use Rattle.jc_words.specs.Layout.{top_address}
use Rattle.jc_heap.specs.Image.{IsWellFormed, base, image, is_package, missing_words_of_image, package_addresses}
use Rattle.jc_commit.specs.Image.{recovered_of}
use Rattle.jc_commit.specs.Migration.{migrated}
use Rattle.jc_heap.proofs.Migrated.{migrated_alike}
use Rattle.jc_card.specs.PowerUp.{RefusalLeaves}
use Rattle.jc_card.specs.declared.power_up.PowerFault.{PowerFault as Fault}
use Rattle.jc_card.specs.declared.power_up.PowerFault.TheVariants.{BadMagic, BadVersion, BadSize, BadLog, BadTable, BadPackage, NoMemory, StoreDown}
use Rattle.jc_card.specs.State.Power.{is_well_formed}

none_above : (top : ℕ) (ps : List ℕ) → list_all (λ p. nat_lt p top) ps ≡ true → (a : ℕ) → top ≤ a → is_package ps a ≡ false
none_above top [] below a le = refl
none_above top (p ∷ ps) below a le =
    let both = and_parts (nat_lt p top) (list_all (λ q. nat_lt q top) ps) below in
    or_from (p == a) (is_package ps a) (ne_eqb p a (λ same. omega (arith, same, le, ltb-true p top both.0))) (none_above top ps both.1 a le)

all_below : (top : ℕ) (ps : List ℕ) → ((a : ℕ) → top ≤ a → is_package ps a ≡ false) → list_all (λ p. nat_lt p top) ps ≡ true
all_below top [] none = refl
all_below top (p ∷ ps) none =
    let rest = all_below top ps (λ a le. (or_parts (p == a) (is_package ps a) (none a le)).1) in
    elim (cases_lt p top) [
      | inl below ↦ and_from (nat_lt p top) (list_all (λ q. nat_lt q top) ps) (lt-ltb p top below) rest
      | inr above ↦ absurd (true≢false (sym (eq-eqb p p refl) ∙ (or_parts (p == p) (is_package ps p) (none p above)).0))
    ]

-- words of which that is answered are laid
pub laid_if : (w : List ℕ) → is_well_formed w ≡ true → IsWellFormed w
unfolding is_well_formed
laid_if w is =
    let top = get_or w top_address 0 in
    let a = nat_le (base (image w)) top in
    let b = nat_le top (length w) in
    let c = missing_words_of_image (image w) == 0 in
    let d = list_all (λ p. nat_lt p top) (package_addresses (image w)) in
    let first = and_parts a (b && (c && d)) is in
    let second = and_parts b (c && d) first.1 in
    let third = and_parts c d second.1 in
    record {
      based = leb-true (base (image w)) top first.0;
      fits = leb-true top (length w) second.0;
      whole = eqb-true (missing_words_of_image (image w)) 0 third.0;
      packages = none_above top (package_addresses (image w)) third.1;
    }

-- of laid words that is answered
pub if_laid : (w : List ℕ) → IsWellFormed w → is_well_formed w ≡ true
unfolding is_well_formed
if_laid w laid =
    let top = get_or w top_address 0 in
    let a = nat_le (base (image w)) top in
    let b = nat_le top (length w) in
    let c = missing_words_of_image (image w) == 0 in
    let d = list_all (λ p. nat_lt p top) (package_addresses (image w)) in
    and_from a (b && (c && d)) (le-leb (base (image w)) top laid.based) (and_from b (c && d) (le-leb top (length w) laid.fits)
    (and_from c d (eq-eqb (missing_words_of_image (image w)) 0 laid.whole) (all_below top (package_addresses (image w)) laid.packages)))

pub same_answer : (v w : List ℕ) → IsWellFormed v ↔ IsWellFormed w → is_well_formed v ≡ is_well_formed w
same_answer v w both = elim (cases_Bool (is_well_formed w)) [
  | inl is ↦ if_laid v (both.1 (laid_if w is)) ∙ sym is
  | inr isnt ↦ elim (cases_Bool (is_well_formed v)) [
    | inl is ↦ absurd (true≢false (sym (if_laid w (both.0 (laid_if v is))) ∙ isnt))
    | inr other ↦ other ∙ sym isnt
  ]
]

-- what a power up that found a fault leaves is laid where it was before
pub laid_still : (fault : Fault) (old new : List ℕ) → (fault ≡ StoreDown → ⊥) → RefusalLeaves fault old new
    → is_well_formed (recovered_of new) ≡ is_well_formed (recovered_of old)
laid_still BadMagic old new other stands = ap (λ w. is_well_formed (recovered_of w)) stands
laid_still BadVersion old new other stands = ap (λ w. is_well_formed (recovered_of w)) stands
laid_still BadSize old new other stands = ap (λ w. is_well_formed (recovered_of w)) stands
laid_still BadLog old new other stands = ap (λ w. is_well_formed (recovered_of w)) stands
laid_still BadTable old new other stands =
    let alike = migrated_alike (recovered_of old) 3 in
    ap is_well_formed stands.recovered ∙ same_answer (migrated 3 (recovered_of old)) (recovered_of old) (alike.back, alike.laid)
laid_still BadPackage old new other stands =
    let alike = migrated_alike (recovered_of old) 3 in
    ap is_well_formed stands.recovered ∙ same_answer (migrated 3 (recovered_of old)) (recovered_of old) (alike.back, alike.laid)
laid_still NoMemory old new other stands =
    let alike = migrated_alike (recovered_of old) 3 in
    ap is_well_formed stands.recovered ∙ same_answer (migrated 3 (recovered_of old)) (recovered_of old) (alike.back, alike.laid)
laid_still StoreDown old new other stands = absurd (other refl)
