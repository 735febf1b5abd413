-- A text has one answer.
use Rattle.std.proofs.Common.{◌≡◌, ◌+◌, ◌<◌, ◌≤◌, ℕ, List, [], ◌∷◌, ◌++◌, Option, Some, None, Ok, Err, get_or, length, reverse, refl, ap, sym, subst, ◌∙◌}
use Rattle.std.proofs.Common.{arith, ⊎_elim}
use Rattle.std.proofs.lemmas.List.{get_or_default, same_lists}
use Rattle.std.proofs.lemmas.Bool.{cases_lt, false≢true}
use Rattle.jc_platform.specs.declared.fault.TableFault.{TableFault}
use Rattle.jc_platform.specs.declared.fault.TableFault.TheVariants.{BadTable}
use Rattle.jc_platform.specs.declared.names.PlatformClass.{PlatformClass}
use Rattle.jc_platform.specs.declared.names.PlatformMethod.{PlatformMethod}
use Rattle.jc_platform.specs.declared.names.PlatformPackage.{PlatformPackage}
use Rattle.jc_platform.specs.declared.row.Row.{Row}
use Rattle.jc_platform.specs.declared.row.Version.{Version}
use Rattle.jc_platform.specs.Numbers.{class_count, class_number, method_count, method_number, package_count, package_number}
use Rattle.jc_platform.specs.PackedEntry.{row_in}
use Rattle.jc_platform.specs.Rows.{Above, above}
use Rattle.jc_platform.specs.Table.{AreThoseOf, IsBad, IsFirstBad, IsMissing, Reads, Say, Spells, largest_text}
use Rattle.jc_platform.specs.Tokens.{Tokens}
use Rattle.jc_platform.proofs.Lines.{reverse-cons}
use Rattle.jc_platform.proofs.Numbers.{class_at, method_at, package_at}

-- ---- the parts of a table say one list of rows

by_order : {G : Type 0} (m n : ℕ) → (m < n → G) → (n < m → G) → (m ≡ n → G) → G
by_order m n below above same = ⊎_elim below (λ h. ⊎_elim above (λ k. same (omega arith)) (cases_lt n m)) (cases_lt m n)

same_parts : {A : Type 0} (l m xs ys : List A) → length l ≡ length m → reverse l ++ xs ≡ reverse m ++ ys → (l ≡ m) × (xs ≡ ys)
same_parts [] [] xs ys n e = (refl, e)
same_parts [] (b ∷ m) xs ys n e = absurd (omega (arith, n))
same_parts (a ∷ l) [] xs ys n e = absurd (omega (arith, n))
same_parts (a ∷ l) (b ∷ m) xs ys n e =
    let w = same_parts l m (a ∷ xs) (b ∷ ys) (omega (arith, n)) (sym (reverse-cons a l xs) ∙ e ∙ reverse-cons b m ys) in
    let heads : l ≡ m = w.0 in
    let tails : a ∷ xs ≡ b ∷ ys = w.1 in
    (cc, cc)

same_rows : (text : List ℕ) (lines : List (List ℕ)) (rs ss : List Row) → Say text lines rs → Say text lines ss → rs ≡ ss
same_rows text [] [] [] s t = refl
same_rows text [] [] (x ∷ ss) s t = absurd t
same_rows text [] (r ∷ rs) ss s t = absurd s
same_rows text (line ∷ lines) [] ss s t = absurd s
same_rows text (line ∷ lines) (r ∷ rs) [] s t = absurd t
same_rows text (line ∷ lines) (r ∷ rs) (x ∷ ss) s t =
    let below : rs ≡ ss = same_rows text lines rs ss s.1 t.1 in
    let both : Some r ≡ Some x = sym (subst (λ (rows : List Row). row_in text (above rows) line ≡ Some r) below s.0) ∙ t.0 in
    cc

-- ---- good parts and bad ones

-- a part of a table is good: a row there, and another part follows it
abbrev IsGood : List ℕ → Above → List ℕ → List (List ℕ) → Type 0
IsGood text a part more = (row : Row) × (row_in text a part ≡ Some row) × (next : List ℕ) × (rest : List (List ℕ)) × (more ≡ next ∷ rest)

-- where more parts say rows, the one that follows fewer is good
goes_on : (text : List ℕ) (l m : List (List ℕ)) (rs ss : List Row) (p q : List ℕ) (ps qs : List (List ℕ)) → length l < length m → reverse l ++ p ∷ ps ≡ reverse m ++ q ∷ qs
    → Say text l rs → Say text m ss → IsGood text (above rs) p ps
goes_on text l [] rs ss p q ps qs h e s t = absurd (omega (arith, h))
goes_on text l (line ∷ m) rs [] p q ps qs h e s t = absurd t
goes_on text l (line ∷ m) rs (row ∷ ss) p q ps qs h e s t =
    let cut : reverse l ++ p ∷ ps ≡ reverse m ++ line ∷ q ∷ qs = e ∙ reverse-cons line m (q ∷ qs) in
    ⊎_elim (λ before. goes_on text l m rs ss p line ps (q ∷ qs) before cut s t.1) (here cut) (cases_lt (length l) (length m))
  where
    here : reverse l ++ p ∷ ps ≡ reverse m ++ line ∷ q ∷ qs → length m ≤ length l → IsGood text (above rs) p ps
    here cut last =
        let w = same_parts l m (p ∷ ps) (line ∷ q ∷ qs) (omega (arith, h, last)) cut in
        let lines : p ∷ ps ≡ line ∷ q ∷ qs = w.1 in
        let first : line ≡ p = cc in
        let rows : ss ≡ rs = same_rows text l ss rs (subst (λ (x : List (List ℕ)). Say text x ss) (sym w.0) t.1) s in
        let is_row : row_in text (above rs) line ≡ Some row = subst (λ (x : List Row). row_in text (above x) line ≡ Some row) rows t.0 in
        (row, subst (λ (x : List ℕ). row_in text (above rs) x ≡ Some row) first is_row, q, qs, cc)

not_at_end : (text : List ℕ) (a : Above) (part : List ℕ) → IsGood text a part [] → ⊥
not_at_end text a part good = absurd (let e : [] ≡ good.2 ∷ good.3 = good.4 in cc)

not_bad : (text : List ℕ) (a : Above) (part : List ℕ) (more : List (List ℕ)) → IsGood text a part more → IsBad text a part more → ⊥
not_bad text a part [] good bad = not_at_end text a part good
not_bad text a part (next ∷ rest) good bad = absurd (let e : None ≡ Some good.0 = sym bad ∙ good.1 in cc)

spelt_once : (text : List ℕ) (rs ss : List Row) → Spells text rs → Spells text ss → rs ≡ ss
spelt_once text rs ss s t =
    let e = sym s.1 ∙ t.1 in
    by_order (length s.0) (length t.0)
    (λ h. absurd (not_at_end text (above rs) [] (goes_on text s.0 t.0 rs ss [] [] [] [] h e s.2 t.2)))
    (λ h. absurd (not_at_end text (above ss) [] (goes_on text t.0 s.0 ss rs [] [] [] [] h (sym e) t.2 s.2)))
    (λ h. same_rows text t.0 rs ss (subst (λ (x : List (List ℕ)). Say text x rs) (same_parts s.0 t.0 ([] ∷ []) ([] ∷ []) h e).0 s.2) t.2)

not_spelt : (text : List ℕ) (rs : List Row) (n : ℕ) → Spells text rs → IsFirstBad text n → ⊥
not_spelt text rs n s b =
    let part = b.2 in
    let more = b.3 in
    let e : reverse s.0 ++ [] ∷ [] ≡ reverse b.0 ++ part ∷ more = sym s.1 ∙ b.4 in
    by_order (length s.0) (length b.0)
    (λ h. not_at_end text (above rs) [] (goes_on text s.0 b.0 rs b.1 [] part [] more h e s.2 b.5))
    (λ h. not_bad text (above b.1) part more (goes_on text b.0 s.0 b.1 rs part [] more [] h (sym e) b.5 s.2) b.7)
    (λ h.
    let ends : [] ∷ [] ≡ part ∷ more = (same_parts s.0 b.0 ([] ∷ []) (part ∷ more) h e).1 in
    let empty : part ≡ [] = cc in
    let last : more ≡ [] = cc in
    subst (λ (x : List (List ℕ)). IsBad text (above b.1) part x) last b.7 empty)

one_first_bad : (text : List ℕ) (m n : ℕ) → IsFirstBad text m → IsFirstBad text n → m ≡ n
one_first_bad text m n a b =
    let e : reverse a.0 ++ a.2 ∷ a.3 ≡ reverse b.0 ++ b.2 ∷ b.3 = sym a.4 ∙ b.4 in
    by_order (length a.0) (length b.0)
    (λ h. absurd (not_bad text (above a.1) a.2 a.3 (goes_on text a.0 b.0 a.1 b.1 a.2 b.2 a.3 b.3 h e a.5 b.5) a.7))
    (λ h. absurd (not_bad text (above b.1) b.2 b.3 (goes_on text b.0 a.0 b.1 a.1 b.2 a.2 b.3 a.3 h (sym e) b.5 a.5) b.7))
    (λ h. a.6 ∙ ap (λ (k : ℕ). k + 1) h ∙ sym b.6)

-- ---- what is given is not missing

not_none : {A : Type 0} (o : Option A) (x : A) → o ≡ Some x → o ≡ None → ⊥
not_none o x e n = absurd (let g : None ≡ Some x = sym n ∙ e in cc)

not_missing : (rows : List Row) (t : Tokens) → AreThoseOf (above rows) t → IsMissing (above rows) → ⊥
not_missing rows t those = ⊎_elim
    (λ e. not_none (above rows).first t.first those.first e)
    (⊎_elim
    (λ v. false≢true (sym v ∙ those.needed_packages))
    (⊎_elim
    (λ c. false≢true (sym c ∙ those.needed_classes))
    (λ m. false≢true (sym m ∙ those.needed_methods))))

-- ---- one answer

too_long : (n : ℕ) → largest_text < n → n ≤ largest_text → ⊥
too_long n long short = omega (arith, long, short)

-- a table or a fault, never both
pub no_fault : (text : List ℕ) (t : Tokens) (f : TableFault) → Reads text (Ok t) → Reads text (Err f) → ⊥
no_fault text t (BadTable n) read = ⊎_elim
    (λ long. too_long (length text) long.0 read.0)
    (⊎_elim
    (λ bad. not_spelt text read.1.0 n read.1.1 bad.1)
    (λ lacks.
    let same : lacks.2.0 ≡ read.1.0 = spelt_once text lacks.2.0 read.1.0 lacks.2.1 read.1.1 in
    not_missing read.1.0 t read.1.2 (subst (λ (x : List Row). IsMissing (above x)) same lacks.2.2)))

some_once : {A : Type 0} (o : Option A) (x y : A) → o ≡ Some x → o ≡ Some y → x ≡ y
some_once o x y e f = let g : Some x ≡ Some y = sym e ∙ f in cc

-- lists that agree wherever they have an element
all_same : {X : Type 0} (xs ys : List (Option X)) (n : ℕ) → length xs ≡ n → length ys ≡ n → ((k : ℕ) → k < n → get_or xs k None ≡ get_or ys k None) → xs ≡ ys
all_same xs ys n a b each = same_lists xs ys (a ∙ sym b) (λ k d lt.
    let x : get_or xs k d ≡ get_or xs k None = get_or_default xs k d None lt in
    let y : get_or ys k d ≡ get_or ys k None = get_or_default ys k d None (omega (arith, lt, a, b)) in
    x ∙ each k (omega (arith, lt, a)) ∙ sym y)

one_package : (vs ws : List (Option Version)) → ((p : PlatformPackage) → get_or vs (package_number p) None ≡ get_or ws (package_number p) None) → (k : ℕ)
    → k < package_count → get_or vs k None ≡ get_or ws k None
one_package vs ws each k lt = let w = package_at k lt in ap (λ (j : ℕ). get_or vs j None) (sym w.1) ∙ each w.0 ∙ ap (λ (j : ℕ). get_or ws j None) w.1

one_class : (cs ds : List (Option ℕ)) → ((c : PlatformClass) → get_or cs (class_number c) None ≡ get_or ds (class_number c) None) → (k : ℕ) → k < class_count
    → get_or cs k None ≡ get_or ds k None
one_class cs ds each k lt = let w = class_at k lt in ap (λ (j : ℕ). get_or cs j None) (sym w.1) ∙ each w.0 ∙ ap (λ (j : ℕ). get_or ds j None) w.1

one_method : (cs ds : List (Option ℕ)) → ((m : PlatformMethod) → get_or cs (method_number m) None ≡ get_or ds (method_number m) None) → (k : ℕ)
    → k < method_count → get_or cs k None ≡ get_or ds k None
one_method cs ds each k lt = let w = method_at k lt in ap (λ (j : ℕ). get_or cs j None) (sym w.1) ∙ each w.0 ∙ ap (λ (j : ℕ). get_or ds j None) w.1

-- two tables of one text are one
pub one_table : (text : List ℕ) (t u : Tokens) → Reads text (Ok t) → Reads text (Ok u) → t ≡ u
one_table text t u a b =
    let same : b.1.0 ≡ a.1.0 = spelt_once text b.1.0 a.1.0 b.1.1 a.1.1 in
    let x = a.1.2 in
    let y : AreThoseOf (above a.1.0) u = subst (λ (rows : List Row). AreThoseOf (above rows) u) same b.1.2 in
    let first = some_once (above a.1.0).first t.first u.first x.first y.first in
    let versions = all_same t.versions u.versions package_count x.as_many_versions y.as_many_versions
    (one_package t.versions u.versions (λ p. sym (x.versions p) ∙ y.versions p)) in
    let classes = all_same t.class_tokens u.class_tokens class_count x.as_many_classes y.as_many_classes
    (one_class t.class_tokens u.class_tokens (λ c. sym (x.class_tokens c) ∙ y.class_tokens c)) in
    let methods = all_same t.method_tokens u.method_tokens method_count x.as_many_methods y.as_many_methods
    (one_method t.method_tokens u.method_tokens (λ m. sym (x.method_tokens m) ∙ y.method_tokens m)) in
    let random = sym x.random ∙ y.random in
    λ i. record { first = first i; versions = versions i; class_tokens = classes i; method_tokens = methods i; random = random i }

-- two faults of one text are one
pub one_fault : (text : List ℕ) (f g : TableFault) → Reads text (Err f) → Reads text (Err g) → f ≡ g
one_fault text (BadTable m) (BadTable n) a b = ap BadTable (numbers a b)
  where
    numbers : Reads text (Err (BadTable m)) → Reads text (Err (BadTable n)) → m ≡ n
    numbers = ⊎_elim
        (λ long. ⊎_elim (λ other. long.1 ∙ sym other.1) (⊎_elim (λ bad. absurd (too_long (length text) long.0 bad.0)) (λ lacks. long.1 ∙ sym lacks.1)))
        (⊎_elim
        (λ bad. ⊎_elim (λ long. absurd (too_long (length text) long.0 bad.0)) (⊎_elim (λ other. one_first_bad text m n bad.1 other.1)
        (λ lacks. absurd (not_spelt text lacks.2.0 m lacks.2.1 bad.1))))
        (λ lacks. ⊎_elim (λ long. lacks.1 ∙ sym long.1) (⊎_elim (λ bad. absurd (not_spelt text lacks.2.0 n lacks.2.1 bad.1)) (λ other. lacks.1 ∙ sym other.1))))
