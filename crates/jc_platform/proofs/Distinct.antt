-- The tokens of one place are different.
use Rattle.std.proofs.Common.{◌≡◌, ◌<◌, ◌==◌, ◌&&◌, ◌||◌, cond, not, ℕ, Bool, true, false, List, [], ◌∷◌, Option, Some, None, Ok, length, get_or, refl, ap, sym, subst, ◌∙◌}
use Rattle.std.proofs.Common.{arith}
use Rattle.std.specs.Prelude.{find, if◌then◌else◌, is_some, nat_le}
use Rattle.std.specs.List.{list_all}
use Rattle.std.specs.Str.{bytes_eq}
use Rattle.std.proofs.lemmas.Bool.{false≢true}
use Rattle.std.proofs.lemmas.Bool.Decides.{Decides-eqb}
use Rattle.std.proofs.lemmas.List.Folds.{list_any_at}
use Rattle.jc_platform.specs.declared.names.PlatformClass.{PlatformClass}
use Rattle.jc_platform.specs.declared.names.MethodKind.{MethodKind}
use Rattle.jc_platform.specs.declared.names.PlatformMethod.{PlatformMethod}
use Rattle.jc_platform.specs.declared.names.PlatformPackage.{PlatformPackage}
use Rattle.jc_platform.specs.declared.row.Row.{Row}
use Rattle.jc_platform.specs.declared.row.Row.TheVariants.{Extended, Random, Package, Class, Method}
use Rattle.jc_platform.specs.NamePlaces.{AreDistinct, class_of, entry_of_class, home_of, entry_of_method, kind_of_method}
use Rattle.jc_platform.specs.Names.{MethodEntry, classes, methods, no_class, no_method}
use Rattle.jc_platform.specs.Numbers.{class_number, kind_number, method_number, package_number, same_class, same_kind, same_package}
use Rattle.jc_platform.specs.Rows.{Above, above, class_token_in, has_class_token, has_method_token, has_supertypes, is_package, is_token, largest_token, method_token_in}
use Rattle.jc_platform.specs.Table.{Reads, Say}
use Rattle.jc_platform.specs.Tokens.{Tokens}
use Rattle.jc_platform.proofs.Facts.{at_number, class_at_place, class_places, homes, method_at_place, method_homes, method_places}
use Rattle.jc_platform.proofs.Fitting.{IsFitting, part_fits}
use Rattle.jc_platform.proofs.Lists.{and_true}
use Rattle.jc_platform.proofs.Numbers.{class_below, method_below}

pub both : (x y : Bool) → x ≡ true → y ≡ true → (x && y) ≡ true
both true y p q = q
both false y p q = absurd (false≢true p)

not_true : (b : Bool) → not b ≡ true → b ≡ false
not_true true e = absurd (false≢true e)
not_true false e = refl

-- ---- what a new row keeps

module _ {X K : Type 0} (number : X → ℕ) (key : X → K) (f : X → Option ℕ) (b : X) (s : ℕ)
    (earlier : (c d : X) (t : ℕ) → key c ≡ key d → f c ≡ Some t → f d ≡ Some t → c ≡ d) (free : (d : X) → key b ≡ key d → f d ≡ Some s → ⊥) where
  by_places : (c d : X) (t : ℕ) (p q : Bool) → key c ≡ key d → (p ≡ true → b ≡ c) → (q ≡ true → b ≡ d) → (if p then Some s else f c) ≡ Some t
      → (if q then Some s else f d) ≡ Some t → c ≡ d
  by_places c d t true true k l r g h = sym (l refl) ∙ r refl
  by_places c d t true false k l r g h = absurd (free d (ap key (l refl) ∙ k) (h ∙ sym g))
  by_places c d t false true k l r g h = absurd (free c (ap key (r refl) ∙ sym k) (g ∙ sym h))
  by_places c d t false false k l r g h = earlier c d t k g h

-- ---- the lists of names

found_case : {X : Type 0} (q p : X → Bool) (x : X) (xs : List X) (e : X) (b : Bool) → q x ≡ true → (find p xs ≡ Some e → q e ≡ true)
    → cond b (Some x) (find p xs) ≡ Some e → q e ≡ true
found_case q p x xs e true here later h = let g : Some x ≡ Some e = h in let same : x ≡ e = cc in subst (λ y. q y ≡ true) same here
found_case q p x xs e false here later h = later h

-- what every element has, a found one has
pub found_has : {X : Type 0} (q p : X → Bool) (xs : List X) (e : X) → list_all q xs ≡ true → find p xs ≡ Some e → q e ≡ true
found_has q p [] e all h = absurd (let g : None ≡ Some e = h in cc)
found_has q p (x ∷ xs) e all h =
    let parts = and_true (q x) (list_all q xs) all in
    found_case q p x xs e (p x) parts.0 (found_has q p xs e parts.1) h

pub class_by_number : (c d : PlatformClass) → class_number c ≡ class_number d → c ≡ d
class_by_number c d e = sym (class_at_place c) ∙ ap (λ (n : ℕ). (get_or classes n no_class).class) e ∙ class_at_place d

pub numbered_method : (m : PlatformMethod) → (get_or methods (method_number m) no_method).method ≡ m
numbered_method m = ap (λ (e : MethodEntry). e.method) (at_number m) ∙ method_at_place m

pub method_by_number : (m n : PlatformMethod) → method_number m ≡ method_number n → m ≡ n
method_by_number m n e = sym (numbered_method m) ∙ ap (λ (k : ℕ). (get_or methods k no_method).method) e ∙ numbered_method n

-- ---- a name that may stand has a free token

class_free : (a : Above) (b : PlatformClass) (s : ℕ) → IsFitting a (Class b s) → (d : PlatformClass) → home_of b ≡ home_of d → a.class_token d ≡ Some s → ⊥
class_free a b s fit d k token =
    let e = entry_of_class b in
    let no : has_class_token a e.home s ≡ false = not_true (has_class_token a e.home s)
    (and_true ((e.needed || a.extended) && is_package a.home e.home && has_supertypes a e.class && not (is_some (a.class_token e.class))) (not (has_class_token a e.home s)) fit).1 in
    let place : class_number d < length classes = omega (arith, class_below d, class_places) in
    let home : same_package (home_of d) e.home ≡ true = (Decides-eqb _ _).1 (ap package_number (sym k)) in
    let has : is_token (a.class_token (entry_of_class d).class) s ≡ true =
    ap (λ (c : PlatformClass). is_token (a.class_token c) s) (class_at_place d) ∙ ap (λ (o : Option ℕ). is_token o s) token
    ∙ (Decides-eqb s s).1 refl in
    let yes : has_class_token a e.home s ≡ true = list_any_at (λ f. same_package f.home e.home && is_token (a.class_token f.class) s) classes (class_number d)
    no_class place (both _ _ home has) in
    false≢true (sym no ∙ yes)

method_free : (a : Above) (b : PlatformMethod) (s : ℕ) → IsFitting a (Method b s) → (d : PlatformMethod) → class_of b ≡ class_of d
    → kind_of_method b ≡ kind_of_method d → a.method_token d ≡ Some s → ⊥
method_free a b s fit d k l token =
    let e = entry_of_method b in
    let no : has_method_token a e.class e.kind s ≡ false = not_true (has_method_token a e.class e.kind s)
    (and_true ((e.needed || a.extended) && nat_le s (largest_token e.kind) && not (is_some (a.method_token e.method))) (not (has_method_token a e.class e.kind s)) fit.0).1 in
    let place : method_number d < length methods = omega (arith, method_below d, method_places) in
    let class : same_class (class_of d) e.class ≡ true = (Decides-eqb _ _).1 (ap class_number (sym k)) in
    let kind : same_kind (kind_of_method d) e.kind ≡ true = (Decides-eqb _ _).1 (ap kind_number (sym l)) in
    let has : is_token (a.method_token (get_or methods (method_number d) no_method).method) s ≡ true =
    ap (λ (m : PlatformMethod). is_token (a.method_token m) s) (numbered_method d) ∙ ap (λ (o : Option ℕ). is_token o s) token
    ∙ (Decides-eqb s s).1 refl in
    let at = sym (at_number d) in
    let class_at : same_class (class_of d) e.class ≡ true → same_class (get_or methods (method_number d) no_method).class e.class ≡ true =
    λ is. subst (λ (x : MethodEntry). same_class x.class e.class ≡ true) at is in
    let kind_at : same_kind (kind_of_method d) e.kind ≡ true → same_kind (get_or methods (method_number d) no_method).kind e.kind ≡ true =
    λ is. subst (λ (x : MethodEntry). same_kind x.kind e.kind ≡ true) at is in
    let yes : has_method_token a e.class e.kind s ≡ true = list_any_at (λ f. same_class f.class e.class && same_kind f.kind e.kind && is_token
    (a.method_token f.method) s) methods (method_number d) no_method place (both _ _ (both _ _ (class_at class) (kind_at kind)) has) in
    false≢true (sym no ∙ yes)

-- ---- all rows

distinct_classes : (text : List ℕ) (lines : List (List ℕ)) (rows : List Row) → Say text lines rows → (c d : PlatformClass) (t : ℕ) → home_of c ≡ home_of d
    → class_token_in rows c ≡ Some t → class_token_in rows d ≡ Some t → c ≡ d
distinct_classes text [] [] said c d t k g h = absurd (let e : None ≡ Some t = g in cc)
distinct_classes text [] (row ∷ rows) said c d t k g h = absurd said
distinct_classes text (line ∷ lines) [] said c d t k g h = absurd said
distinct_classes text (line ∷ lines) (Extended ∷ rows) said c d t k g h = distinct_classes text lines rows said.1 c d t k g h
distinct_classes text (line ∷ lines) (Random bytes ∷ rows) said c d t k g h = distinct_classes text lines rows said.1 c d t k g h
distinct_classes text (line ∷ lines) (Package p v ∷ rows) said c d t k g h = distinct_classes text lines rows said.1 c d t k g h
distinct_classes text (line ∷ lines) (Method m s ∷ rows) said c d t k g h = distinct_classes text lines rows said.1 c d t k g h
distinct_classes text (line ∷ lines) (Class b s ∷ rows) said c d t k g h =
    by_places class_number home_of (class_token_in rows) b s (distinct_classes text lines rows said.1)
    (class_free (above rows) b s (part_fits text (above rows) line (Class b s) said.0)) c d t (same_class b c) (same_class b d) k
    (λ e. class_by_number b c ((Decides-eqb (class_number b) (class_number c)).0 e))
    (λ e. class_by_number b d ((Decides-eqb (class_number b) (class_number d)).0 e)) g h

-- the class and the kind of a method
abbrev place_of : PlatformMethod → PlatformClass × MethodKind
place_of m = (class_of m, kind_of_method m)

distinct_methods : (text : List ℕ) (lines : List (List ℕ)) (rows : List Row) → Say text lines rows → (c d : PlatformMethod) (t : ℕ) → place_of c ≡ place_of d
    → method_token_in rows c ≡ Some t → method_token_in rows d ≡ Some t → c ≡ d
distinct_methods text [] [] said c d t k g h = absurd (let e : None ≡ Some t = g in cc)
distinct_methods text [] (row ∷ rows) said c d t k g h = absurd said
distinct_methods text (line ∷ lines) [] said c d t k g h = absurd said
distinct_methods text (line ∷ lines) (Extended ∷ rows) said c d t k g h = distinct_methods text lines rows said.1 c d t k g h
distinct_methods text (line ∷ lines) (Random bytes ∷ rows) said c d t k g h = distinct_methods text lines rows said.1 c d t k g h
distinct_methods text (line ∷ lines) (Package p v ∷ rows) said c d t k g h = distinct_methods text lines rows said.1 c d t k g h
distinct_methods text (line ∷ lines) (Class m s ∷ rows) said c d t k g h = distinct_methods text lines rows said.1 c d t k g h
distinct_methods text (line ∷ lines) (Method b s ∷ rows) said c d t k g h =
    by_places method_number place_of (method_token_in rows) b s (distinct_methods text lines rows said.1)
    (λ n l. method_free (above rows) b s (part_fits text (above rows) line (Method b s) said.0) n (ap (λ (p : PlatformClass × MethodKind). p.0) l)
    (ap (λ (p : PlatformClass × MethodKind). p.1) l)) c d t (method_number b == method_number c) (method_number b == method_number d) k
    (λ e. method_by_number b c ((Decides-eqb (method_number b) (method_number c)).0 e))
    (λ e. method_by_number b d ((Decides-eqb (method_number b) (method_number d)).0 e)) g h

pub distinct : (text : List ℕ) (t : Tokens) → Reads text (Ok t) → AreDistinct t
distinct text t read =
    let rows = read.1.0 in
    let said = read.1.1.2 in
    let lines = read.1.1.0 in
    let those = read.1.2 in
    record {
      of_classes = λ c d token k e f. distinct_classes text lines rows said c d token k (those.class_tokens c ∙ e) (those.class_tokens d ∙ f);
      of_methods = λ m n token k l e f. distinct_methods text lines rows said m n token (λ i. (k i, l i)) (those.method_tokens m ∙ e) (those.method_tokens n ∙ f);
    }
