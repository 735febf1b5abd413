-- Where a class stands in a table, so do its superclass and its interfaces.
use Rattle.std.proofs.Common.{◌≡◌, ◌&&◌, ◌||◌, not, ℕ, Bool, true, false, List, [], ◌∷◌, Option, Some, None, refl, ap, sym, subst, ◌∙◌}
use Rattle.std.specs.Prelude.{if◌then◌else◌, is_some}
use Rattle.std.specs.List.{list_all}
use Rattle.std.proofs.lemmas.Bool.{false≢true}
use Rattle.std.proofs.lemmas.Bool.Decides.{Decides-eqb}
use Rattle.jc_platform.specs.declared.names.PlatformClass.{PlatformClass}
use Rattle.jc_platform.specs.declared.row.Row.{Row}
use Rattle.jc_platform.specs.declared.row.Row.TheVariants.{Extended, Random, Package, Class, Method}
use Rattle.jc_platform.specs.NamePlaces.{entry_of_class, is_needed_class}
use Rattle.jc_platform.specs.Hierarchy.{interfaces_of, superclass_of}
use Rattle.jc_platform.specs.Numbers.{class_number, same_class}
use Rattle.jc_platform.specs.Rows.{above, allows, class_token_in, has_class_token, has_superclass, has_supertypes, is_package}
use Rattle.jc_platform.specs.Table.{AreThoseOf, Say}
use Rattle.jc_platform.specs.Tokens.{Tokens, token_of_class}
use Rattle.jc_platform.proofs.Distinct.{both, class_by_number}
use Rattle.jc_platform.proofs.Facts.{class_at_place}
use Rattle.jc_platform.proofs.Fitting.{IsFitting, part_fits}
use Rattle.jc_platform.proofs.Lists.{and_true}
use Rattle.jc_platform.proofs.Versions.{class_stands}

-- a class is one that each table has, or stands in these rows
abbrev stands : List Row → PlatformClass → Bool
stands rows d = is_needed_class d || is_some (class_token_in rows d)

-- the classes that have to stand where a class does: its superclass, if it has one, and its interfaces
abbrev with_superclass : Option PlatformClass → List PlatformClass → List PlatformClass
with_superclass None is = is
with_superclass (Some d) is = d ∷ is

abbrev supertypes : PlatformClass → List PlatformClass
supertypes c = with_superclass (superclass_of c) (interfaces_of c)

had : (rows : List Row) (o : Option PlatformClass) (is : List PlatformClass) → has_superclass (above rows) o ≡ true → list_all (stands rows) is ≡ true
    → list_all (stands rows) (with_superclass o is) ≡ true
had rows None is e all = all
had rows (Some d) is e all = both (stands rows d) (list_all (stands rows) is) e all

kept : (rows more : List Row) → ((d : PlatformClass) → class_token_in rows d ≡ class_token_in more d) → (ds : List PlatformClass)
    → list_all (stands rows) ds ≡ true → list_all (stands more) ds ≡ true
kept rows more same [] all = refl
kept rows more same (d ∷ ds) all =
    let parts = and_true (stands rows d) (list_all (stands rows) ds) all in
    both (stands more d) (list_all (stands more) ds) (subst (λ t. (is_needed_class d || is_some t) ≡ true) (same d) parts.0) (kept rows more same ds parts.1)

more_there : (needed same : Bool) (s : ℕ) (o : Option ℕ) → (needed || is_some o) ≡ true → (needed || is_some (if same then Some s else o)) ≡ true
more_there true same s o e = refl
more_there false true s o e = refl
more_there false false s o e = e

grown : (rows : List Row) (b : PlatformClass) (s : ℕ) (ds : List PlatformClass) → list_all (stands rows) ds ≡ true → list_all (stands (Class b s ∷ rows)) ds ≡ true
grown rows b s [] all = refl
grown rows b s (d ∷ ds) all =
    let parts = and_true (stands rows d) (list_all (stands rows) ds) all in
    both (stands (Class b s ∷ rows) d) (list_all (stands (Class b s ∷ rows)) ds)
    (more_there (is_needed_class d) (same_class b d) s (class_token_in rows d) parts.0) (grown rows b s ds parts.1)

-- a class that may stand here has its superclass and its interfaces above
fitting : (rows : List Row) (b : PlatformClass) (s : ℕ) → IsFitting (above rows) (Class b s) → list_all (stands rows) (supertypes b) ≡ true
fitting rows b s fit =
    let a = above rows in
    let e = entry_of_class b in
    let one = (and_true (allows a e.needed && is_package a.home e.home && has_supertypes a e.class && not (is_some (a.class_token e.class)))
    (not (has_class_token a e.home s)) fit).0 in
    let two = (and_true (allows a e.needed && is_package a.home e.home && has_supertypes a e.class) (not (is_some (a.class_token e.class))) one).0 in
    let own = (and_true (allows a e.needed && is_package a.home e.home) (has_supertypes a e.class) two).1 in
    let each = and_true (has_superclass a (superclass_of e.class)) (list_all (stands rows) (interfaces_of e.class)) own in
    subst (λ c. list_all (stands rows) (supertypes c) ≡ true) (class_at_place b) (had rows (superclass_of e.class) (interfaces_of e.class) each.0 each.1)

of_class : (rows : List Row) (b c : PlatformClass) (s : ℕ) (same : Bool) → (same ≡ true → b ≡ c) → list_all (stands rows) (supertypes b) ≡ true
    → (is_some (class_token_in rows c) ≡ true → list_all (stands rows) (supertypes c) ≡ true) → is_some (if same then Some s else class_token_in rows c) ≡ true
    → list_all (stands rows) (supertypes c) ≡ true
of_class rows b c s true is own later e = subst (λ x. list_all (stands rows) (supertypes x) ≡ true) (is refl) own
of_class rows b c s false is own later e = later e

supertypes_in_rows : (c : PlatformClass) (text : List ℕ) (lines : List (List ℕ)) (rows : List Row) → Say text lines rows → is_some (class_token_in rows c) ≡ true
    → list_all (stands rows) (supertypes c) ≡ true
supertypes_in_rows c text [] [] said e = absurd (false≢true e)
supertypes_in_rows c text [] (row ∷ rows) said e = absurd said
supertypes_in_rows c text (line ∷ lines) [] said e = absurd said
supertypes_in_rows c text (line ∷ lines) (Extended ∷ rows) said e =
    kept rows (Extended ∷ rows) (λ d. refl) (supertypes c) (supertypes_in_rows c text lines rows said.1 e)
supertypes_in_rows c text (line ∷ lines) (Random bytes ∷ rows) said e =
    kept rows (Random bytes ∷ rows) (λ d. refl) (supertypes c) (supertypes_in_rows c text lines rows said.1 e)
supertypes_in_rows c text (line ∷ lines) (Package p v ∷ rows) said e =
    kept rows (Package p v ∷ rows) (λ d. refl) (supertypes c) (supertypes_in_rows c text lines rows said.1 e)
supertypes_in_rows c text (line ∷ lines) (Method m t ∷ rows) said e =
    kept rows (Method m t ∷ rows) (λ d. refl) (supertypes c) (supertypes_in_rows c text lines rows said.1 e)
supertypes_in_rows c text (line ∷ lines) (Class b s ∷ rows) said e =
    grown rows b s (supertypes c) (of_class rows b c s (same_class b c)
    (λ same. class_by_number b c ((Decides-eqb (class_number b) (class_number c)).0 same))
    (fitting rows b s (part_fits text (above rows) line (Class b s) said.0)) (supertypes_in_rows c text lines rows said.1) e)

stood : (needed : Bool) (o : Option ℕ) → (needed || is_some o) ≡ true → (needed ≡ true → is_some o ≡ true) → is_some o ≡ true
stood true o e there = there refl
stood false o e there = e

module _ (text : List ℕ) (lines : List (List ℕ)) (rows : List Row) (t : Tokens) (said : Say text lines rows) (those : AreThoseOf (above rows) t) where
  has_token : (d : PlatformClass) → stands rows d ≡ true → is_some (token_of_class t d) ≡ true
  has_token d up =
      let there = stood (is_needed_class d) (class_token_in rows d) up (λ need. ap is_some (class_stands (above rows) those.needed_classes d need).1) in
      ap is_some (sym (those.class_tokens d)) ∙ there

  have_tokens : (ds : List PlatformClass) → list_all (stands rows) ds ≡ true → list_all (λ d. is_some (token_of_class t d)) ds ≡ true
  have_tokens [] all = refl
  have_tokens (d ∷ ds) all =
      let parts = and_true (stands rows d) (list_all (stands rows) ds) all in
      both (is_some (token_of_class t d)) (list_all (λ x. is_some (token_of_class t x)) ds) (has_token d parts.0) (have_tokens ds parts.1)

  stand_there : (c : PlatformClass) → is_some (token_of_class t c) ≡ true → list_all (stands rows) (supertypes c) ≡ true
  stand_there c token = supertypes_in_rows c text lines rows said (ap is_some (those.class_tokens c) ∙ token)

  first_of : (d : PlatformClass) (o : Option PlatformClass) (is : List PlatformClass) → o ≡ Some d → list_all (stands rows) (with_superclass o is) ≡ true
      → stands rows d ≡ true
  first_of d None is e all = absurd (let none : None ≡ Some d = e in cc)
  first_of d (Some c) is e all = let g : Some c ≡ Some d = e in let same : c ≡ d = cc in
      subst (λ x. stands rows x ≡ true) same (and_true (stands rows c) (list_all (stands rows) is) all).0

  rest_of : (o : Option PlatformClass) (is : List PlatformClass) → list_all (stands rows) (with_superclass o is) ≡ true → list_all (stands rows) is ≡ true
  rest_of None is all = all
  rest_of (Some c) is all = (and_true (stands rows c) (list_all (stands rows) is) all).1

  -- in a table that was read a class with a token has a superclass with one, if it has any
  pub superclass_token : (c d : PlatformClass) → superclass_of c ≡ Some d → is_some (token_of_class t c) ≡ true → is_some (token_of_class t d) ≡ true
  superclass_token c d is token = has_token d (first_of d (superclass_of c) (interfaces_of c) is (stand_there c token))

  -- and interfaces with tokens
  pub interface_tokens : (c : PlatformClass) → is_some (token_of_class t c) ≡ true → list_all (λ d. is_some (token_of_class t d)) (interfaces_of c) ≡ true
  interface_tokens c token = have_tokens (interfaces_of c) (rest_of (superclass_of c) (interfaces_of c) (stand_there c token))
