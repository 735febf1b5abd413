-- How many objects the runtime environment owns, and how many cells they have.
use Rattle.std.proofs.Common.{◌≡◌, ℕ, ◌+◌, ◌≤◌, ◌&&◌, ◌∙◌, not, Bool, true, false, List, [], ◌∷◌, ◌++◌, ap, length, map, sym, arith, refl, lit≤, if◌then◌else◌}
use Rattle.std.specs.Prelude.{is_some}
use Rattle.std.proofs.lemmas.List.{length-append, length-map, map-append}
use Rattle.jc_transient.specs.State.{usual_cells}
use Rattle.jc_platform.specs.Hierarchy.{cells_of}
use Rattle.jc_platform.specs.Names.{ClassEntry, classes}
use Rattle.jc_platform.specs.Tokens.{Tokens, token_of_class}
use Rattle.jc_environment.specs.declared.objects.FixedObject.{FixedObject}
use Rattle.jc_environment.specs.Objects.{cells_of_all, first_objects, fixed_count, fixed_objects, is_first, own_instance, own_instances, sized, sized_objects}

cells-append : (xs ys : List FixedObject) → cells_of_all (xs ++ ys) ≡ cells_of_all xs + cells_of_all ys
cells-append [] ys = omega arith
cells-append (o ∷ xs) ys = let more = cells-append xs ys in omega (arith, more)

-- the further instances of a table that has all classes
abbrev pub is_thrown_further : ClassEntry → Bool
is_thrown_further e = e.thrown && not (is_first e.class)

abbrev pub all_further : List ClassEntry → List FixedObject
all_further [] = []
all_further (e ∷ es) = if is_thrown_further e then own_instance e.class ∷ all_further es else all_further es

-- those of a table are no more, and have no more cells
cells-own : (t : Tokens) (es : List ClassEntry) → cells_of_all (own_instances t es) ≤ cells_of_all (all_further es)
cells-own t [] = omega arith
cells-own t (e ∷ es) = go (is_thrown_further e) (is_some (token_of_class t e.class)) (cells-own t es)
  where
    go : (x y : Bool) → cells_of_all (own_instances t es) ≤ cells_of_all (all_further es)
        → cells_of_all (if x && y then own_instance e.class ∷ own_instances t es else own_instances t es)
        ≤ cells_of_all (if x then own_instance e.class ∷ all_further es else all_further es)
    go true true more = omega (arith, more)
    go true false more = omega (arith, more)
    go false y more = more

length-own : (t : Tokens) (es : List ClassEntry) → length (own_instances t es) ≤ length (all_further es)
length-own t [] = omega arith
length-own t (e ∷ es) = go (is_thrown_further e) (is_some (token_of_class t e.class)) (length-own t es)
  where
    go : (x y : Bool) → length (own_instances t es) ≤ length (all_further es)
        → length (if x && y then own_instance e.class ∷ own_instances t es else own_instances t es)
        ≤ length (if x then own_instance e.class ∷ all_further es else all_further es)
    go true true more = omega (arith, more)
    go true false more = omega (arith, more)
    go false y more = more

first_count : length first_objects ≡ 17
unfolding first_objects
first_count = refl

first_cells : cells_of_all first_objects ≡ 269
unfolding first_objects
first_cells = refl

-- facts of the list of classes, by computing
few_further : length (all_further classes) ≤ 15
unfolding classes is_first first_objects
few_further = lit≤ tt

further_cells : cells_of_all (all_further classes) ≤ 1024
unfolding classes is_first first_objects cells_of
further_cells = lit≤ tt

-- the seventeen of each image come first, and there are 32 at most
pub least_count : (t : Tokens) → 17 ≤ fixed_count t
unfolding fixed_objects
least_count t =
    let all = length-append first_objects (own_instances t classes) in omega (arith, all, first_count)

pub most_count : (t : Tokens) → fixed_count t ≤ 32
unfolding fixed_objects
most_count t =
    let all = length-append first_objects (own_instances t classes) in
    let own = length-own t classes in omega (arith, all, own, first_count, few_further)

-- their cells have room in an area
pub most_cells : (t : Tokens) → cells_of_all (fixed_objects t) ≤ usual_cells
unfolding fixed_objects
most_cells t =
    let all = cells-append first_objects (own_instances t classes) in
    let own = cells-own t classes in omega (arith, all, own, first_cells, further_cells)

-- with a buffer of n cells there are as many, and they have n cells in place of the usual 261
pub count_sized : (t : Tokens) (n : ℕ) → length (sized_objects t n) ≡ fixed_count t
count_sized t n = length-map (fixed_objects t) (sized n)

own_sized : (t : Tokens) (n : ℕ) (es : List ClassEntry) → map (sized n) (own_instances t es) ≡ own_instances t es
own_sized t n [] = refl
own_sized t n (e ∷ es) = go (is_thrown_further e && is_some (token_of_class t e.class)) (own_sized t n es)
  where
    go : (x : Bool) → map (sized n) (own_instances t es) ≡ own_instances t es
        → map (sized n) (if x then own_instance e.class ∷ own_instances t es else own_instances t es)
        ≡ (if x then own_instance e.class ∷ own_instances t es else own_instances t es)
    go true more = ap (λ l. own_instance e.class ∷ l) more
    go false more = more

first_sized : (n : ℕ) → cells_of_all (map (sized n) first_objects) ≡ 8 + n
unfolding first_objects
first_sized n = omega arith

pub cells_sized : (t : Tokens) (n : ℕ) → cells_of_all (sized_objects t n) + 261 ≡ cells_of_all (fixed_objects t) + n
unfolding fixed_objects
cells_sized t n =
    let own : List FixedObject = own_instances t classes in
    let parts : cells_of_all (map (sized n) (first_objects ++ own)) ≡ cells_of_all (map (sized n) first_objects) + cells_of_all own =
    ap cells_of_all (map-append (sized n) first_objects own) ∙ cells-append (map (sized n) first_objects) (map (sized n) own)
    ∙ ap (λ l. cells_of_all (map (sized n) first_objects) + cells_of_all l) (own_sized t n classes) in
    let usual = cells-append first_objects own in
    let first = first_sized n in omega (arith, parts, usual, first, first_cells)

pub most_sized : (t : Tokens) (n : ℕ) → cells_of_all (sized_objects t n) ≤ usual_cells + n
most_sized t n = let sum = cells_sized t n in let most = most_cells t in omega (arith, sum, most)
