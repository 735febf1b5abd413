-- What is known of one image holds of another with the same words.
use Rattle.std.proofs.Common.{◌≡◌, ◌∙◌, ◌+◌, ◌<◌, ℕ, List, [], ◌∷◌, ◌++◌, ◌≤◌, Some, Ok, arith, take, length, map, drop, ap, ap₂, subst, sym}
use Rattle.std.proofs.lemmas.List.{drop_all, drop_more, get_or-map, length-map, map-append, take_more}
use Rattle.std.specs.Prelude.{slice_index}
use Rattle.jc_words.specs.Layout.{text_length_address}
use Rattle.jc_heap.specs.Heap.{HeapState}
use Rattle.jc_heap.specs.Image.{text_words}
use Rattle.jc_heap.specs.Packed.{bytes_of_packed}
use Rattle.jc_linker.specs.Values.{Packages}
use Rattle.jc_platform.specs.Table.{Reads}
use Rattle.jc_platform.specs.Tokens.{Tokens}
use Rattle.jc_packages.specs.Known.{package_records}
use Rattle.jc_packages.specs.Reading.{packages_of, with_records}
use Rattle.jc_packages.specs.Tables.{HasTable, HasText}

pub table_known : (w : List ℕ) (size : ℕ) (text : List ℕ) (t : Tokens) → HasText w → size ≡ slice_index w text_length_address → text ≡ text_words w
    → Reads (bytes_of_packed size text) (Ok t) → HasTable w t
table_known w size text t has long same reads = (has, subst (λ (l : List ℕ). Reads l (Ok t)) (ap₂ bytes_of_packed long same) reads)

pub packages_known : (t : Tokens) (h : HeapState) (records : List (List ℕ)) (p : Packages) → records ≡ package_records h
    → with_records (record { platform = t; loaded = [] }) records ≡ Some p → packages_of t h ≡ Some p
unfolding packages_of
packages_known t h records p same linked = subst (λ (l : List (List ℕ)). with_records (record { platform = t; loaded = [] }) l ≡ Some p) same linked

-- one record after another
pub next_record : {A : Type 0} (items : A → List ℕ) (f : ℕ → List ℕ) (records more : List A) (first : A) (packages : List ℕ) (k : ℕ) → records ≡ first ∷ more
    → k < length packages → items first ≡ f (slice_index packages k) → map items more ≡ map f (drop (k + 1) packages) → map items records ≡ map f (drop k packages)
next_record items f records more first packages k is below same rest =
    ap (map items) is ∙ (λ t. same t ∷ rest t) ∙ ap (map f) (sym (drop_more packages k 0 below))

pub no_record : {A : Type 0} (items : A → List ℕ) (f : ℕ → List ℕ) (records : List A) (packages : List ℕ) (k : ℕ) → records ≡ [] → k ≡ length packages
    → map items records ≡ map f (drop k packages)
no_record items f records packages k is end = ap (map items) is ∙ ap (map f) (sym (drop_all k packages (omega (arith, end))))

pub one_more : {A : Type 0} (items : A → List ℕ) (f : ℕ → List ℕ) (all records : List A) (words : A) (packages : List ℕ) (k : ℕ) → all ≡ records ++ words ∷ []
    → k < length packages → items words ≡ f (slice_index packages k) → map items records ≡ take k (map f packages) → map items all ≡ take (k + 1) (map f packages)
one_more items f all records words packages k is below same before =
    ap (map items) is ∙ map-append items records (words ∷ []) ∙ (λ t. before t ++ same t ∷ [])
    ∙ ap (λ (v : List ℕ). take k (map f packages) ++ v ∷ []) (sym (get_or-map f packages k 0 [] below))
    ∙ sym (take_more (map f packages) k [] (subst (λ (n : ℕ). k < n) (sym (length-map packages f)) below))

-- what is read of a heap is known
pub records_linked : (t u : Tokens) (h : HeapState) (records : List (List ℕ)) (p q : Packages) → u ≡ t → records ≡ package_records h → q ≡ p
    → packages_of u h ≡ Some p → with_records (record { platform = t; loaded = [] }) records ≡ Some q
unfolding packages_of
records_linked t u h records p q table same shared linked =
    ap₂ (λ (x : Tokens) (l : List (List ℕ)). with_records (record { platform = x; loaded = [] }) l) (sym table) same ∙ linked ∙ ap Some (sym shared)
