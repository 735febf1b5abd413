-- The words of OwnerPINs, as far as a walk over the objects of a heap has come.
use Rattle.std.specs.Prelude.{if◌then◌else◌, ◌&&◌, nat_lt, All, Contains}
use Rattle.std.proofs.Common.{◌≡◌, ◌∙◌, ℕ, ◌<◌, ◌≤◌, Bool, true, false, List, [], ◌∷◌, ◌++◌, Some, None, refl, sym, ap, subst, arith}
use Rattle.std.proofs.Common.{lt-ltb}
use Rattle.std.proofs.lemmas.Bool.{false≢true, le-ltb}
use Rattle.std.proofs.lemmas.List.Elements.{All-nil, All-push, Contains-append_left, Contains-push}
use Rattle.jc_heap.specs.Heap.{HeapState, IsObject, next_object}
use Rattle.jc_linker.specs.Values.{Packages}
use Rattle.jc_packages.proofs.Order.{Walks, one_more, all_of_them}
use Rattle.jc_objects.specs.Pins.{AreTryWords, IsPin, is_pin, noted, try_word}

-- the word of the object at an address is among those that were found, if it is an OwnerPIN
abbrev pub IsFound : Packages → HeapState → List ℕ → ℕ → Type 0
IsFound p h found r = is_pin p h r ≡ true → try_word r < 65536 → Contains found (try_word r)

-- up to an address all are found, and no others
pub record AreFoundTo (p : Packages) (h : HeapState) (at : ℕ) (found : List ℕ) : Type 0 where
  pub all : (r : ℕ) → 0 < r → r ≤ at → IsObject h r → IsFound p h found r
  pub only : All (λ a. (r : ℕ) × IsPin p h r × (a ≡ try_word r)) found

-- none yet
pub found_none : (p : Packages) (h : HeapState) → AreFoundTo p h 0 []
found_none p h = record { all = λ r some le o. absurd (omega (arith, some, le)); only = All-nil (λ a. (r : ℕ) × IsPin p h r × (a ≡ try_word r)) }

-- what is noted of an object that is no OwnerPIN, of one whose word has no address, and of any other one
pub noted_other : (p : Packages) (h : HeapState) (r : ℕ) (found : List ℕ) → is_pin p h r ≡ false → found ≡ noted p h r found
unfolding noted
noted_other p h r found e = ap (λ b. if b && nat_lt (try_word r) 65536 then found ++ try_word r ∷ [] else found) (sym e)

pub noted_far : (p : Packages) (h : HeapState) (r : ℕ) (found : List ℕ) → is_pin p h r ≡ true → 65536 ≤ try_word r → found ≡ noted p h r found
unfolding noted
noted_far p h r found e far = ap (λ b. if b then found ++ try_word r ∷ [] else found) (sym (le-ltb (try_word r) 65536 far))
    ∙ ap (λ b. if b && nat_lt (try_word r) 65536 then found ++ try_word r ∷ [] else found) (sym e)

pub noted_here : (p : Packages) (h : HeapState) (r : ℕ) (found : List ℕ) → is_pin p h r ≡ true → try_word r < 65536
    → found ++ try_word r ∷ [] ≡ noted p h r found
unfolding noted
noted_here p h r found e near = ap (λ b. if b then found ++ try_word r ∷ [] else found) (sym (lt-ltb (try_word r) 65536 near))
    ∙ ap (λ b. if b && nat_lt (try_word r) 65536 then found ++ try_word r ∷ [] else found) (sym e)

-- what the next object adds: those that were found stay, and its own is among them
record IsNoted (p : Packages) (h : HeapState) (q : ℕ) (found new : List ℕ) : Type 0 where
  kept : (x : ℕ) → Contains found x → Contains new x
  here : IsFound p h new q
  only : All (λ a. (r : ℕ) × IsPin p h r × (a ≡ try_word r)) new

by_tests : (p : Packages) (h : HeapState) (q : ℕ) (found : List ℕ) (pin small : Bool) → is_pin p h q ≡ pin → nat_lt (try_word q) 65536 ≡ small
    → 0 < q → IsObject h q → All (λ a. (r : ℕ) × IsPin p h r × (a ≡ try_word r)) found
    → IsNoted p h q found (if pin && small then found ++ try_word q ∷ [] else found)
by_tests p h q found true true is fits some there only = record {
  kept = λ x c. Contains-append_left found (try_word q ∷ []) x c;
  here = λ pin low. Contains-push found (try_word q);
  only = All-push (λ a. (r : ℕ) × IsPin p h r × (a ≡ try_word r)) found (try_word q) only (q, (some, there, is), refl);
}
by_tests p h q found true false is large some there only = record {
  kept = λ x c. c;
  here = λ pin low. absurd (false≢true (sym large ∙ lt-ltb (try_word q) 65536 low));
  only = only;
}
by_tests p h q found false small other fits some there only = record {
  kept = λ x c. c;
  here = λ pin low. absurd (false≢true (sym other ∙ pin));
  only = only;
}

-- the next object
pub found_more : (p : Packages) (h : HeapState) → Walks h → (at q : ℕ) → next_object h at ≡ Some q → IsObject h q → (found new : List ℕ)
    → new ≡ noted p h q found → AreFoundTo p h at found → AreFoundTo p h q new
unfolding noted
found_more p h w at q next there found new is far =
    let above : at < q = w.above at q next in
    let some : 0 < q = omega (arith, above) in
    let one : IsNoted p h q found new = subst (IsNoted p h q found) (sym is)
    (by_tests p h q found (is_pin p h q) (nat_lt (try_word q) 65536) refl refl some there far.only) in
    record {
      all = one_more h w (λ r. IsFound p h new r) 0 at q next (λ r n le o pin low. one.kept (try_word r) (far.all r n le o pin low)) one.here;
      only = one.only;
    }

-- there is no next one
pub found_all : (p : Packages) (h : HeapState) → Walks h → (at : ℕ) → next_object h at ≡ None → (found : List ℕ) → AreFoundTo p h at found
    → AreTryWords p h found
found_all p h w at last found far = record {
  all = λ r is low. all_of_them h w (λ q. IsFound p h found q) 0 at last far.all r is.0 is.1 is.2 low;
  only = far.only;
}
