-- An image that commands made powers up again.
use Rattle.std.proofs.Common.{◌≡◌, ℕ, Bool, List, [], length, refl, sym, ◌∙◌, ap, subst}
use Rattle.std.specs.Prelude.{Ok}
use Rattle.std.proofs.lemmas.Option.{none-some}
use Rattle.jc_words.specs.Refusals.{Refusals}
use Rattle.jc_commit.specs.Image.{recovered_of}
use Rattle.jc_heap.specs.WholeHeap.{IsConsistent}
use Rattle.jc_heap.specs.Heap.{HeapState, heap_of}
use Rattle.jc_heap.specs.Heap.Store.{HoldsHeap}
use Rattle.jc_heap.proofs.RawWords.{head_is, recovered-head}
use Rattle.jc_image.specs.declared.laying.ImageRoom.{ImageRoom}
use Rattle.jc_image.specs.Laying.{unsealed_heap}
use Rattle.jc_linker.specs.Values.{Packages}
use Rattle.law_code.proofs.ByteTokens.{have_bytes}
use Rattle.jc_platform.proofs.NamesTold.{names_told}
use Rattle.jc_platform.specs.Table.{Reads}
use Rattle.jc_platform.specs.Tokens.{Tokens}
use Rattle.jc_card.specs.Card.{CardState}
use Rattle.jc_card.specs.Fixed.{last_fixed}
use Rattle.jc_card.specs.ProductImages.{IsCardHeap, IsMade, new_card_heap, objects_in}
use Rattle.jc_card.proofs.FittingImages.{counts_add, packages_add}
use Rattle.jc_packages.specs.Sound.{IsSound}
use Rattle.jc_card.proofs.NewFronts.{sizes-new_card_heap}
use Rattle.jc_card.specs.State.Power.{KeptState, Up, durable_rest}
use Rattle.law_soundness.specs.MemoryLaws.State.{IsFitObject}
use Rattle.law_soundness.specs.Loads.{IsLaidOut}
use Rattle.law_theorems.specs.Heaps.{IsOwnHeap}
use Rattle.law_theorems.proofs.CardHeaps.{own_at}
use Rattle.law_theorems.proofs.NewImages.{new_images}
use Rattle.law_theorems.proofs.NewSeparation.{new_apart}
use Rattle.law_theorems.specs.Cards.{IsOwnCard, IsOwnKept}
use Rattle.law_theorems.specs.CardImages.{ImagesStayMade, Keeps}
use Rattle.law_theorems.proofs.Sessions.{kept_own}

found : (n : ℕ) (t : Tokens) (p : Packages) (h : HeapState) → IsOwnHeap n t p h → IsSound p h (last_fixed t h)
found n t p h own = record {
  objects = λ r above there.
      let o : IsFitObject h.counts.1 p h r = own.fits.objects r above there in record { class = o.class; owner = o.owner; values = o.values };
  statics = own.fits.statics;
  applets = own.fits.applets;
  distinct = own.fits.distinct;
}

card_heap : (n : ℕ) (t : Tokens) (p : Packages) (h : HeapState) → IsOwnHeap n t p h → IsCardHeap n h
card_heap n t p h own = record {
  head = own.beginning.head;
  enough = own.beginning.enough;
  platform = (t, own.beginning.table, own.beginning.begins, (p, own.packages, found n t p h own));
  whole = own.stands.whole;
}

-- a heap that words keep states their number
told : (words : List ℕ) (k : KeptState) → Keeps words k → k.durable.head.1 ≡ length words
told words k keeps =
    sym (ap (λ (h : HeapState). h.head.1) keeps.durable)
    ∙ ap (λ (x : ℕ × ℕ). x.1) (head_is (recovered_of words) keeps.laid ∙ recovered-head words keeps.good) ∙ keeps.good.size.told

kept_made : (t : Tokens) (words : List ℕ) (k : KeptState) → IsOwnKept t k → Keeps words k → IsMade words
kept_made t words k own keeps = record {
  log = keeps.good;
  laid = keeps.laid;
  heap = subst (λ n. IsCardHeap n (heap_of (recovered_of words))) (told words k keeps)
      (subst (IsCardHeap k.durable.head.1) (sym keeps.durable) (card_heap k.durable.head.1 t own.packages k.durable own.heap));
}

-- a new image has no packages
pub new_layout : (n : ℕ) (room : ImageRoom) (text : List ℕ) (t : Tokens) → IsLaidOut (new_card_heap n room text t)
new_layout n room text t = record {
  counted = ap (λ c. c.0) (counts_add t (unsealed_heap n room text) (objects_in room t)) ∙ ap length (sym (packages_add t (unsealed_heap n room text) (objects_in room t)));
  apart = new_apart n room text t;
}

new_kept : (t : Tokens) (room : ImageRoom) (text words : List ℕ) (k : KeptState) → IsMade words → Reads text (Ok t)
    → heap_of (recovered_of words) ≡ new_card_heap (length words) room text t → Keeps words k → IsOwnKept t k
new_kept t room text words k made reads is keeps =
    let same : new_card_heap (length words) room text t ≡ k.durable = sym is ∙ keeps.durable in
    let sizes = sizes-new_card_heap (length words) room text t (subst IsConsistent is made.heap.whole) in
    let fits = new_images (length words) room text t made.heap.enough sizes reads in
    record {
      packages = record { platform = t; loaded = [] };
      linked = record {
        components = [];
        read = record { names = names_told text t reads; bytes = have_bytes text t reads; classes = λ i c e. absurd (none-some c e); linked = refl };
        applets = λ i c e. absurd (none-some c e);
      };
      heap = own_at (length words) t (record { platform = t; loaded = [] }) k.durable
          (subst (IsOwnHeap (length words) t (record { platform = t; loaded = [] })) same fits);
      layout = subst IsLaidOut same (new_layout (length words) room text t);
    }

card_made : (t : Tokens) (words : List ℕ) (down : Bool) (passed : ℕ) (refusals : Refusals) (card : CardState) → IsOwnCard t card
    → HoldsHeap words down passed refusals card.memory.heap → IsMade words
card_made t words down passed refusals card own holds =
    kept_made t words (durable_rest card.memory.heap) (kept_own t (Up card) own) (record
    { good = holds.good; laid = holds.laid; durable = holds.durable; size = holds.size })

pub images_made : ImagesStayMade
images_made = record { new = new_kept; kept = kept_made; card = card_made }
