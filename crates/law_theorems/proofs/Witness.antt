-- A new image, its first reset, a cut one, a command, and code that begins within it.
use Rattle.std.proofs.Common.{ℕ, ◌<◌, ◌≤◌, Bool, true, false, List, [], ◌∷◌, length, refl, sym, ◌∙◌, ap, subst, arith, None, Some}
use Rattle.std.specs.Prelude.{Ok}
use Rattle.std.proofs.lemmas.Bool.{false≢true, true≢false}
use Rattle.std.proofs.lemmas.List.Elements.{All-from_recursion}
use Rattle.std.proofs.lemmas.Option.{none-some}
use Rattle.jc_words.specs.Layout.{least_size}
use Rattle.jc_words.specs.Image.{heap_end}
use Rattle.jc_words.specs.Refusals.{Refusals, no_refusals, refused_once}
use Rattle.jc_commit.specs.Image.{limit_of, recovered_of}
use Rattle.jc_heap.specs.WholeHeap.{IsConsistent}
use Rattle.jc_heap.specs.Heap.{HeapState}
use Rattle.jc_linker.specs.Values.{Packages}
use Rattle.jc_transient.specs.State.{AreSizes}
use Rattle.jc_memory.specs.Commands.{data_of}
use Rattle.jc_image.specs.declared.laying.ImageRoom.{ImageRoom}
use Rattle.jc_platform.specs.Table.{Reads}
use Rattle.jc_platform.specs.Tokens.{Tokens}
use Rattle.jc_platform.proofs.NamesTold.{names_told}
use Rattle.jc_interp.specs.Run.{bare_frames, no_package}
use Rattle.jc_interp.specs.Step.{instruction_step, machine_step}
use Rattle.jc_packages.specs.Load.{empty_load}
use Rattle.jc_card.specs.Answers.{manager_command, exchange}
use Rattle.jc_card.specs.Card.{CardState}
use Rattle.jc_card.specs.Dispatching.{dispatch}
use Rattle.jc_card.specs.ProductImages.{new_card_heap}
use Rattle.jc_card.proofs.NewFronts.{sizes-new_card_heap}
use Rattle.jc_card.specs.Session.Requests.{Reset, Ready}
use Rattle.jc_card.specs.State.Power.{KeptState, Up, Off, StoreState, durable_state, is_well_formed, with_refusal}
use Rattle.jc_card.specs.Session.Starting.{IsPoweredUp}
use Rattle.jc_card.proofs.Laid.{if_laid}
use Rattle.law_soundness.specs.References.{MayBegin}
use Rattle.law_soundness.proofs.LivingReferences.{first_living, none_living}
use Rattle.law_code.proofs.ByteTokens.{have_bytes}
use Rattle.law_theorems.specs.Cards.{IsOwnKept}
use Rattle.law_theorems.specs.Outcomes.{ComesTo}
use Rattle.law_theorems.specs.Heaps.{IsOwnHeap}
use Rattle.law_soundness.specs.LoadedPackages.{AreBytes}
use Rattle.law_theorems.proofs.CardHeaps.{own_at}
use Rattle.law_theorems.proofs.CardImages.{new_layout}
use Rattle.law_theorems.proofs.NewImages.{new_images}
use Rattle.law_theorems.proofs.Restarts.{powered, restarted}
use Rattle.law_theorems.specs.SessionTheorems.Witness.{HaveWitnesses, NewStoresServe, begin_load_bytes, new_blown, new_kept, select_bytes}

module _ (budget n : ℕ) (room : ImageRoom) (text : List ℕ) (t : Tokens) (enough : least_size ≤ n) (sizes : AreSizes room.cells room.buffer) (reads : Reads text (Ok t)) where
  abbrev heap : HeapState
  heap = new_card_heap n room text t

  abbrev none : Packages
  none = record { platform = t; loaded = [] }

  pub fits : IsOwnHeap n t none heap
  fits = new_images n room text t enough sizes reads

  pub own : IsOwnKept t (new_kept n room text t)
  own = record {
    packages = none;
    linked = record {
      components = [];
      read = record { names = names_told text t reads; bytes = have_bytes text t reads; classes = λ i c e. absurd (none-some c e); linked = refl };
      applets = λ i c e. absurd (none-some c e);
    };
    heap = own_at n t none heap fits;
    layout = new_layout n room text t;
  }

  abbrev card : ℕ → ℕ → Refusals → CardState
  card passed size refusals = restarted budget t none heap passed size refusals

  abbrev first : CardState
  first = card 0 (heap_end n room.capacity) no_refusals

  comes_off : ComesTo t (Off budget (new_kept n room text t))
  comes_off = record { budget = budget; first = new_kept n room text t; requests = []; replies = []; own = own; bytes = tt; run = refl }

  comes_up : ComesTo t (Up first)
  comes_up = record {
    budget = budget;
    first = new_kept n room text t;
    requests = Reset ∷ [];
    replies = Ready ∷ [];
    own = own;
    bytes = (tt, tt);
    run = (Up first, powered n t none heap fits budget 0 (heap_end n room.capacity) no_refusals true false 0, refl);
  }

  begins : MayBegin (bare_frames 0 0) first.memory
  begins = record {
    first = refl;
    living = first_living first.memory.heap.now [] 0 0 0 no_package (none_living first.memory.heap.now);
    steady = record { counts = refl; begun = λ on. absurd (false≢true on) };
    owner = λ home zero. true≢false home;
  }

are_bytes : AreBytes begin_load_bytes
are_bytes = All-from_recursion (λ b. b < 256) begin_load_bytes (omega arith, (omega arith, (omega arith, (omega arith, tt))))

selects : AreBytes select_bytes
selects = All-from_recursion (λ b. b < 256) select_bytes (omega arith, (omega arith, (omega arith, (omega arith, (omega arith, (omega arith, tt))))))

pub witnesses : HaveWitnesses
unfolding data_of exchange dispatch manager_command refused_once machine_step instruction_step
witnesses budget n room text t enough sizes reads =
    let size = heap_end n room.capacity in
    let refused = refused_once false 0 no_refusals in
    let other = card budget n room text t enough sizes reads 0 size refused in record {
      off = comes_off budget n room text t enough sizes reads;
      card = first budget n room text t enough sizes reads;
      up = comes_up budget n room text t enough sizes reads;
      down = (refl, refl);
      few = let least : 0 < 18446744073709551615 = omega arith in least;
      other = other;
      lost = (
        Off budget (with_refusal 0 (durable_state (Up (first budget n room text t enough sizes reads)))),
        (refl, refl),
        (
          Up other,
          powered n t (none budget n room text t enough sizes reads) (heap budget n room text t enough sizes reads)
              (fits budget n room text t enough sizes reads) budget 0 size refused true true 0,
          refl,
        ),
      );
      next = record (first budget n room text t enough sizes reads) { load = Some empty_load };
      bytes = are_bytes;
      ended = (refl, refl);
      effect = record { comes = comes_up budget n room text t enough sizes reads; are = selects; begins = (refl, tt) };
      begins = record {
        comes = record { comes = comes_up budget n room text t enough sizes reads; are = are_bytes; begins = tt };
        same = tt;
        begins = begins budget n room text t enough sizes reads;
        attack = None;
        left = 0;
        steps = (refl, refl);
      };
      step = (refl, refl);
      cut = (new_blown budget n room text t, (refl, refl), refl);
      none = (tt, tt);
      spared = refl;
      within = λ count is. absurd (none-some count is);
    }

-- what is left in a store whose power is back
abbrev left_in : StoreState → HeapState → Bool → KeptState
left_in store h laid = record { durable = h; laid = laid; down = false; passed = store.passed; refusals = store.refusals; size = limit_of store.words }

pub new_stores_serve : NewStoresServe
new_stores_serve budget t room text store made reads is =
    let n = length store.words in
    let size = limit_of store.words in
    let enough = made.heap.enough in
    let sizes = sizes-new_card_heap n room text t (subst IsConsistent is made.heap.whole) in
    let laid = is_well_formed (recovered_of store.words) in
    let first = card budget n room text t enough sizes reads store.passed size store.refusals in
    let up = powered n t (none budget n room text t enough sizes reads) (heap budget n room text t enough sizes reads)
    (fits budget n room text t enough sizes reads) budget store.passed size store.refusals in
    let starts = subst (λ h. IsPoweredUp (record {
      durable = h;
      laid = laid;
      down = store.down;
      passed = store.passed;
      refusals = store.refusals;
      size = size;
    }) budget first) (sym is) (up laid store.down store.passed) in (
      Up first,
      (Up first, (made, starts), (Up first, up true false store.passed, refl)),
      record {
        good = made.log;
        kept = ap (λ h. left_in store h laid) is ∙ ap (left_in store (new_card_heap n room text t)) (if_laid (recovered_of store.words) made.laid);
      },
    )
