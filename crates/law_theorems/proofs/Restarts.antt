-- Over a whole heap of the product's own a card powers up.
use Rattle.std.proofs.Common.{◌≡◌, ℕ, zero, suc, ◌+◌, Bool, false, [], get_or, refl, sym, ◌∙◌, ap, subst, None}
use Rattle.std.specs.Prelude.{pos, replicate}
use Rattle.std.proofs.lemmas.List.{length-replicate}
use Rattle.jc_words.specs.Refusals.{Refusals}
use Rattle.jc_transient.specs.declared.cell.CellValue.TheVariants.{Short}
use Rattle.jc_transient.specs.declared.cell.ClearEvent.{ClearEvent}
use Rattle.jc_transient.specs.declared.sizes.RamSizes.{RamSizes}
use Rattle.jc_transient.specs.declared.cell.ClearEvent.TheVariants.{Reset, Deselect}
use Rattle.jc_transient.specs.State.{RamState, IsCleared, cell_at, flag_count}
use Rattle.jc_heap.specs.Heap.{HeapState, area_sizes, heap_at_rest, facts}
use Rattle.jc_memory.specs.Cells.{word_of, word_in}
use Rattle.jc_memory.specs.Registers.{at_reset}
use Rattle.jc_linker.specs.Values.{Packages}
use Rattle.jc_platform.specs.Tokens.{Tokens}
use Rattle.jc_interp.specs.Attacks.{undisturbed}
use Rattle.jc_packages.specs.Sound.{IsSound}
use Rattle.jc_card.specs.Card.{CardState}
use Rattle.jc_card.specs.Fixed.{fixed_of, last_fixed}
use Rattle.jc_card.specs.ProductImages.{IsCardHeap}
use Rattle.jc_card.specs.PowerUp.Reset.{ReadsAsZero}
use Rattle.jc_card.specs.Session.Starting.{IsPoweredUp}
use Rattle.law_soundness.specs.MemoryLaws.State.{IsFitObject}
use Rattle.law_theorems.specs.Heaps.{IsOwnHeap}

-- ---- transient contents

same_there : {A : Type 0} (x : A) (n k : ℕ) → get_or (replicate n x) k x ≡ x
same_there x zero k = refl
same_there x (suc n) zero = refl
same_there x (suc n) (suc k) = same_there x n k

-- those of these sizes
abbrev pub blank : RamSizes → RamState
blank sizes = record {
  sizes = sizes;
  reset_cells = replicate sizes.reset (Short (pos 0));
  deselect_cells = replicate sizes.deselect (Short (pos 0));
  flags = replicate flag_count false;
}

blank_cell : (sizes : RamSizes) (event : ClearEvent) (place : ℕ) → cell_at (blank sizes) event place ≡ Short (pos 0)
blank_cell sizes Reset place = same_there (Short (pos 0)) sizes.reset place
blank_cell sizes Deselect place = same_there (Short (pos 0)) sizes.deselect place

is_blank : (sizes : RamSizes) → IsCleared (blank sizes)
is_blank sizes = record {
  sizes = record {
    reset_cells = length-replicate sizes.reset (Short (pos 0));
    deselect_cells = length-replicate sizes.deselect (Short (pos 0));
    flags = length-replicate flag_count false;
  };
  cells = blank_cell sizes;
  flags = λ r. same_there false flag_count r;
}

-- ---- the card

-- a card after a reset over this heap
abbrev pub restarted : ℕ → Tokens → Packages → HeapState → ℕ → ℕ → Refusals → CardState
restarted budget t p h passed size refusals = record {
  memory = record {
    heap = heap_at_rest h passed refusals size;
    ram = blank (area_sizes h);
    fixed = fixed_of t h;
    registers = at_reset;
    command = [];
    sent = [];
  };
  packages = p;
  load = None;
  budget = undisturbed budget;
}

module _ (n : ℕ) (t : Tokens) (p : Packages) (h : HeapState) (fits : IsOwnHeap n t p h) where
  found : IsSound p h (last_fixed t h)
  found = record {
    objects = λ r above there.
        let o : IsFitObject h.counts.1 p h r = fits.fits.objects r above there in
        record { class = o.class; owner = o.owner; values = o.values };
    statics = fits.fits.statics;
    applets = fits.fits.applets;
    distinct = fits.fits.distinct;
  }

  pub card_heap : IsCardHeap n h
  card_heap = record {
    head = fits.beginning.head;
    enough = fits.beginning.enough;
    platform = (t, fits.beginning.table, fits.beginning.begins, (p, fits.packages, found));
    whole = fits.stands.whole;
  }

  module _ (budget passed size : ℕ) (refusals : Refusals) where
    as_zero : ReadsAsZero (restarted budget t p h passed size refusals).memory
    as_zero r i event e = ap (λ x. word_in x (restarted budget t p h passed size refusals).memory r i) e
        ∙ ap word_of (blank_cell (area_sizes h) event ((facts h r).place + i))

    pub powered : (laid down : Bool) (before : ℕ) → IsPoweredUp (record {
      durable = h;
      laid = laid;
      down = down;
      passed = before;
      refusals = refusals;
      size = size;
    }) budget (restarted budget t p h passed size refusals)
    powered laid down before = record {
      made = subst (λ m. IsCardHeap m h) (sym (ap (λ (x : ℕ × ℕ). x.1) fits.beginning.head)) card_heap;
      heap = refl;
      reset = record {
        ram = is_blank (area_sizes h);
        sizes = refl;
        cells = as_zero;
        registers = refl;
        command = refl;
        sent = refl;
        packages = (t, fits.beginning.table, fits.packages, refl);
        load = refl;
      };
      budget = refl;
    }
