-- The heap of a card as commands leave it.
use Rattle.std.specs.Prelude.{ℕ, ◌≡◌, ◌<◌, ◌≤◌, false, length, Ok, Some}
use Rattle.jc_words.specs.Layout.{magic, least_size, registry_length}
use Rattle.jc_heap.specs.Heap.{HeapState, IsObject, facts}
use Rattle.jc_heap.specs.HeapLaws.{IsConsistentHeap}
use Rattle.jc_platform.specs.Tokens.{Tokens}
use Rattle.jc_platform.specs.Table.{Reads}
use Rattle.jc_linker.specs.Values.{Packages}
use Rattle.jc_packages.specs.Objects.{is_persistent_instance}
use Rattle.jc_packages.specs.Reading.{packages_of}
use Rattle.jc_card.specs.Fixed.{BeginsWithFixed, fixed_of, last_fixed}
use Rattle.law_soundness.specs.MemoryLaws.Environment.{AreEnvironmentObjects}
use Rattle.law_soundness.specs.MemoryLaws.State.{IsSoundUpTo}

-- what no command changes of a heap: the magic word and the number of words of its image, its table, and the objects of the runtime environment with which it begins
pub record HasBeginning (n : ℕ) (t : Tokens) (h : HeapState) : Type 0 where
  pub head : h.head ≡ (magic, n)
  pub enough : least_size ≤ n
  pub table : Reads h.text (Ok t)
  pub begins : BeginsWithFixed t h

-- a whole heap with an image of n words, from which these packages are read, by its own table, and which fits them
pub record IsOwnHeap (n : ℕ) (t : Tokens) (p : Packages) (h : HeapState) : Type 0 where
  pub beginning : HasBeginning n t h
  pub packages : packages_of t h ≡ Some p
  pub stands : IsConsistentHeap h
  pub registry : length h.applets ≡ registry_length
  pub loaded : length h.packages ≡ length p.loaded
  pub fits : IsSoundUpTo h.counts.1 p h (last_fixed t h)
  pub environment : AreEnvironmentObjects p h (fixed_of t h)
  pub behind : last_fixed t h < h.top
  pub own : (r : ℕ) → r ≤ last_fixed t h → IsObject h r → is_persistent_instance (facts h r) ≡ false
