use Rattle.jc_heap.specs.Heap.{heap_of}
use Rattle.jc_heap.proofs.Places.{has_word}
use Rattle.jc_heap.proofs.Several.{words_apart}
use Rattle.jc_heap.proofs.heap_laws.places_have_words_of_their_own.Goals as goal

pub returns : goal.returns
returns c = λ words laid p q first second differ same. words_apart words laid p q (has_word (heap_of words) p first)
    (has_word (heap_of words) q second) differ same
