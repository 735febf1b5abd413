-- What opening an image leaves.
use Rattle.std.specs.Prelude.{ℕ, ◌≡◌, ◌<◌, ◌≤◌, Bool, false, List, length, slice_index}
use Rattle.jc_words.specs.Refusals.{Refusals}
use Rattle.jc_words.specs.Layout.{text_start, version, version_address}
use Rattle.jc_commit.specs.Image.{count_of, limit_of, plain_of, recovered_of, IsGoodLog}
use Rattle.jc_commit.specs.State.{State}
use Rattle.jc_heap.specs.Heap.{head_of}

-- what the journal of a recovered image meets
pub record IsOpen (j : State) (size : ℕ) : Type 0 where
  pub up : j.down ≡ false
  pub closed : j.in_transaction ≡ false
  pub recovered : j.recovered ≡ j.plain
  pub size_now : length j.plain ≡ size
  pub small : size < 65536
  pub wide : text_start ≤ size

-- a store with these words, which is down or not, has let this number of writes pass and refused these, holds this recovered image: its
-- words are the image's, as they are and after another recovery, of the version that is written, and no entry of the log counts
pub record HoldsImage (words : List ℕ) (is_down : Bool) (let_pass : ℕ) (turned_down : Refusals) (j : State) : Type 0 where
  pub good : IsGoodLog words
  pub plain : plain_of words ≡ j.plain
  pub recovered : recovered_of words ≡ j.plain
  pub head : head_of words ≡ head_of j.plain
  pub size : limit_of words ≡ length j.plain
  pub up : is_down ≡ false
  pub closed : count_of words ≡ 0
  pub current : slice_index words version_address ≡ version
  pub passed : let_pass ≡ j.passed
  pub refusals : turned_down ≡ j.refusals
