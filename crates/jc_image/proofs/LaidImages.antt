-- What the words of an image without objects stand for.
use Rattle.std.proofs.Common.{◌≡◌, ℕ, ◌+◌, ◌-◌, ◌*◌, ◌/◌, ◌%◌, ◌<◌, ◌≤◌, inl, inr, List, [], ◌∷◌, ◌++◌, length, take, drop, get_or, map, replicate, refl, sym}
use Rattle.std.proofs.Common.{◌∙◌, ap, subst, arith, lit<, Bool, if◌then◌else◌}
use Rattle.std.proofs.lemmas.List.{ext_get_or, drop_at, drop_all, drop-drop, drop-append-le, take_all, take-append-le, length-append, length-replicate}
use Rattle.std.proofs.lemmas.List.{length-take-le, get_or_append_left, get_or-append_right, get_or-replicate, get_or-take, drop-replicate}
use Rattle.std.proofs.lemmas.List.FromFn.{length-map-range_with_len, get_or-map-range_with_len}
use Rattle.std.proofs.lemmas.Bool.{cases_eq, cases_lt, eq-eqb, lt-ltb, ne_eqb}
use Rattle.jc_words.specs.Layout.{count_address, top_address, packages_address, applets_address, reset_end_address, deselect_end_address, text_length_address}
use Rattle.jc_words.specs.Layout.{front_length, addresses_start, most_packages, registry_start, registry_length, text_start, version}
use Rattle.jc_words.specs.Layout.{version_address, size_address, capacity_address, journal_address, front_capacity, least_size}
use Rattle.jc_words.specs.Image.{log_of, journal_start, heap_end, IsCapacity, IsLogAmong}
use Rattle.jc_words.specs.declared.log.Log.{Log}
use Rattle.jc_commit.proofs.Words.{log_told}
use Rattle.jc_heap.specs.Image.{lasting_words, capacity_in}
use Rattle.jc_commit.specs.Image.{count_of, capacity_of, limit_of, plain_of, IsGoodLog}
use Rattle.jc_commit.proofs.InPlace.{length-plain, plain_word}
use Rattle.jc_heap.specs.Walk.{records_from, missing_words}
use Rattle.jc_heap.specs.Heap.{head_of, read_image, heap_of}
use Rattle.jc_heap.proofs.RawWords.{plain_zero}
use Rattle.jc_heap.specs.Image.{image, base, package_addresses, is_package, sizes, item_entry, records, missing_words_of_image}
use Rattle.jc_heap.specs.Packed.{packed_byte, bytes_of_packed, packed_words}
use Rattle.jc_heap.specs.Image.{table_text, IsWellFormed}
use Rattle.jc_heap.proofs.Packing.{packed_words-word}
use Rattle.jc_image.specs.declared.laying.ImageRoom.{ImageRoom}
use Rattle.jc_image.specs.Laying.{IsOfBytes, first_free, image_front, new_image_words, unsealed_heap}

pub length-packed_words : (text : List ℕ) → length (packed_words text) ≡ (length text + 1) / 2
length-packed_words [] = refl
length-packed_words (b ∷ []) = refl
length-packed_words (b ∷ c ∷ bytes) = omega (arith, length-packed_words bytes)

packed_byte-packed_words : (text : List ℕ) (i : ℕ) → IsOfBytes text → packed_byte (packed_words text) i ≡ get_or text i 0
packed_byte-packed_words text i bytes =
    let word : get_or (packed_words text) (i / 2) 0 ≡ 256 * get_or text (2 * (i / 2)) 0 + get_or text (2 * (i / 2) + 1) 0 = packed_words-word text (i / 2) in
    elim (cases_eq (i % 2) 0) [
      | inl e ↦
          let at : get_or text (2 * (i / 2)) 0 ≡ get_or text i 0 = ap (λ k. get_or text k 0) (omega (arith, e)) in
          rw (eq-eqb (i % 2) 0 e) (omega (arith, word, at, bytes (2 * (i / 2) + 1)))
      | inr n ↦
          let at : get_or text (2 * (i / 2) + 1) 0 ≡ get_or text i 0 = ap (λ k. get_or text k 0) (omega (arith, n)) in
          rw (ne_eqb (i % 2) 0 n) (omega (arith, word, at, bytes (2 * (i / 2) + 1)))
    ]

-- packed words hold the bytes
pub bytes_of_packed-packed_words : (text : List ℕ) → IsOfBytes text → bytes_of_packed (length text) (packed_words text) ≡ text
unfolding bytes_of_packed
bytes_of_packed-packed_words text bytes =
    ext_get_or 0 (bytes_of_packed (length text) (packed_words text)) text
    (length-map-range_with_len (packed_byte (packed_words text)) 0 (length text))
    (λ i h. get_or-map-range_with_len (packed_byte (packed_words text)) 0 (length text) i i 0
    (omega (arith, h, length-map-range_with_len (packed_byte (packed_words text)) 0 (length text))) (omega arith) ∙ packed_byte-packed_words text i bytes)

module _ (n : ℕ) (room : ImageRoom) (text : List ℕ) where
  -- the words before the table text
  abbrev fixed : List ℕ
  fixed = image_front n room (length text) ++ replicate (text_start - front_length) 0

  length-fixed : length fixed ≡ text_start
  length-fixed = omega (
    arith,
    length-append (image_front n room (length text)) (replicate {A = ℕ} (text_start - front_length) 0),
    length-replicate {A = ℕ} (text_start - front_length) 0,
  )

  pub length-laid : length (new_image_words n room text) ≡ first_free (length text)
  unfolding new_image_words
  length-laid = omega (arith, length-append fixed (packed_words text), length-fixed, length-packed_words text)

  pub front-word : (i : ℕ) → i < front_length → get_or (new_image_words n room text) i 0 ≡ get_or (image_front n room (length text)) i 0
  unfolding new_image_words
  front-word i h = get_or_append_left fixed (packed_words text) 0 i (omega (arith, length-fixed))
      ∙ get_or_append_left (image_front n room (length text)) (replicate (text_start - front_length) 0) 0 i h

  pub zero-word : (i : ℕ) → front_length ≤ i → i < text_start → get_or (new_image_words n room text) i 0 ≡ 0
  unfolding new_image_words
  zero-word i low high =
      get_or_append_left fixed (packed_words text) 0 i (omega (arith, length-fixed))
      ∙ get_or-append_right (image_front n room (length text)) (replicate (text_start - front_length) 0) front_length i 0 refl low
      ∙ get_or-replicate (text_start - front_length) (i - front_length) 0 0 (omega arith)

  pub text-word : (i : ℕ) → text_start ≤ i → get_or (new_image_words n room text) i 0 ≡ get_or (packed_words text) (i - text_start) 0
  unfolding new_image_words
  text-word i h = get_or-append_right fixed (packed_words text) text_start i 0 length-fixed h

  drop-text : drop text_start (new_image_words n room text) ≡ packed_words text
  unfolding new_image_words
  drop-text = drop_at fixed (packed_words text) text_start length-fixed

  applets-laid : take registry_length (drop registry_start (new_image_words n room text)) ≡ replicate registry_length 0
  unfolding new_image_words
  applets-laid =
      let zeros : drop registry_start fixed ≡ replicate registry_length 0 =
      sym (drop-drop (registry_start - front_length) front_length fixed) ∙ ap (drop (registry_start - front_length))
      (drop_at (image_front n room (length text)) (replicate (text_start - front_length) 0) front_length refl)
      ∙ drop-replicate (registry_start - front_length) (text_start - front_length) 0 in
      let few : length (drop registry_start fixed) ≡ registry_length = ap length zeros ∙ length-replicate {A = ℕ} registry_length 0 in
      ap (take registry_length) (drop-append-le registry_start fixed (packed_words text) (omega (arith, length-fixed)))
      ∙ take-append-le registry_length (drop registry_start fixed) (packed_words text) (omega (arith, few))
      ∙ take_all registry_length (drop registry_start fixed) (omega (arith, few))
      ∙ zeros

  packages-laid : package_addresses (new_image_words n room text) ≡ []
  packages-laid = ap (λ k. take k (take most_packages (drop addresses_start (new_image_words n room text)))) (front-word packages_address (lit< tt))

  base-laid : base (new_image_words n room text) ≡ first_free (length text)
  base-laid = ap (λ k. text_start + (k + 1) / 2) (front-word text_length_address (lit< tt))

  table-laid : drop (base (new_image_words n room text)) (new_image_words n room text) ≡ []
  table-laid = drop_all (base (new_image_words n room text)) (new_image_words n room text) (omega (arith, length-laid, base-laid))

  missing-laid : missing_words_of_image (new_image_words n room text) ≡ 0
  unfolding missing_words_of_image
  missing-laid = ap (missing_words (sizes (package_addresses (new_image_words n room text))) 0 (base (new_image_words n room text))) table-laid

  items-laid : map (item_entry (package_addresses (new_image_words n room text))) (records (new_image_words n room text)) ≡ []
  items-laid = ap (λ l. map (item_entry (package_addresses (new_image_words n room text)))
      (records_from (sizes (package_addresses (new_image_words n room text))) 0 (base (new_image_words n room text)) l)) table-laid

  head-laid : head_of (new_image_words n room text) ≡ (0, n)
  unfolding new_image_words
  head-laid = refl

  lasting-laid : lasting_words (new_image_words n room text) ≡ 0 ∷ room.cells ∷ room.buffer ∷ 0 ∷ []
  lasting-laid = λ k. front-word 4 (lit< tt) k ∷ front-word 13 (lit< tt) k ∷ front-word 14 (lit< tt) k ∷ front-word 15 (lit< tt) k ∷ []

  capacity-laid : capacity_in (new_image_words n room text) ≡ room.capacity
  capacity-laid =
      ap (λ (b : Bool). if b then capacity_of (new_image_words n room text) else front_capacity)
      (lt-ltb journal_address (length (new_image_words n room text)) (omega (arith, length-laid)))
      ∙ ap (λ (l : Log). l.capacity) (log_told (new_image_words n room text) (front-word version_address (lit< tt)))
      ∙ front-word capacity_address (lit< tt)

  module _ (bytes : IsOfBytes text) where
    text-laid : table_text (new_image_words n room text) ≡ text
    text-laid =
        ap (λ k. bytes_of_packed k (take ((k + 1) / 2) (drop text_start (new_image_words n room text)))) (front-word text_length_address (lit< tt))
        ∙ ap (λ l. bytes_of_packed (length text) (take ((length text + 1) / 2) l)) drop-text
        ∙ ap (bytes_of_packed (length text)) (take_all ((length text + 1) / 2) (packed_words text) (omega (arith, length-packed_words text)))
        ∙ bytes_of_packed-packed_words text bytes

    read-laid : read_image (new_image_words n room text) ≡ unsealed_heap n room text
    unfolding read_image
    read-laid = λ k. record {
      head = head-laid k;
      text = text-laid k;
      items = items-laid k;
      counts = (front-word packages_address (lit< tt) k, front-word applets_address (lit< tt) k);
      packages = packages-laid k;
      applets = applets-laid k;
      area_ends = (front-word reset_end_address (lit< tt) k, front-word deselect_end_address (lit< tt) k);
      top = length-laid k;
      capacity = capacity-laid k;
      lasting = lasting-laid k;
    }

    -- the words of a store, of which these are the first
    module _ (rest : List ℕ) (long : length (new_image_words n room text ++ rest) ≡ n) (enough : least_size ≤ n) (may : IsCapacity room.capacity)
        (fits : first_free (length text) ≤ heap_end n room.capacity) where
      abbrev all : List ℕ
      all = new_image_words n room text ++ rest

      all-word : (i : ℕ) → i < first_free (length text) → get_or all i 0 ≡ get_or (new_image_words n room text) i 0
      all-word i h = get_or_append_left (new_image_words n room text) rest 0 i (omega (arith, length-laid))

      all-front : (i : ℕ) → i < front_length → get_or all i 0 ≡ get_or (image_front n room (length text)) i 0
      all-front i h = all-word i (omega arith) ∙ front-word i h

      -- no entry counts
      pub count-laid : count_of all ≡ 0
      count-laid = all-front 3 (lit< tt)

      log-laid : log_of all ≡ record { version = version; start = journal_start n room.capacity; capacity = room.capacity }
      log-laid = log_told all (all-front version_address (lit< tt)) ∙ (λ i. record {
        version = version;
        start = all-front journal_address (lit< tt) i;
        capacity = all-front capacity_address (lit< tt) i;
      })

      pub limit-laid : limit_of all ≡ heap_end n room.capacity
      limit-laid = λ i. heap_end (long i) ((ap (λ (l : Log). l.capacity) log-laid) i)

      pub good-laid : IsGoodLog all
      good-laid = record {
        known = (omega (arith, all-front version_address (lit< tt)), omega (arith, all-front version_address (lit< tt)));
        size = record {
          told = all-front size_address (lit< tt) ∙ sym long;
          enough = omega (arith, enough, long);
          journal = subst (λ (l : Log). IsLogAmong (length all) l) (sym log-laid)
              (record { capacity = may; start = λ i. journal_start (sym long i) room.capacity });
        };
        few = omega (arith, count-laid);
        places = λ k below. absurd (omega (arith, count-laid, below));
      }

      within : (i : ℕ) → i < first_free (length text) → i < limit_of all
      within i h = omega (arith, h, limit-laid, fits)

      log-word : (i : ℕ) → i < first_free (length text) → get_or (new_image_words n room text) i 0 ≡ 0
          → get_or (plain_of all) i 0 ≡ get_or (new_image_words n room text) i 0
      log-word i h z = plain_zero all i (within i h) (all-word i h ∙ z) ∙ sym z

      own-word : (i : ℕ) → i < first_free (length text) → (i ≡ count_address → ⊥) → (front_length ≤ i → addresses_start ≤ i)
          → get_or (plain_of all) i 0 ≡ get_or (new_image_words n room text) i 0
      own-word i h ne beside = plain_word all i good-laid (record { below = within i h; not_count = ne; beside = beside }) ∙ all-word i h

      plain-laid_word : (i : ℕ) → i < first_free (length text) → get_or (plain_of all) i 0 ≡ get_or (new_image_words n room text) i 0
      plain-laid_word i h = elim (cases_lt i front_length) [
        | inl front ↦ elim (cases_eq i 3) [
          | inl e ↦ log-word i h (front-word i front ∙ ap (λ k. get_or (image_front n room (length text)) k 0) e)
          | inr ne ↦ own-word i h ne (λ high. absurd (omega arith))
        ]
        | inr behind ↦ elim (cases_lt i text_start) [
          | inl low ↦ log-word i h (zero-word i behind low)
          | inr high ↦ own-word i h (λ e. omega arith) (λ _. omega arith)
        ]
      ]

      top-laid : get_or (plain_of all) top_address 0 ≡ first_free (length text)
      top-laid = plain-laid_word top_address (omega arith) ∙ front-word top_address (lit< tt)

      length-below : length (take (first_free (length text)) (plain_of all)) ≡ length (new_image_words n room text)
      length-below = omega (
        arith,
        length-take-le (first_free (length text)) (plain_of all)
            (omega (arith, length-plain all, limit-laid, fits)),
        length-laid,
      )

      image-laid : image (plain_of all) ≡ new_image_words n room text
      image-laid =
          ap (λ t. take t (plain_of all)) top-laid
          ∙ ext_get_or 0 (take (first_free (length text)) (plain_of all)) (new_image_words n room text) length-below
          (λ i h. let near : i < first_free (length text) = omega (arith, h, length-below, length-laid) in
          get_or-take (first_free (length text)) (plain_of all) i 0 near ∙ plain-laid_word i near)

      pub heap_of-laid : heap_of (plain_of all) ≡ unsealed_heap n room text
      heap_of-laid = ap read_image image-laid ∙ read-laid

      pub IsLaid-laid : IsWellFormed (plain_of all)
      IsLaid-laid = record {
        based = omega (arith, ap base image-laid, base-laid, top-laid);
        fits = omega (arith, top-laid, length-plain all, limit-laid, fits);
        whole = ap missing_words_of_image image-laid ∙ missing-laid;
        packages = λ a le. ap (λ l. is_package (package_addresses l) a) image-laid ∙ ap (λ ps. is_package ps a) packages-laid;
      }

      pub current-laid : get_or all version_address 0 ≡ version
      current-laid = all-front version_address (lit< tt)
