-- Where the fields of a directory stand.
use Rattle.std.proofs.Common.{◌≡◌, ℕ, zero, suc, ◌+◌, ◌*◌, ◌-◌, ◌≤◌, List, [], ◌∷◌, ◌++◌, length, take, drop, slice_index_or, Ok, refl, sym, ap, subst, ◌∙◌}
use Rattle.std.proofs.Common.{arith, length-append, append_assoc}
use Rattle.std.proofs.lemmas.List.{take_all}
use Rattle.jc_cap.specs.declared.formats.Format.{Format}
use Rattle.jc_cap.specs.declared.directory.Directory.{Directory}
use Rattle.jc_cap.specs.declared.directory.StaticFieldSize.{StaticFieldSize}
use Rattle.jc_cap.specs.Reading.{IsReadable, many_at, list_or_empty, u1_at, u2_at, value_of_whole}
use Rattle.jc_cap.specs.Customs.{custom_at}
use Rattle.jc_cap.specs.Directory.{directory_at, sizes_of, static_field_size_at}
use Rattle.jc_cap.specs.Places.{IsList}
use Rattle.jc_cap.proofs.FoundHeader.{back_of}
use Rattle.jc_cap.proofs.Many.{bind_ok, listed_as, ok_is}
use Rattle.jc_cap.proofs.Telling.{u1_takes, u2_takes}
use Rattle.jc_cap.proofs.Wholes.{whole_reads}

-- a number, and the bytes after it
record TwoBytes (bytes rest : List ℕ) (n : ℕ) : Type 0 where
  high : ℕ
  low : ℕ
  is : n ≡ high * 256 + low
  parts : bytes ≡ high ∷ low ∷ rest

two_bytes : (bytes rest : List ℕ) (n : ℕ) → u2_at bytes ≡ Ok (n, rest) → TwoBytes bytes rest n
two_bytes bytes rest n e =
    let t = u2_takes bytes n rest e in
    record { high = t.is.0; low = t.is.1; is = t.is.3; parts = t.parts ∙ ap (λ (s : List ℕ). s ++ rest) t.is.2 }

-- the numbers before these bytes
record Numbers (n : ℕ) (bytes rest : List ℕ) : Type 0 where
  front : List ℕ
  parts : bytes ≡ front ++ rest
  long : length front ≡ 2 * n

numbers : (n : ℕ) (bytes xs rest : List ℕ) → many_at u2_at n bytes ≡ Ok (xs, rest) → Numbers n bytes rest
unfolding many_at
numbers zero bytes xs rest e = record { front = []; parts = ap (λ (p : List ℕ × List ℕ). p.1) (ok_is ([], bytes) (xs, rest) e); long = refl }
numbers (suc n) bytes xs rest e =
    let a = bind_ok (u2_at bytes) _ (xs, rest) e in
    let b = bind_ok (many_at u2_at n a.0.1) _ (xs, rest) a.2 in
    let t = two_bytes bytes a.0.1 a.0.0 a.1 in
    let u = numbers n a.0.1 b.0.0 b.0.1 b.1 in
    let same : b.0.1 ≡ rest = ap (λ (p : List ℕ × List ℕ). p.1) (ok_is (a.0.0 ∷ b.0.0, b.0.1) (xs, rest) b.2) in
    record {
      front = t.high ∷ t.low ∷ u.front;
      parts = t.parts ∙ ap (λ (s : List ℕ). t.high ∷ t.low ∷ s) (u.parts ∙ ap (λ (s : List ℕ). u.front ++ s) same);
      long = (let l = u.long in omega (arith, l));
    }

-- a directory, with its bytes after the sizes
record Placed (format : Format) (info : List ℕ) : Type 0 where
  d : Directory
  says : value_of_whole (directory_at format info) ≡ Ok d
  behind : List ℕ
  sizes : many_at u2_at (sizes_of format) info ≡ Ok (d.component_sizes, behind)
  b0 : ℕ
  b1 : ℕ
  b2 : ℕ
  b3 : ℕ
  b4 : ℕ
  b5 : ℕ
  count : ℕ
  rest : List ℕ
  is : behind ≡ b0 ∷ b1 ∷ b2 ∷ b3 ∷ b4 ∷ b5 ∷ d.import_count ∷ d.applet_count ∷ count ∷ rest
  image : d.static_field_size ≡ record { image_size = b0 * 256 + b1; array_init_count = b2 * 256 + b3; array_init_size = b4 * 256 + b5 }
  customs : many_at custom_at count rest ≡ Ok (d.custom_components, [])

placed : (format : Format) (info : List ℕ) → IsReadable (value_of_whole (directory_at format info)) → Placed format info
unfolding directory_at static_field_size_at
placed format info given =
    let d = given.0 in
    let e = whole_reads (directory_at format info) d given.1 in
    let sizes = bind_ok (many_at u2_at (sizes_of format) info) _ (d, []) e in
    let statics = bind_ok (static_field_size_at sizes.0.1) _ (d, []) sizes.2 in
    let imports = bind_ok (u1_at statics.0.1) _ (d, []) statics.2 in
    let applets = bind_ok (u1_at imports.0.1) _ (d, []) imports.2 in
    let count = bind_ok (u1_at applets.0.1) _ (d, []) applets.2 in
    let customs = bind_ok (many_at custom_at count.0.0 count.0.1) _ (d, []) count.2 in
    let image = bind_ok (u2_at sizes.0.1) _ statics.0 statics.1 in
    let arrays = bind_ok (u2_at image.0.1) _ statics.0 image.2 in
    let size = bind_ok (u2_at arrays.0.1) _ statics.0 arrays.2 in
    let a = two_bytes sizes.0.1 image.0.1 image.0.0 image.1 in
    let b = two_bytes image.0.1 arrays.0.1 arrays.0.0 arrays.1 in
    let c = two_bytes arrays.0.1 size.0.1 size.0.0 size.1 in
    let told : StaticFieldSize × List ℕ = (record { image_size = image.0.0; array_init_count = arrays.0.0; array_init_size = size.0.0 }, size.0.1) in
    let is_told : told ≡ statics.0 = ok_is told statics.0 size.2 in
    let made : Directory × List ℕ = (
      record {
        component_sizes = sizes.0.0;
        static_field_size = statics.0.0;
        import_count = imports.0.0;
        applet_count = applets.0.0;
        custom_components = customs.0.0;
      },
      customs.0.1,
    ) in
    let same : made ≡ (d, []) = ok_is made (d, []) customs.2 in
    let three : statics.0.1 ≡ imports.0.0 ∷ applets.0.0 ∷ count.0.0 ∷ count.0.1 =
    u1_takes statics.0.1 imports.0.0 imports.0.1 imports.1 ∙ ap (λ (s : List ℕ). imports.0.0 ∷ s)
    (u1_takes imports.0.1 applets.0.0 applets.0.1 applets.1 ∙ ap (λ (s : List ℕ). applets.0.0 ∷ s) (u1_takes applets.0.1 count.0.0 count.0.1 count.1)) in
    record {
      d = d;
      says = given.1;
      behind = sizes.0.1;
      sizes = sizes.1 ∙ ap (λ (x : Directory × List ℕ). Ok (x.0.component_sizes, sizes.0.1)) same;
      b0 = a.high;
      b1 = a.low;
      b2 = b.high;
      b3 = b.low;
      b4 = c.high;
      b5 = c.low;
      count = count.0.0;
      rest = count.0.1;
      is = a.parts ∙ ap (λ (s : List ℕ). a.high ∷ a.low ∷ s) (b.parts ∙ ap (λ (s : List ℕ). b.high ∷ b.low ∷ s)
          (c.parts ∙ ap (λ (s : List ℕ). c.high ∷ c.low ∷ s) (ap (λ (x : StaticFieldSize × List ℕ). x.1) is_told ∙ three)))
          ∙ ap (λ (x : Directory × List ℕ). a.high ∷ a.low ∷ b.high ∷ b.low ∷ c.high ∷ c.low ∷ x.0.import_count ∷ x.0.applet_count ∷ count.0.0 ∷ count.0.1) same;
      image = sym (ap (λ (x : Directory × List ℕ). x.0.static_field_size) same) ∙ sym (ap (λ (x : StaticFieldSize × List ℕ). x.0) is_told)
          ∙ ap (λ (n : ℕ). record { image_size = n; array_init_count = arrays.0.0; array_init_size = size.0.0 }) a.is
          ∙ ap (λ (n : ℕ). record { image_size = a.high * 256 + a.low; array_init_count = n; array_init_size = size.0.0 }) b.is
          ∙ ap (λ (n : ℕ). record { image_size = a.high * 256 + a.low; array_init_count = b.high * 256 + b.low; array_init_size = n }) c.is;
      customs = customs.1 ∙ ap (λ (x : Directory × List ℕ). Ok (x.0.custom_components, x.1)) same;
    }

behind_is : (format : Format) (info : List ℕ) (p : Placed format info) → drop (2 * sizes_of format) info ≡ p.behind
behind_is format info p =
    let n = numbers (sizes_of format) info p.d.component_sizes p.behind p.sizes in
    ap (λ (k : ℕ). drop k info) (sym n.long) ∙ ap (drop (length n.front)) n.parts ∙ back_of n.front p.behind

-- there are as many sizes
pub has_sizes : (format : Format) (info : List ℕ) (count : ℕ) → IsReadable (value_of_whole (directory_at format info)) → count ≡ sizes_of format
    → 2 * count ≤ length info
has_sizes format info count given e =
    let p = placed format info given in
    let n = numbers (sizes_of format) info p.d.component_sizes p.behind p.sizes in
    let long : length info ≡ length n.front + length p.behind = ap length n.parts ∙ length-append n.front p.behind in
    let front = n.long in
    omega (arith, long, front, e)

-- what stands after the sizes
abbrev pub back : List ℕ → ℕ → List ℕ
back info count = drop (2 * count) info

is_back : (format : Format) (info behind : List ℕ) (count : ℕ) (p : Placed format info) → count ≡ sizes_of format → behind ≡ back info count → behind ≡ p.behind
is_back format info behind count p e b = b ∙ ap (back info) e ∙ behind_is format info p

pub long_enough : (format : Format) (info behind : List ℕ) (count : ℕ) → IsReadable (value_of_whole (directory_at format info)) → count ≡ sizes_of format
    → behind ≡ back info count → 9 ≤ length behind
long_enough format info behind count given e b =
    let p = placed format info given in
    let long = ap length (is_back format info behind count p e b ∙ p.is) in
    omega (arith, long)

pub are_sizes : (format : Format) (info : List ℕ) (count : ℕ) → IsReadable (value_of_whole (directory_at format info)) → count ≡ sizes_of format
    → IsList u2_at count info
are_sizes format info count given e =
    let p = placed format info given in
    let there : many_at u2_at count info ≡ Ok (p.d.component_sizes, p.behind) = ap (λ (n : ℕ). many_at u2_at n info) e ∙ p.sizes in
    let said : list_or_empty (many_at u2_at count info) ≡ p.d.component_sizes = listed_as (many_at u2_at count info) p.d.component_sizes p.behind there in
    (p.behind, there ∙ ap (λ xs. Ok (xs, p.behind)) (sym said))

-- what stands after the counts
abbrev pub last_of : List ℕ → List ℕ
last_of behind = take (length behind - 9) (drop 9 behind)

last_is : (behind rest : List ℕ) (a b c d e f g h k : ℕ) → behind ≡ a ∷ b ∷ c ∷ d ∷ e ∷ f ∷ g ∷ h ∷ k ∷ rest → last_of behind ≡ rest
last_is behind rest a b c d e f g h k is =
    let long : length behind ≡ length (a ∷ b ∷ c ∷ d ∷ e ∷ f ∷ g ∷ h ∷ k ∷ rest) = ap length is in
    let n : length behind - 9 ≡ length rest = omega (arith, long) in
    ap (λ (t : List ℕ). take (length behind - 9) (drop 9 t)) is ∙ ap (λ (m : ℕ). take m rest) n ∙ take_all (length rest) rest (omega arith)

last_at : (format : Format) (info behind : List ℕ) (count : ℕ) (p : Placed format info) → count ≡ sizes_of format → behind ≡ back info count
    → last_of behind ≡ p.rest
last_at format info behind count p e b = last_is behind p.rest p.b0 p.b1 p.b2 p.b3 p.b4 p.b5 p.d.import_count p.d.applet_count p.count
    (is_back format info behind count p e b ∙ p.is)

customs_at : (format : Format) (info behind : List ℕ) (count : ℕ) (p : Placed format info) → count ≡ sizes_of format → behind ≡ back info count
    → many_at custom_at (slice_index_or behind 8 0) (last_of behind) ≡ Ok (p.d.custom_components, [])
customs_at format info behind count p e b =
    ap (λ (n : ℕ). many_at custom_at n (last_of behind)) (ap (λ (t : List ℕ). slice_index_or t 8 0) (is_back format info behind count p e b ∙ p.is))
    ∙ ap (many_at custom_at p.count) (last_at format info behind count p e b) ∙ p.customs

pub are_customs : (format : Format) (info behind : List ℕ) (count : ℕ) → IsReadable (value_of_whole (directory_at format info)) → count ≡ sizes_of format
    → behind ≡ back info count → IsList custom_at (slice_index_or behind 8 0) (last_of behind)
are_customs format info behind count given e b =
    let p = placed format info given in
    let there = customs_at format info behind count p e b in
    let said = listed_as (many_at custom_at (slice_index_or behind 8 0) (last_of behind)) p.d.custom_components [] there in
    ([], there ∙ ap (λ xs. Ok (xs, [])) (sym said))

-- a directory of fields that stand at their places
abbrev pub at_places : List ℕ → ℕ → List ℕ → Directory
at_places info count behind = record {
  component_sizes = list_or_empty (many_at u2_at count info);
  static_field_size = record {
    image_size = slice_index_or behind 0 0 * 256 + slice_index_or behind 1 0;
    array_init_count = slice_index_or behind 2 0 * 256 + slice_index_or behind 3 0;
    array_init_size = slice_index_or behind 4 0 * 256 + slice_index_or behind 5 0;
  };
  import_count = slice_index_or behind 6 0;
  applet_count = slice_index_or behind 7 0;
  custom_components = list_or_empty (many_at custom_at (slice_index_or behind 8 0) (last_of behind));
}

pub directory_found : (format : Format) (info behind : List ℕ) (count : ℕ) → IsReadable (value_of_whole (directory_at format info)) → count ≡ sizes_of format
    → behind ≡ back info count → value_of_whole (directory_at format info) ≡ Ok (at_places info count behind)
unfolding placed
directory_found format info behind count given e b =
    let p = placed format info given in
    let is = is_back format info behind count p e b ∙ p.is in
    let at : (i : ℕ) → slice_index_or behind i 0 ≡ slice_index_or (p.b0 ∷ p.b1 ∷ p.b2 ∷ p.b3 ∷ p.b4 ∷ p.b5 ∷ p.d.import_count ∷ p.d.applet_count ∷ p.count ∷ p.rest)
    i 0 = λ i. ap (λ (t : List ℕ). slice_index_or t i 0) is in
    let sizes : list_or_empty (many_at u2_at count info) ≡ p.d.component_sizes =
    listed_as (many_at u2_at count info) p.d.component_sizes p.behind (ap (λ (n : ℕ). many_at u2_at n info) e ∙ p.sizes) in
    let customs : list_or_empty (many_at custom_at (slice_index_or behind 8 0) (last_of behind)) ≡ p.d.custom_components =
    listed_as (many_at custom_at (slice_index_or behind 8 0) (last_of behind)) p.d.custom_components [] (customs_at format info behind count p e b) in
    p.says ∙ sym (ap Ok (
    rw (sizes, customs, at 0, at 1, at 2, at 3, at 4, at 5, at 6, at 7, sym p.image) refl))
