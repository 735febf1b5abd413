-- The components of a package, as its record has them.
use Rattle.std.proofs.Common.{◌≡◌, ℕ, zero, suc, ◌+◌, ◌*◌, ◌/◌, ◌%◌, ◌<◌, inl, inr, List, [], ◌∷◌, ◌++◌, length, take, get_or, refl, sym, ◌∙◌, ap, subst, arith}
use Rattle.std.proofs.Common.{Option, Some, None, Ok}
use Rattle.std.specs.Option.{option_map}
use Rattle.std.specs.Result.{result_unwrap_or}
use Rattle.std.proofs.lemmas.List.{get_or_past, take_all}
use Rattle.std.proofs.lemmas.Bool.{cases_lt}
use Rattle.jc_cap.specs.Envelope.{IsEnvelope, info_at}
use Rattle.jc_cap.proofs.ToldEnvelope.{info_takes}
use Rattle.jc_cap.specs.declared.texts.LoadedComponents.{LoadedComponents}
use Rattle.jc_cap.specs.declared.texts.PackageBytes.{PackageBytes}
use Rattle.jc_heap.specs.declared.object.Kind.{Kind}
use Rattle.jc_heap.specs.Component.{AreInfosOfBytes}
use Rattle.jc_heap.specs.Package.{package_record}
use Rattle.jc_packages.specs.RecordContents.{part, component_if_present, parts_of}
use Rattle.jc_packages.specs.Reading.{load_of, text_in}
use Rattle.jc_packages.specs.LinkerView.{info_of_component}
use Rattle.jc_packages.proofs.Fit.{parts_fit}
use Rattle.law_soundness.specs.LoadedPackages.{AreBytes}
use Rattle.jc_packages.proofs.ReadingRecords.{load_is}
use Rattle.jc_packages.proofs.ReadBack.{look, text_back, text_of}

-- ---- one component

-- bytes that are a component with this tag
pub record IsRead (tag : ℕ) (text : List ℕ) : Type 0 where
  pub info : List ℕ
  pub read : info_at tag text ≡ Ok info
  pub bytes : AreBytes text

-- where it came
abbrev pub IsReadIf : ℕ → Option (List ℕ) → Type 0
IsReadIf tag None = Unit {0}
IsReadIf tag (Some text) = IsRead tag text

module _ (tag : ℕ) (text : List ℕ) (r : IsRead tag text) where
  envelope : IsEnvelope tag r.info text
  envelope = info_takes tag text r.info r.read

  high : ℕ
  high = envelope.1.0

  low : ℕ
  low = envelope.1.1

  is : text ≡ tag ∷ high ∷ low ∷ r.info
  unfolding high low
  is = envelope.2 ∙ ap (λ size. tag ∷ (size ++ r.info)) envelope.1.2

  size_is : length r.info ≡ high * 256 + low
  unfolding high low
  size_is = envelope.1.3

  all : AreBytes (tag ∷ high ∷ low ∷ r.info)
  all = subst AreBytes is r.bytes

  high_small : high < 256
  high_small = all 1 0 (omega arith)

  low_small : low < 256
  low_small = all 2 0 (omega arith)

  info_is : info_of_component tag text ≡ r.info
  info_is =
      let size = size_is in
      let h = high_small in
      let l = low_small in
      ap (λ o. take 65535 (result_unwrap_or o [])) r.read ∙ take_all 65535 r.info (omega (arith, size, h, l))

  -- its info, with its tag and its size in front, is the component
  text_again : text_of tag (info_of_component tag text) ≡ text
  text_again =
      let size = size_is in
      let l = low_small in
      let first : length r.info / 256 ≡ high = omega (arith, size, l) in
      let second : length r.info % 256 ≡ low = omega (arith, size, l) in
      ap (text_of tag) info_is ∙ (λ i. tag ∷ first i ∷ second i ∷ r.info) ∙ sym is

  byte_small : (i : ℕ) → get_or (info_of_component tag text) i 0 < 256
  byte_small i = subst (λ l. get_or l i 0 < 256) (sym info_is) (elim (cases_lt i (length r.info)) [
    | inl within ↦ all (suc (suc (suc i))) 0 (omega (arith, within))
    | inr past ↦ subst (λ n. n < 256) (sym (get_or_past r.info i 0 past)) (omega arith)
  ])

-- ---- all of a package

-- each component of a package is read
pub record AreRead (t : PackageBytes) : Type 0 where
  pub header : IsRead 1 t.header
  pub directory : IsRead 2 t.directory
  pub applets : IsReadIf 3 t.applets
  pub imports : IsRead 4 t.imports
  pub pool : IsRead 5 t.pool
  pub classes : IsRead 6 t.classes
  pub methods : IsRead 7 t.methods
  pub statics : IsRead 8 t.statics
  pub exports : IsReadIf 10 t.exports

-- the parts of its record, by the two that may be absent
abbrev parts_by : PackageBytes → Option (List ℕ) → Option (List ℕ) → List (ℕ × List ℕ)
parts_by t a e =
    (part 1 t.header ∷ part 2 t.directory ∷ []) ++ component_if_present 3 a
    ++ (part 4 t.imports ∷ part 5 t.pool ∷ part 6 t.classes ∷ part 7 t.methods ∷ part 8 t.statics ∷ []) ++ component_if_present 10 e

parts_are : (t : PackageBytes) → parts_of t ≡ parts_by t t.applets t.exports
unfolding parts_of
parts_are t = refl

-- which info each tag has
record Looks (t : PackageBytes) (a e : Option (List ℕ)) (cs : List (ℕ × List ℕ)) : Type 0 where
  header : look cs 1 ≡ Some (info_of_component 1 t.header)
  directory : look cs 2 ≡ Some (info_of_component 2 t.directory)
  applets : look cs 3 ≡ option_map (info_of_component 3) a
  imports : look cs 4 ≡ Some (info_of_component 4 t.imports)
  pool : look cs 5 ≡ Some (info_of_component 5 t.pool)
  classes : look cs 6 ≡ Some (info_of_component 6 t.classes)
  methods : look cs 7 ≡ Some (info_of_component 7 t.methods)
  statics : look cs 8 ≡ Some (info_of_component 8 t.statics)
  exports : look cs 10 ≡ option_map (info_of_component 10) e

looks : (t : PackageBytes) (a e : Option (List ℕ)) → Looks t a e (parts_by t a e)
looks t None None = record {
  header = refl;
  directory = refl;
  applets = refl;
  imports = refl;
  pool = refl;
  classes = refl;
  methods = refl;
  statics = refl;
  exports = refl;
}
looks t None (Some y) = record {
  header = refl;
  directory = refl;
  applets = refl;
  imports = refl;
  pool = refl;
  classes = refl;
  methods = refl;
  statics = refl;
  exports = refl;
}
looks t (Some x) None = record {
  header = refl;
  directory = refl;
  applets = refl;
  imports = refl;
  pool = refl;
  classes = refl;
  methods = refl;
  statics = refl;
  exports = refl;
}
looks t (Some x) (Some y) = record {
  header = refl;
  directory = refl;
  applets = refl;
  imports = refl;
  pool = refl;
  classes = refl;
  methods = refl;
  statics = refl;
  exports = refl;
}

-- ---- infos of bytes

abbrev AllSmall : List (ℕ × List ℕ) → Type 0
AllSmall [] = Unit {0}
AllSmall (c ∷ cs) = ((i : ℕ) → get_or c.1 i 0 < 256) × AllSmall cs

infos_small : (cs : List (ℕ × List ℕ)) → AllSmall cs → AreInfosOfBytes cs
infos_small [] all k i lt = absurd (omega (arith, lt))
infos_small (c ∷ cs) all zero i lt = all.0 i
infos_small (c ∷ cs) all (suc k) i lt = infos_small cs all.1 k i (omega (arith, lt))

small_both : (xs ys : List (ℕ × List ℕ)) → AllSmall xs → AllSmall ys → AllSmall (xs ++ ys)
small_both [] ys first second = second
small_both (x ∷ xs) ys first second = (first.0, small_both xs ys first.1 second)

small_if : (tag : ℕ) (text : Option (List ℕ)) → IsReadIf tag text → AllSmall (component_if_present tag text)
small_if tag None r = tt
small_if tag (Some text) r = (byte_small tag text r, tt)

parts_small : (t : PackageBytes) → AreRead t → AreInfosOfBytes (parts_of t)
parts_small t r = infos_small (parts_of t) (subst AllSmall (sym (parts_are t))
    (small_both ((part 1 t.header ∷ part 2 t.directory ∷ []) ++ component_if_present 3 t.applets
    ++ (part 4 t.imports ∷ part 5 t.pool ∷ part 6 t.classes ∷ part 7 t.methods ∷ part 8 t.statics ∷ [])) (component_if_present 10 t.exports)
    (small_both ((part 1 t.header ∷ part 2 t.directory ∷ []) ++ component_if_present 3 t.applets)
    (part 4 t.imports ∷ part 5 t.pool ∷ part 6 t.classes ∷ part 7 t.methods ∷ part 8 t.statics ∷ [])
    (small_both (part 1 t.header ∷ part 2 t.directory ∷ []) (component_if_present 3 t.applets)
    (byte_small 1 t.header r.header, (byte_small 2 t.directory r.directory, tt)) (small_if 3 t.applets r.applets)) (
      byte_small 4 t.imports r.imports,
      (
        byte_small 5 t.pool r.pool,
        (
          byte_small 6 t.classes r.classes,
          (byte_small 7 t.methods r.methods, (byte_small 8 t.statics r.statics, tt)),
        ),
      ),
    ))
    (small_if 10 t.exports r.exports)))

-- ---- the record

again_if : (tag : ℕ) (text : Option (List ℕ)) → IsReadIf tag text → option_map (text_of tag) (option_map (info_of_component tag) text) ≡ text
again_if tag None r = refl
again_if tag (Some text) r = ap Some (text_again tag text r)

-- the components that a record keeps
abbrev pub kept : PackageBytes → LoadedComponents
kept t = record {
  header = Some t.header;
  directory = Some t.directory;
  applets = t.applets;
  imports = Some t.imports;
  pool = Some t.pool;
  classes = Some t.classes;
  methods = Some t.methods;
  statics = Some t.statics;
  exports = t.exports;
  reference_location = None;
  descriptor = None;
}

module _ (at : ℕ) (t : PackageBytes) (xs : List (Kind × List ℕ)) (rest : List ℕ) (r : AreRead t) where
  abbrev words : List ℕ
  words = package_record at (parts_of t) xs rest

  seen : Looks t t.applets t.exports (parts_of t)
  seen = subst (Looks t t.applets t.exports) (sym (parts_are t)) (looks t t.applets t.exports)

  one : (tag : ℕ) (text : List ℕ) → 0 < tag → IsRead tag text → look (parts_of t) tag ≡ Some (info_of_component tag text) → text_in words tag ≡ Some text
  one tag text some read e = text_back at (parts_of t) xs rest (parts_fit t) (parts_small t r) tag some (Some (info_of_component tag text)) e
      ∙ ap Some (text_again tag text read)

  one_if : (tag : ℕ) (text : Option (List ℕ)) → 0 < tag → IsReadIf tag text → look (parts_of t) tag ≡ option_map (info_of_component tag) text
      → text_in words tag ≡ text
  one_if tag text some read e = text_back at (parts_of t) xs rest (parts_fit t) (parts_small t r) tag some (option_map (info_of_component tag) text) e
      ∙ again_if tag text read

  -- all of them are read of it
  pub load_back : load_of words ≡ kept t
  load_back =
      load_is words (kept t) (one 1 t.header (omega arith) r.header seen.header) (one 2 t.directory (omega arith) r.directory seen.directory)
      (one_if 3 t.applets (omega arith) r.applets seen.applets)
      (one 4 t.imports (omega arith) r.imports seen.imports) (one 5 t.pool (omega arith) r.pool seen.pool)
      (one 6 t.classes (omega arith) r.classes seen.classes) (one 7 t.methods (omega arith) r.methods seen.methods)
      (one 8 t.statics (omega arith) r.statics seen.statics) (one_if 10 t.exports (omega arith) r.exports seen.exports)
