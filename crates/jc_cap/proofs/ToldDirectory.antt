-- The same of directories.
use Rattle.std.proofs.Common.{◌≡◌, ℕ, ltb, List, ◌∷◌, ◌++◌, length, Ok, refl, sym, ap, subst, ◌∙◌, append_assoc}
use Rattle.std.proofs.lemmas.Bool.{ltb-false, le-ltb}
use Rattle.jc_cap.specs.declared.fault.CapFault.TheVariants.{BadOffset}
use Rattle.jc_cap.specs.declared.formats.Format.{Format}
use Rattle.jc_cap.specs.Reading.{u1_at, u2_at, aid_at, many_at}
use Rattle.jc_cap.specs.Grammar.{IsU2, IsPrefixEncoding, ReadsEncodings}
use Rattle.jc_cap.proofs.Many.{bind_ok, ok_is}
use Rattle.jc_cap.proofs.Telling.{guard_ok, u1_takes, u2_tells, aid_tells, many_takes, many_again}
use Rattle.jc_cap.specs.declared.directory.Directory.{Directory}
use Rattle.jc_cap.specs.declared.directory.StaticFieldSize.{StaticFieldSize}
use Rattle.jc_cap.specs.Customs.{CustomNamed, custom_at, IsCustom}
use Rattle.jc_cap.specs.Directory.{sizes_of, static_field_size_at, directory_at, IsStaticFieldSize, IsDirectory}
use Rattle.jc_cap.proofs.CountedLists.{joined}

custom_takes : (bytes : List ℕ) (x : CustomNamed) (rest : List ℕ) → custom_at bytes ≡ Ok (x, rest) → IsPrefixEncoding IsCustom bytes x rest
unfolding custom_at
custom_takes bytes x rest e =
    let tag = bind_ok (u1_at bytes) _ (x, rest) e in
    let custom = guard_ok (ltb tag.0.0 128) BadOffset _ _ tag.2 in
    let size = bind_ok (u2_at tag.0.1) _ (x, rest) custom.1 in
    let aid = bind_ok (aid_at size.0.1) _ (x, rest) size.2 in
    let t = u2_tells.takes tag.0.1 size.0.0 size.0.1 size.1 in
    let u = aid_tells.takes size.0.1 aid.0.0 aid.0.1 aid.1 in
    let made : CustomNamed × List ℕ = (record { tag = tag.0.0; size = size.0.0; aid = aid.0.0 }, aid.0.1) in
    subst (λ (y : CustomNamed × List ℕ). IsPrefixEncoding IsCustom bytes y.0 y.1) (ok_is made (x, rest) aid.2)
    (record {
      text = tag.0.0 ∷ (t.text ++ u.text);
      is = (t.text, u.text, ltb-false _ _ custom.0, t.is, u.is, refl);
      parts = u1_takes bytes tag.0.0 tag.0.1 tag.1 ∙ ap (λ (s : List ℕ). tag.0.0 ∷ s) (joined tag.0.1 t.text u.text size.0.1 aid.0.1 t.parts u.parts);
    })

custom_again : (x : CustomNamed) (text rest : List ℕ) → IsCustom x text → custom_at (text ++ rest) ≡ Ok (x, rest)
unfolding custom_at
custom_again x text rest is =
    let regrouped : text ++ rest ≡ x.tag ∷ (is.0 ++ (is.1 ++ rest)) = ap (λ (t : List ℕ). t ++ rest) is.5
    ∙ ap (λ (s : List ℕ). x.tag ∷ s) (append_assoc is.0 is.1 rest) in
    rw (regrouped, le-ltb x.tag 128 is.2, u2_tells.again x.size is.0 (is.1 ++ rest) is.3, aid_tells.again x.aid is.1 rest is.4) refl

pub custom_tells : ReadsEncodings custom_at IsCustom
custom_tells = record { takes = custom_takes; again = custom_again }

statics_takes : (bytes : List ℕ) (x : StaticFieldSize) (rest : List ℕ) → static_field_size_at bytes ≡ Ok (x, rest)
    → IsPrefixEncoding IsStaticFieldSize bytes x rest
unfolding static_field_size_at
statics_takes bytes x rest e =
    let image = bind_ok (u2_at bytes) _ (x, rest) e in
    let arrays = bind_ok (u2_at image.0.1) _ (x, rest) image.2 in
    let size = bind_ok (u2_at arrays.0.1) _ (x, rest) arrays.2 in
    let b = u2_tells.takes bytes image.0.0 image.0.1 image.1 in
    let c = u2_tells.takes image.0.1 arrays.0.0 arrays.0.1 arrays.1 in
    let d = u2_tells.takes arrays.0.1 size.0.0 size.0.1 size.1 in
    let made : StaticFieldSize × List ℕ = (record { image_size = image.0.0; array_init_count = arrays.0.0; array_init_size = size.0.0 }, size.0.1) in
    subst (λ (y : StaticFieldSize × List ℕ). IsPrefixEncoding IsStaticFieldSize bytes y.0 y.1) (ok_is made (x, rest) size.2)
    (record {
      text = b.text ++ (c.text ++ d.text);
      is = (b.text, c.text, d.text, b.is, c.is, d.is, refl);
      parts = joined bytes b.text (c.text ++ d.text) image.0.1 size.0.1 b.parts (joined image.0.1 c.text d.text arrays.0.1 size.0.1 c.parts d.parts);
    })

statics_again : (x : StaticFieldSize) (text rest : List ℕ) → IsStaticFieldSize x text → static_field_size_at (text ++ rest) ≡ Ok (x, rest)
unfolding static_field_size_at
statics_again x text rest is =
    let regrouped : text ++ rest ≡ is.0 ++ (is.1 ++ (is.2 ++ rest)) = ap (λ (t : List ℕ). t ++ rest) is.6 ∙ append_assoc is.0 (is.1 ++ is.2) rest
    ∙ ap (λ (s : List ℕ). is.0 ++ s) (append_assoc is.1 is.2 rest) in
    rw (
      regrouped,
      u2_tells.again x.image_size is.0 (is.1 ++ (is.2 ++ rest)) is.3,
      u2_tells.again x.array_init_count is.1 (is.2 ++ rest) is.4,
      u2_tells.again x.array_init_size is.2 rest is.5,
    ) refl

statics_tells : ReadsEncodings static_field_size_at IsStaticFieldSize
statics_tells = record { takes = statics_takes; again = statics_again }

-- three bytes in a row
three : (bytes r0 r1 r2 : List ℕ) (a b c : ℕ) → u1_at bytes ≡ Ok (a, r0) → u1_at r0 ≡ Ok (b, r1) → u1_at r1 ≡ Ok (c, r2) → bytes ≡ a ∷ b ∷ c ∷ r2
three bytes r0 r1 r2 a b c e f g = u1_takes bytes a r0 e ∙ ap (λ (s : List ℕ). a ∷ s) (u1_takes r0 b r1 f ∙ ap (λ (s : List ℕ). b ∷ s) (u1_takes r1 c r2 g))

-- the counts and the custom components
counts : (bytes r0 r1 r2 text rest : List ℕ) (a b c n : ℕ) → u1_at bytes ≡ Ok (a, r0) → u1_at r0 ≡ Ok (b, r1) → u1_at r1 ≡ Ok (c, r2) → r2 ≡ text ++ rest
    → n ≡ c → bytes ≡ (a ∷ b ∷ n ∷ text) ++ rest
counts bytes r0 r1 r2 text rest a b c n e f g h same = three bytes r0 r1 r2 a b c e f g ∙ ap (λ (s : List ℕ). a ∷ b ∷ c ∷ s) h
    ∙ ap (λ (k : ℕ). a ∷ b ∷ k ∷ (text ++ rest)) (sym same)

directory_takes : (format : Format) (bytes : List ℕ) (x : Directory) (rest : List ℕ) → directory_at format bytes ≡ Ok (x, rest)
    → IsPrefixEncoding (IsDirectory format) bytes x rest
unfolding directory_at
directory_takes format bytes x rest e =
    let sizes = bind_ok (many_at u2_at (sizes_of format) bytes) _ (x, rest) e in
    let statics = bind_ok (static_field_size_at sizes.0.1) _ (x, rest) sizes.2 in
    let imports = bind_ok (u1_at statics.0.1) _ (x, rest) statics.2 in
    let applets = bind_ok (u1_at imports.0.1) _ (x, rest) imports.2 in
    let count = bind_ok (u1_at applets.0.1) _ (x, rest) applets.2 in
    let customs = bind_ok (many_at custom_at count.0.0 count.0.1) _ (x, rest) count.2 in
    let a = many_takes u2_at IsU2 u2_tells (sizes_of format) bytes sizes.0.0 sizes.0.1 sizes.1 in
    let b = statics_takes sizes.0.1 statics.0.0 statics.0.1 statics.1 in
    let f = many_takes custom_at IsCustom custom_tells count.0.0 count.0.1 customs.0.0 customs.0.1 customs.1 in
    let last = counts statics.0.1 imports.0.1 applets.0.1 count.0.1 f.0.text customs.0.1 imports.0.0 applets.0.0 count.0.0
    (length customs.0.0) imports.1 applets.1 count.1 f.0.parts f.1 in
    let of_b = joined sizes.0.1 b.text (imports.0.0 ∷ applets.0.0 ∷ length customs.0.0 ∷ f.0.text) statics.0.1 customs.0.1 b.parts last in
    let all = joined bytes a.0.text (b.text ++ (imports.0.0 ∷ applets.0.0 ∷ length customs.0.0 ∷ f.0.text)) sizes.0.1 customs.0.1 a.0.parts of_b in
    let made : Directory × List ℕ = (
      record {
        component_sizes = sizes.0.0;
        static_field_size = statics.0.0;
        import_count = imports.0.0;
        applet_count = applets.0.0;
        custom_components = customs.0.0;
      },
      customs.0.1,
    ) in
    subst (λ (y : Directory × List ℕ). IsPrefixEncoding (IsDirectory format) bytes y.0 y.1) (ok_is made (x, rest) customs.2)
    (record {
      text = a.0.text ++ (b.text ++ (imports.0.0 ∷ applets.0.0 ∷ length customs.0.0 ∷ f.0.text));
      is = (a.0.text, b.text, f.0.text, a.0.is, a.1, b.is, f.0.is, refl);
      parts = all;
    })

-- three parts in a row, and what stands after them
parts : (text a b c rest : List ℕ) → text ≡ a ++ (b ++ c) → text ++ rest ≡ a ++ (b ++ (c ++ rest))
parts text a b c rest h = ap (λ (t : List ℕ). t ++ rest) h ∙ append_assoc a (b ++ c) rest ∙ ap (λ (s : List ℕ). a ++ s) (append_assoc b c rest)

directory_again : (format : Format) (x : Directory) (text rest : List ℕ) → IsDirectory format x text → directory_at format (text ++ rest) ≡ Ok (x, rest)
unfolding directory_at
directory_again format x text rest is =
    let tail = x.import_count ∷ x.applet_count ∷ length x.custom_components ∷ (is.2 ++ rest) in
    let sizes : many_at u2_at (sizes_of format) (is.0 ++ (is.1 ++ tail)) ≡ Ok (x.component_sizes, is.1 ++ tail) =
    subst (λ (n : ℕ). many_at u2_at n (is.0 ++ (is.1 ++ tail)) ≡ Ok (x.component_sizes, is.1 ++ tail)) is.4
    (many_again u2_at IsU2 u2_tells x.component_sizes is.0 (is.1 ++ tail) is.3) in
    rw (
      parts text is.0 is.1 (x.import_count ∷ x.applet_count ∷ length x.custom_components ∷ is.2) rest is.7,
      sizes,
      statics_tells.again x.static_field_size is.1 tail is.5,
      many_again custom_at IsCustom custom_tells x.custom_components is.2 rest is.6,
    ) refl

pub directory_tells : (format : Format) → ReadsEncodings (directory_at format) (IsDirectory format)
directory_tells format = record { takes = directory_takes format; again = directory_again format }
