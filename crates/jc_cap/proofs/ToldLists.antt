-- The same of imports, applets and exports.
use Rattle.std.proofs.Common.{◌≡◌, ℕ, List, ◌∷◌, ◌++◌, length, Ok, refl, sym, ap, subst, ◌∙◌, append_assoc}
use Rattle.jc_cap.specs.Reading.{u1_at, u2_at, aid_at, many_at}
use Rattle.jc_cap.specs.Packages.{NamedPackage, package_at}
use Rattle.jc_cap.specs.Grammar.{IsU2, IsPackageInfo, IsPrefixEncoding, ReadsEncodings}
use Rattle.jc_cap.proofs.Many.{bind_ok, ok_is}
use Rattle.jc_cap.proofs.Telling.{u1_takes, u2_tells, aid_tells, package_tells, many_takes, many_again}
use Rattle.jc_cap.specs.declared.exports.ExportedClass.{ExportedClass}
use Rattle.jc_cap.specs.Imports.{imports_at, IsImports}
use Rattle.jc_cap.specs.Applets.{AppletNamed, applet_at, applets_at, IsApplet, IsApplets}
use Rattle.jc_cap.specs.Exports.{exported_class_at, exports_at, IsExportedClass, IsExports}
use Rattle.jc_cap.proofs.CountedLists.{counted_takes, joined}

-- ---- imports

imports_takes : (bytes : List ℕ) (xs : List NamedPackage) (rest : List ℕ) → imports_at bytes ≡ Ok (xs, rest) → IsPrefixEncoding IsImports bytes xs rest
unfolding imports_at
imports_takes bytes xs rest e =
    let t = counted_takes package_at IsPackageInfo package_tells bytes xs rest e in
    record { text = length xs ∷ t.0; is = (t.0, t.1, refl); parts = t.2 }

imports_again : (xs : List NamedPackage) (text rest : List ℕ) → IsImports xs text → imports_at (text ++ rest) ≡ Ok (xs, rest)
unfolding imports_at
imports_again xs text rest is = rw is.2 (many_again package_at IsPackageInfo package_tells xs is.0 rest is.1)

pub imports_tells : ReadsEncodings imports_at IsImports
imports_tells = record { takes = imports_takes; again = imports_again }

-- ---- applets

applet_takes : (bytes : List ℕ) (x : AppletNamed) (rest : List ℕ) → applet_at bytes ≡ Ok (x, rest) → IsPrefixEncoding IsApplet bytes x rest
unfolding applet_at
applet_takes bytes x rest e =
    let aid = bind_ok (aid_at bytes) _ (x, rest) e in
    let offset = bind_ok (u2_at aid.0.1) _ (x, rest) aid.2 in
    let t = aid_tells.takes bytes aid.0.0 aid.0.1 aid.1 in
    let u = u2_tells.takes aid.0.1 offset.0.0 offset.0.1 offset.1 in
    let made : AppletNamed × List ℕ = (record { aid = aid.0.0; install_method_offset = offset.0.0 }, offset.0.1) in
    subst (λ (y : AppletNamed × List ℕ). IsPrefixEncoding IsApplet bytes y.0 y.1) (ok_is made (x, rest) offset.2)
    (record { text = t.text ++ u.text; is = (t.text, u.text, t.is, u.is, refl); parts = joined bytes t.text u.text aid.0.1 offset.0.1 t.parts u.parts })

applet_again : (x : AppletNamed) (text rest : List ℕ) → IsApplet x text → applet_at (text ++ rest) ≡ Ok (x, rest)
unfolding applet_at
applet_again x text rest is =
    let regrouped : text ++ rest ≡ is.0 ++ (is.1 ++ rest) = ap (λ (t : List ℕ). t ++ rest) is.4 ∙ append_assoc is.0 is.1 rest in
    rw (regrouped, aid_tells.again x.aid is.0 (is.1 ++ rest) is.2, u2_tells.again x.install_method_offset is.1 rest is.3) refl

pub applet_tells : ReadsEncodings applet_at IsApplet
applet_tells = record { takes = applet_takes; again = applet_again }

applets_takes : (bytes : List ℕ) (xs : List AppletNamed) (rest : List ℕ) → applets_at bytes ≡ Ok (xs, rest) → IsPrefixEncoding IsApplets bytes xs rest
unfolding applets_at
applets_takes bytes xs rest e =
    let t = counted_takes applet_at IsApplet applet_tells bytes xs rest e in
    record { text = length xs ∷ t.0; is = (t.0, t.1, refl); parts = t.2 }

applets_again : (xs : List AppletNamed) (text rest : List ℕ) → IsApplets xs text → applets_at (text ++ rest) ≡ Ok (xs, rest)
unfolding applets_at
applets_again xs text rest is = rw is.2 (many_again applet_at IsApplet applet_tells xs is.0 rest is.1)

pub applets_tells : ReadsEncodings applets_at IsApplets
applets_tells = record { takes = applets_takes; again = applets_again }

-- ---- exports

exported_takes : (bytes : List ℕ) (x : ExportedClass) (rest : List ℕ) → exported_class_at bytes ≡ Ok (x, rest) → IsPrefixEncoding IsExportedClass bytes x rest
unfolding exported_class_at
exported_takes bytes x rest e =
    let class = bind_ok (u2_at bytes) _ (x, rest) e in
    let fields = bind_ok (u1_at class.0.1) _ (x, rest) class.2 in
    let methods = bind_ok (u1_at fields.0.1) _ (x, rest) fields.2 in
    let field_offsets = bind_ok (many_at u2_at fields.0.0 methods.0.1) _ (x, rest) methods.2 in
    let method_offsets = bind_ok (many_at u2_at methods.0.0 field_offsets.0.1) _ (x, rest) field_offsets.2 in
    let t = u2_tells.takes bytes class.0.0 class.0.1 class.1 in
    let u = many_takes u2_at IsU2 u2_tells fields.0.0 methods.0.1 field_offsets.0.0 field_offsets.0.1 field_offsets.1 in
    let v = many_takes u2_at IsU2 u2_tells methods.0.0 field_offsets.0.1 method_offsets.0.0 method_offsets.0.1 method_offsets.1 in
    let made : ExportedClass × List ℕ = (
      record {
        class_offset = class.0.0;
        static_field_offsets = field_offsets.0.0;
        static_method_offsets = method_offsets.0.0;
      },
      method_offsets.0.1,
    ) in
    let lists : methods.0.1 ≡ (u.0.text ++ v.0.text) ++ method_offsets.0.1 = joined methods.0.1 u.0.text v.0.text field_offsets.0.1 method_offsets.0.1 u.0.parts
    v.0.parts in
    let behind : class.0.1 ≡ (length field_offsets.0.0 ∷ length method_offsets.0.0 ∷ (u.0.text ++ v.0.text)) ++ method_offsets.0.1 =
    u1_takes class.0.1 fields.0.0 fields.0.1 fields.1 ∙ ap (λ (s : List ℕ). fields.0.0 ∷ s)
    (u1_takes fields.0.1 methods.0.0 methods.0.1 methods.1 ∙ ap (λ (s : List ℕ). methods.0.0 ∷ s) lists)
    ∙ ap (λ (k : ℕ). k ∷ methods.0.0 ∷ ((u.0.text ++ v.0.text) ++ method_offsets.0.1)) (sym u.1)
    ∙ ap (λ (k : ℕ). length field_offsets.0.0 ∷ k ∷ ((u.0.text ++ v.0.text) ++ method_offsets.0.1)) (sym v.1) in
    subst (λ (y : ExportedClass × List ℕ). IsPrefixEncoding IsExportedClass bytes y.0 y.1) (ok_is made (x, rest) method_offsets.2)
    (record {
      text = t.text ++ (length field_offsets.0.0 ∷ length method_offsets.0.0 ∷ (u.0.text ++ v.0.text));
      is = (t.text, u.0.text, v.0.text, t.is, u.0.is, v.0.is, refl);
      parts = joined bytes t.text (length field_offsets.0.0 ∷ length method_offsets.0.0 ∷ (u.0.text ++ v.0.text)) class.0.1 method_offsets.0.1 t.parts behind;
    })

exported_again : (x : ExportedClass) (text rest : List ℕ) → IsExportedClass x text → exported_class_at (text ++ rest) ≡ Ok (x, rest)
unfolding exported_class_at
exported_again x text rest is =
    let behind = length x.static_field_offsets ∷ length x.static_method_offsets ∷ (is.1 ++ is.2) in
    let regrouped : text ++ rest ≡ is.0 ++ (length x.static_field_offsets ∷ length x.static_method_offsets ∷ (is.1 ++ (is.2 ++ rest))) =
    ap (λ (t : List ℕ). t ++ rest) is.6 ∙ append_assoc is.0 behind rest ∙ ap (λ (s : List ℕ). is.0
    ++ (length x.static_field_offsets ∷ length x.static_method_offsets ∷ s)) (append_assoc is.1 is.2 rest) in
    rw (
      regrouped,
      u2_tells.again x.class_offset is.0 (length x.static_field_offsets ∷ length x.static_method_offsets ∷ (is.1 ++ (is.2 ++ rest))) is.3,
      many_again u2_at IsU2 u2_tells x.static_field_offsets is.1 (is.2 ++ rest) is.4,
      many_again u2_at IsU2 u2_tells x.static_method_offsets is.2 rest is.5,
    )
    refl

pub exported_tells : ReadsEncodings exported_class_at IsExportedClass
exported_tells = record { takes = exported_takes; again = exported_again }

exports_takes : (bytes : List ℕ) (xs : List ExportedClass) (rest : List ℕ) → exports_at bytes ≡ Ok (xs, rest) → IsPrefixEncoding IsExports bytes xs rest
unfolding exports_at
exports_takes bytes xs rest e =
    let t = counted_takes exported_class_at IsExportedClass exported_tells bytes xs rest e in
    record { text = length xs ∷ t.0; is = (t.0, t.1, refl); parts = t.2 }

exports_again : (xs : List ExportedClass) (text rest : List ℕ) → IsExports xs text → exports_at (text ++ rest) ≡ Ok (xs, rest)
unfolding exports_at
exports_again xs text rest is = rw is.2 (many_again exported_class_at IsExportedClass exported_tells xs is.0 rest is.1)

pub exports_tells : ReadsEncodings exports_at IsExports
exports_tells = record { takes = exports_takes; again = exports_again }
