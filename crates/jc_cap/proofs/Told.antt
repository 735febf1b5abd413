-- What is read of a component stands in its bytes, and the other way round.
use Rattle.std.proofs.Common.{◌≡◌, ℕ, eqb, List, Option, Result, Ok, Err, refl, sym, ap, subst, ◌∙◌, inl, inr}
use Rattle.std.specs.Prelude.{IfOk}
use Rattle.std.proofs.lemmas.Bool.{eqb-true, eqb-false, ne_eqb}
use Rattle.jc_cap.specs.declared.fault.CapFault.{CapFault}
use Rattle.jc_cap.specs.declared.formats.Format.{Format}
use Rattle.jc_cap.specs.Reading.{Field, ParsesAs, value_of_whole}
use Rattle.jc_cap.specs.Grammar.{ReadsEncodings}
use Rattle.jc_cap.proofs.Many.{bind_ok, ok_is}
use Rattle.jc_cap.proofs.Telling.{chosen}
use Rattle.jc_cap.proofs.Wholes.{whole_takes, whole_again}
use Rattle.jc_cap.specs.Envelope.{info_at}
use Rattle.jc_cap.specs.Header.{header_at, IsHeader}
use Rattle.jc_cap.specs.Directory.{directory_at, IsDirectory}
use Rattle.jc_cap.specs.Applets.{applets_at, IsApplets}
use Rattle.jc_cap.specs.Imports.{imports_at, IsImports}
use Rattle.jc_cap.specs.Pool.{pool_at, IsPool}
use Rattle.jc_cap.specs.Exports.{exports_at, IsExports}
use Rattle.jc_cap.proofs.ToldEnvelope.{info_takes, info_again}
use Rattle.jc_cap.proofs.ToldHeader.{header_tells}
use Rattle.jc_cap.proofs.ToldDirectory.{directory_tells}
use Rattle.jc_cap.proofs.ToldLists.{imports_tells, applets_tells, exports_tells}
use Rattle.jc_cap.proofs.ToldPool.{pool_tells}
use Rattle.jc_cap.specs.ClassReading.{classes_of}
use Rattle.jc_cap.specs.ClassValues.{RecordAt}
use Rattle.jc_cap.specs.Classes.{AreClasses}
use Rattle.jc_cap.specs.MethodReading.{methods_of}
use Rattle.jc_cap.specs.StaticReading.{statics_at}
use Rattle.jc_cap.specs.Statics.{AreStatics}
use Rattle.jc_cap.proofs.RecordWalk.{classes_found, classes_only}
use Rattle.jc_cap.proofs.MethodTelling.{methods_take, methods_again}
use Rattle.jc_cap.proofs.StaticTelling.{statics_tells}
use Rattle.jc_cap.specs.declared.texts.LoadedComponents.{LoadedComponents}
use Rattle.jc_cap.specs.Texts.{Taken, taken, taken_with}
use Rattle.jc_cap.specs.Contents.{Content}
use Rattle.jc_cap.specs.Contents as contents
use Rattle.jc_cap.specs.Component.{content_result, content_at, component_at, IsContent, IsComponent}

-- ---- classes

given : {A : Type 0} (r : Result A CapFault) → ParsesAs (λ x. x) r r
given (Ok x) = refl
given (Err f) = refl

told : {A : Type 0} (r : Result A CapFault) (x : A) → ParsesAs (λ x. x) r (Ok x) → r ≡ Ok x
told (Ok y) x e = sym e
told (Err f) x e = absurd cc

classes_take : (format : Format) (info : List ℕ) (xs : List RecordAt) → classes_of format info ≡ Ok xs → AreClasses format xs info
classes_take format info xs e = classes_found (λ x. x) format info (Ok xs) e

classes_again : (format : Format) (info : List ℕ) (xs : List RecordAt) → AreClasses format xs info → classes_of format info ≡ Ok xs
classes_again format info xs are = told (classes_of format info) xs (classes_only (λ x. x) format info (classes_of format info)
    (given (classes_of format info)) xs are)

-- ---- contents

-- what was wrapped
mapped_ok : {A : Type 0} (wrap : A → Content) (read : Result A CapFault) (y : Content) → content_result wrap read ≡ Ok y
    → (x : A) × (read ≡ Ok x) × (wrap x ≡ y)
mapped_ok wrap read y e =
    let r = bind_ok read (λ x. Ok (wrap x)) y e in
    (r.0, r.1, ok_is (wrap r.0) y r.2)

-- a whole info, wrapped
whole_is : {A : Type 0} (wrap : A → Content) (read : List ℕ → Field A) (Is : A → List ℕ → Type 0) → ReadsEncodings read Is → (info : List ℕ) (y : Content)
    → content_result wrap (value_of_whole (read info)) ≡ Ok y → (x : A) × Is x info × (wrap x ≡ y)
whole_is wrap read Is tells info y e =
    let m = mapped_ok wrap (value_of_whole (read info)) y e in
    (m.0, whole_takes read Is tells info m.0 m.1, m.2)

whole_said : {A : Type 0} (wrap : A → Content) (read : List ℕ → Field A) (Is : A → List ℕ → Type 0) → ReadsEncodings read Is → (info : List ℕ) (x : A)
    → Is x info → content_result wrap (value_of_whole (read info)) ≡ Ok (wrap x)
whole_said wrap read Is tells info x is = ap (λ (r : Result _ CapFault). content_result wrap r) (whole_again read Is tells info x is)

content_takes : (format : Format) (tag : ℕ) (info : List ℕ) (x : Content) → content_at format tag info ≡ Ok x → IsContent format tag x info
unfolding content_at
content_takes format tag info x e =
    let Goal : Content → Type 0 = λ y. IsContent format tag y info in
    elim (chosen (eqb tag 1) _ _ _ e) [
      | inl is1 ↦ (let w = whole_is contents.header header_at IsHeader header_tells info x is1.1 in subst Goal w.2
          (eqb-true _ _ is1.0, w.1))
      | inr not1 ↦ elim (chosen (eqb tag 2) _ _ _ not1.1) [
        | inl is2 ↦ (let w = whole_is contents.directory (directory_at format) (IsDirectory format) (directory_tells format) info x is2.1 in subst Goal w.2
            (eqb-true _ _ is2.0, w.1))
        | inr not2 ↦ elim (chosen (eqb tag 3) _ _ _ not2.1) [
          | inl is3 ↦ (let w = whole_is contents.applets applets_at IsApplets applets_tells info x is3.1 in subst Goal w.2 (eqb-true _ _ is3.0, w.1))
          | inr not3 ↦ elim (chosen (eqb tag 4) _ _ _ not3.1) [
            | inl is4 ↦ (let w = whole_is contents.imports imports_at IsImports imports_tells info x is4.1 in subst Goal w.2 (eqb-true _ _ is4.0, w.1))
            | inr not4 ↦ elim (chosen (eqb tag 5) _ _ _ not4.1) [
              | inl is5 ↦ (let w = whole_is contents.pool pool_at IsPool pool_tells info x is5.1 in subst Goal w.2 (eqb-true _ _ is5.0, w.1))
              | inr not5 ↦ elim (chosen (eqb tag 6) _ _ _ not5.1) [
                | inl is6 ↦ (let w = mapped_ok contents.classes (classes_of format info) x is6.1 in subst Goal w.2
                    (eqb-true _ _ is6.0, classes_take format info w.0 w.1))
                | inr not6 ↦ elim (chosen (eqb tag 7) _ _ _ not6.1) [
                  | inl is7 ↦ (let w = mapped_ok contents.methods (methods_of info) x is7.1 in subst Goal w.2 (eqb-true _ _ is7.0, methods_take info w.0 w.1))
                  | inr not7 ↦ elim (chosen (eqb tag 8) _ _ _ not7.1) [
                    | inl is8 ↦ (let w = whole_is contents.statics statics_at AreStatics statics_tells info x is8.1 in subst Goal w.2 (eqb-true _ _ is8.0, w.1))
                    | inr not8 ↦ elim (chosen (eqb tag 10) _ _ _ not8.1) [
                      | inl is10 ↦ (let w = whole_is contents.exports exports_at IsExports exports_tells info x is10.1 in subst Goal w.2
                          (eqb-true _ _ is10.0, w.1))
                      | inr not10 ↦ subst Goal (ok_is contents.unused x not10.1) (
                        eqb-false _ _ not1.0,
                        eqb-false _ _ not2.0,
                        eqb-false _ _ not3.0,
                        eqb-false _ _ not4.0,
                        eqb-false _ _ not5.0,
                        eqb-false _ _ not6.0,
                        eqb-false _ _ not7.0,
                        eqb-false _ _ not8.0,
                        eqb-false _ _ not10.0,
                      )
                    ]
                  ]
                ]
              ]
            ]
          ]
        ]
      ]
    ]

content_again : (format : Format) (tag : ℕ) (x : Content) (info : List ℕ) → IsContent format tag x info → content_at format tag info ≡ Ok x
unfolding content_at
content_again format tag (contents.header x) info is = rw is.0 (whole_said contents.header header_at IsHeader header_tells info x is.1)
content_again format tag (contents.directory x) info is = rw is.0 (whole_said contents.directory (directory_at format) (IsDirectory format)
    (directory_tells format) info x is.1)
content_again format tag (contents.applets x) info is = rw is.0 (whole_said contents.applets applets_at IsApplets applets_tells info x is.1)
content_again format tag (contents.imports x) info is = rw is.0 (whole_said contents.imports imports_at IsImports imports_tells info x is.1)
content_again format tag (contents.pool x) info is = rw is.0 (whole_said contents.pool pool_at IsPool pool_tells info x is.1)
content_again format tag (contents.classes x) info is = rw is.0 (ap (λ (r : Result _ CapFault). content_result contents.classes r)
    (classes_again format info x is.1))
content_again format tag (contents.methods x) info is = rw is.0 (ap (λ (r : Result _ CapFault). content_result contents.methods r) (methods_again info x is.1))
content_again format tag (contents.statics x) info is = rw is.0 (whole_said contents.statics statics_at AreStatics statics_tells info x is.1)
content_again format tag (contents.exports x) info is = rw is.0 (whole_said contents.exports exports_at IsExports exports_tells info x is.1)
content_again format tag contents.unused info is = rw (
  ne_eqb tag 1 is.0,
  ne_eqb tag 2 is.1,
  ne_eqb tag 3 is.2,
  ne_eqb tag 4 is.3,
  ne_eqb tag 5 is.4,
  ne_eqb tag 6 is.5,
  ne_eqb tag 7 is.6,
  ne_eqb tag 8 is.7,
  ne_eqb tag 10 is.8,
) refl

-- ---- whole components

pub component_takes : (format : Format) (tag : ℕ) (bytes : List ℕ) (x : Content) → component_at format tag bytes ≡ Ok x → IsComponent format tag x bytes
unfolding component_at
component_takes format tag bytes x e =
    let info = bind_ok (info_at tag bytes) _ x e in
    (info.0, info_takes tag bytes info.0 info.1, content_takes format tag info.0 x info.2)

pub component_again : (format : Format) (tag : ℕ) (x : Content) (bytes : List ℕ) → IsComponent format tag x bytes → component_at format tag bytes ≡ Ok x
unfolding component_at
component_again format tag x bytes is = rw (info_again tag is.0 bytes is.1) (content_again format tag x is.0 is.2)

-- what was taken stands in the bytes
pub is_found : (format : Format) (tag : ℕ) (bytes : List ℕ) (old new : LoadedComponents) (r : Result (Option Format) CapFault)
    → taken r new ≡ taken_with old tag bytes (component_at format tag bytes) → IfOk r (λ _. (x : Content) × IsComponent format tag x bytes)
is_found format tag bytes old new r made = by_result (component_at format tag bytes) refl r made
  where
    by_result : (read : Result Content CapFault) → component_at format tag bytes ≡ read → (r : Result (Option Format) CapFault)
        → taken r new ≡ taken_with old tag bytes read → IfOk r (λ _. (x : Content) × IsComponent format tag x bytes)
    by_result (Ok x) is (Ok heard) made = (x, component_takes format tag bytes x is)
    by_result (Err fault) is (Ok heard) made = let wrong = ap (λ (p : Taken). p.0) made in absurd cc
    by_result read is (Err fault) made = tt

-- and what the bytes are is taken
pub is_only : (format : Format) (tag : ℕ) (bytes : List ℕ) (old new : LoadedComponents) (r : Result (Option Format) CapFault)
    → taken r new ≡ taken_with old tag bytes (component_at format tag bytes) → (x : Content) → IsComponent format tag x bytes
    → taken r new ≡ taken_with old tag bytes (Ok x)
is_only format tag bytes old new r made x is = made ∙ ap (taken_with old tag bytes) (component_again format tag x bytes is)
