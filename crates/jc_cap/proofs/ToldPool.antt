-- The same of constant pools; each of their entries has four bytes.
use Rattle.std.proofs.Common.{◌≡◌, ℕ, suc, ◌+◌, ◌-◌, true, false, ltb, eqb, List, [], ◌∷◌, ◌++◌, length, drop, Ok, refl, sym, ap, subst, ◌∙◌, append_assoc}
use Rattle.std.proofs.Common.{arith, inl, inr}
use Rattle.std.proofs.lemmas.Bool.{ltb-false, ltb-true, le-ltb, lt-ltb, eqb-true, ne_eqb}
use Rattle.std.proofs.lemmas.List.{drop_at, length-append}
use Rattle.jc_cap.specs.declared.fault.CapFault.TheVariants.{BadOffset}
use Rattle.jc_cap.specs.declared.class_refs.ClassRef.{ClassRef}
use Rattle.jc_cap.specs.declared.class_refs.ClassRef.TheVariants as classes
use Rattle.jc_cap.specs.Reading.{u1_at, u2_at}
use Rattle.jc_cap.specs.ClassRefs.{class_ref_at}
use Rattle.jc_cap.specs.Grammar.{IsU2, IsClassRef, IsPrefixEncoding, ReadsEncodings}
use Rattle.jc_cap.proofs.Many.{bind_ok, ok_is}
use Rattle.jc_cap.proofs.Telling.{guard_ok, wanted_ok, chosen, u1_takes, u2_tells, class_ref_tells, many_takes, many_again}
use Rattle.jc_cap.proofs.Walk.{HasSize}
use Rattle.jc_cap.specs.declared.pool.VirtualToken.{VirtualToken}
use Rattle.jc_cap.specs.declared.pool.VirtualToken.TheVariants.{Public, PackageVisible}
use Rattle.jc_cap.specs.declared.pool.StaticRef.{StaticRef}
use Rattle.jc_cap.specs.declared.pool.StaticRef.TheVariants.{Internal, External}
use Rattle.jc_cap.specs.declared.pool.Entry.{Entry}
use Rattle.jc_cap.specs.declared.pool.Entry.TheVariants as entries
use Rattle.jc_cap.specs.Pool.{virtual_token_at, static_ref_at, entry_at, pool_at, IsVirtualToken, IsStaticRef, IsEntry, IsPool}
use Rattle.jc_cap.proofs.CountedLists.{joined}

-- ---- tokens

virtual_token_takes : (bytes : List ℕ) (x : VirtualToken) (rest : List ℕ) → virtual_token_at bytes ≡ Ok (x, rest) → IsPrefixEncoding IsVirtualToken bytes x rest
unfolding virtual_token_at
virtual_token_takes bytes x rest e =
    let token = bind_ok (u1_at bytes) _ (x, rest) e in
    let parts = u1_takes bytes token.0.0 token.0.1 token.1 in
    let Goal : VirtualToken × List ℕ → Type 0 = λ y. IsPrefixEncoding IsVirtualToken bytes y.0 y.1 in
    elim (chosen (ltb token.0.0 128) _ _ _ token.2) [
      | inl public ↦ subst Goal (ok_is (Public token.0.0, token.0.1) (x, rest) public.1)
          (record { text = token.0.0 ∷ []; is = (ltb-true _ _ public.0, refl); parts = parts })
      | inr visible ↦
          let high-is : token.0.0 ≡ 128 + (token.0.0 - 128) = omega (arith, ltb-false _ _ visible.0) in
          subst Goal (ok_is (PackageVisible (token.0.0 - 128), token.0.1) (x, rest) visible.1)
          (record { text = token.0.0 ∷ []; is = ap (λ (h : ℕ). h ∷ []) high-is; parts = parts })
    ]

virtual_token_again : (x : VirtualToken) (text rest : List ℕ) → IsVirtualToken x text → virtual_token_at (text ++ rest) ≡ Ok (x, rest)
unfolding virtual_token_at
virtual_token_again (Public token) text rest is = rw (is.1, lt-ltb token 128 is.0) refl
virtual_token_again (PackageVisible token) text rest is =
    let high : ltb (128 + token) 128 ≡ false = le-ltb _ _ (omega arith) in
    let back : 128 + token - 128 ≡ token = omega arith in
    rw (is, high, back) refl

-- ---- static fields and methods

static_ref_takes : (bytes : List ℕ) (x : StaticRef) (rest : List ℕ) → static_ref_at bytes ≡ Ok (x, rest) → IsPrefixEncoding IsStaticRef bytes x rest
unfolding static_ref_at
static_ref_takes bytes x rest e =
    let high = bind_ok (u1_at bytes) _ (x, rest) e in
    let front = u1_takes bytes high.0.0 high.0.1 high.1 in
    let Goal : StaticRef × List ℕ → Type 0 = λ y. IsPrefixEncoding IsStaticRef bytes y.0 y.1 in
    elim (chosen (eqb high.0.0 0) _ _ _ high.2) [
      | inl own ↦
          let offset = bind_ok (u2_at high.0.1) _ (x, rest) own.1 in
          let t = u2_tells.takes high.0.1 offset.0.0 offset.0.1 offset.1 in
          subst Goal (ok_is (Internal offset.0.0, offset.0.1) (x, rest) offset.2) (record {
            text = 0 ∷ t.text;
            is = (t.text, t.is, refl);
            parts = front ∙ ap (λ (h : ℕ). h ∷ high.0.1) (eqb-true _ _ own.0)
                ∙ ap (λ (s : List ℕ). 0 ∷ s) t.parts;
          })
      | inr imported ↦
          let g = guard_ok (ltb high.0.0 128) BadOffset _ _ imported.1 in
          let class = bind_ok (u1_at high.0.1) _ (x, rest) g.1 in
          let token = bind_ok (u1_at class.0.1) _ (x, rest) class.2 in
          let high-is : high.0.0 ≡ 128 + (high.0.0 - 128) = omega (arith, ltb-false _ _ g.0) in
          subst Goal (ok_is (External (high.0.0 - 128) class.0.0 token.0.0, token.0.1) (x, rest) token.2)
          (record {
            text = high.0.0 ∷ class.0.0 ∷ token.0.0 ∷ [];
            is = ap (λ (h : ℕ). h ∷ class.0.0 ∷ token.0.0 ∷ []) high-is;
            parts = front ∙ ap (λ (s : List ℕ). high.0.0 ∷ s) (u1_takes high.0.1 class.0.0 class.0.1 class.1
                ∙ ap (λ (s : List ℕ). class.0.0 ∷ s) (u1_takes class.0.1 token.0.0 token.0.1 token.1));
          })
    ]

static_ref_again : (x : StaticRef) (text rest : List ℕ) → IsStaticRef x text → static_ref_at (text ++ rest) ≡ Ok (x, rest)
unfolding static_ref_at
static_ref_again (Internal offset) text rest is = rw (is.2, u2_tells.again offset is.0 rest is.1) refl
static_ref_again (External package_token class_token token) text rest is =
    let not_own : eqb (128 + package_token) 0 ≡ false = ne_eqb _ _ (omega arith) in
    let high : ltb (128 + package_token) 128 ≡ false = le-ltb _ _ (omega arith) in
    let back : 128 + package_token - 128 ≡ package_token = omega arith in
    rw (is, not_own, high, back) refl

-- ---- entries

-- a tag is what it was tested for
tagged : (bytes rest : List ℕ) (t n : ℕ) → bytes ≡ t ∷ rest → eqb t n ≡ true → bytes ≡ n ∷ rest
tagged bytes rest t n front same = front ∙ ap (λ (h : ℕ). h ∷ rest) (eqb-true _ _ same)

-- a class reference and a byte after a tag
class_and_byte : (tag : ℕ) (bytes rest0 rest1 rest : List ℕ) (c : ClassRef) (b : ℕ) → bytes ≡ tag ∷ rest0 → IsPrefixEncoding IsClassRef rest0 c rest1
    → u1_at rest1 ≡ Ok (b, rest) → (class : List ℕ) × IsClassRef c class × (bytes ≡ (tag ∷ (class ++ b ∷ [])) ++ rest)
class_and_byte tag bytes rest0 rest1 rest c b front t e = (
  t.text,
  t.is,
  front ∙ ap (λ (s : List ℕ). tag ∷ s)
      (joined rest0 t.text (b ∷ []) rest1 rest t.parts (u1_takes rest1 b rest e)),
)

-- a class reference and a token after a tag
class_and_token : (tag : ℕ) (bytes rest0 rest1 rest : List ℕ) (c : ClassRef) (v : VirtualToken) → bytes ≡ tag ∷ rest0
    → IsPrefixEncoding IsClassRef rest0 c rest1 → IsPrefixEncoding IsVirtualToken rest1 v rest
    → (class : List ℕ) × (token : List ℕ) × IsClassRef c class × IsVirtualToken v token × (bytes ≡ (tag ∷ (class ++ token)) ++ rest)
class_and_token tag bytes rest0 rest1 rest c v front t u = (
  t.text,
  u.text,
  t.is,
  u.is,
  front
      ∙ ap (λ (s : List ℕ). tag ∷ s) (joined rest0 t.text u.text rest1 rest t.parts u.parts),
)

entry_takes : (bytes : List ℕ) (x : Entry) (rest : List ℕ) → entry_at bytes ≡ Ok (x, rest) → IsPrefixEncoding IsEntry bytes x rest
unfolding entry_at
entry_takes bytes x rest e =
    let tag = bind_ok (u1_at bytes) _ (x, rest) e in
    let front = u1_takes bytes tag.0.0 tag.0.1 tag.1 in
    let Goal : Entry × List ℕ → Type 0 = λ y. IsPrefixEncoding IsEntry bytes y.0 y.1 in
    elim (chosen (eqb tag.0.0 1) _ _ _ tag.2) [
      | inl is1 ↦
          let class = bind_ok (class_ref_at tag.0.1) _ (x, rest) is1.1 in
          let byte = bind_ok (u1_at class.0.1) _ (x, rest) class.2 in
          let both = class_and_byte 1 bytes tag.0.1 class.0.1 byte.0.1 class.0.0 byte.0.0 (tagged bytes tag.0.1 tag.0.0 1 front is1.0)
          (class_ref_tells.takes tag.0.1 class.0.0 class.0.1 class.1) byte.1 in
          subst Goal (ok_is (entries.Class class.0.0, byte.0.1) (x, rest) byte.2) (record
          { text = 1 ∷ (both.0 ++ byte.0.0 ∷ []); is = (both.0, byte.0.0, both.1, refl); parts = both.2 })
      | inr not1 ↦ elim (chosen (eqb tag.0.0 2) _ _ _ not1.1) [
        | inl is2 ↦
            let class = bind_ok (class_ref_at tag.0.1) _ (x, rest) is2.1 in
            let byte = bind_ok (u1_at class.0.1) _ (x, rest) class.2 in
            let both = class_and_byte 2 bytes tag.0.1 class.0.1 byte.0.1 class.0.0 byte.0.0 (tagged bytes tag.0.1 tag.0.0 2 front is2.0)
            (class_ref_tells.takes tag.0.1 class.0.0 class.0.1 class.1) byte.1 in
            subst Goal (ok_is (entries.InstanceField class.0.0 byte.0.0, byte.0.1) (x, rest) byte.2)
            (record { text = 2 ∷ (both.0 ++ byte.0.0 ∷ []); is = (both.0, both.1, refl); parts = both.2 })
        | inr not2 ↦ elim (chosen (eqb tag.0.0 3) _ _ _ not2.1) [
          | inl is3 ↦
              let class = bind_ok (class_ref_at tag.0.1) _ (x, rest) is3.1 in
              let token = bind_ok (virtual_token_at class.0.1) _ (x, rest) class.2 in
              let both = class_and_token 3 bytes tag.0.1 class.0.1 token.0.1 class.0.0 token.0.0 (tagged bytes tag.0.1 tag.0.0 3 front is3.0)
              (class_ref_tells.takes tag.0.1 class.0.0 class.0.1 class.1) (virtual_token_takes class.0.1 token.0.0 token.0.1 token.1) in
              subst Goal (ok_is (entries.VirtualMethod class.0.0 token.0.0, token.0.1) (x, rest) token.2)
              (record { text = 3 ∷ (both.0 ++ both.1); is = (both.0, both.1, both.2, both.3, refl); parts = both.4 })
          | inr not3 ↦ elim (chosen (eqb tag.0.0 4) _ _ _ not3.1) [
            | inl is4 ↦
                let class = bind_ok (class_ref_at tag.0.1) _ (x, rest) is4.1 in
                let token = bind_ok (virtual_token_at class.0.1) _ (x, rest) class.2 in
                let both = class_and_token 4 bytes tag.0.1 class.0.1 token.0.1 class.0.0 token.0.0 (tagged bytes tag.0.1 tag.0.0 4 front is4.0)
                (class_ref_tells.takes tag.0.1 class.0.0 class.0.1 class.1) (virtual_token_takes class.0.1 token.0.0 token.0.1 token.1) in
                subst Goal (ok_is (entries.SuperMethod class.0.0 token.0.0, token.0.1) (x, rest) token.2)
                (record { text = 4 ∷ (both.0 ++ both.1); is = (both.0, both.1, both.2, both.3, refl); parts = both.4 })
            | inr not4 ↦ elim (chosen (eqb tag.0.0 5) _ _ _ not4.1) [
              | inl is5 ↦
                  let place = bind_ok (static_ref_at tag.0.1) _ (x, rest) is5.1 in
                  let t = static_ref_takes tag.0.1 place.0.0 place.0.1 place.1 in
                  subst Goal (ok_is (entries.StaticField place.0.0, place.0.1) (x, rest) place.2)
                  (record {
                    text = 5 ∷ t.text;
                    is = (t.text, t.is, refl);
                    parts = tagged bytes tag.0.1 tag.0.0 5 front is5.0 ∙ ap (λ (s : List ℕ). 5 ∷ s) t.parts;
                  })
              | inr not5 ↦
                  let is6 = wanted_ok (eqb tag.0.0 6) BadOffset _ _ not5.1 in
                  let place = bind_ok (static_ref_at tag.0.1) _ (x, rest) is6.1 in
                  let t = static_ref_takes tag.0.1 place.0.0 place.0.1 place.1 in
                  subst Goal (ok_is (entries.StaticMethod place.0.0, place.0.1) (x, rest) place.2)
                  (record {
                    text = 6 ∷ t.text;
                    is = (t.text, t.is, refl);
                    parts = tagged bytes tag.0.1 tag.0.0 6 front is6.0 ∙ ap (λ (s : List ℕ). 6 ∷ s) t.parts;
                  })
            ]
          ]
        ]
      ]
    ]

entry_again : (x : Entry) (text rest : List ℕ) → IsEntry x text → entry_at (text ++ rest) ≡ Ok (x, rest)
unfolding entry_at
entry_again (entries.Class c) text rest is = rw (is.3, append_assoc is.0 (is.1 ∷ []) rest, class_ref_tells.again c is.0 (is.1 ∷ rest) is.2) refl
entry_again (entries.InstanceField c token) text rest is = rw (is.2, append_assoc is.0 (token ∷ []) rest, class_ref_tells.again c is.0 (token ∷ rest) is.1) refl
entry_again (entries.VirtualMethod c token) text rest is = rw (
  is.4,
  append_assoc is.0 is.1 rest,
  class_ref_tells.again c is.0 (is.1 ++ rest) is.2,
  virtual_token_again token is.1 rest is.3,
) refl
entry_again (entries.SuperMethod c token) text rest is = rw (
  is.4,
  append_assoc is.0 is.1 rest,
  class_ref_tells.again c is.0 (is.1 ++ rest) is.2,
  virtual_token_again token is.1 rest is.3,
) refl
entry_again (entries.StaticField s) text rest is = rw (is.2, static_ref_again s is.0 rest is.1) refl
entry_again (entries.StaticMethod s) text rest is = rw (is.2, static_ref_again s is.0 rest is.1) refl

pub entry_tells : ReadsEncodings entry_at IsEntry
entry_tells = record { takes = entry_takes; again = entry_again }

pool_takes : (bytes : List ℕ) (es : List Entry) (rest : List ℕ) → pool_at bytes ≡ Ok (es, rest) → IsPrefixEncoding IsPool bytes es rest
unfolding pool_at
pool_takes bytes es rest e =
    let count = bind_ok (u2_at bytes) _ (es, rest) e in
    let c = u2_tells.takes bytes count.0.0 count.0.1 count.1 in
    let t = many_takes entry_at IsEntry entry_tells count.0.0 count.0.1 es rest count.2 in
    record {
      text = c.text ++ t.0.text;
      is = (c.text, t.0.text, subst (λ (k : ℕ). IsU2 k c.text) (sym t.1) c.is, t.0.is, refl);
      parts = joined bytes c.text t.0.text count.0.1 rest c.parts t.0.parts;
    }

pool_again : (es : List Entry) (text rest : List ℕ) → IsPool es text → pool_at (text ++ rest) ≡ Ok (es, rest)
unfolding pool_at
pool_again es text rest is = rw (is.4, append_assoc is.0 is.1 rest, u2_tells.again (length es) is.0 (is.1 ++ rest) is.2)
    (many_again entry_at IsEntry entry_tells es is.1 rest is.3)

pub pool_tells : ReadsEncodings pool_at IsPool
pool_tells = record { takes = pool_takes; again = pool_again }

-- ---- the size of an entry

class_size : (x : ClassRef) (text : List ℕ) → IsClassRef x text → length text ≡ 2
class_size (classes.Internal offset) text is = rw is.4 refl
class_size (classes.External package_token class_token) text is = rw is refl

token_size : (x : VirtualToken) (text : List ℕ) → IsVirtualToken x text → length text ≡ 1
token_size (Public token) text is = rw is.1 refl
token_size (PackageVisible token) text is = rw is refl

static_size : (x : StaticRef) (text : List ℕ) → IsStaticRef x text → length text ≡ 3
static_size (Internal offset) text is = rw (is.2, is.1.2) refl
static_size (External package_token class_token token) text is = rw is refl

behind : (tag : ℕ) (class token text : List ℕ) → length class ≡ 2 → length token ≡ 1 → text ≡ tag ∷ (class ++ token) → length text ≡ 4
behind tag class token text two one e = rw e (omega (arith, two, one, length-append class token))

text_size : (x : Entry) (text : List ℕ) → IsEntry x text → length text ≡ 4
text_size (entries.Class c) text is = behind 1 is.0 (is.1 ∷ []) text (class_size c is.0 is.2) refl is.3
text_size (entries.InstanceField c token) text is = behind 2 is.0 (token ∷ []) text (class_size c is.0 is.1) refl is.2
text_size (entries.VirtualMethod c token) text is = behind 3 is.0 is.1 text (class_size c is.0 is.2) (token_size token is.1 is.3) is.4
text_size (entries.SuperMethod c token) text is = behind 4 is.0 is.1 text (class_size c is.0 is.2) (token_size token is.1 is.3) is.4
text_size (entries.StaticField s) text is = rw is.2 (ap suc (static_size s is.0 is.1))
text_size (entries.StaticMethod s) text is = rw is.2 (ap suc (static_size s is.0 is.1))

pub entry_size : HasSize entry_at 4
entry_size bytes x rest e =
    let t = entry_takes bytes x rest e in
    let size = text_size x t.text t.is in
    (omega (arith, size, ap length t.parts, length-append t.text rest), ap (drop 4) t.parts ∙ drop_at t.text rest 4 size)
