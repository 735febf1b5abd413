-- What is read of a header stands in its bytes, and the other way round.
use Rattle.std.proofs.Common.{◌≡◌, ℕ, zero, suc, ◌/◌, ◌%◌, Bool, true, false, ltb, eqb, List, [], ◌∷◌, ◌++◌, Ok, refl, sym, ap, subst, ◌∙◌}
use Rattle.std.proofs.Common.{append_assoc, length, arith, inl, inr}
use Rattle.std.proofs.lemmas.Bool.{ltb-false, eqb-true}
use Rattle.jc_cap.specs.declared.fault.CapFault.TheVariants.{BadMagic, BadVersion, UsesInt, BadOffset}
use Rattle.jc_cap.specs.declared.formats.Format.{Format}
use Rattle.jc_cap.specs.declared.formats.Format.TheVariants.{V2_1, V2_2}
use Rattle.jc_cap.specs.Reading.{u1_at}
use Rattle.jc_cap.specs.Packages.{package_at}
use Rattle.jc_cap.specs.Grammar.{IsPrefixEncoding, ReadsEncodings}
use Rattle.jc_cap.proofs.Many.{bind_ok, ok_is}
use Rattle.jc_cap.proofs.Telling.{guard_ok, wanted_ok, chosen, u1_takes, run_takes, run_again, package_tells}
use Rattle.jc_cap.specs.Header.{HeaderValue, magic_at, minor_of, format_of, version_at, flags_at, name_at, header_at, flags_byte, IsName, IsHeader}
use Rattle.jc_cap.proofs.CountedLists.{joined}

four : (a b c d : ℕ) (xs ys : List ℕ) → a ≡ 222 → b ≡ 202 → c ≡ 255 → d ≡ 237 → xs ≡ ys → a ∷ b ∷ c ∷ d ∷ xs ≡ 222 ∷ 202 ∷ 255 ∷ 237 ∷ ys
four a b c d xs ys p q r s e = cc

magic_takes : (bytes rest : List ℕ) → magic_at bytes ≡ Ok rest → bytes ≡ 222 ∷ 202 ∷ 255 ∷ 237 ∷ rest
magic_takes [] rest e = absurd cc
magic_takes (a ∷ []) rest e = absurd cc
magic_takes (a ∷ b ∷ []) rest e = absurd cc
magic_takes (a ∷ b ∷ c ∷ []) rest e = absurd cc
magic_takes (a ∷ b ∷ c ∷ d ∷ bytes) rest e =
    let one = wanted_ok (eqb a 222) BadMagic _ rest e in
    let two = wanted_ok (eqb b 202) BadMagic _ rest one.1 in
    let three = wanted_ok (eqb c 255) BadMagic _ rest two.1 in
    let all = wanted_ok (eqb d 237) BadMagic _ rest three.1 in
    four a b c d bytes rest (eqb-true _ _ one.0) (eqb-true _ _ two.0) (eqb-true _ _ three.0) (eqb-true _ _ all.0) (ok_is bytes rest all.1)

two : (a b n m : ℕ) (xs ys : List ℕ) → a ≡ n → b ≡ m → xs ≡ ys → a ∷ b ∷ xs ≡ n ∷ m ∷ ys
two a b n m xs ys p q e = cc

minor_is : (n : ℕ) (format : Format) → format_of n ≡ Ok format → n ≡ minor_of format
minor_is n format e = elim (chosen (eqb n 1) _ _ _ e) [
  | inl one ↦ subst (λ (f : Format). n ≡ minor_of f) (ok_is V2_1 format one.1) (eqb-true _ _ one.0)
  | inr other ↦
      let second = wanted_ok (eqb n 2) BadVersion _ format other.1 in
      subst (λ (f : Format). n ≡ minor_of f) (ok_is V2_2 format second.1) (eqb-true _ _ second.0)
]

version_takes : (bytes : List ℕ) (format : Format) (rest : List ℕ) → version_at bytes ≡ Ok (format, rest) → bytes ≡ minor_of format ∷ 2 ∷ rest
unfolding version_at
version_takes bytes format rest e =
    let minor = bind_ok (u1_at bytes) _ (format, rest) e in
    let named = bind_ok (format_of minor.0.0) _ (format, rest) minor.2 in
    let major = bind_ok (u1_at minor.0.1) _ (format, rest) named.2 in
    let second = wanted_ok (eqb major.0.0 2) BadVersion _ _ major.2 in
    let parts : bytes ≡ minor_of named.0 ∷ 2 ∷ major.0.1 =
    u1_takes bytes minor.0.0 minor.0.1 minor.1 ∙ ap (λ (t : List ℕ). minor.0.0 ∷ t) (u1_takes minor.0.1 major.0.0 major.0.1 major.1)
    ∙ two minor.0.0 major.0.0 (minor_of named.0) 2 major.0.1 major.0.1 (minor_is minor.0.0 named.0 named.1) (eqb-true _ _ second.0) refl in
    subst (λ (y : Format × List ℕ). bytes ≡ minor_of y.0 ∷ 2 ∷ y.1) (ok_is (named.0, major.0.1) (format, rest) second.1) parts

flags_are : (f : ℕ) → eqb (f % 2) 1 ≡ false → ltb 7 f ≡ false → f ≡ flags_byte (eqb (f / 2 % 2) 1) (ltb 3 f)
flags_are zero odd high = refl
flags_are (suc zero) odd high = absurd cc
flags_are (suc (suc zero)) odd high = refl
flags_are (suc (suc (suc zero))) odd high = absurd cc
flags_are (suc (suc (suc (suc zero)))) odd high = refl
flags_are (suc (suc (suc (suc (suc zero))))) odd high = absurd cc
flags_are (suc (suc (suc (suc (suc (suc zero)))))) odd high = refl
flags_are (suc (suc (suc (suc (suc (suc (suc zero))))))) odd high = absurd cc
flags_are (suc (suc (suc (suc (suc (suc (suc (suc f)))))))) odd high = absurd (let le = ltb-false _ _ high in omega (arith, le))

flags_takes : (bytes : List ℕ) (x : Bool × Bool) (rest : List ℕ) → flags_at bytes ≡ Ok (x, rest) → bytes ≡ flags_byte x.0 x.1 ∷ rest
unfolding flags_at
flags_takes bytes x rest e =
    let flags = bind_ok (u1_at bytes) _ (x, rest) e in
    let odd = guard_ok (eqb (flags.0.0 % 2) 1) UsesInt _ _ flags.2 in
    let high = guard_ok (ltb 7 flags.0.0) BadOffset _ _ odd.1 in
    subst (λ (y : (Bool × Bool) × List ℕ). bytes ≡ flags_byte y.0.0 y.0.1 ∷ y.1) (ok_is ((eqb (flags.0.0 / 2 % 2) 1, ltb 3 flags.0.0), flags.0.1)
    (x, rest) high.1)
    (u1_takes bytes flags.0.0 flags.0.1 flags.1 ∙ ap (λ (h : ℕ). h ∷ flags.0.1) (flags_are flags.0.0 odd.0 high.0))

flags_again : (e a : Bool) (rest : List ℕ) → flags_at (flags_byte e a ∷ rest) ≡ Ok ((e, a), rest)
unfolding flags_at
flags_again true true rest = refl
flags_again true false rest = refl
flags_again false true rest = refl
flags_again false false rest = refl

-- a name, and what stands after it
pub record NameTaken (format : Format) (bytes name rest : List ℕ) : Type 0 where
  pub text : List ℕ
  pub is : IsName format name text
  pub parts : bytes ≡ text ++ rest

pub name_takes : (format : Format) (bytes name rest : List ℕ) → name_at format bytes ≡ Ok (name, rest) → NameTaken format bytes name rest
unfolding name_at
name_takes V2_1 bytes name rest e =
    let same = ok_is ([], bytes) (name, rest) e in
    subst (λ (y : List ℕ × List ℕ). NameTaken V2_1 bytes y.0 y.1) same (record { text = []; is = (refl, refl); parts = refl })
name_takes V2_2 bytes name rest e =
    let count = bind_ok (u1_at bytes) _ (name, rest) e in
    let run = run_takes count.0.0 count.0.1 name rest count.2 in
    record {
      text = length name ∷ name;
      is = refl;
      parts = u1_takes bytes count.0.0 count.0.1 count.1 ∙ ap (λ (t : List ℕ). count.0.0 ∷ t) run.0 ∙ ap (λ (n : ℕ). n ∷ (name ++ rest)) (sym run.1);
    }

pub name_again : (format : Format) (name text rest : List ℕ) → IsName format name text → name_at format (text ++ rest) ≡ Ok (name, rest)
unfolding name_at
name_again V2_1 name text rest is = rw (is.0, is.1) refl
name_again V2_2 name text rest is = rw is (run_again name rest)

header_takes : (bytes : List ℕ) (h : HeaderValue) (rest : List ℕ) → header_at bytes ≡ Ok (h, rest) → IsPrefixEncoding IsHeader bytes h rest
unfolding header_at
header_takes bytes h rest e =
    let magic = bind_ok (magic_at bytes) _ (h, rest) e in
    let version = bind_ok (version_at magic.0) _ (h, rest) magic.2 in
    let flags = bind_ok (flags_at version.0.1) _ (h, rest) version.2 in
    let info = bind_ok (package_at flags.0.1) _ (h, rest) flags.2 in
    let name = bind_ok (name_at version.0.0 info.0.1) _ (h, rest) info.2 in
    let t = package_tells.takes flags.0.1 info.0.0 info.0.1 info.1 in
    let n = name_takes version.0.0 info.0.1 name.0.0 name.0.1 name.1 in
    let parts : bytes ≡ (222 ∷ 202 ∷ 255 ∷ 237 ∷ minor_of version.0.0 ∷ 2 ∷ flags_byte flags.0.0.0 flags.0.0.1 ∷ (t.text ++ n.text)) ++ name.0.1 =
    magic_takes bytes magic.0 magic.1 ∙ ap (λ (s : List ℕ). 222 ∷ 202 ∷ 255 ∷ 237 ∷ s)
    (version_takes magic.0 version.0.0 version.0.1 version.1 ∙ ap (λ (s : List ℕ). minor_of version.0.0 ∷ 2 ∷ s)
    (flags_takes version.0.1 flags.0.0 flags.0.1 flags.1 ∙ ap (λ (s : List ℕ). flags_byte flags.0.0.0 flags.0.0.1 ∷ s)
    (joined flags.0.1 t.text n.text info.0.1 name.0.1 t.parts n.parts))) in
    let made : HeaderValue × List ℕ = (
      record { format = version.0.0; exports = flags.0.0.0; has_applets = flags.0.0.1; this_package = info.0.0; name = name.0.0 },
      name.0.1,
    ) in
    subst (λ (y : HeaderValue × List ℕ). IsPrefixEncoding IsHeader bytes y.0 y.1) (ok_is made (h, rest) name.2)
    (record {
      text = 222 ∷ 202 ∷ 255 ∷ 237 ∷ minor_of version.0.0 ∷ 2 ∷ flags_byte flags.0.0.0 flags.0.0.1 ∷ (t.text ++ n.text);
      is = (t.text, n.text, t.is, n.is, refl);
      parts = parts;
    })

version_again : (format : Format) (rest : List ℕ) → version_at (minor_of format ∷ 2 ∷ rest) ≡ Ok (format, rest)
unfolding version_at
version_again V2_1 rest = refl
version_again V2_2 rest = refl

header_again : (h : HeaderValue) (text rest : List ℕ) → IsHeader h text → header_at (text ++ rest) ≡ Ok (h, rest)
unfolding header_at
header_again h text rest is =
    let tail = is.0 ++ (is.1 ++ rest) in
    rw (
      is.4,
      append_assoc is.0 is.1 rest,
      version_again h.format (flags_byte h.exports h.has_applets ∷ tail),
      flags_again h.exports h.has_applets tail,
      package_tells.again h.this_package is.0 (is.1 ++ rest) is.2,
      name_again h.format h.name is.1 rest is.3,
    ) refl

pub header_tells : ReadsEncodings header_at IsHeader
header_tells = record { takes = header_takes; again = header_again }
