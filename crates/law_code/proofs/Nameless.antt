-- The word of a class that a table lacks: it names nothing.
use Rattle.std.proofs.Common.{◌≡◌, ◌==◌, ◌||◌, ◌≤◌, ◌⊎◌, inl, inr, ℕ, true, false, Option, Some, None, length, refl, sym, ap, ◌∙◌, arith, if◌then◌else◌}
use Rattle.std.specs.Prelude.{is_some, ◌%◌}
use Rattle.std.specs.Option.{option_and_then}
use Rattle.std.proofs.lemmas.Bool.{false≢true}
use Rattle.jc_platform.specs.declared.names.PlatformPackage.{PlatformPackage}
use Rattle.jc_platform.specs.declared.names.PlatformPackage.TheVariants.{JavaLang, JavacardFramework, JavacardxApdu, JavacardSecurity, JavacardxCrypto}
use Rattle.jc_platform.specs.declared.names.PlatformClass.{PlatformClass}
use Rattle.jc_platform.specs.NamePlaces.{class_word, home_of, word_of_token}
use Rattle.jc_platform.specs.Numbers.{same_package}
use Rattle.jc_platform.specs.Platform.{class_by_token, class_by_word, package_by_number}
use Rattle.jc_platform.specs.Tokens.{Tokens, number_in, token_of_class}
use Rattle.jc_linker.specs.Classes.{class_in, is_class}
use Rattle.jc_linker.specs.Resolve.{interface_by, names_interface}
use Rattle.jc_linker.specs.Values.{ClassValue, Packages}
use Rattle.law_code.proofs.Fields.{no_class}
use Rattle.law_code.proofs.Tokens.{HasToken}

abbrev pub nameless : ℕ
nameless = 65535

-- the platform has the class, or the class has this word
pub token_or_none : (t : Tokens) (c : PlatformClass) → HasToken t c ⊎ (class_word t c ≡ nameless)
token_or_none t c = by_token (token_of_class t c) refl
  where
    by_token : (o : Option ℕ) → token_of_class t c ≡ o → HasToken t c ⊎ (class_word t c ≡ nameless)
    by_token None is = inr (ap (word_of_token (number_in t (home_of c))) is)
    by_token (Some k) is = inl (k, is)

-- the number of a package where this one stands first
abbrev numbered : PlatformPackage → PlatformPackage → ℕ
numbered first p = if same_package p JavacardxApdu then 66 else (if same_package p JavacardSecurity then 67 else
    (if same_package p JavacardxCrypto then 68 else (if same_package p first then 64 else 65)))

no_package : (first : PlatformPackage) → (if 255 == numbered first JavaLang then Some JavaLang else
    (if 255 == numbered first JavacardFramework then Some JavacardFramework else
    (if 255 == numbered first JavacardxApdu then Some JavacardxApdu else
    (if 255 == numbered first JavacardSecurity then Some JavacardSecurity else
    (if 255 == numbered first JavacardxCrypto then Some JavacardxCrypto else None))))) ≡ None
no_package JavaLang = refl
no_package JavacardFramework = refl
no_package JavacardxApdu = refl
no_package JavacardSecurity = refl
no_package JavacardxCrypto = refl

pub names_none : (t : Tokens) → class_by_word t nameless ≡ None
unfolding class_by_word package_by_number
names_none t = ap (option_and_then (λ home. class_by_token t home (nameless % 256))) (no_package t.first)

module _ (p : Packages) (few : length p.loaded ≤ 32) where
  none_loaded : class_in p nameless ≡ None
  none_loaded = by_class (class_in p nameless) refl
    where
      by_class : (o : Option ClassValue) → class_in p nameless ≡ o → class_in p nameless ≡ None
      by_class None is = is
      by_class (Some c) is = absurd (no_class p nameless few (omega arith) c is)

  pub no_class_there : is_class p nameless ≡ true → ⊥
  unfolding is_class
  no_class_there there = false≢true (sym (ap (λ o. is_some o || is_some (class_by_word p.platform nameless)) none_loaded
      ∙ ap is_some (names_none p.platform)) ∙ there)

  pub no_interface_there : names_interface p nameless ≡ false
  unfolding names_interface
  no_interface_there = ap (λ o. interface_by o (class_by_word p.platform nameless)) none_loaded ∙ ap (interface_by None) (names_none p.platform)
