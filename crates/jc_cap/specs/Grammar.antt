-- Which bytes stand for which values, and that reading says the same.
use Rattle.std.specs.Prelude.{◌≡◌, ℕ, ◌+◌, ◌*◌, ◌<◌, ◌≤◌, List, [], ◌∷◌, ◌++◌, length, ◌↔◌, Ok}
use Rattle.jc_cap.specs.declared.class_refs.ClassRef.{ClassRef}
use Rattle.jc_cap.specs.declared.class_refs.ClassRef.TheVariants.{Internal, External}
use Rattle.jc_cap.specs.Packages.{NamedPackage}
use Rattle.jc_cap.specs.Reading.{Field, many_at, value_of_whole}

-- the texts of the values, one after the other
abbrev pub AreEncodedInTurn : {A : Type 0} → (A → List ℕ → Type 0) → List A → List ℕ → Type 0
AreEncodedInTurn Is [] text = text ≡ []
AreEncodedInTurn Is (x ∷ xs) text = (front : List ℕ) × (back : List ℕ) × Is x front × (text ≡ front ++ back) × AreEncodedInTurn Is xs back

-- two bytes, the high one first
abbrev pub IsU2 : ℕ → List ℕ → Type 0
IsU2 n text = (high : ℕ) × (low : ℕ) × (text ≡ high ∷ low ∷ []) × (n ≡ high * 256 + low)

-- an AID of 5 to 16 bytes after its length
abbrev pub IsAid : List ℕ → List ℕ → Type 0
IsAid aid text = (text ≡ length aid ∷ aid) × (5 ≤ length aid) × (length aid ≤ 16)

-- a minor version, a major version, an AID
abbrev pub IsPackageInfo : NamedPackage → List ℕ → Type 0
IsPackageInfo p text = (aid : List ℕ) × IsAid p.aid aid × (text ≡ p.minor_version ∷ p.major_version ∷ aid)

-- two bytes, of which the high bit says that the class is external
abbrev pub IsClassRef : ClassRef → List ℕ → Type 0
IsClassRef (Internal offset) text = (high : ℕ) × (low : ℕ) × (high < 128) × (offset ≡ high * 256 + low) × (text ≡ high ∷ low ∷ [])
IsClassRef (External package_token class_token) text = text ≡ (128 + package_token) ∷ class_token ∷ []

-- ---- reading and grammar say the same

-- The bytes begin with a text of x, after which the rest stands.
pub record IsPrefixEncoding {A : Type 0} (Is : A → List ℕ → Type 0) (bytes : List ℕ) (x : A) (rest : List ℕ) : Type 0 where
  pub text : List ℕ
  pub is : Is x text
  pub parts : bytes ≡ text ++ rest

-- What is read stands at the front of the bytes, and what stands there is read.
pub record ReadsEncodings {A : Type 0} (read : List ℕ → Field A) (Is : A → List ℕ → Type 0) : Type 0 where
  pub takes : (bytes : List ℕ) (x : A) (rest : List ℕ) → read bytes ≡ Ok (x, rest) → IsPrefixEncoding Is bytes x rest
  pub again : (x : A) (text rest : List ℕ) → Is x text → read (text ++ rest) ≡ Ok (x, rest)

-- Lists with a count are read so where their elements are.
abbrev pub ReadsListEncodings : {A : Type 0} → (List ℕ → Field A) → (A → List ℕ → Type 0) → Type 0
ReadsListEncodings read Is = ((n : ℕ) (bytes : List ℕ) (xs : List _) (rest : List ℕ) → many_at read n bytes ≡ Ok (xs, rest)
    → IsPrefixEncoding (AreEncodedInTurn Is) bytes xs rest × (length xs ≡ n))
    × ((xs : List _) (text rest : List ℕ) → AreEncodedInTurn Is xs text → many_at read (length xs) (text ++ rest) ≡ Ok (xs, rest))

-- A whole info is read as x exactly where it is a text of x.
abbrev pub ReadsWholeEncodings : {A : Type 0} → (List ℕ → Field A) → (A → List ℕ → Type 0) → Type 0
ReadsWholeEncodings read Is = (info : List ℕ) (x : _) → value_of_whole (read info) ≡ Ok x ↔ Is x info
