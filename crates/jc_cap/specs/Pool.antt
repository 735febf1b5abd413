-- The ConstantPool component.
use Rattle.std.specs.Prelude.{◌≡◌, ◌<◌, ℕ, ◌+◌, ◌-◌, List, [], ◌∷◌, ◌++◌, length, Ok, Err, nat_lt, ◌==◌, if◌then◌else◌}
use Rattle.jc_cap.specs.declared.fault.CapFault.TheVariants.{BadOffset}
use Rattle.jc_cap.specs.declared.pool.VirtualToken.{VirtualToken}
use Rattle.jc_cap.specs.declared.pool.VirtualToken.TheVariants.{Public, PackageVisible}
use Rattle.jc_cap.specs.declared.pool.StaticRef.{StaticRef}
use Rattle.jc_cap.specs.declared.pool.StaticRef.TheVariants.{Internal, External}
use Rattle.jc_cap.specs.declared.pool.Entry.{Entry}
use Rattle.jc_cap.specs.declared.pool.Entry.TheVariants as entries
use Rattle.jc_cap.specs.Reading.{◌>>=◌, Field, u1_at, u2_at, many_at}
use Rattle.jc_cap.specs.ClassRefs.{class_ref_at}
use Rattle.jc_cap.specs.Grammar.{AreEncodedInTurn, IsU2, IsClassRef}

-- a byte, of which the high bit says that the method is visible in its package alone
unfoldable pub virtual_token_at : List ℕ → Field VirtualToken
virtual_token_at bytes = do
  token ← u1_at bytes
  if nat_lt token.0 128 then Ok (Public token.0, token.1) else Ok (PackageVisible (token.0 - 128), token.1)

-- an internal offset after a byte 0, or three tokens of which the first has its high bit set
unfoldable pub static_ref_at : List ℕ → Field StaticRef
static_ref_at bytes = do
  high ← u1_at bytes
  if high.0 == 0 then (do
    offset ← u2_at high.1
    Ok (Internal offset.0, offset.1))
      else if nat_lt high.0 128 then Err BadOffset
      else (do
        class ← u1_at high.1
        token ← u1_at class.1
        Ok (External (high.0 - 128) class.0 token.0, token.1))

unfoldable pub entry_at : List ℕ → Field Entry
entry_at bytes = do
  tag ← u1_at bytes
  if tag.0 == 1 then (do
    class ← class_ref_at tag.1
    padding ← u1_at class.1
    Ok (entries.Class class.0, padding.1))
      else if tag.0 == 2 then (do
        class ← class_ref_at tag.1
        token ← u1_at class.1
        Ok (entries.InstanceField class.0 token.0, token.1))
      else if tag.0 == 3 then (do
        class ← class_ref_at tag.1
        token ← virtual_token_at class.1
        Ok (entries.VirtualMethod class.0 token.0, token.1))
      else if tag.0 == 4 then (do
        class ← class_ref_at tag.1
        token ← virtual_token_at class.1
        Ok (entries.SuperMethod class.0 token.0, token.1))
      else if tag.0 == 5 then (do
        place ← static_ref_at tag.1
        Ok (entries.StaticField place.0, place.1))
      else if tag.0 == 6 then (do
        place ← static_ref_at tag.1
        Ok (entries.StaticMethod place.0, place.1))
      else Err BadOffset

unfoldable pub pool_at : List ℕ → Field (List Entry)
pool_at bytes = do
  count ← u2_at bytes
  many_at entry_at count.0 count.1

-- ---- which bytes stand for which entries

abbrev pub IsVirtualToken : VirtualToken → List ℕ → Type 0
IsVirtualToken (Public token) text = (token < 128) × (text ≡ token ∷ [])
IsVirtualToken (PackageVisible token) text = text ≡ (128 + token) ∷ []

abbrev pub IsStaticRef : StaticRef → List ℕ → Type 0
IsStaticRef (Internal offset) text = (place : List ℕ) × IsU2 offset place × (text ≡ 0 ∷ place)
IsStaticRef (External package_token class_token token) text = text ≡ (128 + package_token) ∷ class_token ∷ token ∷ []

-- any byte may stand in the padding of a class entry
abbrev pub IsEntry : Entry → List ℕ → Type 0
IsEntry (entries.Class c) text = (class : List ℕ) × (padding : ℕ) × IsClassRef c class × (text ≡ 1 ∷ (class ++ padding ∷ []))
IsEntry (entries.InstanceField c token) text = (class : List ℕ) × IsClassRef c class × (text ≡ 2 ∷ (class ++ token ∷ []))
IsEntry (entries.VirtualMethod c t) text = (class : List ℕ) × (token : List ℕ) × IsClassRef c class × IsVirtualToken t token × (text ≡ 3 ∷ (class ++ token))
IsEntry (entries.SuperMethod c t) text = (class : List ℕ) × (token : List ℕ) × IsClassRef c class × IsVirtualToken t token × (text ≡ 4 ∷ (class ++ token))
IsEntry (entries.StaticField s) text = (place : List ℕ) × IsStaticRef s place × (text ≡ 5 ∷ place)
IsEntry (entries.StaticMethod s) text = (place : List ℕ) × IsStaticRef s place × (text ≡ 6 ∷ place)

-- two bytes of count, and then the entries
abbrev pub IsPool : List Entry → List ℕ → Type 0
IsPool es text = (count : List ℕ) × (entries : List ℕ) × IsU2 (length es) count × AreEncodedInTurn IsEntry es entries × (text ≡ count ++ entries)
