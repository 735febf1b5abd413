-- Each number below the count of the classes or the methods is that of one of them, and of one alone.
use Rattle.std.proofs.Common.{◌≡◌, ◌<◌, ℕ, map, refl, ◌∙◌, zero-add, lit<}
use Rattle.jc_platform.specs.declared.names.PlatformPackage.{PlatformPackage}
use Rattle.jc_platform.specs.declared.names.PlatformPackage.TheVariants.{JavaLang, JavacardFramework, JavacardxApdu, JavacardSecurity, JavacardxCrypto}
use Rattle.jc_platform.specs.declared.names.PlatformClass.{PlatformClass}
use Rattle.jc_platform.specs.declared.names.PlatformClass.TheVariants.{Object}
use Rattle.jc_platform.specs.declared.names.PlatformMethod.{PlatformMethod}
use Rattle.jc_platform.specs.declared.names.PlatformMethod.TheVariants.{Objects, Exceptions, Utilities, System, Aids, Pins, Applets, Apdus, Events, Engines}
use Rattle.jc_platform.specs.declared.names.PlatformMethod.TheVariants.{Keys, KeyInterfaces, Ciphers}
use Rattle.jc_platform.specs.declared.names.PlatformMethod.TheVariants.{RsaKeys, EcKeys, RsaInterfaces, EcInterfaces, KeyPairs}
use Rattle.jc_platform.specs.declared.names.ObjectsMethod.TheVariants.{ObjectInit}
use Rattle.jc_platform.specs.declared.names.ExceptionsMethod.TheVariants.{CardExceptionInit}
use Rattle.jc_platform.specs.declared.names.UtilitiesMethod.TheVariants.{UtilArrayCompare}
use Rattle.jc_platform.specs.declared.names.SystemMethod.TheVariants.{JcSystemAbortTransaction}
use Rattle.jc_platform.specs.declared.names.AidsMethod.TheVariants.{AidInit}
use Rattle.jc_platform.specs.declared.names.PinsMethod.TheVariants.{PinCheck}
use Rattle.jc_platform.specs.declared.names.AppletsMethod.TheVariants.{AppletInit}
use Rattle.jc_platform.specs.declared.names.ApdusMethod.TheVariants.{ApduGetBuffer}
use Rattle.jc_platform.specs.declared.names.EventsMethod.TheVariants.{MultiSelectableSelect}
use Rattle.jc_platform.specs.declared.names.EnginesMethod.TheVariants.{MessageDigestGetInstance}
use Rattle.jc_platform.specs.declared.names.KeysMethod.TheVariants.{KeyBuilderBuildKey}
use Rattle.jc_platform.specs.declared.names.KeyInterfacesMethod.TheVariants.{KeyClearKey}
use Rattle.jc_platform.specs.declared.names.CiphersMethod.TheVariants.{CipherGetInstance}
use Rattle.jc_platform.specs.declared.key_methods.RsaKeysMethod.TheVariants.{RsaKeyObjectSetModulus}
use Rattle.jc_platform.specs.declared.key_methods.EcKeysMethod.TheVariants.{EcKeyObjectSetFieldFp}
use Rattle.jc_platform.specs.declared.key_methods.RsaInterfacesMethod.TheVariants.{PrivateKeyClearKey}
use Rattle.jc_platform.specs.declared.key_methods.EcInterfacesMethod.TheVariants.{EcKeySetFieldFp}
use Rattle.jc_platform.specs.declared.key_methods.KeyPairsMethod.TheVariants.{KeyPairInit}
use Rattle.jc_platform.specs.Names.{classes, methods, packages}
use Rattle.jc_platform.specs.Names.{objects_rows, exceptions_rows, utilities_rows, system_rows, aids_rows, pins_rows, applets_rows, apdus_rows, events_rows, engines_rows}
use Rattle.jc_platform.specs.Names.{keys_rows, key_interfaces_rows, ciphers_rows}
use Rattle.jc_platform.specs.Names.{rsa_keys_rows, ec_keys_rows, rsa_interfaces_rows, ec_interfaces_rows, key_pairs_rows}
use Rattle.jc_platform.specs.Numbers.{package_count, package_number, class_count, class_number, method_count, method_number}
use Rattle.jc_platform.proofs.Lists.{numbered_at}

pub class_at : (k : ℕ) → k < class_count → (c : PlatformClass) × (class_number c ≡ k)
unfolding classes
class_at k h =
    let w = numbered_at class_number (map (λ e. e.class) classes) 0 k refl h in
    (w.0, w.1 ∙ zero-add k)

pub method_at : (k : ℕ) → k < method_count → (m : PlatformMethod) × (method_number m ≡ k)
unfolding objects_rows exceptions_rows utilities_rows system_rows aids_rows pins_rows applets_rows apdus_rows events_rows engines_rows keys_rows key_interfaces_rows ciphers_rows rsa_keys_rows ec_keys_rows rsa_interfaces_rows ec_interfaces_rows key_pairs_rows
method_at k h =
    let w = numbered_at method_number (map (λ e. e.method) methods) 0 k refl h in
    (w.0, w.1 ∙ zero-add k)

pub package_at : (k : ℕ) → k < package_count → (p : PlatformPackage) × (package_number p ≡ k)
unfolding packages
package_at k h =
    let w = numbered_at package_number (map (λ e. e.package_id) packages) 0 k refl h in
    (w.0, w.1 ∙ zero-add k)

pub package_below : (p : PlatformPackage) → package_number p < package_count
package_below JavaLang = lit< tt
package_below JavacardFramework = lit< tt
package_below JavacardxApdu = lit< tt
package_below JavacardSecurity = lit< tt
package_below JavacardxCrypto = lit< tt

pub class_below : (c : PlatformClass) → class_number c < class_count
class_below Object = lit< tt
class_below _ = lit< tt

pub method_below : (m : PlatformMethod) → method_number m < method_count
method_below (Objects ObjectInit) = lit< tt
method_below (Objects _) = lit< tt
method_below (Exceptions CardExceptionInit) = lit< tt
method_below (Exceptions _) = lit< tt
method_below (Utilities UtilArrayCompare) = lit< tt
method_below (Utilities _) = lit< tt
method_below (System JcSystemAbortTransaction) = lit< tt
method_below (System _) = lit< tt
method_below (Aids AidInit) = lit< tt
method_below (Aids _) = lit< tt
method_below (Pins PinCheck) = lit< tt
method_below (Pins _) = lit< tt
method_below (Applets AppletInit) = lit< tt
method_below (Applets _) = lit< tt
method_below (Apdus ApduGetBuffer) = lit< tt
method_below (Apdus _) = lit< tt
method_below (Events MultiSelectableSelect) = lit< tt
method_below (Events _) = lit< tt
method_below (Engines MessageDigestGetInstance) = lit< tt
method_below (Engines _) = lit< tt
method_below (Keys KeyBuilderBuildKey) = lit< tt
method_below (Keys _) = lit< tt
method_below (KeyInterfaces KeyClearKey) = lit< tt
method_below (KeyInterfaces _) = lit< tt
method_below (Ciphers CipherGetInstance) = lit< tt
method_below (Ciphers _) = lit< tt
method_below (RsaKeys RsaKeyObjectSetModulus) = lit< tt
method_below (RsaKeys _) = lit< tt
method_below (EcKeys EcKeyObjectSetFieldFp) = lit< tt
method_below (EcKeys _) = lit< tt
method_below (RsaInterfaces PrivateKeyClearKey) = lit< tt
method_below (RsaInterfaces _) = lit< tt
method_below (EcInterfaces EcKeySetFieldFp) = lit< tt
method_below (EcInterfaces _) = lit< tt
method_below (KeyPairs KeyPairInit) = lit< tt
method_below (KeyPairs _) = lit< tt
