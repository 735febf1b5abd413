-- The names of the platform as rows: its packages, classes and methods, and what is known of each.
use Rattle.std.specs.Prelude.{ℕ, Bool, true, false, Option, None, Some, List, [], ◌∷◌, ◌++◌, codes}
use Rattle.hex.specs.Hex.{encode_upper}
use Rattle.jc_platform.specs.declared.names.PlatformPackage.{PlatformPackage}
use Rattle.jc_platform.specs.declared.names.PlatformPackage.TheVariants.{JavaLang, JavacardFramework, JavacardxApdu, JavacardSecurity, JavacardxCrypto}
use Rattle.jc_platform.specs.declared.names.PlatformClass.{PlatformClass}
use Rattle.jc_platform.specs.declared.names.PlatformClass.TheVariants.{Object, Throwable, Exception, RuntimeException, IndexOutOfBoundsException}
use Rattle.jc_platform.specs.declared.names.PlatformClass.TheVariants.{ArithmeticException, ArrayIndexOutOfBoundsException, ArrayStoreException}
use Rattle.jc_platform.specs.declared.names.PlatformClass.TheVariants.{ClassCastException, NegativeArraySizeException, NullPointerException, SecurityException}
use Rattle.jc_platform.specs.declared.names.PlatformClass.TheVariants.{Shareable, Pin, Applet, Apdu, Aid, JcSystem, Util, OwnerPin, CardException}
use Rattle.jc_platform.specs.declared.names.PlatformClass.TheVariants.{CardRuntimeException, IsoException, PinException, SystemException, TransactionException}
use Rattle.jc_platform.specs.declared.names.PlatformClass.TheVariants.{ApduException, UserException, Iso7816, MultiSelectable, AppletEvent, ExtendedLength}
use Rattle.jc_platform.specs.declared.names.PlatformClass.TheVariants.{CryptoException, MessageDigest, Checksum, RandomData, InitializedMessageDigest}
use Rattle.jc_platform.specs.declared.names.PlatformClass.TheVariants.{Key, SecretKey, DesKey, AesKey, HmacKey, KeyBuilder, KeyObject, DesKeyObject}
use Rattle.jc_platform.specs.declared.names.PlatformClass.TheVariants.{AesKeyObject, HmacKeyObject, Signature, Cipher}
use Rattle.jc_platform.specs.declared.names.PlatformClass.TheVariants.{PrivateKey, PublicKey, RsaPublicKey, RsaPrivateKey, RsaPrivateCrtKey, EcKey, EcPublicKey}
use Rattle.jc_platform.specs.declared.names.PlatformClass.TheVariants.{EcPrivateKey, KeyPair, KeyAgreement, RsaKeyObject, RsaPublicKeyObject, RsaPrivateKeyObject}
use Rattle.jc_platform.specs.declared.names.PlatformClass.TheVariants.{RsaPrivateCrtKeyObject, EcKeyObject, EcPublicKeyObject, EcPrivateKeyObject}
use Rattle.jc_platform.specs.declared.names.MethodKind.{MethodKind}
use Rattle.jc_platform.specs.declared.names.MethodKind.TheVariants as kind
use Rattle.jc_platform.specs.declared.names.PlatformMethod.{PlatformMethod}
use Rattle.jc_platform.specs.declared.names.PlatformMethod.TheVariants.{Objects, Exceptions, Utilities, System, Aids, Pins, Applets, Apdus, Events, Engines}
use Rattle.jc_platform.specs.declared.names.PlatformMethod.TheVariants.{Keys, KeyInterfaces, Ciphers}
use Rattle.jc_platform.specs.declared.names.PlatformMethod.TheVariants.{RsaKeys, EcKeys, RsaInterfaces, EcInterfaces, KeyPairs}
use Rattle.jc_platform.specs.declared.names.ObjectsMethod.TheVariants.{ObjectInit, ObjectEquals, ThrowableInit, ExceptionInit, RuntimeExceptionInit}
use Rattle.jc_platform.specs.declared.names.ObjectsMethod.TheVariants.{IndexOutOfBoundsExceptionInit, ArithmeticExceptionInit}
use Rattle.jc_platform.specs.declared.names.ObjectsMethod.TheVariants.{ArrayIndexOutOfBoundsExceptionInit, ArrayStoreExceptionInit, ClassCastExceptionInit}
use Rattle.jc_platform.specs.declared.names.ObjectsMethod.TheVariants.{NegativeArraySizeExceptionInit, NullPointerExceptionInit, SecurityExceptionInit}
use Rattle.jc_platform.specs.declared.names.ExceptionsMethod.TheVariants.{CardExceptionInit, CardExceptionThrowIt, CardExceptionGetReason}
use Rattle.jc_platform.specs.declared.names.ExceptionsMethod.TheVariants.{CardExceptionSetReason, CardRuntimeExceptionInit, CardRuntimeExceptionThrowIt}
use Rattle.jc_platform.specs.declared.names.ExceptionsMethod.TheVariants.{CardRuntimeExceptionGetReason, CardRuntimeExceptionSetReason, IsoExceptionInit}
use Rattle.jc_platform.specs.declared.names.ExceptionsMethod.TheVariants.{IsoExceptionThrowIt, PinExceptionInit, PinExceptionThrowIt, SystemExceptionInit}
use Rattle.jc_platform.specs.declared.names.ExceptionsMethod.TheVariants.{SystemExceptionThrowIt, TransactionExceptionInit, TransactionExceptionThrowIt}
use Rattle.jc_platform.specs.declared.names.ExceptionsMethod.TheVariants.{ApduExceptionInit, ApduExceptionThrowIt, UserExceptionInit, UserExceptionThrowIt}
use Rattle.jc_platform.specs.declared.names.ExceptionsMethod.TheVariants.{UserExceptionInitWithoutReason, CryptoExceptionInit, CryptoExceptionThrowIt}
use Rattle.jc_platform.specs.declared.names.UtilitiesMethod.TheVariants.{UtilArrayCompare, UtilArrayCopy, UtilGetShort, UtilMakeShort, UtilSetShort}
use Rattle.jc_platform.specs.declared.names.UtilitiesMethod.TheVariants.{UtilArrayCopyNonAtomic, UtilArrayFill, UtilArrayFillNonAtomic}
use Rattle.jc_platform.specs.declared.names.SystemMethod.TheVariants.{JcSystemAbortTransaction, JcSystemBeginTransaction, JcSystemCommitTransaction}
use Rattle.jc_platform.specs.declared.names.SystemMethod.TheVariants.{JcSystemGetAid, JcSystemGetAppletShareableInterfaceObject, JcSystemGetMaxCommitCapacity}
use Rattle.jc_platform.specs.declared.names.SystemMethod.TheVariants.{JcSystemGetPreviousContextAid, JcSystemGetTransactionDepth}
use Rattle.jc_platform.specs.declared.names.SystemMethod.TheVariants.{JcSystemGetUnusedCommitCapacity, JcSystemIsTransient, JcSystemLookupAid}
use Rattle.jc_platform.specs.declared.names.SystemMethod.TheVariants.{JcSystemMakeTransientBooleanArray, JcSystemMakeTransientByteArray}
use Rattle.jc_platform.specs.declared.names.SystemMethod.TheVariants.{JcSystemMakeTransientObjectArray, JcSystemMakeTransientShortArray, JcSystemGetVersion}
use Rattle.jc_platform.specs.declared.names.SystemMethod.TheVariants.{JcSystemGetAvailableMemory, JcSystemGetAvailableMemoryShorts}
use Rattle.jc_platform.specs.declared.names.SystemMethod.TheVariants.{JcSystemRequestObjectDeletion, JcSystemIsObjectDeletionSupported, JcSystemIsAppletActive}
use Rattle.jc_platform.specs.declared.names.SystemMethod.TheVariants.{JcSystemGetAssignedChannel}
use Rattle.jc_platform.specs.declared.names.AidsMethod.TheVariants.{AidInit, AidEquals, AidEqualsBytes, AidGetBytes, AidRidEquals, AidPartialEquals}
use Rattle.jc_platform.specs.declared.names.AidsMethod.TheVariants.{AidGetPartialBytes}
use Rattle.jc_platform.specs.declared.names.PinsMethod.TheVariants.{PinCheck, PinGetTriesRemaining, PinIsValidated, PinReset, OwnerPinInit, OwnerPinCheck}
use Rattle.jc_platform.specs.declared.names.PinsMethod.TheVariants.{OwnerPinGetTriesRemaining, OwnerPinIsValidated, OwnerPinReset, OwnerPinResetAndUnblock}
use Rattle.jc_platform.specs.declared.names.PinsMethod.TheVariants.{OwnerPinUpdate, OwnerPinGetValidatedFlag, OwnerPinSetValidatedFlag}
use Rattle.jc_platform.specs.declared.names.AppletsMethod.TheVariants.{AppletInit, AppletDeselect, AppletGetShareableInterfaceObject, AppletRegister}
use Rattle.jc_platform.specs.declared.names.AppletsMethod.TheVariants.{AppletRegisterBytes, AppletSelect, AppletSelectingApplet, AppletProcess}
use Rattle.jc_platform.specs.declared.names.AppletsMethod.TheVariants.{AppletReSelectingApplet}
use Rattle.jc_platform.specs.declared.names.ApdusMethod.TheVariants.{ApduGetBuffer, ApduReceiveBytes, ApduSendBytes, ApduSetIncomingAndReceive, ApduSetOutgoing}
use Rattle.jc_platform.specs.declared.names.ApdusMethod.TheVariants.{ApduSetOutgoingAndSend, ApduSetOutgoingLength, ApduGetIncomingLength, ApduGetOffsetCdata}
use Rattle.jc_platform.specs.declared.names.ApdusMethod.TheVariants.{ApduSendBytesLong, ApduGetCurrentState, ApduGetProtocol, ApduGetNad, ApduGetClaChannel}
use Rattle.jc_platform.specs.declared.names.ApdusMethod.TheVariants.{ApduGetInBlockSize, ApduGetOutBlockSize, ApduIsIsoInterindustryCla}
use Rattle.jc_platform.specs.declared.names.ApdusMethod.TheVariants.{ApduIsCommandChainingCla, ApduIsSecureMessagingCla, ApduIsValidCla}
use Rattle.jc_platform.specs.declared.names.ApdusMethod.TheVariants.{ApduSetOutgoingNoChaining, ApduWaitExtension, ApduGetCurrentApdu, ApduGetCurrentApduBuffer}
use Rattle.jc_platform.specs.declared.names.EventsMethod.TheVariants.{MultiSelectableSelect, MultiSelectableDeselect, AppletEventUninstall}
use Rattle.jc_platform.specs.declared.names.EnginesMethod.TheVariants.{MessageDigestGetInstance, MessageDigestGetAlgorithm, MessageDigestGetLength, MessageDigestUpdate}
use Rattle.jc_platform.specs.declared.names.EnginesMethod.TheVariants.{MessageDigestDoFinal, MessageDigestReset, ChecksumGetInstance, ChecksumGetAlgorithm}
use Rattle.jc_platform.specs.declared.names.EnginesMethod.TheVariants.{ChecksumInit, ChecksumUpdate, ChecksumDoFinal, RandomDataGetInstance, RandomDataGenerateData}
use Rattle.jc_platform.specs.declared.names.EnginesMethod.TheVariants.{RandomDataNextBytes, RandomDataSetSeed, RandomDataGetAlgorithm}
use Rattle.jc_platform.specs.declared.names.EnginesMethod.TheVariants.{MessageDigestGetInitializedMessageDigestInstance}
use Rattle.jc_platform.specs.declared.names.EnginesMethod.TheVariants.{InitializedMessageDigestSetInitialDigest}
use Rattle.jc_platform.specs.declared.names.KeysMethod.TheVariants.{KeyBuilderBuildKey, KeyObjectClearKey, KeyObjectGetSize, KeyObjectGetType}
use Rattle.jc_platform.specs.declared.names.KeysMethod.TheVariants.{KeyObjectIsInitialized, KeyObjectGetKey, KeyObjectSetKey, HmacKeyObjectSetKey}
use Rattle.jc_platform.specs.declared.names.KeyInterfacesMethod.TheVariants.{KeyClearKey, KeyGetSize, KeyGetType, KeyIsInitialized, SecretKeyClearKey}
use Rattle.jc_platform.specs.declared.names.KeyInterfacesMethod.TheVariants.{SecretKeyGetSize, SecretKeyGetType, SecretKeyIsInitialized, DesKeyClearKey}
use Rattle.jc_platform.specs.declared.names.KeyInterfacesMethod.TheVariants.{DesKeyGetSize, DesKeyGetType, DesKeyIsInitialized, DesKeyGetKey, DesKeySetKey}
use Rattle.jc_platform.specs.declared.names.KeyInterfacesMethod.TheVariants.{AesKeyClearKey, AesKeyGetSize, AesKeyGetType, AesKeyIsInitialized, AesKeyGetKey}
use Rattle.jc_platform.specs.declared.names.KeyInterfacesMethod.TheVariants.{AesKeySetKey, HmacKeyClearKey, HmacKeyGetSize, HmacKeyGetType}
use Rattle.jc_platform.specs.declared.names.KeyInterfacesMethod.TheVariants.{HmacKeyIsInitialized, HmacKeyGetKey, HmacKeySetKey}
use Rattle.jc_platform.specs.declared.names.CiphersMethod.TheVariants.{CipherGetInstance, CipherGetInstanceOfCipherAndPadding, CipherInit}
use Rattle.jc_platform.specs.declared.names.CiphersMethod.TheVariants.{CipherInitWithVector, CipherUpdate, CipherDoFinal, CipherGetAlgorithm}
use Rattle.jc_platform.specs.declared.names.CiphersMethod.TheVariants.{CipherGetCipherAlgorithm, CipherGetPaddingAlgorithm, SignatureGetInstance}
use Rattle.jc_platform.specs.declared.names.CiphersMethod.TheVariants.{SignatureGetInstanceOfDigestCipherAndPadding, SignatureInit, SignatureInitWithVector}
use Rattle.jc_platform.specs.declared.names.CiphersMethod.TheVariants.{SignatureUpdate, SignatureSign, SignatureVerify, SignatureGetAlgorithm}
use Rattle.jc_platform.specs.declared.names.CiphersMethod.TheVariants.{SignatureGetMessageDigestAlgorithm, SignatureGetCipherAlgorithm}
use Rattle.jc_platform.specs.declared.names.CiphersMethod.TheVariants.{SignatureGetPaddingAlgorithm, SignatureGetLength}
use Rattle.jc_platform.specs.declared.key_methods.RsaKeysMethod.TheVariants.{RsaKeyObjectSetModulus, RsaKeyObjectSetExponent, RsaKeyObjectGetModulus}
use Rattle.jc_platform.specs.declared.key_methods.RsaKeysMethod.TheVariants.{RsaKeyObjectGetExponent, RsaPrivateCrtKeyObjectSetP, RsaPrivateCrtKeyObjectSetQ}
use Rattle.jc_platform.specs.declared.key_methods.RsaKeysMethod.TheVariants.{RsaPrivateCrtKeyObjectSetDp1, RsaPrivateCrtKeyObjectSetDq1, RsaPrivateCrtKeyObjectSetPq}
use Rattle.jc_platform.specs.declared.key_methods.RsaKeysMethod.TheVariants.{RsaPrivateCrtKeyObjectGetP, RsaPrivateCrtKeyObjectGetQ, RsaPrivateCrtKeyObjectGetDp1}
use Rattle.jc_platform.specs.declared.key_methods.RsaKeysMethod.TheVariants.{RsaPrivateCrtKeyObjectGetDq1, RsaPrivateCrtKeyObjectGetPq}
use Rattle.jc_platform.specs.declared.key_methods.EcKeysMethod.TheVariants.{EcKeyObjectSetFieldFp, EcKeyObjectSetFieldF2m, EcKeyObjectSetFieldF2mOfThree}
use Rattle.jc_platform.specs.declared.key_methods.EcKeysMethod.TheVariants.{EcKeyObjectSetA, EcKeyObjectSetB, EcKeyObjectSetG, EcKeyObjectSetR, EcKeyObjectSetK}
use Rattle.jc_platform.specs.declared.key_methods.EcKeysMethod.TheVariants.{EcKeyObjectGetField, EcKeyObjectGetA, EcKeyObjectGetB, EcKeyObjectGetG, EcKeyObjectGetR}
use Rattle.jc_platform.specs.declared.key_methods.EcKeysMethod.TheVariants.{EcKeyObjectGetK, EcKeyObjectCopyDomainParametersFrom, EcPublicKeyObjectSetW}
use Rattle.jc_platform.specs.declared.key_methods.EcKeysMethod.TheVariants.{EcPublicKeyObjectGetW, EcPrivateKeyObjectSetS, EcPrivateKeyObjectGetS}
use Rattle.jc_platform.specs.declared.key_methods.RsaInterfacesMethod.TheVariants.{PrivateKeyClearKey, PrivateKeyGetSize, PrivateKeyGetType, PrivateKeyIsInitialized}
use Rattle.jc_platform.specs.declared.key_methods.RsaInterfacesMethod.TheVariants.{PublicKeyClearKey, PublicKeyGetSize, PublicKeyGetType, PublicKeyIsInitialized}
use Rattle.jc_platform.specs.declared.key_methods.RsaInterfacesMethod.TheVariants.{RsaPublicKeyClearKey, RsaPublicKeyGetSize, RsaPublicKeyGetType}
use Rattle.jc_platform.specs.declared.key_methods.RsaInterfacesMethod.TheVariants.{RsaPublicKeyIsInitialized, RsaPublicKeySetModulus, RsaPublicKeySetExponent}
use Rattle.jc_platform.specs.declared.key_methods.RsaInterfacesMethod.TheVariants.{RsaPublicKeyGetModulus, RsaPublicKeyGetExponent, RsaPrivateKeyClearKey}
use Rattle.jc_platform.specs.declared.key_methods.RsaInterfacesMethod.TheVariants.{RsaPrivateKeyGetSize, RsaPrivateKeyGetType, RsaPrivateKeyIsInitialized}
use Rattle.jc_platform.specs.declared.key_methods.RsaInterfacesMethod.TheVariants.{RsaPrivateKeySetModulus, RsaPrivateKeySetExponent, RsaPrivateKeyGetModulus}
use Rattle.jc_platform.specs.declared.key_methods.RsaInterfacesMethod.TheVariants.{RsaPrivateKeyGetExponent, RsaPrivateCrtKeyClearKey, RsaPrivateCrtKeyGetSize}
use Rattle.jc_platform.specs.declared.key_methods.RsaInterfacesMethod.TheVariants.{RsaPrivateCrtKeyGetType, RsaPrivateCrtKeyIsInitialized, RsaPrivateCrtKeySetP}
use Rattle.jc_platform.specs.declared.key_methods.RsaInterfacesMethod.TheVariants.{RsaPrivateCrtKeySetQ, RsaPrivateCrtKeySetDp1, RsaPrivateCrtKeySetDq1}
use Rattle.jc_platform.specs.declared.key_methods.RsaInterfacesMethod.TheVariants.{RsaPrivateCrtKeySetPq, RsaPrivateCrtKeyGetP, RsaPrivateCrtKeyGetQ}
use Rattle.jc_platform.specs.declared.key_methods.RsaInterfacesMethod.TheVariants.{RsaPrivateCrtKeyGetDp1, RsaPrivateCrtKeyGetDq1, RsaPrivateCrtKeyGetPq}
use Rattle.jc_platform.specs.declared.key_methods.EcInterfacesMethod.TheVariants.{EcKeySetFieldFp, EcKeySetFieldF2m, EcKeySetFieldF2mOfThree, EcKeySetA, EcKeySetB}
use Rattle.jc_platform.specs.declared.key_methods.EcInterfacesMethod.TheVariants.{EcKeySetG, EcKeySetR, EcKeySetK, EcKeyGetField, EcKeyGetA, EcKeyGetB, EcKeyGetG}
use Rattle.jc_platform.specs.declared.key_methods.EcInterfacesMethod.TheVariants.{EcKeyGetR, EcKeyGetK, EcKeyCopyDomainParametersFrom, EcPublicKeyClearKey}
use Rattle.jc_platform.specs.declared.key_methods.EcInterfacesMethod.TheVariants.{EcPublicKeyGetSize, EcPublicKeyGetType, EcPublicKeyIsInitialized}
use Rattle.jc_platform.specs.declared.key_methods.EcInterfacesMethod.TheVariants.{EcPublicKeySetFieldFp, EcPublicKeySetFieldF2m, EcPublicKeySetFieldF2mOfThree}
use Rattle.jc_platform.specs.declared.key_methods.EcInterfacesMethod.TheVariants.{EcPublicKeySetA, EcPublicKeySetB, EcPublicKeySetG, EcPublicKeySetR, EcPublicKeySetK}
use Rattle.jc_platform.specs.declared.key_methods.EcInterfacesMethod.TheVariants.{EcPublicKeyGetField, EcPublicKeyGetA, EcPublicKeyGetB, EcPublicKeyGetG}
use Rattle.jc_platform.specs.declared.key_methods.EcInterfacesMethod.TheVariants.{EcPublicKeyGetR, EcPublicKeyGetK, EcPublicKeyCopyDomainParametersFrom}
use Rattle.jc_platform.specs.declared.key_methods.EcInterfacesMethod.TheVariants.{EcPublicKeySetW, EcPublicKeyGetW, EcPrivateKeyClearKey, EcPrivateKeyGetSize}
use Rattle.jc_platform.specs.declared.key_methods.EcInterfacesMethod.TheVariants.{EcPrivateKeyGetType, EcPrivateKeyIsInitialized, EcPrivateKeySetFieldFp}
use Rattle.jc_platform.specs.declared.key_methods.EcInterfacesMethod.TheVariants.{EcPrivateKeySetFieldF2m, EcPrivateKeySetFieldF2mOfThree, EcPrivateKeySetA}
use Rattle.jc_platform.specs.declared.key_methods.EcInterfacesMethod.TheVariants.{EcPrivateKeySetB, EcPrivateKeySetG, EcPrivateKeySetR, EcPrivateKeySetK}
use Rattle.jc_platform.specs.declared.key_methods.EcInterfacesMethod.TheVariants.{EcPrivateKeyGetField, EcPrivateKeyGetA, EcPrivateKeyGetB, EcPrivateKeyGetG}
use Rattle.jc_platform.specs.declared.key_methods.EcInterfacesMethod.TheVariants.{EcPrivateKeyGetR, EcPrivateKeyGetK, EcPrivateKeyCopyDomainParametersFrom}
use Rattle.jc_platform.specs.declared.key_methods.EcInterfacesMethod.TheVariants.{EcPrivateKeySetS, EcPrivateKeyGetS}
use Rattle.jc_platform.specs.declared.key_methods.KeyPairsMethod.TheVariants.{KeyPairInit, KeyPairInitOfKeys, KeyPairGenKeyPair, KeyPairGetPublic, KeyPairGetPrivate}
use Rattle.jc_platform.specs.declared.key_methods.KeyPairsMethod.TheVariants.{KeyAgreementGetInstance, KeyAgreementInit, KeyAgreementGenerateSecret}
use Rattle.jc_platform.specs.declared.key_methods.KeyPairsMethod.TheVariants.{KeyAgreementGetAlgorithm}
use Rattle.jc_platform.specs.declared.kinds.ClassForm.{ClassForm}
use Rattle.jc_platform.specs.declared.kinds.ClassForm.TheVariants as form
use Rattle.jc_platform.specs.declared.kinds.CellKind.{CellKind}
use Rattle.jc_platform.specs.declared.kinds.CellKind.TheVariants.{Number, Reference}
use Rattle.jc_platform.specs.declared.kinds.ParameterKind.{ParameterKind}
use Rattle.jc_platform.specs.declared.kinds.ParameterKind.TheVariants.{Byte, Short, Boolean, Bytes, Shorts, Anything, Instance}
use Rattle.jc_platform.specs.declared.kinds.Answer.{Answer}
use Rattle.jc_platform.specs.declared.kinds.Answer.TheVariants as answer
use Rattle.jc_platform.specs.declared.kinds.Receiver.{Receiver}
use Rattle.jc_platform.specs.declared.kinds.Receiver.TheVariants.{Absent, Kept, Registered, Changed}

-- a package and its AID in upper case hexadecimal
pub record PackageEntry : Type 0 where
  pub package_id : PlatformPackage
  pub aid_text : List ℕ

-- a class: the package that it is in, its name, whether each table has it, its superclass, the interfaces that it implements with those that they
-- extend, its form, what the cells of an instance hold, whether code may make instances by `new`, and whether the runtime environment throws one of its own
pub record ClassEntry : Type 0 where
  pub class : PlatformClass
  pub home : PlatformPackage
  pub name : List ℕ
  pub needed : Bool
  pub superclass : Option PlatformClass
  pub interfaces : List PlatformClass
  pub form : ClassForm
  pub cells : List CellKind
  pub instantiable : Bool
  pub thrown : Bool

-- a method: the class that it is in, its kind, its name, whether each table has it, its parameters after its receiver, what it returns, what it does with
-- its receiver, and the method that carries it out if it is one of an interface
pub record MethodEntry : Type 0 where
  pub method : PlatformMethod
  pub class : PlatformClass
  pub kind : MethodKind
  pub name : List ℕ
  pub needed : Bool
  pub parameters : List ParameterKind
  pub answer : Answer
  pub receiver : Receiver
  pub implementation : Option PlatformMethod

-- the row of a class that each table has
abbrev pub class_entry : PlatformPackage → PlatformClass → List ℕ → Option PlatformClass → List PlatformClass → ClassForm → List CellKind → Bool → Bool → ClassEntry
class_entry p c n s is f cs made thrown =
    record { class = c; home = p; name = n; needed = true; superclass = s; interfaces = is; form = f; cells = cs; instantiable = made; thrown = thrown }

-- the row of a class that an extended table may have
abbrev pub optional_class : PlatformPackage → PlatformClass → List ℕ → Option PlatformClass → List PlatformClass → ClassForm → List CellKind → Bool → Bool → ClassEntry
optional_class p c n s is f cs made thrown =
    record { class = c; home = p; name = n; needed = false; superclass = s; interfaces = is; form = f; cells = cs; instantiable = made; thrown = thrown }

-- the row of a method that each table has
abbrev pub method_entry : PlatformClass → MethodKind → PlatformMethod → List ℕ → List ParameterKind → Answer → Receiver → MethodEntry
method_entry c k m n ps a r =
    record { method = m; class = c; kind = k; name = n; needed = true; parameters = ps; answer = a; receiver = r; implementation = None }

-- the row of a method that an extended table may have
abbrev pub optional_method : PlatformClass → MethodKind → PlatformMethod → List ℕ → List ParameterKind → Answer → Receiver → MethodEntry
optional_method c k m n ps a r =
    record { method = m; class = c; kind = k; name = n; needed = false; parameters = ps; answer = a; receiver = r; implementation = None }

-- the row of an interface's method, with the one that carries it out
abbrev pub implemented_method : PlatformClass → MethodKind → PlatformMethod → List ℕ → List ParameterKind → Answer → Receiver → PlatformMethod → MethodEntry
implemented_method c k m n ps a r i =
    record { method = m; class = c; kind = k; name = n; needed = true; parameters = ps; answer = a; receiver = r; implementation = Some i }

-- the row of an interface's method that an extended table may have, with the one that carries it out
abbrev pub optional_implemented_method : PlatformClass → MethodKind → PlatformMethod → List ℕ → List ParameterKind → Answer → Receiver → PlatformMethod → MethodEntry
optional_implemented_method c k m n ps a r i =
    record { method = m; class = c; kind = k; name = n; needed = false; parameters = ps; answer = a; receiver = r; implementation = Some i }

-- every package
unfoldable pub packages : List PackageEntry
packages =
    record { package_id = JavaLang; aid_text = encode_upper (160 ∷ 0 ∷ 0 ∷ 0 ∷ 98 ∷ 0 ∷ 1 ∷ []) } ∷
    record { package_id = JavacardFramework; aid_text = encode_upper (160 ∷ 0 ∷ 0 ∷ 0 ∷ 98 ∷ 1 ∷ 1 ∷ []) } ∷
    record { package_id = JavacardxApdu; aid_text = encode_upper (160 ∷ 0 ∷ 0 ∷ 0 ∷ 98 ∷ 2 ∷ 9 ∷ []) } ∷
    record { package_id = JavacardSecurity; aid_text = encode_upper (160 ∷ 0 ∷ 0 ∷ 0 ∷ 98 ∷ 1 ∷ 2 ∷ []) } ∷
    record { package_id = JavacardxCrypto; aid_text = encode_upper (160 ∷ 0 ∷ 0 ∷ 0 ∷ 98 ∷ 2 ∷ 1 ∷ []) } ∷
    []

-- every class
unfoldable pub classes : List ClassEntry
classes =
    class_entry JavaLang Object (codes "Object") None [] form.Object [] true false ∷
    class_entry JavaLang Throwable (codes "Throwable") (Some Object) [] form.Exception [] true false ∷
    class_entry JavaLang Exception (codes "Exception") (Some Throwable) [] form.Exception [] true false ∷
    class_entry JavaLang RuntimeException (codes "RuntimeException") (Some Exception) [] form.Exception [] true false ∷
    class_entry JavaLang IndexOutOfBoundsException (codes "IndexOutOfBoundsException") (Some RuntimeException) [] form.Exception [] true false ∷
    class_entry JavaLang ArithmeticException (codes "ArithmeticException") (Some RuntimeException) [] form.Exception [] true true ∷
    class_entry JavaLang ArrayIndexOutOfBoundsException (codes "ArrayIndexOutOfBoundsException") (Some IndexOutOfBoundsException) [] form.Exception [] true true ∷
    class_entry JavaLang ArrayStoreException (codes "ArrayStoreException") (Some RuntimeException) [] form.Exception [] true true ∷
    class_entry JavaLang ClassCastException (codes "ClassCastException") (Some RuntimeException) [] form.Exception [] true true ∷
    class_entry JavaLang NegativeArraySizeException (codes "NegativeArraySizeException") (Some RuntimeException) [] form.Exception [] true true ∷
    class_entry JavaLang NullPointerException (codes "NullPointerException") (Some RuntimeException) [] form.Exception [] true true ∷
    class_entry JavaLang SecurityException (codes "SecurityException") (Some RuntimeException) [] form.Exception [] true true ∷
    class_entry JavacardFramework Shareable (codes "Shareable") None [] form.Interface [] false false ∷
    class_entry JavacardFramework Pin (codes "PIN") None [] form.Interface [] false false ∷
    class_entry JavacardFramework Applet (codes "Applet") (Some Object) [] form.Object [] false false ∷
    class_entry JavacardFramework Apdu (codes "APDU") (Some Object) [] form.Object [] false false ∷
    class_entry JavacardFramework Aid (codes "AID") (Some Object) [] form.Object (Number ∷ Number ∷ Number ∷ Number ∷ Number ∷ Number ∷ Number ∷ Number ∷ Number ∷ []) true false ∷
    class_entry JavacardFramework JcSystem (codes "JCSystem") (Some Object) [] form.Static [] false false ∷
    class_entry JavacardFramework Util (codes "Util") (Some Object) [] form.Static [] false false ∷
    class_entry JavacardFramework OwnerPin (codes "OwnerPIN") (Some Object) (Pin ∷ []) form.Object (Number ∷ Number ∷ Number ∷ Number ∷ Reference ∷ []) true false ∷
    class_entry JavacardFramework CardException (codes "CardException") (Some Exception) [] form.Exception (Number ∷ []) true true ∷
    class_entry JavacardFramework CardRuntimeException (codes "CardRuntimeException") (Some RuntimeException) [] form.Exception (Number ∷ []) true true ∷
    class_entry JavacardFramework IsoException (codes "ISOException") (Some CardRuntimeException) [] form.Exception (Number ∷ []) true true ∷
    class_entry JavacardFramework PinException (codes "PINException") (Some CardRuntimeException) [] form.Exception (Number ∷ []) true true ∷
    class_entry JavacardFramework SystemException (codes "SystemException") (Some CardRuntimeException) [] form.Exception (Number ∷ []) true true ∷
    class_entry JavacardFramework TransactionException (codes "TransactionException") (Some CardRuntimeException) [] form.Exception (Number ∷ []) true true ∷
    class_entry JavacardFramework ApduException (codes "APDUException") (Some CardRuntimeException) [] form.Exception (Number ∷ []) true true ∷
    class_entry JavacardFramework UserException (codes "UserException") (Some CardException) [] form.Exception (Number ∷ []) true true ∷
    optional_class JavacardFramework Iso7816 (codes "ISO7816") None [] form.Interface [] false false ∷
    optional_class JavacardFramework MultiSelectable (codes "MultiSelectable") None [] form.Interface [] false false ∷
    optional_class JavacardFramework AppletEvent (codes "AppletEvent") None [] form.Interface [] false false ∷
    optional_class JavacardxApdu ExtendedLength (codes "ExtendedLength") None [] form.Interface [] false false ∷
    optional_class JavacardSecurity CryptoException (codes "CryptoException") (Some CardRuntimeException) [] form.Exception (Number ∷ []) true true ∷
    optional_class JavacardSecurity MessageDigest (codes "MessageDigest") (Some Object) [] form.Object (Number ∷ Reference ∷ []) false false ∷
    optional_class JavacardSecurity Checksum (codes "Checksum") (Some Object) [] form.Object (Number ∷ Reference ∷ []) false false ∷
    optional_class JavacardSecurity RandomData (codes "RandomData") (Some Object) [] form.Object (Number ∷ Reference ∷ []) false false ∷
    optional_class JavacardSecurity InitializedMessageDigest (codes "InitializedMessageDigest") (Some MessageDigest) [] form.Object (Number ∷ Reference ∷ []) false false ∷
    optional_class JavacardSecurity Key (codes "Key") None [] form.Interface [] false false ∷
    optional_class JavacardSecurity SecretKey (codes "SecretKey") None (Key ∷ []) form.Interface [] false false ∷
    optional_class JavacardSecurity DesKey (codes "DESKey") None (SecretKey ∷ Key ∷ []) form.Interface [] false false ∷
    optional_class JavacardSecurity AesKey (codes "AESKey") None (SecretKey ∷ Key ∷ []) form.Interface [] false false ∷
    optional_class JavacardSecurity HmacKey (codes "HMACKey") None (SecretKey ∷ Key ∷ []) form.Interface [] false false ∷
    optional_class JavacardSecurity KeyBuilder (codes "KeyBuilder") (Some Object) [] form.Static [] false false ∷
    optional_class JavacardSecurity KeyObject (codes "KeyObject") (Some Object) (Key ∷ []) form.Object (Number ∷ Reference ∷ []) false false ∷
    optional_class JavacardSecurity DesKeyObject (codes "DESKeyObject") (Some KeyObject) (DesKey ∷ SecretKey ∷ Key ∷ []) form.Object (Number ∷ Reference ∷ []) false false ∷
    optional_class JavacardSecurity AesKeyObject (codes "AESKeyObject") (Some KeyObject) (AesKey ∷ SecretKey ∷ Key ∷ []) form.Object (Number ∷ Reference ∷ []) false false ∷
    optional_class JavacardSecurity HmacKeyObject (codes "HMACKeyObject") (Some KeyObject) (HmacKey ∷ SecretKey ∷ Key ∷ []) form.Object (Number ∷ Reference ∷ []) false false ∷
    optional_class JavacardSecurity Signature (codes "Signature") (Some Object) [] form.Object (Number ∷ Reference ∷ Reference ∷ Number ∷ Number ∷ Number ∷ Number ∷ Number ∷ Number ∷ Number ∷ Number ∷ Number ∷ []) false false ∷
    optional_class JavacardSecurity PrivateKey (codes "PrivateKey") None (Key ∷ []) form.Interface [] false false ∷
    optional_class JavacardSecurity PublicKey (codes "PublicKey") None (Key ∷ []) form.Interface [] false false ∷
    optional_class JavacardSecurity RsaPublicKey (codes "RSAPublicKey") None (PublicKey ∷ Key ∷ []) form.Interface [] false false ∷
    optional_class JavacardSecurity RsaPrivateKey (codes "RSAPrivateKey") None (PrivateKey ∷ Key ∷ []) form.Interface [] false false ∷
    optional_class JavacardSecurity RsaPrivateCrtKey (codes "RSAPrivateCrtKey") None (PrivateKey ∷ Key ∷ []) form.Interface [] false false ∷
    optional_class JavacardSecurity EcKey (codes "ECKey") None [] form.Interface [] false false ∷
    optional_class JavacardSecurity EcPublicKey (codes "ECPublicKey") None (PublicKey ∷ Key ∷ EcKey ∷ []) form.Interface [] false false ∷
    optional_class JavacardSecurity EcPrivateKey (codes "ECPrivateKey") None (PrivateKey ∷ Key ∷ EcKey ∷ []) form.Interface [] false false ∷
    optional_class JavacardSecurity KeyPair (codes "KeyPair") (Some Object) [] form.Object (Number ∷ Reference ∷ Reference ∷ []) true false ∷
    optional_class JavacardSecurity KeyAgreement (codes "KeyAgreement") (Some Object) [] form.Object (Number ∷ Reference ∷ Reference ∷ []) false false ∷
    optional_class JavacardSecurity RsaKeyObject (codes "RSAKeyObject") (Some KeyObject) (Key ∷ []) form.Object (Number ∷ Reference ∷ []) false false ∷
    optional_class JavacardSecurity RsaPublicKeyObject (codes "RSAPublicKeyObject") (Some RsaKeyObject) (RsaPublicKey ∷ PublicKey ∷ Key ∷ []) form.Object (Number ∷ Reference ∷ []) false false ∷
    optional_class JavacardSecurity RsaPrivateKeyObject (codes "RSAPrivateKeyObject") (Some RsaKeyObject) (RsaPrivateKey ∷ PrivateKey ∷ Key ∷ []) form.Object (Number ∷ Reference ∷ []) false false ∷
    optional_class JavacardSecurity RsaPrivateCrtKeyObject (codes "RSAPrivateCrtKeyObject") (Some KeyObject) (RsaPrivateCrtKey ∷ PrivateKey ∷ Key ∷ []) form.Object (Number ∷ Reference ∷ []) false false ∷
    optional_class JavacardSecurity EcKeyObject (codes "ECKeyObject") (Some KeyObject) (EcKey ∷ Key ∷ []) form.Object (Number ∷ Reference ∷ []) false false ∷
    optional_class JavacardSecurity EcPublicKeyObject (codes "ECPublicKeyObject") (Some EcKeyObject) (EcPublicKey ∷ PublicKey ∷ Key ∷ EcKey ∷ []) form.Object (Number ∷ Reference ∷ []) false false ∷
    optional_class JavacardSecurity EcPrivateKeyObject (codes "ECPrivateKeyObject") (Some EcKeyObject) (EcPrivateKey ∷ PrivateKey ∷ Key ∷ EcKey ∷ []) form.Object (Number ∷ Reference ∷ []) false false ∷
    optional_class JavacardxCrypto Cipher (codes "Cipher") (Some Object) [] form.Object (Number ∷ Reference ∷ Reference ∷ Number ∷ Number ∷ Number ∷ Number ∷ Number ∷ Number ∷ Number ∷ Number ∷ Number ∷ []) false false ∷
    []

-- the methods of java.lang
unfoldable pub objects_rows : List MethodEntry
objects_rows =
    method_entry Object kind.Static (Objects ObjectInit) (codes "<init>") [] answer.Void Kept ∷
    method_entry Object kind.Virtual (Objects ObjectEquals) (codes "equals") (Anything ∷ []) answer.Boolean Kept ∷
    method_entry Throwable kind.Static (Objects ThrowableInit) (codes "<init>") [] answer.Void Kept ∷
    method_entry Exception kind.Static (Objects ExceptionInit) (codes "<init>") [] answer.Void Kept ∷
    method_entry RuntimeException kind.Static (Objects RuntimeExceptionInit) (codes "<init>") [] answer.Void Kept ∷
    method_entry IndexOutOfBoundsException kind.Static (Objects IndexOutOfBoundsExceptionInit) (codes "<init>") [] answer.Void Kept ∷
    method_entry ArithmeticException kind.Static (Objects ArithmeticExceptionInit) (codes "<init>") [] answer.Void Kept ∷
    method_entry ArrayIndexOutOfBoundsException kind.Static (Objects ArrayIndexOutOfBoundsExceptionInit) (codes "<init>") [] answer.Void Kept ∷
    method_entry ArrayStoreException kind.Static (Objects ArrayStoreExceptionInit) (codes "<init>") [] answer.Void Kept ∷
    method_entry ClassCastException kind.Static (Objects ClassCastExceptionInit) (codes "<init>") [] answer.Void Kept ∷
    method_entry NegativeArraySizeException kind.Static (Objects NegativeArraySizeExceptionInit) (codes "<init>") [] answer.Void Kept ∷
    method_entry NullPointerException kind.Static (Objects NullPointerExceptionInit) (codes "<init>") [] answer.Void Kept ∷
    method_entry SecurityException kind.Static (Objects SecurityExceptionInit) (codes "<init>") [] answer.Void Kept ∷
    []

-- the methods of an exception of the card
unfoldable pub exceptions_rows : List MethodEntry
exceptions_rows =
    method_entry CardException kind.Static (Exceptions CardExceptionInit) (codes "<init>") (Short ∷ []) answer.Void Changed ∷
    method_entry CardException kind.Static (Exceptions CardExceptionThrowIt) (codes "throwIt") (Short ∷ []) answer.Void Absent ∷
    method_entry CardException kind.Virtual (Exceptions CardExceptionGetReason) (codes "getReason") [] answer.Short Kept ∷
    method_entry CardException kind.Virtual (Exceptions CardExceptionSetReason) (codes "setReason") (Short ∷ []) answer.Void Changed ∷
    method_entry CardRuntimeException kind.Static (Exceptions CardRuntimeExceptionInit) (codes "<init>") (Short ∷ []) answer.Void Changed ∷
    method_entry CardRuntimeException kind.Static (Exceptions CardRuntimeExceptionThrowIt) (codes "throwIt") (Short ∷ []) answer.Void Absent ∷
    method_entry CardRuntimeException kind.Virtual (Exceptions CardRuntimeExceptionGetReason) (codes "getReason") [] answer.Short Kept ∷
    method_entry CardRuntimeException kind.Virtual (Exceptions CardRuntimeExceptionSetReason) (codes "setReason") (Short ∷ []) answer.Void Changed ∷
    method_entry IsoException kind.Static (Exceptions IsoExceptionInit) (codes "<init>") (Short ∷ []) answer.Void Changed ∷
    method_entry IsoException kind.Static (Exceptions IsoExceptionThrowIt) (codes "throwIt") (Short ∷ []) answer.Void Absent ∷
    method_entry PinException kind.Static (Exceptions PinExceptionInit) (codes "<init>") (Short ∷ []) answer.Void Changed ∷
    method_entry PinException kind.Static (Exceptions PinExceptionThrowIt) (codes "throwIt") (Short ∷ []) answer.Void Absent ∷
    method_entry SystemException kind.Static (Exceptions SystemExceptionInit) (codes "<init>") (Short ∷ []) answer.Void Changed ∷
    method_entry SystemException kind.Static (Exceptions SystemExceptionThrowIt) (codes "throwIt") (Short ∷ []) answer.Void Absent ∷
    method_entry TransactionException kind.Static (Exceptions TransactionExceptionInit) (codes "<init>") (Short ∷ []) answer.Void Changed ∷
    method_entry TransactionException kind.Static (Exceptions TransactionExceptionThrowIt) (codes "throwIt") (Short ∷ []) answer.Void Absent ∷
    method_entry ApduException kind.Static (Exceptions ApduExceptionInit) (codes "<init>") (Short ∷ []) answer.Void Changed ∷
    method_entry ApduException kind.Static (Exceptions ApduExceptionThrowIt) (codes "throwIt") (Short ∷ []) answer.Void Absent ∷
    method_entry UserException kind.Static (Exceptions UserExceptionInit) (codes "<init>") (Short ∷ []) answer.Void Changed ∷
    method_entry UserException kind.Static (Exceptions UserExceptionThrowIt) (codes "throwIt") (Short ∷ []) answer.Void Absent ∷
    optional_method UserException kind.Static (Exceptions UserExceptionInitWithoutReason) (codes "<init>WithoutReason") [] answer.Void Changed ∷
    optional_method CryptoException kind.Static (Exceptions CryptoExceptionInit) (codes "<init>") (Short ∷ []) answer.Void Changed ∷
    optional_method CryptoException kind.Static (Exceptions CryptoExceptionThrowIt) (codes "throwIt") (Short ∷ []) answer.Void Absent ∷
    []

-- the methods of Util
unfoldable pub utilities_rows : List MethodEntry
utilities_rows =
    method_entry Util kind.Static (Utilities UtilArrayCompare) (codes "arrayCompare") (Bytes ∷ Short ∷ Bytes ∷ Short ∷ Short ∷ []) answer.Byte Absent ∷
    method_entry Util kind.Static (Utilities UtilArrayCopy) (codes "arrayCopy") (Bytes ∷ Short ∷ Bytes ∷ Short ∷ Short ∷ []) answer.Short Absent ∷
    method_entry Util kind.Static (Utilities UtilGetShort) (codes "getShort") (Bytes ∷ Short ∷ []) answer.Short Absent ∷
    method_entry Util kind.Static (Utilities UtilMakeShort) (codes "makeShort") (Byte ∷ Byte ∷ []) answer.Short Absent ∷
    method_entry Util kind.Static (Utilities UtilSetShort) (codes "setShort") (Bytes ∷ Short ∷ Short ∷ []) answer.Short Absent ∷
    optional_method Util kind.Static (Utilities UtilArrayFill) (codes "arrayFill") (Bytes ∷ Short ∷ Short ∷ Byte ∷ []) answer.Short Absent ∷
    optional_method Util kind.Static (Utilities UtilArrayCopyNonAtomic) (codes "arrayCopyNonAtomic") (Bytes ∷ Short ∷ Bytes ∷ Short ∷ Short ∷ []) answer.Short Absent ∷
    optional_method Util kind.Static (Utilities UtilArrayFillNonAtomic) (codes "arrayFillNonAtomic") (Bytes ∷ Short ∷ Short ∷ Byte ∷ []) answer.Short Absent ∷
    []

-- the methods of JCSystem
unfoldable pub system_rows : List MethodEntry
system_rows =
    method_entry JcSystem kind.Static (System JcSystemAbortTransaction) (codes "abortTransaction") [] answer.Void Absent ∷
    method_entry JcSystem kind.Static (System JcSystemBeginTransaction) (codes "beginTransaction") [] answer.Void Absent ∷
    method_entry JcSystem kind.Static (System JcSystemCommitTransaction) (codes "commitTransaction") [] answer.Void Absent ∷
    method_entry JcSystem kind.Static (System JcSystemGetAid) (codes "getAID") [] answer.Reference Absent ∷
    method_entry JcSystem kind.Static (System JcSystemGetAppletShareableInterfaceObject) (codes "getAppletShareableInterfaceObject") (Instance Aid ∷ Byte ∷ []) answer.Reference Absent ∷
    method_entry JcSystem kind.Static (System JcSystemGetMaxCommitCapacity) (codes "getMaxCommitCapacity") [] answer.Short Absent ∷
    method_entry JcSystem kind.Static (System JcSystemGetPreviousContextAid) (codes "getPreviousContextAID") [] answer.Reference Absent ∷
    method_entry JcSystem kind.Static (System JcSystemGetTransactionDepth) (codes "getTransactionDepth") [] answer.Byte Absent ∷
    method_entry JcSystem kind.Static (System JcSystemGetUnusedCommitCapacity) (codes "getUnusedCommitCapacity") [] answer.Short Absent ∷
    method_entry JcSystem kind.Static (System JcSystemIsTransient) (codes "isTransient") (Anything ∷ []) answer.Byte Absent ∷
    method_entry JcSystem kind.Static (System JcSystemLookupAid) (codes "lookupAID") (Bytes ∷ Short ∷ Byte ∷ []) answer.Reference Absent ∷
    method_entry JcSystem kind.Static (System JcSystemMakeTransientBooleanArray) (codes "makeTransientBooleanArray") (Short ∷ Byte ∷ []) answer.Reference Absent ∷
    method_entry JcSystem kind.Static (System JcSystemMakeTransientByteArray) (codes "makeTransientByteArray") (Short ∷ Byte ∷ []) answer.Reference Absent ∷
    method_entry JcSystem kind.Static (System JcSystemMakeTransientObjectArray) (codes "makeTransientObjectArray") (Short ∷ Byte ∷ []) answer.Reference Absent ∷
    method_entry JcSystem kind.Static (System JcSystemMakeTransientShortArray) (codes "makeTransientShortArray") (Short ∷ Byte ∷ []) answer.Reference Absent ∷
    optional_method JcSystem kind.Static (System JcSystemGetVersion) (codes "getVersion") [] answer.Short Absent ∷
    optional_method JcSystem kind.Static (System JcSystemGetAvailableMemory) (codes "getAvailableMemory") (Byte ∷ []) answer.Short Absent ∷
    optional_method JcSystem kind.Static (System JcSystemGetAvailableMemoryShorts) (codes "getAvailableMemoryShorts") (Shorts ∷ Short ∷ Byte ∷ []) answer.Void Absent ∷
    optional_method JcSystem kind.Static (System JcSystemRequestObjectDeletion) (codes "requestObjectDeletion") [] answer.Void Absent ∷
    optional_method JcSystem kind.Static (System JcSystemIsObjectDeletionSupported) (codes "isObjectDeletionSupported") [] answer.Boolean Absent ∷
    optional_method JcSystem kind.Static (System JcSystemIsAppletActive) (codes "isAppletActive") (Instance Aid ∷ []) answer.Boolean Absent ∷
    optional_method JcSystem kind.Static (System JcSystemGetAssignedChannel) (codes "getAssignedChannel") [] answer.Byte Absent ∷
    []

-- the methods of AID
unfoldable pub aids_rows : List MethodEntry
aids_rows =
    method_entry Aid kind.Static (Aids AidInit) (codes "<init>") (Bytes ∷ Short ∷ Byte ∷ []) answer.Void Changed ∷
    method_entry Aid kind.Virtual (Aids AidEquals) (codes "equals") (Anything ∷ []) answer.Boolean Kept ∷
    method_entry Aid kind.Virtual (Aids AidEqualsBytes) (codes "equalsBytes") (Bytes ∷ Short ∷ Byte ∷ []) answer.Boolean Kept ∷
    method_entry Aid kind.Virtual (Aids AidGetBytes) (codes "getBytes") (Bytes ∷ Short ∷ []) answer.Byte Kept ∷
    optional_method Aid kind.Virtual (Aids AidRidEquals) (codes "RIDEquals") (Instance Aid ∷ []) answer.Boolean Kept ∷
    optional_method Aid kind.Virtual (Aids AidPartialEquals) (codes "partialEquals") (Bytes ∷ Short ∷ Byte ∷ []) answer.Boolean Kept ∷
    optional_method Aid kind.Virtual (Aids AidGetPartialBytes) (codes "getPartialBytes") (Short ∷ Bytes ∷ Short ∷ Byte ∷ []) answer.Byte Kept ∷
    []

-- the methods of PIN and OwnerPIN
unfoldable pub pins_rows : List MethodEntry
pins_rows =
    implemented_method Pin kind.Interface (Pins PinCheck) (codes "check") (Bytes ∷ Short ∷ Byte ∷ []) answer.Boolean Kept (Pins OwnerPinCheck) ∷
    implemented_method Pin kind.Interface (Pins PinGetTriesRemaining) (codes "getTriesRemaining") [] answer.Byte Kept (Pins OwnerPinGetTriesRemaining) ∷
    implemented_method Pin kind.Interface (Pins PinIsValidated) (codes "isValidated") [] answer.Boolean Kept (Pins OwnerPinIsValidated) ∷
    implemented_method Pin kind.Interface (Pins PinReset) (codes "reset") [] answer.Void Kept (Pins OwnerPinReset) ∷
    method_entry OwnerPin kind.Static (Pins OwnerPinInit) (codes "<init>") (Byte ∷ Byte ∷ []) answer.Void Changed ∷
    method_entry OwnerPin kind.Virtual (Pins OwnerPinCheck) (codes "check") (Bytes ∷ Short ∷ Byte ∷ []) answer.Boolean Changed ∷
    method_entry OwnerPin kind.Virtual (Pins OwnerPinGetTriesRemaining) (codes "getTriesRemaining") [] answer.Byte Kept ∷
    method_entry OwnerPin kind.Virtual (Pins OwnerPinIsValidated) (codes "isValidated") [] answer.Boolean Kept ∷
    method_entry OwnerPin kind.Virtual (Pins OwnerPinReset) (codes "reset") [] answer.Void Changed ∷
    method_entry OwnerPin kind.Virtual (Pins OwnerPinResetAndUnblock) (codes "resetAndUnblock") [] answer.Void Changed ∷
    method_entry OwnerPin kind.Virtual (Pins OwnerPinUpdate) (codes "update") (Bytes ∷ Short ∷ Byte ∷ []) answer.Void Changed ∷
    optional_method OwnerPin kind.Virtual (Pins OwnerPinGetValidatedFlag) (codes "getValidatedFlag") [] answer.Boolean Kept ∷
    optional_method OwnerPin kind.Virtual (Pins OwnerPinSetValidatedFlag) (codes "setValidatedFlag") (Boolean ∷ []) answer.Void Changed ∷
    []

-- the methods of Applet
unfoldable pub applets_rows : List MethodEntry
applets_rows =
    method_entry Applet kind.Static (Applets AppletInit) (codes "<init>") [] answer.Void Kept ∷
    method_entry Applet kind.Virtual (Applets AppletDeselect) (codes "deselect") [] answer.Void Kept ∷
    method_entry Applet kind.Virtual (Applets AppletGetShareableInterfaceObject) (codes "getShareableInterfaceObject") (Instance Aid ∷ Byte ∷ []) answer.Reference Kept ∷
    method_entry Applet kind.Virtual (Applets AppletRegister) (codes "register") [] answer.Void Registered ∷
    method_entry Applet kind.Virtual (Applets AppletRegisterBytes) (codes "registerBytes") (Bytes ∷ Short ∷ Byte ∷ []) answer.Void Registered ∷
    method_entry Applet kind.Virtual (Applets AppletSelect) (codes "select") [] answer.Boolean Kept ∷
    method_entry Applet kind.Virtual (Applets AppletSelectingApplet) (codes "selectingApplet") [] answer.Boolean Kept ∷
    method_entry Applet kind.Virtual (Applets AppletProcess) (codes "process") (Instance Apdu ∷ []) answer.Void Kept ∷
    optional_method Applet kind.Virtual (Applets AppletReSelectingApplet) (codes "reSelectingApplet") [] answer.Boolean Kept ∷
    []

-- the methods of APDU
unfoldable pub apdus_rows : List MethodEntry
apdus_rows =
    method_entry Apdu kind.Virtual (Apdus ApduGetBuffer) (codes "getBuffer") [] answer.Reference Kept ∷
    method_entry Apdu kind.Virtual (Apdus ApduReceiveBytes) (codes "receiveBytes") (Short ∷ []) answer.Short Kept ∷
    method_entry Apdu kind.Virtual (Apdus ApduSendBytes) (codes "sendBytes") (Short ∷ Short ∷ []) answer.Void Kept ∷
    method_entry Apdu kind.Virtual (Apdus ApduSetIncomingAndReceive) (codes "setIncomingAndReceive") [] answer.Short Kept ∷
    method_entry Apdu kind.Virtual (Apdus ApduSetOutgoing) (codes "setOutgoing") [] answer.Short Kept ∷
    method_entry Apdu kind.Virtual (Apdus ApduSetOutgoingAndSend) (codes "setOutgoingAndSend") (Short ∷ Short ∷ []) answer.Void Kept ∷
    method_entry Apdu kind.Virtual (Apdus ApduSetOutgoingLength) (codes "setOutgoingLength") (Short ∷ []) answer.Void Kept ∷
    optional_method Apdu kind.Virtual (Apdus ApduGetIncomingLength) (codes "getIncomingLength") [] answer.Short Kept ∷
    optional_method Apdu kind.Virtual (Apdus ApduGetOffsetCdata) (codes "getOffsetCdata") [] answer.Short Kept ∷
    optional_method Apdu kind.Virtual (Apdus ApduSendBytesLong) (codes "sendBytesLong") (Bytes ∷ Short ∷ Short ∷ []) answer.Void Kept ∷
    optional_method Apdu kind.Virtual (Apdus ApduGetCurrentState) (codes "getCurrentState") [] answer.Byte Kept ∷
    optional_method Apdu kind.Static (Apdus ApduGetProtocol) (codes "getProtocol") [] answer.Byte Absent ∷
    optional_method Apdu kind.Virtual (Apdus ApduGetNad) (codes "getNAD") [] answer.Byte Kept ∷
    optional_method Apdu kind.Static (Apdus ApduGetClaChannel) (codes "getCLAChannel") [] answer.Byte Absent ∷
    optional_method Apdu kind.Static (Apdus ApduGetInBlockSize) (codes "getInBlockSize") [] answer.Short Absent ∷
    optional_method Apdu kind.Static (Apdus ApduGetOutBlockSize) (codes "getOutBlockSize") [] answer.Short Absent ∷
    optional_method Apdu kind.Virtual (Apdus ApduIsIsoInterindustryCla) (codes "isISOInterindustryCLA") [] answer.Boolean Kept ∷
    optional_method Apdu kind.Virtual (Apdus ApduIsCommandChainingCla) (codes "isCommandChainingCLA") [] answer.Boolean Kept ∷
    optional_method Apdu kind.Virtual (Apdus ApduIsSecureMessagingCla) (codes "isSecureMessagingCLA") [] answer.Boolean Kept ∷
    optional_method Apdu kind.Virtual (Apdus ApduIsValidCla) (codes "isValidCLA") [] answer.Boolean Kept ∷
    optional_method Apdu kind.Virtual (Apdus ApduSetOutgoingNoChaining) (codes "setOutgoingNoChaining") [] answer.Short Kept ∷
    optional_method Apdu kind.Static (Apdus ApduWaitExtension) (codes "waitExtension") [] answer.Void Absent ∷
    optional_method Apdu kind.Static (Apdus ApduGetCurrentApdu) (codes "getCurrentAPDU") [] answer.Reference Absent ∷
    optional_method Apdu kind.Static (Apdus ApduGetCurrentApduBuffer) (codes "getCurrentAPDUBuffer") [] answer.Reference Absent ∷
    []

-- the methods of MultiSelectable and AppletEvent
unfoldable pub events_rows : List MethodEntry
events_rows =
    optional_method MultiSelectable kind.Interface (Events MultiSelectableSelect) (codes "select") (Boolean ∷ []) answer.Boolean Kept ∷
    optional_method MultiSelectable kind.Interface (Events MultiSelectableDeselect) (codes "deselect") (Boolean ∷ []) answer.Void Kept ∷
    optional_method AppletEvent kind.Interface (Events AppletEventUninstall) (codes "uninstall") [] answer.Void Kept ∷
    []

-- the methods of MessageDigest, Checksum, RandomData and InitializedMessageDigest
unfoldable pub engines_rows : List MethodEntry
engines_rows =
    optional_method MessageDigest kind.Static (Engines MessageDigestGetInstance) (codes "getInstance") (Byte ∷ Boolean ∷ []) answer.Reference Absent ∷
    optional_method MessageDigest kind.Virtual (Engines MessageDigestGetAlgorithm) (codes "getAlgorithm") [] answer.Byte Kept ∷
    optional_method MessageDigest kind.Virtual (Engines MessageDigestGetLength) (codes "getLength") [] answer.Byte Kept ∷
    optional_method MessageDigest kind.Virtual (Engines MessageDigestUpdate) (codes "update") (Bytes ∷ Short ∷ Short ∷ []) answer.Void Kept ∷
    optional_method MessageDigest kind.Virtual (Engines MessageDigestDoFinal) (codes "doFinal") (Bytes ∷ Short ∷ Short ∷ Bytes ∷ Short ∷ []) answer.Short Kept ∷
    optional_method MessageDigest kind.Virtual (Engines MessageDigestReset) (codes "reset") [] answer.Void Kept ∷
    optional_method MessageDigest kind.Static (Engines MessageDigestGetInitializedMessageDigestInstance) (codes "getInitializedMessageDigestInstance") (Byte ∷ Boolean ∷ []) answer.Reference Absent ∷
    optional_method Checksum kind.Static (Engines ChecksumGetInstance) (codes "getInstance") (Byte ∷ Boolean ∷ []) answer.Reference Absent ∷
    optional_method Checksum kind.Virtual (Engines ChecksumGetAlgorithm) (codes "getAlgorithm") [] answer.Byte Kept ∷
    optional_method Checksum kind.Virtual (Engines ChecksumInit) (codes "init") (Bytes ∷ Short ∷ Short ∷ []) answer.Void Kept ∷
    optional_method Checksum kind.Virtual (Engines ChecksumUpdate) (codes "update") (Bytes ∷ Short ∷ Short ∷ []) answer.Void Kept ∷
    optional_method Checksum kind.Virtual (Engines ChecksumDoFinal) (codes "doFinal") (Bytes ∷ Short ∷ Short ∷ Bytes ∷ Short ∷ []) answer.Short Kept ∷
    optional_method RandomData kind.Static (Engines RandomDataGetInstance) (codes "getInstance") (Byte ∷ []) answer.Reference Absent ∷
    optional_method RandomData kind.Virtual (Engines RandomDataGenerateData) (codes "generateData") (Bytes ∷ Short ∷ Short ∷ []) answer.Void Kept ∷
    optional_method RandomData kind.Virtual (Engines RandomDataNextBytes) (codes "nextBytes") (Bytes ∷ Short ∷ Short ∷ []) answer.Short Kept ∷
    optional_method RandomData kind.Virtual (Engines RandomDataSetSeed) (codes "setSeed") (Bytes ∷ Short ∷ Short ∷ []) answer.Void Kept ∷
    optional_method RandomData kind.Virtual (Engines RandomDataGetAlgorithm) (codes "getAlgorithm") [] answer.Byte Kept ∷
    optional_method InitializedMessageDigest kind.Virtual (Engines InitializedMessageDigestSetInitialDigest) (codes "setInitialDigest") (Bytes ∷ Short ∷ Short ∷ Bytes ∷ Short ∷ Short ∷ []) answer.Void Kept ∷
    []

-- the methods of KeyBuilder and the classes of keys
unfoldable pub keys_rows : List MethodEntry
keys_rows =
    optional_method KeyBuilder kind.Static (Keys KeyBuilderBuildKey) (codes "buildKey") (Byte ∷ Short ∷ Boolean ∷ []) answer.Reference Absent ∷
    optional_method KeyObject kind.Virtual (Keys KeyObjectClearKey) (codes "clearKey") [] answer.Void Kept ∷
    optional_method KeyObject kind.Virtual (Keys KeyObjectGetSize) (codes "getSize") [] answer.Short Kept ∷
    optional_method KeyObject kind.Virtual (Keys KeyObjectGetType) (codes "getType") [] answer.Byte Kept ∷
    optional_method KeyObject kind.Virtual (Keys KeyObjectIsInitialized) (codes "isInitialized") [] answer.Boolean Kept ∷
    optional_method KeyObject kind.Virtual (Keys KeyObjectGetKey) (codes "getKey") (Bytes ∷ Short ∷ []) answer.Byte Kept ∷
    optional_method KeyObject kind.Virtual (Keys KeyObjectSetKey) (codes "setKey") (Bytes ∷ Short ∷ []) answer.Void Kept ∷
    optional_method HmacKeyObject kind.Virtual (Keys HmacKeyObjectSetKey) (codes "setKey") (Bytes ∷ Short ∷ Short ∷ []) answer.Void Kept ∷
    []

-- the methods of the interfaces of keys
unfoldable pub key_interfaces_rows : List MethodEntry
key_interfaces_rows =
    optional_implemented_method Key kind.Interface (KeyInterfaces KeyClearKey) (codes "clearKey") [] answer.Void Kept (Keys KeyObjectClearKey) ∷
    optional_implemented_method Key kind.Interface (KeyInterfaces KeyGetSize) (codes "getSize") [] answer.Short Kept (Keys KeyObjectGetSize) ∷
    optional_implemented_method Key kind.Interface (KeyInterfaces KeyGetType) (codes "getType") [] answer.Byte Kept (Keys KeyObjectGetType) ∷
    optional_implemented_method Key kind.Interface (KeyInterfaces KeyIsInitialized) (codes "isInitialized") [] answer.Boolean Kept (Keys KeyObjectIsInitialized) ∷
    optional_implemented_method SecretKey kind.Interface (KeyInterfaces SecretKeyClearKey) (codes "clearKey") [] answer.Void Kept (Keys KeyObjectClearKey) ∷
    optional_implemented_method SecretKey kind.Interface (KeyInterfaces SecretKeyGetSize) (codes "getSize") [] answer.Short Kept (Keys KeyObjectGetSize) ∷
    optional_implemented_method SecretKey kind.Interface (KeyInterfaces SecretKeyGetType) (codes "getType") [] answer.Byte Kept (Keys KeyObjectGetType) ∷
    optional_implemented_method SecretKey kind.Interface (KeyInterfaces SecretKeyIsInitialized) (codes "isInitialized") [] answer.Boolean Kept (Keys KeyObjectIsInitialized) ∷
    optional_implemented_method DesKey kind.Interface (KeyInterfaces DesKeyClearKey) (codes "clearKey") [] answer.Void Kept (Keys KeyObjectClearKey) ∷
    optional_implemented_method DesKey kind.Interface (KeyInterfaces DesKeyGetSize) (codes "getSize") [] answer.Short Kept (Keys KeyObjectGetSize) ∷
    optional_implemented_method DesKey kind.Interface (KeyInterfaces DesKeyGetType) (codes "getType") [] answer.Byte Kept (Keys KeyObjectGetType) ∷
    optional_implemented_method DesKey kind.Interface (KeyInterfaces DesKeyIsInitialized) (codes "isInitialized") [] answer.Boolean Kept (Keys KeyObjectIsInitialized) ∷
    optional_implemented_method DesKey kind.Interface (KeyInterfaces DesKeyGetKey) (codes "getKey") (Bytes ∷ Short ∷ []) answer.Byte Kept (Keys KeyObjectGetKey) ∷
    optional_implemented_method DesKey kind.Interface (KeyInterfaces DesKeySetKey) (codes "setKey") (Bytes ∷ Short ∷ []) answer.Void Kept (Keys KeyObjectSetKey) ∷
    optional_implemented_method AesKey kind.Interface (KeyInterfaces AesKeyClearKey) (codes "clearKey") [] answer.Void Kept (Keys KeyObjectClearKey) ∷
    optional_implemented_method AesKey kind.Interface (KeyInterfaces AesKeyGetSize) (codes "getSize") [] answer.Short Kept (Keys KeyObjectGetSize) ∷
    optional_implemented_method AesKey kind.Interface (KeyInterfaces AesKeyGetType) (codes "getType") [] answer.Byte Kept (Keys KeyObjectGetType) ∷
    optional_implemented_method AesKey kind.Interface (KeyInterfaces AesKeyIsInitialized) (codes "isInitialized") [] answer.Boolean Kept (Keys KeyObjectIsInitialized) ∷
    optional_implemented_method AesKey kind.Interface (KeyInterfaces AesKeyGetKey) (codes "getKey") (Bytes ∷ Short ∷ []) answer.Byte Kept (Keys KeyObjectGetKey) ∷
    optional_implemented_method AesKey kind.Interface (KeyInterfaces AesKeySetKey) (codes "setKey") (Bytes ∷ Short ∷ []) answer.Void Kept (Keys KeyObjectSetKey) ∷
    optional_implemented_method HmacKey kind.Interface (KeyInterfaces HmacKeyClearKey) (codes "clearKey") [] answer.Void Kept (Keys KeyObjectClearKey) ∷
    optional_implemented_method HmacKey kind.Interface (KeyInterfaces HmacKeyGetSize) (codes "getSize") [] answer.Short Kept (Keys KeyObjectGetSize) ∷
    optional_implemented_method HmacKey kind.Interface (KeyInterfaces HmacKeyGetType) (codes "getType") [] answer.Byte Kept (Keys KeyObjectGetType) ∷
    optional_implemented_method HmacKey kind.Interface (KeyInterfaces HmacKeyIsInitialized) (codes "isInitialized") [] answer.Boolean Kept (Keys KeyObjectIsInitialized) ∷
    optional_implemented_method HmacKey kind.Interface (KeyInterfaces HmacKeyGetKey) (codes "getKey") (Bytes ∷ Short ∷ []) answer.Byte Kept (Keys KeyObjectGetKey) ∷
    optional_implemented_method HmacKey kind.Interface (KeyInterfaces HmacKeySetKey) (codes "setKey") (Bytes ∷ Short ∷ Short ∷ []) answer.Void Kept (Keys HmacKeyObjectSetKey) ∷
    []

-- the methods of Cipher and Signature
unfoldable pub ciphers_rows : List MethodEntry
ciphers_rows =
    optional_method Cipher kind.Static (Ciphers CipherGetInstance) (codes "getInstance") (Byte ∷ Boolean ∷ []) answer.Reference Absent ∷
    optional_method Cipher kind.Static (Ciphers CipherGetInstanceOfCipherAndPadding) (codes "getInstanceOfCipherAndPadding") (Byte ∷ Byte ∷ Boolean ∷ []) answer.Reference Absent ∷
    optional_method Cipher kind.Virtual (Ciphers CipherInit) (codes "init") (Anything ∷ Byte ∷ []) answer.Void Changed ∷
    optional_method Cipher kind.Virtual (Ciphers CipherInitWithVector) (codes "initWithVector") (Anything ∷ Byte ∷ Bytes ∷ Short ∷ Short ∷ []) answer.Void Changed ∷
    optional_method Cipher kind.Virtual (Ciphers CipherUpdate) (codes "update") (Bytes ∷ Short ∷ Short ∷ Bytes ∷ Short ∷ []) answer.Short Kept ∷
    optional_method Cipher kind.Virtual (Ciphers CipherDoFinal) (codes "doFinal") (Bytes ∷ Short ∷ Short ∷ Bytes ∷ Short ∷ []) answer.Short Kept ∷
    optional_method Cipher kind.Virtual (Ciphers CipherGetAlgorithm) (codes "getAlgorithm") [] answer.Byte Kept ∷
    optional_method Cipher kind.Virtual (Ciphers CipherGetCipherAlgorithm) (codes "getCipherAlgorithm") [] answer.Byte Kept ∷
    optional_method Cipher kind.Virtual (Ciphers CipherGetPaddingAlgorithm) (codes "getPaddingAlgorithm") [] answer.Byte Kept ∷
    optional_method Signature kind.Static (Ciphers SignatureGetInstance) (codes "getInstance") (Byte ∷ Boolean ∷ []) answer.Reference Absent ∷
    optional_method Signature kind.Static (Ciphers SignatureGetInstanceOfDigestCipherAndPadding) (codes "getInstanceOfDigestCipherAndPadding") (Byte ∷ Byte ∷ Byte ∷ Boolean ∷ []) answer.Reference Absent ∷
    optional_method Signature kind.Virtual (Ciphers SignatureInit) (codes "init") (Anything ∷ Byte ∷ []) answer.Void Changed ∷
    optional_method Signature kind.Virtual (Ciphers SignatureInitWithVector) (codes "initWithVector") (Anything ∷ Byte ∷ Bytes ∷ Short ∷ Short ∷ []) answer.Void Changed ∷
    optional_method Signature kind.Virtual (Ciphers SignatureUpdate) (codes "update") (Bytes ∷ Short ∷ Short ∷ []) answer.Void Kept ∷
    optional_method Signature kind.Virtual (Ciphers SignatureSign) (codes "sign") (Bytes ∷ Short ∷ Short ∷ Bytes ∷ Short ∷ []) answer.Short Kept ∷
    optional_method Signature kind.Virtual (Ciphers SignatureVerify) (codes "verify") (Bytes ∷ Short ∷ Short ∷ Bytes ∷ Short ∷ Short ∷ []) answer.Boolean Kept ∷
    optional_method Signature kind.Virtual (Ciphers SignatureGetAlgorithm) (codes "getAlgorithm") [] answer.Byte Kept ∷
    optional_method Signature kind.Virtual (Ciphers SignatureGetMessageDigestAlgorithm) (codes "getMessageDigestAlgorithm") [] answer.Byte Kept ∷
    optional_method Signature kind.Virtual (Ciphers SignatureGetCipherAlgorithm) (codes "getCipherAlgorithm") [] answer.Byte Kept ∷
    optional_method Signature kind.Virtual (Ciphers SignatureGetPaddingAlgorithm) (codes "getPaddingAlgorithm") [] answer.Byte Kept ∷
    optional_method Signature kind.Virtual (Ciphers SignatureGetLength) (codes "getLength") [] answer.Short Kept ∷
    []

-- the methods of the classes of RSA keys
unfoldable pub rsa_keys_rows : List MethodEntry
rsa_keys_rows =
    optional_method RsaKeyObject kind.Virtual (RsaKeys RsaKeyObjectSetModulus) (codes "setModulus") (Bytes ∷ Short ∷ Short ∷ []) answer.Void Kept ∷
    optional_method RsaKeyObject kind.Virtual (RsaKeys RsaKeyObjectSetExponent) (codes "setExponent") (Bytes ∷ Short ∷ Short ∷ []) answer.Void Kept ∷
    optional_method RsaKeyObject kind.Virtual (RsaKeys RsaKeyObjectGetModulus) (codes "getModulus") (Bytes ∷ Short ∷ []) answer.Short Kept ∷
    optional_method RsaKeyObject kind.Virtual (RsaKeys RsaKeyObjectGetExponent) (codes "getExponent") (Bytes ∷ Short ∷ []) answer.Short Kept ∷
    optional_method RsaPrivateCrtKeyObject kind.Virtual (RsaKeys RsaPrivateCrtKeyObjectSetP) (codes "setP") (Bytes ∷ Short ∷ Short ∷ []) answer.Void Kept ∷
    optional_method RsaPrivateCrtKeyObject kind.Virtual (RsaKeys RsaPrivateCrtKeyObjectSetQ) (codes "setQ") (Bytes ∷ Short ∷ Short ∷ []) answer.Void Kept ∷
    optional_method RsaPrivateCrtKeyObject kind.Virtual (RsaKeys RsaPrivateCrtKeyObjectSetDp1) (codes "setDP1") (Bytes ∷ Short ∷ Short ∷ []) answer.Void Kept ∷
    optional_method RsaPrivateCrtKeyObject kind.Virtual (RsaKeys RsaPrivateCrtKeyObjectSetDq1) (codes "setDQ1") (Bytes ∷ Short ∷ Short ∷ []) answer.Void Kept ∷
    optional_method RsaPrivateCrtKeyObject kind.Virtual (RsaKeys RsaPrivateCrtKeyObjectSetPq) (codes "setPQ") (Bytes ∷ Short ∷ Short ∷ []) answer.Void Kept ∷
    optional_method RsaPrivateCrtKeyObject kind.Virtual (RsaKeys RsaPrivateCrtKeyObjectGetP) (codes "getP") (Bytes ∷ Short ∷ []) answer.Short Kept ∷
    optional_method RsaPrivateCrtKeyObject kind.Virtual (RsaKeys RsaPrivateCrtKeyObjectGetQ) (codes "getQ") (Bytes ∷ Short ∷ []) answer.Short Kept ∷
    optional_method RsaPrivateCrtKeyObject kind.Virtual (RsaKeys RsaPrivateCrtKeyObjectGetDp1) (codes "getDP1") (Bytes ∷ Short ∷ []) answer.Short Kept ∷
    optional_method RsaPrivateCrtKeyObject kind.Virtual (RsaKeys RsaPrivateCrtKeyObjectGetDq1) (codes "getDQ1") (Bytes ∷ Short ∷ []) answer.Short Kept ∷
    optional_method RsaPrivateCrtKeyObject kind.Virtual (RsaKeys RsaPrivateCrtKeyObjectGetPq) (codes "getPQ") (Bytes ∷ Short ∷ []) answer.Short Kept ∷
    []

-- the methods of the classes of keys on elliptic curves
unfoldable pub ec_keys_rows : List MethodEntry
ec_keys_rows =
    optional_method EcKeyObject kind.Virtual (EcKeys EcKeyObjectSetFieldFp) (codes "setFieldFP") (Bytes ∷ Short ∷ Short ∷ []) answer.Void Kept ∷
    optional_method EcKeyObject kind.Virtual (EcKeys EcKeyObjectSetFieldF2m) (codes "setFieldF2M") (Short ∷ []) answer.Void Kept ∷
    optional_method EcKeyObject kind.Virtual (EcKeys EcKeyObjectSetFieldF2mOfThree) (codes "setFieldF2MOfThree") (Short ∷ Short ∷ Short ∷ []) answer.Void Kept ∷
    optional_method EcKeyObject kind.Virtual (EcKeys EcKeyObjectSetA) (codes "setA") (Bytes ∷ Short ∷ Short ∷ []) answer.Void Kept ∷
    optional_method EcKeyObject kind.Virtual (EcKeys EcKeyObjectSetB) (codes "setB") (Bytes ∷ Short ∷ Short ∷ []) answer.Void Kept ∷
    optional_method EcKeyObject kind.Virtual (EcKeys EcKeyObjectSetG) (codes "setG") (Bytes ∷ Short ∷ Short ∷ []) answer.Void Kept ∷
    optional_method EcKeyObject kind.Virtual (EcKeys EcKeyObjectSetR) (codes "setR") (Bytes ∷ Short ∷ Short ∷ []) answer.Void Kept ∷
    optional_method EcKeyObject kind.Virtual (EcKeys EcKeyObjectSetK) (codes "setK") (Short ∷ []) answer.Void Kept ∷
    optional_method EcKeyObject kind.Virtual (EcKeys EcKeyObjectGetField) (codes "getField") (Bytes ∷ Short ∷ []) answer.Short Kept ∷
    optional_method EcKeyObject kind.Virtual (EcKeys EcKeyObjectGetA) (codes "getA") (Bytes ∷ Short ∷ []) answer.Short Kept ∷
    optional_method EcKeyObject kind.Virtual (EcKeys EcKeyObjectGetB) (codes "getB") (Bytes ∷ Short ∷ []) answer.Short Kept ∷
    optional_method EcKeyObject kind.Virtual (EcKeys EcKeyObjectGetG) (codes "getG") (Bytes ∷ Short ∷ []) answer.Short Kept ∷
    optional_method EcKeyObject kind.Virtual (EcKeys EcKeyObjectGetR) (codes "getR") (Bytes ∷ Short ∷ []) answer.Short Kept ∷
    optional_method EcKeyObject kind.Virtual (EcKeys EcKeyObjectGetK) (codes "getK") [] answer.Short Kept ∷
    optional_method EcKeyObject kind.Virtual (EcKeys EcKeyObjectCopyDomainParametersFrom) (codes "copyDomainParametersFrom") (Anything ∷ []) answer.Void Kept ∷
    optional_method EcPublicKeyObject kind.Virtual (EcKeys EcPublicKeyObjectSetW) (codes "setW") (Bytes ∷ Short ∷ Short ∷ []) answer.Void Kept ∷
    optional_method EcPublicKeyObject kind.Virtual (EcKeys EcPublicKeyObjectGetW) (codes "getW") (Bytes ∷ Short ∷ []) answer.Short Kept ∷
    optional_method EcPrivateKeyObject kind.Virtual (EcKeys EcPrivateKeyObjectSetS) (codes "setS") (Bytes ∷ Short ∷ Short ∷ []) answer.Void Kept ∷
    optional_method EcPrivateKeyObject kind.Virtual (EcKeys EcPrivateKeyObjectGetS) (codes "getS") (Bytes ∷ Short ∷ []) answer.Short Kept ∷
    []

-- the methods of the interfaces of public keys, of private keys and of RSA keys
unfoldable pub rsa_interfaces_rows : List MethodEntry
rsa_interfaces_rows =
    optional_implemented_method PrivateKey kind.Interface (RsaInterfaces PrivateKeyClearKey) (codes "clearKey") [] answer.Void Kept (Keys KeyObjectClearKey) ∷
    optional_implemented_method PrivateKey kind.Interface (RsaInterfaces PrivateKeyGetSize) (codes "getSize") [] answer.Short Kept (Keys KeyObjectGetSize) ∷
    optional_implemented_method PrivateKey kind.Interface (RsaInterfaces PrivateKeyGetType) (codes "getType") [] answer.Byte Kept (Keys KeyObjectGetType) ∷
    optional_implemented_method PrivateKey kind.Interface (RsaInterfaces PrivateKeyIsInitialized) (codes "isInitialized") [] answer.Boolean Kept (Keys KeyObjectIsInitialized) ∷
    optional_implemented_method PublicKey kind.Interface (RsaInterfaces PublicKeyClearKey) (codes "clearKey") [] answer.Void Kept (Keys KeyObjectClearKey) ∷
    optional_implemented_method PublicKey kind.Interface (RsaInterfaces PublicKeyGetSize) (codes "getSize") [] answer.Short Kept (Keys KeyObjectGetSize) ∷
    optional_implemented_method PublicKey kind.Interface (RsaInterfaces PublicKeyGetType) (codes "getType") [] answer.Byte Kept (Keys KeyObjectGetType) ∷
    optional_implemented_method PublicKey kind.Interface (RsaInterfaces PublicKeyIsInitialized) (codes "isInitialized") [] answer.Boolean Kept (Keys KeyObjectIsInitialized) ∷
    optional_implemented_method RsaPublicKey kind.Interface (RsaInterfaces RsaPublicKeyClearKey) (codes "clearKey") [] answer.Void Kept (Keys KeyObjectClearKey) ∷
    optional_implemented_method RsaPublicKey kind.Interface (RsaInterfaces RsaPublicKeyGetSize) (codes "getSize") [] answer.Short Kept (Keys KeyObjectGetSize) ∷
    optional_implemented_method RsaPublicKey kind.Interface (RsaInterfaces RsaPublicKeyGetType) (codes "getType") [] answer.Byte Kept (Keys KeyObjectGetType) ∷
    optional_implemented_method RsaPublicKey kind.Interface (RsaInterfaces RsaPublicKeyIsInitialized) (codes "isInitialized") [] answer.Boolean Kept (Keys KeyObjectIsInitialized) ∷
    optional_implemented_method RsaPublicKey kind.Interface (RsaInterfaces RsaPublicKeySetModulus) (codes "setModulus") (Bytes ∷ Short ∷ Short ∷ []) answer.Void Kept (RsaKeys RsaKeyObjectSetModulus) ∷
    optional_implemented_method RsaPublicKey kind.Interface (RsaInterfaces RsaPublicKeySetExponent) (codes "setExponent") (Bytes ∷ Short ∷ Short ∷ []) answer.Void Kept (RsaKeys RsaKeyObjectSetExponent) ∷
    optional_implemented_method RsaPublicKey kind.Interface (RsaInterfaces RsaPublicKeyGetModulus) (codes "getModulus") (Bytes ∷ Short ∷ []) answer.Short Kept (RsaKeys RsaKeyObjectGetModulus) ∷
    optional_implemented_method RsaPublicKey kind.Interface (RsaInterfaces RsaPublicKeyGetExponent) (codes "getExponent") (Bytes ∷ Short ∷ []) answer.Short Kept (RsaKeys RsaKeyObjectGetExponent) ∷
    optional_implemented_method RsaPrivateKey kind.Interface (RsaInterfaces RsaPrivateKeyClearKey) (codes "clearKey") [] answer.Void Kept (Keys KeyObjectClearKey) ∷
    optional_implemented_method RsaPrivateKey kind.Interface (RsaInterfaces RsaPrivateKeyGetSize) (codes "getSize") [] answer.Short Kept (Keys KeyObjectGetSize) ∷
    optional_implemented_method RsaPrivateKey kind.Interface (RsaInterfaces RsaPrivateKeyGetType) (codes "getType") [] answer.Byte Kept (Keys KeyObjectGetType) ∷
    optional_implemented_method RsaPrivateKey kind.Interface (RsaInterfaces RsaPrivateKeyIsInitialized) (codes "isInitialized") [] answer.Boolean Kept (Keys KeyObjectIsInitialized) ∷
    optional_implemented_method RsaPrivateKey kind.Interface (RsaInterfaces RsaPrivateKeySetModulus) (codes "setModulus") (Bytes ∷ Short ∷ Short ∷ []) answer.Void Kept (RsaKeys RsaKeyObjectSetModulus) ∷
    optional_implemented_method RsaPrivateKey kind.Interface (RsaInterfaces RsaPrivateKeySetExponent) (codes "setExponent") (Bytes ∷ Short ∷ Short ∷ []) answer.Void Kept (RsaKeys RsaKeyObjectSetExponent) ∷
    optional_implemented_method RsaPrivateKey kind.Interface (RsaInterfaces RsaPrivateKeyGetModulus) (codes "getModulus") (Bytes ∷ Short ∷ []) answer.Short Kept (RsaKeys RsaKeyObjectGetModulus) ∷
    optional_implemented_method RsaPrivateKey kind.Interface (RsaInterfaces RsaPrivateKeyGetExponent) (codes "getExponent") (Bytes ∷ Short ∷ []) answer.Short Kept (RsaKeys RsaKeyObjectGetExponent) ∷
    optional_implemented_method RsaPrivateCrtKey kind.Interface (RsaInterfaces RsaPrivateCrtKeyClearKey) (codes "clearKey") [] answer.Void Kept (Keys KeyObjectClearKey) ∷
    optional_implemented_method RsaPrivateCrtKey kind.Interface (RsaInterfaces RsaPrivateCrtKeyGetSize) (codes "getSize") [] answer.Short Kept (Keys KeyObjectGetSize) ∷
    optional_implemented_method RsaPrivateCrtKey kind.Interface (RsaInterfaces RsaPrivateCrtKeyGetType) (codes "getType") [] answer.Byte Kept (Keys KeyObjectGetType) ∷
    optional_implemented_method RsaPrivateCrtKey kind.Interface (RsaInterfaces RsaPrivateCrtKeyIsInitialized) (codes "isInitialized") [] answer.Boolean Kept (Keys KeyObjectIsInitialized) ∷
    optional_implemented_method RsaPrivateCrtKey kind.Interface (RsaInterfaces RsaPrivateCrtKeySetP) (codes "setP") (Bytes ∷ Short ∷ Short ∷ []) answer.Void Kept (RsaKeys RsaPrivateCrtKeyObjectSetP) ∷
    optional_implemented_method RsaPrivateCrtKey kind.Interface (RsaInterfaces RsaPrivateCrtKeySetQ) (codes "setQ") (Bytes ∷ Short ∷ Short ∷ []) answer.Void Kept (RsaKeys RsaPrivateCrtKeyObjectSetQ) ∷
    optional_implemented_method RsaPrivateCrtKey kind.Interface (RsaInterfaces RsaPrivateCrtKeySetDp1) (codes "setDP1") (Bytes ∷ Short ∷ Short ∷ []) answer.Void Kept (RsaKeys RsaPrivateCrtKeyObjectSetDp1) ∷
    optional_implemented_method RsaPrivateCrtKey kind.Interface (RsaInterfaces RsaPrivateCrtKeySetDq1) (codes "setDQ1") (Bytes ∷ Short ∷ Short ∷ []) answer.Void Kept (RsaKeys RsaPrivateCrtKeyObjectSetDq1) ∷
    optional_implemented_method RsaPrivateCrtKey kind.Interface (RsaInterfaces RsaPrivateCrtKeySetPq) (codes "setPQ") (Bytes ∷ Short ∷ Short ∷ []) answer.Void Kept (RsaKeys RsaPrivateCrtKeyObjectSetPq) ∷
    optional_implemented_method RsaPrivateCrtKey kind.Interface (RsaInterfaces RsaPrivateCrtKeyGetP) (codes "getP") (Bytes ∷ Short ∷ []) answer.Short Kept (RsaKeys RsaPrivateCrtKeyObjectGetP) ∷
    optional_implemented_method RsaPrivateCrtKey kind.Interface (RsaInterfaces RsaPrivateCrtKeyGetQ) (codes "getQ") (Bytes ∷ Short ∷ []) answer.Short Kept (RsaKeys RsaPrivateCrtKeyObjectGetQ) ∷
    optional_implemented_method RsaPrivateCrtKey kind.Interface (RsaInterfaces RsaPrivateCrtKeyGetDp1) (codes "getDP1") (Bytes ∷ Short ∷ []) answer.Short Kept (RsaKeys RsaPrivateCrtKeyObjectGetDp1) ∷
    optional_implemented_method RsaPrivateCrtKey kind.Interface (RsaInterfaces RsaPrivateCrtKeyGetDq1) (codes "getDQ1") (Bytes ∷ Short ∷ []) answer.Short Kept (RsaKeys RsaPrivateCrtKeyObjectGetDq1) ∷
    optional_implemented_method RsaPrivateCrtKey kind.Interface (RsaInterfaces RsaPrivateCrtKeyGetPq) (codes "getPQ") (Bytes ∷ Short ∷ []) answer.Short Kept (RsaKeys RsaPrivateCrtKeyObjectGetPq) ∷
    []

-- the methods of the interfaces of keys on elliptic curves
unfoldable pub ec_interfaces_rows : List MethodEntry
ec_interfaces_rows =
    optional_implemented_method EcKey kind.Interface (EcInterfaces EcKeySetFieldFp) (codes "setFieldFP") (Bytes ∷ Short ∷ Short ∷ []) answer.Void Kept (EcKeys EcKeyObjectSetFieldFp) ∷
    optional_implemented_method EcKey kind.Interface (EcInterfaces EcKeySetFieldF2m) (codes "setFieldF2M") (Short ∷ []) answer.Void Kept (EcKeys EcKeyObjectSetFieldF2m) ∷
    optional_implemented_method EcKey kind.Interface (EcInterfaces EcKeySetFieldF2mOfThree) (codes "setFieldF2MOfThree") (Short ∷ Short ∷ Short ∷ []) answer.Void Kept (EcKeys EcKeyObjectSetFieldF2mOfThree) ∷
    optional_implemented_method EcKey kind.Interface (EcInterfaces EcKeySetA) (codes "setA") (Bytes ∷ Short ∷ Short ∷ []) answer.Void Kept (EcKeys EcKeyObjectSetA) ∷
    optional_implemented_method EcKey kind.Interface (EcInterfaces EcKeySetB) (codes "setB") (Bytes ∷ Short ∷ Short ∷ []) answer.Void Kept (EcKeys EcKeyObjectSetB) ∷
    optional_implemented_method EcKey kind.Interface (EcInterfaces EcKeySetG) (codes "setG") (Bytes ∷ Short ∷ Short ∷ []) answer.Void Kept (EcKeys EcKeyObjectSetG) ∷
    optional_implemented_method EcKey kind.Interface (EcInterfaces EcKeySetR) (codes "setR") (Bytes ∷ Short ∷ Short ∷ []) answer.Void Kept (EcKeys EcKeyObjectSetR) ∷
    optional_implemented_method EcKey kind.Interface (EcInterfaces EcKeySetK) (codes "setK") (Short ∷ []) answer.Void Kept (EcKeys EcKeyObjectSetK) ∷
    optional_implemented_method EcKey kind.Interface (EcInterfaces EcKeyGetField) (codes "getField") (Bytes ∷ Short ∷ []) answer.Short Kept (EcKeys EcKeyObjectGetField) ∷
    optional_implemented_method EcKey kind.Interface (EcInterfaces EcKeyGetA) (codes "getA") (Bytes ∷ Short ∷ []) answer.Short Kept (EcKeys EcKeyObjectGetA) ∷
    optional_implemented_method EcKey kind.Interface (EcInterfaces EcKeyGetB) (codes "getB") (Bytes ∷ Short ∷ []) answer.Short Kept (EcKeys EcKeyObjectGetB) ∷
    optional_implemented_method EcKey kind.Interface (EcInterfaces EcKeyGetG) (codes "getG") (Bytes ∷ Short ∷ []) answer.Short Kept (EcKeys EcKeyObjectGetG) ∷
    optional_implemented_method EcKey kind.Interface (EcInterfaces EcKeyGetR) (codes "getR") (Bytes ∷ Short ∷ []) answer.Short Kept (EcKeys EcKeyObjectGetR) ∷
    optional_implemented_method EcKey kind.Interface (EcInterfaces EcKeyGetK) (codes "getK") [] answer.Short Kept (EcKeys EcKeyObjectGetK) ∷
    optional_implemented_method EcKey kind.Interface (EcInterfaces EcKeyCopyDomainParametersFrom) (codes "copyDomainParametersFrom") (Anything ∷ []) answer.Void Kept (EcKeys EcKeyObjectCopyDomainParametersFrom) ∷
    optional_implemented_method EcPublicKey kind.Interface (EcInterfaces EcPublicKeyClearKey) (codes "clearKey") [] answer.Void Kept (Keys KeyObjectClearKey) ∷
    optional_implemented_method EcPublicKey kind.Interface (EcInterfaces EcPublicKeyGetSize) (codes "getSize") [] answer.Short Kept (Keys KeyObjectGetSize) ∷
    optional_implemented_method EcPublicKey kind.Interface (EcInterfaces EcPublicKeyGetType) (codes "getType") [] answer.Byte Kept (Keys KeyObjectGetType) ∷
    optional_implemented_method EcPublicKey kind.Interface (EcInterfaces EcPublicKeyIsInitialized) (codes "isInitialized") [] answer.Boolean Kept (Keys KeyObjectIsInitialized) ∷
    optional_implemented_method EcPublicKey kind.Interface (EcInterfaces EcPublicKeySetFieldFp) (codes "setFieldFP") (Bytes ∷ Short ∷ Short ∷ []) answer.Void Kept (EcKeys EcKeyObjectSetFieldFp) ∷
    optional_implemented_method EcPublicKey kind.Interface (EcInterfaces EcPublicKeySetFieldF2m) (codes "setFieldF2M") (Short ∷ []) answer.Void Kept (EcKeys EcKeyObjectSetFieldF2m) ∷
    optional_implemented_method EcPublicKey kind.Interface (EcInterfaces EcPublicKeySetFieldF2mOfThree) (codes "setFieldF2MOfThree") (Short ∷ Short ∷ Short ∷ []) answer.Void Kept (EcKeys EcKeyObjectSetFieldF2mOfThree) ∷
    optional_implemented_method EcPublicKey kind.Interface (EcInterfaces EcPublicKeySetA) (codes "setA") (Bytes ∷ Short ∷ Short ∷ []) answer.Void Kept (EcKeys EcKeyObjectSetA) ∷
    optional_implemented_method EcPublicKey kind.Interface (EcInterfaces EcPublicKeySetB) (codes "setB") (Bytes ∷ Short ∷ Short ∷ []) answer.Void Kept (EcKeys EcKeyObjectSetB) ∷
    optional_implemented_method EcPublicKey kind.Interface (EcInterfaces EcPublicKeySetG) (codes "setG") (Bytes ∷ Short ∷ Short ∷ []) answer.Void Kept (EcKeys EcKeyObjectSetG) ∷
    optional_implemented_method EcPublicKey kind.Interface (EcInterfaces EcPublicKeySetR) (codes "setR") (Bytes ∷ Short ∷ Short ∷ []) answer.Void Kept (EcKeys EcKeyObjectSetR) ∷
    optional_implemented_method EcPublicKey kind.Interface (EcInterfaces EcPublicKeySetK) (codes "setK") (Short ∷ []) answer.Void Kept (EcKeys EcKeyObjectSetK) ∷
    optional_implemented_method EcPublicKey kind.Interface (EcInterfaces EcPublicKeyGetField) (codes "getField") (Bytes ∷ Short ∷ []) answer.Short Kept (EcKeys EcKeyObjectGetField) ∷
    optional_implemented_method EcPublicKey kind.Interface (EcInterfaces EcPublicKeyGetA) (codes "getA") (Bytes ∷ Short ∷ []) answer.Short Kept (EcKeys EcKeyObjectGetA) ∷
    optional_implemented_method EcPublicKey kind.Interface (EcInterfaces EcPublicKeyGetB) (codes "getB") (Bytes ∷ Short ∷ []) answer.Short Kept (EcKeys EcKeyObjectGetB) ∷
    optional_implemented_method EcPublicKey kind.Interface (EcInterfaces EcPublicKeyGetG) (codes "getG") (Bytes ∷ Short ∷ []) answer.Short Kept (EcKeys EcKeyObjectGetG) ∷
    optional_implemented_method EcPublicKey kind.Interface (EcInterfaces EcPublicKeyGetR) (codes "getR") (Bytes ∷ Short ∷ []) answer.Short Kept (EcKeys EcKeyObjectGetR) ∷
    optional_implemented_method EcPublicKey kind.Interface (EcInterfaces EcPublicKeyGetK) (codes "getK") [] answer.Short Kept (EcKeys EcKeyObjectGetK) ∷
    optional_implemented_method EcPublicKey kind.Interface (EcInterfaces EcPublicKeyCopyDomainParametersFrom) (codes "copyDomainParametersFrom") (Anything ∷ []) answer.Void Kept (EcKeys EcKeyObjectCopyDomainParametersFrom) ∷
    optional_implemented_method EcPublicKey kind.Interface (EcInterfaces EcPublicKeySetW) (codes "setW") (Bytes ∷ Short ∷ Short ∷ []) answer.Void Kept (EcKeys EcPublicKeyObjectSetW) ∷
    optional_implemented_method EcPublicKey kind.Interface (EcInterfaces EcPublicKeyGetW) (codes "getW") (Bytes ∷ Short ∷ []) answer.Short Kept (EcKeys EcPublicKeyObjectGetW) ∷
    optional_implemented_method EcPrivateKey kind.Interface (EcInterfaces EcPrivateKeyClearKey) (codes "clearKey") [] answer.Void Kept (Keys KeyObjectClearKey) ∷
    optional_implemented_method EcPrivateKey kind.Interface (EcInterfaces EcPrivateKeyGetSize) (codes "getSize") [] answer.Short Kept (Keys KeyObjectGetSize) ∷
    optional_implemented_method EcPrivateKey kind.Interface (EcInterfaces EcPrivateKeyGetType) (codes "getType") [] answer.Byte Kept (Keys KeyObjectGetType) ∷
    optional_implemented_method EcPrivateKey kind.Interface (EcInterfaces EcPrivateKeyIsInitialized) (codes "isInitialized") [] answer.Boolean Kept (Keys KeyObjectIsInitialized) ∷
    optional_implemented_method EcPrivateKey kind.Interface (EcInterfaces EcPrivateKeySetFieldFp) (codes "setFieldFP") (Bytes ∷ Short ∷ Short ∷ []) answer.Void Kept (EcKeys EcKeyObjectSetFieldFp) ∷
    optional_implemented_method EcPrivateKey kind.Interface (EcInterfaces EcPrivateKeySetFieldF2m) (codes "setFieldF2M") (Short ∷ []) answer.Void Kept (EcKeys EcKeyObjectSetFieldF2m) ∷
    optional_implemented_method EcPrivateKey kind.Interface (EcInterfaces EcPrivateKeySetFieldF2mOfThree) (codes "setFieldF2MOfThree") (Short ∷ Short ∷ Short ∷ []) answer.Void Kept (EcKeys EcKeyObjectSetFieldF2mOfThree) ∷
    optional_implemented_method EcPrivateKey kind.Interface (EcInterfaces EcPrivateKeySetA) (codes "setA") (Bytes ∷ Short ∷ Short ∷ []) answer.Void Kept (EcKeys EcKeyObjectSetA) ∷
    optional_implemented_method EcPrivateKey kind.Interface (EcInterfaces EcPrivateKeySetB) (codes "setB") (Bytes ∷ Short ∷ Short ∷ []) answer.Void Kept (EcKeys EcKeyObjectSetB) ∷
    optional_implemented_method EcPrivateKey kind.Interface (EcInterfaces EcPrivateKeySetG) (codes "setG") (Bytes ∷ Short ∷ Short ∷ []) answer.Void Kept (EcKeys EcKeyObjectSetG) ∷
    optional_implemented_method EcPrivateKey kind.Interface (EcInterfaces EcPrivateKeySetR) (codes "setR") (Bytes ∷ Short ∷ Short ∷ []) answer.Void Kept (EcKeys EcKeyObjectSetR) ∷
    optional_implemented_method EcPrivateKey kind.Interface (EcInterfaces EcPrivateKeySetK) (codes "setK") (Short ∷ []) answer.Void Kept (EcKeys EcKeyObjectSetK) ∷
    optional_implemented_method EcPrivateKey kind.Interface (EcInterfaces EcPrivateKeyGetField) (codes "getField") (Bytes ∷ Short ∷ []) answer.Short Kept (EcKeys EcKeyObjectGetField) ∷
    optional_implemented_method EcPrivateKey kind.Interface (EcInterfaces EcPrivateKeyGetA) (codes "getA") (Bytes ∷ Short ∷ []) answer.Short Kept (EcKeys EcKeyObjectGetA) ∷
    optional_implemented_method EcPrivateKey kind.Interface (EcInterfaces EcPrivateKeyGetB) (codes "getB") (Bytes ∷ Short ∷ []) answer.Short Kept (EcKeys EcKeyObjectGetB) ∷
    optional_implemented_method EcPrivateKey kind.Interface (EcInterfaces EcPrivateKeyGetG) (codes "getG") (Bytes ∷ Short ∷ []) answer.Short Kept (EcKeys EcKeyObjectGetG) ∷
    optional_implemented_method EcPrivateKey kind.Interface (EcInterfaces EcPrivateKeyGetR) (codes "getR") (Bytes ∷ Short ∷ []) answer.Short Kept (EcKeys EcKeyObjectGetR) ∷
    optional_implemented_method EcPrivateKey kind.Interface (EcInterfaces EcPrivateKeyGetK) (codes "getK") [] answer.Short Kept (EcKeys EcKeyObjectGetK) ∷
    optional_implemented_method EcPrivateKey kind.Interface (EcInterfaces EcPrivateKeyCopyDomainParametersFrom) (codes "copyDomainParametersFrom") (Anything ∷ []) answer.Void Kept (EcKeys EcKeyObjectCopyDomainParametersFrom) ∷
    optional_implemented_method EcPrivateKey kind.Interface (EcInterfaces EcPrivateKeySetS) (codes "setS") (Bytes ∷ Short ∷ Short ∷ []) answer.Void Kept (EcKeys EcPrivateKeyObjectSetS) ∷
    optional_implemented_method EcPrivateKey kind.Interface (EcInterfaces EcPrivateKeyGetS) (codes "getS") (Bytes ∷ Short ∷ []) answer.Short Kept (EcKeys EcPrivateKeyObjectGetS) ∷
    []

-- the methods of KeyPair and KeyAgreement
unfoldable pub key_pairs_rows : List MethodEntry
key_pairs_rows =
    optional_method KeyPair kind.Static (KeyPairs KeyPairInit) (codes "<init>") (Byte ∷ Short ∷ []) answer.Void Changed ∷
    optional_method KeyPair kind.Static (KeyPairs KeyPairInitOfKeys) (codes "<init>OfKeys") (Anything ∷ Anything ∷ []) answer.Void Changed ∷
    optional_method KeyPair kind.Virtual (KeyPairs KeyPairGenKeyPair) (codes "genKeyPair") [] answer.Void Kept ∷
    optional_method KeyPair kind.Virtual (KeyPairs KeyPairGetPublic) (codes "getPublic") [] answer.Reference Kept ∷
    optional_method KeyPair kind.Virtual (KeyPairs KeyPairGetPrivate) (codes "getPrivate") [] answer.Reference Kept ∷
    optional_method KeyAgreement kind.Static (KeyPairs KeyAgreementGetInstance) (codes "getInstance") (Byte ∷ Boolean ∷ []) answer.Reference Absent ∷
    optional_method KeyAgreement kind.Virtual (KeyPairs KeyAgreementInit) (codes "init") (Anything ∷ []) answer.Void Changed ∷
    optional_method KeyAgreement kind.Virtual (KeyPairs KeyAgreementGenerateSecret) (codes "generateSecret") (Bytes ∷ Short ∷ Short ∷ Bytes ∷ Short ∷ []) answer.Short Kept ∷
    optional_method KeyAgreement kind.Virtual (KeyPairs KeyAgreementGetAlgorithm) (codes "getAlgorithm") [] answer.Byte Kept ∷
    []

-- every method
abbrev pub methods : List MethodEntry
methods = objects_rows ++ (exceptions_rows ++ (utilities_rows ++ (system_rows ++ (aids_rows ++ (pins_rows ++ (applets_rows ++ (apdus_rows ++ (events_rows ++ (engines_rows ++ (keys_rows ++ (key_interfaces_rows ++ (ciphers_rows ++ (rsa_keys_rows ++ (ec_keys_rows ++ (rsa_interfaces_rows ++ (ec_interfaces_rows ++ (key_pairs_rows)))))))))))))))))

-- no class's row
unfoldable pub no_class : ClassEntry
no_class = class_entry JavaLang Object [] None [] form.Object [] false false

-- no method's row
unfoldable pub no_method : MethodEntry
no_method = method_entry Object kind.Static (Objects ObjectInit) [] [] answer.Void Absent
