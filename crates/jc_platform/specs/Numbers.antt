-- The numbers of the platform's names: their places in the lists of all, and of a method also its place in its room.
use Rattle.std.specs.Prelude.{ℕ, Bool, true, false, ◌==◌, ◌+◌}
use Rattle.jc_platform.specs.declared.names.PlatformPackage.{PlatformPackage}
use Rattle.jc_platform.specs.declared.names.PlatformPackage.TheVariants.{JavaLang, JavacardFramework, JavacardxApdu, JavacardSecurity, JavacardxCrypto}
use Rattle.jc_platform.specs.declared.names.PlatformClass.{PlatformClass}
use Rattle.jc_platform.specs.declared.names.PlatformClass.TheVariants.{Object, Throwable, Exception, RuntimeException, IndexOutOfBoundsException}
use Rattle.jc_platform.specs.declared.names.PlatformClass.TheVariants.{ArithmeticException, ArrayIndexOutOfBoundsException, ArrayStoreException}
use Rattle.jc_platform.specs.declared.names.PlatformClass.TheVariants.{ClassCastException, NegativeArraySizeException, NullPointerException, SecurityException}
use Rattle.jc_platform.specs.declared.names.PlatformClass.TheVariants.{Shareable, Pin, Applet, Apdu, Aid, JcSystem, Util, OwnerPin, CardException}
use Rattle.jc_platform.specs.declared.names.PlatformClass.TheVariants.{CardRuntimeException, IsoException, PinException, SystemException, TransactionException}
use Rattle.jc_platform.specs.declared.names.PlatformClass.TheVariants.{ApduException, UserException, Iso7816, MultiSelectable, AppletEvent, ExtendedLength}
use Rattle.jc_platform.specs.declared.names.PlatformClass.TheVariants.{CryptoException, MessageDigest, Checksum, RandomData, InitializedMessageDigest}
use Rattle.jc_platform.specs.declared.names.PlatformClass.TheVariants.{Key, SecretKey, DesKey, AesKey, HmacKey, KeyBuilder, KeyObject, DesKeyObject}
use Rattle.jc_platform.specs.declared.names.PlatformClass.TheVariants.{AesKeyObject, HmacKeyObject, Signature, Cipher}
use Rattle.jc_platform.specs.declared.names.PlatformClass.TheVariants.{PrivateKey, PublicKey, RsaPublicKey, RsaPrivateKey, RsaPrivateCrtKey, EcKey, EcPublicKey}
use Rattle.jc_platform.specs.declared.names.PlatformClass.TheVariants.{EcPrivateKey, KeyPair, KeyAgreement, RsaKeyObject, RsaPublicKeyObject, RsaPrivateKeyObject}
use Rattle.jc_platform.specs.declared.names.PlatformClass.TheVariants.{RsaPrivateCrtKeyObject, EcKeyObject, EcPublicKeyObject, EcPrivateKeyObject}
use Rattle.jc_platform.specs.declared.names.MethodKind.{MethodKind}
use Rattle.jc_platform.specs.declared.names.MethodKind.TheVariants.{Static, Virtual, Interface}
use Rattle.jc_platform.specs.declared.names.PlatformMethod.{PlatformMethod}
use Rattle.jc_platform.specs.declared.names.PlatformMethod.TheVariants.{Objects, Exceptions, Utilities, System, Aids, Pins, Applets, Apdus, Events, Engines}
use Rattle.jc_platform.specs.declared.names.PlatformMethod.TheVariants.{Keys, KeyInterfaces, Ciphers}
use Rattle.jc_platform.specs.declared.names.PlatformMethod.TheVariants.{RsaKeys, EcKeys, RsaInterfaces, EcInterfaces, KeyPairs}
use Rattle.jc_platform.specs.declared.names.ObjectsMethod.{ObjectsMethod}
use Rattle.jc_platform.specs.declared.names.ObjectsMethod.TheVariants.{ObjectInit, ObjectEquals, ThrowableInit, ExceptionInit, RuntimeExceptionInit}
use Rattle.jc_platform.specs.declared.names.ObjectsMethod.TheVariants.{IndexOutOfBoundsExceptionInit, ArithmeticExceptionInit}
use Rattle.jc_platform.specs.declared.names.ObjectsMethod.TheVariants.{ArrayIndexOutOfBoundsExceptionInit, ArrayStoreExceptionInit, ClassCastExceptionInit}
use Rattle.jc_platform.specs.declared.names.ObjectsMethod.TheVariants.{NegativeArraySizeExceptionInit, NullPointerExceptionInit, SecurityExceptionInit}
use Rattle.jc_platform.specs.declared.names.ExceptionsMethod.{ExceptionsMethod}
use Rattle.jc_platform.specs.declared.names.ExceptionsMethod.TheVariants.{CardExceptionInit, CardExceptionThrowIt, CardExceptionGetReason}
use Rattle.jc_platform.specs.declared.names.ExceptionsMethod.TheVariants.{CardExceptionSetReason, CardRuntimeExceptionInit, CardRuntimeExceptionThrowIt}
use Rattle.jc_platform.specs.declared.names.ExceptionsMethod.TheVariants.{CardRuntimeExceptionGetReason, CardRuntimeExceptionSetReason, IsoExceptionInit}
use Rattle.jc_platform.specs.declared.names.ExceptionsMethod.TheVariants.{IsoExceptionThrowIt, PinExceptionInit, PinExceptionThrowIt, SystemExceptionInit}
use Rattle.jc_platform.specs.declared.names.ExceptionsMethod.TheVariants.{SystemExceptionThrowIt, TransactionExceptionInit, TransactionExceptionThrowIt}
use Rattle.jc_platform.specs.declared.names.ExceptionsMethod.TheVariants.{ApduExceptionInit, ApduExceptionThrowIt, UserExceptionInit, UserExceptionThrowIt}
use Rattle.jc_platform.specs.declared.names.ExceptionsMethod.TheVariants.{UserExceptionInitWithoutReason, CryptoExceptionInit, CryptoExceptionThrowIt}
use Rattle.jc_platform.specs.declared.names.UtilitiesMethod.{UtilitiesMethod}
use Rattle.jc_platform.specs.declared.names.UtilitiesMethod.TheVariants.{UtilArrayCompare, UtilArrayCopy, UtilGetShort, UtilMakeShort, UtilSetShort}
use Rattle.jc_platform.specs.declared.names.UtilitiesMethod.TheVariants.{UtilArrayCopyNonAtomic, UtilArrayFill, UtilArrayFillNonAtomic}
use Rattle.jc_platform.specs.declared.names.SystemMethod.{SystemMethod}
use Rattle.jc_platform.specs.declared.names.SystemMethod.TheVariants.{JcSystemAbortTransaction, JcSystemBeginTransaction, JcSystemCommitTransaction}
use Rattle.jc_platform.specs.declared.names.SystemMethod.TheVariants.{JcSystemGetAid, JcSystemGetAppletShareableInterfaceObject, JcSystemGetMaxCommitCapacity}
use Rattle.jc_platform.specs.declared.names.SystemMethod.TheVariants.{JcSystemGetPreviousContextAid, JcSystemGetTransactionDepth}
use Rattle.jc_platform.specs.declared.names.SystemMethod.TheVariants.{JcSystemGetUnusedCommitCapacity, JcSystemIsTransient, JcSystemLookupAid}
use Rattle.jc_platform.specs.declared.names.SystemMethod.TheVariants.{JcSystemMakeTransientBooleanArray, JcSystemMakeTransientByteArray}
use Rattle.jc_platform.specs.declared.names.SystemMethod.TheVariants.{JcSystemMakeTransientObjectArray, JcSystemMakeTransientShortArray, JcSystemGetVersion}
use Rattle.jc_platform.specs.declared.names.SystemMethod.TheVariants.{JcSystemGetAvailableMemory, JcSystemGetAvailableMemoryShorts}
use Rattle.jc_platform.specs.declared.names.SystemMethod.TheVariants.{JcSystemRequestObjectDeletion, JcSystemIsObjectDeletionSupported, JcSystemIsAppletActive}
use Rattle.jc_platform.specs.declared.names.SystemMethod.TheVariants.{JcSystemGetAssignedChannel}
use Rattle.jc_platform.specs.declared.names.AidsMethod.{AidsMethod}
use Rattle.jc_platform.specs.declared.names.AidsMethod.TheVariants.{AidInit, AidEquals, AidEqualsBytes, AidGetBytes, AidRidEquals, AidPartialEquals}
use Rattle.jc_platform.specs.declared.names.AidsMethod.TheVariants.{AidGetPartialBytes}
use Rattle.jc_platform.specs.declared.names.PinsMethod.{PinsMethod}
use Rattle.jc_platform.specs.declared.names.PinsMethod.TheVariants.{PinCheck, PinGetTriesRemaining, PinIsValidated, PinReset, OwnerPinInit, OwnerPinCheck}
use Rattle.jc_platform.specs.declared.names.PinsMethod.TheVariants.{OwnerPinGetTriesRemaining, OwnerPinIsValidated, OwnerPinReset, OwnerPinResetAndUnblock}
use Rattle.jc_platform.specs.declared.names.PinsMethod.TheVariants.{OwnerPinUpdate, OwnerPinGetValidatedFlag, OwnerPinSetValidatedFlag}
use Rattle.jc_platform.specs.declared.names.AppletsMethod.{AppletsMethod}
use Rattle.jc_platform.specs.declared.names.AppletsMethod.TheVariants.{AppletInit, AppletDeselect, AppletGetShareableInterfaceObject, AppletRegister}
use Rattle.jc_platform.specs.declared.names.AppletsMethod.TheVariants.{AppletRegisterBytes, AppletSelect, AppletSelectingApplet, AppletProcess}
use Rattle.jc_platform.specs.declared.names.AppletsMethod.TheVariants.{AppletReSelectingApplet}
use Rattle.jc_platform.specs.declared.names.ApdusMethod.{ApdusMethod}
use Rattle.jc_platform.specs.declared.names.ApdusMethod.TheVariants.{ApduGetBuffer, ApduReceiveBytes, ApduSendBytes, ApduSetIncomingAndReceive, ApduSetOutgoing}
use Rattle.jc_platform.specs.declared.names.ApdusMethod.TheVariants.{ApduSetOutgoingAndSend, ApduSetOutgoingLength, ApduGetIncomingLength, ApduGetOffsetCdata}
use Rattle.jc_platform.specs.declared.names.ApdusMethod.TheVariants.{ApduSendBytesLong, ApduGetCurrentState, ApduGetProtocol, ApduGetNad, ApduGetClaChannel}
use Rattle.jc_platform.specs.declared.names.ApdusMethod.TheVariants.{ApduGetInBlockSize, ApduGetOutBlockSize, ApduIsIsoInterindustryCla}
use Rattle.jc_platform.specs.declared.names.ApdusMethod.TheVariants.{ApduIsCommandChainingCla, ApduIsSecureMessagingCla, ApduIsValidCla}
use Rattle.jc_platform.specs.declared.names.ApdusMethod.TheVariants.{ApduSetOutgoingNoChaining, ApduWaitExtension, ApduGetCurrentApdu, ApduGetCurrentApduBuffer}
use Rattle.jc_platform.specs.declared.names.EventsMethod.{EventsMethod}
use Rattle.jc_platform.specs.declared.names.EventsMethod.TheVariants.{MultiSelectableSelect, MultiSelectableDeselect, AppletEventUninstall}
use Rattle.jc_platform.specs.declared.names.EnginesMethod.{EnginesMethod}
use Rattle.jc_platform.specs.declared.names.EnginesMethod.TheVariants.{MessageDigestGetInstance, MessageDigestGetAlgorithm, MessageDigestGetLength, MessageDigestUpdate}
use Rattle.jc_platform.specs.declared.names.EnginesMethod.TheVariants.{MessageDigestDoFinal, MessageDigestReset, ChecksumGetInstance, ChecksumGetAlgorithm}
use Rattle.jc_platform.specs.declared.names.EnginesMethod.TheVariants.{ChecksumInit, ChecksumUpdate, ChecksumDoFinal, RandomDataGetInstance, RandomDataGenerateData}
use Rattle.jc_platform.specs.declared.names.EnginesMethod.TheVariants.{RandomDataNextBytes, RandomDataSetSeed, RandomDataGetAlgorithm}
use Rattle.jc_platform.specs.declared.names.EnginesMethod.TheVariants.{MessageDigestGetInitializedMessageDigestInstance}
use Rattle.jc_platform.specs.declared.names.EnginesMethod.TheVariants.{InitializedMessageDigestSetInitialDigest}
use Rattle.jc_platform.specs.declared.names.KeysMethod.{KeysMethod}
use Rattle.jc_platform.specs.declared.names.KeysMethod.TheVariants.{KeyBuilderBuildKey, KeyObjectClearKey, KeyObjectGetSize, KeyObjectGetType}
use Rattle.jc_platform.specs.declared.names.KeysMethod.TheVariants.{KeyObjectIsInitialized, KeyObjectGetKey, KeyObjectSetKey, HmacKeyObjectSetKey}
use Rattle.jc_platform.specs.declared.names.KeyInterfacesMethod.{KeyInterfacesMethod}
use Rattle.jc_platform.specs.declared.names.KeyInterfacesMethod.TheVariants.{KeyClearKey, KeyGetSize, KeyGetType, KeyIsInitialized, SecretKeyClearKey}
use Rattle.jc_platform.specs.declared.names.KeyInterfacesMethod.TheVariants.{SecretKeyGetSize, SecretKeyGetType, SecretKeyIsInitialized, DesKeyClearKey}
use Rattle.jc_platform.specs.declared.names.KeyInterfacesMethod.TheVariants.{DesKeyGetSize, DesKeyGetType, DesKeyIsInitialized, DesKeyGetKey, DesKeySetKey}
use Rattle.jc_platform.specs.declared.names.KeyInterfacesMethod.TheVariants.{AesKeyClearKey, AesKeyGetSize, AesKeyGetType, AesKeyIsInitialized, AesKeyGetKey}
use Rattle.jc_platform.specs.declared.names.KeyInterfacesMethod.TheVariants.{AesKeySetKey, HmacKeyClearKey, HmacKeyGetSize, HmacKeyGetType}
use Rattle.jc_platform.specs.declared.names.KeyInterfacesMethod.TheVariants.{HmacKeyIsInitialized, HmacKeyGetKey, HmacKeySetKey}
use Rattle.jc_platform.specs.declared.names.CiphersMethod.{CiphersMethod}
use Rattle.jc_platform.specs.declared.names.CiphersMethod.TheVariants.{CipherGetInstance, CipherGetInstanceOfCipherAndPadding, CipherInit}
use Rattle.jc_platform.specs.declared.names.CiphersMethod.TheVariants.{CipherInitWithVector, CipherUpdate, CipherDoFinal, CipherGetAlgorithm}
use Rattle.jc_platform.specs.declared.names.CiphersMethod.TheVariants.{CipherGetCipherAlgorithm, CipherGetPaddingAlgorithm, SignatureGetInstance}
use Rattle.jc_platform.specs.declared.names.CiphersMethod.TheVariants.{SignatureGetInstanceOfDigestCipherAndPadding, SignatureInit, SignatureInitWithVector}
use Rattle.jc_platform.specs.declared.names.CiphersMethod.TheVariants.{SignatureUpdate, SignatureSign, SignatureVerify, SignatureGetAlgorithm}
use Rattle.jc_platform.specs.declared.names.CiphersMethod.TheVariants.{SignatureGetMessageDigestAlgorithm, SignatureGetCipherAlgorithm}
use Rattle.jc_platform.specs.declared.names.CiphersMethod.TheVariants.{SignatureGetPaddingAlgorithm, SignatureGetLength}
use Rattle.jc_platform.specs.declared.key_methods.RsaKeysMethod.{RsaKeysMethod}
use Rattle.jc_platform.specs.declared.key_methods.RsaKeysMethod.TheVariants.{RsaKeyObjectSetModulus, RsaKeyObjectSetExponent, RsaKeyObjectGetModulus}
use Rattle.jc_platform.specs.declared.key_methods.RsaKeysMethod.TheVariants.{RsaKeyObjectGetExponent, RsaPrivateCrtKeyObjectSetP, RsaPrivateCrtKeyObjectSetQ}
use Rattle.jc_platform.specs.declared.key_methods.RsaKeysMethod.TheVariants.{RsaPrivateCrtKeyObjectSetDp1, RsaPrivateCrtKeyObjectSetDq1, RsaPrivateCrtKeyObjectSetPq}
use Rattle.jc_platform.specs.declared.key_methods.RsaKeysMethod.TheVariants.{RsaPrivateCrtKeyObjectGetP, RsaPrivateCrtKeyObjectGetQ, RsaPrivateCrtKeyObjectGetDp1}
use Rattle.jc_platform.specs.declared.key_methods.RsaKeysMethod.TheVariants.{RsaPrivateCrtKeyObjectGetDq1, RsaPrivateCrtKeyObjectGetPq}
use Rattle.jc_platform.specs.declared.key_methods.EcKeysMethod.{EcKeysMethod}
use Rattle.jc_platform.specs.declared.key_methods.EcKeysMethod.TheVariants.{EcKeyObjectSetFieldFp, EcKeyObjectSetFieldF2m, EcKeyObjectSetFieldF2mOfThree}
use Rattle.jc_platform.specs.declared.key_methods.EcKeysMethod.TheVariants.{EcKeyObjectSetA, EcKeyObjectSetB, EcKeyObjectSetG, EcKeyObjectSetR, EcKeyObjectSetK}
use Rattle.jc_platform.specs.declared.key_methods.EcKeysMethod.TheVariants.{EcKeyObjectGetField, EcKeyObjectGetA, EcKeyObjectGetB, EcKeyObjectGetG, EcKeyObjectGetR}
use Rattle.jc_platform.specs.declared.key_methods.EcKeysMethod.TheVariants.{EcKeyObjectGetK, EcKeyObjectCopyDomainParametersFrom, EcPublicKeyObjectSetW}
use Rattle.jc_platform.specs.declared.key_methods.EcKeysMethod.TheVariants.{EcPublicKeyObjectGetW, EcPrivateKeyObjectSetS, EcPrivateKeyObjectGetS}
use Rattle.jc_platform.specs.declared.key_methods.RsaInterfacesMethod.{RsaInterfacesMethod}
use Rattle.jc_platform.specs.declared.key_methods.RsaInterfacesMethod.TheVariants.{PrivateKeyClearKey, PrivateKeyGetSize, PrivateKeyGetType, PrivateKeyIsInitialized}
use Rattle.jc_platform.specs.declared.key_methods.RsaInterfacesMethod.TheVariants.{PublicKeyClearKey, PublicKeyGetSize, PublicKeyGetType, PublicKeyIsInitialized}
use Rattle.jc_platform.specs.declared.key_methods.RsaInterfacesMethod.TheVariants.{RsaPublicKeyClearKey, RsaPublicKeyGetSize, RsaPublicKeyGetType}
use Rattle.jc_platform.specs.declared.key_methods.RsaInterfacesMethod.TheVariants.{RsaPublicKeyIsInitialized, RsaPublicKeySetModulus, RsaPublicKeySetExponent}
use Rattle.jc_platform.specs.declared.key_methods.RsaInterfacesMethod.TheVariants.{RsaPublicKeyGetModulus, RsaPublicKeyGetExponent, RsaPrivateKeyClearKey}
use Rattle.jc_platform.specs.declared.key_methods.RsaInterfacesMethod.TheVariants.{RsaPrivateKeyGetSize, RsaPrivateKeyGetType, RsaPrivateKeyIsInitialized}
use Rattle.jc_platform.specs.declared.key_methods.RsaInterfacesMethod.TheVariants.{RsaPrivateKeySetModulus, RsaPrivateKeySetExponent, RsaPrivateKeyGetModulus}
use Rattle.jc_platform.specs.declared.key_methods.RsaInterfacesMethod.TheVariants.{RsaPrivateKeyGetExponent, RsaPrivateCrtKeyClearKey, RsaPrivateCrtKeyGetSize}
use Rattle.jc_platform.specs.declared.key_methods.RsaInterfacesMethod.TheVariants.{RsaPrivateCrtKeyGetType, RsaPrivateCrtKeyIsInitialized, RsaPrivateCrtKeySetP}
use Rattle.jc_platform.specs.declared.key_methods.RsaInterfacesMethod.TheVariants.{RsaPrivateCrtKeySetQ, RsaPrivateCrtKeySetDp1, RsaPrivateCrtKeySetDq1}
use Rattle.jc_platform.specs.declared.key_methods.RsaInterfacesMethod.TheVariants.{RsaPrivateCrtKeySetPq, RsaPrivateCrtKeyGetP, RsaPrivateCrtKeyGetQ}
use Rattle.jc_platform.specs.declared.key_methods.RsaInterfacesMethod.TheVariants.{RsaPrivateCrtKeyGetDp1, RsaPrivateCrtKeyGetDq1, RsaPrivateCrtKeyGetPq}
use Rattle.jc_platform.specs.declared.key_methods.EcInterfacesMethod.{EcInterfacesMethod}
use Rattle.jc_platform.specs.declared.key_methods.EcInterfacesMethod.TheVariants.{EcKeySetFieldFp, EcKeySetFieldF2m, EcKeySetFieldF2mOfThree, EcKeySetA, EcKeySetB}
use Rattle.jc_platform.specs.declared.key_methods.EcInterfacesMethod.TheVariants.{EcKeySetG, EcKeySetR, EcKeySetK, EcKeyGetField, EcKeyGetA, EcKeyGetB, EcKeyGetG}
use Rattle.jc_platform.specs.declared.key_methods.EcInterfacesMethod.TheVariants.{EcKeyGetR, EcKeyGetK, EcKeyCopyDomainParametersFrom, EcPublicKeyClearKey}
use Rattle.jc_platform.specs.declared.key_methods.EcInterfacesMethod.TheVariants.{EcPublicKeyGetSize, EcPublicKeyGetType, EcPublicKeyIsInitialized}
use Rattle.jc_platform.specs.declared.key_methods.EcInterfacesMethod.TheVariants.{EcPublicKeySetFieldFp, EcPublicKeySetFieldF2m, EcPublicKeySetFieldF2mOfThree}
use Rattle.jc_platform.specs.declared.key_methods.EcInterfacesMethod.TheVariants.{EcPublicKeySetA, EcPublicKeySetB, EcPublicKeySetG, EcPublicKeySetR, EcPublicKeySetK}
use Rattle.jc_platform.specs.declared.key_methods.EcInterfacesMethod.TheVariants.{EcPublicKeyGetField, EcPublicKeyGetA, EcPublicKeyGetB, EcPublicKeyGetG}
use Rattle.jc_platform.specs.declared.key_methods.EcInterfacesMethod.TheVariants.{EcPublicKeyGetR, EcPublicKeyGetK, EcPublicKeyCopyDomainParametersFrom}
use Rattle.jc_platform.specs.declared.key_methods.EcInterfacesMethod.TheVariants.{EcPublicKeySetW, EcPublicKeyGetW, EcPrivateKeyClearKey, EcPrivateKeyGetSize}
use Rattle.jc_platform.specs.declared.key_methods.EcInterfacesMethod.TheVariants.{EcPrivateKeyGetType, EcPrivateKeyIsInitialized, EcPrivateKeySetFieldFp}
use Rattle.jc_platform.specs.declared.key_methods.EcInterfacesMethod.TheVariants.{EcPrivateKeySetFieldF2m, EcPrivateKeySetFieldF2mOfThree, EcPrivateKeySetA}
use Rattle.jc_platform.specs.declared.key_methods.EcInterfacesMethod.TheVariants.{EcPrivateKeySetB, EcPrivateKeySetG, EcPrivateKeySetR, EcPrivateKeySetK}
use Rattle.jc_platform.specs.declared.key_methods.EcInterfacesMethod.TheVariants.{EcPrivateKeyGetField, EcPrivateKeyGetA, EcPrivateKeyGetB, EcPrivateKeyGetG}
use Rattle.jc_platform.specs.declared.key_methods.EcInterfacesMethod.TheVariants.{EcPrivateKeyGetR, EcPrivateKeyGetK, EcPrivateKeyCopyDomainParametersFrom}
use Rattle.jc_platform.specs.declared.key_methods.EcInterfacesMethod.TheVariants.{EcPrivateKeySetS, EcPrivateKeyGetS}
use Rattle.jc_platform.specs.declared.key_methods.KeyPairsMethod.{KeyPairsMethod}
use Rattle.jc_platform.specs.declared.key_methods.KeyPairsMethod.TheVariants.{KeyPairInit, KeyPairInitOfKeys, KeyPairGenKeyPair, KeyPairGetPublic, KeyPairGetPrivate}
use Rattle.jc_platform.specs.declared.key_methods.KeyPairsMethod.TheVariants.{KeyAgreementGetInstance, KeyAgreementInit, KeyAgreementGenerateSecret}
use Rattle.jc_platform.specs.declared.key_methods.KeyPairsMethod.TheVariants.{KeyAgreementGetAlgorithm}

-- how many packages and classes there are
abbrev pub package_count : ℕ
package_count = 5

abbrev pub class_count : ℕ
class_count = 66

-- how many methods each room has
abbrev pub objects_count : ℕ
objects_count = 13

abbrev pub exceptions_count : ℕ
exceptions_count = 23

abbrev pub utilities_count : ℕ
utilities_count = 8

abbrev pub system_count : ℕ
system_count = 22

abbrev pub aids_count : ℕ
aids_count = 7

abbrev pub pins_count : ℕ
pins_count = 13

abbrev pub applets_count : ℕ
applets_count = 9

abbrev pub apdus_count : ℕ
apdus_count = 24

abbrev pub events_count : ℕ
events_count = 3

abbrev pub engines_count : ℕ
engines_count = 18

abbrev pub keys_count : ℕ
keys_count = 8

abbrev pub key_interfaces_count : ℕ
key_interfaces_count = 26

abbrev pub ciphers_count : ℕ
ciphers_count = 21

abbrev pub rsa_keys_count : ℕ
rsa_keys_count = 14

abbrev pub ec_keys_count : ℕ
ec_keys_count = 19

abbrev pub rsa_interfaces_count : ℕ
rsa_interfaces_count = 38

abbrev pub ec_interfaces_count : ℕ
ec_interfaces_count = 57

abbrev pub key_pairs_count : ℕ
key_pairs_count = 9

-- the places of the first method of each room but the first
abbrev pub exceptions_first : ℕ
exceptions_first = objects_count

abbrev pub utilities_first : ℕ
utilities_first = exceptions_first + exceptions_count

abbrev pub system_first : ℕ
system_first = utilities_first + utilities_count

abbrev pub aids_first : ℕ
aids_first = system_first + system_count

abbrev pub pins_first : ℕ
pins_first = aids_first + aids_count

abbrev pub applets_first : ℕ
applets_first = pins_first + pins_count

abbrev pub apdus_first : ℕ
apdus_first = applets_first + applets_count

abbrev pub events_first : ℕ
events_first = apdus_first + apdus_count

abbrev pub engines_first : ℕ
engines_first = events_first + events_count

abbrev pub keys_first : ℕ
keys_first = engines_first + engines_count

abbrev pub key_interfaces_first : ℕ
key_interfaces_first = keys_first + keys_count

abbrev pub ciphers_first : ℕ
ciphers_first = key_interfaces_first + key_interfaces_count

abbrev pub rsa_keys_first : ℕ
rsa_keys_first = ciphers_first + ciphers_count

abbrev pub ec_keys_first : ℕ
ec_keys_first = rsa_keys_first + rsa_keys_count

abbrev pub rsa_interfaces_first : ℕ
rsa_interfaces_first = ec_keys_first + ec_keys_count

abbrev pub ec_interfaces_first : ℕ
ec_interfaces_first = rsa_interfaces_first + rsa_interfaces_count

abbrev pub key_pairs_first : ℕ
key_pairs_first = ec_interfaces_first + ec_interfaces_count

-- how many methods there are
abbrev pub method_count : ℕ
method_count = key_pairs_first + key_pairs_count

-- the place of a package
abbrev pub package_number : PlatformPackage → ℕ
package_number JavaLang = 0
package_number JavacardFramework = 1
package_number JavacardxApdu = 2
package_number JavacardSecurity = 3
package_number JavacardxCrypto = 4

-- each table has the package
abbrev pub is_needed_package : PlatformPackage → Bool
is_needed_package JavaLang = true
is_needed_package JavacardFramework = true
is_needed_package JavacardxApdu = false
is_needed_package JavacardSecurity = false
is_needed_package JavacardxCrypto = false

-- the two are one
abbrev pub same_package : PlatformPackage → PlatformPackage → Bool
same_package a b = package_number a == package_number b

-- the place of a class
abbrev pub class_number : PlatformClass → ℕ
class_number Object = 0
class_number Throwable = 1
class_number Exception = 2
class_number RuntimeException = 3
class_number IndexOutOfBoundsException = 4
class_number ArithmeticException = 5
class_number ArrayIndexOutOfBoundsException = 6
class_number ArrayStoreException = 7
class_number ClassCastException = 8
class_number NegativeArraySizeException = 9
class_number NullPointerException = 10
class_number SecurityException = 11
class_number Shareable = 12
class_number Pin = 13
class_number Applet = 14
class_number Apdu = 15
class_number Aid = 16
class_number JcSystem = 17
class_number Util = 18
class_number OwnerPin = 19
class_number CardException = 20
class_number CardRuntimeException = 21
class_number IsoException = 22
class_number PinException = 23
class_number SystemException = 24
class_number TransactionException = 25
class_number ApduException = 26
class_number UserException = 27
class_number Iso7816 = 28
class_number MultiSelectable = 29
class_number AppletEvent = 30
class_number ExtendedLength = 31
class_number CryptoException = 32
class_number MessageDigest = 33
class_number Checksum = 34
class_number RandomData = 35
class_number InitializedMessageDigest = 36
class_number Key = 37
class_number SecretKey = 38
class_number DesKey = 39
class_number AesKey = 40
class_number HmacKey = 41
class_number KeyBuilder = 42
class_number KeyObject = 43
class_number DesKeyObject = 44
class_number AesKeyObject = 45
class_number HmacKeyObject = 46
class_number Signature = 47
class_number PrivateKey = 48
class_number PublicKey = 49
class_number RsaPublicKey = 50
class_number RsaPrivateKey = 51
class_number RsaPrivateCrtKey = 52
class_number EcKey = 53
class_number EcPublicKey = 54
class_number EcPrivateKey = 55
class_number KeyPair = 56
class_number KeyAgreement = 57
class_number RsaKeyObject = 58
class_number RsaPublicKeyObject = 59
class_number RsaPrivateKeyObject = 60
class_number RsaPrivateCrtKeyObject = 61
class_number EcKeyObject = 62
class_number EcPublicKeyObject = 63
class_number EcPrivateKeyObject = 64
class_number Cipher = 65

-- the two are one
abbrev pub same_class : PlatformClass → PlatformClass → Bool
same_class a b = class_number a == class_number b

-- the place of a kind
abbrev pub kind_number : MethodKind → ℕ
kind_number Static = 0
kind_number Virtual = 1
kind_number Interface = 2

-- the two are one
abbrev pub same_kind : MethodKind → MethodKind → Bool
same_kind a b = kind_number a == kind_number b

-- the place of a method in its room
abbrev pub objects_number : ObjectsMethod → ℕ
objects_number ObjectInit = 0
objects_number ObjectEquals = 1
objects_number ThrowableInit = 2
objects_number ExceptionInit = 3
objects_number RuntimeExceptionInit = 4
objects_number IndexOutOfBoundsExceptionInit = 5
objects_number ArithmeticExceptionInit = 6
objects_number ArrayIndexOutOfBoundsExceptionInit = 7
objects_number ArrayStoreExceptionInit = 8
objects_number ClassCastExceptionInit = 9
objects_number NegativeArraySizeExceptionInit = 10
objects_number NullPointerExceptionInit = 11
objects_number SecurityExceptionInit = 12

abbrev pub exceptions_number : ExceptionsMethod → ℕ
exceptions_number CardExceptionInit = 0
exceptions_number CardExceptionThrowIt = 1
exceptions_number CardExceptionGetReason = 2
exceptions_number CardExceptionSetReason = 3
exceptions_number CardRuntimeExceptionInit = 4
exceptions_number CardRuntimeExceptionThrowIt = 5
exceptions_number CardRuntimeExceptionGetReason = 6
exceptions_number CardRuntimeExceptionSetReason = 7
exceptions_number IsoExceptionInit = 8
exceptions_number IsoExceptionThrowIt = 9
exceptions_number PinExceptionInit = 10
exceptions_number PinExceptionThrowIt = 11
exceptions_number SystemExceptionInit = 12
exceptions_number SystemExceptionThrowIt = 13
exceptions_number TransactionExceptionInit = 14
exceptions_number TransactionExceptionThrowIt = 15
exceptions_number ApduExceptionInit = 16
exceptions_number ApduExceptionThrowIt = 17
exceptions_number UserExceptionInit = 18
exceptions_number UserExceptionThrowIt = 19
exceptions_number UserExceptionInitWithoutReason = 20
exceptions_number CryptoExceptionInit = 21
exceptions_number CryptoExceptionThrowIt = 22

abbrev pub utilities_number : UtilitiesMethod → ℕ
utilities_number UtilArrayCompare = 0
utilities_number UtilArrayCopy = 1
utilities_number UtilGetShort = 2
utilities_number UtilMakeShort = 3
utilities_number UtilSetShort = 4
utilities_number UtilArrayFill = 5
utilities_number UtilArrayCopyNonAtomic = 6
utilities_number UtilArrayFillNonAtomic = 7

abbrev pub system_number : SystemMethod → ℕ
system_number JcSystemAbortTransaction = 0
system_number JcSystemBeginTransaction = 1
system_number JcSystemCommitTransaction = 2
system_number JcSystemGetAid = 3
system_number JcSystemGetAppletShareableInterfaceObject = 4
system_number JcSystemGetMaxCommitCapacity = 5
system_number JcSystemGetPreviousContextAid = 6
system_number JcSystemGetTransactionDepth = 7
system_number JcSystemGetUnusedCommitCapacity = 8
system_number JcSystemIsTransient = 9
system_number JcSystemLookupAid = 10
system_number JcSystemMakeTransientBooleanArray = 11
system_number JcSystemMakeTransientByteArray = 12
system_number JcSystemMakeTransientObjectArray = 13
system_number JcSystemMakeTransientShortArray = 14
system_number JcSystemGetVersion = 15
system_number JcSystemGetAvailableMemory = 16
system_number JcSystemGetAvailableMemoryShorts = 17
system_number JcSystemRequestObjectDeletion = 18
system_number JcSystemIsObjectDeletionSupported = 19
system_number JcSystemIsAppletActive = 20
system_number JcSystemGetAssignedChannel = 21

abbrev pub aids_number : AidsMethod → ℕ
aids_number AidInit = 0
aids_number AidEquals = 1
aids_number AidEqualsBytes = 2
aids_number AidGetBytes = 3
aids_number AidRidEquals = 4
aids_number AidPartialEquals = 5
aids_number AidGetPartialBytes = 6

abbrev pub pins_number : PinsMethod → ℕ
pins_number PinCheck = 0
pins_number PinGetTriesRemaining = 1
pins_number PinIsValidated = 2
pins_number PinReset = 3
pins_number OwnerPinInit = 4
pins_number OwnerPinCheck = 5
pins_number OwnerPinGetTriesRemaining = 6
pins_number OwnerPinIsValidated = 7
pins_number OwnerPinReset = 8
pins_number OwnerPinResetAndUnblock = 9
pins_number OwnerPinUpdate = 10
pins_number OwnerPinGetValidatedFlag = 11
pins_number OwnerPinSetValidatedFlag = 12

abbrev pub applets_number : AppletsMethod → ℕ
applets_number AppletInit = 0
applets_number AppletDeselect = 1
applets_number AppletGetShareableInterfaceObject = 2
applets_number AppletRegister = 3
applets_number AppletRegisterBytes = 4
applets_number AppletSelect = 5
applets_number AppletSelectingApplet = 6
applets_number AppletProcess = 7
applets_number AppletReSelectingApplet = 8

abbrev pub apdus_number : ApdusMethod → ℕ
apdus_number ApduGetBuffer = 0
apdus_number ApduReceiveBytes = 1
apdus_number ApduSendBytes = 2
apdus_number ApduSetIncomingAndReceive = 3
apdus_number ApduSetOutgoing = 4
apdus_number ApduSetOutgoingAndSend = 5
apdus_number ApduSetOutgoingLength = 6
apdus_number ApduGetIncomingLength = 7
apdus_number ApduGetOffsetCdata = 8
apdus_number ApduSendBytesLong = 9
apdus_number ApduGetCurrentState = 10
apdus_number ApduGetProtocol = 11
apdus_number ApduGetNad = 12
apdus_number ApduGetClaChannel = 13
apdus_number ApduGetInBlockSize = 14
apdus_number ApduGetOutBlockSize = 15
apdus_number ApduIsIsoInterindustryCla = 16
apdus_number ApduIsCommandChainingCla = 17
apdus_number ApduIsSecureMessagingCla = 18
apdus_number ApduIsValidCla = 19
apdus_number ApduSetOutgoingNoChaining = 20
apdus_number ApduWaitExtension = 21
apdus_number ApduGetCurrentApdu = 22
apdus_number ApduGetCurrentApduBuffer = 23

abbrev pub events_number : EventsMethod → ℕ
events_number MultiSelectableSelect = 0
events_number MultiSelectableDeselect = 1
events_number AppletEventUninstall = 2

abbrev pub engines_number : EnginesMethod → ℕ
engines_number MessageDigestGetInstance = 0
engines_number MessageDigestGetAlgorithm = 1
engines_number MessageDigestGetLength = 2
engines_number MessageDigestUpdate = 3
engines_number MessageDigestDoFinal = 4
engines_number MessageDigestReset = 5
engines_number MessageDigestGetInitializedMessageDigestInstance = 6
engines_number ChecksumGetInstance = 7
engines_number ChecksumGetAlgorithm = 8
engines_number ChecksumInit = 9
engines_number ChecksumUpdate = 10
engines_number ChecksumDoFinal = 11
engines_number RandomDataGetInstance = 12
engines_number RandomDataGenerateData = 13
engines_number RandomDataNextBytes = 14
engines_number RandomDataSetSeed = 15
engines_number RandomDataGetAlgorithm = 16
engines_number InitializedMessageDigestSetInitialDigest = 17

abbrev pub keys_number : KeysMethod → ℕ
keys_number KeyBuilderBuildKey = 0
keys_number KeyObjectClearKey = 1
keys_number KeyObjectGetSize = 2
keys_number KeyObjectGetType = 3
keys_number KeyObjectIsInitialized = 4
keys_number KeyObjectGetKey = 5
keys_number KeyObjectSetKey = 6
keys_number HmacKeyObjectSetKey = 7

abbrev pub key_interfaces_number : KeyInterfacesMethod → ℕ
key_interfaces_number KeyClearKey = 0
key_interfaces_number KeyGetSize = 1
key_interfaces_number KeyGetType = 2
key_interfaces_number KeyIsInitialized = 3
key_interfaces_number SecretKeyClearKey = 4
key_interfaces_number SecretKeyGetSize = 5
key_interfaces_number SecretKeyGetType = 6
key_interfaces_number SecretKeyIsInitialized = 7
key_interfaces_number DesKeyClearKey = 8
key_interfaces_number DesKeyGetSize = 9
key_interfaces_number DesKeyGetType = 10
key_interfaces_number DesKeyIsInitialized = 11
key_interfaces_number DesKeyGetKey = 12
key_interfaces_number DesKeySetKey = 13
key_interfaces_number AesKeyClearKey = 14
key_interfaces_number AesKeyGetSize = 15
key_interfaces_number AesKeyGetType = 16
key_interfaces_number AesKeyIsInitialized = 17
key_interfaces_number AesKeyGetKey = 18
key_interfaces_number AesKeySetKey = 19
key_interfaces_number HmacKeyClearKey = 20
key_interfaces_number HmacKeyGetSize = 21
key_interfaces_number HmacKeyGetType = 22
key_interfaces_number HmacKeyIsInitialized = 23
key_interfaces_number HmacKeyGetKey = 24
key_interfaces_number HmacKeySetKey = 25

abbrev pub ciphers_number : CiphersMethod → ℕ
ciphers_number CipherGetInstance = 0
ciphers_number CipherGetInstanceOfCipherAndPadding = 1
ciphers_number CipherInit = 2
ciphers_number CipherInitWithVector = 3
ciphers_number CipherUpdate = 4
ciphers_number CipherDoFinal = 5
ciphers_number CipherGetAlgorithm = 6
ciphers_number CipherGetCipherAlgorithm = 7
ciphers_number CipherGetPaddingAlgorithm = 8
ciphers_number SignatureGetInstance = 9
ciphers_number SignatureGetInstanceOfDigestCipherAndPadding = 10
ciphers_number SignatureInit = 11
ciphers_number SignatureInitWithVector = 12
ciphers_number SignatureUpdate = 13
ciphers_number SignatureSign = 14
ciphers_number SignatureVerify = 15
ciphers_number SignatureGetAlgorithm = 16
ciphers_number SignatureGetMessageDigestAlgorithm = 17
ciphers_number SignatureGetCipherAlgorithm = 18
ciphers_number SignatureGetPaddingAlgorithm = 19
ciphers_number SignatureGetLength = 20

abbrev pub rsa_keys_number : RsaKeysMethod → ℕ
rsa_keys_number RsaKeyObjectSetModulus = 0
rsa_keys_number RsaKeyObjectSetExponent = 1
rsa_keys_number RsaKeyObjectGetModulus = 2
rsa_keys_number RsaKeyObjectGetExponent = 3
rsa_keys_number RsaPrivateCrtKeyObjectSetP = 4
rsa_keys_number RsaPrivateCrtKeyObjectSetQ = 5
rsa_keys_number RsaPrivateCrtKeyObjectSetDp1 = 6
rsa_keys_number RsaPrivateCrtKeyObjectSetDq1 = 7
rsa_keys_number RsaPrivateCrtKeyObjectSetPq = 8
rsa_keys_number RsaPrivateCrtKeyObjectGetP = 9
rsa_keys_number RsaPrivateCrtKeyObjectGetQ = 10
rsa_keys_number RsaPrivateCrtKeyObjectGetDp1 = 11
rsa_keys_number RsaPrivateCrtKeyObjectGetDq1 = 12
rsa_keys_number RsaPrivateCrtKeyObjectGetPq = 13

abbrev pub ec_keys_number : EcKeysMethod → ℕ
ec_keys_number EcKeyObjectSetFieldFp = 0
ec_keys_number EcKeyObjectSetFieldF2m = 1
ec_keys_number EcKeyObjectSetFieldF2mOfThree = 2
ec_keys_number EcKeyObjectSetA = 3
ec_keys_number EcKeyObjectSetB = 4
ec_keys_number EcKeyObjectSetG = 5
ec_keys_number EcKeyObjectSetR = 6
ec_keys_number EcKeyObjectSetK = 7
ec_keys_number EcKeyObjectGetField = 8
ec_keys_number EcKeyObjectGetA = 9
ec_keys_number EcKeyObjectGetB = 10
ec_keys_number EcKeyObjectGetG = 11
ec_keys_number EcKeyObjectGetR = 12
ec_keys_number EcKeyObjectGetK = 13
ec_keys_number EcKeyObjectCopyDomainParametersFrom = 14
ec_keys_number EcPublicKeyObjectSetW = 15
ec_keys_number EcPublicKeyObjectGetW = 16
ec_keys_number EcPrivateKeyObjectSetS = 17
ec_keys_number EcPrivateKeyObjectGetS = 18

abbrev pub rsa_interfaces_number : RsaInterfacesMethod → ℕ
rsa_interfaces_number PrivateKeyClearKey = 0
rsa_interfaces_number PrivateKeyGetSize = 1
rsa_interfaces_number PrivateKeyGetType = 2
rsa_interfaces_number PrivateKeyIsInitialized = 3
rsa_interfaces_number PublicKeyClearKey = 4
rsa_interfaces_number PublicKeyGetSize = 5
rsa_interfaces_number PublicKeyGetType = 6
rsa_interfaces_number PublicKeyIsInitialized = 7
rsa_interfaces_number RsaPublicKeyClearKey = 8
rsa_interfaces_number RsaPublicKeyGetSize = 9
rsa_interfaces_number RsaPublicKeyGetType = 10
rsa_interfaces_number RsaPublicKeyIsInitialized = 11
rsa_interfaces_number RsaPublicKeySetModulus = 12
rsa_interfaces_number RsaPublicKeySetExponent = 13
rsa_interfaces_number RsaPublicKeyGetModulus = 14
rsa_interfaces_number RsaPublicKeyGetExponent = 15
rsa_interfaces_number RsaPrivateKeyClearKey = 16
rsa_interfaces_number RsaPrivateKeyGetSize = 17
rsa_interfaces_number RsaPrivateKeyGetType = 18
rsa_interfaces_number RsaPrivateKeyIsInitialized = 19
rsa_interfaces_number RsaPrivateKeySetModulus = 20
rsa_interfaces_number RsaPrivateKeySetExponent = 21
rsa_interfaces_number RsaPrivateKeyGetModulus = 22
rsa_interfaces_number RsaPrivateKeyGetExponent = 23
rsa_interfaces_number RsaPrivateCrtKeyClearKey = 24
rsa_interfaces_number RsaPrivateCrtKeyGetSize = 25
rsa_interfaces_number RsaPrivateCrtKeyGetType = 26
rsa_interfaces_number RsaPrivateCrtKeyIsInitialized = 27
rsa_interfaces_number RsaPrivateCrtKeySetP = 28
rsa_interfaces_number RsaPrivateCrtKeySetQ = 29
rsa_interfaces_number RsaPrivateCrtKeySetDp1 = 30
rsa_interfaces_number RsaPrivateCrtKeySetDq1 = 31
rsa_interfaces_number RsaPrivateCrtKeySetPq = 32
rsa_interfaces_number RsaPrivateCrtKeyGetP = 33
rsa_interfaces_number RsaPrivateCrtKeyGetQ = 34
rsa_interfaces_number RsaPrivateCrtKeyGetDp1 = 35
rsa_interfaces_number RsaPrivateCrtKeyGetDq1 = 36
rsa_interfaces_number RsaPrivateCrtKeyGetPq = 37

abbrev pub ec_interfaces_number : EcInterfacesMethod → ℕ
ec_interfaces_number EcKeySetFieldFp = 0
ec_interfaces_number EcKeySetFieldF2m = 1
ec_interfaces_number EcKeySetFieldF2mOfThree = 2
ec_interfaces_number EcKeySetA = 3
ec_interfaces_number EcKeySetB = 4
ec_interfaces_number EcKeySetG = 5
ec_interfaces_number EcKeySetR = 6
ec_interfaces_number EcKeySetK = 7
ec_interfaces_number EcKeyGetField = 8
ec_interfaces_number EcKeyGetA = 9
ec_interfaces_number EcKeyGetB = 10
ec_interfaces_number EcKeyGetG = 11
ec_interfaces_number EcKeyGetR = 12
ec_interfaces_number EcKeyGetK = 13
ec_interfaces_number EcKeyCopyDomainParametersFrom = 14
ec_interfaces_number EcPublicKeyClearKey = 15
ec_interfaces_number EcPublicKeyGetSize = 16
ec_interfaces_number EcPublicKeyGetType = 17
ec_interfaces_number EcPublicKeyIsInitialized = 18
ec_interfaces_number EcPublicKeySetFieldFp = 19
ec_interfaces_number EcPublicKeySetFieldF2m = 20
ec_interfaces_number EcPublicKeySetFieldF2mOfThree = 21
ec_interfaces_number EcPublicKeySetA = 22
ec_interfaces_number EcPublicKeySetB = 23
ec_interfaces_number EcPublicKeySetG = 24
ec_interfaces_number EcPublicKeySetR = 25
ec_interfaces_number EcPublicKeySetK = 26
ec_interfaces_number EcPublicKeyGetField = 27
ec_interfaces_number EcPublicKeyGetA = 28
ec_interfaces_number EcPublicKeyGetB = 29
ec_interfaces_number EcPublicKeyGetG = 30
ec_interfaces_number EcPublicKeyGetR = 31
ec_interfaces_number EcPublicKeyGetK = 32
ec_interfaces_number EcPublicKeyCopyDomainParametersFrom = 33
ec_interfaces_number EcPublicKeySetW = 34
ec_interfaces_number EcPublicKeyGetW = 35
ec_interfaces_number EcPrivateKeyClearKey = 36
ec_interfaces_number EcPrivateKeyGetSize = 37
ec_interfaces_number EcPrivateKeyGetType = 38
ec_interfaces_number EcPrivateKeyIsInitialized = 39
ec_interfaces_number EcPrivateKeySetFieldFp = 40
ec_interfaces_number EcPrivateKeySetFieldF2m = 41
ec_interfaces_number EcPrivateKeySetFieldF2mOfThree = 42
ec_interfaces_number EcPrivateKeySetA = 43
ec_interfaces_number EcPrivateKeySetB = 44
ec_interfaces_number EcPrivateKeySetG = 45
ec_interfaces_number EcPrivateKeySetR = 46
ec_interfaces_number EcPrivateKeySetK = 47
ec_interfaces_number EcPrivateKeyGetField = 48
ec_interfaces_number EcPrivateKeyGetA = 49
ec_interfaces_number EcPrivateKeyGetB = 50
ec_interfaces_number EcPrivateKeyGetG = 51
ec_interfaces_number EcPrivateKeyGetR = 52
ec_interfaces_number EcPrivateKeyGetK = 53
ec_interfaces_number EcPrivateKeyCopyDomainParametersFrom = 54
ec_interfaces_number EcPrivateKeySetS = 55
ec_interfaces_number EcPrivateKeyGetS = 56

abbrev pub key_pairs_number : KeyPairsMethod → ℕ
key_pairs_number KeyPairInit = 0
key_pairs_number KeyPairInitOfKeys = 1
key_pairs_number KeyPairGenKeyPair = 2
key_pairs_number KeyPairGetPublic = 3
key_pairs_number KeyPairGetPrivate = 4
key_pairs_number KeyAgreementGetInstance = 5
key_pairs_number KeyAgreementInit = 6
key_pairs_number KeyAgreementGenerateSecret = 7
key_pairs_number KeyAgreementGetAlgorithm = 8

-- the place of a method
abbrev pub method_number : PlatformMethod → ℕ
method_number (Objects m) = objects_number m
method_number (Exceptions m) = exceptions_first + exceptions_number m
method_number (Utilities m) = utilities_first + utilities_number m
method_number (System m) = system_first + system_number m
method_number (Aids m) = aids_first + aids_number m
method_number (Pins m) = pins_first + pins_number m
method_number (Applets m) = applets_first + applets_number m
method_number (Apdus m) = apdus_first + apdus_number m
method_number (Events m) = events_first + events_number m
method_number (Engines m) = engines_first + engines_number m
method_number (Keys m) = keys_first + keys_number m
method_number (KeyInterfaces m) = key_interfaces_first + key_interfaces_number m
method_number (Ciphers m) = ciphers_first + ciphers_number m
method_number (RsaKeys m) = rsa_keys_first + rsa_keys_number m
method_number (EcKeys m) = ec_keys_first + ec_keys_number m
method_number (RsaInterfaces m) = rsa_interfaces_first + rsa_interfaces_number m
method_number (EcInterfaces m) = ec_interfaces_first + ec_interfaces_number m
method_number (KeyPairs m) = key_pairs_first + key_pairs_number m

-- the two are one
abbrev pub same_method : PlatformMethod → PlatformMethod → Bool
same_method a b = method_number a == method_number b
