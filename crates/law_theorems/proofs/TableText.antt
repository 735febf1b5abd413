-- A platform table: its text, and what it tells.
use Rattle.std.specs.Prelude.{ℕ, ◌-◌, List, [], ◌∷◌, ◌++◌, codes, length, map, replicate, Option, None, Some}
use Rattle.jc_platform.specs.declared.names.PlatformPackage.TheVariants.{JavaLang}
use Rattle.jc_platform.specs.Numbers.{package_count, class_count, method_count, objects_count, exceptions_count, utilities_count, system_count, aids_count}
use Rattle.jc_platform.specs.Numbers.{pins_count, applets_count, apdus_count, events_first}
use Rattle.jc_platform.specs.Table.{no_random}
use Rattle.jc_platform.specs.Tokens.{Tokens}

abbrev pub table_lines : List (List ℕ)
table_lines =
    codes "package A0000000620001 1 0" ∷
    codes "class 0 Object" ∷
    codes "static 0 <init>" ∷
    codes "virtual 0 equals" ∷
    codes "class 1 Throwable" ∷
    codes "static 0 <init>" ∷
    codes "class 2 Exception" ∷
    codes "static 0 <init>" ∷
    codes "class 3 RuntimeException" ∷
    codes "static 0 <init>" ∷
    codes "class 4 IndexOutOfBoundsException" ∷
    codes "static 0 <init>" ∷
    codes "class 5 ArithmeticException" ∷
    codes "static 0 <init>" ∷
    codes "class 6 ArrayIndexOutOfBoundsException" ∷
    codes "static 0 <init>" ∷
    codes "class 7 ArrayStoreException" ∷
    codes "static 0 <init>" ∷
    codes "class 8 ClassCastException" ∷
    codes "static 0 <init>" ∷
    codes "class 9 NegativeArraySizeException" ∷
    codes "static 0 <init>" ∷
    codes "class 10 NullPointerException" ∷
    codes "static 0 <init>" ∷
    codes "class 11 SecurityException" ∷
    codes "static 0 <init>" ∷
    codes "package A0000000620101 1 0" ∷
    codes "class 0 Shareable" ∷
    codes "class 1 PIN" ∷
    codes "interface 0 check" ∷
    codes "interface 1 getTriesRemaining" ∷
    codes "interface 2 isValidated" ∷
    codes "interface 3 reset" ∷
    codes "class 2 Applet" ∷
    codes "static 0 <init>" ∷
    codes "virtual 1 deselect" ∷
    codes "virtual 2 getShareableInterfaceObject" ∷
    codes "virtual 3 register" ∷
    codes "virtual 4 registerBytes" ∷
    codes "virtual 5 select" ∷
    codes "virtual 6 selectingApplet" ∷
    codes "virtual 7 process" ∷
    codes "class 3 APDU" ∷
    codes "virtual 1 getBuffer" ∷
    codes "virtual 2 receiveBytes" ∷
    codes "virtual 3 sendBytes" ∷
    codes "virtual 4 setIncomingAndReceive" ∷
    codes "virtual 5 setOutgoing" ∷
    codes "virtual 6 setOutgoingAndSend" ∷
    codes "virtual 7 setOutgoingLength" ∷
    codes "class 4 AID" ∷
    codes "static 0 <init>" ∷
    codes "virtual 0 equals" ∷
    codes "virtual 1 equalsBytes" ∷
    codes "virtual 2 getBytes" ∷
    codes "class 5 JCSystem" ∷
    codes "static 0 abortTransaction" ∷
    codes "static 1 beginTransaction" ∷
    codes "static 2 commitTransaction" ∷
    codes "static 3 getAID" ∷
    codes "static 4 getAppletShareableInterfaceObject" ∷
    codes "static 5 getMaxCommitCapacity" ∷
    codes "static 6 getPreviousContextAID" ∷
    codes "static 7 getTransactionDepth" ∷
    codes "static 8 getUnusedCommitCapacity" ∷
    codes "static 9 isTransient" ∷
    codes "static 10 lookupAID" ∷
    codes "static 11 makeTransientBooleanArray" ∷
    codes "static 12 makeTransientByteArray" ∷
    codes "static 13 makeTransientObjectArray" ∷
    codes "static 14 makeTransientShortArray" ∷
    codes "class 6 Util" ∷
    codes "static 0 arrayCompare" ∷
    codes "static 1 arrayCopy" ∷
    codes "static 2 getShort" ∷
    codes "static 3 makeShort" ∷
    codes "static 4 setShort" ∷
    codes "class 7 OwnerPIN" ∷
    codes "static 0 <init>" ∷
    codes "virtual 1 check" ∷
    codes "virtual 2 getTriesRemaining" ∷
    codes "virtual 3 isValidated" ∷
    codes "virtual 4 reset" ∷
    codes "virtual 5 resetAndUnblock" ∷
    codes "virtual 6 update" ∷
    codes "class 8 CardException" ∷
    codes "static 0 <init>" ∷
    codes "static 1 throwIt" ∷
    codes "virtual 1 getReason" ∷
    codes "virtual 2 setReason" ∷
    codes "class 9 CardRuntimeException" ∷
    codes "static 0 <init>" ∷
    codes "static 1 throwIt" ∷
    codes "virtual 1 getReason" ∷
    codes "virtual 2 setReason" ∷
    codes "class 10 ISOException" ∷
    codes "static 0 <init>" ∷
    codes "static 1 throwIt" ∷
    codes "class 11 PINException" ∷
    codes "static 0 <init>" ∷
    codes "static 1 throwIt" ∷
    codes "class 12 SystemException" ∷
    codes "static 0 <init>" ∷
    codes "static 1 throwIt" ∷
    codes "class 13 TransactionException" ∷
    codes "static 0 <init>" ∷
    codes "static 1 throwIt" ∷
    codes "class 14 APDUException" ∷
    codes "static 0 <init>" ∷
    codes "static 1 throwIt" ∷
    codes "class 15 UserException" ∷
    codes "static 0 <init>" ∷
    codes "static 1 throwIt" ∷
    []

-- lines, each ended by a line feed
abbrev pub text_of_lines : List (List ℕ) → List ℕ
text_of_lines [] = []
text_of_lines (line ∷ more) = line ++ 10 ∷ text_of_lines more

abbrev pub table_text : List ℕ
table_text = text_of_lines table_lines

-- as many tokens, of which the first are there
abbrev pub padded : ℕ → List ℕ → List (Option ℕ)
padded count tokens = map (λ token. Some token) tokens ++ replicate (count - length tokens) None

-- the names that it has, by their numbers: of the packages, the classes and each room the first ones
abbrev pub table : Tokens
table = record {
  first = JavaLang;
  versions = Some (record { major = 1; minor = 0 }) ∷ Some (record { major = 1; minor = 0 }) ∷ replicate (package_count - 2) None;
  class_tokens =
      padded class_count (0 ∷ 1 ∷ 2 ∷ 3 ∷ 4 ∷ 5 ∷ 6 ∷ 7 ∷ 8 ∷ 9 ∷ 10 ∷ 11 ∷ 0 ∷ 1 ∷ 2 ∷ 3 ∷ 4 ∷ 5 ∷ 6 ∷ 7 ∷ 8 ∷ 9 ∷ 10 ∷ 11 ∷ 12 ∷ 13 ∷ 14 ∷ 15 ∷ []);
  method_tokens =
      padded objects_count (0 ∷ 0 ∷ 0 ∷ 0 ∷ 0 ∷ 0 ∷ 0 ∷ 0 ∷ 0 ∷ 0 ∷ 0 ∷ 0 ∷ 0 ∷ []) ++ (
      padded exceptions_count (0 ∷ 1 ∷ 1 ∷ 2 ∷ 0 ∷ 1 ∷ 1 ∷ 2 ∷ 0 ∷ 1 ∷ 0 ∷ 1 ∷ 0 ∷ 1 ∷ 0 ∷ 1 ∷ 0 ∷ 1 ∷ 0 ∷ 1 ∷ []) ++ (
      padded utilities_count (0 ∷ 1 ∷ 2 ∷ 3 ∷ 4 ∷ []) ++ (
      padded system_count (0 ∷ 1 ∷ 2 ∷ 3 ∷ 4 ∷ 5 ∷ 6 ∷ 7 ∷ 8 ∷ 9 ∷ 10 ∷ 11 ∷ 12 ∷ 13 ∷ 14 ∷ []) ++ (
      padded aids_count (0 ∷ 0 ∷ 1 ∷ 2 ∷ []) ++ (
      padded pins_count (0 ∷ 1 ∷ 2 ∷ 3 ∷ 0 ∷ 1 ∷ 2 ∷ 3 ∷ 4 ∷ 5 ∷ 6 ∷ []) ++ (
      padded applets_count (0 ∷ 1 ∷ 2 ∷ 3 ∷ 4 ∷ 5 ∷ 6 ∷ 7 ∷ []) ++ (
      padded apdus_count (1 ∷ 2 ∷ 3 ∷ 4 ∷ 5 ∷ 6 ∷ 7 ∷ []) ++ (
      replicate (method_count - events_first) None))))))));
  random = no_random;
}
