-- Records, one after the other.
use Rattle.std.proofs.Common.{◌≡◌, ℕ, zero, suc, ◌-◌, ◌+◌, ◌≤◌, ◌<◌, List, [], ◌∷◌, ◌++◌, length, get_or, drop, Bool, true, false, ◌||◌, eqb, Option, Some}
use Rattle.std.proofs.Common.{None, Result, Ok, Err, refl, sym, ap, subst, ◌∙◌, append_assoc, arith}
use Rattle.std.specs.Prelude.{slice_get, IfOk, IsOk}
use Rattle.std.proofs.lemmas.List.{length-append, drop-drop, drop_at, drop_all, append-nil, nil_from_length}
use Rattle.std.proofs.lemmas.Bool.{ne_eqb, eqb-true, false≢true}
use Rattle.std.proofs.lemmas.Option.{get_or_from_slice_get}
use Rattle.jc_cap.specs.declared.fault.CapFault.{CapFault}
use Rattle.jc_cap.specs.declared.fault.CapFault.TheVariants.{BadOffset}
use Rattle.jc_cap.specs.declared.formats.Format.{Format}
use Rattle.jc_cap.specs.declared.class_refs.ClassRef.{ClassRef}
use Rattle.jc_cap.specs.Reading.{◌>>=◌, Field, ParsesAs}
use Rattle.jc_cap.proofs.Many.{bind_ok, ok_is}
use Rattle.jc_cap.specs.declared.class_records.ClassRecord.{ClassRecord}
use Rattle.jc_cap.specs.ClassValues.{RecordAt, offsets_of, contents_of}
use Rattle.jc_cap.specs.ClassReading.{is_among, is_earlier, any_class, record_at, records_at, records_start, classes_of, record_offsets_or_none}
use Rattle.jc_cap.specs.Classes.{AreRecords, AreClasses}
use Rattle.jc_cap.proofs.Among.{looks_back, knows_back}
use Rattle.jc_cap.proofs.Starts.{start_place, start_again}
use Rattle.jc_cap.proofs.ClassTelling.{record_takes, record_again, record_long, record_reread}

abbrev Records : Type 0
Records = Result (List RecordAt) CapFault

-- one record, and the others
pub records_step : (most total : ℕ) (before bytes next : List ℕ) (x : ClassRecord) → 0 < length bytes → record_at (is_earlier before) bytes ≡ Ok (x, next)
    → records_at (suc most) total before bytes ≡ (records_at most total (before ++ (total - length bytes) ∷ []) next >>= λ others. Ok
    (record { offset = total - length bytes; contents = x } ∷ others))
unfolding records_at
records_step most total before [] next x long e = absurd (omega (arith, long))
records_step most total before (b ∷ bytes) next x long e = rw e refl

records_fail : (most total : ℕ) (before bytes : List ℕ) (f : CapFault) → 0 < length bytes → record_at (is_earlier before) bytes ≡ Err f
    → records_at (suc most) total before bytes ≡ Err f
unfolding records_at
records_fail most total before [] f long e = absurd (omega (arith, long))
records_fail most total before (b ∷ bytes) f long e = rw e refl

records_end : (most total : ℕ) (before : List ℕ) → records_at most total before [] ≡ Ok []
unfolding records_at
records_end zero total before = refl
records_end (suc most) total before = refl

records_full : (total : ℕ) (before bytes : List ℕ) → 0 < length bytes → records_at 0 total before bytes ≡ Err BadOffset
unfolding records_at
records_full total before [] long = absurd (omega (arith, long))
records_full total before (b ∷ bytes) long = refl

-- ---- the grammar

pub record Stands (most at : ℕ) (before : List ℕ) (rs : List RecordAt) (text : List ℕ) : Type 0 where
  pub few : length rs ≤ most
  pub are : AreRecords at before rs text

behind : (total a b c : ℕ) → a ≡ b + c → a ≤ total → total - a + b ≡ total - c
behind total a b c e le = omega (arith, e, le)

records_take : (most total : ℕ) (before bytes : List ℕ) (rs : List RecordAt) → length bytes ≤ total → records_at most total before bytes ≡ Ok rs
    → Stands most (total - length bytes) before rs bytes
unfolding records_at
records_take zero total before [] rs le e = subst (λ (y : List RecordAt). Stands 0 (total - 0) before y []) (ok_is [] rs e)
    (record { few = omega arith; are = refl })
records_take zero total before (b ∷ bytes) rs le e = absurd cc
records_take (suc most) total before [] rs le e = subst (λ (y : List RecordAt). Stands (suc most) (total - 0) before y []) (ok_is [] rs e)
    (record { few = omega arith; are = refl })
records_take (suc most) total before (b ∷ bytes) rs le e =
    let at = total - suc (length bytes) in
    let first = bind_ok (record_at (is_earlier before) (b ∷ bytes)) _ rs e in
    let others = bind_ok (records_at most total (before ++ (total - suc (length bytes)) ∷ []) first.0.1) _ rs first.2 in
    let t = record_takes (is_earlier before) (b ∷ bytes) first.0.0 first.0.1 first.1 in
    let long : suc (length bytes) ≡ length t.taken.text + length first.0.1 = ap length t.taken.parts ∙ length-append t.taken.text first.0.1 in
    let s = records_take most total (before ++ (total - suc (length bytes)) ∷ []) first.0.1 others.0 (omega (arith, long, le)) others.1 in
    let back : AreRecords (total - suc (length bytes) + length t.taken.text) (before ++ (total - suc (length bytes)) ∷ []) others.0 first.0.1 =
    subst (λ (k : ℕ). AreRecords k (before ++ (total - suc (length bytes)) ∷ []) others.0 first.0.1)
    (sym (behind total (suc (length bytes)) (length t.taken.text) (length first.0.1) long le)) s.are in
    subst (λ (y : List RecordAt). Stands (suc most) (total - suc (length bytes)) before y (b ∷ bytes))
    (ok_is (record { offset = total - suc (length bytes); contents = first.0.0 } ∷ others.0) rs others.2)
    (record { few = omega (arith, s.few); are = (t.taken.text, first.0.1, refl, t.taken.is, looks_back before first.0.0 t.is_known, t.taken.parts, back) })

records_again : (most total at : ℕ) (before : List ℕ) (rs : List RecordAt) (text : List ℕ) → length rs ≤ most → total ≡ at + length text
    → AreRecords at before rs text → records_at most total before text ≡ Ok rs
records_again most total at before [] text few sum are = ap (records_at most total before) are ∙ records_end most total before
records_again zero total at before (r ∷ rs) text few sum are = absurd (omega (arith, few))
records_again (suc most) total at before (r ∷ rs) text few sum are =
    let long = record_long r.contents are.0 are.3 in
    let size : length text ≡ length are.0 + length are.1 = ap length are.5 ∙ length-append are.0 are.1 in
    let read : record_at (is_earlier before) text ≡ Ok (r.contents, are.1) = ap (record_at (is_earlier before)) are.5
    ∙ record_again (is_earlier before) r.contents are.0 are.1 are.3 (knows_back before r.contents are.4) in
    let place : total - length text ≡ at = omega (arith, sum) in
    let others = records_again most total (at + length are.0) (before ++ at ∷ []) rs are.1 (omega (arith, few)) (omega (arith, sum, size)) are.6 in
    let there : records_at most total (before ++ (total - length text) ∷ []) are.1 ≡ Ok rs = rw place others in
    records_step most total before text are.1 r.contents (omega (arith, long, size)) read ∙ rw (there, place, sym are.2) refl

pub classes_take : (format : Format) (info : List ℕ) (rs : List RecordAt) → classes_of format info ≡ Ok rs → AreClasses format rs info
unfolding classes_of
classes_take format info rs e =
    let start = bind_ok (records_start format info) _ rs e in
    let place = start_place format info start.0 start.1 in
    let s = records_take 256 (length info) [] start.0 rs place.long start.2 in
    (place.front.text, start.0, place.front.is, place.front.parts, s.few, subst (λ (k : ℕ). AreRecords k [] rs start.0) place.at s.are)

pub classes_again : (format : Format) (info : List ℕ) (rs : List RecordAt) → AreClasses format rs info → classes_of format info ≡ Ok rs
unfolding classes_of
classes_again format info rs are =
    let start : records_start format info ≡ Ok are.1 = ap (records_start format) are.3 ∙ start_again format are.0 are.1 are.2 in
    let size : length info ≡ length are.0 + length are.1 = ap length are.3 ∙ length-append are.0 are.1 in
    rw start (records_again 256 (length info) (length are.0) [] rs are.1 are.4 size are.5)

pub classes_found : {X : Type 0} (view : X → List RecordAt) (format : Format) (info : List ℕ) (r : Result X CapFault) → ParsesAs view r (classes_of format info)
    → IfOk r (λ x. AreClasses format (view x) info)
classes_found view format info (Ok x) given = classes_take format info (view x) given
classes_found view format info (Err f) given = tt

pub classes_only : {X : Type 0} (view : X → List RecordAt) (format : Format) (info : List ℕ) (r : Result X CapFault) → ParsesAs view r (classes_of format info)
    → (rs : List RecordAt) → AreClasses format rs info → ParsesAs view r (Ok rs)
classes_only view format info r given rs are = subst (λ (y : Records). ParsesAs view r y) (classes_again format info rs are) given

-- ---- the walk over all records, which keeps their offsets

-- the offsets so far, and those of the records to come
abbrev pub so_far : List ℕ → Records → Result (List ℕ) CapFault
so_far before (Ok rs) = Ok (before ++ offsets_of rs)
so_far before (Err f) = Err f

one_more : (before : List ℕ) (at : ℕ) (x : ClassRecord) (r : Records) → so_far before (r >>= λ o. Ok (record { offset = at; contents = x } ∷ o))
    ≡ so_far (before ++ at ∷ []) r
one_more before at x (Ok o) = ap Ok (sym (append_assoc before (at ∷ []) (offsets_of o)))
one_more before at x (Err f) = refl

pub walk_goes_on : (n total at : ℕ) (before bytes next : List ℕ) (x : ClassRecord) (all : Result (List ℕ) CapFault) → n < 256 → 0 < length bytes
    → at ≡ total - length bytes → record_at (is_earlier before) bytes ≡ Ok (x, next)
    → so_far before (records_at (256 - n) total before bytes) ≡ all → so_far (before ++ at ∷ []) (records_at (256 - (n + 1)) total (before ++ at ∷ []) next)
    ≡ all
walk_goes_on n total at before bytes next x all some long at-is h e =
    let m : 256 - n ≡ suc (256 - (n + 1)) = omega arith in
    let one : so_far before (records_at (256 - n) total before bytes) ≡ so_far (before ++ (total - length bytes) ∷ [])
    (records_at (256 - (n + 1)) total (before ++ (total - length bytes) ∷ []) next) =
    ap (λ (k : ℕ). so_far before (records_at k total before bytes)) m ∙ ap (so_far before) (records_step (256 - (n + 1)) total before bytes next x long h)
    ∙ one_more before (total - length bytes) x (records_at (256 - (n + 1)) total (before ++ (total - length bytes) ∷ []) next) in
    rw at-is (sym one ∙ e)

pub walk_fails : (n total : ℕ) (before bytes : List ℕ) (f : CapFault) (all : Result (List ℕ) CapFault) → n < 256 → 0 < length bytes
    → record_at (is_earlier before) bytes ≡ Err f
    → so_far before (records_at (256 - n) total before bytes) ≡ all → all ≡ Err f
walk_fails n total before bytes f all some long h e =
    let m : 256 - n ≡ suc (256 - (n + 1)) = omega arith in
    sym e ∙ ap (λ (k : ℕ). so_far before (records_at k total before bytes)) m ∙ ap (so_far before) (records_fail (256 - (n + 1)) total before bytes f long h)

pub walk_is_full : (n total : ℕ) (before bytes : List ℕ) (all : Result (List ℕ) CapFault) → n ≡ 256 → 0 < length bytes
    → so_far before (records_at (256 - n) total before bytes) ≡ all → all ≡ Err BadOffset
walk_is_full n total before bytes all full long e =
    let m : 256 - n ≡ 0 = omega arith in
    sym e ∙ ap (λ (k : ℕ). so_far before (records_at k total before bytes)) m ∙ ap (so_far before) (records_full total before bytes long)

pub walk_ends : (most total : ℕ) (before bytes : List ℕ) (all : Result (List ℕ) CapFault) → bytes ≡ []
    → so_far before (records_at most total before bytes) ≡ all → all ≡ Ok (before ++ [])
walk_ends most total before bytes all none e = sym e ∙ ap (λ (t : List ℕ). so_far before (records_at most total before t)) none
    ∙ ap (so_far before) (records_end most total before)

pub some_bytes : (n : ℕ) → false ≡ eqb n 0 → 0 < n
some_bytes zero e = absurd (false≢true e)
some_bytes (suc n) e = omega arith

pub no_bytes : (bytes : List ℕ) → true ≡ eqb (length bytes) 0 → bytes ≡ []
no_bytes bytes e = nil_from_length bytes (eqb-true _ _ (sym e))

-- the same, with the offset pushed
pub walk_next : (total at : ℕ) (before pushed bytes next : List ℕ) (x : ClassRecord) (all : Result (List ℕ) CapFault) → pushed ≡ before ++ at ∷ []
    → length before < 256 → 0 < length bytes → at ≡ total - length bytes → record_at (is_earlier before) bytes ≡ Ok (x, next)
    → so_far before (records_at (256 - length before) total before bytes) ≡ all → so_far pushed (records_at (256 - length pushed) total pushed next) ≡ all
walk_next total at before pushed bytes next x all push some long at-is h e =
    let size : length before + 1 ≡ length (before ++ at ∷ []) = sym (length-append before (at ∷ [])) in
    let one = walk_goes_on (length before) total at before bytes next x all some long at-is h e in
    let two : so_far (before ++ at ∷ []) (records_at (256 - length (before ++ at ∷ [])) total (before ++ at ∷ []) next) ≡ all =
    subst (λ (k : ℕ). so_far (before ++ at ∷ []) (records_at (256 - k) total (before ++ at ∷ []) next) ≡ all) size one in
    subst (λ (t : List ℕ). so_far t (records_at (256 - length t) total t next) ≡ all) (sym push) two

pub walk_done : (most total : ℕ) (before bytes : List ℕ) (all : Result (List ℕ) CapFault) → bytes ≡ []
    → so_far before (records_at most total before bytes) ≡ all → all ≡ Ok before
walk_done most total before bytes all none e = walk_ends most total before bytes all none e ∙ ap Ok (append-nil before)

pub walk_begins : (r : Records) → so_far [] r ≡ record_offsets_or_none r
walk_begins (Ok rs) = refl
walk_begins (Err f) = refl

pub walk_start : (format : Format) (info start : List ℕ) → records_start format info ≡ Ok start
    → so_far [] (records_at 256 (length info) [] start) ≡ record_offsets_or_none (classes_of format info)
unfolding classes_of
walk_start format info start e = walk_begins (records_at 256 (length info) [] start) ∙ rw e refl

pub walk_init : (format : Format) (info start before : List ℕ) → before ≡ [] → records_start format info ≡ Ok start
    → so_far before (records_at (256 - length before) (length info) before start) ≡ record_offsets_or_none (classes_of format info)
walk_init format info start before none e = rw none (walk_start format info start e)

pub start_fails : (format : Format) (info : List ℕ) (f : CapFault) → records_start format info ≡ Err f → record_offsets_or_none (classes_of format info) ≡ Err f
unfolding classes_of
start_fails format info f e = rw e refl

-- what stands after a record is no longer than what stood there
pub no_longer : (known : ClassRef → Bool) (bytes next : List ℕ) (x : ClassRecord) → record_at known bytes ≡ Ok (x, next) → length next ≤ length bytes
no_longer known bytes next x e =
    let t = record_takes known bytes x next e in
    omega (arith, ap length t.taken.parts, length-append t.taken.text next)

-- ---- the record at a place

pub offsets-length : (rs : List RecordAt) → length (offsets_of rs) ≡ length rs
offsets-length [] = refl
offsets-length (r ∷ rs) = ap suc (offsets-length rs)

abbrev option_contents : Option RecordAt → Option ClassRecord
option_contents (Some r) = Some r.contents
option_contents None = None

next_place : (info bytes text next : List ℕ) → length bytes ≤ length info → bytes ≡ drop (length info - length bytes) info → bytes ≡ text ++ next
    → next ≡ drop (length info - length next) info
next_place info bytes text next le place parts =
    let size : length bytes ≡ length text + length next = ap length parts ∙ length-append text next in
    let sum : length info - length bytes + length text ≡ length info - length next = behind (length info) (length bytes) (length text) (length next) size le in
    sym (drop_at text next (length text) refl) ∙ ap (drop (length text)) (sym parts) ∙ ap (drop (length text)) place
    ∙ drop-drop (length text) (length info - length bytes) info ∙ ap (λ (k : ℕ). drop k info) sum

some_is : (x y : ℕ) → ◌≡◌ {A = Option ℕ} (Some x) (Some y) → x ≡ y
some_is x y e = cc

-- the record with this number begins at its offset
pub record At (info : List ℕ) (rs : List RecordAt) (i : ℕ) : Type 0 where
  pub contents : ClassRecord
  pub rest : List ℕ
  pub reads : record_at any_class (drop (get_or (offsets_of rs) i 0) info) ≡ Ok (contents, rest)
  pub is : slice_get rs i ≡ Some (record { offset = get_or (offsets_of rs) i 0; contents = contents })
  pub within : get_or (offsets_of rs) i 0 ≤ length info

record_there : (most : ℕ) (before info bytes : List ℕ) (rs : List RecordAt) (i : ℕ) → length bytes ≤ length info
    → bytes ≡ drop (length info - length bytes) info → records_at most (length info) before bytes ≡ Ok rs → i < length rs → At info rs i
unfolding records_at
record_there zero before info [] rs i le place e lt = absurd (let none : length rs ≡ 0 = ap length (sym (ok_is [] rs e)) in omega (arith, lt, none))
record_there zero before info (b ∷ bytes) rs i le place e lt = absurd cc
record_there (suc most) before info [] rs i le place e lt = absurd (let none : length rs ≡ 0 = ap length (sym (ok_is [] rs e)) in omega (arith, lt, none))
record_there (suc most) before info (b ∷ bytes) rs zero le place e lt =
    let first = bind_ok (record_at (is_earlier before) (b ∷ bytes)) _ rs e in
    let others = bind_ok (records_at most (length info) (before ++ (length info - suc (length bytes)) ∷ []) first.0.1) _ rs first.2 in
    let r : RecordAt = record { offset = length info - suc (length bytes); contents = first.0.0 } in
    subst (λ (y : List RecordAt). At info y 0) (ok_is (r ∷ others.0) rs others.2)
    (record {
      contents = first.0.0;
      rest = first.0.1;
      reads = ap (record_at any_class) (sym place) ∙ record_reread (is_earlier before) (b ∷ bytes) first.0.0 first.0.1 first.1;
      is = refl;
      within =
          omega arith;
    })
record_there (suc most) before info (b ∷ bytes) rs (suc j) le place e lt =
    let first = bind_ok (record_at (is_earlier before) (b ∷ bytes)) _ rs e in
    let others = bind_ok (records_at most (length info) (before ++ (length info - suc (length bytes)) ∷ []) first.0.1) _ rs first.2 in
    let r : RecordAt = record { offset = length info - suc (length bytes); contents = first.0.0 } in
    let t = record_takes (is_earlier before) (b ∷ bytes) first.0.0 first.0.1 first.1 in
    let long : suc (length bytes) ≡ length t.taken.text + length first.0.1 = ap length t.taken.parts ∙ length-append t.taken.text first.0.1 in
    let all = ok_is (r ∷ others.0) rs others.2 in
    let fewer : j < length others.0 = (let n : suc (length others.0) ≡ length rs = ap length all in omega (arith, lt, n)) in
    let next_there : first.0.1 ≡ drop (length info - length first.0.1) info = next_place info (b ∷ bytes) t.taken.text first.0.1 le place t.taken.parts in
    let ih = record_there most (before ++ (length info - suc (length bytes)) ∷ []) info first.0.1 others.0 j
    (omega (arith, long, le)) next_there others.1 fewer in
    subst (λ (y : List RecordAt). At info y (suc j)) all (record { contents = ih.contents; rest = ih.rest; reads = ih.reads; is = ih.is; within = ih.within })

pub class_there : (format : Format) (info : List ℕ) (rs : List RecordAt) (i : ℕ) → classes_of format info ≡ Ok rs → i < length rs → At info rs i
unfolding classes_of
class_there format info rs i e lt =
    let start = bind_ok (records_start format info) _ rs e in
    let place = start_place format info start.0 start.1 in
    record_there 256 [] info start.0 rs i place.long place.there start.2 lt

contents-get : (rs : List RecordAt) (i : ℕ) (r : RecordAt) → slice_get rs i ≡ Some r → slice_get (contents_of rs) i ≡ Some r.contents
contents-get [] i r e = absurd cc
contents-get (x ∷ rs) zero r e = ap (option_contents) e
contents-get (x ∷ rs) (suc i) r e = contents-get rs i r e

-- what a list of records answers for a number
pub record Answers (info : List ℕ) (rs : List RecordAt) (i o : ℕ) : Type 0 where
  pub contents : ClassRecord
  pub rest : List ℕ
  pub within : o ≤ length info
  pub reads : record_at any_class (drop o info) ≡ Ok (contents, rest)
  pub is : slice_get (contents_of rs) i ≡ Some contents
  pub offset : slice_get (offsets_of rs) i ≡ Some o

pub answers : (format : Format) (info s items : List ℕ) (rs value : List RecordAt) (i o : ℕ) → classes_of format info ≡ Ok rs → items ≡ offsets_of rs
    → rs ≡ value → i < length value → s ≡ items → slice_get s i ≡ Some o → Answers info value i o
answers format info s items rs value i o e offsets same lt slice at =
    let found = class_there format info value i (e ∙ ap Ok same) lt in
    let all : s ≡ offsets_of value = slice ∙ offsets ∙ ap offsets_of same in
    let here : slice_get (offsets_of value) i ≡ Some o = ap (λ (t : List ℕ). slice_get t i) (sym all) ∙ at in
    let place : get_or (offsets_of value) i 0 ≡ o = get_or_from_slice_get (offsets_of value) i o 0 here in
    record {
      contents = found.contents;
      rest = found.rest;
      within = omega (arith, found.within, place);
      reads = ap (λ (k : ℕ). record_at any_class (drop k info)) (sym place) ∙ found.reads;
      is = contents-get value i (record { offset = get_or (offsets_of value) i 0; contents = found.contents }) found.is;
      offset = here;
    }

-- the list of offsets is as long as that of the records
pub as_long : (s items : List ℕ) (rs value : List RecordAt) → items ≡ offsets_of rs → rs ≡ value → s ≡ items → length s ≡ length value
as_long s items rs value offsets same slice = ap length (slice ∙ offsets ∙ ap offsets_of same) ∙ offsets-length value

pub not_both : (x : ClassRecord × List ℕ) (f : CapFault) (r : Field ClassRecord) → r ≡ Ok x → r ≡ Err f → ⊥
not_both x f r e h = cc

pub same_contents : (x y : ClassRecord) (s t : List ℕ) (r : Field ClassRecord) → r ≡ Ok (x, s) → r ≡ Ok (y, t) → x ≡ y
same_contents x y s t r e h = ap (λ (p : ClassRecord × List ℕ). p.0) (ok_is (x, s) (y, t) (sym e ∙ h))

pub fail_not : (r : Records) (f : CapFault) → IsOk r → r ≡ Err f → ⊥
fail_not (Ok rs) f ok e = cc
fail_not (Err g) f ok e = absurd (false≢true ok)

pub start_long : (format : Format) (info start : List ℕ) → records_start format info ≡ Ok start → length start ≤ length info
start_long format info start e = (start_place format info start e).long

-- ---- an offset among others

among_from : (n : ℕ) (xs : List ℕ) (i x : ℕ) → slice_get xs i ≡ Some x → is_among n (drop i xs) ≡ (eqb n x || is_among n (drop (suc i) xs))
among_from n [] i x e = absurd cc
among_from n (y ∷ xs) zero x e = ap (λ (z : ℕ). eqb n z || is_among n xs) (some_is y x e)
among_from n (y ∷ xs) (suc i) x e = among_from n xs i x e

pub among_goes_on : (n : ℕ) (xs : List ℕ) (i x : ℕ) (all : Bool) → slice_get xs i ≡ Some x → ¬ (x ≡ n) → is_among n (drop i xs) ≡ all
    → is_among n (drop (i + 1) xs) ≡ all
among_goes_on n xs i x all e other so =
    let one : is_among n (drop i xs) ≡ is_among n (drop (suc i) xs) = among_from n xs i x e
    ∙ ap (λ (b : Bool). b || is_among n (drop (suc i) xs)) (ne_eqb n x (λ h. other (sym h))) in
    let on : is_among n (drop (suc i) xs) ≡ is_among n (drop (i + 1) xs) = ap (λ (k : ℕ). is_among n (drop k xs)) (let z : suc i ≡ i + 1 = omega arith in z) in
    sym on ∙ sym one ∙ so

pub among_ends : (n : ℕ) (xs : List ℕ) (i : ℕ) → length xs ≤ i → is_among n (drop i xs) ≡ is_among n xs → is_among n xs ≡ false
among_ends n xs i le so = sym so ∙ ap (is_among n) (drop_all i xs le)
