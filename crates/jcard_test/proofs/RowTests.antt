-- Files of rows that were read and answered, one after the other.
use Rattle.std.proofs.Common.{true, false, ⊎_elim, Result, Ok, Err, ◌≡◌, ◌∙◌, ℕ, zero, suc, ◌+◌, ◌<◌, ◌≤◌, List, [], ◌∷◌, ◌++◌, length, get_or, take, drop, map, min, Option, Some, None, IfSome, refl, ap, sym, subst, inl, inr, append-nil, append_assoc, arith}
use Rattle.std.specs.Prelude.{All, Any, IfOk, IfErr, IsSomeAnd, MatchResult, OnOk, option_map, slice_index_or}
use Rattle.std.specs.declared.alloc.AllocError.{AllocError}
use Rattle.std.specs.Borrow.{Bor}
use Rattle.std.proofs.lemmas.List.{drop_all, get_or_default, length-map, length-take, map-append, take_all, take_more}
use Rattle.std.proofs.lemmas.Grind.{flat_map-append}
use Rattle.std.proofs.lemmas.List.Elements.{All-append}
use Rattle.std.proofs.lemmas.Bool.{cases_lt}
use Rattle.jcard_texts.proofs.Items.{drop_at}
use Rattle.std.specs.String.{string_bytes}
use Rattle.jcard_test.specs.Lines.{Says}
use Rattle.jcard_test.specs.TextLines.{IsLineOf, IsUnrolled}
use Rattle.jcard_test.specs.declared.line.Line.{Line}
use Rattle.jcard_test.specs.declared.line.Line.TheVariants.{Include}
use Rattle.jcard_outcomes.specs.Failure.{AllAnswered}
use Rattle.jcard_outcomes.specs.Row.{script_text}
use Rattle.jcard_outcomes.specs.declared.card_rows.CardRows.{CardRows}
use Rattle.jcard_test.specs.declared.numbered_line.Numbered.{Numbered}
use Rattle.jcard_outcomes.specs.declared.tested.Failure.{Failure}
use Rattle.jcard_outcomes.specs.declared.tested.Outcome.{Outcome}
use Rattle.jcard_outcomes.specs.declared.tested.Outcome.TheVariants.{Held, Failed}
use Rattle.jcard_outcomes.specs.declared.tested.Tested.{Tested}
use Rattle.jcard_test.specs.NamedTable.{IsNamed}
use Rattle.jcard_outcomes.specs.declared.row.Row.{Row}
use Rattle.jcard_test.specs.declared.rows_file.NamedFile.{NamedFile}
use Rattle.jcard_test.specs.declared.sources.Source.{Source}
use Rattle.jcard_test.specs.declared.table_line.TableLine.{TableLine}
use Rattle.jcard_files.specs.declared.operand.Operand.{Operand}
use Rattle.jc_words.specs.Store.{MemStoreValue}
use Rattle.jcard_files.specs.Fault.{is_unwritten}
use Rattle.jcard_files.proofs.Effects.{unread_unwritten}
use Rattle.jcard_files.specs.FileDeeds.{FileDeed, ReadsText}
use Rattle.jcard_files.specs.NewImage.{IsNewImageInMemory}
use Rattle.jcard_files.specs.Reading.{IsRead, IsUnread, IsScriptRead}
use Rattle.jcard_test.specs.Sources.{AreNoted, IsReading, files_named, name_of, names_in, names_of, path_read, paths_of, paths_read}
use Rattle.jcard_test.specs.Tests.{AreAnsweredOn, AreSwept, AreSweptWell, AreFilesRead, EndsOn, IsFile, IsFileBehind, IsFileOf, IsFileRead, IsNewCard, IsSweptWell, IsToldOf, IsSweptFailure, AreIncluded, AreTested, IsFilePlace, IsPlace, IsPrinted, AreNoFileLines, IsNoRowsText, IsNoText, IsNotIncluded, IsOneUnread, IsRowsText, IsTested, IsUnanswered, IsUntested, operands_named, rows_operand}
use Rattle.jcard_test.specs.declared.plan.Plan.{Plan}
use Rattle.jcard_files.specs.declared.fault.Fault.{Fault}
use Rattle.jcard_files.specs.declared.fault.Fault.TheVariants.{ImageTooSmall, NoMemory, WriteFailed}

-- a text that is read up to one byte more than it may have
pub whole_text : (known : Option (List ℕ)) (text : List ℕ) → IfSome known (λ bytes. text ≡ take 16777217 bytes) → length text ≤ 16777216
    → IfSome known (λ bytes. text ≡ bytes)
whole_text None text e h = tt
whole_text (Some bytes) text e h =
    let long : length text ≡ min 16777217 (length bytes) = ap length e ∙ length-take 16777217 bytes in
    let short : length bytes ≤ 16777217 = omega arith in
    e ∙ take_all 16777217 bytes short

-- one line more of a file
included_more : (name : List ℕ) (own lines : List Numbered) (deeds : List FileDeed) (line : Numbered) (here : List Numbered) (last : List FileDeed)
    → AreIncluded name own lines deeds → IsPlace name line here last → AreIncluded name (own ++ line ∷ []) (lines ++ here) (deeds ++ last)
unfolding AreIncluded
included_more name [] lines deeds line here last a p = (
  here,
  [],
  last,
  [],
  p,
  (refl, refl),
  ap (λ (ls : List Numbered). ls ++ here) a.0 ∙ sym (append-nil here),
  ap (λ (ds : List FileDeed). ds ++ last) a.1 ∙ sym (append-nil last),
)
included_more name (x ∷ own) lines deeds line here last a p = (
  a.0,
  a.1 ++ here,
  a.2,
  a.3 ++ last,
  a.4,
  included_more name own a.1 a.3 line here last a.5 p,
  ap (λ (ls : List Numbered). ls ++ here) a.6 ∙ append_assoc a.0 a.1 here,
  ap (λ (ds : List FileDeed). ds ++ last) a.7 ∙ append_assoc a.2 a.3 last,
)

pub included_none : (name : List ℕ) → AreIncluded name [] [] []
unfolding AreIncluded
included_none name = (refl, refl)

pub included_next : (name : List ℕ) (own : List Numbered) (i : ℕ) (line : Numbered) (lines next : List Numbered) (deeds : List FileDeed)
    (here : List Numbered) (last : List FileDeed) → i < length own → line ≡ get_or own i line → AreIncluded name (take i own) lines deeds
    → IsPlace name line here last → next ≡ lines ++ here → AreIncluded name (take (i + 1) own) next (deeds ++ last)
included_next name own i line lines next deeds here last h e a p n =
    let step : take (i + 1) own ≡ take i own ++ line ∷ [] = take_more own i line h ∙ ap (λ (x : Numbered). take i own ++ x ∷ []) (sym e) in
    subst (λ (ls : List Numbered). AreIncluded name ls next (deeds ++ last)) (sym step)
    (subst (λ (ls : List Numbered). AreIncluded name (take i own ++ line ∷ []) ls (deeds ++ last)) (sym n)
    (included_more name (take i own) lines deeds line here last a p))

-- one file more was read
files_more : (names : List (List ℕ)) (fs : List NamedFile) (deeds : List FileDeed) (name : List ℕ) (f : NamedFile) (last : List FileDeed)
    → AreFilesRead names fs deeds → IsFileRead name f last → AreFilesRead (names ++ name ∷ []) (fs ++ f ∷ []) (deeds ++ last)
unfolding AreFilesRead
files_more [] [] deeds name f last a p = (last, [], p, refl, ap (λ (ds : List FileDeed). ds ++ last) a ∙ sym (append-nil last))
files_more [] (y ∷ ys) deeds name f last a p = absurd a
files_more (x ∷ xs) [] deeds name f last a p = absurd a
files_more (x ∷ xs) (y ∷ ys) deeds name f last a p = (
  a.0,
  a.1 ++ last,
  a.2,
  files_more xs ys a.1 name f last a.3 p,
  ap (λ (ds : List FileDeed). ds ++ last) a.4 ∙ append_assoc a.0 a.1 last,
)

pub files_none : AreFilesRead [] [] []
unfolding AreFilesRead
files_none = refl

pub files_next : (names : List (Bor (List ℕ))) (i : ℕ) (d : Bor (List ℕ)) (fs next : List NamedFile) (deeds : List FileDeed) (f : NamedFile)
    (last : List FileDeed) → i < length names → AreFilesRead (names_of (take i names)) fs deeds
    → IsFileRead (get_or names i d).now f last → next ≡ fs ++ f ∷ [] → AreFilesRead (names_of (take (i + 1) names)) next (deeds ++ last)
files_next names i d fs next deeds f last h a p n =
    let step : names_of (take (i + 1) names) ≡ names_of (take i names) ++ (get_or names i d).now ∷ [] = ap names_of (take_more names i d h)
    ∙ map-append (λ (name : Bor (List ℕ)). name.now) (take i names) (get_or names i d ∷ []) in
    subst (λ (ns : List (List ℕ)). AreFilesRead ns next (deeds ++ last)) (sym step)
    (subst (λ (xs : List NamedFile). AreFilesRead (names_of (take i names) ++ (get_or names i d).now ∷ []) xs (deeds ++ last)) (sym n)
    (files_more (names_of (take i names)) fs deeds (get_or names i d).now f last a p))

-- the rows of one file more were answered
tested_more : (q : Plan) (fs : List NamedFile) (ts : List Tested) (f : NamedFile) (t : Tested) → AreTested q fs ts → IsTested q f t
    → AreTested q (fs ++ f ∷ []) (ts ++ t ∷ [])
unfolding AreTested
tested_more q [] [] f t a p = (p, tt)
tested_more q [] (y ∷ ys) f t a p = absurd a
tested_more q (x ∷ xs) [] f t a p = absurd a
tested_more q (x ∷ xs) (y ∷ ys) f t a p = (a.0, tested_more q xs ys f t a.1 p)

pub tested_none : (q : Plan) → AreTested q [] []
unfolding AreTested
tested_none q = tt

pub tested_next : (q : Plan) (files : List NamedFile) (i : ℕ) (f : NamedFile) (ts next : List Tested) (t : Tested) → i < length files
    → f ≡ get_or files i f → AreTested q (take i files) ts → IsTested q f t → next ≡ ts ++ t ∷ [] → AreTested q (take (i + 1) files) next
tested_next q files i f ts next t h e a p n =
    let step : take (i + 1) files ≡ take i files ++ f ∷ [] = take_more files i f h ∙ ap (λ (x : NamedFile). take i files ++ x ∷ []) (sym e) in
    subst (λ (fs : List NamedFile). AreTested q fs next) (sym step)
    (subst (λ (xs : List Tested). AreTested q (take i files ++ f ∷ []) xs) (sym n) (tested_more q (take i files) ts f t a p))

-- a text at a place
get_or_texts : (texts : List (Bor (List ℕ))) (i : ℕ) (d : Bor (List ℕ)) → get_or (names_of texts) i d.now ≡ (get_or texts i d).now
get_or_texts [] i d = refl
get_or_texts (x ∷ xs) zero d = refl
get_or_texts (x ∷ xs) (suc i) d = get_or_texts xs i d

-- what holds of the name of one file
pub any_at : (P : List ℕ → Type 0) (files : List (Bor (List ℕ))) (i : ℕ) (d : Bor (List ℕ)) → i < length files → P (get_or files i d).now
    → Any P (names_of files)
any_at P files i d h p =
    let long : length (names_of files) ≡ length files = length-map files (λ (b : Bor (List ℕ)). b.now) in
    let name : List ℕ = (get_or files i d).now in
    let at : get_or (names_of files) i name ≡ name = get_or_default (names_of files) i name d.now (omega arith) ∙ get_or_texts files i d in
    (i, name, omega arith, at, p)

-- ---- cards

-- no card is left
pub answered_all : (p : Plan) (cards : List CardRows) (i passed : ℕ) (outcome : Outcome) → length cards ≤ i → outcome ≡ Held passed
    → AreAnsweredOn p (drop i cards) passed outcome
unfolding AreAnsweredOn
answered_all p cards i passed outcome h e = subst (λ (cs : List CardRows). AreAnsweredOn p cs passed outcome) (sym (drop_all i cards h)) e

-- the card at this place
module _ (p : Plan) (cards : List CardRows) (i : ℕ) (card : CardRows) (h : i < length cards) (e : card ≡ get_or cards i card) (passed : ℕ) (outcome : Outcome) where
  -- all its rows hold
  pub answered_next : EndsOn p card passed None → AreAnsweredOn p (drop (i + 1) cards) (min (passed + length card.rows.items) 18446744073709551615) outcome
      → AreAnsweredOn p (drop i cards) passed outcome
  unfolding AreAnsweredOn
  answered_next all more = subst (λ (cs : List CardRows). AreAnsweredOn p cs passed outcome) (sym (drop_at cards i card h e)) (inl (all, more))

  -- one does not
  pub answered_not : (failure : Failure) → outcome ≡ Failed failure → EndsOn p card passed (Some failure) → AreAnsweredOn p (drop i cards) passed outcome
  unfolding AreAnsweredOn
  answered_not failure is first = subst (λ (cs : List CardRows). AreAnsweredOn p cs passed outcome) (sym (drop_at cards i card h e)) (inr (failure, is, first))

-- a card whose rows are all answered ends as its swept rows do
pub ended_by : (p : Plan) (card : CardRows) (passed : ℕ) (r : Result (Option Failure) Fault)
    → (text : List ℕ) × IsPrinted p card.words (script_text card.rows.items) text × AllAnswered card.rows.items text
    → MatchResult r (λ failure. AreSwept p card.words card.rows.items passed failure) (λ f. IsUnanswered p f)
    → MatchResult r (λ failure. EndsOn p card passed failure) (λ f. IsUnanswered p f)
ended_by p card passed (Ok None) e h = (e.0, e.1, (e.2, h))
ended_by p card passed (Ok (Some f)) e h = (e.0, e.1, inr (e.2, h))
ended_by p card passed (Err fault) e h = h

-- the first row that was swept badly is the failure
pub swept_first : (p : Plan) (words : ℕ) (rows : List Row) (passed place : ℕ) (q : Row) (told : List ℕ) (r : Result (Option Failure) Fault)
    → AreSweptWell p words rows place → place < length rows → q ≡ slice_index_or rows place q → IsToldOf p words (take place rows) q (Some told)
    → MatchResult r (λ failure. IsSomeAnd failure (λ f. IsSweptFailure q (min (passed + place) 18446744073709551615) told f)) (λ f. f ≡ NoMemory)
    → MatchResult r (λ failure. AreSwept p words rows passed failure) (λ f. IsUnanswered p f)
swept_first p words rows passed place q told (Ok (Some f)) well below at is h = (place, q, told, well, below, at, is.0, is.1, h)
swept_first p words rows passed place q told (Ok None) well below at is h = absurd h
swept_first p words rows passed place q told (Err fault) well below at is h = subst (λ f. IsUnanswered p f) (sym h) tt

-- one more row was looked at: it is not swept, or was swept well
pub swept_more : (p : Plan) (words : ℕ) (rows : List Row) (n : ℕ) (r : Row) → r ≡ slice_index_or rows n r → n < length rows → AreSweptWell p words rows n
    → (r.swept ≡ true → IsSweptWell p words (take n rows) r) → AreSweptWell p words rows (n + 1)
swept_more p words rows n r at here before this k q below is swept = ⊎_elim
    (λ (less : k < n). before k q less is swept)
    (λ (past : n ≤ k). let same : n ≡ k = omega arith in
    let one : r ≡ q = at ∙ get_or_default rows n r q here ∙ ap (λ i. slice_index_or rows i q) same ∙ sym is in
    subst (λ (i : ℕ). IsSweptWell p words (take i rows) q) same (subst (λ (x : Row). IsSweptWell p words (take n rows) x) one (this (ap (λ (x : Row). x.swept) one ∙ swept))))
    (cases_lt k n)

-- a new card in memory
pub new_card_of : (p : Plan) (words : ℕ) (made : Result MemStoreValue Fault) → IsNewImageInMemory words p.extent.room p.table.items made
    → MatchResult made (λ store. IsNewCard p words store.words × (store.passed ≡ 0)) (λ fault. IsUnanswered p fault)
new_card_of p words (Ok store) new = new
new_card_of p words (Err NoMemory) new = tt
new_card_of p words (Err ImageTooSmall) new = tt
new_card_of p words (Err other) new = absurd new

-- ---- files that are read

-- no text was read
pub no_reading : All IsReading []
no_reading = λ k d h. absurd (omega arith)

-- one text was read
single_reading : (name : List ℕ) (told : Result (Option (List ℕ)) Fault) (k : ℕ) (d : FileDeed) → k < 1 → IsReading (get_or (ReadsText name told ∷ []) k d)
single_reading name told zero d h = tt
single_reading name told (suc k) d h = absurd (omega arith)

pub one_reading : (name : List ℕ) (told : Result (Option (List ℕ)) Fault) (deeds : List FileDeed) → deeds ≡ ReadsText name told ∷ [] → All IsReading deeds
one_reading name told deeds e = subst (λ (ds : List FileDeed). All IsReading ds) (sym e) (single_reading name told)

-- a text was asked for, though it was not read
pub unread_reading : (name : List ℕ) (fault : Fault) (deeds : List FileDeed) → IsUnread name fault deeds → All IsReading deeds
unread_reading name fault deeds (inl u) = one_reading name (Err fault) deeds u.1
unread_reading name fault deeds (inr u) = one_reading name (Ok u.1.0) deeds u.1.1

-- ---- texts that were noted

-- none was asked for
pub nothing_noted : (sources : List Source) → AreNoted sources sources []
nothing_noted sources = (no_reading, sym (append-nil (paths_of sources)))

-- some were, and then others
pub noted_more : (old between new : List Source) (first more : List FileDeed) → AreNoted old between first → AreNoted between new more
    → AreNoted old new (first ++ more)
noted_more old between new first more a b = (
  All-append IsReading first more a.0 b.0,
  b.1 ∙ ap (λ (ps : List (List ℕ)). ps ++ paths_read more) a.1 ∙ append_assoc (paths_of old) (paths_read first) (paths_read more)
      ∙ ap (λ (ps : List (List ℕ)). paths_of old ++ ps) (sym (flat_map-append path_read first more)),
)

-- one was
one_noted : (old new : List Source) (name : List ℕ) (told : Result (Option (List ℕ)) Fault) (deeds : List FileDeed)
    → paths_of new ≡ paths_of old ++ name ∷ [] → deeds ≡ ReadsText name told ∷ [] → AreNoted old new deeds
one_noted old new name told deeds noted e =
    (one_reading name told deeds e, noted ∙ ap (λ (ds : List FileDeed). paths_of old ++ paths_read ds) (sym e))

-- one was, though it was not read
unread_noted : (old new : List Source) (name : List ℕ) (fault : Fault) (deeds : List FileDeed) → paths_of new ≡ paths_of old ++ name ∷ []
    → IsUnread name fault deeds → AreNoted old new deeds
unread_noted old new name fault deeds noted (inl u) = one_noted old new name (Err fault) deeds noted u.1
unread_noted old new name fault deeds noted (inr u) = one_noted old new name (Ok u.1.0) deeds noted u.1.1

no_rows_noted : (old new : List Source) (name : List ℕ) (fault : Fault) (deeds : List FileDeed) → paths_of new ≡ paths_of old ++ name ∷ []
    → IsNoRowsText name fault deeds → AreNoted old new deeds
no_rows_noted old new name fault deeds noted (inl u) = unread_noted old new name fault deeds noted u
no_rows_noted old new name fault deeds noted (inr t) = one_noted old new name (Ok t.1.0) deeds noted t.1.2

-- that of a file of rows was noted, and then read
pub rows_noted : {V : Type 0} (text_of : V → List ℕ) (r : Result V Fault) (old new : List Source) (name : List ℕ) (deeds : List FileDeed)
    → paths_of new ≡ paths_of old ++ name ∷ [] → MatchResult r (λ t. IsRowsText name (text_of t) deeds) (λ f. IsNoRowsText name f deeds)
    → AreNoted old new deeds
rows_noted text_of (Ok t) old new name deeds noted h = one_noted old new name (Ok h.0) deeds noted h.2
rows_noted text_of (Err f) old new name deeds noted h = no_rows_noted old new name f deeds noted h

pub rows_or_fault : {V : Type 0} (text_of : V → List ℕ) (r : Result V Fault) (name : List ℕ) (deeds : List FileDeed)
    → MatchResult r (λ t. IsRowsText name (text_of t) deeds) (λ f. IsNoRowsText name f deeds)
    → MatchResult r (λ t. IsRowsText name (text_of t) deeds) (λ f. AreNoFileLines name f deeds)
rows_or_fault text_of (Ok t) name deeds h = h
rows_or_fault text_of (Err f) name deeds h = inl h

-- that of a platform table was
pub table_noted : {V : Type 0} (text_of : V → List ℕ) (r : Result V Fault) (old new : List Source) (name : List ℕ) (deeds : List FileDeed)
    → paths_of new ≡ paths_of old ++ name ∷ [] → MatchResult r (λ t. IsRead name (text_of t) deeds) (λ f. IsUnread name f deeds)
    → AreNoted old new deeds
table_noted text_of (Ok t) old new name deeds noted h = one_noted old new name (Ok h.0) deeds noted h.2
table_noted text_of (Err f) old new name deeds noted h = unread_noted old new name f deeds noted h

pub table_read : {V : Type 0} (text_of : V → List ℕ) (r : Result V Fault) (name : List ℕ) (deeds : List FileDeed)
    → MatchResult r (λ t. IsRead name (text_of t) deeds) (λ f. IsUnread name f deeds) → IfOk r (λ t. IsRead name (text_of t) deeds)
table_read text_of (Ok t) name deeds h = h
table_read text_of (Err f) name deeds h = tt

-- no write failed where a file was not read
no_text_unwritten : (name bytes : List ℕ) (fault : Fault) → IsNoText name bytes fault → is_unwritten (Err fault) ≡ false
no_text_unwritten name bytes WriteFailed h = absurd h
no_text_unwritten name bytes other h = refl

not_included_unwritten : (name : List ℕ) (fault : Fault) → IsNotIncluded name fault → is_unwritten (Err fault) ≡ false
not_included_unwritten name WriteFailed h = absurd h
not_included_unwritten name other h = refl

unanswered_unwritten : (p : Plan) (fault : Fault) → IsUnanswered p fault → is_unwritten (Err fault) ≡ false
unanswered_unwritten p WriteFailed h = absurd h
unanswered_unwritten p other h = refl

no_lines_unwritten : (name : List ℕ) (fault : Fault) (deeds : List FileDeed) → AreNoFileLines name fault deeds → is_unwritten (Err fault) ≡ false
no_lines_unwritten name fault deeds (inl (inl u)) = unread_unwritten name fault deeds u
no_lines_unwritten name fault deeds (inl (inr t)) = no_text_unwritten name t.0 fault t.2
no_lines_unwritten name fault deeds (inr n) = not_included_unwritten name fault n

-- nor where the rows of one were not answered
pub untested_unwritten : (fault : Fault) → IsUntested fault → is_unwritten (Err fault) ≡ false
untested_unwritten fault n = unanswered_unwritten n.0 fault n.1

-- ---- results of calls, from what their parts are

pub text_read : {S : Type 0} (bytes_of : S → List ℕ) (r : Result S Fault) (name bytes : List ℕ) (deeds : List FileDeed) → IsScriptRead name bytes deeds
    → IfOk r (λ t. (bytes_of t ≡ bytes) × (length bytes ≤ 16777216)) → IfErr r (λ f. IsNoText name bytes f)
    → MatchResult r (λ t. IsRowsText name (bytes_of t) deeds) (λ f. IsNoRowsText name f deeds)
text_read bytes_of (Ok t) name bytes deeds read same refused = (
  read.0,
  subst (λ (x : List ℕ). IfSome read.0 (λ b. x ≡ b)) (sym same.0) (whole_text read.0 bytes read.1 same.1),
  read.2,
)
text_read bytes_of (Err f) name bytes deeds read same refused = inr (bytes, read, refused)

pub unrolled_file : {V : Type 0} (table_of : V → Option (List ℕ)) (lines_of : V → List Numbered) (r : Result V Fault) (name text : List ℕ) (own : List Numbered)
    (deeds : List FileDeed) → IsUnrolled text own → MatchResult r (λ v. IsFileOf name own (table_of v) (lines_of v) deeds) (λ f. IsNotIncluded name f)
    → MatchResult r (λ v. (o : List Numbered) × IsUnrolled text o × IsFileOf name o (table_of v) (lines_of v) deeds) (λ f. IsNotIncluded name f)
unrolled_file table_of lines_of (Ok v) name text own deeds u p = (own, u, p)
unrolled_file table_of lines_of (Err f) name text own deeds u p = p

pub file_read : {V : Type 0} (table_of : V → Option (List ℕ)) (lines_of : V → List Numbered) (r : Result V Fault) (name text shown : List ℕ)
    (first more : List FileDeed) → IsRowsText name text first → shown ≡ text
    → MatchResult r (λ v. (o : List Numbered) × IsUnrolled shown o × IsFileOf name o (table_of v) (lines_of v) more) (λ f. IsNotIncluded name f)
    → MatchResult r (λ v. IsFile name (table_of v) (lines_of v) (first ++ more)) (λ f. AreNoFileLines name f (first ++ more))
file_read table_of lines_of (Ok v) name text shown first more read e p = (text, p.0, first, more, read, subst (λ (t : List ℕ). IsUnrolled t p.0) e p.1, p.2, refl)
file_read table_of lines_of (Err f) name text shown first more read e p = inr p

-- a platform table is named
by_table : (name : List ℕ) (own lines : List Numbered) (line : TableLine) (table : Option (List ℕ)) (deeds : List FileDeed) → IsNamed own line
    → IsFileBehind name line table lines deeds → IsFileOf name own table lines deeds
by_table name own lines line None deeds named h = absurd h
by_table name own lines line (Some table) deeds named h = (line, named, h)

pub named_file : {V : Type 0} (table_of : V → Option (List ℕ)) (lines_of : V → List Numbered) (r : Result V Fault) (name : List ℕ) (own : List Numbered)
    (line : TableLine) (deeds : List FileDeed) → IsNamed own line
    → MatchResult r (λ v. IsFileBehind name line (table_of v) (lines_of v) deeds) (λ f. IsNotIncluded name f)
    → MatchResult r (λ v. IsFileOf name own (table_of v) (lines_of v) deeds) (λ f. IsNotIncluded name f)
named_file table_of lines_of (Ok v) name own line deeds named p = by_table name own (lines_of v) line (table_of v) deeds named p
named_file table_of lines_of (Err f) name own line deeds named p = p

pub place_of_file : (r : Result (Unit {0}) Fault) (name : List ℕ) (line : Numbered) (file : Bor (List ℕ)) (deeds : List FileDeed) (old new : List Numbered)
    → Says (string_bytes line.text) (Include file)
    → MatchResult r (λ _. (here : List Numbered) × IsFilePlace name file.now line.number here deeds × (new ≡ old ++ here)) (λ f. IsNotIncluded name f)
    → MatchResult r (λ _. (here : List Numbered) × IsPlace name line here deeds × (new ≡ old ++ here)) (λ f. IsNotIncluded name f)
place_of_file (Ok done) name line file deeds old new says p = (p.0, (Include file, says, p.1), p.2)
place_of_file (Err f) name line file deeds old new says p = p

pub place_of_other : (name : List ℕ) (line : Numbered) (said : Line) (here : List Numbered) → ((file : Bor (List ℕ)) → said ≡ Include file → ⊥)
    → Says (string_bytes line.text) said → (same : Numbered) → IsLineOf line.number (string_bytes line.text) same → here ≡ same ∷ []
    → IsPlace name line here []
place_of_other name line (Include file) here other says same is e = absurd (other file refl)
place_of_other name line said here other says same is e = (said, says, (same, is, e, refl))

-- no write failed where one of some files was not read
pub any_unwritten : (names : List (List ℕ)) (fault : Fault) (reads : List FileDeed) → IsOneUnread names fault reads → is_unwritten (Err fault) ≡ false
any_unwritten names fault reads one = no_lines_unwritten one.3.1 fault one.1 one.3.4

-- a file was read, and kept after others
pub file_pushed : (r : Result (Unit {0}) Fault) (name : List ℕ) (old new : List NamedFile) (file : NamedFile) (deeds : List FileDeed)
    → IsFileRead name file deeds → OnOk r (new ≡ old ++ file ∷ []) → IfErr r (λ f. f ≡ NoMemory)
    → MatchResult r (λ _. (f : NamedFile) × IsFileRead name f deeds × (new ≡ old ++ f ∷ [])) (λ f. AreNoFileLines name f deeds)
file_pushed (Ok done) name old new file deeds t e refused = (file, t, e)
file_pushed (Err f) name old new file deeds t e refused = inr (subst (λ x. IsNotIncluded name x) (sym refused) tt)

-- its rows were answered, and what came of them was kept after others
pub tested_pushed : (r : Result (Unit {0}) Fault) (p : Plan) (f : NamedFile) (old new : List Tested) (t : Tested) → IsTested p f t
    → OnOk r (new ≡ old ++ t ∷ []) → IfErr r (λ fault. fault ≡ NoMemory)
    → MatchResult r (λ _. (of : Tested) × IsTested p f of × (new ≡ old ++ of ∷ [])) (λ fault. IsUntested fault)
tested_pushed (Ok done) p f old new t is e refused = (t, is, e)
tested_pushed (Err fault) p f old new t is e refused = (p, subst (λ x. IsUnanswered p x) (sym refused) tt)

-- the names of files that the words of a command name
names_of_rows : (files : List (Bor (List ℕ))) → names_in (map rows_operand files) ≡ names_of files
names_of_rows [] = refl
names_of_rows (x ∷ xs) = ap (λ (l : List (List ℕ)). x.now ∷ l) (names_of_rows xs)

pub names_of_named : (files : List (Bor (List ℕ))) (table : Option (Bor (List ℕ)))
    → names_in (operands_named files table) ≡ files_named (names_of files) (name_of table)
names_of_named files None = names_of_rows files
names_of_named files (Some t) = map-append (λ (o : Operand). o.name.now) (map rows_operand files) _ ∙ ap (λ (l : List (List ℕ)). l ++ t.now ∷ []) (names_of_rows files)
