-- Reading the texts of parts, and joining them.
use Rattle.std.proofs.Common.{◌≡◌, ◌∙◌, inl, inr, ℕ, suc, Bool, add-one, drop-cons, ◌+◌, ◌<◌, List, [], ◌∷◌, ◌++◌, length, get_or, take, drop, map, ap, sym, refl, subst, append_assoc, append-nil, Ok, Err, Result, false}
use Rattle.std.specs.Borrow.{Bor}
use Rattle.std.specs.Prelude.{if◌then◌else◌, is_err, is_ok}
use Rattle.std.proofs.lemmas.Bool.{true≢false}
use Rattle.std.proofs.lemmas.List.{map-append, take-append-drop, take_more}
use Rattle.jcard_texts.specs.Texts.{IsCutOf}
use Rattle.jcard_files.specs.FileDeeds.{FileDeed}
use Rattle.jcard_files.specs.Reading.{IsScriptRead}
use Rattle.jcard_files.specs.declared.fault.Fault.{Fault}
use Rattle.jcard_files.specs.declared.fault.Fault.TheVariants.{NotAllOrNothing, WriteFailed}
use Rattle.jcard_outcomes.specs.Join.{AreBodiesOf, AreJoined, IsJoinFault, IsTellable}
use Rattle.jcard_outcomes.specs.Report.{are_whole, report_text}
use Rattle.jcard_outcomes.specs.declared.join.Joined.{Joined}
use Rattle.jcard_outcomes.specs.declared.join_fault.JoinFault.{JoinFault}
use Rattle.jcard_outcomes.specs.declared.join_fault.JoinFault.TheVariants as joining
use Rattle.jcard_outcomes.specs.declared.recoveries.Depth.{Depth}
use Rattle.jcard_outcomes.specs.declared.report.Sweep.{Sweep}
use Rattle.jcard_sweeps.specs.Join.{AreBodiesJoinedTo, IsJoinTold, IsReported, told_join_fault}
use Rattle.jcard_sweeps.specs.PartTexts.{AreRead}
use Rattle.jcard_sweeps.specs.Texts.{texts_of}

-- one more was read
pub read_push : (names texts : List (List ℕ)) (deeds : List FileDeed) (name text : List ℕ) (opened : List FileDeed) → AreRead names texts deeds
    → IsScriptRead name text opened → AreRead (names ++ name ∷ []) (texts ++ text ∷ []) (deeds ++ opened)
read_push [] [] deeds name text opened h r = (opened, [], r, ap (λ l. l ++ opened) h ∙ sym (append-nil opened), refl)
read_push [] (t ∷ texts) deeds name text opened h r = absurd h
read_push (n ∷ names) [] deeds name text opened h r = absurd h
read_push (n ∷ names) (t ∷ texts) deeds name text opened h r = (
  h.0,
  h.1 ++ opened,
  h.2,
  ap (λ l. l ++ opened) h.3 ∙ append_assoc h.0 h.1 opened,
  read_push names texts h.1 name text opened h.4 r,
)

reported : (s : Sweep) (j : Joined) (ended : Result (Unit {0}) Fault) (text : List ℕ) → j.text.items ≡ report_text s
    → j.is_all_or_nothing ≡ are_whole s.cuts.items → IsJoinTold j ended text → IsReported s ended text
reported s j (Ok done) text e f h = (h.0 ∙ e, sym f ∙ h.1)
reported s j (Err NotAllOrNothing) text e f h = (h.0 ∙ e, sym f ∙ h.1)
reported s j (Err WriteFailed) text e f h = subst (λ t. IsCutOf t text) e h
reported s j (Err other) text e f h = absurd h

-- the report was reported
pub joined_told : (depth : Depth) (texts : List (List ℕ)) (j : Joined) (ended : Result (Unit {0}) Fault) (text : List ℕ) → AreJoined depth texts j
    → ((s : Sweep) → IsTellable depth s → AreBodiesOf s texts
    → (j.text.items ≡ report_text s) × (j.is_all_or_nothing ≡ are_whole s.cuts.items)) → IsJoinTold j ended text → AreBodiesJoinedTo depth texts ended text
joined_told depth texts j ended text joined parts told = record {
  joined = inl (j, joined, told);
  whole = λ s tellable h. let of = parts s tellable h in inl (reported s j ended text of.0 of.1 told);
}

-- the texts were not joined
pub unjoined : (depth : Depth) (texts : List (List ℕ)) (cause : JoinFault) (fault : Fault) → fault ≡ told_join_fault cause → IsJoinFault texts cause
    → ((s : Sweep) → IsTellable depth s → AreBodiesOf s texts → cause ≡ joining.NoMemory) → AreBodiesJoinedTo depth texts (Err fault) []
unjoined depth texts cause fault e why none = record {
  joined = inr (cause, why, ap Err e, refl);
  whole = λ s tellable h. inr (ap Err (e ∙ ap told_join_fault (none s tellable h)), refl);
}

-- as many texts were read as there are names
pub read_lengths : (names texts : List (List ℕ)) (deeds : List FileDeed) → AreRead names texts deeds → length names ≡ length texts
read_lengths [] [] deeds h = refl
read_lengths [] (t ∷ texts) deeds h = absurd h
read_lengths (n ∷ names) [] deeds h = absurd h
read_lengths (n ∷ names) (t ∷ texts) deeds h = ap suc (read_lengths names texts h.1 h.4)

-- an item was pushed
pub pushed : {A E V : Type 0} (r : Result A E) (b : Bool) (new old : List V) (v : V) → b ≡ is_err r → b ≡ false
    → new ≡ (if is_ok r then old ++ v ∷ [] else old) → new ≡ old ++ v ∷ []
pushed (Ok x) b new old v e n h = h
pushed (Err f) b new old v e n h = absurd (true≢false (sym e ∙ n))

-- no name
abbrev pub nothing : Bor (List ℕ)
nothing = record { ref_ptr = (0, 0); now = [] }

-- the names up to the next, and around it
pub names_next : (files : List (Bor (List ℕ))) (i : ℕ) → i < length files
    → texts_of (take (i + 1) files) ≡ texts_of (take i files) ++ (get_or files i nothing).now ∷ []
names_next files i h = ap texts_of (take_more files i nothing h)
    ∙ map-append (λ (f : Bor (List ℕ)). f.now) (take i files) (get_or files i nothing ∷ [])

pub names_around : (files : List (Bor (List ℕ))) (i : ℕ) → i < length files
    → texts_of files ≡ texts_of (take i files) ++ (get_or files i nothing).now ∷ texts_of (drop (i + 1) files)
names_around files i h =
    let at : drop i files ≡ get_or files i nothing ∷ drop (i + 1) files = rw add-one (drop-cons files i nothing h) in
    sym (ap texts_of (take-append-drop i files)) ∙ map-append (λ (f : Bor (List ℕ)). f.now) (take i files) (drop i files)
    ∙ ap (λ l. texts_of (take i files) ++ l) (ap texts_of at)

-- the names up to the next, and those after it
pub names_split : {S : Type 0} (f : S → List ℕ) (files : List S) (i : ℕ) → map f files ≡ map f (take i files) ++ map f (drop i files)
names_split f files i = sym (ap (map f) (take-append-drop i files)) ∙ map-append f (take i files) (drop i files)

pub texts_next : {V : Type 0} (f : V → List ℕ) (old new : List V) (v : V) → new ≡ old ++ v ∷ [] → map f new ≡ map f old ++ f v ∷ []
texts_next f old new v e = ap (map f) e ∙ map-append f old (v ∷ [])
