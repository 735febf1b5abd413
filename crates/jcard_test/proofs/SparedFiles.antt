-- No file is written whose text is asked for.
use Rattle.std.proofs.Common.{Bool, true, false, cond, nat_lt, not, ⊎_elim, Result, Ok, Err, ◌≡◌, ◌∙◌, ◌⊎◌, ℕ, zero, suc, ◌+◌, ◌<◌, ◌≤◌, List, [], ◌∷◌, ◌++◌, length, get_or, Option, Some, None, refl, ap, ap₂, sym, subst, inl, inr, append-nil, append_assoc, arith}
use Rattle.std.specs.List.{position_or_len}
use Rattle.std.specs.Prelude.{All, Contains}
use Rattle.std.specs.Str.{bytes_eq}
use Rattle.std.proofs.lemmas.Bool.{iff_false}
use Rattle.std.proofs.lemmas.Grind.{common_steps, flat_map-append}
use Rattle.std.proofs.lemmas.List.Elements.{All-append, All-head, All-tail, Contains-append_cases, Contains-append_left, Contains-append_right}
use Rattle.std.proofs.lemmas.Slice.Eq.{bytes_eq-Decides}
use Rattle.jcard_files.specs.FileDeeds.{FileDeed, ClosesImage, MakesImage, OpensImage, ReadsImage, ReadsText, WritesText}
use Rattle.jcard_files.specs.Operand.{IsNoOperand}
use Rattle.jcard_files.specs.declared.fault.Fault.{Fault}
use Rattle.jcard_files.specs.declared.operand.Operand.{Operand}
use Rattle.jcard_test.specs.JunitFile.{IsBegun, IsKept, IsReportWritten, IsWritten}
use Rattle.jcard_test.specs.Planning.{IsPlanned, table_asked}
use Rattle.jcard_test.specs.Sources.{IsReading, SparesTexts, files_named, name_of, names_in, path_read, path_written, paths_read, paths_written}
use Rattle.jcard_test.specs.Tests.{AreFilesRead, IsKeptAfter, IsOneUnread, IsTest, IsTestAfter, IsTestBeside, IsTestBy, IsTestOfRead, IsTestOn}
use Rattle.jcard_test.specs.declared.request.Asked.{Asked}
use Rattle.jcard_outcomes.specs.declared.tested.Tested.{Tested}
use Rattle.jcard_test.specs.declared.plan.Plan.{Plan}
use Rattle.jcard_test.specs.declared.rows_file.NamedFile.{NamedFile}
use Rattle.jcard_test.proofs.PlannedCards.{planned_reading, planned_named, unplanned_reading}

-- ---- a file that is none of these

not_first : (b : Bool) (n l : ℕ) → suc l ≤ cond (not b) (1 + n) 0 → (b ≡ false) × (l ≤ n)
not_first true n l h = absurd (omega arith)
not_first false n l h = (refl, omega arith)

-- where the first of a name stands after all, none has it
none_has : (name : List ℕ) (operands : List Operand) → length operands ≤ position_or_len (λ (o : Operand). bytes_eq o.name.now name) operands
    → (k : ℕ) → k < length (names_in operands) → get_or (names_in operands) k name ≡ name → ⊥
none_has name [] h k below is = absurd (omega arith)
none_has name (x ∷ xs) h zero below is = iff_false (bytes_eq-Decides x.name.now name) (not_first (bytes_eq x.name.now name) _ (length xs) h).0 is
none_has name (x ∷ xs) h (suc k) below is =
    none_has name xs (not_first (bytes_eq x.name.now name) _ (length xs) h).1 k (omega arith) is

after_all : (n l : ℕ) → cond (nat_lt n l) (Some n) None ≡ None → l ≤ n
after_all n l h = grind (arith, common_steps)

not_among : (name : List ℕ) (operands : List Operand) → IsNoOperand name operands → Contains (names_in operands) name → ⊥
not_among name operands none at = none_has name operands (after_all _ (length operands) none) at.0 at.1 at.2

-- ---- deeds that read nothing, and write none of these

-- such deeds
Spare : List (List ℕ) → List FileDeed → Type 0
Spare names deeds = (paths_read deeds ≡ []) × ((path : List ℕ) → Contains names path → Contains (paths_written deeds) path → ⊥)

none_contained : (path : List ℕ) → Contains [] path → ⊥
none_contained path at = absurd (omega (arith, at.1))

spare_nothing : (names : List (List ℕ)) (deeds : List FileDeed) → deeds ≡ [] → Spare names deeds
unfolding Spare
spare_nothing names deeds is = (ap paths_read is, λ path among at. none_contained path (subst (λ (ds : List FileDeed). Contains (paths_written ds) path) is at))

-- some deeds, and then others
spare_more : (names : List (List ℕ)) (first more : List FileDeed) → Spare names first → Spare names more → Spare names (first ++ more)
unfolding Spare
spare_more names first more a b = (
  flat_map-append path_read first more ∙ ap₂ (λ (xs ys : List (List ℕ)). xs ++ ys) a.0 b.0,
  λ path among at. ⊎_elim (a.1 path among) (b.1 path among) (Contains-append_cases (paths_written first) (paths_written more) path
      (subst (λ (ps : List (List ℕ)). Contains ps path) (flat_map-append path_written first more) at)),
)

-- a file was written, which is none of these; or it was not written
one_only : (name path : List ℕ) (names : List (List ℕ)) (k : ℕ) → k < 1 → get_or (name ∷ []) k path ≡ path → (Contains names name → ⊥) → Contains names path → ⊥
one_only name path names zero below is none among = none (subst (Contains names) (sym is) among)
one_only name path names (suc k) below is none among = absurd (omega arith)

spare_written : (operands : List Operand) (name bytes : List ℕ) (r : Result (Unit {0}) Fault) (deeds : List FileDeed) → IsWritten operands name bytes r deeds
    → Spare (names_in operands) deeds
unfolding Spare
spare_written operands name bytes (Ok done) deeds w = (
  ap paths_read w.1,
  λ path among at. let one : Contains (name ∷ []) path = subst (λ (ds : List FileDeed). Contains (paths_written ds) path) w.1 at in
      one_only name path (names_in operands) one.0 one.1 one.2 (not_among name operands w.0) among,
)
spare_written operands name bytes (Err fault) deeds w = (
  ap paths_read w.1,
  λ path among at. none_contained path (subst (λ (ds : List FileDeed). Contains (paths_written ds) path) w.1 at),
)

-- ---- the report for build servers

spare_begun : (operands : List Operand) (junit : Option (List ℕ)) (r : Result (Unit {0}) Fault) (deeds : List FileDeed) → IsBegun operands junit r deeds
    → Spare (names_in operands) deeds
spare_begun operands None r deeds b = spare_nothing (names_in operands) deeds b.1
spare_begun operands (Some name) r deeds b = spare_written operands name [] r deeds b

spare_report : (operands : List Operand) (name : List ℕ) (ts : List Tested) (r : Result (Unit {0}) Fault) (deeds : List FileDeed)
    → IsReportWritten operands name ts r deeds → Spare (names_in operands) deeds
spare_report operands name ts (Ok done) deeds w = spare_written operands name _ (Ok done) deeds w
spare_report operands name ts (Err fault) deeds (inl w) = spare_nothing (names_in operands) deeds w.1
spare_report operands name ts (Err fault) deeds (inr w) = spare_written operands name _ (Err fault) deeds w

spare_kept : (operands : List Operand) (junit : Option (List ℕ)) (ts : List Tested) (r : Result (Unit {0}) Fault) (deeds : List FileDeed)
    → IsKept operands junit ts r deeds → Spare (names_in operands) deeds
spare_kept operands None ts r deeds k = spare_nothing (names_in operands) deeds k.1
spare_kept operands (Some name) ts r deeds k = spare_report operands name ts k.0 deeds k.1

spare_told : (operands : List Operand) (junit : Option (List ℕ)) (ts : List Tested) (told ended : Result (Unit {0}) Fault) (deeds : List FileDeed)
    → IsKeptAfter operands junit ts told ended deeds → Spare (names_in operands) deeds
spare_told operands junit ts (Ok done) ended deeds k = spare_kept operands junit ts ended deeds k
spare_told operands junit ts (Err fault) ended deeds k = spare_nothing (names_in operands) deeds k.1

spare_tested : (p : Plan) (files : List NamedFile) (operands : List Operand) (junit : Option (List ℕ)) (ended : Result (Unit {0}) Fault) (text : List ℕ)
    (deeds : List FileDeed) → IsTestOn p files operands junit ended text deeds → Spare (names_in operands) deeds
spare_tested p files operands junit ended text deeds (inl t) = spare_nothing (names_in operands) deeds t.4
spare_tested p files operands junit ended text deeds (inr t) = spare_told operands junit t.0 t.2.0 ended deeds t.2.2

spare_after : (p : Plan) (files : List NamedFile) (operands : List Operand) (junit : Option (List ℕ)) (begun ended : Result (Unit {0}) Fault) (text : List ℕ)
    (deeds : List FileDeed) → IsTestAfter p files operands junit begun ended text deeds → Spare (names_in operands) deeds
spare_after p files operands junit (Ok done) ended text deeds t = spare_tested p files operands junit ended text deeds t
spare_after p files operands junit (Err fault) ended text deeds t = spare_nothing (names_in operands) deeds t.2

spare_beside : (p : Plan) (files : List NamedFile) (operands : List Operand) (junit : Option (List ℕ)) (ended : Result (Unit {0}) Fault) (text : List ℕ)
    (deeds : List FileDeed) → IsTestBeside p files operands junit ended text deeds → Spare (names_in operands) deeds
spare_beside p files operands junit ended text deeds t = subst (Spare (names_in operands)) (sym t.3)
    (spare_more (names_in operands) t.1 t.2 (spare_begun operands junit t.0 t.1 t.4) (spare_after p files operands junit t.0 ended text t.2 t.5))

spare_of_read : (p : Plan) (names : List (List ℕ)) (files : List NamedFile) (paths : List (List ℕ)) (a : Asked) (ended : Result (Unit {0}) Fault)
    (text : List ℕ) (deeds : List FileDeed) → IsTestOfRead p names files paths a ended text deeds → Spare (files_named names (table_asked a) ++ paths) deeds
spare_of_read p names files paths a ended text deeds (inl t) = spare_nothing (files_named names (table_asked a) ++ paths) deeds t.2
spare_of_read p names files paths a ended text deeds (inr t) =
    subst (λ (ns : List (List ℕ)). Spare ns deeds) t.1 (spare_beside p files t.0 (name_of a.junit) ended text deeds t.2)

-- ---- the whole command

-- a text that is asked for is not written
reads_no_file : (d : FileDeed) → IsReading d → path_written d ≡ []
reads_no_file (ReadsText path told) h = refl
reads_no_file (OpensImage path told) h = absurd h
reads_no_file (ReadsImage path told) h = absurd h
reads_no_file (MakesImage path n told) h = absurd h
reads_no_file (ClosesImage path store) h = absurd h
reads_no_file (WritesText path bytes told) h = absurd h

nothing_written : (reads : List FileDeed) → All IsReading reads → paths_written reads ≡ []
nothing_written [] h = refl
nothing_written (d ∷ ds) h = ap₂ (λ (xs ys : List (List ℕ)). xs ++ ys) (reads_no_file d (All-head IsReading d ds h)) (nothing_written ds (All-tail IsReading d ds h))

-- texts are asked for, and then none of them is written
spares_after : (names : List (List ℕ)) (reads more : List FileDeed) → All IsReading reads
    → ((path : List ℕ) → Contains (paths_read reads) path → Contains names path) → Spare names more → SparesTexts (reads ++ more)
unfolding Spare
spares_after names reads more only among spare path read written =
    let all_read : paths_read (reads ++ more) ≡ paths_read reads = flat_map-append path_read reads more
    ∙ ap (λ (ps : List (List ℕ)). paths_read reads ++ ps) spare.0 ∙ append-nil (paths_read reads) in
    let all_written : paths_written (reads ++ more) ≡ paths_written more = flat_map-append path_written reads more
    ∙ ap (λ (ps : List (List ℕ)). ps ++ paths_written more) (nothing_written reads only) in
    spare.1 path (among path (subst (λ (ps : List (List ℕ)). Contains ps path) all_read read))
    (subst (λ (ps : List (List ℕ)). Contains ps path) all_written written)

-- of deeds that only read there is none
spares_reads : (reads : List FileDeed) → All IsReading reads → SparesTexts reads
spares_reads reads only path read written =
    none_contained path (subst (λ (ps : List (List ℕ)). Contains ps path) (nothing_written reads only) written)

-- one of the cards' platform table and of the files of rows
either_named : (names : List (List ℕ)) (first reads : List FileDeed) → ((path : List ℕ) → Contains (paths_read first) path → Contains names path)
    → (path : List ℕ) → Contains (paths_read (first ++ reads)) path → Contains (names ++ paths_read reads) path
either_named names first reads named path at = ⊎_elim
    (λ earlier. Contains-append_left names (paths_read reads) path (named path earlier))
    (λ later. Contains-append_right names (paths_read reads) path later)
    (Contains-append_cases (paths_read first) (paths_read reads) path
    (subst (λ (ps : List (List ℕ)). Contains ps path) (flat_map-append path_read first reads) at))

-- after the deeds for the platform table
module _ (p : Plan) (names : List (List ℕ)) (a : Asked) (ended : Result (Unit {0}) Fault) (text : List ℕ) (first : List FileDeed) where
  spares_by : All IsReading first → ((path : List ℕ) → Contains (paths_read first) path → Contains (files_named names (table_asked a)) path)
      → (reads more : List FileDeed) → All IsReading reads
      → ((fault : Fault) × (ended ≡ Err fault) × IsOneUnread names fault reads × (text ≡ []) × (more ≡ []))
      ⊎ ((files : List NamedFile) × AreFilesRead names files reads × IsTestOfRead p names files (paths_read reads) a ended text more)
      → SparesTexts ((first ++ reads) ++ more)
  spares_by only named reads more reading (inl t) = spares_after (paths_read (first ++ reads)) (first ++ reads) more
      (All-append IsReading first reads only reading) (λ path at. at) (spare_nothing (paths_read (first ++ reads)) more t.4)
  spares_by only named reads more reading (inr t) = spares_after (files_named names (table_asked a) ++ paths_read reads) (first ++ reads) more
      (All-append IsReading first reads only reading) (either_named (files_named names (table_asked a)) first reads named)
      (spare_of_read p names t.0 (paths_read reads) a ended text more t.2)

  spares_then : IsPlanned a p first → (deeds : List FileDeed) → IsTestBy p names a ended text deeds → SparesTexts (first ++ deeds)
  spares_then planned deeds t =
      let whole : first ++ deeds ≡ (first ++ t.0) ++ t.1 = ap (λ (ds : List FileDeed). first ++ ds) t.2 ∙ sym (append_assoc first t.0 t.1) in
      subst SparesTexts (sym whole)
      (spares_by (planned_reading a p first planned) (λ path at. planned_named names a p first path planned at) t.0 t.1 t.3 t.4)

pub test_spares : (names : List (List ℕ)) (a : Asked) (ended : Result (Unit {0}) Fault) (text : List ℕ) (deeds : List FileDeed)
    → IsTest names a ended text deeds → SparesTexts deeds
test_spares names a ended text deeds (inl t) = spares_reads deeds (unplanned_reading a t.0 deeds t.2)
test_spares names a ended text deeds (inr t) = subst SparesTexts (sym t.3) (spares_then t.0 names a ended text t.1 t.4 t.2 t.5)
