-- The verdict over faults in words, as it is written.
use Rattle.std.proofs.Common.{◌≡◌, ◌∙◌, ℕ, List, [], ◌∷◌, length, map, Option, Some, None, ap, refl, sym}
use Rattle.std.specs.Prelude.{is_some, option_map, slice_get}
use Rattle.std.proofs.lemmas.List.{length-map}
use Rattle.jcard_attack.specs.PartLines.{accepted_told, first_name, silence_told, told_accepted, told_silent}
use Rattle.jcard_attack.specs.Report.{FaultTold, accepted_line, silence_line, told_by}
use Rattle.jcard_attack.specs.declared.fault_text.ToldFault.{ToldFault}

count_is : (fs : List ToldFault) (n : ℕ) (all : List FaultTold) → n ≡ length fs → map told_by fs ≡ all → n ≡ length all
count_is fs n all e m = e ∙ sym (length-map fs told_by) ∙ ap length m

-- how many were accepted
pub accepted_written : (faults accepted : List ToldFault) (n a : ℕ) (name : Option (List ℕ)) → n ≡ length faults → a ≡ length accepted
    → map told_by accepted ≡ told_accepted (map told_by faults) → name ≡ first_name (map told_by accepted)
    → accepted_line n a name ≡ accepted_told (map told_by faults)
accepted_written faults accepted n a name en ea m j =
    let all : List FaultTold = map told_by faults in
    ap (λ k. accepted_line k a name) (count_is faults n all en refl) ∙ ap (λ k. accepted_line (length all) k name) (count_is accepted a (told_accepted all) ea m)
    ∙ ap (accepted_line (length all) (length (told_accepted all))) (j ∙ ap first_name m)

-- how many changed something in silence
pub silence_written : (faults silent : List ToldFault) (s : ℕ) (name : Option (List ℕ)) → s ≡ length silent
    → map told_by silent ≡ told_silent (map told_by faults) → name ≡ first_name (map told_by silent) → silence_line s name ≡ silence_told (map told_by faults)
silence_written faults silent s name es m j =
    let all : List FaultTold = map told_by faults in
    ap (λ k. silence_line k name) (count_is silent s (told_silent all) es m) ∙ ap (silence_line (length (told_silent all))) (j ∙ ap first_name m)

named : (faults : List FaultTold) → is_some (first_name faults) ≡ is_some (slice_get faults 0)
named [] = refl
named (f ∷ faults) = refl

mapped : {A B : Type 0} (f : A → B) (x : Option A) → is_some x ≡ is_some (option_map f x)
mapped f None = refl
mapped f (Some x) = refl

-- whether one was accepted
pub some_told : {V : Type 0} (items : V → List ℕ) (faults accepted : List ToldFault) (name : Option V) → map told_by accepted ≡ told_accepted (map told_by faults)
    → option_map items name ≡ first_name (map told_by accepted) → is_some name ≡ is_some (slice_get (told_accepted (map told_by faults)) 0)
some_told items faults accepted name m e =
    mapped items name ∙ ap is_some e ∙ named (map told_by accepted) ∙ ap (λ l. is_some (slice_get l 0)) m
