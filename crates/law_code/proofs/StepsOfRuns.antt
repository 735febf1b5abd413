-- A run is steps in a row.
use Rattle.std.proofs.Common.{◌≡◌, ℕ, zero, suc, List, Option, inl, inr, refl, ◌∙◌, subst, arith}
use Rattle.jc_memory.specs.State.{MemoryState, Effect, apply_effects}
use Rattle.jc_memory.specs.Programs.{Completes}
use Rattle.jc_memory.specs.Reading.{HasTrace}
use Rattle.jc_memory.proofs.ProgramLemmas.{did_bind, took}
use Rattle.jc_linker.specs.Values.{Packages}
use Rattle.jc_frames.specs.declared.outcome.Outcome.{Outcome}
use Rattle.jc_frames.specs.Frames.{Frames, Next, GoesOn, Throws, Ends}
use Rattle.jc_interp.specs.declared.attacks.Attack.{Attack}
use Rattle.jc_interp.specs.Attacks.{attacked_step}
use Rattle.jc_interp.specs.Run.{or_end, run_of}
use Rattle.law_code.specs.IsolationLaws.Runs.{IsRunTrace, RunsAreSteps}

module _ (attack : Option Attack) (lent : List ℕ) (p : Packages) where
  -- the first step ends the run
  ended : (limit : ℕ) (s : Frames) (m new : MemoryState) (es : List Effect) (next : Next Frames)
      → HasTrace (attacked_step attack (suc limit) lent p s m) m es next → new ≡ apply_effects es m → IsRunTrace attack (suc limit) lent p s m new
  ended limit s m new es next takes is = record {
    steps = 0;
    left = suc limit;
    all = omega arith;
    last = s;
    found = m;
    ran = (refl, refl);
    ends = inr (omega arith, es, next, takes, is);
  }

  after_step : (limit : ℕ) (s : Frames) (m new : MemoryState) (answer : ℕ × Outcome) (es : List Effect) (next : Next Frames) (mid : MemoryState)
      → HasTrace (attacked_step attack (suc limit) lent p s m) m es next → mid ≡ apply_effects es m →
      ((t : Frames) (v : MemoryState) → Completes (run_of attack limit lent p t v) v answer new → IsRunTrace attack limit lent p t v new) →
      Completes (or_end limit next (λ t. run_of attack limit lent p t mid)) mid answer new → IsRunTrace attack (suc limit) lent p s m new
  after_step limit s m new answer es (GoesOn t) mid takes is more did =
      let rest : IsRunTrace attack limit lent p t (apply_effects es m) new = more t (apply_effects es m)
      (subst (λ v. Completes (run_of attack limit lent p t v) v answer new) is did) in
      record {
        steps = suc rest.steps;
        left = rest.left;
        all = omega (arith, rest.all);
        last = rest.last;
        found = rest.found;
        ran = (es, t, takes, rest.ran);
        ends = rest.ends;
      }
  after_step limit s m new answer es (Throws e t) mid takes is more did = ended limit s m new es (Throws e t) takes (did.1 ∙ is)
  after_step limit s m new answer es (Ends o) mid takes is more did = ended limit s m new es (Ends o) takes (did.1 ∙ is)

  runs : (limit : ℕ) (s : Frames) (m new : MemoryState) (answer : ℕ × Outcome) → Completes (run_of attack limit lent p s m) m answer new
      → IsRunTrace attack limit lent p s m new
  unfolding run_of
  runs zero s m new answer did = record { steps = 0; left = 0; all = refl; last = s; found = m; ran = (refl, refl); ends = inl (refl, did.1) }
  runs (suc limit) s m new answer did =
      let step = attacked_step attack (suc limit) lent p s m in
      let b = did_bind (λ next v. or_end limit next (λ t. run_of attack limit lent p t v)) step m new answer did in
      let t = took step m b.1 b.0 b.2 in
      after_step limit s m new answer t.0 b.0 b.1 t.1 t.2 (λ u v. runs limit u v new answer) b.3

pub runs_are_steps : RunsAreSteps
runs_are_steps attack limit lent p s m new answer did = runs attack lent p limit s m new answer did
