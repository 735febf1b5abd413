-- Where the records begin.
use Rattle.std.proofs.Common.{◌≡◌, ◌≤◌, ℕ, ◌-◌, ◌+◌, List, [], ◌++◌, length, drop, Ok, refl, sym, ap, ◌∙◌, arith, append_assoc}
use Rattle.std.proofs.lemmas.List.{length-append, drop_at}
use Rattle.jc_cap.specs.declared.formats.Format.{Format}
use Rattle.jc_cap.specs.declared.formats.Format.TheVariants.{V2_1, V2_2}
use Rattle.jc_cap.specs.Reading.{u2_at, run_at}
use Rattle.jc_cap.proofs.Many.{bind_ok, ok_is}
use Rattle.jc_cap.proofs.Telling.{u2_tells, run_takes, run_again}
use Rattle.jc_cap.specs.ClassReading.{records_start}
use Rattle.jc_cap.specs.Classes.{IsInFront}

-- what stands in front of the records
pub record Front (format : Format) (info start : List ℕ) : Type 0 where
  pub text : List ℕ
  pub is : IsInFront format text
  pub parts : info ≡ text ++ start

pub start_takes : (format : Format) (info start : List ℕ) → records_start format info ≡ Ok start → Front format info start
unfolding records_start
start_takes V2_1 info start e = record { text = []; is = refl; parts = ok_is info start e }
start_takes V2_2 info start e =
    let size = bind_ok (u2_at info) _ start e in
    let pool = bind_ok (run_at size.0.0 size.0.1) _ start size.2 in
    let s = u2_tells.takes info size.0.0 size.0.1 size.1 in
    let p = run_takes size.0.0 size.0.1 pool.0.0 pool.0.1 pool.1 in
    let behind : pool.0.1 ≡ start = ok_is pool.0.1 start pool.2 in
    record {
      text = s.text ++ pool.0.0;
      is = (s.text, pool.0.0, rw p.1 s.is, refl);
      parts = s.parts ∙ ap (λ (t : List ℕ). s.text ++ t) (p.0 ∙ ap (λ (t : List ℕ). pool.0.0 ++ t) behind) ∙ sym (append_assoc s.text pool.0.0 start);
    }

pub start_again : (format : Format) (front start : List ℕ) → IsInFront format front → records_start format (front ++ start) ≡ Ok start
unfolding records_start
start_again V2_1 front start is = rw is refl
start_again V2_2 front start is =
    let regrouped : front ++ start ≡ is.0 ++ (is.1 ++ start) = ap (λ (t : List ℕ). t ++ start) is.3 ∙ append_assoc is.0 is.1 start in
    rw (regrouped, u2_tells.again (length is.1) is.0 (is.1 ++ start) is.2, run_again is.1 start) refl

-- how much stands there, and what stands after it
pub record Place (format : Format) (info start : List ℕ) : Type 0 where
  pub front : Front format info start
  pub long : length start ≤ length info
  pub at : length info - length start ≡ length front.text
  pub there : start ≡ drop (length info - length start) info

pub start_place : (format : Format) (info start : List ℕ) → records_start format info ≡ Ok start → Place format info start
start_place format info start e =
    let f = start_takes format info start e in
    let size : length info ≡ length f.text + length start = ap length f.parts ∙ length-append f.text start in
    let at : length info - length start ≡ length f.text = omega (arith, size) in
    let back : drop (length f.text) info ≡ start = ap (λ (t : List ℕ). drop (length f.text) t) f.parts ∙ drop_at f.text start (length f.text) refl in
    record { front = f; long = omega (arith, size); at = at; there = sym (ap (λ (k : ℕ). drop k info) at ∙ back) }
