-- The components of a record, taken one after the other.
use Rattle.std.proofs.Common.{◌≡◌, ℕ, List, Option, Some, None, Result, Ok, Err, refl, ap, ◌∙◌}
use Rattle.jc_cap.specs.declared.fault.CapFault.{CapFault}
use Rattle.jc_cap.specs.declared.formats.Format.{Format}
use Rattle.jc_cap.specs.declared.formats.Format.TheVariants.{V2_1}
use Rattle.jc_cap.specs.Header.{HeaderValue}
use Rattle.jc_cap.proofs.Many.{ok_is}
use Rattle.jc_cap.specs.declared.texts.LoadedComponents.{LoadedComponents}
use Rattle.jc_cap.specs.ComponentReading.{header_in}
use Rattle.jc_cap.specs.Component.{content_result}
use Rattle.jc_cap.specs.Contents.{Content}
use Rattle.jc_cap.specs.Contents as contents
use Rattle.jc_cap.specs.Texts.{Taken, taken, no_components, with_component}
use Rattle.jc_cap.proofs.Taken.{header_is}
use Rattle.jc_packages.specs.Load.{content_in, taken_behind}
use Rattle.jc_packages.specs.Reading.{load_of, text_in, text_taken}
use Rattle.jc_packages.proofs.NoPackages.{IsTold}

abbrev Text : Type 0
Text = Option (List ℕ)

-- these components came
abbrev loaded : Text → Text → Text → Text → Text → Text → Text → Text → Text → LoadedComponents
loaded h d a i p c m s e = record {
  header = h;
  directory = d;
  applets = a;
  imports = i;
  pool = p;
  classes = c;
  methods = m;
  statics = s;
  exports = e;
  reference_location = None;
  descriptor = None;
}

-- what was taken is kept
kept : (told format : Option Format) (old new : LoadedComponents) (tag : ℕ) (text : List ℕ) (read : Result Content CapFault)
    → taken (Ok format) new ≡ taken_behind told old tag text read → new ≡ with_component old tag text
kept told format old new tag text (Ok x) e = ap (λ (q : Taken). q.1) e
kept told format old new tag text (Err fault) e = let wrong = ap (λ (q : Taken). q.0) e in absurd cc

unchanged : (told format : Option Format) (old new : LoadedComponents) → taken (Ok format) new ≡ taken (Ok told) old → new ≡ old
unchanged told format old new e = ap (λ (q : Taken). q.1) e

after_1 : (told format : Option Format) (o : Text) (new : LoadedComponents)
    → taken (Ok format) new ≡ text_taken told (loaded None None None None None None None None None) 1 o → new ≡ loaded o None None None None None None None None
unfolding with_component
after_1 told format (Some text) new is = kept told format (loaded None None None None None None None None None) new 1 text (content_in told 1 text) is
after_1 told format None new is = unchanged told format (loaded None None None None None None None None None) new is

after_2 : (told format : Option Format) (h : Text) (o : Text) (new : LoadedComponents)
    → taken (Ok format) new ≡ text_taken told (loaded h None None None None None None None None) 2 o → new ≡ loaded h o None None None None None None None
unfolding with_component
after_2 told format h (Some text) new is = kept told format (loaded h None None None None None None None None) new 2 text (content_in told 2 text) is
after_2 told format h None new is = unchanged told format (loaded h None None None None None None None None) new is

after_3 : (told format : Option Format) (h d : Text) (o : Text) (new : LoadedComponents)
    → taken (Ok format) new ≡ text_taken told (loaded h d None None None None None None None) 3 o → new ≡ loaded h d o None None None None None None
unfolding with_component
after_3 told format h d (Some text) new is = kept told format (loaded h d None None None None None None None) new 3 text (content_in told 3 text) is
after_3 told format h d None new is = unchanged told format (loaded h d None None None None None None None) new is

after_4 : (told format : Option Format) (h d a : Text) (o : Text) (new : LoadedComponents)
    → taken (Ok format) new ≡ text_taken told (loaded h d a None None None None None None) 4 o → new ≡ loaded h d a o None None None None None
unfolding with_component
after_4 told format h d a (Some text) new is = kept told format (loaded h d a None None None None None None) new 4 text (content_in told 4 text) is
after_4 told format h d a None new is = unchanged told format (loaded h d a None None None None None None) new is

after_5 : (told format : Option Format) (h d a i : Text) (o : Text) (new : LoadedComponents)
    → taken (Ok format) new ≡ text_taken told (loaded h d a i None None None None None) 5 o → new ≡ loaded h d a i o None None None None
unfolding with_component
after_5 told format h d a i (Some text) new is = kept told format (loaded h d a i None None None None None) new 5 text (content_in told 5 text) is
after_5 told format h d a i None new is = unchanged told format (loaded h d a i None None None None None) new is

after_6 : (told format : Option Format) (h d a i p : Text) (o : Text) (new : LoadedComponents)
    → taken (Ok format) new ≡ text_taken told (loaded h d a i p None None None None) 6 o → new ≡ loaded h d a i p o None None None
unfolding with_component
after_6 told format h d a i p (Some text) new is = kept told format (loaded h d a i p None None None None) new 6 text (content_in told 6 text) is
after_6 told format h d a i p None new is = unchanged told format (loaded h d a i p None None None None) new is

after_7 : (told format : Option Format) (h d a i p c : Text) (o : Text) (new : LoadedComponents)
    → taken (Ok format) new ≡ text_taken told (loaded h d a i p c None None None) 7 o → new ≡ loaded h d a i p c o None None
unfolding with_component
after_7 told format h d a i p c (Some text) new is = kept told format (loaded h d a i p c None None None) new 7 text (content_in told 7 text) is
after_7 told format h d a i p c None new is = unchanged told format (loaded h d a i p c None None None) new is

after_8 : (told format : Option Format) (h d a i p c m : Text) (o : Text) (new : LoadedComponents)
    → taken (Ok format) new ≡ text_taken told (loaded h d a i p c m None None) 8 o → new ≡ loaded h d a i p c m o None
unfolding with_component
after_8 told format h d a i p c m (Some text) new is = kept told format (loaded h d a i p c m None None) new 8 text (content_in told 8 text) is
after_8 told format h d a i p c m None new is = unchanged told format (loaded h d a i p c m None None) new is

after_10 : (told format : Option Format) (h d a i p c m s : Text) (o : Text) (new : LoadedComponents)
    → taken (Ok format) new ≡ text_taken told (loaded h d a i p c m s None) 10 o → new ≡ loaded h d a i p c m s o
unfolding with_component
after_10 told format h d a i p c m s (Some text) new is = kept told format (loaded h d a i p c m s None) new 10 text (content_in told 10 text) is
after_10 told format h d a i p c m s None new is = unchanged told format (loaded h d a i p c m s None) new is

-- the header states the format
told_behind : (told : Option Format) (new old : LoadedComponents) (text : List ℕ) (read : Result HeaderValue CapFault)
    → taken (Ok told) new ≡ taken_behind None old 1 text (content_result contents.header read) → (h : HeaderValue) × (read ≡ Ok h) × (told ≡ Some h.format)
told_behind told new old text (Ok h) e = (h, refl, ok_is told (Some h.format) (ap (λ (q : Taken). q.0) e))
told_behind told new old text (Err fault) e = let wrong = ap (λ (q : Taken). q.0) e in absurd cc

pub is_told : (told : Option Format) (o : Text) (new : LoadedComponents) → taken (Ok told) new ≡ text_taken None no_components 1 o → IsTold o told
is_told told (Some text) new e = told_behind told new no_components text (header_in text)
    (e ∙ ap (taken_behind None no_components 1 text) (header_is V2_1 text))
is_told told None new e = ok_is told None (ap (λ (q : Taken). q.0) e)

-- step after step
pub step : (told format : Option Format) (tag : ℕ) (o : Text) (old before new : LoadedComponents) → taken (Ok format) new ≡ text_taken told before tag o → before ≡ old
    → taken (Ok format) new ≡ text_taken told old tag o
step told format tag o old before new e is = e ∙ ap (λ l. text_taken told l tag o) is

-- all components of a record
pub all_taken : (words : List ℕ) (told f2 f3 f4 f5 f6 f7 f8 f10 : Option Format) (l1 l2 l3 l4 l5 l6 l7 l8 l10 : LoadedComponents)
    → taken (Ok told) l1 ≡ text_taken None no_components 1 (text_in words 1)
    → taken (Ok f2) l2 ≡ text_taken told l1 2 (text_in words 2)
    → taken (Ok f3) l3 ≡ text_taken told l2 3 (text_in words 3)
    → taken (Ok f4) l4 ≡ text_taken told l3 4 (text_in words 4)
    → taken (Ok f5) l5 ≡ text_taken told l4 5 (text_in words 5)
    → taken (Ok f6) l6 ≡ text_taken told l5 6 (text_in words 6)
    → taken (Ok f7) l7 ≡ text_taken told l6 7 (text_in words 7)
    → taken (Ok f8) l8 ≡ text_taken told l7 8 (text_in words 8)
    → taken (Ok f10) l10 ≡ text_taken told l8 10 (text_in words 10)
    → l10 ≡ load_of words
all_taken words told f2 f3 f4 f5 f6 f7 f8 f10 l1 l2 l3 l4 l5 l6 l7 l8 l10 e1 e2 e3 e4 e5 e6 e7 e8 e10 =
    let s1 = after_1 None told (text_in words 1) l1 e1 in
    let s2 = after_2 told f2 (text_in words 1) (text_in words 2) l2
    (step told f2 2 (text_in words 2) (loaded (text_in words 1) None None None None None None None None) l1 l2 e2 s1) in
    let s3 = after_3 told f3 (text_in words 1) (text_in words 2) (text_in words 3) l3
    (step told f3 3 (text_in words 3) (loaded (text_in words 1) (text_in words 2) None None None None None None None) l2 l3 e3 s2) in
    let s4 = after_4 told f4 (text_in words 1) (text_in words 2) (text_in words 3) (text_in words 4) l4
    (step told f4 4 (text_in words 4) (loaded (text_in words 1) (text_in words 2) (text_in words 3) None None None None None None) l3 l4 e4 s3) in
    let s5 = after_5 told f5 (text_in words 1) (text_in words 2) (text_in words 3) (text_in words 4) (text_in words 5) l5
    (step told f5 5 (text_in words 5) (loaded (text_in words 1) (text_in words 2) (text_in words 3) (text_in words 4) None None None None None) l4 l5 e5 s4) in
    let s6 = after_6 told f6 (text_in words 1) (text_in words 2) (text_in words 3) (text_in words 4) (text_in words 5) (text_in words 6) l6
    (step told f6 6 (text_in words 6) (loaded (text_in words 1) (text_in words 2) (text_in words 3) (text_in words 4) (text_in words 5) None None None None) l5 l6 e6 s5) in
    let s7 = after_7 told f7 (text_in words 1) (text_in words 2) (text_in words 3) (text_in words 4) (text_in words 5) (text_in words 6) (text_in words 7) l7
    (step told f7 7 (text_in words 7) (loaded (text_in words 1) (text_in words 2) (text_in words 3) (text_in words 4) (text_in words 5) (text_in words 6) None None None) l6 l7 e7 s6) in
    let s8 = after_8 told f8 (text_in words 1) (text_in words 2) (text_in words 3) (text_in words 4) (text_in words 5) (text_in words 6) (text_in words 7) (text_in words 8) l8
    (step told f8 8 (text_in words 8) (loaded (text_in words 1) (text_in words 2) (text_in words 3) (text_in words 4) (text_in words 5) (text_in words 6) (text_in words 7) None None) l7 l8 e8 s7) in
    after_10 told f10 (text_in words 1) (text_in words 2) (text_in words 3) (text_in words 4) (text_in words 5) (text_in words 6) (text_in words 7) (text_in words 8) (text_in words 10) l10
    (step told f10 10 (text_in words 10) (loaded (text_in words 1) (text_in words 2) (text_in words 3) (text_in words 4) (text_in words 5) (text_in words 6) (text_in words 7) (text_in words 8) None) l8 l10 e10 s8)
