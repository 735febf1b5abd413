-- Which method a call selects, in one walk over the calls: what is known of it, and how a call ends that selects none.
use Rattle.std.proofs.Common.{◌≡◌, ℕ, ◌/◌, ◌==◌, ◌⊎◌, Bool, true, false, inl, inr, List, [], ◌∷◌, Option, Some, None, Result, Ok, Err, refl, ◌∙◌, ap, subst}
use Rattle.std.proofs.Common.{if◌then◌else◌}
use Rattle.std.proofs.lemmas.Bool.{not-true}
use Rattle.std.proofs.lemmas.Option.{none-some, same_Some}
use Rattle.std.specs.Prelude.{not}
use Rattle.jc_heap.specs.declared.object.Facts.{Facts}
use Rattle.jc_memory.specs.State.{MemoryState}
use Rattle.jc_cap.specs.declared.pool.VirtualToken.{VirtualToken}
use Rattle.jc_linker.specs.declared.target.Method.{Method}
use Rattle.jc_linker.specs.declared.target.Target.{Target}
use Rattle.jc_linker.specs.declared.target.Target.TheVariants.{Class, VirtualMethod, SuperMethod, StaticMethod}
use Rattle.jc_linker.specs.Lookups.{target_at}
use Rattle.jc_linker.specs.declared.search.Search.{Search}
use Rattle.jc_linker.specs.declared.search.Search.TheVariants as search
use Rattle.jc_linker.specs.Classes.{is_below, lineage}
use Rattle.jc_linker.specs.Methods.{first_decided, found_or_above, interface_method_at, lookup_classes, method_at, method_below, method_in}
use Rattle.jc_linker.specs.Values.{Packages}
use Rattle.jc_frames.specs.declared.instr.InvokeOp.{InvokeOp}
use Rattle.jc_frames.specs.declared.instr.InvokeOp.TheVariants.{Virtual, Special, Static, Interface}
use Rattle.jc_firewall.specs.declared.access.Access.{Access}
use Rattle.jc_firewall.specs.declared.access.Access.TheVariants.{InstanceField, VirtualCall}
use Rattle.jc_firewall.specs.declared.decide.Decision.{Decision}
use Rattle.jc_firewall.specs.declared.decide.Decision.TheVariants.{Allow, Switch, Deny}
use Rattle.jc_firewall.specs.FirewallLaws.{IsInReach}
use Rattle.jc_frames.specs.declared.cell.Cell.{Cell}
use Rattle.jc_frames.specs.declared.outcome.FrameExit.{FrameExit}
use Rattle.jc_frames.specs.Frames.{Frames}
use Rattle.jc_world.specs.Answers.{and_then}
use Rattle.jc_world.specs.Contexts.{firewall_check, firewall_decision, situation_of}
use Rattle.jc_world.specs.Objects.{check_or_fault, some_or_fault}
use Rattle.jc_instructions.specs.declared.invoke.MethodCall.{MethodCall}
use Rattle.jc_instructions.specs.Invoke.{arguments_of, call_decision, call_of, class_of, fits_at_null, interface_access, interface_by, invokeinterface}
use Rattle.jc_instructions.specs.Invoke.{invokestatic, invokevirtual, is_native_constructor, is_of, is_of_any, method_selection, receiver_of, receiver_on}
use Rattle.jc_instructions.specs.Invoke.{invokespecial, special_by, static_by, virtual_by}
use Rattle.jc_instructions.specs.Parameters.{fits}
use Rattle.jc_api.proofs.Exits.{FaultsOnly, IsPlainExit, plain_check, plain_firewall, plain_object, plain_some, plain_then}
use Rattle.jc_api.proofs.Reaching.{err_not_ok, field_allowed, same_Ok}

-- ---- what is known of the method

-- by a token, or by an interface, a class has it, or an entry of the package with this number names it for a class above; and the firewall
-- sees the call so
abbrev pub IsByToken : Packages → ℕ → Method → Access → Type 0
IsByToken p class method access = (access ≡ VirtualCall) × (home : ℕ) × (token : VirtualToken) × (method_at p class home token ≡ Some method)

abbrev pub IsByInterface : Packages → ℕ → Method → Access → Type 0
IsByInterface p class method access = (interface : ℕ) × (token : ℕ) × (access ≡ interface_access p interface)
    × (interface_method_at p class interface token ≡ Some method)

abbrev pub IsByEntry : Packages → ℕ → ℕ → Method → Access → Type 0
IsByEntry p number class method access = (access ≡ VirtualCall) × (index : ℕ) × (token : VirtualToken) × (above : ℕ)
    × (target_at p number index ≡ Some (VirtualMethod above token method)) × (is_below p class above ≡ true)

abbrev pub IsSought : Packages → ℕ → ℕ → Method → Access → Type 0
IsSought p number class method access = IsByToken p class method access ⊎ (IsByInterface p class method access ⊎ IsByEntry p number class method access)

-- it was found in the class of the receiver, and the firewall judged the call
pub record IsFound (p : Packages) (number : ℕ) (stack : List Cell) (m : MemoryState) (c : MethodCall) : Type 0 where
  pub count : ℕ
  pub header : Facts
  pub method : Method
  pub access : Access
  pub there : receiver_of count stack m ≡ Ok header
  pub by : IsSought p number (class_of p header) method access
  pub judged : call_decision (firewall_decision access p m header) header method count ≡ Ok c

-- the entry names it, for an object whose fields are within reach
pub record IsNamed (p : Packages) (number : ℕ) (stack : List Cell) (m : MemoryState) (c : MethodCall) : Type 0 where
  pub index : ℕ
  pub count : ℕ
  pub class : Option ℕ
  pub header : Facts
  pub method : Method
  pub target : (target_at p number index ≡ Some (StaticMethod class method))
      ⊎ ((above : ℕ) × (class ≡ Some above) × (target_at p number index ≡ Some (SuperMethod above method)))
  pub there : receiver_of count stack m ≡ Ok header
  pub of : is_of_any p header class ≡ true
  pub reach : IsInReach (situation_of p m header)
  pub is : call_of method count None ≡ c

-- the entry names it, and it has no receiver
pub record IsBare (p : Packages) (number : ℕ) (c : MethodCall) : Type 0 where
  pub index : ℕ
  pub count : ℕ
  pub class : Option ℕ
  pub method : Method
  pub target : target_at p number index ≡ Some (StaticMethod class method)
  pub made : is_native_constructor method ≡ false
  pub is : call_of method count None ≡ c

pub data Selected (p : Packages) (number : ℕ) (stack : List Cell) (m : MemoryState) (c : MethodCall) : Type 0 where
  Found : IsFound p number stack m c → Selected p number stack m c
  Named : IsNamed p number stack m c → Selected p number stack m c
  Bare : IsBare p number c → Selected p number stack m c

-- ---- checks in a row

-- what is given is so, or there is an exception or a code fault
abbrev pub GivesSo : {A : Type 0} → (A → Type 0) → Result A FrameExit → Type 0
GivesSo R (Ok a) = R a
GivesSo R (Err e) = IsPlainExit e

so_of : {A : Type 0} (R : A → Type 0) (x : Result A FrameExit) → FaultsOnly x → ((a : A) → x ≡ Ok a → R a) → GivesSo R x
so_of R (Ok a) plain each = each a refl
so_of R (Err e) plain each = plain

so_then : {A B : Type 0} (R : B → Type 0) (x : Result A FrameExit) (go : A → Result B FrameExit) → FaultsOnly x → ((a : A) → x ≡ Ok a → GivesSo R (go a))
    → GivesSo R (and_then x go)
so_then R (Ok a) go plain each = each a refl
so_then R (Err e) go plain each = plain

faults_of : {A : Type 0} (R : A → Type 0) (x : Result A FrameExit) → GivesSo R x → FaultsOnly x
faults_of R (Ok a) so = tt
faults_of R (Err e) so = so

pub is_there : {A : Type 0} (o : Option A) (a : A) → some_or_fault o ≡ Ok a → o ≡ Some a
is_there None a e = absurd (err_not_ok e)
is_there (Some x) a e = ap Some (same_Ok x a e)

it_holds : (b : Bool) (u : Unit {0}) → check_or_fault b ≡ Ok u → b ≡ true
it_holds true u e = refl
it_holds false u e = absurd (err_not_ok e)

-- ---- a search that ends at a class with its method: it has found what it finds else, or that one

one_more : (b : Bool) (s : Search Method) (method found : Method) (ended whole : Option Method)
    → (ended ≡ Some found → (whole ≡ Some found) ⊎ (method ≡ found)) → found_or_above (if b then search.Found method else s) ended ≡ Some found
    → (found_or_above s whole ≡ Some found) ⊎ (method ≡ found)
one_more true s method found ended whole rest e = inr (same_Some method found e)
one_more false (search.Found a) method found ended whole rest e = inl e
one_more false search.Above method found ended whole rest e = rest e
one_more false search.Nowhere method found ended whole rest e = absurd (none-some found e)

either : (step : ℕ → Search Method) (class : ℕ) (method found : Method) (cs : List ℕ)
    → first_decided (λ c. if c == class then search.Found method else step c) cs ≡ Some found → (first_decided step cs ≡ Some found) ⊎ (method ≡ found)
unfolding first_decided
either step class method found [] e = absurd (none-some found e)
either step class method found (c ∷ cs) e = one_more (c == class) (step c) method found
    (first_decided (λ x. if x == class then search.Found method else step x) cs) (first_decided step cs) (either step class method found cs) e

-- ---- the calls

plain_receiver : (n : ℕ) (stack : List Cell) (m : MemoryState) → FaultsOnly (receiver_of n stack m)
unfolding receiver_of
plain_receiver n stack m = plain_then (some_or_fault (receiver_on n stack)) _ (plain_some (receiver_on n stack)) (plain_object m)

plain_decision : (d : Decision) (f : Facts) (method : Method) (n : ℕ) → FaultsOnly (call_decision d f method n)
plain_decision Allow f method n = tt
plain_decision (Switch c) f method n = tt
plain_decision (Deny rule) f method n = tt

module _ (p : Packages) (number : ℕ) (stack : List Cell) (m : MemoryState) where
  abbrev So : Result MethodCall FrameExit → Type 0
  So = GivesSo (Selected p number stack m)

  virtually : (index class own : ℕ) (token : VirtualToken) (method found : Method) → target_at p number index ≡ Some (VirtualMethod class token method)
      → is_below p own class ≡ true → method_below p own class token method ≡ Some found → IsSought p number own found VirtualCall
  unfolding method_below method_at
  virtually index class own token method found target below is =
      elim (either (method_in p token) class method found (lookup_classes token (class / 256) (lineage p own)) is) [
        | inl at ↦ inl (refl, class / 256, token, at)
        | inr same ↦ inr (inr (refl, index, token, class, target ∙ ap (λ x. Some (VirtualMethod class token x)) same, below))
      ]

  virtual_so : (index class : ℕ) (token : VirtualToken) (method : Method) → target_at p number index ≡ Some (VirtualMethod class token method)
      → So (invokevirtual class token method p stack m)
  unfolding invokevirtual
  virtual_so index class token method target =
      so_then _ (some_or_fault (arguments_of p method)) _ (plain_some (arguments_of p method)) (λ n counted.
      so_then _ (check_or_fault (fits_at_null n method p stack m)) _ (plain_check (fits_at_null n method p stack m)) (λ u kinds.
      so_then _ (receiver_of n stack m) _ (plain_receiver n stack m) (λ f there.
      so_then _ (check_or_fault (is_of p f class)) _ (plain_check (is_of p f class)) (λ v of.
      so_then _ (some_or_fault (method_below p (class_of p f) class token method)) _ (plain_some (method_below p (class_of p f) class token method))
      (λ found at.
      so_then _ (check_or_fault (fits found p m stack)) _ (plain_check (fits found p m stack)) (λ w wanted.
      so_of _ (call_decision (firewall_decision VirtualCall p m f) f found n) (plain_decision (firewall_decision VirtualCall p m f) f found n) (λ c judged.
      Found (record {
        count = n;
        header = f;
        method = found;
        access = VirtualCall;
        there = there;
        by = virtually index class (class_of p f) token method found target (it_holds (is_of p f class) v of)
            (is_there (method_below p (class_of p f) class token method) found at);
        judged = judged;
      }))))))))

  interface_so : (interface n token : ℕ) → So (invokeinterface interface n token p stack m)
  unfolding invokeinterface
  interface_so interface n token =
      so_then _ (receiver_of n stack m) _ (plain_receiver n stack m) (λ f there.
      so_then _ (check_or_fault (is_of p f interface)) _ (plain_check (is_of p f interface)) (λ u of.
      so_then _ (some_or_fault (interface_method_at p (class_of p f) interface token)) _ (plain_some (interface_method_at p (class_of p f) interface token))
      (λ found at.
      so_then _ (check_or_fault (fits found p m stack)) _ (plain_check (fits found p m stack)) (λ v wanted.
      so_of _ (call_decision (firewall_decision (interface_access p interface) p m f) f found n)
      (plain_decision (firewall_decision (interface_access p interface) p m f) f found n) (λ c judged.
      Found (record {
        count = n;
        header = f;
        method = found;
        access = interface_access p interface;
        there = there;
        by = inr (inl (interface, token, refl, is_there (interface_method_at p (class_of p f) interface token) found at));
        judged = judged;
      }))))))

  special_so : (index : ℕ) (class : Option ℕ) (method : Method) → (target_at p number index ≡ Some (StaticMethod class method))
      ⊎ ((above : ℕ) × (class ≡ Some above) × (target_at p number index ≡ Some (SuperMethod above method))) → So (invokespecial class method p stack m)
  unfolding invokespecial
  special_so index class method target =
      so_then _ (some_or_fault (arguments_of p method)) _ (plain_some (arguments_of p method)) (λ n counted.
      so_then _ (check_or_fault (fits_at_null n method p stack m)) _ (plain_check (fits_at_null n method p stack m)) (λ u kinds.
      so_then _ (receiver_of n stack m) _ (plain_receiver n stack m) (λ f there.
      so_then _ (check_or_fault (is_of_any p f class)) _ (plain_check (is_of_any p f class)) (λ v of.
      so_then _ (check_or_fault (fits method p m stack)) _ (plain_check (fits method p m stack)) (λ w wanted.
      so_then _ (firewall_check InstanceField p m f) _ (plain_firewall InstanceField p m f) (λ x allowed.
      Named (record {
        index = index;
        count = n;
        class = class;
        header = f;
        method = method;
        target = target;
        there = there;
        of = it_holds (is_of_any p f class) v of;
        reach = field_allowed p m f allowed;
        is = refl;
      })))))))

  static_so : (index : ℕ) (class : Option ℕ) (method : Method) → target_at p number index ≡ Some (StaticMethod class method) → So (invokestatic method p)
  unfolding invokestatic
  static_so index class method target =
      so_then _ (check_or_fault (not (is_native_constructor method))) _ (plain_check (not (is_native_constructor method))) (λ u made.
      so_then _ (some_or_fault (arguments_of p method)) _ (plain_some (arguments_of p method)) (λ n counted.
      Bare (record {
        index = index;
        count = n;
        class = class;
        method = method;
        target = target;
        made = not-true (is_native_constructor method) (it_holds (not (is_native_constructor method)) u made);
        is = refl;
      })))

  -- by what the entry of the pool resolves to
  virtual_by_so : (index : ℕ) (o : Option Target) → target_at p number index ≡ o → So (virtual_by o p stack m)
  virtual_by_so index (Some (VirtualMethod class token method)) is = virtual_so index class token method is
  virtual_by_so index _ is = tt

  special_by_so : (index : ℕ) (o : Option Target) → target_at p number index ≡ o → So (special_by o p stack m)
  special_by_so index (Some (StaticMethod class method)) is = special_so index class method (inl is)
  special_by_so index (Some (SuperMethod class method)) is = special_so index (Some class) method (inr (class, refl, is))
  special_by_so index _ is = tt

  static_by_so : (index : ℕ) (o : Option Target) → target_at p number index ≡ o → So (static_by o p)
  static_by_so index (Some (StaticMethod class method)) is = static_so index class method is
  static_by_so index _ is = tt

  interface_by_so : (n token : ℕ) (o : Option Target) → So (interface_by o n token p stack m)
  interface_by_so n token (Some (Class class)) = interface_so class n token
  interface_by_so n token _ = tt

selection_so : (p : Packages) (i : InvokeOp) (s : Frames) (m : MemoryState)
    → GivesSo (Selected p s.current.origin.package_number s.current.stack m) (method_selection i p s m)
unfolding method_selection
selection_so p (Virtual index) s m = virtual_by_so p _ s.current.stack m index (target_at p s.current.origin.package_number index) refl
selection_so p (Special index) s m = special_by_so p _ s.current.stack m index (target_at p s.current.origin.package_number index) refl
selection_so p (Static index) s m = static_by_so p _ s.current.stack m index (target_at p s.current.origin.package_number index) refl
selection_so p (Interface n index token) s m = interface_by_so p _ s.current.stack m n token (target_at p s.current.origin.package_number index)

-- ---- what a selection gives, and how it ends else

pub selected : (p : Packages) (i : InvokeOp) (s : Frames) (m : MemoryState) (c : MethodCall) → method_selection i p s m ≡ Ok c
    → Selected p s.current.origin.package_number s.current.stack m c
selected p i s m c is = subst (GivesSo (Selected p s.current.origin.package_number s.current.stack m)) is (selection_so p i s m)

pub plain_selection : (p : Packages) (i : InvokeOp) (s : Frames) (m : MemoryState) → FaultsOnly (method_selection i p s m)
plain_selection p i s m = faults_of _ (method_selection i p s m) (selection_so p i s m)
