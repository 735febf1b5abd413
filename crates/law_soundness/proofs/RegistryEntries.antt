-- What the registry keeps of an applet is there.
use Rattle.std.proofs.Common.{◌≡◌, ℕ, ◌+◌, ◌-◌, ◌≤◌, Bool, true, false, inl, inr, Option, Some, None, refl, ap, subst, arith, if◌then◌else◌}
use Rattle.std.proofs.lemmas.Bool.{and_parts, le-leb, leb-true, ltb-true, or_left, or_right}
use Rattle.std.proofs.lemmas.Option.{cond_some, none-some}
use Rattle.std.specs.Option.{option_map}
use Rattle.std.specs.Prelude.{◌==◌, nat_le, nat_lt, unwrap_or}
use Rattle.jc_heap.specs.declared.place.AppletEntry.{AppletEntry}
use Rattle.jc_heap.specs.WholeHeap.{IsReference}
use Rattle.jc_transient.specs.declared.owner.AppletNumber.{AppletNumber}
use Rattle.jc_memory.specs.State.{MemoryState}
use Rattle.jc_linker.specs.Values.{Packages}
use Rattle.jc_environment.specs.Registry.{aid_of_applet, applet_count, applet_entry, instance_of_applet, is_applet}
use Rattle.jc_packages.specs.Objects.{is_object_address}
use Rattle.jc_packages.specs.Sound.{entry_word}
use Rattle.jc_api_framework.specs.System.Sharing.{aid_or_null}
use Rattle.law_soundness.specs.MemoryLaws.State.{IsSoundMemory, IsSteady, is_open, is_owner_up_to, most_owner}
use Rattle.law_code.proofs.StackCells.{mapped_some}

module _ (p : Packages) (m : MemoryState) (sound : IsSoundMemory p m) where
  entry_refers : (n : ℕ) (e : AppletEntry) → applet_entry m.heap.now n ≡ Some e → IsReference m.heap.now e.aid × IsReference m.heap.now e.instance
  unfolding applet_entry
  entry_refers n e is =
      let so = cond_some (is_applet m.heap.now n) _ e is in
      let parts = and_parts (nat_lt 0 n) (nat_le n (applet_count m.heap.now)) so.0 in
      let some = ltb-true 0 n parts.0 in
      let few = leb-true n (applet_count m.heap.now) parts.1 in
      let kept = sound.now.applets (n - 1) (omega (arith, some, few)) in
      subst (λ (x : AppletEntry). IsReference m.heap.now x.aid × IsReference m.heap.now x.instance) so.1 (
        inr (and_parts (is_object_address m.heap.now (entry_word m.heap.now (n - 1) 0)) _ kept.aid).0,
        inr (and_parts (is_object_address m.heap.now (entry_word m.heap.now (n - 1) 2)) _ kept.instance).0,
      )

  -- its AID object, its instance, or null where there is none
  pub aid_refers : (n : ℕ) → IsReference m.heap.now (unwrap_or (aid_of_applet m.heap.now n) 0)
  aid_refers n = by_entry (applet_entry m.heap.now n) refl
    where
      by_entry : (o : Option AppletEntry) → applet_entry m.heap.now n ≡ o → IsReference m.heap.now (unwrap_or (option_map (λ e. e.aid) o) 0)
      by_entry None is = inl refl
      by_entry (Some e) is = (entry_refers n e is).0

  pub instance_refers : (n : ℕ) → IsReference m.heap.now (unwrap_or (instance_of_applet m.heap.now n) 0)
  instance_refers n = by_entry (applet_entry m.heap.now n) refl
    where
      by_entry : (o : Option AppletEntry) → applet_entry m.heap.now n ≡ o → IsReference m.heap.now (unwrap_or (option_map (λ e. e.instance) o) 0)
      by_entry None is = inl refl
      by_entry (Some e) is = (entry_refers n e is).1

  pub or_null_refers : (o : Option AppletNumber) → IsReference m.heap.now (aid_or_null m.heap.now o)
  or_null_refers None = inl refl
  or_null_refers (Some n) = aid_refers n.0

  pub server_refers : (n server : ℕ) → instance_of_applet m.heap.now n ≡ Some server → IsReference m.heap.now server
  server_refers n server is = mapped_some (λ e. e.instance) (applet_entry m.heap.now n) server (IsReference m.heap.now) is (λ e there. (entry_refers n e there).1)

-- an applet of which there is an instance is there
entered_in : (b : Bool) (n server : ℕ) (e : AppletEntry) → option_map (λ x. x.instance) (if b then Some e else None) ≡ Some server → b ≡ true
entered_in true n server e is = refl
entered_in false n server e is = absurd (none-some server is)

module _ (p : Packages) (m : MemoryState) (sound : IsSoundMemory p m) (steady : IsSteady m) where
  most_in : (b : Bool) (counts durable : ℕ) → counts ≡ durable → counts ≤ (if b then durable + 1 else counts)
  most_in true counts durable same = omega (arith, same)
  most_in false counts durable same = omega arith

  pub server_known : (n server : ℕ) → instance_of_applet m.heap.now n ≡ Some server → (is_owner_up_to (most_owner m) m.heap.now n ≡ true) × (n ≡ 0 → ⊥)
  unfolding applet_entry
  server_known n server is =
      let there : is_applet m.heap.now n ≡ true = entered_in (is_applet m.heap.now n) n server _ is in
      let parts = and_parts (nat_lt 0 n) (nat_le n (applet_count m.heap.now)) there in
      let some = ltb-true 0 n parts.0 in
      let few = leb-true n (applet_count m.heap.now) parts.1 in
      let most = most_in (is_open m.registers.installation) m.heap.now.counts.1 m.heap.durable.counts.1 (ap (λ c. c.1) steady.counts) in
      let low : n ≤ most_owner m = omega (arith, few, most) in
      (or_right (n == 0) _ (or_left (nat_le n (most_owner m)) _ (le-leb n (most_owner m) low)), λ zero. omega (arith, some, zero))
