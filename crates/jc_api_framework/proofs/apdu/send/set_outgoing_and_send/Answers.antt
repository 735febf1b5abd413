use Rattle.std.proofs.Common.{rules, ◌≡◌, ◌∙◌, sym, subst, Ok, Err}
use Rattle.std.specs.Int.{w16}
use Rattle.std.proofs.lemmas.Int.{to_z-of_z}
use Rattle.jc_memory.specs.Programs.{Executes}
use Rattle.jc_memory.proofs.ProgramLemmas.{down_did}
use Rattle.jc_world.specs.NativeCalls.{after_call}
use Rattle.jc_api_framework.specs.Apdu.{apdu_set_outgoing_and_send, then_call, apdu_send_bytes, apdu_set_outgoing_length, apdu_set_outgoing}
use Rattle.jc_api_framework.proofs.ApduCalls.InARow.{at_both, then_broken, then_made}
use Rattle.jc_api_framework.proofs.apdu.send.set_outgoing_and_send.Goals as goal

pub returns-in_err-apdu_set_outgoing : goal.returns-in_err-apdu_set_outgoing
unfolding apdu_set_outgoing_and_send
returns-in_err-apdu_set_outgoing g c =
    let m = c.args.memory.now in let m1 = c.apdu_set_outgoing.new.memory in
    let same : c.from_residual.result ≡ Err c.in_err-apdu_set_outgoing.field-0.0 = search rules in
    subst (λ r. Executes (apdu_set_outgoing_and_send c.args.start c.args.count m) m (after_call r m1)) (sym same)
    (then_broken apdu_set_outgoing (λ v. then_call v (apdu_set_outgoing_length c.args.count) (apdu_send_bytes c.args.start c.args.count)) m m1
    c.in_err-apdu_set_outgoing.field-0.0 c.in_err-apdu_set_outgoing.ensures)

pub returns-in_err-apdu_set_outgoing_length : goal.returns-in_err-apdu_set_outgoing_length
unfolding apdu_set_outgoing_and_send
returns-in_err-apdu_set_outgoing_length g c =
    let m = c.args.memory.now in let m1 = c.apdu_set_outgoing.new.memory in let m2 = c.apdu_set_outgoing_length.new.memory in
    let e = c.in_err-apdu_set_outgoing_length.field-0.0 in
    let same : c.from_residual-in_err-apdu_set_outgoing_length.result ≡ Err e = search rules in
    let length_made : Executes (apdu_set_outgoing_length c.args.count m1) m1 (after_call (Err e) m2) =
    subst (λ z. Executes (apdu_set_outgoing_length z m1) m1 (after_call (Err e) m2))
    (to_z-of_z w16 c.args.count c.ranges.count) c.in_err-apdu_set_outgoing_length.ensures in
    subst (λ r. Executes (apdu_set_outgoing_and_send c.args.start c.args.count m) m (after_call r m2)) (sym same)
    (then_made apdu_set_outgoing (λ v. then_call v (apdu_set_outgoing_length c.args.count) (apdu_send_bytes c.args.start c.args.count)) m m1
    c.in_ok-apdu_set_outgoing.field-0 _ c.in_ok-apdu_set_outgoing.ensures
    (then_broken (apdu_set_outgoing_length c.args.count) (apdu_send_bytes c.args.start c.args.count) m1 m2 e length_made))

pub apdu_send_bytes-requires : goal.apdu_send_bytes-requires
apdu_send_bytes-requires g c = record {
  up = down_did (apdu_set_outgoing_length _ c.apdu_set_outgoing.new.memory) c.apdu_set_outgoing.new.memory c.apdu_set_outgoing_length.new.memory
      (Ok c.in_ok-apdu_set_outgoing_length.field-0) c.in_ok-apdu_set_outgoing_length.ensures
      ∙ down_did (apdu_set_outgoing c.args.memory.now) c.args.memory.now c.apdu_set_outgoing.new.memory
      (Ok c.in_ok-apdu_set_outgoing.field-0) c.in_ok-apdu_set_outgoing.ensures ∙ c.requires.up;
}

pub returns : goal.returns
unfolding apdu_set_outgoing_and_send
returns g c =
    let m = c.args.memory.now in
    let m1 = c.apdu_set_outgoing.new.memory in let m2 = c.apdu_set_outgoing_length.new.memory in let m3 = c.apdu_send_bytes.new.memory in
    let start = to_z-of_z w16 c.args.start c.ranges.start in
    let count = to_z-of_z w16 c.args.count c.ranges.count in
    let length_made : Executes (apdu_set_outgoing_length c.args.count m1) m1 (after_call (Ok c.in_ok-apdu_set_outgoing_length.field-0) m2) =
    subst (λ z. Executes (apdu_set_outgoing_length z m1) m1 (after_call (Ok c.in_ok-apdu_set_outgoing_length.field-0) m2)) count
    c.in_ok-apdu_set_outgoing_length.ensures in
    let sent_made : Executes (apdu_send_bytes c.args.start c.args.count m2) m2 (after_call c.apdu_send_bytes.result m3) =
    at_both (λ x y. Executes (apdu_send_bytes x y m2) m2 (after_call c.apdu_send_bytes.result m3)) _ _ c.args.start c.args.count start count
    c.apdu_send_bytes.ensures in
    then_made apdu_set_outgoing (λ v. then_call v (apdu_set_outgoing_length c.args.count) (apdu_send_bytes c.args.start c.args.count)) m m1
    c.in_ok-apdu_set_outgoing.field-0 _ c.in_ok-apdu_set_outgoing.ensures
    (then_made (apdu_set_outgoing_length c.args.count) (apdu_send_bytes c.args.start c.args.count) m1 m2 c.in_ok-apdu_set_outgoing_length.field-0 _ length_made
    sent_made)
