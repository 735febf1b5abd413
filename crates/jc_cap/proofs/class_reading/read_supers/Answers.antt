use Rattle.std.proofs.Common.{ap, ◌∙◌, Ok, sym}
use Rattle.jc_cap.specs.ClassReading.{is_known_class}
use Rattle.jc_cap.proofs.Supers.{supers_list, supers_read}
use Rattle.jc_cap.proofs.class_reading.read_supers.Goals as goal

pub of-requires : goal.of-requires
of-requires c = supers_list (is_known_class c.args.known) c.args.count c.args.bytes.now c.in_ok-rest.rest.now c.in_ok-rest.ensures

pub returns : goal.returns
returns c = supers_read (is_known_class c.args.known) c.args.count c.args.bytes.now c.in_ok-rest.rest.now c.in_ok-rest.ensures
    ∙ ap (λ xs. Ok (xs, c.in_ok-rest.rest.now)) (sym c.of.ensures)
