use Rattle.std.proofs.Common.{List, ℕ, Ok, ap, sym, subst, ◌≡◌, ◌∙◌}
use Rattle.jc_cap.specs.Reading.{IsReadable, value_of_whole}
use Rattle.jc_cap.specs.Header.{name_at}
use Rattle.jc_cap.proofs.FoundHeader.{has_count, name_behind, no_name}
use Rattle.jc_cap.proofs.header.name_found.Goals as goal

pub split_at-requires : goal.split_at-requires
split_at-requires c = has_count c.args.bytes.now (subst (λ f. IsReadable (value_of_whole (name_at f c.args.bytes.now))) c.in-V2_2.is c.requires)

pub returns-in-V2_1 : goal.returns-in-V2_1
returns-in-V2_1 c = rw c.in-V2_1.is (no_name c.args.bytes.now (subst (λ f. IsReadable (value_of_whole (name_at f c.args.bytes.now))) c.in-V2_1.is c.requires))

pub returns-in-V2_2 : goal.returns-in-V2_2
returns-in-V2_2 c = rw (c.in-V2_2.is, c.split_at.ensures.back) (name_behind c.args.bytes.now
    (subst (λ f. IsReadable (value_of_whole (name_at f c.args.bytes.now))) c.in-V2_2.is c.requires))
