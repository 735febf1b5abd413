use Rattle.std.specs.Prelude.{IfSome}
use Rattle.std.specs.Option.{option_map}
use Rattle.std.proofs.Common.{◌≡◌, List, ◌++◌, ℕ, take, ap, subst}
use Rattle.std.specs.Prelude.{Option}
use Rattle.jc_words.proofs.Streams.{read_whole}
use Rattle.jc_words.proofs.word_file.read_front.Goals as goal

pub returns-in-Ok : goal.returns-in-Ok
returns-in-Ok g c =
    let same : g.F.Read.remaining c.take.result.inner.now ≡ g.F.Read.remaining c.args.file.now = ap (λ b. g.F.Read.remaining b.now) c.take.ensures.inner in
    read_whole (g.F.Read.remaining c.args.file.now) _ _ _ _ c.requires c.take.ensures.limit
    (subst (λ (known : Option (List ℕ)). IfSome (option_map (take c.take.result.limit) known) (λ xs. c.read_to_end.new.buf.items ≡ c.args.room.now.items ++ xs))
    same c.in-Ok.ensures.bytes)
