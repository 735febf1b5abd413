use Rattle.std.specs.Prelude.{IfSome, Option}
use Rattle.std.specs.Option.{option_map}
use Rattle.std.proofs.Common.{◌≡◌, List, ◌++◌, ℕ, take, ap, subst}
use Rattle.jc_words.proofs.Streams.{read_whole}
use Rattle.jcard_files.proofs.reading.read_script.Goals as goal

pub returns-in-Ok-clause-bytes : goal.returns-in-Ok-clause-bytes
returns-in-Ok-clause-bytes g c =
    let same : g.F.Read.remaining c.take.result.inner.now ≡ g.F.Read.remaining c.args.file.now = ap (λ b. g.F.Read.remaining b.now) c.take.ensures.inner in
    read_whole (g.F.Read.remaining c.args.file.now) _ _ _ _ c.new-text.ensures.items c.take.ensures.limit
    (subst (λ (known : Option (List ℕ)). IfSome (option_map (take c.take.result.limit) known) (λ xs. c.read_to_end.new.buf.items ≡ c.new-text.result.items ++ xs))
    same c.in-Ok.ensures.bytes)
