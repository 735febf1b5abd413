use Rattle.law_soundness.proofs.Words.{images_have_words}
use Rattle.law_soundness.proofs.growth_laws.package_records_are_of_words.Goals as goal

pub returns : goal.returns
returns c = images_have_words
