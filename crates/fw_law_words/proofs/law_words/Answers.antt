use Rattle.fw_law_words.proofs.Firsts.{first_some-in}
use Rattle.fw_law_words.proofs.Roles.{answers_same}
use Rattle.fw_law_words.proofs.law_words.Goals as goal

pub returns : goal.returns
returns c = record { found = first_some-in; same = answers_same }
