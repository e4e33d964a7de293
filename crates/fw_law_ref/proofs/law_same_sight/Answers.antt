-- What is left to show of `law_same_sight`.
use Rattle.fw_law_ref.proofs.Sight.{same_sight, same_start}
use Rattle.fw_law_ref.proofs.law_same_sight.Goals as goal

pub returns : goal.returns
returns c = record { any = same_sight; start = same_start }
