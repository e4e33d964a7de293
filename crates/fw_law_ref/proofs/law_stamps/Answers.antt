-- What is left to show of `law_stamps`.
use Rattle.fw_law_ref.proofs.Stamps.{last_is_greatest, old_changes_nothing, new_is_answered, unopened_keeps_records, others_are_kept}
use Rattle.fw_law_ref.proofs.law_stamps.Goals as goal

pub returns : goal.returns
returns c = record {
  last = last_is_greatest;
  old = old_changes_nothing;
  new = new_is_answered;
  unopened = unopened_keeps_records;
  others = others_are_kept;
}
