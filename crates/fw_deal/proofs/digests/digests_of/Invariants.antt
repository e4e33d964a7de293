use Rattle.std.proofs.Common.{◌≡◌, length}
use Rattle.fw_deal.specs.Rows.{HasRows}
use Rattle.fw_deal.proofs.digests.digests_of.Given as goal

abbrev pub invariant-loop-k : goal.invariant-loop-k
invariant-loop-k l = record {
  values : length l.values ≡ 16384;
  row : length l.row ≡ 16384;
  digests : HasRows (record { params = l.fn.params; seed = l.fn.seed }) l.k l.digests;
}
