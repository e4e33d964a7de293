-- With the signers that are left they are all, as far as a quorum goes.
use Rattle.std.proofs.Common.{◌≡◌, ◌≤◌, ◌-◌, ◌++◌, length, map, filter_map}
use Rattle.fw_list.specs.Lists.{numbers_from}
use Rattle.fw_pbft.specs.Tallies.{signer_of, seen_signer}
use Rattle.fw_pbft.proofs.votes.Votes.lowest_signers.Given as goal

abbrev pub invariant-loop-agree : goal.invariant-loop-agree
invariant-loop-agree l =
    let found = signer_of l.self l.phase l.view l.number l.digest in
    record {
      few : length l.signers ≤ l.quorum;
      all : map seen_signer l.signers ++ filter_map found (numbers_from l.agree (l.agree-end - l.agree)) ≡ filter_map found (numbers_from 0 l.agree-end);
    }
