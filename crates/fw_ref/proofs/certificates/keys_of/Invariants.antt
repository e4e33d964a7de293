-- What holds while the loop of `keys_of` runs.
use Rattle.std.proofs.Common.{◌≡◌, map}
use Rattle.fw_list.specs.Lists.{numbers_from}
use Rattle.fw_secret.specs.Dealt.{body_key}
use Rattle.fw_ref.proofs.certificates.keys_of.Given as goal

abbrev pub invariant-loop-client : goal.invariant-loop-client
invariant-loop-client l = l.keys ≡ map (body_key l.fn.deal.origin) (numbers_from 0 l.client)
