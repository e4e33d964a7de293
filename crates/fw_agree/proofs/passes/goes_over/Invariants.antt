-- The numbers that are left lead where all lead.
use Rattle.std.proofs.Common.{◌≡◌, ◌+◌, ◌-◌, length, take}
use Rattle.fw_list.specs.Lists.{numbers_from}
use Rattle.fw_base.specs.declared.params.Params.{Params}
use Rattle.fw_rules.specs.Agree.{for_each}
use Rattle.fw_kept.specs.Kept.{self_of, IsFor}
use Rattle.fw_agree.specs.Steps.{at, chooses}
use Rattle.fw_agree.proofs.passes.goes_over.Given as goal

abbrev pub invariant-loop-k : goal.invariant-loop-k
invariant-loop-k l =
    let me = self_of l.directory l.hand l.own in
    record {
      step : for_each me (chooses l.pass me) (numbers_from (l.k + 1) (l.k-end - l.k)) (at l.keeps l.out) ≡ for_each me (chooses l.pass me) (numbers_from 1 l.k-end) (at l.fn.keeps l.fn.out);
      sizes : (p : Params) → IsFor p l.fn.keeps → IsFor p l.keeps;
      begins : take (length l.fn.out) l.out ≡ l.fn.out;
    }
