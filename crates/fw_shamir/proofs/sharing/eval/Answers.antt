use Rattle.std.proofs.Common.{◌≢◌, ◌-◌, ◌∙◌, length, sym, arith}
use Rattle.std.proofs.lemmas.Bool.{eqb-false}
use Rattle.fw_shamir.proofs.Newton.{eval-last}
use Rattle.fw_shamir.proofs.sharing.eval.Goals as goal

pub loop-k-init : goal.loop-k-init
loop-k-init c =
    let cs = c.args.coefficients.now in
    let some : length cs ≢ 0 = eqb-false (length cs) 0 (sym c.is_empty.ensures ∙ c.if-is_empty.false) in
    record {
      inside = omega arith;
      tail = eval-last cs c.args.at (length cs - 1) (omega arith);
    }
