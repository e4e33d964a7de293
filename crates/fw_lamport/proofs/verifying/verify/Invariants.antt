use Rattle.std.proofs.Common.{◌≡◌, ◌+◌, ◌<◌, ℕ}
use Rattle.fw_lamport.specs.Signature.{IsShown}
use Rattle.fw_lamport.proofs.verifying.verify.Given as goal

abbrev pub invariant-loop-b : goal.invariant-loop-b
invariant-loop-b g l = record {
  counted : l.steps ≡ l.fn.steps + l.b;
  shown : (a : ℕ) → a < l.b → IsShown l.fn.rows l.fn.slot l.fn.point l.fn.digest l.fn.sig a;
}
