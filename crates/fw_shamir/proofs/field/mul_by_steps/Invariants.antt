use Rattle.std.proofs.Common.{◌≡◌, ◌-◌}
use Rattle.std.specs.Prelude.{bit_xor}
use Rattle.fw_shamir.specs.Steps.{times}
use Rattle.fw_shamir.proofs.field.mul_by_steps.Given as goal

-- the terms so far and those that are left
abbrev pub invariant-loop : goal.invariant-loop
invariant-loop l = bit_xor l.sum (times (8 - l.counter) l.term l.rest) ≡ times 8 l.fn.a l.fn.b
