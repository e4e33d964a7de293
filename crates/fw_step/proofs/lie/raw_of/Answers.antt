-- What is left to show of `raw_of`.
use Rattle.std.proofs.Common.{codes, ◌∷◌}
use Rattle.fw_base.specs.declared.params.Params.{Params}
use Rattle.fw_base.specs.declared.seat.Seat.{Seat}
use Rattle.fw_op.proofs.Each.{in_any_case}
use Rattle.fw_op.specs.Words.{words_of}
use Rattle.fw_step.specs.declared.step.Lie.{Lie}
use Rattle.fw_step.specs.declared.step.Lie.TheVariants as lies
use Rattle.fw_step.specs.Parts.{IsLieOf}
use Rattle.fw_step.proofs.Decoded.{raw_made, no_raw}
use Rattle.fw_step.proofs.lie.raw_of.Goals as goal

pub returns-in_err-bytes-clause-memory : goal.returns-in_err-bytes-clause-memory
returns-in_err-bytes-clause-memory c =
    let wanted = rw c.as_bytes.ensures.value at c.in_err-bytes.ensures.memory in
    in_any_case ((lie : Lie) × ((p : Params) (from : Seat) → IsLieOf p from (codes "raw" ∷ words_of c.args.text.now) lie)) c.from_residual.result (lies.Raw wanted.0, raw_made c.args.text.now wanted.0 wanted.1)

pub returns-in-Some-clause-found : goal.returns-in-Some-clause-found
returns-in-Some-clause-found c =
    let found = rw c.in-Some.is at (rw c.as_bytes.ensures.value at c.in_ok-bytes.ensures.found) in
    raw_made c.args.text.now c.in-Some.bytes found

pub returns-in-None-clause-none : goal.returns-in-None-clause-none
returns-in-None-clause-none c =
    let none = rw c.in-None.is at (rw c.as_bytes.ensures.value at c.in_ok-bytes.ensures.none) in
    no_raw c.args.text.now none
