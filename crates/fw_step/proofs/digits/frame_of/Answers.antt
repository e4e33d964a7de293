-- What is left to show of `frame_of`.
use Rattle.std.proofs.Common.{◌≡◌, ℕ, List, Ok, sym, ◌∙◌, ap}
use Rattle.std.proofs.lemmas.Bool.{false≢true}
use Rattle.hex.specs.Hex.{decode_of}
use Rattle.fw_op.proofs.Each.{in_any_case}
use Rattle.fw_step.specs.Parts.{AreBytesOf}
use Rattle.fw_step.proofs.Decoded.{bytes_within, decoded_digits, right_digits}
use Rattle.fw_step.proofs.digits.frame_of.Goals as goal

pub returns-then-not-are_frame_digits-clause-none : goal.returns-then-not-are_frame_digits-clause-none
returns-then-not-are_frame_digits-clause-none c = λ bytes are. false≢true (c.if-not-are_frame_digits.ensures ∙ right_digits c.args.digits.now bytes are)

pub returns-in_default-clause-memory : goal.returns-in_default-clause-memory
returns-in_default-clause-memory c = decoded_digits c.args.digits.now (sym c.if-not-are_frame_digits.ensures)

pub returns-in_err-copy_of-clause-memory : goal.returns-in_err-copy_of-clause-memory
returns-in_err-copy_of-clause-memory c =
    in_any_case ((bytes : List ℕ) × AreBytesOf c.args.digits.now bytes) c.from_residual.result (decoded_digits c.args.digits.now (sym c.if-not-are_frame_digits.ensures))

pub returns-clause-found : goal.returns-clause-found
returns-clause-found c =
    let copied = c.in_ok-copy_of.ensures ∙ c.as_slice.ensures.value in
    let decoded : decode_of c.args.digits.now ≡ Ok c.in_ok-copy_of.field-0 = c.in-Ok.ensures.ok ∙ ap Ok (sym copied) in
    (decoded, bytes_within c.args.digits.now c.in_ok-copy_of.field-0 (sym c.if-not-are_frame_digits.ensures) decoded)
