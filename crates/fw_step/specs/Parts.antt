-- What the readers of the parts of a step read.
use Rattle.std.specs.Prelude.{◌≡◌, ◌<◌, ℕ, ◌*◌, ◌%◌, Bool, ◌&&◌, nat_eq, nat_le, List, ◌∷◌, length, decimal, Ok, IsTrue}
use Rattle.std.specs.List.{list_all}
use Rattle.hex.specs.Hex.{decode_of, is_hex_digit}
use Rattle.fw_list.specs.Numbers.{within}
use Rattle.fw_base.specs.declared.params.Params.{Params}
use Rattle.fw_base.specs.declared.seat.Seat.{Seat}
use Rattle.fw_op.specs.declared.reply.Reply.{Reply}
use Rattle.fw_op.specs.Replies.{reply_words, reply_fits, has_bytes}
use Rattle.fw_list.specs.declared.limits.TheConstants.{LONGEST_FRAME}
use Rattle.fw_step.specs.declared.step.Step.{Step}
use Rattle.fw_step.specs.declared.step.Lie.{Lie}
use Rattle.fw_step.specs.declared.step.LieOp.{LieOp}
use Rattle.fw_step.specs.declared.step.LieRequest.{LieRequest}
use Rattle.fw_step.specs.declared.step.LieReply.{LieReply}
use Rattle.fw_step.specs.Spelling.{lie_op_words, request_words, answered_words, entry_words, answer_words, AreLieWords, AreStepWords}
use Rattle.fw_step.specs.Fitting.{lie_op_fits, request_fits, answered_fits, entry_fits, answer_fits, lie_fits, step_fits}

-- digits of either case, two for each byte of a frame
abbrev pub are_frame_digits : List ℕ → Bool
are_frame_digits text = nat_eq (length text % 2) 0 && nat_le 2 (length text) && nat_le (length text) (2 * LONGEST_FRAME) && list_all is_hex_digit text

-- the bytes of a frame, spelled by these digits
abbrev pub AreBytesOf : List ℕ → List ℕ → Type 0
AreBytesOf digits bytes = (decode_of digits ≡ Ok bytes) × IsTrue (within 1 (length bytes) LONGEST_FRAME)

-- what a liar asks, a request, a reply other than null, one to a request, an entry and an answer of the deployment, spelled by these words
abbrev pub IsLieOpOf : ℕ → List (List ℕ) → LieOp → Type 0
IsLieOpOf clients words op = (words ≡ lie_op_words op) × IsTrue (lie_op_fits clients op)

abbrev pub IsRequestOf : Params → List (List ℕ) → LieRequest → Type 0
IsRequestOf p words r = (words ≡ request_words r) × IsTrue (request_fits p r)

abbrev pub IsSaidOf : ℕ → List (List ℕ) → Reply → Type 0
IsSaidOf clients words reply = (words ≡ reply_words reply) × IsTrue (reply_fits clients reply) × IsTrue (has_bytes reply)

abbrev pub IsAnsweredOf : Params → List (List ℕ) → LieReply → Type 0
IsAnsweredOf p words a = (words ≡ answered_words a) × IsTrue (answered_fits p a)

abbrev pub IsEntryOf : Params → List (List ℕ) → List LieRequest → Type 0
IsEntryOf p words entry = (words ≡ entry_words entry) × IsTrue (entry_fits p entry)

abbrev pub IsAnswerOf : Params → List (List ℕ) → List LieReply → Type 0
IsAnswerOf p words answer = (words ≡ answer_words answer) × IsTrue (answer_fits p answer)

-- a view, a number and an entry, and a number and an answer, spelled by these words
abbrev pub IsBallotOf : Params → List (List ℕ) → ℕ → ℕ → List LieRequest → Type 0
IsBallotOf p words view number entry =
    (words ≡ decimal view ∷ decimal number ∷ entry_words entry) × (view < p.views) × IsTrue (within 1 number p.numbers) × IsTrue (entry_fits p entry)

abbrev pub IsResultOf : Params → List (List ℕ) → ℕ → List LieReply → Type 0
IsResultOf p words number answer = (words ≡ decimal number ∷ answer_words answer) × IsTrue (within 1 number p.numbers) × IsTrue (answer_fits p answer)

-- a lie that this seat may send, spelled by these words
abbrev pub IsLieOf : Params → Seat → List (List ℕ) → Lie → Type 0
IsLieOf p from words lie = AreLieWords words lie × IsTrue (lie_fits p from lie)

-- a step of a deployment with these faulty seats, spelled by these words
abbrev pub IsStepOf : Params → List Seat → List (List ℕ) → Step → Type 0
IsStepOf p faulty words step = AreStepWords words step × IsTrue (step_fits p faulty step)
