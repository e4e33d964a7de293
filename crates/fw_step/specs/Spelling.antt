-- How the steps of a schedule are spelled.
use Rattle.std.specs.Prelude.{◌≡◌, ℕ, zero, suc, List, [], ◌∷◌, flat_map, codes, decimal, Ok}
use Rattle.hex.specs.Hex.{decode_of}
use Rattle.fw_base.specs.Names.{seat_name}
use Rattle.fw_op.specs.Words.{sentence, client_word}
use Rattle.fw_op.specs.Ops.{op_words}
use Rattle.fw_op.specs.Replies.{reply_words}
use Rattle.fw_step.specs.declared.step.Step.{Step}
use Rattle.fw_step.specs.declared.step.Step.TheVariants.{Submit, Deliver, Flush, Tick, Lie}
use Rattle.fw_step.specs.declared.step.Lie.{Lie as LieForm}
use Rattle.fw_step.specs.declared.step.Lie.TheVariants as lies
use Rattle.fw_step.specs.declared.step.LieOp.{LieOp}
use Rattle.fw_step.specs.declared.step.LieOp.TheVariants as lie_ops
use Rattle.fw_step.specs.declared.step.LieRequest.{LieRequest}
use Rattle.fw_step.specs.declared.step.LieReply.{LieReply}

-- an operation, or what is none
abbrev pub lie_op_words : LieOp → List (List ℕ)
lie_op_words lie_ops.Bad = codes "bad" ∷ []
lie_op_words (lie_ops.Op op) = op_words op

abbrev pub request_words : LieRequest → List (List ℕ)
request_words r = client_word r.client ∷ decimal r.stamp ∷ lie_op_words r.op

abbrev pub answered_words : LieReply → List (List ℕ)
answered_words a = client_word a.client ∷ decimal a.stamp ∷ reply_words a.reply

-- an entry: `null`, or its requests
abbrev pub entry_words : List LieRequest → List (List ℕ)
entry_words [] = codes "null" ∷ []
entry_words (r ∷ rs) = flat_map request_words (r ∷ rs)

-- an answer: `null`, or its replies
abbrev pub answer_words : List LieReply → List (List ℕ)
answer_words [] = codes "null" ∷ []
answer_words (a ∷ more) = flat_map answered_words (a ∷ more)

abbrev pub phase_word : ℕ → List ℕ
phase_word zero = codes "prepare"
phase_word (suc k) = codes "commit"

-- a lie behind its two seats, where raw bytes are spelled by these digits
abbrev pub lie_words : List ℕ → LieForm → List (List ℕ)
lie_words digits (lies.Raw bytes) = codes "raw" ∷ digits ∷ []
lie_words digits (lies.Copy frame) = codes "copy" ∷ decimal frame ∷ []
lie_words digits (lies.Request request) = codes "request" ∷ request_words request
lie_words digits (lies.Propose view number entry) = codes "propose" ∷ decimal view ∷ decimal number ∷ entry_words entry
lie_words digits (lies.Vote phase view number entry) =
    codes "vote" ∷ phase_word phase ∷ decimal view ∷ decimal number ∷ entry_words entry
lie_words digits (lies.Change view) = codes "change" ∷ decimal view ∷ []
lie_words digits (lies.Share number answer) = codes "share" ∷ decimal number ∷ answer_words answer
lie_words digits (lies.Reply number answer) = codes "reply" ∷ decimal number ∷ answer_words answer

abbrev pub step_words : List ℕ → Step → List (List ℕ)
step_words digits (Submit client op) = codes "submit" ∷ client_word client ∷ op_words op
step_words digits (Deliver frame) = codes "deliver" ∷ decimal frame ∷ []
step_words digits (Flush most) = codes "flush" ∷ decimal most ∷ []
step_words digits (Tick seat) = codes "tick" ∷ seat_name seat ∷ []
step_words digits (Lie from to lie) = codes "lie" ∷ seat_name from ∷ seat_name to ∷ lie_words digits lie

-- the digits of raw bytes, of either case; a lie without raw bytes has none
abbrev pub AreLieDigits : List ℕ → LieForm → Type 0
AreLieDigits digits (lies.Raw bytes) = decode_of digits ≡ Ok bytes
AreLieDigits digits _ = digits ≡ []

abbrev pub AreDigits : List ℕ → Step → Type 0
AreDigits digits (Lie from to lie) = AreLieDigits digits lie
AreDigits digits _ = digits ≡ []

-- the words are a lie's, behind its two seats
abbrev pub AreLieWords : List (List ℕ) → LieForm → Type 0
AreLieWords words lie = (digits : List ℕ) × AreLieDigits digits lie × (words ≡ lie_words digits lie)

-- the words are a step's
abbrev pub AreStepWords : List (List ℕ) → Step → Type 0
AreStepWords words step = (digits : List ℕ) × AreDigits digits step × (words ≡ step_words digits step)

-- the text is a step's: only raw bytes have more than one spelling
pub record IsStepText (text : List ℕ) (step : Step) : Type 0 where
  pub digits : List ℕ
  pub raw : AreDigits digits step
  pub spelled : text ≡ sentence (step_words digits step)
