-- What the program answers.
use Rattle.std.specs.Prelude.{◌≡◌, ◌≤◌, ◌<◌, ℕ, Bool, true, false, ◌⊎◌, ◌++◌, List, [], length, Option, Some, None, IfSome, IsTrue}
use Rattle.fw_base.specs.Faults.{Rose}
use Rattle.fw_base.specs.declared.params.Params.{Params}
use Rattle.fw_base.specs.declared.seat.Seat.{Seat}
use Rattle.fw_base.specs.Seats.{fits}
use Rattle.fw_io.specs.Sink.{AppendsFront}
use Rattle.fw_command.specs.declared.command.Command.{Command}
use Rattle.fw_command.specs.declared.command.Command.TheVariants.{Replay, Deal}
use Rattle.fw_command.specs.Commands.{IsCommand}
use Rattle.fw_sched.specs.declared.plan.Plan.{Plan}
use Rattle.fw_sched.specs.declared.fault.InputFault.{InputFault}
use Rattle.fw_sched.specs.declared.fault.InputFault.TheVariants as input
use Rattle.fw_sched.specs.Document.{IsDocument}
use Rattle.fw_sched.specs.Faults.{IsFault}
use Rattle.fw_sched.specs.Replayed.{can_replay}
use Rattle.fw_directory.specs.Directories.{PlainDirectory}
use Rattle.fw_deal.specs.Deals.{PlainDeal, IsDealtFile}
use Rattle.fw_rules.specs.declared.limits.Which.{Which}
use Rattle.fw_op.specs.declared.op.Op.{Op}
use Rattle.fw_trace.specs.Trace.{Trace}
use Rattle.fw_law_honest.specs.Laws.{AcceptsAnswers, LetsDownCertificates}
use Rattle.fw_world.specs.Plans.{deal_of, IsRunOf, FailsAt, IsWithin}
use Rattle.fw_world.specs.Replay.{IsReportOf}
use Rattle.fw_call.specs.declared.limits.TheConstants.{LONGEST_INPUT}
use Rattle.fw_call.specs.declared.status.Status.{Status}
use Rattle.fw_call.specs.declared.status.Status.TheVariants as status
use Rattle.fw_call.specs.Lines.{usage_line, read_line, too_long_line, later_line, limit_line, input_line}

-- ---- what the words ask for

-- the words ask for a replay
abbrev pub IsReplay : List (List ℕ) → Type 0
IsReplay words = IsCommand words Replay

-- the words ask for the hand file of a seat, or for the public one
abbrev pub IsDeal : List (List ℕ) → Option Seat → Type 0
IsDeal words seat = IsCommand words (Deal seat)

-- they are those of some command
abbrev pub HasCommand : List (List ℕ) → Type 0
HasCommand words = (command : Command) × IsCommand words command

-- ---- what an input is

-- the bytes are the document of a plan of which this holds
abbrev pub DocumentWhere : (Plan → Type 0) → List ℕ → Type 0
DocumentWhere P bytes = (p : Plan) × IsDocument bytes p × P p

-- the bytes are the document of one plan and of no other, and this holds of it
pub record IsDocumentOf (P : Plan → Type 0) (bytes : List ℕ) : Type 0 where
  pub plan : Plan
  pub document : IsDocument bytes plan
  pub only : (other : Plan) → IsDocument bytes other → other ≡ plan
  pub holds : P plan

-- the bytes are the document of a plan, and where one agreement node decides and nobody is faulty this holds of its deal, of the deal's
-- directory and of the trace of its run
abbrev pub HoldsOfRun : (PlainDeal → PlainDirectory → Trace (List ℕ) Op → Type 0) → List ℕ → Type 0
HoldsOfRun P bytes = (p : Plan) × (d : PlainDirectory) × (t : Trace (List ℕ) Op) × IsDocument bytes p × IsRunOf p d t × (p.params.f ≡ 0 → p.faulty ≡ [] → P (deal_of p) d t)

-- each reply that a client accepted is the reference service's, at its number of the agreed list
abbrev pub AcceptsOnlyAnswers : List ℕ → Type 0
AcceptsOnlyAnswers bytes = HoldsOfRun AcceptsAnswers bytes

-- each frame that a filter sent downwards is the certificate of a number of the agreed list, in all its bytes
abbrev pub LetsDownOnlyCertificates : List ℕ → Type 0
LetsDownOnlyCertificates bytes = HoldsOfRun LetsDownCertificates bytes

-- the deployment has the seat; a public file is nobody's
abbrev pub has_seat : Params → Option Seat → Bool
has_seat p None = true
has_seat p (Some seat) = fits p seat

-- ---- what a command does with a plan

-- it can be done: the schedule can be replayed so far and sends not too much, the deployment has the seat
abbrev pub CanDo : Command → Plan → Type 0
CanDo Replay p = IsTrue (can_replay p) × IsWithin p
CanDo (Deal seat) p = IsTrue (has_seat p.params seat)

-- the report of the plan's run, or the hand file of its deal
abbrev pub IsOutputOf : Command → Plan → List ℕ → Type 0
IsOutputOf Replay p text = IsReportOf p text
IsOutputOf (Deal seat) p text = IsDealtFile (deal_of p) seat text

-- the schedule can't be replayed so far
abbrev pub MustWait : Command → Plan → Type 0
MustWait Replay p = can_replay p ≡ false
MustWait (Deal seat) p = ⊥

-- it can be replayed so far, and would send too much of this at this step
abbrev pub PassesLimit : ℕ → Which → Command → Plan → Type 0
PassesLimit step which Replay p = IsTrue (can_replay p) × FailsAt p step which
PassesLimit step which (Deal seat) p = ⊥

-- the deployment lacks the seat
abbrev pub LacksSeat : Command → Plan → Type 0
LacksSeat Replay p = ⊥
LacksSeat (Deal seat) p = has_seat p.params seat ≡ false

-- what is wrong with an input for a command: the first fault of bytes that are no document, or a seat that the deployment lacks
abbrev pub IsInputFault : Command → List ℕ → InputFault → Type 0
IsInputFault command bytes fault = IsFault bytes fault ⊎ ((fault ≡ input.Seat) × DocumentWhere (LacksSeat command) bytes)

-- ---- the right answer

-- of a command at an input of these bytes, where nothing fails and there is memory: this holds of one status
abbrev pub IsRight : Command → List ℕ → Status → Type 0
IsRight command bytes status.TooLong = LONGEST_INPUT < length bytes
IsRight command bytes (status.Input fault) = (length bytes ≤ LONGEST_INPUT) × IsInputFault command bytes fault
IsRight command bytes status.Later = (length bytes ≤ LONGEST_INPUT) × DocumentWhere (MustWait command) bytes
IsRight command bytes (status.Limit step which) = (length bytes ≤ LONGEST_INPUT) × DocumentWhere (PassesLimit step which command) bytes
IsRight command bytes status.Ok = (length bytes ≤ LONGEST_INPUT) × DocumentWhere (CanDo command) bytes
IsRight command bytes _ = ⊥

-- the output of a command that was done
abbrev pub IsOutput : Command → List ℕ → List ℕ → Type 0
IsOutput command bytes text = IsDocumentOf (λ p. IsOutputOf command p text) bytes

-- ---- what is written

-- the text was appended to what was written, where that is told
abbrev pub Appends : Option (List ℕ) → List ℕ → Option (List ℕ) → Type 0
Appends before text after = IfSome before (λ bytes. after ≡ Some (bytes ++ text))

-- a front of the text was appended, and not all of it, where that is told
abbrev pub AppendsPart : Option (List ℕ) → List ℕ → Option (List ℕ) → Type 0
AppendsPart before text after = IfSome before (λ bytes. AppendsFront bytes text after)

-- some bytes, which are those that the source had left where it tells them, have this text as the output of a command
abbrev pub Outputs : Command → Option (List ℕ) → List ℕ → Type 0
Outputs command left text = (bytes : List ℕ) × IsOutput command bytes text × IfSome left (λ all. all ≡ bytes)

-- the bytes were read to their end, and the text is the report of the plan that they are the document of
abbrev pub Reports : Option (List ℕ) → List ℕ → Type 0
Reports left text = Outputs Replay left text

-- the same, and the text is the hand file of a seat, or the public one
abbrev pub Deals : Option Seat → Option (List ℕ) → List ℕ → Type 0
Deals seat left text = Outputs (Deal seat) left text

-- the text of the outcome of a command at a source that had this left and of which the count of faults was and is this: the
-- line of a failed read, of an input that is too long, wrong, can't be replayed so far or sends too much, or the output
abbrev pub IsTextOf : Command → Option (List ℕ) → ℕ → ℕ → List ℕ → Type 0
IsTextOf command left before after text =
    (Rose before after × (text ≡ read_line))
    ⊎ (IfSome left (λ bytes. IsRight command bytes status.TooLong) × (text ≡ too_long_line))
    ⊎ ((fault : InputFault) × IfSome left (λ bytes. IsRight command bytes (status.Input fault)) × (text ≡ input_line fault))
    ⊎ (IfSome left (λ bytes. IsRight command bytes status.Later) × (text ≡ later_line))
    ⊎ ((step : ℕ) × (which : Which) × IfSome left (λ bytes. IsRight command bytes (status.Limit step which)) × (text ≡ limit_line step which))
    ⊎ Outputs command left text

-- and of words, which may be no command
abbrev pub IsOutcomeText : List (List ℕ) → Option (List ℕ) → ℕ → ℕ → List ℕ → Type 0
IsOutcomeText words left before after text =
    ((¬ HasCommand words) × (text ≡ usage_line)) ⊎ ((command : Command) × IsCommand words command × IsTextOf command left before after text)
