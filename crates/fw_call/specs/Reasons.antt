-- Why a private call has no output, and what is known of a plan that was read.
use Rattle.std.specs.Prelude.{◌≡◌, ℕ, ◌⊎◌, List, Result, Ok, Err, IsTrue}
use Rattle.std.specs.List.{list_all}
use Rattle.fw_base.specs.Sizes.{accepted}
use Rattle.fw_record.specs.Records.{starts_fit}
use Rattle.fw_step.specs.Fitting.{step_fits}
use Rattle.fw_command.specs.declared.command.Command.{Command}
use Rattle.fw_sched.specs.declared.plan.Plan.{Plan}
use Rattle.fw_sched.specs.declared.fault.InputFault.TheVariants as input
use Rattle.fw_call.specs.declared.status.Status.{Status}
use Rattle.fw_call.specs.declared.status.Status.TheVariants as status
use Rattle.fw_call.specs.declared.answer.NoOutput.{NoOutput}
use Rattle.fw_call.specs.declared.answer.NoOutput.TheVariants as no_output
use Rattle.fw_rules.specs.declared.limits.Which.{Which}
use Rattle.fw_call.specs.Answer.{MustWait, LacksSeat, PassesLimit, IsRight}

-- what each plan has that was read
pub record IsPlan (p : Plan) : Type 0 where
  pub sizes : IsTrue (accepted p.params)
  pub starts : IsTrue (starts_fit p.params.clients p.starts)
  pub steps : IsTrue (list_all (step_fits p.params p.faulty) p.steps)

-- why a command has no output for a plan
abbrev pub IsReason : Command → Plan → NoOutput → Type 0
IsReason command p why =
    ((why ≡ no_output.Later) × MustWait command p) ⊎ (((why ≡ no_output.Input input.Seat) × LacksSeat command p) ⊎ (((step : ℕ) × (which : Which) × (why ≡ no_output.Limit step which) × PassesLimit step which command p) ⊎ (why ≡ no_output.Memory)))

-- the status of an answer where nothing failed is the right one
abbrev pub IsRightOr : Command → List ℕ → Result (List ℕ) NoOutput → Type 0
IsRightOr command bytes (Ok text) = IsRight command bytes status.Ok
IsRightOr command bytes (Err (no_output.Input fault)) = IsRight command bytes (status.Input fault)
IsRightOr command bytes (Err no_output.TooLong) = IsRight command bytes status.TooLong
IsRightOr command bytes (Err no_output.Later) = IsRight command bytes status.Later
IsRightOr command bytes (Err (no_output.Limit step which)) = IsRight command bytes (status.Limit step which)
IsRightOr command bytes (Err _) = Unit {0}

-- the answer has this status, or wants memory
abbrev pub IsOrMemory : Result (List ℕ) NoOutput → Status → Type 0
IsOrMemory (Ok text) s = s ≡ status.Ok
IsOrMemory (Err (no_output.Input fault)) s = s ≡ status.Input fault
IsOrMemory (Err no_output.TooLong) s = s ≡ status.TooLong
IsOrMemory (Err no_output.Later) s = s ≡ status.Later
IsOrMemory (Err (no_output.Limit step which)) s = s ≡ status.Limit step which
IsOrMemory (Err no_output.Memory) s = Unit {0}
IsOrMemory (Err no_output.Fault) s = ⊥

-- all of the input was read: there is an output, or something is wrong with it, or its schedule can't be replayed so far, or sends too much
abbrev pub HasRead : Result (List ℕ) NoOutput → Type 0
HasRead (Ok text) = Unit {0}
HasRead (Err (no_output.Input fault)) = Unit {0}
HasRead (Err no_output.Later) = Unit {0}
HasRead (Err (no_output.Limit step which)) = Unit {0}
HasRead (Err _) = ⊥
