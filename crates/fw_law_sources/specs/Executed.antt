-- The lists of shares of an executor: those of the replies to what it executed.
use Rattle.std.specs.Prelude.{ℕ, ◌+◌, ◌≡◌, ◌≤◌, List, Some, map}
use Rattle.fw_base.specs.declared.slot.Slot.TheVariants as slots
use Rattle.fw_op.specs.declared.op.Op.{Op}
use Rattle.fw_op.specs.declared.start.Start.{Start}
use Rattle.fw_trace.specs.declared.Input.{Input}
use Rattle.fw_trace.specs.Executor.{entry_of}
use Rattle.fw_ref.specs.Reference.{Replied}
use Rattle.fw_frame.specs.Parts.{Part}
use Rattle.fw_frame.specs.View.{Entry}
use Rattle.fw_rules.specs.Means.{Means, Bodies}
use Rattle.fw_rules.specs.Signing.{reply_text}
use Rattle.fw_rules.specs.Roles.{given, step_all, executor_speech}
use Rattle.fw_law_exec.specs.Executed.{state_of, fold_of}

-- the share of the replies at number n
abbrev pub share_part : {M : Type 0} → Means M → Bodies → ℕ → ℕ → List Replied → Part
share_part k b j n replies =
    let text = reply_text n (map (given b n) replies) in
    record { slot = slots.Reply n; point = j + 1; text = text; values = k.sign (slots.Reply n) (j + 1) text }

-- it is that of the replies to the entry at an executed number, behind the entries before it
pub record IsOwnShare {M : Type 0} (k : Means M) (b : Bodies) (starts : List Start) (j : ℕ) (h : List (Input M Op)) (part : Part) : Type 0 where
  pub before : ℕ
  pub entry : Entry
  pub executed : before + 1 ≤ (state_of (executor_speech k b starts j) h).done
  pub there : entry_of (state_of (executor_speech k b starts j) h).kept (before + 1) ≡ Some entry
  pub is : part ≡ share_part k b j (before + 1) (step_all b (fold_of (executor_speech k b starts j) (entry_of (state_of (executor_speech k b starts j) h).kept) before) entry).0
