-- What follows of the status that a text was written with.
use Rattle.std.proofs.Common.{◌≡◌, ℕ, ◌⊎◌, inl, inr, Some, sym, ◌∙◌, subst}
use Rattle.fw_command.specs.declared.command.Command.{Command}
use Rattle.fw_sched.specs.declared.fault.InputFault.{InputFault}
use Rattle.fw_rules.specs.declared.limits.Which.{Which}
use Rattle.fw_call.specs.declared.status.Status.{Status}
use Rattle.fw_call.specs.declared.status.Status.TheVariants as status

-- what holds of the outcome's status holds of an answer that is no failed write
pub holds_of : (P : Status → Type 0) (r s : Status) → (r ≡ s) ⊎ (r ≡ status.WriteFault) → P s → (r ≡ status.Ok) ⊎ (r ≡ status.TooLong) ⊎ (r ≡ status.Later) → P r
holds_of P r s (inl same) p which = subst P (sym same) p
holds_of P r s (inr failed) p (inl ok) = absurd (let e = sym failed ∙ ok in cc)
holds_of P r s (inr failed) p (inr (inl long)) = absurd (let e = sym failed ∙ long in cc)
holds_of P r s (inr failed) p (inr (inr later)) = absurd (let e = sym failed ∙ later in cc)

-- where no write failed, it is the outcome's
pub is_status : (W : Type 0) (r s : Status) → (r ≡ s) ⊎ (r ≡ status.WriteFault) → (r ≡ status.WriteFault → W) → ¬ W → r ≡ s
is_status W r s (inl same) rose none = same
is_status W r s (inr failed) rose none = absurd (none (rose failed))

pub same_command : (c d : Command) → Some c ≡ Some d → c ≡ d
same_command c d e = cc

-- a fault that was written is the one that was found
pub same_fault : (r : Status) (f g : InputFault) → (r ≡ status.Input f) ⊎ (r ≡ status.WriteFault) → r ≡ status.Input g → f ≡ g
same_fault r f g (inl found) said = let e = sym found ∙ said in cc
same_fault r f g (inr failed) said = absurd (let e = sym failed ∙ said in cc)

-- and so is a limit
pub same_limit : (r : Status) (step other : ℕ) (which kind : Which) → (r ≡ status.Limit step which) ⊎ (r ≡ status.WriteFault) → r ≡ status.Limit other kind → status.Limit step which ≡ status.Limit other kind
same_limit r step other which kind (inl found) said = sym found ∙ said
same_limit r step other which kind (inr failed) said = absurd (let e = sym failed ∙ said in cc)
