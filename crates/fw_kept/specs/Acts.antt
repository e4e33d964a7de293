-- What those who perform an act need to know of it.
use Rattle.std.specs.Prelude.{◌≡◌, ◌≤◌, ℕ, ⊤, Some, None}
use Rattle.fw_base.specs.declared.params.Params.{Params}
use Rattle.fw_settled.specs.Queued.{agreed_in, next_up}
use Rattle.fw_kept.specs.declared.keeps.Keeps.{Keeps}
use Rattle.fw_kept.specs.declared.keeps.Act.{Act}
use Rattle.fw_kept.specs.declared.keeps.Act.TheVariants as act

-- the number of the list that it is about
abbrev pub number_of : Act → ℕ
number_of (act.Offer number entry) = number
number_of (act.Prepare number entry) = number
number_of (act.Pledge number entry signers) = number
number_of (act.Commit agreed) = agreed.number
number_of (act.Up agreed) = agreed.number

-- a number of the deployment's list
abbrev pub IsNumber : Params → ℕ → Type 0
IsNumber p n = (1 ≤ n) × (n ≤ p.numbers)

-- its number is one of the list
abbrev pub IsDoable : Params → Act → Type 0
IsDoable p a = IsNumber p (number_of a)

-- what is agreed comes where nothing was, and what goes up is what is agreed at the next number
abbrev pub IsOpen : Keeps → Act → Type 0
IsOpen k (act.Commit agreed) = agreed_in k.settled.committed agreed.number ≡ None
IsOpen k (act.Up agreed) = (agreed_in k.settled.committed agreed.number ≡ Some agreed) × (next_up k.settled ≡ Some agreed.number)
IsOpen k _ = ⊤

abbrev pub IsCommit : Act → Type 0
IsCommit (act.Commit agreed) = ⊤
IsCommit _ = ⊥
