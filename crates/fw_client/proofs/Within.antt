-- How many submissions are taken, and that each of them can be asked, after a step.
use Rattle.std.proofs.Common.{ℕ, ◌+◌, ◌≤◌, List, ◌∷◌, length, All, arith}
use Rattle.std.proofs.lemmas.List.Elements.{All-head, All-tail, All-cons}
use Rattle.fw_op.specs.declared.op.Op.{Op}
use Rattle.fw_client.specs.Kept.{IsAskable}

-- so many submissions at most were asked or wait, and each of them can be asked
abbrev pub IsWithin : ℕ → List Op → List Op → Type 0
IsWithin most asked waiting = (length asked + length waiting ≤ most) × All IsAskable asked × All IsAskable waiting

-- the first that waits is asked
pub asked-first : (most : ℕ) (op : Op) (asked waiting : List Op) → IsWithin most asked (op ∷ waiting) → IsWithin most (op ∷ asked) waiting
asked-first most op asked waiting within =
    (omega arith, All-cons IsAskable op asked (All-head IsAskable op waiting within.2) within.1, All-tail IsAskable op waiting within.2)

-- the first that waits is lost
pub lost-first : (most : ℕ) (op : Op) (asked waiting : List Op) → IsWithin most asked (op ∷ waiting) → IsWithin most asked waiting
lost-first most op asked waiting within = (omega arith, within.1, All-tail IsAskable op waiting within.2)
