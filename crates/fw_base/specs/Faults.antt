-- Counts of faults: how often something outside has failed.
use Rattle.std.specs.Prelude.{◌≡◌, ℕ, ◌+◌, ◌-◌, ◌<◌, ◌≤◌, ◌^◌, ◌⊎◌, min}

-- the count rose: it is greater than before, or it stands at its limit
abbrev pub Rose : ℕ → ℕ → Type 0
Rose before after = (before < after) ⊎ (after ≡ 2 ^ 64 - 1)

-- a count never falls, and has 64 bits
pub record Counts (before after : ℕ) : Type 0 where
  pub no_less : before ≤ after
  pub bounded : after < 2 ^ 64

-- a count that is raised by one stands still at its limit
abbrev pub one_more : ℕ → ℕ
one_more count = min (count + 1) (2 ^ 64 - 1)
