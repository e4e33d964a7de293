use Rattle.std.proofs.Common.{◌≡◌, ◌<◌, ℕ, take, get_or}
use Rattle.fw_shamir.proofs.sharing.copy_bytes.Given as goal

-- the points so far are copied, and have bytes
abbrev pub invariant-loop-k : goal.invariant-loop-k
invariant-loop-k l = record {
  copied : take l.k l.copy ≡ take l.k l.points;
  bytes : (j : ℕ) → j < l.k → ((get_or l.points j (record { at = 0; value = 0 })).at < 256) × ((get_or l.points j (record { at = 0; value = 0 })).value < 256);
}
