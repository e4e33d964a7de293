-- The first valid agreed frame of each number, as it is looked for.
use Rattle.std.specs.Prelude.{ℕ, ◌≡◌, ◌<◌, ◌^◌, cond, nat_eq, length, All, Option, Some, None, option_map}
use Rattle.std.specs.BTreeMap.{BTreeMap, get}
use Rattle.std.specs.Ordering.{nat_cmp}
use Rattle.fw_list.specs.declared.limits.TheConstants.{BODY_LEN}
use Rattle.fw_frame.specs.declared.frame.Entry as held
use Rattle.fw_frame.specs.Plain.{plain_entry}
use Rattle.fw_frame.specs.View.{Entry, viewed_entry}

-- an entry in memory as it is seen
abbrev pub seen : held.Entry → Entry
seen e = viewed_entry (plain_entry e)

-- the same with its number
abbrev pub seen_at : ℕ × held.Entry → ℕ × Entry
seen_at found = (found.0, seen found.1)

-- the entry that is kept of a number
abbrev pub kept_entry : BTreeMap ℕ held.Entry → ℕ → Option Entry
kept_entry entries n = option_map seen (get nat_cmp entries n)

-- the first of two, where there is one
abbrev pub first_of : {A : Type 0} → Option A → Option A → Option A
first_of (Some x) other = Some x
first_of None other = other

-- what is found, where it has this number
abbrev pub found_at : {A : Type 0} → ℕ → Option (ℕ × A) → Option A
found_at n None = None
found_at n (Some found) = cond (nat_eq found.0 n) (Some found.1) None

-- the requests of an entry can be opened: their stamps are below 2 ^ 31, and their bodies have `BODY_LEN` bytes
abbrev pub AreOpenable : Entry → Type 0
AreOpenable entry = All (λ r. (r.stamp < 2 ^ 31) × (length r.body ≡ BODY_LEN)) entry
