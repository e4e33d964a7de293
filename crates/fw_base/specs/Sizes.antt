-- The sizes that follow from the parameters of a deployment.
use Rattle.std.specs.Prelude.{ℕ, ◌+◌, ◌*◌, ◌%◌, Bool, ◌&&◌, nat_le}
use Rattle.fw_list.specs.Numbers.{within}
use Rattle.fw_base.specs.declared.params.Params.{Params}
use Rattle.fw_base.specs.declared.limits.TheConstants.{MOST_FAULTS, MOST_NUMBERS, MOST_VIEWS, MOST_CLIENTS, MOST_STAMPS, MOST_KEYS}

-- how many agreement nodes there are, how many executors, and how many filters in a row
abbrev pub agreements : Params → ℕ
agreements p = 3 * p.f + 1

abbrev pub executors : Params → ℕ
executors p = 2 * p.g + 1

abbrev pub width : Params → ℕ
width p = p.h + 1

-- how many nodes decide
abbrev pub quorum : Params → ℕ
quorum p = 2 * p.f + 1

-- the node that proposes in a view
abbrev pub primary : Params → ℕ → ℕ
primary p view = view % agreements p

-- the keys of one-time signatures, without those of replies
abbrev pub keys : Params → ℕ
keys p = 2 * (p.views * p.numbers * agreements p) + 2 * (p.views * agreements p) + p.clients * p.stamps

-- what a deployment may be
abbrev pub accepted : Params → Bool
accepted p =
    nat_le p.f MOST_FAULTS && nat_le p.g MOST_FAULTS && nat_le p.h MOST_FAULTS && within 1 p.numbers MOST_NUMBERS
    && within 1 p.views MOST_VIEWS && within 1 p.clients MOST_CLIENTS && within 1 p.stamps MOST_STAMPS
    && within 1 p.pipe p.numbers && nat_le (p.clients * p.stamps) p.numbers && nat_le (keys p) MOST_KEYS
