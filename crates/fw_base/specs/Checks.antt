-- What is wrong with the sizes of a deployment: the first fault, in the order of the fields.
use Rattle.std.specs.Prelude.{ℕ, ◌+◌, ◌*◌, Bool, nat_le, nat_lt, List, [], ◌∷◌, Option, Some, None, if◌then◌else◌}
use Rattle.fw_base.specs.declared.params.Params.{Params}
use Rattle.fw_base.specs.declared.params.ParamFault.{ParamFault}
use Rattle.fw_base.specs.declared.params.ParamFault.TheVariants.{Field, TooManyKeys}
use Rattle.fw_base.specs.declared.limits.TheConstants.{MOST_FAULTS, MOST_NUMBERS, MOST_VIEWS, MOST_CLIENTS, MOST_STAMPS, MOST_KEYS}
use Rattle.fw_list.specs.Numbers.{within}
use Rattle.fw_base.specs.Sizes.{keys}

-- the place of the first that is false, from this one on
abbrev pub first_out : ℕ → List Bool → Option ℕ
first_out k [] = None
first_out k (b ∷ bs) = if b then first_out (k + 1) bs else Some k

-- whether each field is within its limit, in the order of the fields
abbrev pub fields_fit : Params → List Bool
fields_fit p =
    nat_le p.f MOST_FAULTS ∷ nat_le p.g MOST_FAULTS ∷ nat_le p.h MOST_FAULTS ∷ within 1 p.numbers MOST_NUMBERS
    ∷ within 1 p.views MOST_VIEWS ∷ within 1 p.clients MOST_CLIENTS ∷ within 1 p.stamps MOST_STAMPS ∷ within 1 p.pipe p.numbers ∷ []

-- what is wrong where each field is within its limit: more stamps than numbers, or more keys than there may be
abbrev pub whole_fault : Params → Option ParamFault
whole_fault p =
    if nat_lt p.numbers (p.clients * p.stamps) then Some (Field 3)
    else (if nat_lt MOST_KEYS (keys p) then Some (TooManyKeys (keys p)) else None)

abbrev pub fault_of : Params → Option ParamFault
fault_of p = elim (first_out 0 (fields_fit p)) [ Some k ↦ Some (Field k) | None ↦ whole_fault p ]
