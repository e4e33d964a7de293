-- The lines that name a fault.
use Rattle.std.specs.Prelude.{ℕ, List, ◌++◌, codes, decimal}
use Rattle.fw_sched.specs.declared.fault.InputFault.{InputFault}
use Rattle.fw_sched.specs.declared.fault.InputFault.TheVariants as input
use Rattle.fw_rules.specs.declared.limits.Which.{Which}
use Rattle.fw_rules.specs.declared.limits.Which.TheVariants as which

abbrev pub usage_line : List ℕ
usage_line = codes "fault usage\n"

abbrev pub read_line : List ℕ
read_line = codes "fault read\n"

abbrev pub too_long_line : List ℕ
too_long_line = codes "fault too-long\n"

abbrev pub later_line : List ℕ
later_line = codes "fault later\n"

-- what is wrong with an input, and where
abbrev pub input_words : InputFault → List ℕ
input_words input.NotToml = codes "not-toml"
input_words (input.Field name) = codes "field " ++ name
input_words (input.Keys keys) = codes "keys " ++ decimal keys
input_words (input.Record index) = codes "record " ++ decimal index
input_words (input.Faulty index) = codes "faulty " ++ decimal index
input_words (input.Step index) = codes "step " ++ decimal index
input_words input.Seat = codes "seat"
input_words input.Hand = codes "hand"

-- what a run would send too much of, and at which step
abbrev pub which_word : Which → List ℕ
which_word which.Frames = codes "frames"
which_word which.Bytes = codes "bytes"

abbrev pub limit_line : ℕ → Which → List ℕ
limit_line step which = codes "fault limit " ++ decimal step ++ codes " " ++ which_word which ++ codes "\n"

abbrev pub input_line : InputFault → List ℕ
input_line fault = codes "fault input " ++ input_words fault ++ codes "\n"
