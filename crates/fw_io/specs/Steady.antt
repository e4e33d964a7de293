-- What a source that never fails gives.
use Rattle.std.specs.Prelude.{◌≡◌, ℕ, List, length, min}
use Rattle.fw_io.specs.declared.source.Got.{Got}
use Rattle.fw_io.specs.declared.source.Got.TheVariants as got

-- it gives as much as it has left and as the buffer holds
abbrev pub GivesAllThatFit : List ℕ → List ℕ → Got → Type 0
GivesAllThatFit left buffer (got.Got n) = n ≡ min (length left) (length buffer)
GivesAllThatFit left buffer got.Failed = ⊥
