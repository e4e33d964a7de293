-- The commands of the program, and their words.
use Rattle.std.specs.Prelude.{◌≡◌, ℕ, Bool, true, ◌&&◌, nat_le, List, [], ◌∷◌, codes, None, Some, IsTrue}
use Rattle.fw_base.specs.declared.seat.Seat.{Seat}
use Rattle.fw_base.specs.declared.seat.Seat.TheVariants as seats
use Rattle.fw_base.specs.Names.{seat_name}
use Rattle.fw_command.specs.declared.limits.TheConstants.{GREATEST}
use Rattle.fw_command.specs.declared.command.Command.{Command}
use Rattle.fw_command.specs.declared.command.Command.TheVariants.{Replay, Deal}

abbrev pub command_words : Command → List (List ℕ)
command_words Replay = codes "replay" ∷ []
command_words (Deal None) = codes "deal" ∷ codes "public" ∷ []
command_words (Deal (Some seat)) = codes "deal" ∷ seat_name seat ∷ []

-- a seat's numbers are at most this, whatever the deployment
abbrev pub seat_fits : Seat → Bool
seat_fits (seats.Agree i) = nat_le i GREATEST
seat_fits (seats.Exec j) = nat_le j GREATEST
seat_fits (seats.Filter r c) = nat_le r GREATEST && nat_le c GREATEST
seat_fits (seats.Client c) = nat_le c GREATEST

abbrev pub command_fits : Command → Bool
command_fits (Deal (Some seat)) = seat_fits seat
command_fits _ = true

-- the words are a command's
pub record IsCommand (words : List (List ℕ)) (command : Command) : Type 0 where
  pub spelled : words ≡ command_words command
  pub fits : IsTrue (command_fits command)
