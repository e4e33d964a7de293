-- New views that were adopted, and what the last of them chooses.
use Rattle.std.specs.Prelude.{ℕ, ◌≡◌, nat_le, List, map, Option, Some, None, if◌then◌else◌}
use Rattle.fw_list.specs.Lists.{numbers_from}
use Rattle.fw_frame.specs.View.{Entry, Change}
use Rattle.fw_rules.specs.Agree as agree
use Rattle.fw_rules.specs.Agree.{last_changes, top, choice}
use Rattle.fw_owned.specs.Pieces.{entry_of, change_of}
use Rattle.fw_owned.specs.declared.owned.OwnedEntry.{OwnedEntry}
use Rattle.fw_adopted.specs.declared.adoptions.OwnedAdopted.{OwnedAdopted}

abbrev pub adopted_of : OwnedAdopted → agree.Adopted
adopted_of a = record { view = a.view; changes = map change_of a.changes }

-- the view changes of the new view that was adopted last; the newest stands first
abbrev pub last_of : List OwnedAdopted → List Change
last_of adopted = last_changes (map adopted_of adopted)

-- the choice for each number, up to the greatest that has a proof
abbrev pub plan : List Change → List Entry
plan changes = map (choice changes) (numbers_from 1 (top changes))

-- the choice for a number, where it is at most the greatest that has a proof
abbrev pub planned : List Change → ℕ → Option Entry
planned changes n = if nat_le n (top changes) then Some (choice changes n) else None

-- the greatest number that has a proof, and the choices up to it
pub record IsPlan (changes : List Change) (last : ℕ) (entries : List OwnedEntry) : Type 0 where
  pub greatest : last ≡ top changes
  pub each : map entry_of entries ≡ plan changes
