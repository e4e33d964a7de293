-- What answers depend on: the last stamps, the kept replies, and what those see who ask. Nothing is said of what others see.
use Rattle.std.specs.Prelude.{◌≡◌, ℕ, List, [], ◌∷◌, Option, Some, None, IsTrue}
use Rattle.fw_op.specs.declared.start.Start.{Start}
use Rattle.fw_store.specs.Store.{are_ordered, are_distinct, visible}
use Rattle.fw_ref.specs.Reference.{Reference, Opened, at_start, answers, folded}

-- two references with the same last stamps and kept replies, each with its records in strict order of owner and key
pub record AreAlike (m other : Reference) : Type 0 where
  pub last : m.last ≡ other.last
  pub order : IsTrue (are_ordered m.records)
  pub order_too : IsTrue (are_ordered other.records)

-- both show the client the same records
abbrev pub ShowTheSame : Reference → Reference → ℕ → Type 0
ShowTheSame m other client = visible client m.records ≡ visible client other.records

-- both show whoever asks an entry the same; nobody asks the null entry
abbrev pub AskerSeesTheSame : Reference → Reference → Option Opened → Type 0
AskerSeesTheSame m other None = Unit {0}
AskerSeesTheSame m other (Some o) = ShowTheSame m other o.client

-- and so for all who ask in a list; how things are before the list decides, since whom both show the same they show the same
-- after each entry
abbrev pub AskersSeeTheSame : Reference → Reference → List (Option Opened) → Type 0
AskersSeeTheSame m other [] = Unit {0}
AskersSeeTheSame m other (e ∷ entries) = AskerSeesTheSame m other e × AskersSeeTheSame m other entries

-- the answers to a list are the same, the references after it are alike, and each client to whom both showed the same before it
-- is shown the same after it
pub record StayAlike (m other : Reference) (entries : List (Option Opened)) : Type 0 where
  pub answers : answers m entries ≡ answers other entries
  pub alike : AreAlike (folded m entries) (folded other entries)
  pub shown : (client : ℕ) → ShowTheSame m other client → ShowTheSame (folded m entries) (folded other entries) client

-- for all references that are alike, and all lists
abbrev pub SameSight : Type 0
SameSight = (m other : Reference) (entries : List (Option Opened)) → AreAlike m other → AskersSeeTheSame m other entries → StayAlike m other entries

-- so from any two lists of records to start with, in each of which no two have one name
abbrev pub SameStart : Type 0
SameStart =
    (starts others : List Start) (entries : List (Option Opened)) → IsTrue (are_distinct starts) → IsTrue (are_distinct others)
    → AskersSeeTheSame (at_start starts) (at_start others) entries → StayAlike (at_start starts) (at_start others) entries
