-- The answers to the front of a list.
use Rattle.std.specs.Prelude.{◌≡◌, List, ◌∷◌, ◌++◌, length, Option, Some}
use Rattle.std.specs.List.{slice_get}
use Rattle.fw_ref.specs.Reference.{Reference, Opened, step, answers, folded}

-- the answers to a list begin with those to its front
abbrev pub FrontIsFixed : Type 0
FrontIsFixed = (m : Reference) (front rest : List (Option Opened)) → answers m (front ++ rest) ≡ answers m front ++ answers (folded m front) rest

-- what comes behind the front is executed after it
abbrev pub GoesOn : Type 0
GoesOn = (m : Reference) (front rest : List (Option Opened)) → folded m (front ++ rest) ≡ folded (folded m front) rest

-- one answer for each number
abbrev pub OneForEach : Type 0
OneForEach = (m : Reference) (entries : List (Option Opened)) → length (answers m entries) ≡ length entries

-- the answer at a place is the one to the entry there, after all before it
abbrev pub AnswerThere : Type 0
AnswerThere =
    (m : Reference) (front rest : List (Option Opened)) (e : Option Opened) → slice_get (answers m (front ++ e ∷ rest)) (length front) ≡ Some (step (folded m front) e).0
