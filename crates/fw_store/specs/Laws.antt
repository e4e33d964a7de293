-- What each client may learn of a store: the reply to an operation, whether it may want memory, and what every client is shown
-- after it, follow from what was shown before.
use Rattle.std.specs.Prelude.{◌≡◌, ℕ, List, IsTrue}
use Rattle.fw_op.specs.declared.op.Op.{Op}
use Rattle.fw_op.specs.declared.reply.Reply.{Reply}
use Rattle.fw_op.specs.declared.start.Start.{Start}
use Rattle.fw_store.specs.Store.{are_ordered, visible, applied}
use Rattle.fw_store.specs.Wants.{may_want}

-- the reply is the one of every store that shows the caller the same, and memory may be wanted in both or in neither; and whom
-- that store showed the same before, it shows the same after
pub record SameIn (x : ℕ) (op : Op) (before : List Start) (reply : Reply) (after other : List Start) : Type 0 where
  pub told : reply ≡ (applied x op other).0
  pub wanted : may_want x op before ≡ may_want x op other
  pub shown : (client : ℕ) → visible client before ≡ visible client other → visible client after ≡ visible client (applied x op other).1

-- the outcome of an operation is the same in every store in order that shows the caller the same
abbrev pub IsIsolated : ℕ → Op → List Start → Reply → List Start → Type 0
IsIsolated x op before reply after =
    (other : List Start) → IsTrue (are_ordered other) → visible x before ≡ visible x other → SameIn x op before reply after other

-- want of memory tells no more than that: it may come in every store in order that shows the caller the same
abbrev pub IsWantedAlike : ℕ → Op → List Start → Type 0
IsWantedAlike x op before = (other : List Start) → IsTrue (are_ordered other) → visible x before ≡ visible x other → IsTrue (may_want x op other)

-- so for every operation on records in order
abbrev pub Isolation : Type 0
Isolation = (x : ℕ) (op : Op) (rs : List Start) → IsTrue (are_ordered rs) → IsIsolated x op rs (applied x op rs).0 (applied x op rs).1

-- an operation keeps the order
abbrev pub KeepsOrder : Type 0
KeepsOrder = (x : ℕ) (op : Op) (rs : List Start) → IsTrue (are_ordered rs) → IsTrue (are_ordered (applied x op rs).1)
