-- Frames to the seats of a deployment, of some bytes and not too many, can be sent.
use Rattle.std.proofs.Common.{ℕ, zero, suc, ◌+◌, ◌≤◌, ◌<◌, List, [], ◌∷◌, ◌++◌, length, map, All, arith, IsTrue}
use Rattle.std.proofs.lemmas.Bool.{lt-ltb, and_from}
use Rattle.std.proofs.lemmas.List.Elements.{All-nil, All-cons, All-head, All-tail, All-append}
use Rattle.fw_list.specs.Lists.{numbers_from}
use Rattle.fw_list.specs.declared.limits.TheConstants.{LONGEST_FRAME}
use Rattle.fw_base.specs.declared.params.Params.{Params}
use Rattle.fw_base.specs.declared.seat.Seat.{Seat}
use Rattle.fw_base.specs.declared.seat.Seat.TheVariants as seats
use Rattle.fw_base.specs.Sizes.{agreements, executors, width}
use Rattle.fw_base.specs.Seats.{fits}
use Rattle.fw_trace.specs.Client as clients
use Rattle.fw_node.specs.Histories.{Out, IsSendable, AreSendable}

-- all of these are seats of the deployment
abbrev pub AllFit : Params → List Seat → Type 0
AllFit p to = All (λ seat. IsTrue (fits p seat)) to

pub to_one : (p : Params) (seat : Seat) (bytes : List ℕ) → IsTrue (fits p seat) → 1 ≤ length bytes → length bytes ≤ LONGEST_FRAME → AreSendable p ((seat, bytes) ∷ [])
to_one p seat bytes fit some most =
    All-cons (λ o. IsSendable p o.0 o.1) (seat, bytes) [] (record { fits = fit; some = some; most = most }) (All-nil _)

pub to_all : (p : Params) (to : List Seat) (bytes : List ℕ) → AllFit p to → 1 ≤ length bytes → length bytes ≤ LONGEST_FRAME → AreSendable p (clients.to_all to bytes)
to_all p [] bytes fit some most = All-nil _
to_all p (seat ∷ to) bytes fit some most =
    All-cons (λ o. IsSendable p o.0 o.1) (seat, bytes) _
    (record { fits = All-head (λ s. IsTrue (fits p s)) seat to fit; some = some; most = most })
    (to_all p to bytes (All-tail (λ s. IsTrue (fits p s)) seat to fit) some most)

pub both : (p : Params) (one other : Out) → AreSendable p one → AreSendable p other → AreSendable p (one ++ other)
both p one other first second = All-append (λ o. IsSendable p o.0 o.1) one other first second

-- the seats of one kind are seats of the deployment
pub numbered_fit : (p : Params) (f : ℕ → Seat) (end : ℕ) → ((k : ℕ) → k < end → IsTrue (fits p (f k))) → (first count : ℕ) → first + count ≤ end → AllFit p (map f (numbers_from first count))
numbered_fit p f end each first zero within = All-nil _
numbered_fit p f end each first (suc count) within =
    All-cons (λ s. IsTrue (fits p s)) (f first) _ (each first (omega arith)) (numbered_fit p f end each (first + 1) count (omega arith))

pub agreements_fit : (p : Params) → AllFit p (map seats.Agree (numbers_from 0 (agreements p)))
agreements_fit p = numbered_fit p seats.Agree (agreements p) (λ k below. lt-ltb k (agreements p) below) 0 (agreements p) (omega arith)

pub executors_fit : (p : Params) → AllFit p (map seats.Exec (numbers_from 0 (executors p)))
executors_fit p = numbered_fit p seats.Exec (executors p) (λ k below. lt-ltb k (executors p) below) 0 (executors p) (omega arith)

pub row_fit : (p : Params) (row : ℕ) → row < width p → AllFit p (map (seats.Filter row) (numbers_from 0 (width p)))
row_fit p row within =
    numbered_fit p (seats.Filter row) (width p) (λ k below. and_from _ _ (lt-ltb row (width p) within) (lt-ltb k (width p) below)) 0 (width p) (omega arith)
