-- What a client accepted and took, and sums.
use Rattle.std.proofs.Common.{◌≡◌, ◌≤◌, ◌<◌, ◌+◌, ◌-◌, ◌*◌, ℕ, zero, suc, Bool, true, false, ◌&&◌, nat_eq, nat_lt, List, [], ◌∷◌, length, reverse, refl, sym, ap, ap₂, ◌∙◌, arith, subst, inl, inr, IsTrue, Option, Some, None, get_or}
use Rattle.std.specs.List.{sum_by}
use Rattle.std.specs.Prelude.{if◌then◌else◌}
use Rattle.std.proofs.lemmas.List.Sums.{sum_by-append}
use Rattle.std.proofs.lemmas.Bool.{cases_Bool, false≢true}
use Rattle.std.proofs.lemmas.List.{length-append}
use Rattle.fw_base.specs.declared.seat.Seat.TheVariants as seats
use Rattle.fw_op.specs.declared.op.Op.{Op}
use Rattle.fw_op.specs.declared.reply.Reply.{Reply}
use Rattle.fw_trace.specs.declared.Told.{Told}
use Rattle.fw_trace.specs.Client as clients
use Rattle.fw_trace.specs.Role.{kept}
use Rattle.fw_trace.specs.Trace.{Trace, history}
use Rattle.fw_directory.specs.Directories.{PlainDirectory}
use Rattle.fw_node.specs.Histories.{History}
use Rattle.fw_rules.specs.World.{Deployed, accepted_by}
use Rattle.fw_client.specs.Kept.{Speech}
use Rattle.fw_client.specs.Standing.{Asker, StandsFor, speech, speech_of}
use Rattle.fw_seen.specs.Clients.{IsClientOf}

abbrev pub Kept : Type 0
Kept = clients.Client Op Reply

-- what a client keeps after a history
abbrev pub kept_by : Speech → History → Kept
kept_by sp h = kept (clients.client_role sp) h

-- what is said of a client's node holds of the client in the deployment
same_client : (d : Deployed) (t : Trace (List ℕ) Op) (c : ℕ) (node : Asker) (P : Kept → Type 0) → IsClientOf StandsFor d t c node
    → ((e : PlainDirectory) (h : History) → StandsFor node e h → P (kept_by (speech node e) h))
    → P (kept_by (speech_of c (d.hand (seats.Client c)) d.directory) (history (seats.Client c) t.log))
same_client d t c node P is each =
    let h = history (seats.Client c) t.log in
    let found : P (kept_by (speech_of node.client node.hand d.directory) h) = each d.directory h is.history in
    subst (λ k. P (kept_by (speech_of k (d.hand (seats.Client c)) d.directory) h)) is.number
    (subst (λ hand. P (kept_by (speech_of node.client hand d.directory) h)) is.hand found)

-- what it accepted
pub accepted_is : (d : Deployed) (t : Trace (List ℕ) Op) (c : ℕ) (node : Asker) (told : List (Told Reply)) → IsClientOf StandsFor d t c node
    → ((e : PlainDirectory) (h : History) → StandsFor node e h → told ≡ reverse (kept_by (speech node e) h).accepted) → told ≡ accepted_by d c t
accepted_is d t c node told is each = same_client d t c node (λ k. told ≡ reverse k.accepted) is each

-- ---- what it took

-- a reply changes nothing of what was taken
pub hear_took : (sp : Speech) (c : Kept) (told : Option (Told Reply)) → clients.taken (clients.hear sp c told).0 ≡ clients.taken c
hear_took sp c None = refl
hear_took sp c (Some told) = elim (cases_Bool (c.pending && nat_eq told.stamp (clients.stamp c))) [
  | inl holds ↦ rw holds (go_on_took (record c { pending = false; accepted = told ∷ c.accepted }) c.waiting refl)
  | inr fails ↦ rw fails refl
]
  where
    go_on_took : (k : Kept) (waiting : List Op) → k.waiting ≡ waiting → clients.taken (clients.go_on sp k waiting).0 ≡ clients.taken k
    go_on_took k [] same = refl
    go_on_took k (op ∷ waiting) same = let len = ap length same in omega (arith, len)

submit_took : (sp : Speech) (c : Kept) (op : Op) (pending : Bool) → clients.taken (clients.submit sp c op pending).0 ≡ clients.taken c + 1
submit_took sp c op false = omega arith
submit_took sp c op true = let len = length-append c.waiting (op ∷ []) in omega (arith, len)

-- where there is room
pub given_took : (sp : Speech) (c : Kept) (op : Op) (room : Bool) → room ≡ true → clients.taken (if room then clients.submit sp c op c.pending else (c, [])).0 ≡ clients.taken c + 1
given_took sp c op true room = submit_took sp c op c.pending
given_took sp c op false room = absurd (false≢true room)

-- ---- sums

-- the first of a sum
pub sum_more : (f : ℕ → ℕ) (x : ℕ) (xs : List ℕ) → sum_by f (x ∷ xs) ≡ f x + sum_by f xs
sum_more f x xs = let e = sum_by-append f (x ∷ []) xs in omega (arith, e)
