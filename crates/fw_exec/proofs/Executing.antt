-- What is kept after the next number was executed, and what was sent.
use Rattle.std.proofs.Common.{◌≡◌, ℕ, suc, ◌+◌, length, nat_le, ◌&&◌, Bool, true, false, append_assoc, List, [], ◌∷◌, ◌++◌, Option, Some, None, refl, sym, ap, ◌∙◌}
use Rattle.std.specs.Prelude.{if◌then◌else◌}
use Rattle.fw_trace.specs.Lists.{first_at}
use Rattle.fw_base.specs.declared.params.Params.{Params}
use Rattle.fw_base.specs.declared.seat.Seat.{Seat}
use Rattle.fw_frame.specs.View.{Entry}
use Rattle.fw_ref.specs.Bodies.{PlainReplica}
use Rattle.fw_trace.specs.Executor as executors
use Rattle.fw_trace.specs.Client.{to_all}
use Rattle.fw_node.specs.Histories.{Out}
use Rattle.fw_exec.specs.Kept.{Keeps, Speech, IsEntryAt, IsReached, IsRunning}
use Rattle.fw_exec.proofs.Turns.{one_turn, entry_kept, running_more}

-- what is kept, by its parts
abbrev pub keeps_by : List (ℕ × Entry × List ℕ) → List (Seat × ℕ) → PlainReplica → List (ℕ × List ℕ) → Keeps
keeps_by kept from r shares = record { kept = kept; from = from; done = r.done; state = r.reference; shares = shares }

-- the entry of the next number
pub next_entry : (x : Keeps) (kept : List (ℕ × Entry × List ℕ)) (done n : ℕ) (e : Entry) → x.kept ≡ kept → x.done ≡ done → n ≡ done → Some e ≡ executors.entry_of kept (n + 1) → executors.entry_of x.kept (x.done + 1) ≡ Some e
next_entry x kept done n e same counts is found =
    ap (λ (k : List (ℕ × Entry × List ℕ)). executors.entry_of k (x.done + 1)) same ∙ ap (λ (m : ℕ). executors.entry_of kept (m + 1)) (counts ∙ sym is) ∙ sym found

pub next_at : (p : Params) (x : Keeps) (kept : List (ℕ × Entry × List ℕ)) (n : ℕ) (e : Entry) → IsRunning p x → x.kept ≡ kept → Some e ≡ executors.entry_of kept (n + 1) → IsEntryAt p (n + 1) e
next_at p x kept n e running same found =
    entry_kept p x.kept (n + 1) e running.kept (ap (λ (k : List (ℕ × Entry × List ℕ)). executors.entry_of k (n + 1)) same ∙ sym found)

pub next_keeps : (sp : Speech) (kept : List (ℕ × Entry × List ℕ)) (from : List (Seat × ℕ)) (r next : PlainReplica) (shares more : List (ℕ × List ℕ)) (x : Keeps) (n : ℕ) (e : Entry) (share copy : List ℕ)
    → keeps_by kept from r shares ≡ x → n ≡ r.done → Some e ≡ executors.entry_of kept (n + 1)
    → next ≡ record { done = n + 1; reference = (sp.step r.reference e).1 } → share ≡ sp.share (n + 1) (sp.step r.reference e).0 → copy ≡ share → more ≡ (n + 1, copy) ∷ shares
    → keeps_by kept from next more ≡ (executors.execute_on sp 1 x).0
next_keeps sp kept from r next shares more x n e share copy view is found after made same pushed =
    let y : Keeps = keeps_by kept from r shares in
    let here : executors.entry_of y.kept (y.done + 1) ≡ Some e = next_entry y kept r.done n e refl refl is found in
    ap (λ (q : PlainReplica). keeps_by kept from q more) after
    ∙ ap (λ (s : List (ℕ × List ℕ)). keeps_by kept from (record { done = n + 1; reference = (sp.step r.reference e).1 }) s) (pushed ∙ ap (λ (bytes : List ℕ). (n + 1, bytes) ∷ shares) (same ∙ made))
    ∙ ap (λ (m : ℕ). keeps_by kept from (record { done = m + 1; reference = (sp.step r.reference e).1 }) ((m + 1, sp.share (m + 1) (sp.step r.reference e).0) ∷ shares)) is
    ∙ sym (ap (λ (s : Keeps × Out). s.0) (one_turn sp y e here))
    ∙ ap (λ (z : Keeps). (executors.execute_on sp 1 z).0) view

pub next_sent : (sp : Speech) (kept : List (ℕ × Entry × List ℕ)) (from : List (Seat × ℕ)) (r : PlainReplica) (shares : List (ℕ × List ℕ)) (x : Keeps) (n : ℕ) (e : Entry) (share : List ℕ) (to : List Seat) (out new : Out)
    → keeps_by kept from r shares ≡ x → n ≡ r.done → Some e ≡ executors.entry_of kept (n + 1)
    → share ≡ sp.share (n + 1) (sp.step r.reference e).0 → to ≡ sp.filters → new ≡ out ++ to_all to share
    → new ≡ out ++ (executors.execute_on sp 1 x).1
next_sent sp kept from r shares x n e share to out new view is found made tos sent =
    let y : Keeps = keeps_by kept from r shares in
    let here : executors.entry_of y.kept (y.done + 1) ≡ Some e = next_entry y kept r.done n e refl refl is found in
    sent
    ∙ ap (λ (t : List Seat). out ++ to_all t share) tos
    ∙ ap (λ (bytes : List ℕ). out ++ to_all sp.filters bytes) (made ∙ ap (λ (m : ℕ). sp.share (m + 1) (sp.step r.reference e).0) is)
    ∙ ap (λ (s : Keeps × Out). out ++ s.1) (sym (one_turn sp y e here))
    ∙ ap (λ (z : Keeps). out ++ (executors.execute_on sp 1 z).1) view

pub next_running : (p : Params) (kept : List (ℕ × Entry × List ℕ)) (from : List (Seat × ℕ)) (r next : PlainReplica) (shares more : List (ℕ × List ℕ)) (x : Keeps) (n : ℕ) (e : Entry) → IsRunning p x
    → keeps_by kept from r shares ≡ x → n ≡ r.done → IsEntryAt p (n + 1) e → next.done ≡ n + 1 → IsReached next.done next.reference → IsRunning p (keeps_by kept from next more)
next_running p kept from r next shares more x n e running view is at done reached =
    let y : Keeps = keeps_by kept from r shares in
    running_more p y (keeps_by kept from next more) e (rw view running) (rw (sym is) at) refl (done ∙ ap (λ (m : ℕ). m + 1) is) reached

-- ---- an agreed frame is heard

-- the agreed frame is kept, and its sender noted
abbrev pub noted : Speech → Keeps → Seat → List ℕ → ℕ → Entry → Keeps
noted sp x seat m n e = record x { kept = executors.keep x.kept (n, e, m); from = if sp.is_filter seat then (seat, n) ∷ x.from else x.from }

-- the share that is sent again
abbrev pub again_of : Speech → Keeps → Seat → ℕ → Option (List ℕ)
again_of sp x seat n = if sp.is_filter seat && nat_le n x.done && executors.sent_before x.from seat n then first_at (λ s. Some s) x.shares n else None

if_sends : (seat : Seat) (t : Bool) (o : Option (List ℕ)) → executors.option_sends seat (if t then o else None) ≡ (if t then executors.option_sends seat o else [])
if_sends seat true o = refl
if_sends seat false o = refl

pub hear_keeps : (sp : Speech) (x mid new : Keeps) (seat : Seat) (m : List ℕ) (n : ℕ) (e : Entry) → mid ≡ noted sp x seat m n e → new ≡ (executors.execute_on sp (suc (length mid.kept)) mid).0
    → new ≡ (executors.hear_agreed sp x seat m (Some (n, e))).0
hear_keeps sp x mid new seat m n e notes is = is ∙ ap (λ (y : Keeps). (executors.execute_on sp (suc (length y.kept)) y).0) notes

pub hear_sent : (sp : Speech) (x mid : Keeps) (seat : Seat) (m : List ℕ) (n : ℕ) (e : Entry) (again : Option (List ℕ)) (out ran new : Out)
    → again ≡ again_of sp x seat n → mid ≡ noted sp x seat m n e → ran ≡ out ++ (executors.execute_on sp (suc (length mid.kept)) mid).1 → new ≡ ran ++ executors.option_sends seat again
    → new ≡ out ++ (executors.hear_agreed sp x seat m (Some (n, e))).1
hear_sent sp x mid seat m n e again out ran new shares notes runs sends =
    let y : Keeps = noted sp x seat m n e in
    let turns = (executors.execute_on sp (suc (length y.kept)) y).1 in
    sends
    ∙ ap (λ (o : Option (List ℕ)). ran ++ executors.option_sends seat o) shares
    ∙ ap (λ (o : Out). ran ++ o) (if_sends seat _ _)
    ∙ ap (λ (o : Out). o ++ (if sp.is_filter seat && nat_le n x.done && executors.sent_before x.from seat n then executors.option_sends seat (first_at (λ s. Some s) x.shares n) else []))
    (runs ∙ ap (λ (z : Keeps). out ++ (executors.execute_on sp (suc (length z.kept)) z).1) notes)
    ∙ append_assoc out turns _
