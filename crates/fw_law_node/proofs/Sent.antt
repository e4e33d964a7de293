-- What a node sends is of what it did, of what it has committed, or a reply that it holds.
use Rattle.std.proofs.Common.{ℕ, zero, ◌+◌, ◌≡◌, inl, inr, Bool, true, false, nat_eq, nat_le, List, [], ◌∷◌, arith, refl, subst, Option, Some, None, is_some}
use Rattle.std.specs.Prelude.{option_and_then, nat_lt}
use Rattle.std.proofs.lemmas.Bool.{cases_Bool, cond_both, and_parts, ltb-true}
use Rattle.std.proofs.lemmas.Option.{same_Some}
use Rattle.fw_base.specs.declared.seat.Seat.{Seat}
use Rattle.fw_base.specs.declared.seat.Seat.TheVariants as seats
use Rattle.fw_trace.specs.declared.Input.{Input}
use Rattle.fw_trace.specs.declared.Input.TheVariants.{Heard, Tick, Submitted}
use Rattle.fw_trace.specs.Role.{sends}
use Rattle.fw_trace.specs.Lists.{In}
use Rattle.fw_frame.specs.View.{Request, Entry, Given, Change, Agreed, Reply, Frame, Asks, Proposes, Votes, Changes, Begins, Agrees, Shares, Replies, Wants}
use Rattle.fw_rules.specs.Choices.{admitted, first_some}
use Rattle.fw_rules.specs.Signing.{entry_digest}
use Rattle.fw_rules.specs.Agree.{Self, Node, Step, Cast, Pledge, Adopted, Act, Offer, Prepare, Pledge_to, Commit, Up, performs, own_vote, own_proposal, cast_at, pledge_at, is_primary, numbers, hears, hears_request, hears_reply, reply_of, reply_to, to_others, to_row0}
use Rattle.fw_rules.specs.Views.{Turn, Adopt, Start, Make, turns, own_change, own_new_view, agree_next, agree_role, hears_all, passes_after, change_if, ticks, waits, waits_by, starts_change, idle_now, PATIENCE, resends, uncommitted, resends_at, resends_cast, resends_pledge, resends_change, agreed_again}
use Rattle.fw_law_node.specs.Once.{node_after}
use Rattle.fw_law_node.specs.Begun.{IsMade}
use Rattle.fw_law_node.specs.Sent.{IsOf, IsSent}
use Rattle.fw_law_words.proofs.Tests.{when-some}
use Rattle.fw_law_words.proofs.Firsts.{first_some-in}
use Rattle.fw_law_words.proofs.Roles.{held_reply}
use Rattle.fw_law_node.proofs.Found.{lead_of, agreed_in, cast_in, pledge_in}
use Rattle.fw_law_node.proofs.Acts.{MayTurn, MayAct, Keeps, passes_keep}
use Rattle.fw_law_node.proofs.Begun.{made}
use Rattle.fw_law_node.proofs.Each.{Each, Each-append, Each-at, Each-from, Each-map}
use Rattle.fw_law_node.proofs.Having.{Grows}
use Rattle.fw_law_node.proofs.Source.{turn_grows, act_grows}

-- ---- what was so stays so

record More (x y : Node) : Type 0 where
  own : Grows x.own y.own
  committed : (a : Agreed) → In a x.committed → In a y.committed
  held : (r : Reply) → In r x.heard.held → In r y.heard.held
  changes : (c : Change) → In c x.heard.changes → In c y.heard.changes

still_made : {M : Type 0} (me : Self M) (x y : Node) → More x y → (a : Adopted) → IsMade me.means.params me.own x a → IsMade me.means.params me.own y a
still_made me x y more a k = record {
  by = k.by;
  nodes = k.nodes;
  views = k.views;
  known = λ c i. elim (k.known c i) [ inl h ↦ inl (more.own.moves c h) | inr h ↦ inr (more.changes c h) ];
}

still_of : {M : Type 0} (me : Self M) (x y : Node) → More x y → (frame : Frame) → IsOf me x frame → IsOf me y frame
still_of me x y more (Proposes m) k = (k.0, more.own.casts k.0 k.1, k.2, k.3)
still_of me x y more (Votes v) (inl k) = inl (k.0, more.own.casts k.0 k.1, k.2)
still_of me x y more (Votes v) (inr k) = inr (k.0, more.own.pledges k.0 k.1, k.2)
still_of me x y more (Changes c) k = more.own.moves c k
still_of me x y more (Begins n) k = (k.0, more.own.adopted k.0 k.1, k.2, still_made me x y more k.0 k.3)
still_of me x y more (Agrees a) k = more.committed a k
still_of me x y more (Replies r) k = more.held r k
still_of me x y more (Asks r) k = absurd k
still_of me x y more (Shares s) k = absurd k
still_of me x y more (Wants n) k = absurd k

-- all that was sent
abbrev AllSent : {M : Type 0} → Self M → Step M → Type 0
AllSent me s = Each (λ (o : Seat × _). IsSent me s.0 o.1) s.1

still_sent : {M : Type 0} (me : Self M) (x y : Node) → More x y → (out : List (Seat × M)) → Each (λ (o : Seat × M). IsSent me x o.1) out → Each (λ (o : Seat × M). IsSent me y o.1) out
still_sent {M = M} me x y more out all =
    Each-from _ out (λ o i.
    let s = Each-at (λ (q : Seat × M). IsSent me x q.1) out o all i in
    record { frame = s.frame; written = s.written; of = still_of me x y more s.frame s.of })

to_all_others : {M : Type 0} (me : Self M) (x : Node) (frame : Frame) → IsOf me x frame → Each (λ (o : Seat × M). IsSent me x o.1) (to_others me frame)
to_all_others {M = M} me x frame k =
    Each-map (λ (o : Seat × M). IsSent me x o.1) (λ i. (seats.Agree i, me.means.write frame)) _ (Each-from _ _ (λ i h. record { frame = frame; written = refl; of = k }))

to_all_row0 : {M : Type 0} (me : Self M) (x : Node) (frame : Frame) → IsOf me x frame → Each (λ (o : Seat × M). IsSent me x o.1) (to_row0 me frame)
to_all_row0 {M = M} me x frame k =
    Each-map (λ (o : Seat × M). IsSent me x o.1) (λ c. (seats.Filter 0 c, me.means.write frame)) _ (Each-from _ _ (λ i h. record { frame = frame; written = refl; of = k }))

-- ---- acts

turn_more : {M : Type 0} (me : Self M) (x : Node) (turn : Turn) → More x (turns me x turn).0
turn_more me x (Adopt v changes) = record { own = turn_grows me x (Adopt v changes); committed = λ a i. i; held = λ r i. i; changes = λ c i. i }
turn_more me x (Start v) = record { own = turn_grows me x (Start v); committed = λ a i. i; held = λ r i. i; changes = λ c i. i }
turn_more me x (Make changes) = record { own = turn_grows me x (Make changes); committed = λ a i. i; held = λ r i. i; changes = λ c i. i }

act_more : {M : Type 0} (me : Self M) (x : Node) (act : Act) → More x (performs me x act).0
act_more me x (Offer n e) = record { own = act_grows me x (Offer n e); committed = λ a i. i; held = λ r i. i; changes = λ c i. i }
act_more me x (Prepare n e) = record { own = act_grows me x (Prepare n e); committed = λ a i. i; held = λ r i. i; changes = λ c i. i }
act_more me x (Pledge_to n e s) = record { own = act_grows me x (Pledge_to n e s); committed = λ a i. i; held = λ r i. i; changes = λ c i. i }
act_more me x (Commit b) = record { own = act_grows me x (Commit b); committed = λ a i. inr i; held = λ r i. i; changes = λ c i. i }
act_more me x (Up b) = record { own = act_grows me x (Up b); committed = λ a i. i; held = λ r i. i; changes = λ c i. i }

turn_sends : {M : Type 0} (me : Self M) (x : Node) (turn : Turn) → MayTurn me x turn → AllSent me (turns me x turn)
turn_sends me x (Adopt v changes) m = tt
turn_sends me x (Start v) m = to_all_others me (turns me x (Start v)).0 (Changes (own_change me x v)) (inl refl)
turn_sends me x (Make changes) m =
    let a : Adopted = record { view = x.own.view; changes = changes } in
    let y = (turns me x (Make changes)).0 in
    to_all_others me y (Begins (own_new_view me x.own.view changes)) (a, inl refl, refl, still_made me x y (turn_more me x (Make changes)) a (made me x changes m))

act_sends : {M : Type 0} (me : Self M) (x : Node) (act : Act) → MayAct me x act → AllSent me (performs me x act)
act_sends me x (Offer n entry) m =
    let c : Cast = record { view = x.own.view; number = n; entry = entry } in
    to_all_others me (performs me x (Offer n entry)).0 (Proposes (own_proposal me x.own.view n entry)) (c, inl refl, refl, lead_of me x m.mine)
act_sends me x (Prepare n entry) m =
    let c : Cast = record { view = x.own.view; number = n; entry = entry } in
    to_all_others me (performs me x (Prepare n entry)).0 (Votes (own_vote me 0 x.own.view n (entry_digest me.means.hash entry))) (inl (c, inl refl, refl))
act_sends me x (Pledge_to n entry signers) m =
    let digest = entry_digest me.means.hash entry in
    let c : Pledge = record { view = x.own.view; number = n; digest = digest } in
    to_all_others me (performs me x (Pledge_to n entry signers)).0 (Votes (own_vote me 1 x.own.view n digest)) (inr (c, inl refl, refl))
act_sends me x (Commit a) m = tt
act_sends me x (Up a) m = to_all_row0 me (performs me x (Up a)).0 (Agrees a) (agreed_in x (x.up + 1) a m)

steps_sent : {M : Type 0} (me : Self M) → Keeps {M = M} me (AllSent me)
steps_sent {M = M} me = record {
  turn = λ s turn m k.
      let next = turns me s.0 turn in
      Each-append (λ (o : Seat × M). IsSent me next.0 o.1) s.1 next.1 (still_sent me s.0 next.0 (turn_more me s.0 turn) s.1 k) (turn_sends me s.0 turn m);
  act = λ s act m k.
      let next = performs me s.0 act in
      Each-append (λ (o : Seat × M). IsSent me next.0 o.1) s.1 next.1 (still_sent me s.0 next.0 (act_more me s.0 act) s.1 k) (act_sends me s.0 act m);
}

-- ---- what is heard

abbrev OrSent : {M : Type 0} → Self M → Option (Step M) → Type 0
OrSent me None = Unit {0}
OrSent me (Some s) = AllSent me s

request_sent : {M : Type 0} (me : Self M) (x : Node) (from : Seat) (r : Request) (o : Option Reply) → ((reply : Reply) → o ≡ Some reply → In reply x.heard.held) → AllSent me (hears_request me x from r o)
request_sent me x from r None f = tt
request_sent me x from r (Some reply) f = (record { frame = Replies reply; written = refl; of = f reply refl }, tt)

reply_sent : {M : Type 0} (me : Self M) (x : Node) (r : Reply) → AllSent me (hears_reply me x r)
reply_sent {M = M} me x r = elim (cases_Bool (is_some (reply_of x.heard.held r.number))) [
  | inl e ↦ rw e tt
  | inr e ↦
      rw e (Each-map (λ (o : Seat × M). IsSent me (record x { heard = record x.heard { held = r ∷ x.heard.held } }) o.1) (λ (g : Given). (seats.Client g.client, me.means.write (Replies r))) r.answers (Each-from _ r.answers (λ g i. record { frame = Replies r; written = refl; of = inl refl })))
]

ordered_sent : {M : Type 0} (me : Self M) (x : Node) (from : Seat) (frame : Frame) → OrSent me (hears me x from frame)
ordered_sent me x (seats.Client c) (Asks r) =
    request_sent me x (seats.Client c) r (reply_to me x r.client r.stamp) (λ reply e. held_reply me x r.client r.stamp reply e)
ordered_sent me x (seats.Agree j) (Proposes m) = tt
ordered_sent me x (seats.Agree j) (Votes v) = tt
ordered_sent me x (seats.Filter zero c) (Replies r) = reply_sent me x r
ordered_sent me x _ _ = tt

heard_sent : {M : Type 0} (me : Self M) (x : Node) (from : Seat) (frame : Frame) → OrSent me (hears_all me x from frame)
heard_sent me x (seats.Agree j) (Changes c) = tt
heard_sent me x (seats.Agree j) (Begins n) = tt
heard_sent me x from frame = ordered_sent me x from frame

admitted_sent : {M : Type 0} (me : Self M) (x : Node) (from : Seat) (o : Option Frame) → OrSent me (option_and_then (hears_all me x from) o)
admitted_sent me x from None = tt
admitted_sent me x from (Some frame) = heard_sent me x from frame

-- ---- a tick

again_sent : {M : Type 0} (me : Self M) (x : Node) (o : Option Agreed) → ((a : Agreed) → o ≡ Some a → In a x.committed) → Each (λ (q : Seat × M). IsSent me x q.1) (agreed_again me x o)
again_sent me x None f = tt
again_sent me x (Some a) f = elim (cases_Bool (nat_le a.number x.up)) [
  | inl e ↦ rw e (to_all_row0 me x (Agrees a) (f a refl))
  | inr e ↦ rw e tt
]

cast_sent : {M : Type 0} (me : Self M) (x : Node) (m : ℕ) (o : Option Entry) → cast_at x x.own.view m ≡ o → Each (λ (q : Seat × M). IsSent me x q.1) (resends_cast me x m o)
cast_sent me x m None e = tt
cast_sent me x m (Some entry) e =
    let c : Cast = record { view = x.own.view; number = m; entry = entry } in
    let i = cast_in x m entry e in
    elim (cases_Bool (is_primary me x)) [
      | inl lead ↦ rw lead (to_all_others me x (Proposes (own_proposal me x.own.view m entry)) (c, i, refl, lead_of me x lead))
      | inr other ↦ rw other (to_all_others me x (Votes (own_vote me 0 x.own.view m (entry_digest me.means.hash entry))) (inl (c, i, refl)))
    ]

pledge_sent : {M : Type 0} (me : Self M) (x : Node) (m : ℕ) (o : Option (List ℕ)) → pledge_at x x.own.view m ≡ o → Each (λ (q : Seat × M). IsSent me x q.1) (resends_pledge me x m o)
pledge_sent me x m None e = tt
pledge_sent me x m (Some d) e =
    let c : Pledge = record { view = x.own.view; number = m; digest = d } in
    to_all_others me x (Votes (own_vote me 1 x.own.view m d)) (inr (c, pledge_in x m d e, refl))

resends_at_sent : {M : Type 0} (me : Self M) (x : Node) (o : Option ℕ) → Each (λ (q : Seat × M). IsSent me x q.1) (resends_at me x o)
resends_at_sent me x None = tt
resends_at_sent {M = M} me x (Some m) =
    Each-append (λ (q : Seat × M). IsSent me x q.1) (resends_cast me x m (cast_at x x.own.view m)) _ (cast_sent me x m _ refl) (pledge_sent me x m _ refl)

change_sent : {M : Type 0} (me : Self M) (x : Node) (o : Option Change) → first_some (change_if x.own.view me.own) x.own.moves ≡ o → Each (λ (q : Seat × M). IsSent me x q.1) (resends_change me o)
change_sent me x None e = tt
change_sent me x (Some c) e =
    let t = first_some-in (change_if x.own.view me.own) x.own.moves c e in
    let w = when-some _ _ c t.2 in
    to_all_others me x (Changes c) (subst (λ (z : Change). In z x.own.moves) (same_Some _ _ w.1) t.1)

resends_sent : {M : Type 0} (me : Self M) (x : Node) → Each (λ (q : Seat × M). IsSent me x q.1) (resends me x)
resends_sent {M = M} me x =
    cond_both x.own.active (resends_at me x (first_some (uncommitted x) (numbers me))) (resends_change me (first_some (change_if x.own.view me.own) x.own.moves)) (Each (λ (q : Seat × M). IsSent me x q.1))
    (λ e. resends_at_sent me x (first_some (uncommitted x) (numbers me))) (λ e. change_sent me x (first_some (change_if x.own.view me.own) x.own.moves) refl)

idle_more : (x : Node) (n : ℕ) → More x (record x { idle = n })
idle_more x n = record {
  own = record { casts = λ c i. i; pledges = λ c i. i; moves = λ c i. i; adopted = λ a i. i };
  committed = λ a i. i;
  held = λ r i. i;
  changes = λ c i. i;
}

waits_sent : {M : Type 0} (me : Self M) (x : Node) (b : Bool) → starts_change me x ≡ b → AllSent me (waits_by me x b)
waits_sent me x true e =
    turn_sends me (record x { idle = 0 }) (Start (x.own.view + 1))
    (record { above = omega arith; below = ltb-true _ _ (and_parts (nat_eq (idle_now me x) PATIENCE) (nat_lt (x.own.view + 1) me.means.params.views) e).1 })
waits_sent me x false e = still_sent me x (waits_by me x false).0 (idle_more x _) (resends me x) (resends_sent me x)

ticks_sent : {M : Type 0} (me : Self M) (x : Node) → AllSent me (ticks me x)
ticks_sent {M = M} me x =
    let w = waits me x in
    Each-append (λ (q : Seat × M). IsSent me w.0 q.1) w.1 _ (waits_sent me x (starts_change me x) refl) (again_sent me w.0 _ (λ a e. agreed_in w.0 _ a e))

-- ---- one more input

after_sent : {M : Type 0} (me : Self M) (x : Node) (o : Option (Step M)) → OrSent me o → AllSent me (passes_after me x o)
after_sent me x None k = tt
after_sent me x (Some s) k = passes_keep me (AllSent me) (steps_sent me) s k

next_sent : {M O : Type 0} (me : Self M) (x : Node) (input : Input M O) → AllSent me (agree_next me x input)
next_sent me x (Submitted op) = tt
next_sent me x Tick = passes_keep me (AllSent me) (steps_sent me) (ticks me x) (ticks_sent me x)
next_sent me x (Heard from m) = after_sent me x _ (admitted_sent me x from (admitted me.means (seats.Agree me.own) from m))

pub are_sent : {M O : Type 0} (me : Self M) (h : List (Input M O)) (o : Seat × M) → In o (sends (agree_role me) h) → IsSent me (node_after me h) o.1
are_sent me [] o i = absurd i
are_sent {M = M} me (input ∷ h) o i =
    let next = agree_next me (node_after me h) input in
    Each-at (λ (q : Seat × M). IsSent me next.0 q.1) next.1 o (next_sent me (node_after me h) input) i
