-- What a node did itself changes by acts alone: what each act keeps of it, every history keeps.
use Rattle.std.proofs.Common.{zero, ◌≡◌, ◌+◌, inl, inr, Bool, true, false, List, [], ◌∷◌, arith, refl, sym, subst, Option, Some, None, is_some}
use Rattle.std.specs.Prelude.{option_and_then, nat_eq, nat_lt}
use Rattle.std.specs.List.{list_any}
use Rattle.std.proofs.lemmas.Bool.{cases_Bool, and_parts, ltb-true}
use Rattle.fw_base.specs.declared.seat.Seat.{Seat}
use Rattle.fw_base.specs.declared.seat.Seat.TheVariants as seats
use Rattle.fw_trace.specs.declared.Input.{Input}
use Rattle.fw_trace.specs.declared.Input.TheVariants.{Heard, Tick, Submitted}
use Rattle.fw_trace.specs.Role.{kept}
use Rattle.fw_frame.specs.View.{Request, Reply, Frame, Asks, Proposes, Votes, Changes, Begins, Replies}
use Rattle.fw_rules.specs.Choices.{admitted}
use Rattle.fw_rules.specs.Agree.{Self, Own, Node, Step, Act, performs, new_node, hears, hears_request, hears_reply, reply_of, reply_to, same_request}
use Rattle.fw_rules.specs.Views.{Turn, Start, turns, agree_role, agree_next, hears_all, passes_after, ticks, waits_by, starts_change, idle_now, PATIENCE}
use Rattle.fw_law_node.proofs.Acts.{MayTurn, MayAct, Keeps, passes_keep}

-- each act that may be chosen keeps I
pub record ActsKeep {M : Type 0} (me : Self M) (I : Own → Type 0) : Type 0 where
  pub turn : (x : Node) (turn : Turn) → MayTurn me x turn → I x.own → I (turns me x turn).0.own
  pub act : (x : Node) (act : Act) → MayAct me x act → I x.own → I (performs me x act).0.own

abbrev Same : {M : Type 0} → Node → Option (Step M) → Type 0
Same x None = Unit {0}
Same x (Some s) = s.0.own ≡ x.own

request_same : {M : Type 0} (me : Self M) (x : Node) (from : Seat) (r : Request) (o : Option Reply) → (hears_request me x from r o).0.own ≡ x.own
request_same me x from r None = elim (cases_Bool (list_any (same_request r) x.heard.requests)) [ inl e ↦ rw e | inr e ↦ rw e ]
request_same me x from r (Some reply) = refl

reply_same : {M : Type 0} (me : Self M) (x : Node) (r : Reply) → (hears_reply me x r).0.own ≡ x.own
reply_same me x r = elim (cases_Bool (is_some (reply_of x.heard.held r.number))) [ inl e ↦ rw e | inr e ↦ rw e ]

ordered_same : {M : Type 0} (me : Self M) (x : Node) (from : Seat) (frame : Frame) → Same x (hears me x from frame)
ordered_same me x (seats.Client c) (Asks r) = request_same me x (seats.Client c) r (reply_to me x r.client r.stamp)
ordered_same me x (seats.Agree j) (Proposes m) = refl
ordered_same me x (seats.Agree j) (Votes v) = refl
ordered_same me x (seats.Filter zero c) (Replies r) = reply_same me x r
ordered_same me x _ _ = tt

heard_same : {M : Type 0} (me : Self M) (x : Node) (from : Seat) (frame : Frame) → Same x (hears_all me x from frame)
heard_same me x (seats.Agree j) (Changes c) = refl
heard_same me x (seats.Agree j) (Begins n) = refl
heard_same me x from frame = ordered_same me x from frame

admitted_same : {M : Type 0} (me : Self M) (x : Node) (from : Seat) (o : Option Frame) → Same x (option_and_then (hears_all me x from) o)
admitted_same me x from None = tt
admitted_same me x from (Some frame) = heard_same me x from frame

steps_keep : {M : Type 0} (me : Self M) (I : Own → Type 0) → ActsKeep me I → Keeps {M = M} me (λ s. I s.0.own)
steps_keep me I k = record { turn = λ s turn m i. k.turn s.0 turn m i; act = λ s act m i. k.act s.0 act m i }

after_keeps : {M : Type 0} (me : Self M) (I : Own → Type 0) → ActsKeep me I → (x : Node) (o : Option (Step M)) → Same x o → I x.own → I (passes_after me x o).0.own
after_keeps me I k x None same i = i
after_keeps me I k x (Some s) same i = passes_keep me (λ s. I s.0.own) (steps_keep me I k) s (subst I (sym same) i)

waits_keep : {M : Type 0} (me : Self M) (I : Own → Type 0) → ActsKeep me I → (x : Node) (b : Bool) → starts_change me x ≡ b → I x.own → I (waits_by me x b).0.own
waits_keep me I k x true e i =
    k.turn (record x { idle = 0 }) (Start (x.own.view + 1)) (record { above = omega arith; below = ltb-true _ _ (and_parts (nat_eq (idle_now me x) PATIENCE) (nat_lt (x.own.view + 1) me.means.params.views) e).1 }) i
waits_keep me I k x false e i = i

pub next_keeps : {M O : Type 0} (me : Self M) (I : Own → Type 0) → ActsKeep me I → (x : Node) (input : Input M O) → I x.own → I (agree_next me x input).0.own
next_keeps me I k x (Submitted op) i = i
next_keeps me I k x Tick i = passes_keep me (λ s. I s.0.own) (steps_keep me I k) (ticks me x) (waits_keep me I k x (starts_change me x) refl i)
next_keeps me I k x (Heard from m) i = after_keeps me I k x _ (admitted_same me x from (admitted me.means (seats.Agree me.own) from m)) i

pub kept_always : {M O : Type 0} (me : Self M) (I : Own → Type 0) → ActsKeep me I → I new_node.own → (h : List (Input M O)) → I (kept (agree_role me) h).own
kept_always me I k start [] = start
kept_always me I k start (input ∷ h) = next_keeps me I k (kept (agree_role me) h) input (kept_always me I k start h)
