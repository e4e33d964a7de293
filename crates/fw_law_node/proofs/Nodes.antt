-- What acts keep of a node, and all that it hears, every history keeps.
use Rattle.std.proofs.Common.{zero, ◌≡◌, ◌+◌, inl, inr, Bool, true, false, List, [], ◌∷◌, arith, refl, Option, Some, None, is_some}
use Rattle.std.specs.Prelude.{option_and_then, nat_eq, nat_lt}
use Rattle.std.specs.List.{list_any}
use Rattle.std.proofs.lemmas.Bool.{cases_Bool, and_parts, ltb-true}
use Rattle.fw_base.specs.declared.seat.Seat.{Seat}
use Rattle.fw_base.specs.declared.seat.Seat.TheVariants as seats
use Rattle.fw_trace.specs.declared.Input.{Input}
use Rattle.fw_trace.specs.declared.Input.TheVariants.{Heard, Tick, Submitted}
use Rattle.fw_trace.specs.Lists.{In}
use Rattle.fw_trace.proofs.Words.{In-left}
use Rattle.fw_frame.specs.View.{Request, Change, NewView, Reply, Frame, Asks, Proposes, Votes, Changes, Begins, Replies}
use Rattle.fw_rules.specs.Choices.{admitted}
use Rattle.fw_rules.specs.Agree.{Self, Node, Step, Act, performs, new_node, hears, hears_request, hears_reply, reply_of, reply_to, same_request}
use Rattle.fw_rules.specs.Views.{Turn, Start, turns, agree_next, hears_all, passes_after, ticks, waits_by, starts_change, idle_now, PATIENCE}
use Rattle.fw_law_node.specs.Once.{node_after}
use Rattle.fw_law_node.proofs.Acts.{MayTurn, MayAct, Keeps, passes_keep}

-- ---- what hearing changes

-- what it did and what it has committed are the same, and it remembers more
pub record HearsMore (x y : Node) : Type 0 where
  pub own : y.own ≡ x.own
  pub committed : y.committed ≡ x.committed
  pub changes : (c : Change) → In c x.heard.changes → In c y.heard.changes
  pub new_views : (n : NewView) → In n x.heard.new_views → In n y.heard.new_views

abbrev OrMore : {M : Type 0} → Node → Option (Step M) → Type 0
OrMore x None = Unit {0}
OrMore x (Some s) = HearsMore x s.0

same_more : (x y : Node) → y.own ≡ x.own → y.committed ≡ x.committed → y.heard.changes ≡ x.heard.changes → y.heard.new_views ≡ x.heard.new_views → HearsMore x y
same_more x y own committed changes new_views =
    record { own = own; committed = committed; changes = λ c i. rw changes i; new_views = λ n i. rw new_views i }

request_more : {M : Type 0} (me : Self M) (x : Node) (from : Seat) (r : Request) (o : Option Reply) → HearsMore x (hears_request me x from r o).0
request_more me x from r None = elim (cases_Bool (list_any (same_request r) x.heard.requests)) [
  | inl e ↦ rw e (same_more x x refl refl refl refl)
  | inr e ↦ rw e (record { own = refl; committed = refl; changes = λ c i. i; new_views = λ n i. i })
]
request_more me x from r (Some reply) = same_more x x refl refl refl refl

reply_more : {M : Type 0} (me : Self M) (x : Node) (r : Reply) → HearsMore x (hears_reply me x r).0
reply_more me x r = elim (cases_Bool (is_some (reply_of x.heard.held r.number))) [
  | inl e ↦ rw e (same_more x x refl refl refl refl)
  | inr e ↦ rw e (record { own = refl; committed = refl; changes = λ c i. i; new_views = λ n i. i })
]

ordered_more : {M : Type 0} (me : Self M) (x : Node) (from : Seat) (frame : Frame) → OrMore x (hears me x from frame)
ordered_more me x (seats.Client c) (Asks r) = request_more me x (seats.Client c) r (reply_to me x r.client r.stamp)
ordered_more me x (seats.Agree j) (Proposes m) = record { own = refl; committed = refl; changes = λ c i. i; new_views = λ n i. i }
ordered_more me x (seats.Agree j) (Votes v) = record { own = refl; committed = refl; changes = λ c i. i; new_views = λ n i. i }
ordered_more me x (seats.Filter zero c) (Replies r) = reply_more me x r
ordered_more me x _ _ = tt

pub heard_more : {M : Type 0} (me : Self M) (x : Node) (from : Seat) (frame : Frame) → OrMore x (hears_all me x from frame)
heard_more me x (seats.Agree j) (Changes c) =
    record { own = refl; committed = refl; changes = λ d i. In-left d x.heard.changes (c ∷ []) i; new_views = λ n i. i }
heard_more me x (seats.Agree j) (Begins n) =
    record { own = refl; committed = refl; changes = λ c i. i; new_views = λ m i. In-left m x.heard.new_views (n ∷ []) i }
heard_more me x from frame = ordered_more me x from frame

admitted_more : {M : Type 0} (me : Self M) (x : Node) (from : Seat) (o : Option Frame) → OrMore x (option_and_then (hears_all me x from) o)
admitted_more me x from None = tt
admitted_more me x from (Some frame) = heard_more me x from frame

-- ---- what is kept

pub record NodesKeep {M : Type 0} (me : Self M) (I : Node → Type 0) : Type 0 where
  pub turn : (x : Node) (turn : Turn) → MayTurn me x turn → I x → I (turns me x turn).0
  pub act : (x : Node) (act : Act) → MayAct me x act → I x → I (performs me x act).0
  pub more : (x y : Node) → HearsMore x y → I x → I y

steps_keep : {M : Type 0} (me : Self M) (I : Node → Type 0) → NodesKeep me I → Keeps {M = M} me (λ s. I s.0)
steps_keep me I k = record { turn = λ s turn m i. k.turn s.0 turn m i; act = λ s act m i. k.act s.0 act m i }

after_keeps : {M : Type 0} (me : Self M) (I : Node → Type 0) → NodesKeep me I → (x : Node) (o : Option (Step M)) → OrMore x o → I x → I (passes_after me x o).0
after_keeps me I k x None more i = i
after_keeps me I k x (Some s) more i = passes_keep me (λ s. I s.0) (steps_keep me I k) s (k.more x s.0 more i)

waits_keep : {M : Type 0} (me : Self M) (I : Node → Type 0) → NodesKeep me I → (x : Node) (b : Bool) → starts_change me x ≡ b → I x → I (waits_by me x b).0
waits_keep me I k x true e i =
    k.turn (record x { idle = 0 }) (Start (x.own.view + 1))
    (record { above = omega arith; below = ltb-true _ _ (and_parts (nat_eq (idle_now me x) PATIENCE) (nat_lt (x.own.view + 1) me.means.params.views) e).1 })
    (k.more x (record x { idle = 0 }) (same_more x (record x { idle = 0 }) refl refl refl refl) i)
waits_keep me I k x false e i = k.more x (waits_by me x false).0 (same_more x (waits_by me x false).0 refl refl refl refl) i

pub next_keeps : {M O : Type 0} (me : Self M) (I : Node → Type 0) → NodesKeep me I → (x : Node) (input : Input M O) → I x → I (agree_next me x input).0
next_keeps me I k x (Submitted op) i = i
next_keeps me I k x Tick i = passes_keep me (λ s. I s.0) (steps_keep me I k) (ticks me x) (waits_keep me I k x (starts_change me x) refl i)
next_keeps me I k x (Heard from m) i = after_keeps me I k x _ (admitted_more me x from (admitted me.means (seats.Agree me.own) from m)) i

pub node_always : {M O : Type 0} (me : Self M) (I : Node → Type 0) → NodesKeep me I → I new_node → (h : List (Input M O)) → I (node_after me h)
node_always me I k start [] = start
node_always me I k start (input ∷ h) = next_keeps me I k (node_after me h) input (node_always me I k start h)
