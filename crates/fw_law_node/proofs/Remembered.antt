-- What a node remembers it has heard.
use Rattle.std.proofs.Common.{zero, ◌≡◌, inl, inr, Bool, true, false, List, [], ◌∷◌, ◌++◌, refl, sym, subst, Option, Some, None, is_some}
use Rattle.std.specs.Prelude.{option_and_then}
use Rattle.std.specs.List.{list_any}
use Rattle.std.proofs.lemmas.Bool.{cases_Bool}
use Rattle.fw_base.specs.declared.seat.Seat.{Seat}
use Rattle.fw_base.specs.declared.seat.Seat.TheVariants as seats
use Rattle.fw_trace.specs.declared.Input.{Input}
use Rattle.fw_trace.specs.declared.Input.TheVariants.{Heard, Tick, Submitted}
use Rattle.fw_trace.specs.Lists.{In}
use Rattle.fw_trace.proofs.Words.{In-append}
use Rattle.fw_frame.specs.View.{Request, Change, NewView, Propose, Reply, Frame, Asks, Proposes, Votes, Changes, Begins, Replies}
use Rattle.fw_rules.specs.Choices.{admitted}
use Rattle.fw_rules.specs.Agree.{Self, Memory, Node, Step, Act, Offer, Prepare, Pledge_to, Commit, Up, acted, hears, hears_request, hears_reply, reply_of, reply_to, same_request}
use Rattle.fw_rules.specs.Views.{Turn, Adopt, Start, Make, turned, hears_all, passes_after, ticks, waits_by, starts_change}
use Rattle.fw_law_node.specs.Once.{node_after}
use Rattle.fw_law_node.specs.Remembered.{WasAdmitted, Remembers}
use Rattle.fw_law_node.proofs.Acts.{Keeps, passes_keep}

remembers-weaken : (F G : Frame → Type 0) → ((frame : Frame) → F frame → G frame) → (memory : Memory) → Remembers F memory → Remembers G memory
remembers-weaken F G f memory k = record {
  requests = λ r i. f (Asks r) (k.requests r i);
  proposals = λ m i. f (Proposes m) (k.proposals m i);
  changes = λ c i. f (Changes c) (k.changes c i);
  new_views = λ n i. f (Begins n) (k.new_views n i);
  held = λ r i. f (Replies r) (k.held r i);
}

-- one more in the end
more : {A : Type 0} (P : A → Type 0) (xs : List A) (new : A) → ((x : A) → In x xs → P x) → P new → (x : A) → In x (xs ++ new ∷ []) → P x
more P xs new all one x i = elim (In-append x xs (new ∷ []) i) [
  | inl h ↦ all x h
  | inr h ↦ elim h [ inl e ↦ subst P (sym e) one | inr none ↦ absurd none ]
]

-- ---- acts leave it

acts_leave : {M : Type 0} (me : Self M) (F : Frame → Type 0) → Keeps {M = M} me (λ s. Remembers F s.0.heard)
acts_leave me F = record { turn = λ s turn m k. turn_leaves s turn k; act = λ s act m k. act_leaves s act k }
  where
    turn_leaves : (s : Step _) (turn : Turn) → Remembers F s.0.heard → Remembers F (turned me s (Some turn)).0.heard
    turn_leaves s (Adopt v changes) k = k
    turn_leaves s (Start v) k = k
    turn_leaves s (Make changes) k = k

    act_leaves : (s : Step _) (act : Act) → Remembers F s.0.heard → Remembers F (acted me s (Some act)).0.heard
    act_leaves s (Offer n e) k = k
    act_leaves s (Prepare n e) k = k
    act_leaves s (Pledge_to n e q) k = k
    act_leaves s (Commit a) k = k
    act_leaves s (Up a) k = k

-- ---- what is heard

abbrev OrRemembers : {M : Type 0} → (Frame → Type 0) → Option (Step M) → Type 0
OrRemembers F None = Unit {0}
OrRemembers F (Some s) = Remembers F s.0.heard

request_kept : {M : Type 0} (me : Self M) (F : Frame → Type 0) (x : Node) (from : Seat) (r : Request) (o : Option Reply) → Remembers F x.heard → F (Asks r) → Remembers F (hears_request me x from r o).0.heard
request_kept me F x from r None k f = elim (cases_Bool (list_any (same_request r) x.heard.requests)) [
  | inl e ↦ rw e k
  | inr e ↦
      rw e (record {
        requests = more (λ (q : Request). F (Asks q)) x.heard.requests r k.requests f;
        proposals = k.proposals;
        changes = k.changes;
        new_views = k.new_views;
        held = k.held;
      })
]
request_kept me F x from r (Some reply) k f = k

reply_kept : {M : Type 0} (me : Self M) (F : Frame → Type 0) (x : Node) (r : Reply) → Remembers F x.heard → F (Replies r) → Remembers F (hears_reply me x r).0.heard
reply_kept me F x r k f = elim (cases_Bool (is_some (reply_of x.heard.held r.number))) [
  | inl e ↦ rw e k
  | inr e ↦
      rw e (record {
        requests = k.requests;
        proposals = k.proposals;
        changes = k.changes;
        new_views = k.new_views;
        held = λ q i. elim i [ inl s ↦ subst (λ (z : Reply). F (Replies z)) (sym s) f | inr j ↦ k.held q j ];
      })
]

ordered_kept : {M : Type 0} (me : Self M) (F : Frame → Type 0) (x : Node) (from : Seat) (frame : Frame) → Remembers F x.heard → F frame → OrRemembers F (hears me x from frame)
ordered_kept me F x (seats.Client c) (Asks r) k f = request_kept me F x (seats.Client c) r (reply_to me x r.client r.stamp) k f
ordered_kept me F x (seats.Agree j) (Proposes m) k f = record {
  requests = k.requests;
  proposals = more (λ (q : Propose). F (Proposes q)) x.heard.proposals m k.proposals f;
  changes = k.changes;
  new_views = k.new_views;
  held = k.held;
}
ordered_kept me F x (seats.Agree j) (Votes v) k f = k
ordered_kept me F x (seats.Filter zero c) (Replies r) k f = reply_kept me F x r k f
ordered_kept me F x _ _ k f = tt

heard_kept : {M : Type 0} (me : Self M) (F : Frame → Type 0) (x : Node) (from : Seat) (frame : Frame) → Remembers F x.heard → F frame → OrRemembers F (hears_all me x from frame)
heard_kept me F x (seats.Agree j) (Changes c) k f = record {
  requests = k.requests;
  proposals = k.proposals;
  changes = more (λ (d : Change). F (Changes d)) x.heard.changes c k.changes f;
  new_views = k.new_views;
  held = k.held;
}
heard_kept me F x (seats.Agree j) (Begins n) k f = record {
  requests = k.requests;
  proposals = k.proposals;
  changes = k.changes;
  new_views = more (λ (m : NewView). F (Begins m)) x.heard.new_views n k.new_views f;
  held = k.held;
}
heard_kept me F x from frame k f = ordered_kept me F x from frame k f

-- ---- histories

after_kept : {M : Type 0} (me : Self M) (F : Frame → Type 0) (x : Node) (o : Option (Step M)) → Remembers F x.heard → OrRemembers F o → Remembers F (passes_after me x o).0.heard
after_kept me F x None k more = k
after_kept me F x (Some s) k more = passes_keep me (λ s. Remembers F s.0.heard) (acts_leave me F) s more

or_heard : {M : Type 0} (me : Self M) (F : Frame → Type 0) (x : Node) (from : Seat) (o : Option Frame) → Remembers F x.heard → ((frame : Frame) → o ≡ Some frame → F frame) → OrRemembers F (option_and_then (hears_all me x from) o)
or_heard me F x from None k f = tt
or_heard me F x from (Some frame) k f = heard_kept me F x from frame k (f frame refl)

tick_kept : {M : Type 0} (me : Self M) (F : Frame → Type 0) (x : Node) (b : Bool) → Remembers F x.heard → Remembers F (waits_by me x b).0.heard
tick_kept me F x true k = k
tick_kept me F x false k = k

-- each frame that a node remembers it has heard
pub remembered : {M O : Type 0} (me : Self M) (h : List (Input M O)) → Remembers (WasAdmitted me h) (node_after me h).heard
remembered me [] = record { requests = λ r i. absurd i; proposals = λ m i. absurd i; changes = λ c i. absurd i; new_views = λ n i. absurd i; held = λ r i. absurd i }
remembered me (Submitted op ∷ h) = remembered me h
remembered me (Tick ∷ h) =
    let x = node_after me h in
    passes_keep me (λ s. Remembers (WasAdmitted me h) s.0.heard) (acts_leave me (WasAdmitted me h)) (ticks me x) (tick_kept me (WasAdmitted me h) x (starts_change me x) (remembered me h))
remembered me (Heard from m ∷ h) =
    let x = node_after me h in
    let F = WasAdmitted me (Heard from m ∷ h) in
    let k = remembers-weaken (WasAdmitted me h) F (λ frame f. inr f) x.heard (remembered me h) in
    after_kept me F x (option_and_then (hears_all me x from) (admitted me.means (seats.Agree me.own) from m)) k (or_heard me F x from (admitted me.means (seats.Agree me.own) from m) k (λ frame e. inl e))
