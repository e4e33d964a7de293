-- The rule of an agreement node: what turns its view, what a tick does, and what it does on each input. What it keeps, and the passes that
-- order numbers in a view: Agree.
use Rattle.std.specs.Prelude.{ℕ, suc, zero, ◌+◌, Bool, true, false, ◌&&◌, ◌||◌, not, nat_eq, nat_lt, nat_le, List, [], ◌∷◌, ◌++◌, map, length, filter, filter_map, Option, Some, None, is_some, option_and_then, if◌then◌else◌}
use Rattle.std.specs.List.{list_any}
use Rattle.fw_base.specs.declared.seat.Seat.{Seat}
use Rattle.fw_base.specs.declared.seat.Seat.TheVariants.{Agree}
use Rattle.fw_base.specs.declared.slot.Slot.TheVariants as slots
use Rattle.fw_trace.specs.declared.Input.{Input}
use Rattle.fw_trace.specs.declared.Input.TheVariants.{Heard, Tick, Submitted}
use Rattle.fw_trace.specs.Role.{Role}
use Rattle.fw_frame.specs.View.{Entry, Proof, Change, NewView, Agreed, Frame, Proposes, Votes, Changes, Begins, Agrees}
use Rattle.fw_means.specs.Means.{when}
use Rattle.fw_rules.specs.Signing.{entry_digest, change_text, new_view_text}
use Rattle.fw_rules.specs.Choices.{first_some, admitted}
use Rattle.fw_rules.specs.Agree.{Node, Self, Sends, Step, nodes, numbers, to_others, to_row0, reply_to, replied, enough, cast_at, pledge_at, agreed_at, all_proofs, best, proofs_of, own_vote, own_proposal, is_primary, makes_offers, casts_votes, commits_and_sends, hears, new_node}

-- ---- acts that turn the view

pub data Turn : Type 0 where
  Adopt : (view : ℕ) (changes : List Change) → Turn  -- a new view that it heard
  Start : (view : ℕ) → Turn  -- its view change
  Make : (changes : List Change) → Turn  -- the new view that it makes as primary

-- the proof of the greatest view for each number at which it was prepared
abbrev pub best_proofs : {M : Type 0} → Self M → Node → List Proof
best_proofs me x = filter_map (λ n. best (proofs_of n x.own.proofs)) (numbers me)

-- a view change before it is signed
abbrev pub bare_change : {M : Type 0} → Self M → Node → ℕ → Change
bare_change me x view = record { view = view; agree = me.own; proofs = best_proofs me x; sig = [] }

abbrev pub own_change : {M : Type 0} → Self M → Node → ℕ → Change
own_change me x view =
    record (bare_change me x view) { sig = me.means.sign (slots.Change view me.own) 0 (change_text me.means.hash (bare_change me x view)) }

-- a new view before it is signed
abbrev pub bare_new_view : ℕ → List Change → NewView
bare_new_view view changes = record { view = view; changes = changes; sig = [] }

abbrev pub own_new_view : {M : Type 0} → Self M → ℕ → List Change → NewView
own_new_view me view changes =
    record (bare_new_view view changes) { sig = me.means.sign (slots.NewView view me.own) 0 (new_view_text me.means.hash (bare_new_view view changes)) }

-- it is active in this view, which these view changes began
abbrev pub adopt : Node → ℕ → List Change → Node
adopt x view changes = record x {
  idle = 0;
  own = record x.own { view = view; active = true; adopted = record { view = view; changes = changes } ∷ x.own.adopted };
}

-- it waits for a view to begin
abbrev pub moves_to : Node → ℕ → Change → Node
moves_to x view change = record x { idle = 0; own = record x.own { view = view; active = false; moves = change ∷ x.own.moves } }

abbrev pub turns : {M : Type 0} → Self M → Node → Turn → Step M
turns me x (Adopt view changes) = (adopt x view changes, [])
turns me x (Start view) =
    let change = own_change me x view in
    (moves_to x view change, to_others me (Changes change))
turns me x (Make changes) = (adopt x x.own.view changes, to_others me (Begins (own_new_view me x.own.view changes)))

-- an act, where one is chosen
abbrev pub turned : {M : Type 0} → Self M → Step M → Option Turn → Step M
turned me s None = s
turned me s (Some turn) =
    let next = turns me s.0 turn in
    (next.0, s.1 ++ next.1)

abbrev pub single : {M : Type 0} → Self M → (Node → Option Turn) → Step M → Step M
single me chooses s = turned me s (chooses s.0)

-- views from the greatest down to 0
abbrev pub views_down : ℕ → List ℕ
views_down zero = []
views_down (suc v) = v ∷ views_down v

-- ---- the pass of adopting: of the new views that it heard, the first of the greatest view that is above its own, or is its own while it
-- isn't active

abbrev pub adopts_one : ℕ → NewView → Option Turn
adopts_one v n = when (nat_eq n.view v) (Some (Adopt v n.changes))

abbrev pub adopts_at : Node → ℕ → Option Turn
adopts_at x v =
    when (nat_lt x.own.view v || (nat_eq v x.own.view && not x.own.active)) (first_some (adopts_one v) x.heard.new_views)

abbrev pub adopts : {M : Type 0} → Self M → Node → Option Turn
adopts me x = first_some (adopts_at x) (views_down me.means.params.views)

-- ---- the pass of joining: the greatest view for which, or for more, f + 1 other nodes sent view changes

abbrev pub sent_for : Node → ℕ → ℕ → Bool
sent_for x w i = list_any (λ c. nat_eq c.agree i && nat_le w c.view) x.heard.changes

abbrev pub others_for : {M : Type 0} → Self M → Node → ℕ → List ℕ
others_for me x w = filter (λ i. not (nat_eq i me.own) && sent_for x w i) (nodes me.means.params)

abbrev pub joins_at : {M : Type 0} → Self M → Node → ℕ → Option Turn
joins_at me x w = when (nat_lt x.own.view w && nat_lt me.means.params.f (length (others_for me x w))) (Some (Start w))

abbrev pub joins : {M : Type 0} → Self M → Node → Option Turn
joins me x = first_some (joins_at me x) (views_down me.means.params.views)

-- ---- the pass of making: the primary of a view that isn't active makes it of the first view changes of the lowest signers that are a quorum

abbrev pub change_if : ℕ → ℕ → Change → Option Change
change_if view i c = when (nat_eq c.view view && nat_eq c.agree i) (Some c)

-- the first view change of a view by a node; its own is the one that it made
abbrev pub changes_by : {M : Type 0} → Self M → Node → ℕ → List Change
changes_by me x i = if nat_eq i me.own then x.own.moves else x.heard.changes

abbrev pub change_of : {M : Type 0} → Self M → Node → ℕ → ℕ → Option Change
change_of me x view i = first_some (change_if view i) (changes_by me x i)

abbrev pub make_of : Option (List Change) → Option Turn
make_of None = None
make_of (Some changes) = Some (Make changes)

abbrev pub makes : {M : Type 0} → Self M → Node → Option Turn
makes me x =
    when (not x.own.active && is_primary me x) (make_of (enough me (filter_map (change_of me x x.own.view) (nodes me.means.params))))

-- ---- all passes, each over what the ones before it left

abbrev pub changes_view : {M : Type 0} → Self M → Step M → Step M
changes_view me s = single me (makes me) (single me (joins me) (single me (adopts me) s))

abbrev pub passes : {M : Type 0} → Self M → Step M → Step M
passes me s = commits_and_sends me (casts_votes me (makes_offers me (changes_view me s)))

-- ---- what a frame does

abbrev pub entries_of : List Change → List Entry
entries_of changes = map (λ q. q.entry) (all_proofs changes)

-- a view change is remembered, and the entries of its proofs are seen
abbrev pub hears_change : Node → Change → Node
hears_change x c = record x { heard = record x.heard { changes = x.heard.changes ++ c ∷ [] }; seen = x.seen ++ entries_of (c ∷ []) }

-- a new view is remembered, and the entries of its changes' proofs are seen
abbrev pub hears_new_view : Node → NewView → Node
hears_new_view x n = record x { heard = record x.heard { new_views = x.heard.new_views ++ n ∷ [] }; seen = x.seen ++ entries_of n.changes }

-- what a frame from a seat does; none where it isn't named
abbrev pub hears_all : {M : Type 0} → Self M → Node → Seat → Frame → Option (Step M)
hears_all me x (Agree i) (Changes c) = Some (hears_change x c, [])
hears_all me x (Agree i) (Begins n) = Some (hears_new_view x n, [])
hears_all me x from frame = hears me x from frame

-- ---- what a tick does

-- it waits for a request that isn't answered, or for a view to begin
abbrev pub is_behind : {M : Type 0} → Self M → Node → Bool
is_behind me x = not x.own.active || list_any (λ r. not (is_some (reply_to me x r.client r.stamp))) x.heard.requests

-- how many ticks it waits, this one counted
abbrev pub idle_now : {M : Type 0} → Self M → Node → ℕ
idle_now me x = if is_behind me x then x.idle + 1 else x.idle

-- ticks that a node waits before it changes the view
abbrev pub PATIENCE : ℕ
PATIENCE = 3

abbrev pub starts_change : {M : Type 0} → Self M → Node → Bool
starts_change me x = nat_eq (idle_now me x) PATIENCE && nat_lt (x.own.view + 1) me.means.params.views

abbrev pub idle_after : ℕ → ℕ
idle_after idle = if nat_eq idle PATIENCE then 0 else idle

-- its view change again
abbrev pub resends_change : {M : Type 0} → Self M → Option Change → Sends M
resends_change me None = []
resends_change me (Some change) = to_others me (Changes change)

-- its commit vote again
abbrev pub resends_pledge : {M : Type 0} → Self M → Node → ℕ → Option (List ℕ) → Sends M
resends_pledge me x m None = []
resends_pledge me x m (Some digest) = to_others me (Votes (own_vote me 1 x.own.view m digest))

-- its proposal or its prepare vote again
abbrev pub resends_cast : {M : Type 0} → Self M → Node → ℕ → Option Entry → Sends M
resends_cast me x m None = []
resends_cast me x m (Some entry) =
    if is_primary me x then to_others me (Proposes (own_proposal me x.own.view m entry))
    else to_others me (Votes (own_vote me 0 x.own.view m (entry_digest me.means.hash entry)))

abbrev pub resends_at : {M : Type 0} → Self M → Node → Option ℕ → Sends M
resends_at me x None = []
resends_at me x (Some m) = resends_cast me x m (cast_at x x.own.view m) ++ resends_pledge me x m (pledge_at x x.own.view m)

-- the number, if it isn't committed
abbrev pub uncommitted : Node → ℕ → Option ℕ
uncommitted x n = when (not (is_some (agreed_at x n))) (Some n)

-- an active node resends at the least number that isn't committed; one that isn't active its view change
abbrev pub resends : {M : Type 0} → Self M → Node → Sends M
resends me x =
    if x.own.active then resends_at me x (first_some (uncommitted x) (numbers me))
    else resends_change me (first_some (change_if x.own.view me.own) x.own.moves)

-- the agreed frame again that has gone up and waits for its reply
abbrev pub agreed_again : {M : Type 0} → Self M → Node → Option Agreed → Sends M
agreed_again me x None = []
agreed_again me x (Some a) = if nat_le a.number x.up then to_row0 me (Agrees a) else []

-- a change starts, and nothing is sent again; or what is owed is
abbrev pub waits_by : {M : Type 0} → Self M → Node → Bool → Step M
waits_by me x true = turns me (record x { idle = 0 }) (Start (x.own.view + 1))
waits_by me x false = (record x { idle = idle_after (idle_now me x) }, resends me x)

abbrev pub waits : {M : Type 0} → Self M → Node → Step M
waits me x = waits_by me x (starts_change me x)

abbrev pub reminds : {M : Type 0} → Self M → Step M → Step M
reminds me s = (s.0, s.1 ++ agreed_again me s.0 (agreed_at s.0 (replied me s.0 + 1)))

abbrev pub ticks : {M : Type 0} → Self M → Node → Step M
ticks me x = reminds me (waits me x)

-- ---- the rule

-- an input that is ignored changes nothing; after any other the passes are made
abbrev pub passes_after : {M : Type 0} → Self M → Node → Option (Step M) → Step M
passes_after me x None = (x, [])
passes_after me x (Some heard) = passes me heard

abbrev pub agree_next : {M O : Type 0} → Self M → Node → Input M O → Step M
agree_next me x (Submitted op) = (x, [])
agree_next me x Tick = passes me (ticks me x)
agree_next me x (Heard from m) =
    passes_after me x (option_and_then (hears_all me x from) (admitted me.means (Agree me.own) from m))

abbrev pub agree_role : {M O : Type 0} → Self M → Role Node M O
agree_role me = record { start = new_node; next = agree_next me }
