-- The nodes of a deployment's correct seats, of any four kinds: where they stand, what they send by seat, and the histories that they
-- stand for.
use Rattle.std.specs.Prelude.{◌≡◌, ℕ, ◌*◌, Bool, false, cond, nat_eq, List, [], ◌∷◌, length, Option, None, Some, slice_get}
use Rattle.fw_base.specs.declared.params.Params.{Params}
use Rattle.fw_base.specs.declared.seat.Seat.{Seat}
use Rattle.fw_base.specs.declared.seat.Seat.TheVariants.{Agree, Exec, Filter, Client}
use Rattle.fw_base.specs.Sizes.{agreements, executors, width}
use Rattle.fw_base.specs.Seats.{seat_eq}
use Rattle.fw_step.specs.Fitting.{is_correct}
use Rattle.fw_directory.specs.Directories.{PlainDirectory}
use Rattle.fw_hand.specs.Hands.{PlainHand}
use Rattle.fw_node.specs.Histories.{Taken, History, Out}
use Rattle.fw_fair.specs.Correct.{filter_at, count_below, correct_at, place_of}

-- the nodes of each kind, ascending by seat
pub record Nodes (A E F C : Type 0) : Type 0 where
  pub agree : List A
  pub exec : List E
  pub filters : List F
  pub clients : List C

-- ---- which seats they have

-- so many nodes of the sizes, each at the place of its seat
pub record AreSeated {N : Type 0} (params : N → Params) (own : N → Seat) (p : Params) (seat_at : ℕ → Seat) (count : ℕ) (nodes : List N) : Type 0 where
  pub many : length nodes ≡ count
  pub sizes : (k : ℕ) (node : N) → slice_get nodes k ≡ Some node → params node ≡ p
  pub seats : (k : ℕ) (node : N) → slice_get nodes k ≡ Some node → own node ≡ seat_at k

-- there is one node for each correct seat of the deployment
pub record AllSeated {A E F C : Type 0} (sizes_a : A → Params) (own_a : A → Seat) (sizes_e : E → Params) (own_e : E → Seat) (sizes_f : F → Params) (own_f : F → Seat) (sizes_c : C → Params) (own_c : C → Seat) (p : Params) (faulty : List Seat) (nodes : Nodes A E F C) : Type 0 where
  pub agree : AreSeated sizes_a own_a p (correct_at faulty Agree (agreements p)) (count_below faulty Agree (agreements p)) nodes.agree
  pub exec : AreSeated sizes_e own_e p (correct_at faulty Exec (executors p)) (count_below faulty Exec (executors p)) nodes.exec
  pub filters : AreSeated sizes_f own_f p (correct_at faulty (filter_at p) (width p * width p)) (count_below faulty (filter_at p) (width p * width p)) nodes.filters
  pub clients : AreSeated sizes_c own_c p (correct_at faulty Client p.clients) (count_below faulty Client p.clients) nodes.clients

-- ---- what they send

-- what a node sends on the newest input of a history, under a directory
abbrev pub Sends : Type 0 → Type 0
Sends N = N → PlainDirectory → History → Out

abbrev pub sends_of : {N : Type 0} → Sends N → Option N → PlainDirectory → History → Out
sends_of rule None d h = []
sends_of rule (Some node) d h = rule node d h

-- what the node of a correct seat sends
abbrev pub node_sends : {A E F C : Type 0} → Sends A → Sends E → Sends F → Sends C → Nodes A E F C → PlainDirectory → List Seat → Seat → History → Out
node_sends a e f c nodes d faulty (Agree i) h = sends_of a (slice_get nodes.agree (place_of d.params faulty (Agree i))) d h
node_sends a e f c nodes d faulty (Exec j) h = sends_of e (slice_get nodes.exec (place_of d.params faulty (Exec j))) d h
node_sends a e f c nodes d faulty (Filter row column) h = sends_of f (slice_get nodes.filters (place_of d.params faulty (Filter row column))) d h
node_sends a e f c nodes d faulty (Client k) h = sends_of c (slice_get nodes.clients (place_of d.params faulty (Client k))) d h

-- the same, for correct seats alone
abbrev pub rule_of : {A E F C : Type 0} → Sends A → Sends E → Sends F → Sends C → Nodes A E F C → PlainDirectory → List Seat → Seat → History → Out
rule_of a e f c nodes d faulty seat h = cond (is_correct d.params faulty seat) (node_sends a e f c nodes d faulty seat h) []

-- ---- their hands

-- the hand of a node, where there is one
abbrev pub hand_in : {N : Type 0} → (N → PlainHand) → Option N → Option PlainHand
hand_in hand None = None
hand_in hand (Some node) = Some (hand node)

-- the hand of the node of a correct seat
abbrev pub node_hand : {A E F C : Type 0} → (A → PlainHand) → (E → PlainHand) → (F → PlainHand) → (C → PlainHand) → Nodes A E F C → Params → List Seat → Seat → Option PlainHand
node_hand a e f c nodes p faulty (Agree i) = hand_in a (slice_get nodes.agree (place_of p faulty (Agree i)))
node_hand a e f c nodes p faulty (Exec j) = hand_in e (slice_get nodes.exec (place_of p faulty (Exec j)))
node_hand a e f c nodes p faulty (Filter row column) = hand_in f (slice_get nodes.filters (place_of p faulty (Filter row column)))
node_hand a e f c nodes p faulty (Client k) = hand_in c (slice_get nodes.clients (place_of p faulty (Client k)))

-- ---- the histories that they stand for

-- how a node stands for a history, under a directory
abbrev pub Stands : Type 0 → Type 1
Stands N = N → PlainDirectory → History → Type 0

-- each runs, and stands for the history of its place
abbrev pub AreStanding : {N : Type 0} → Stands N → (N → Bool) → PlainDirectory → (ℕ → History) → List N → Type 0
AreStanding {N} stands stopped d histories nodes =
    (k : ℕ) (node : N) → slice_get nodes k ≡ Some node → (stopped node ≡ false) × stands node d (histories k)

-- each runs, and stands for the history of its seat
pub record AllStanding {A E F C : Type 0} (stands_a : Stands A) (stopped_a : A → Bool) (stands_e : Stands E) (stopped_e : E → Bool) (stands_f : Stands F) (stopped_f : F → Bool) (stands_c : Stands C) (stopped_c : C → Bool) (d : PlainDirectory) (faulty : List Seat) (histories : Seat → History) (nodes : Nodes A E F C) : Type 0 where
  pub agree : AreStanding stands_a stopped_a d (λ k. histories (correct_at faulty Agree (agreements d.params) k)) nodes.agree
  pub exec : AreStanding stands_e stopped_e d (λ k. histories (correct_at faulty Exec (executors d.params) k)) nodes.exec
  pub filters : AreStanding stands_f stopped_f d (λ k. histories (correct_at faulty (filter_at d.params) (width d.params * width d.params) k)) nodes.filters
  pub clients : AreStanding stands_c stopped_c d (λ k. histories (correct_at faulty Client d.params.clients k)) nodes.clients

-- the histories after a place or a seat took an input
abbrev pub with_place : (ℕ → History) → ℕ → Taken → ℕ → History
with_place histories k input j = cond (nat_eq k j) (input ∷ histories j) (histories j)

abbrev pub with_input : (Seat → History) → Seat → Taken → Seat → History
with_input histories seat input other = cond (seat_eq seat other) (input ∷ histories other) (histories other)
