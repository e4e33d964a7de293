-- The new nodes of all kinds together.
use Rattle.std.proofs.Common.{◌≡◌, ℕ, zero, suc, ◌*◌, ◌<◌, Bool, true, false, cond, List, [], ◌∷◌, length, get_or, Option, Some, None, slice_get, refl, sym, ap, ◌∙◌, subst, arith, IsTrue}
use Rattle.fw_base.specs.declared.params.Params.{Params}
use Rattle.fw_base.specs.declared.seat.Seat.{Seat}
use Rattle.fw_base.specs.declared.seat.Seat.TheVariants.{Agree, Exec, Filter, Client}
use Rattle.fw_base.specs.Sizes.{agreements, executors, width}
use Rattle.fw_step.specs.Fitting.{is_correct}
use Rattle.fw_directory.specs.Directories.{PlainDirectory}
use Rattle.fw_hand.specs.Hands.{PlainHand}
use Rattle.fw_deal.specs.Deals.{PlainDeal, hand_of}
use Rattle.fw_node.specs.Histories.{History}
use Rattle.fw_rules.specs.Deployed.{rule_by}
use Rattle.fw_fair.specs.Correct.{filter_at, kind_of, correct_below, place_of}
use Rattle.fw_fair.specs.Hostile.{dealt_rule}
use Rattle.fw_fair.proofs.Seats.{many_of, at_place}
use Rattle.fw_grid.specs.Nodes.{Nodes, Sends, Stands, AreSeated, AreStanding, hand_in, sends_of, node_sends, rule_of}
use Rattle.fw_cores.specs.Fresh.{AreFresh}

pub seated : {N : Type 0} (params : N → Params) (own : N → Seat) (hand : N → PlainHand) (rule : Sends N) (stands : Stands N) (stopped : N → Bool) (deal : PlainDeal) (seat_at : ℕ → Seat) (numbers : List ℕ) (nodes : List N)
    → AreFresh params own hand rule stands stopped deal seat_at numbers nodes → AreSeated params own deal.origin.params (λ k. seat_at (get_or numbers k 0)) (length numbers) nodes
seated params own hand rule stands stopped deal seat_at numbers nodes fresh = record {
  many = fresh.many;
  sizes = λ k node found. (fresh.each k node found).sizes;
  seats = λ k node found. (fresh.each k node found).seat_is;
}

pub standing : {N : Type 0} (params : N → Params) (own : N → Seat) (hand : N → PlainHand) (rule : Sends N) (stands : Stands N) (stopped : N → Bool) (deal : PlainDeal) (seat_at : ℕ → Seat) (numbers : List ℕ) (nodes : List N) (d : PlainDirectory)
    → AreFresh params own hand rule stands stopped deal seat_at numbers nodes → AreStanding stands stopped d (λ k. []) nodes
standing params own hand rule stands stopped deal seat_at numbers nodes d fresh = λ k node found. ((fresh.each k node found).running, (fresh.each k node found).empty d)

-- there is a node at each place
none_inside : {A : Type 0} (xs : List A) (k : ℕ) → k < length xs → slice_get xs k ≡ None → ⊥
none_inside [] k inside none = absurd (omega arith)
none_inside (x ∷ xs) zero inside none = absurd (cc)
none_inside (x ∷ xs) (suc k) inside none = none_inside xs k (omega arith) none

-- what the node at a place sends
pub sent_at : {N : Type 0} (params : N → Params) (own : N → Seat) (hand : N → PlainHand) (rule : Sends N) (stands : Stands N) (stopped : N → Bool) (deal : PlainDeal) (seat_at : ℕ → Seat) (numbers : List ℕ) (nodes : List N) (k : ℕ) (d : PlainDirectory) (h : History)
    → AreFresh params own hand rule stands stopped deal seat_at numbers nodes → k < length numbers → sends_of rule (slice_get nodes k) d h ≡ rule_by d (hand_of deal (seat_at (get_or numbers k 0))) h
sent_at {N} params own hand rule stands stopped deal seat_at numbers nodes k d h fresh below = by (slice_get nodes k) refl
  where
    by : (o : Option N) → slice_get nodes k ≡ o → sends_of rule o d h ≡ rule_by d (hand_of deal (seat_at (get_or numbers k 0))) h
    by None none = absurd (none_inside nodes k (subst (λ n. k < n) (sym fresh.many) below) none)
    by (Some node) found = (fresh.each k node found).goes_by d h

-- the hand of the node at a place
pub had_at : {N : Type 0} (params : N → Params) (own : N → Seat) (hand : N → PlainHand) (rule : Sends N) (stands : Stands N) (stopped : N → Bool) (deal : PlainDeal) (seat_at : ℕ → Seat) (numbers : List ℕ) (nodes : List N) (k : ℕ)
    → AreFresh params own hand rule stands stopped deal seat_at numbers nodes → k < length numbers → hand_in hand (slice_get nodes k) ≡ Some (hand_of deal (seat_at (get_or numbers k 0)))
had_at {N} params own hand rule stands stopped deal seat_at numbers nodes k fresh below = by (slice_get nodes k) refl
  where
    by : (o : Option N) → slice_get nodes k ≡ o → hand_in hand o ≡ Some (hand_of deal (seat_at (get_or numbers k 0)))
    by None none = absurd (none_inside nodes k (subst (λ n. k < n) (sym fresh.many) below) none)
    by (Some node) found = ap (λ (h : PlainHand). Some h) (fresh.each k node found).has

-- what the node of a correct seat sends, and its hand
sent_of : {N : Type 0} (params : N → Params) (own : N → Seat) (hand : N → PlainHand) (rule : Sends N) (stands : Stands N) (stopped : N → Bool) (deal : PlainDeal) (p : Params) (faulty : List Seat) (seat : Seat) (nodes : List N) (d : PlainDirectory) (h : History)
    → IsTrue (is_correct p faulty seat) → AreFresh params own hand rule stands stopped deal (kind_of p seat) (correct_below faulty (kind_of p seat) (many_of p seat)) nodes
    → sends_of rule (slice_get nodes (place_of p faulty seat)) d h ≡ rule_by d (hand_of deal seat) h
sent_of params own hand rule stands stopped deal p faulty seat nodes d h correct fresh =
    let at = at_place p faulty seat correct in
    sent_at params own hand rule stands stopped deal (kind_of p seat) (correct_below faulty (kind_of p seat) (many_of p seat)) nodes (place_of p faulty seat) d h fresh at.0
    ∙ ap (λ s. rule_by d (hand_of deal s) h) at.1

pub had_of : {N : Type 0} (params : N → Params) (own : N → Seat) (hand : N → PlainHand) (rule : Sends N) (stands : Stands N) (stopped : N → Bool) (deal : PlainDeal) (p : Params) (faulty : List Seat) (seat : Seat) (nodes : List N)
    → IsTrue (is_correct p faulty seat) → AreFresh params own hand rule stands stopped deal (kind_of p seat) (correct_below faulty (kind_of p seat) (many_of p seat)) nodes
    → hand_in hand (slice_get nodes (place_of p faulty seat)) ≡ Some (hand_of deal seat)
had_of params own hand rule stands stopped deal p faulty seat nodes correct fresh =
    let at = at_place p faulty seat correct in
    had_at params own hand rule stands stopped deal (kind_of p seat) (correct_below faulty (kind_of p seat) (many_of p seat)) nodes (place_of p faulty seat) fresh at.0
    ∙ ap (λ s. Some (hand_of deal s)) at.1

-- what the node of each correct seat sends
pub all_sent : {A E F C : Type 0} (params_a : A → Params) (own_a : A → Seat) (hand_a : A → PlainHand) (rule_a : Sends A) (stands_a : Stands A) (stopped_a : A → Bool) (params_e : E → Params) (own_e : E → Seat) (hand_e : E → PlainHand) (rule_e : Sends E) (stands_e : Stands E) (stopped_e : E → Bool) (params_f : F → Params) (own_f : F → Seat) (hand_f : F → PlainHand) (rule_f : Sends F) (stands_f : Stands F) (stopped_f : F → Bool) (params_c : C → Params) (own_c : C → Seat) (hand_c : C → PlainHand) (rule_c : Sends C) (stands_c : Stands C) (stopped_c : C → Bool) (deal : PlainDeal) (faulty : List Seat) (nodes : Nodes A E F C)
    → AreFresh params_a own_a hand_a rule_a stands_a stopped_a deal Agree (correct_below faulty Agree (agreements deal.origin.params)) nodes.agree
    → AreFresh params_e own_e hand_e rule_e stands_e stopped_e deal Exec (correct_below faulty Exec (executors deal.origin.params)) nodes.exec
    → AreFresh params_f own_f hand_f rule_f stands_f stopped_f deal (filter_at deal.origin.params) (correct_below faulty (filter_at deal.origin.params) (width deal.origin.params * width deal.origin.params)) nodes.filters
    → AreFresh params_c own_c hand_c rule_c stands_c stopped_c deal Client (correct_below faulty Client deal.origin.params.clients) nodes.clients
    → (d : PlainDirectory) (seat : Seat) (h : History) → d.params ≡ deal.origin.params → rule_of rule_a rule_e rule_f rule_c nodes d faulty seat h ≡ dealt_rule (record { deal = deal; directory = d; faulty = faulty }) seat h
all_sent params_a own_a hand_a rule_a stands_a stopped_a params_e own_e hand_e rule_e stands_e stopped_e params_f own_f hand_f rule_f stands_f stopped_f params_c own_c hand_c rule_c stands_c stopped_c deal faulty nodes agree exec filters clients d seat h same = by (is_correct d.params faulty seat) refl
  where
    p : Params
    p = deal.origin.params

    here : (s : Seat) → is_correct d.params faulty s ≡ true → is_correct p faulty s ≡ true
    here s correct = subst (λ q. is_correct q faulty s ≡ true) same correct

    sent : (s : Seat) → is_correct d.params faulty s ≡ true → node_sends rule_a rule_e rule_f rule_c nodes d faulty s h ≡ rule_by d (hand_of deal s) h
    sent (Agree i) correct =
        ap (λ q. sends_of rule_a (slice_get nodes.agree (place_of q faulty (Agree i))) d h) same
        ∙ sent_of params_a own_a hand_a rule_a stands_a stopped_a deal p faulty (Agree i) nodes.agree d h (here (Agree i) correct) agree
    sent (Exec j) correct =
        ap (λ q. sends_of rule_e (slice_get nodes.exec (place_of q faulty (Exec j))) d h) same
        ∙ sent_of params_e own_e hand_e rule_e stands_e stopped_e deal p faulty (Exec j) nodes.exec d h (here (Exec j) correct) exec
    sent (Filter r c) correct =
        ap (λ q. sends_of rule_f (slice_get nodes.filters (place_of q faulty (Filter r c))) d h) same
        ∙ sent_of params_f own_f hand_f rule_f stands_f stopped_f deal p faulty (Filter r c) nodes.filters d h (here (Filter r c) correct) filters
    sent (Client c) correct =
        ap (λ q. sends_of rule_c (slice_get nodes.clients (place_of q faulty (Client c))) d h) same
        ∙ sent_of params_c own_c hand_c rule_c stands_c stopped_c deal p faulty (Client c) nodes.clients d h (here (Client c) correct) clients

    by : (b : Bool) → is_correct d.params faulty seat ≡ b → cond b (node_sends rule_a rule_e rule_f rule_c nodes d faulty seat h) [] ≡ cond b (rule_by d (hand_of deal seat) h) []
    by false correct = refl
    by true correct = sent seat correct
