-- What the nodes of a deployment give is what a summary is made of.
use Rattle.std.proofs.Common.{◌≡◌, ℕ, ◌<◌, nat_lt, List, length, get_or, Option, slice_get, sym, ap, ap₂, ◌∙◌, subst, IsTrue}
use Rattle.std.specs.Prelude.{not}
use Rattle.std.proofs.lemmas.Bool.{and_from, lt-ltb}
use Rattle.std.proofs.lemmas.Option.{slice_get_within, same_Some}
use Rattle.fw_base.specs.declared.seat.Seat.{Seat}
use Rattle.fw_base.specs.declared.seat.Seat.TheVariants.{Client}
use Rattle.fw_trace.specs.declared.Sent.{Sent}
use Rattle.fw_trace.specs.Trace.{history, rests_from}
use Rattle.fw_directory.specs.Directories.{PlainDirectory}
use Rattle.fw_hand.specs.Hands.{PlainHand}
use Rattle.fw_node.specs.Histories.{History, Out}
use Rattle.fw_rules.specs.World.{Deployed, rule_at}
use Rattle.fw_step.specs.Fitting.{is_faulty, is_correct}
use Rattle.fw_fair.specs.Correct.{correct_below, count_below, correct_at, place_of}
use Rattle.fw_fair.specs.Hostile.{rules_among}
use Rattle.fw_fair.proofs.Seats.{is_correct_at, place_at}
use Rattle.fw_client.specs.Standing.{Asker, StandsFor, number_of}
use Rattle.fw_pool.specs.Counts.{submissions}
use Rattle.fw_grid.specs.Nodes.{AreSeated, AreStanding, hand_in}
use Rattle.fw_grid.specs.Seen.{Seen}
use Rattle.fw_seen.specs.declared.whole.Counts.{Counts}
use Rattle.fw_seen.specs.Summary.{greatest_view}
use Rattle.fw_seen.specs.Parts.{ArePartsOf}
use Rattle.fw_world.specs.Played.{ArePlayed}

pub parts_of : {A E F : Type 0} (hand_a : A → PlainHand) (d : Deployed) (faulty : List Seat) (w : Seen A E F Asker) (keys : PlainHand) (of : PlainDirectory) (wrong : List Seat) (nodes : List Asker) (frames : List (Sent (List ℕ))) (counts : Counts)
    → ArePlayed hand_a (λ n. n.hand) d faulty w keys → of ≡ w.directory → wrong ≡ w.faulty → nodes ≡ w.nodes.clients
    → AreSeated (λ n. n.params) (λ n. Client n.client) w.directory.params (correct_at w.faulty Client w.directory.params.clients) (count_below w.faulty Client w.directory.params.clients) nodes
    → AreStanding StandsFor (λ n. n.stopped) w.directory (λ k. history (correct_at w.faulty Client w.directory.params.clients k) w.trace.log) nodes
    → frames ≡ w.trace.pool → counts.submissions ≡ submissions (is_correct w.directory.params w.faulty) w.trace.log → counts.events ≡ length w.trace.log
    → ((rule : Seat → History → Out) → counts.rest ≡ rests_from (rules_among w.directory.params w.faulty rule) w.trace.log 0 w.trace.pool)
    → counts.view ≡ greatest_view d faulty w.trace
    → ArePartsOf StandsFor d faulty w.trace of wrong keys nodes frames counts
parts_of hand_a d faulty w keys of wrong nodes frames counts played directory wrongs clients seated standing pool submitted events rest view = record {
  directory = directory ∙ played.directory;
  faulty_seats = wrongs ∙ played.faulty_seats;
  keys = played.executor;
  clients = record {
    many = seated.many ∙ ap₂ (λ (x : PlainDirectory) (f : List Seat). count_below f Client x.params.clients) played.directory played.faulty_seats;
    each = λ k node found.
        let p = d.directory.params in
        let inside : k < count_below faulty Client p.clients =
        subst (λ n. k < n) (seated.many ∙ ap₂ (λ (x : PlainDirectory) (f : List Seat). count_below f Client x.params.clients) played.directory played.faulty_seats) (slice_get_within nodes k node found) in
        let c = get_or (correct_below faulty Client p.clients) k 0 in
        let is = is_correct_at faulty Client p.clients k inside in
        let correct : IsTrue (is_correct p faulty (Client c)) = and_from (nat_lt c p.clients) (not (is_faulty faulty (Client c))) (lt-ltb c p.clients is.0) (ap not is.1) in
        let place : place_of p faulty (Client c) ≡ k = place_at faulty Client p.clients k inside in
        record {
          number = ap number_of (seated.seats k node found) ∙ ap₂ (λ (x : PlainDirectory) (f : List Seat). get_or (correct_below f Client x.params.clients) k 0) played.directory played.faulty_seats;
          hand = same_Some node.hand (d.hand (Client c))
              (ap (λ (o : Option Asker). hand_in (λ n. n.hand) o) (sym found ∙ ap (λ (l : List Asker). slice_get l k) clients ∙ ap (slice_get w.nodes.clients) (sym place)) ∙ played.clients c correct);
          history = subst (λ x. StandsFor node x (history (Client c) w.trace.log)) played.directory
              (subst (λ (s : Seat). StandsFor node w.directory (history s w.trace.log)) (ap₂ (λ (x : PlainDirectory) (f : List Seat). correct_at f Client x.params.clients k) played.directory played.faulty_seats) (standing k node found).1);
        };
  };
  pool = pool;
  submissions = submitted ∙ ap₂ (λ (x : PlainDirectory) (f : List Seat). submissions (is_correct x.params f) w.trace.log) played.directory played.faulty_seats;
  events = events;
  rest = rest (rule_at d) ∙ ap₂ (λ (x : PlainDirectory) (f : List Seat). rests_from (rules_among x.params f (rule_at d)) w.trace.log 0 w.trace.pool) played.directory played.faulty_seats;
  view = view;
}
