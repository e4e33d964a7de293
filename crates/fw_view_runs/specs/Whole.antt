-- A world that computes, as the rule's own, where agreement nodes go by the rule with view changes; and what is said of its runs.
use Rattle.std.specs.Prelude.{ℕ, ◌+◌, ◌≡◌, not, List, [], map, filter, length, reverse, Option, Some, None, Result, Ok, Err, option_and_then}
use Rattle.std.specs.List.{list_any}
use Rattle.fw_list.specs.Lists.{numbers_from}
use Rattle.fw_base.specs.declared.params.Params.{Params}
use Rattle.fw_base.specs.declared.seat.Seat.{Seat}
use Rattle.fw_base.specs.declared.seat.Seat.TheVariants.{Agree, Client}
use Rattle.fw_base.specs.Seats.{seat_eq}
use Rattle.fw_base.specs.Sizes.{agreements}
use Rattle.fw_op.specs.declared.op.Op.{Op}
use Rattle.fw_op.specs.declared.reply.Reply as said
use Rattle.fw_op.specs.declared.start.Start.{Start}
use Rattle.fw_trace.specs.declared.Input.{Input}
use Rattle.fw_trace.specs.declared.Told.{Told}
use Rattle.fw_trace.specs.Trace.{Trace, history, crossing, rests_from}
use Rattle.fw_trace.specs.Client.{client_role}
use Rattle.fw_trace.specs.Run.{Step, World, run, agreed_list}
use Rattle.fw_trace.specs.Role.{kept, sends}
use Rattle.fw_frame.specs.View.{Frame}
use Rattle.fw_rules.specs.Agree.{greatest}
use Rattle.fw_rules.specs.Means.{Means, Bodies}
use Rattle.fw_rules.specs.Roles.{rule_of, client_speech}
use Rattle.fw_rules.specs.World.{agreed_frame, in_row}
use Rattle.fw_rules.specs.Toy.{toy_bodies, lie_of, Lie, Row}
use Rattle.fw_rules.specs.Views.{agree_role}

-- what each seat sends on the newest input of its history
abbrev pub sends_at : {M : Type 0} → Means M → Bodies → List Start → Seat → List (Input M Op) → List (Seat × M)
sends_at k b starts (Agree i) h = sends (agree_role (record { own = i; means = k })) h
sends_at k b starts seat h = rule_of k b starts seat h

abbrev pub toy_world : Means Frame → List Start → List Seat → World Frame Op Lie ⊥
toy_world k starts faulty = record {
  rules = record { correct = λ seat. not (list_any (seat_eq seat) faulty); rule = sends_at k toy_bodies starts };
  lie = lie_of;
  fault = λ lie pool s. None;
}

-- the view of an agreement node
abbrev pub view_of : Means Frame → Trace Frame Op → ℕ → ℕ
view_of k t i = (kept (agree_role {O = Op} (record { own = i; means = k })) (history (Agree i) t.log)).own.view

-- the agreement nodes that aren't faulty
abbrev pub correct_nodes : Params → List Seat → List ℕ
correct_nodes p faulty = filter (λ i. not (list_any (seat_eq (Agree i)) faulty)) (numbers_from 0 (agreements p))

abbrev pub accepted_by : Means Frame → Trace Frame Op → ℕ → List (Told said.Reply)
accepted_by k t c = reverse (kept (client_role (client_speech k toy_bodies c)) (history (Client c) t.log)).accepted

-- what is said of a run
abbrev pub row_of : Means Frame → List Seat → Trace Frame Op → Row
row_of k faulty t = record {
  agreed = map (λ e. map (λ r. (r.client, r.stamp)) e) (agreed_list (λ frame. option_and_then agreed_frame (k.read frame)) t.pool);
  accepted = map (accepted_by k t) (numbers_from 0 k.params.clients);
  cross = map (λ r. length (crossing (in_row r) t.pool)) (numbers_from 0 (k.params.h + 1));
  rest = rests_from (toy_world k [] faulty).rules t.log 0 t.pool;
  events = length t.log;
  frames = length t.pool;
}

-- the row of a run, and the greatest view of a correct agreement node
abbrev pub viewed_row : Means Frame → List Seat → Result (Trace Frame Op) (ℕ × ⊥) → Option (Row × ℕ)
viewed_row k faulty (Ok t) = Some (row_of k faulty t, greatest (map (view_of k t) (correct_nodes k.params faulty)))
viewed_row k faulty (Err e) = None

-- with these means, records and faulty seats the run of the steps ends so, in this view
abbrev pub EndsIn : Means Frame → List Start → List Seat → List (Step Op Lie) → ℕ → Row → Type 0
EndsIn k starts faulty steps view row = viewed_row k faulty (run (toy_world k starts faulty) steps) ≡ Some (row, view)
