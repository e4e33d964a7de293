-- What the carried run of all four roles comes to, the run by the rules comes to.
use Rattle.std.proofs.Common.{◌≡◌, ℕ, ◌+◌, List, [], ◌∷◌, Some, Ok, refl, sym, ap, ◌∙◌, map, reverse, length}
use Rattle.std.specs.Prelude.{option_and_then}
use Rattle.fw_list.specs.Lists.{numbers_from}
use Rattle.fw_base.specs.declared.seat.Seat.{Seat}
use Rattle.fw_base.specs.declared.seat.Seat.TheVariants.{Agree, Exec, Filter, Client}
use Rattle.fw_op.specs.declared.op.Op.{Op}
use Rattle.fw_op.specs.declared.reply.Reply as said
use Rattle.fw_op.specs.declared.start.Start.{Start}
use Rattle.fw_trace.specs.declared.Input.{Input}
use Rattle.fw_trace.specs.declared.Told.{Told}
use Rattle.fw_trace.specs.Executor as executors
use Rattle.fw_trace.specs.Filter as filters
use Rattle.fw_trace.specs.Role.{Role, kept, sends}
use Rattle.fw_trace.specs.Run.{Step, agreed_list}
use Rattle.fw_trace.specs.Run as runs
use Rattle.fw_trace.specs.Trace.{Trace, history, crossing, rests_from}
use Rattle.fw_frame.specs.View.{Frame}
use Rattle.fw_rules.specs.Agree.{greatest}
use Rattle.fw_rules.specs.Means.{Means}
use Rattle.fw_rules.specs.Roles.{executor_speech, filter_speech}
use Rattle.fw_rules.specs.World.{agreed_frame, in_row}
use Rattle.fw_rules.specs.Toy.{Lie, Row, toy_bodies}
use Rattle.fw_rules.specs.Views.{agree_role}
use Rattle.fw_view_runs.specs.Whole.{toy_world, sends_at, correct_nodes, EndsIn}
use Rattle.fw_view_runs.specs.Whole as whole
use Rattle.fw_law_words.proofs.Lists.{map_same}
use Rattle.fw_view_choices.specs.Carried.{KeepsAll, run}
use Rattle.fw_view_choices.specs.Seats.{Kept, Run, wrapped_role, Agrees, Executes, Filters, Asks, node_in, executor_in, filter_in, client_in, client_at, role_at, view_of, accepted_by, row_of, viewed_row, CarriedEndsIn}
use Rattle.fw_view_choices.proofs.Carrying.{ran}

-- ---- a wrapped role keeps and sends the same

kept_wrapped : {S T M O : Type 0} (wrap : S → T) (unwrap : T → S) (back : (s : S) → unwrap (wrap s) ≡ s) (role : Role S M O) (h : List (Input M O))
    → kept (wrapped_role wrap unwrap role) h ≡ wrap (kept role h)
kept_wrapped wrap unwrap back role [] = refl
kept_wrapped {S} {T} wrap unwrap back role (input ∷ h) =
    ap (λ (s : S). wrap (role.next s input).0) (ap unwrap (kept_wrapped wrap unwrap back role h) ∙ back (kept role h))

sends_wrapped : {S T M O : Type 0} (wrap : S → T) (unwrap : T → S) (back : (s : S) → unwrap (wrap s) ≡ s) (role : Role S M O) (h : List (Input M O))
    → sends role h ≡ sends (wrapped_role wrap unwrap role) h
sends_wrapped wrap unwrap back role [] = refl
sends_wrapped {S} {T} wrap unwrap back role (input ∷ h) =
    ap (λ (s : S). (role.next s input).1) (sym (ap unwrap (kept_wrapped wrap unwrap back role h) ∙ back (kept role h)))

follows : {M : Type 0} (k : Means M) (starts : List Start) (seat : Seat) (h : List (Input M Op)) → sends_at k toy_bodies starts seat h ≡ sends (role_at k starts seat) h
follows k starts (Agree i) h = sends_wrapped Agrees node_in (λ s. refl) (agree_role (record { own = i; means = k })) h
follows k starts (Exec j) h =
    let role = executors.executor_role (executor_speech k toy_bodies starts j) in sends_wrapped Executes (executor_in role.start) (λ s. refl) role h
follows k starts (Filter r c) h =
    let role = filters.filter_role (filter_speech k r c) in sends_wrapped Filters (filter_in role.start) (λ s. refl) role h
follows k starts (Client c) h = sends_wrapped Asks (client_in (client_at k c).start) (λ s. refl) (client_at k c) h

pub carried : (k : Means Frame) (starts : List Start) (faulty : List Seat) (steps : List (Step Op Lie))
    → runs.run (toy_world k starts faulty) steps ≡ Ok (run (toy_world k starts faulty) (role_at k starts) steps).trace
carried k starts faulty steps = (ran (toy_world k starts faulty) (role_at k starts) steps (λ lie pool s. refl) (follows k starts)).well

-- ---- what is said of a run

view_is : (k : Means Frame) (starts : List Start) (c : Run) → KeepsAll (role_at k starts) c → (i : ℕ) → whole.view_of k c.trace i ≡ view_of k starts c i
view_is k starts c keeps i =
    let role : Role _ Frame Op = agree_role (record { own = i; means = k }) in
    ap (λ (s : Kept Frame). (node_in s).own.view) (sym (keeps (Agree i) ∙ kept_wrapped Agrees node_in (λ s. refl) role (history (Agree i) c.trace.log)))

accepted_is : (k : Means Frame) (starts : List Start) (c : Run) → KeepsAll (role_at k starts) c → (client : ℕ) → whole.accepted_by k c.trace client ≡ accepted_by k starts c client
accepted_is k starts c keeps client =
    ap (λ (s : Kept Frame). reverse (client_in (client_at k client).start s).accepted)
    (sym (keeps (Client client) ∙ kept_wrapped Asks (client_in (client_at k client).start) (λ s. refl) (client_at k client) (history (Client client) c.trace.log)))

abbrev row_with : (k : Means Frame) (faulty : List Seat) (t : Trace Frame Op) → List (List (Told said.Reply)) → Row
row_with k faulty t accepted = record {
  agreed = map (λ e. map (λ r. (r.client, r.stamp)) e) (agreed_list (λ frame. option_and_then agreed_frame (k.read frame)) t.pool);
  accepted = accepted;
  cross = map (λ r. length (crossing (in_row r) t.pool)) (numbers_from 0 (k.params.h + 1));
  rest = rests_from (toy_world k [] faulty).rules t.log 0 t.pool;
  events = length t.log;
  frames = length t.pool;
}

viewed_is : (k : Means Frame) (starts : List Start) (faulty : List Seat) (c : Run) → KeepsAll (role_at k starts) c → whole.viewed_row k faulty (Ok c.trace) ≡ Some (viewed_row k starts faulty c)
viewed_is k starts faulty c keeps =
    let rows : whole.row_of k faulty c.trace ≡ row_of k starts faulty c =
    ap (row_with k faulty c.trace) (map_same (whole.accepted_by k c.trace) (accepted_by k starts c) (numbers_from 0 k.params.clients) (accepted_is k starts c keeps)) in
    let views : greatest (map (whole.view_of k c.trace) (correct_nodes k.params faulty)) ≡ greatest (map (view_of k starts c) (correct_nodes k.params faulty)) =
    ap greatest (map_same (whole.view_of k c.trace) (view_of k starts c) (correct_nodes k.params faulty) (view_is k starts c keeps)) in
    ap (λ (row : Row). Some (row, greatest (map (whole.view_of k c.trace) (correct_nodes k.params faulty)))) rows
    ∙ ap (λ (view : ℕ). Some (row_of k starts faulty c, view)) views

pub ends : (k : Means Frame) (starts : List Start) (faulty : List Seat) (steps : List (Step Op Lie)) (view : ℕ) (row : Row)
    → CarriedEndsIn k starts faulty steps view row → EndsIn k starts faulty steps view row
ends k starts faulty steps view row e =
    let all = ran (toy_world k starts faulty) (role_at k starts) steps (λ lie pool s. refl) (follows k starts) in
    ap (whole.viewed_row k faulty) all.well ∙ viewed_is k starts faulty (run (toy_world k starts faulty) (role_at k starts) steps) all.keeps
    ∙ ap (λ (one : Row × ℕ). Some one) e
