-- The roles of all seats of the world with view changes, over one type of what a seat keeps; and the run that carries it.
use Rattle.std.specs.Prelude.{ℕ, ◌+◌, ◌≡◌, List, [], map, filter, length, reverse, option_and_then}
use Rattle.fw_list.specs.Lists.{numbers_from}
use Rattle.fw_base.specs.declared.seat.Seat.{Seat}
use Rattle.fw_base.specs.declared.seat.Seat.TheVariants.{Agree, Exec, Filter, Client}
use Rattle.fw_op.specs.declared.op.Op.{Op}
use Rattle.fw_op.specs.declared.reply.Reply as said
use Rattle.fw_op.specs.declared.start.Start.{Start}
use Rattle.fw_ref.specs.Reference.{Reference, Replied}
use Rattle.fw_trace.specs.declared.Input.{Input}
use Rattle.fw_trace.specs.declared.Told.{Told}
use Rattle.fw_trace.specs.Client as clients
use Rattle.fw_trace.specs.Executor as executors
use Rattle.fw_trace.specs.Filter as filters
use Rattle.fw_trace.specs.Role.{Role}
use Rattle.fw_trace.specs.Run.{Step, agreed_list}
use Rattle.fw_trace.specs.Trace.{crossing, rests_from}
use Rattle.fw_frame.specs.View.{Entry, Frame}
use Rattle.fw_rules.specs.Agree.{Node, new_node, greatest}
use Rattle.fw_rules.specs.Means.{Means}
use Rattle.fw_rules.specs.Roles.{Valued, executor_speech, filter_speech, client_speech}
use Rattle.fw_rules.specs.World.{agreed_frame, in_row}
use Rattle.fw_rules.specs.Toy.{toy_bodies, Lie, Row}
use Rattle.fw_rules.specs.Views.{agree_role}
use Rattle.fw_view_runs.specs.Whole.{toy_world, correct_nodes}
use Rattle.fw_view_choices.specs.Carried.{Carried, Roles, state_at, run}

-- ---- a role whose state is wrapped

abbrev pub wrapped : {S T M : Type 0} → (S → T) → S × List (Seat × M) → T × List (Seat × M)
wrapped wrap next = (wrap next.0, next.1)

abbrev pub wrapped_next : {S T M O : Type 0} → (S → T) → (T → S) → Role S M O → T → Input M O → T × List (Seat × M)
wrapped_next wrap unwrap role x input = wrapped wrap (role.next (unwrap x) input)

abbrev pub wrapped_role : {S T M O : Type 0} → (S → T) → (T → S) → Role S M O → Role T M O
wrapped_role wrap unwrap role = record { start = wrap role.start; next = wrapped_next wrap unwrap role }

-- ---- what a seat of any kind keeps

abbrev pub Executing : Type 0 → Type 0
Executing M = executors.Executor M Entry (List Replied) Reference

pub data Kept (M : Type 0) : Type 0 where
  Agrees : (node : Node) → Kept M
  Executes : (executor : Executing M) → Kept M
  Filters : (filter : filters.Filter M Valued) → Kept M
  Asks : (client : clients.Client Op said.Reply) → Kept M

-- what it keeps as a seat of one kind; of another kind what that begins with
abbrev pub node_in : {M : Type 0} → Kept M → Node
node_in (Agrees x) = x
node_in _ = new_node

abbrev pub executor_in : {M : Type 0} → Executing M → Kept M → Executing M
executor_in start (Executes x) = x
executor_in start _ = start

abbrev pub filter_in : {M : Type 0} → filters.Filter M Valued → Kept M → filters.Filter M Valued
filter_in start (Filters x) = x
filter_in start _ = start

abbrev pub client_in : {M : Type 0} → clients.Client Op said.Reply → Kept M → clients.Client Op said.Reply
client_in start (Asks x) = x
client_in start _ = start

abbrev pub client_at : {M : Type 0} → Means M → ℕ → Role (clients.Client Op said.Reply) M Op
client_at k c = clients.client_role (client_speech k toy_bodies c)

abbrev pub role_at : {M : Type 0} → Means M → List Start → Roles (Kept M) M Op
role_at k starts (Agree i) = wrapped_role Agrees node_in (agree_role (record { own = i; means = k }))
role_at k starts (Exec j) =
    let role = executors.executor_role (executor_speech k toy_bodies starts j) in wrapped_role Executes (executor_in role.start) role
role_at k starts (Filter r c) =
    let role = filters.filter_role (filter_speech k r c) in wrapped_role Filters (filter_in role.start) role
role_at k starts (Client c) = wrapped_role Asks (client_in (client_at k c).start) (client_at k c)

-- ---- what is said of a carried run

abbrev pub Run : Type 0
Run = Carried (Kept Frame) Frame Op

abbrev pub view_of : Means Frame → List Start → Run → ℕ → ℕ
view_of k starts c i = (node_in (state_at (role_at k starts) c (Agree i))).own.view

abbrev pub accepted_by : Means Frame → List Start → Run → ℕ → List (Told said.Reply)
accepted_by k starts c client =
    reverse (client_in (client_at k client).start (state_at (role_at k starts) c (Client client))).accepted

abbrev pub row_of : Means Frame → List Start → List Seat → Run → Row
row_of k starts faulty c = record {
  agreed = map (λ e. map (λ r. (r.client, r.stamp)) e) (agreed_list (λ frame. option_and_then agreed_frame (k.read frame)) c.trace.pool);
  accepted = map (accepted_by k starts c) (numbers_from 0 k.params.clients);
  cross = map (λ r. length (crossing (in_row r) c.trace.pool)) (numbers_from 0 (k.params.h + 1));
  rest = rests_from (toy_world k [] faulty).rules c.trace.log 0 c.trace.pool;
  events = length c.trace.log;
  frames = length c.trace.pool;
}

abbrev pub viewed_row : Means Frame → List Start → List Seat → Run → Row × ℕ
viewed_row k starts faulty c = (row_of k starts faulty c, greatest (map (view_of k starts c) (correct_nodes k.params faulty)))

-- the carried run ends so
abbrev pub CarriedEndsIn : Means Frame → List Start → List Seat → List (Step Op Lie) → ℕ → Row → Type 0
CarriedEndsIn k starts faulty steps view row =
    viewed_row k starts faulty (run (toy_world k starts faulty) (role_at k starts) steps) ≡ (row, view)
