-- A node goes by the rule of its hand.
use Rattle.std.proofs.Common.{◌≡◌, sym, ap, ◌∙◌}
use Rattle.std.specs.Prelude.{Result, Ok, Err, IfOk}
use Rattle.fw_base.specs.declared.seat.Seat.TheVariants as seats
use Rattle.fw_trace.specs.Role.{sends}
use Rattle.fw_trace.specs.Client.{client_role}
use Rattle.fw_trace.specs.Executor.{executor_role}
use Rattle.fw_trace.specs.Filter.{filter_role}
use Rattle.fw_directory.specs.Directories.{PlainDirectory}
use Rattle.fw_hand.specs.Hands.{PlainHand}
use Rattle.fw_node.specs.Histories.{History, Out}
use Rattle.fw_rules.specs.Views.{agree_role}
use Rattle.fw_rules.specs.Deployed.{means_of, bodies_of, rule_by}
use Rattle.fw_rules.specs.Roles as roles
use Rattle.fw_kept.specs.Kept.{self_of}
use Rattle.fw_agree.specs.Standing as agreeing
use Rattle.fw_exec.specs.Standing as executing
use Rattle.fw_filter.specs.Standing as filtering
use Rattle.fw_client.specs.Standing as asking

pub agree_goes : (node : agreeing.Agreer) (hand : PlainHand) (d : PlainDirectory) (h : History) → node.hand ≡ hand → node.own ≡ agreeing.number_of hand.seat → hand.seat ≡ seats.Agree (agreeing.number_of hand.seat) → agreeing.rule_of node d h ≡ rule_by d hand h
agree_goes node hand d h is number seat =
    ap (λ k. sends (agree_role (self_of d node.hand k)) h) number
    ∙ ap (λ own. sends (agree_role (self_of d own (agreeing.number_of hand.seat))) h) is
    ∙ ap (λ s. roles.rule_of (means_of d hand) (bodies_of hand) hand.starts s h) (sym seat)

pub exec_goes : (node : executing.Executing) (hand : PlainHand) (d : PlainDirectory) (h : History) → node.hand ≡ hand → node.exec ≡ executing.number_of hand.seat → hand.seat ≡ seats.Exec (executing.number_of hand.seat) → executing.rule_of node d h ≡ rule_by d hand h
exec_goes node hand d h is number seat =
    ap (λ k. sends (executor_role (executing.speech_of k node.hand d)) h) number
    ∙ ap (λ own. sends (executor_role (executing.speech_of (executing.number_of hand.seat) own d)) h) is
    ∙ ap (λ s. roles.rule_of (means_of d hand) (bodies_of hand) hand.starts s h) (sym seat)

pub filter_goes : (node : filtering.Sifter) (hand : PlainHand) (d : PlainDirectory) (h : History) → node.hand ≡ hand → node.row ≡ filtering.row_in hand.seat → node.column ≡ filtering.column_in hand.seat → hand.seat ≡ seats.Filter (filtering.row_in hand.seat) (filtering.column_in hand.seat)
    → filtering.rule_of node d h ≡ rule_by d hand h
filter_goes node hand d h is row column seat =
    ap (λ r. sends (filter_role (filtering.speech_of r node.column node.hand d)) h) row
    ∙ ap (λ k. sends (filter_role (filtering.speech_of (filtering.row_in hand.seat) k node.hand d)) h) column
    ∙ ap (λ own. sends (filter_role (filtering.speech_of (filtering.row_in hand.seat) (filtering.column_in hand.seat) own d)) h) is
    ∙ ap (λ s. roles.rule_of (means_of d hand) (bodies_of hand) hand.starts s h) (sym seat)

pub client_goes : (node : asking.Asker) (hand : PlainHand) (d : PlainDirectory) (h : History) → node.hand ≡ hand → node.client ≡ asking.number_of hand.seat → hand.seat ≡ seats.Client (asking.number_of hand.seat) → asking.rule_of node d h ≡ rule_by d hand h
client_goes node hand d h is number seat =
    ap (λ k. sends (client_role (asking.speech_of k node.hand d)) h) number
    ∙ ap (λ own. sends (client_role (asking.speech_of (asking.number_of hand.seat) own d)) h) is
    ∙ ap (λ s. roles.rule_of (means_of d hand) (bodies_of hand) hand.starts s h) (sym seat)

-- what was sent is what the rule of the hand says
pub out_of : {E : Type 0} (r : Result Out E) (S : Type 0) (own rule : Out) → S → own ≡ rule → IfOk r (λ out. S → out ≡ own) → IfOk r (λ out. out ≡ rule)
out_of (Ok out) S own rule stands same sent = sent stands ∙ same
out_of (Err e) S own rule stands same sent = tt
