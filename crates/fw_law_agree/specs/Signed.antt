-- The texts that a correct seat has signed: those that its rule's votes, view changes, new views and requests name.
use Rattle.std.specs.Prelude.{◌≡◌, ℕ, List}
use Rattle.fw_base.specs.declared.seat.Seat.{Seat}
use Rattle.fw_base.specs.declared.seat.Seat.TheVariants.{Agree, Exec, Filter, Client}
use Rattle.fw_base.specs.declared.slot.Slot.{Slot}
use Rattle.fw_base.specs.declared.slot.Slot.TheVariants as slots
use Rattle.fw_text.specs.Texts.{Text}
use Rattle.fw_op.specs.declared.op.Op.{Op}
use Rattle.fw_op.specs.declared.reply.Reply as said
use Rattle.fw_trace.specs.Trace.{Trace, history}
use Rattle.fw_trace.specs.Role.{kept}
use Rattle.fw_trace.specs.Client as clients
use Rattle.fw_deal.specs.Deals.{hand_of}
use Rattle.fw_node.specs.Histories.{History}
use Rattle.fw_rules.specs.Means.{Means, Bodies}
use Rattle.fw_rules.specs.Signing.{request_text}
use Rattle.fw_rules.specs.Deployed.{means_of, bodies_of}
use Rattle.fw_rules.specs.Roles.{request_of, client_speech}
use Rattle.fw_rules.specs.Agree.{Self}
use Rattle.fw_law_client.specs.Asking.{IsAsked}
use Rattle.fw_law_node.specs.Once.{own_after}
use Rattle.fw_law_node.specs.Sources.{Names}
use Rattle.fw_fair.specs.Hostile.{Hostile}

-- what a seat's rule works with
abbrev pub means_at : Hostile → Seat → Means (List ℕ)
means_at w seat = means_of w.directory (hand_of w.deal seat)

abbrev pub bodies_at : Hostile → Seat → Bodies
bodies_at w seat = bodies_of (hand_of w.deal seat)

abbrev pub node_at : Hostile → ℕ → Self (List ℕ)
node_at w i = record { own = i; means = means_at w (Agree i) }

-- what a client keeps after a history
abbrev pub client_after : Hostile → ℕ → History → clients.Client Op said.Reply
client_after w c h = kept (clients.client_role (client_speech (means_at w (Client c)) (bodies_at w (Client c)) c)) h

-- at the slot of a stamp that the client asked, the text of its request
pub record HasAsked (w : Hostile) (c : ℕ) (h : History) (slot : Slot) (text : Text) : Type 0 where
  pub stamp : ℕ
  pub op : Op
  pub asked : IsAsked (client_after w c h) stamp op
  pub at : slot ≡ slots.Request c stamp
  pub is : text ≡ request_text (request_of (means_at w (Client c)) (bodies_at w (Client c)) c stamp op)

-- after a history a seat has signed a text at a slot of its own
abbrev pub SignedBy : Hostile → Seat → History → Slot → Text → Type 0
SignedBy w (Agree i) h slot text = Names (node_at w i) (own_after (node_at w i) h) slot text
SignedBy w (Client c) h slot text = HasAsked w c h slot text
SignedBy w (Exec j) h slot text = ⊥
SignedBy w (Filter r c) h slot text = ⊥

-- after a trace
abbrev pub Signed : Hostile → Trace (List ℕ) Op → Seat → Slot → Text → Type 0
Signed w t seat slot text = SignedBy w seat (history seat t.log) slot text
