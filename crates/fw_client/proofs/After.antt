-- What a client keeps and sends after one more input of a history.
use Rattle.std.proofs.Common.{◌≡◌, Bool, ◌∷◌, ap, sym, ◌∙◌}
use Rattle.fw_op.specs.declared.op.Op.{Op}
use Rattle.fw_op.specs.declared.reply.Reply.{Reply}
use Rattle.fw_trace.specs.Client as clients
use Rattle.fw_trace.specs.Role.{kept, sends}
use Rattle.fw_node.specs.Histories.{Taken, History}
use Rattle.fw_client.specs.Kept.{Speech, after, sent_of}

pub stands_more : (sp : Speech) (old new : clients.Client Op Reply) (asks : Bool) (h : History) (i : Taken) → clients.client_next sp old i ≡ after asks sp new → old ≡ kept (clients.client_role sp) h → new ≡ kept (clients.client_role sp) (i ∷ h)
stands_more sp old new asks h i step stands = sym (ap (λ r. r.0) step) ∙ ap (λ k. (clients.client_next sp k i).0) stands

pub sent_more : (sp : Speech) (old new : clients.Client Op Reply) (asks : Bool) (h : History) (i : Taken) → clients.client_next sp old i ≡ after asks sp new → old ≡ kept (clients.client_role sp) h → sent_of asks sp new ≡ sends (clients.client_role sp) (i ∷ h)
sent_more sp old new asks h i step stands = sym (ap (λ r. r.1) step) ∙ ap (λ k. (clients.client_next sp k i).1) stands
