-- The newest request is sent.
use Rattle.std.proofs.Common.{◌≡◌, ℕ, List, ◌∷◌, ◌++◌, sym, ap, ◌∙◌}
use Rattle.fw_base.specs.declared.seat.Seat.{Seat}
use Rattle.fw_op.specs.declared.op.Op.{Op}
use Rattle.fw_trace.specs.Client as clients
use Rattle.fw_client.specs.Kept.{Speech, asking}

-- the newest request is sent
pub newest_sent : (sp : Speech) (asked rest : List Op) (op : Op) (n stamp : ℕ) (bytes : List ℕ) (old new : List (Seat × List ℕ)) (to : List Seat) → asked ≡ op ∷ rest → stamp ≡ n → bytes ≡ sp.request stamp op → to ≡ sp.to → new ≡ old ++ clients.to_all to bytes → new ≡ old ++ asking sp n asked
newest_sent sp asked rest op n stamp bytes old new to first same request tos sent =
    sent ∙ ap (λ t. old ++ clients.to_all t bytes) tos ∙ ap (λ b. old ++ clients.to_all sp.to b) (request ∙ ap (λ k. sp.request k op) same)
    ∙ ap (λ l. old ++ asking sp n l) (sym first)
