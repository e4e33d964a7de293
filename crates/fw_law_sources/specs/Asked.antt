-- The signatures of a client: those of its requests.
use Rattle.std.specs.Prelude.{ℕ, ◌≡◌, List}
use Rattle.fw_base.specs.declared.slot.Slot.TheVariants as slots
use Rattle.fw_op.specs.declared.op.Op.{Op}
use Rattle.fw_trace.specs.declared.Input.{Input}
use Rattle.fw_trace.specs.Role.{kept}
use Rattle.fw_trace.specs.Client.{client_role}
use Rattle.fw_frame.specs.Parts.{Part}
use Rattle.fw_rules.specs.Means.{Means, Bodies}
use Rattle.fw_rules.specs.Signing.{request_text}
use Rattle.fw_rules.specs.Roles.{request_of, client_speech}
use Rattle.fw_law_client.specs.Asking.{IsAsked}

-- the signature of the request of stamp s
abbrev pub request_part : {M : Type 0} → Means M → Bodies → ℕ → ℕ → Op → Part
request_part k b c s op =
    let text = request_text (request_of k b c s op) in
    record { slot = slots.Request c s; point = 0; text = text; values = k.sign (slots.Request c s) 0 text }

-- it is that of the request of an operation that the client asked
pub record IsOwnRequest {M : Type 0} (k : Means M) (b : Bodies) (c : ℕ) (h : List (Input M Op)) (part : Part) : Type 0 where
  pub stamp : ℕ
  pub op : Op
  pub asked : IsAsked (kept (client_role (client_speech k b c)) h) stamp op
  pub is : part ≡ request_part k b c stamp op
