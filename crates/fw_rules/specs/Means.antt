-- What the rules need of digests, secrets, bodies and frames. A rule is a function of these and of a history.
use Rattle.std.specs.Prelude.{ℕ, List, Option}
use Rattle.fw_base.specs.declared.params.Params.{Params}
use Rattle.fw_base.specs.declared.slot.Slot.{Slot}
use Rattle.fw_text.specs.Texts.{Text, Hash}
use Rattle.fw_op.specs.declared.op.Op.{Op}
use Rattle.fw_op.specs.declared.reply.Reply.{Reply}
use Rattle.fw_frame.specs.View.{Frame}

-- hash: the digest of a text. sign: the values of a slot at a point on a text's digest, by the hand's secrets. join: a reply's
-- values at point 0, from values at points. read: the valid frame that a message is. write: its spelling
pub record Means (M : Type 0) : Type 0 where
  pub params : Params
  pub hash : Hash
  pub sign : Slot → ℕ → Text → List ℕ
  pub join : List (ℕ × List ℕ) → List ℕ
  pub read : M → Option Frame
  pub write : Frame → M

-- how operations and replies are sealed into bodies, and opened: by client, and by stamp or number
pub record Bodies : Type 0 where
  pub seal_op : ℕ → ℕ → Op → List ℕ
  pub open_op : ℕ → ℕ → List ℕ → Option Op
  pub seal_reply : ℕ → ℕ → Reply → List ℕ
  pub open_reply : ℕ → ℕ → List ℕ → Option Reply
