-- The bytes of a null reply.
use Rattle.std.proofs.Common.{◌≡◌, ℕ, List, replicate, None, refl}
use Rattle.fw_list.specs.declared.limits.TheConstants.{BODY_LEN}
use Rattle.fw_frame.specs.Frames as frames
use Rattle.fw_frame.specs.Spelling.{frame_bytes}
use Rattle.fw_frame.specs.View.{Replies, null_body}
use Rattle.fw_means.specs.Means.{written}
use Rattle.fw_share.specs.Shares.{answers_of}

pub null-written : (number : ℕ) (secrets : List ℕ) → frame_bytes (frames.Reply number 0 0 (replicate BODY_LEN 0) secrets) ≡ written (Replies (record { number = number; answers = answers_of None; values = secrets }))
unfolding null_body
null-written number secrets = refl
