-- What is agreed and what is answered, and the queue of their frames.
use Rattle.std.specs.Prelude.{ℕ, ◌≡◌, ◌+◌, ◌&&◌, nat_eq, nat_le, nat_lt, List, map, Option, Some, None, is_some, if◌then◌else◌}
use Rattle.std.specs.List.{find}
use Rattle.std.specs.Option.{option_map}
use Rattle.fw_list.specs.Lists.{numbers_from}
use Rattle.fw_base.specs.declared.params.Params.{Params}
use Rattle.fw_frame.specs.View.{Agrees, Replies}
use Rattle.fw_means.specs.Means.{written}
use Rattle.fw_queue.specs.Backlogs.{Backlog, frame_at}
use Rattle.fw_rules.specs.Agree.{replied_up_to}
use Rattle.fw_owned.specs.declared.owned.OwnedAgreed.{OwnedAgreed}
use Rattle.fw_owned.specs.declared.owned.OwnedReply.{OwnedReply}
use Rattle.fw_owned.specs.Pieces.{agreed_of, reply_of}

-- the sizes of the deployment, what is agreed and the first reply of each number, both with the newest first, and how many numbers have
-- gone up
pub record SettledNumbers : Type 0 where
  pub params : Params
  pub committed : List OwnedAgreed
  pub held : List OwnedReply
  pub up : ℕ

abbrev pub agreed_in : List OwnedAgreed → ℕ → Option OwnedAgreed
agreed_in committed number = find (λ a. nat_eq a.number number) committed

abbrev pub reply_in : List OwnedReply → ℕ → Option OwnedReply
reply_in held number = find (λ r. nat_eq r.number number) held

-- the queue has the frame of each agreed entry, and of each reply
pub record AreQueued (queue : Backlog) (committed : List OwnedAgreed) (held : List OwnedReply) : Type 0 where
  pub agreed : (n : ℕ) → frame_at queue.agreed n ≡ option_map (λ a. written (Agrees (agreed_of a))) (agreed_in committed n)
  pub replies : (n : ℕ) → frame_at queue.replies n ≡ option_map (λ r. written (Replies (reply_of r))) (reply_in held n)

-- the greatest number such that the replies of 1 up to it are held
abbrev pub replied_in : SettledNumbers → ℕ
replied_in s = replied_up_to (map reply_of s.held) 0 (numbers_from 1 s.params.numbers)

-- the number after the last that has gone up, where it is agreed and at most `pipe` above the replies
abbrev pub next_up : SettledNumbers → Option ℕ
next_up s = if is_some (agreed_in s.committed (s.up + 1)) && nat_le (s.up + 1) (replied_in s + s.params.pipe) then Some (s.up + 1) else None

-- the first number without a reply, where it has gone up
abbrev pub again : SettledNumbers → Option ℕ
again s = if nat_lt (replied_in s) s.up then Some (replied_in s + 1) else None
