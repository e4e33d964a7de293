-- What is agreed and what is answered, number by number, and how far it has gone.
use Rattle.std.specs.Prelude.{ℕ, Bool, not, ◌&&◌, ◌+◌, nat_eq, nat_lt, nat_le, List, [], ◌∷◌, Option, Some, None, is_some, if◌then◌else◌}
use Rattle.std.specs.List.{find}
use Rattle.std.specs.Option.{option_map}
use Rattle.fw_list.specs.Lists.{numbers_from}
use Rattle.fw_base.specs.declared.params.Params.{Params}
use Rattle.fw_queue.specs.declared.queue.KeptFrame.{KeptFrame}

-- a frame of a number
pub record Numbered : Type 0 where
  pub number : ℕ
  pub frame : List ℕ

-- the sizes of the deployment, the agreed frames and the replies, and the last number that is gone (0 where none is)
pub record Backlog : Type 0 where
  pub params : Params
  pub agreed : List Numbered
  pub replies : List Numbered
  pub gone : ℕ

-- the first frame of a number
abbrev pub frame_at : List Numbered → ℕ → Option (List ℕ)
frame_at frames n = option_map (λ k. k.frame) (find (λ k. nat_eq k.number n) frames)

-- the last of a list of numbers up to which each has something, or the one before the list
abbrev pub up_to : (ℕ → Bool) → ℕ → List ℕ → ℕ
up_to has so_far [] = so_far
up_to has so_far (n ∷ ns) = if has n then up_to has n ns else so_far

-- the greatest number such that replies of 1 up to it were added
abbrev pub replied : Backlog → ℕ
replied q = up_to (λ n. is_some (frame_at q.replies n)) 0 (numbers_from 1 q.params.numbers)

-- the number after the last that is gone, where it is agreed and at most `pipe` above the replies
abbrev pub ready : Backlog → Option ℕ
ready q =
    if is_some (frame_at q.agreed (q.gone + 1)) && nat_le (q.gone + 1) (replied q + q.params.pipe) then Some (q.gone + 1) else None

-- the first number without a reply, where it has gone
abbrev pub again : Backlog → Option ℕ
again q = if nat_lt (replied q) q.gone then Some (replied q + 1) else None

-- the frame of a number, after one was added: the first stays
abbrev pub frame_with : List Numbered → ℕ → List ℕ → ℕ → Option (List ℕ)
frame_with frames number frame n = if nat_eq number n && not (is_some (frame_at frames n)) then Some frame else frame_at frames n

-- a frame as it is kept
abbrev pub numbered : KeptFrame → Numbered
numbered k = record { number = k.number; frame = k.frame }
