-- The replies that can be opened.
use Rattle.std.specs.Prelude.{◌≡◌, ◌<◌, ◌^◌, length, All}
use Rattle.fw_list.specs.declared.limits.TheConstants.{BODY_LEN}
use Rattle.fw_frame.specs.View.{Frame, Replies}

-- a reply has a number below 2 ^ 31, and bodies of `BODY_LEN` bytes
abbrev pub IsOpenable : Frame → Type 0
IsOpenable (Replies r) = (r.number < 2 ^ 31) × All (λ g. length g.body ≡ BODY_LEN) r.answers
IsOpenable _ = Unit {0}
