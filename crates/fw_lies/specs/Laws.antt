-- What holds of each lie that is made.
use Rattle.std.specs.Prelude.{◌≡◌, IfSome}
use Rattle.std.specs.List.{All}
use Rattle.fw_base.specs.declared.seat.Seat.{Seat}
use Rattle.fw_text.specs.Texts.{hash}
use Rattle.fw_step.specs.declared.step.Lie.{Lie}
use Rattle.fw_secret.specs.Dealt.{Origin}
use Rattle.fw_frame.specs.Parts.{Part, parts}
use Rattle.fw_lies.specs.Signing.{signature_of}
use Rattle.fw_lies.specs.Lying.{lie_frame}

-- a signature or a list of shares has the dealt values of its slot, at its point, on the sides of the digest of its text
abbrev pub HasDealt : Origin → Part → Type 0
HasDealt o part = part.values ≡ signature_of o part.slot part.point part.text

-- each in the frame of a lie has them, by the very slots, points and texts by which a frame is checked
abbrev pub LiesAreSigned : Type 0
LiesAreSigned = (o : Origin) (from : Seat) (lie : Lie) → IfSome (lie_frame o from lie) (λ frame. All (HasDealt o) (parts o.params hash frame))
