-- Which frames in memory can be written: those whose lists have fewer than 2 ^ 32 items, since their count has four bytes.
use Rattle.std.specs.Prelude.{◌<◌, ◌^◌, List, length, All}
use Rattle.fw_frame.specs.declared.frame.Proof.{Proof}
use Rattle.fw_frame.specs.declared.frame.Change.{Change}
use Rattle.fw_frame.specs.declared.frame.Frame.{Frame}
use Rattle.fw_frame.specs.declared.frame.Frame.TheVariants as frame

abbrev pub IsCountable : {A : Type 0} → List A → Type 0
IsCountable items = length items < 2 ^ 32

abbrev pub IsWritableProof : Proof → Type 0
IsWritableProof q = IsCountable q.signers

abbrev pub IsWritableChange : Change → Type 0
IsWritableChange c = IsCountable c.proofs × All IsWritableProof c.proofs

abbrev pub IsWritable : Frame → Type 0
IsWritable (frame.Request r) = Unit {0}
IsWritable (frame.Propose view number e sig) = Unit {0}
IsWritable (frame.Vote phase view number agree digest sig) = Unit {0}
IsWritable (frame.Change c) = IsWritableChange c
IsWritable (frame.NewView view changes sig) = IsCountable changes × All IsWritableChange changes
IsWritable (frame.Agreed view number e signers) = IsCountable signers
IsWritable (frame.Share number exec client stamp body shares) = Unit {0}
IsWritable (frame.Reply number client stamp body secrets) = Unit {0}
IsWritable (frame.Want number) = Unit {0}
