-- What signing with the values of a deal gives.
use Rattle.std.specs.Prelude.{ℕ, ◌≤◌, List, IsTrue}
use Rattle.fw_base.specs.declared.slot.Slot.{Slot}
use Rattle.fw_base.specs.Sizes.{accepted}
use Rattle.fw_base.specs.Places.{slot_fits, last_point}
use Rattle.fw_lamport.specs.Signature.{IsSigned, IsValid}
use Rattle.fw_secret.specs.Dealt.{Origin, slot_values}
use Rattle.fw_directory.specs.Directories.{PlainDirectory, row_at}
use Rattle.fw_deal.specs.Deals.{IsDirectoryOf}

-- for every deal, slot, point and digest: what is signed with the dealt values is valid in the deal's directory
abbrev pub SignedIsValid : Type 0
SignedIsValid =
    (o : Origin) (d : PlainDirectory) (slot : Slot) (point : ℕ) (digest sig : List ℕ) → IsTrue (accepted o.params) → IsDirectoryOf o d → IsTrue (slot_fits o.params slot) → point ≤ last_point o.params slot → IsSigned (slot_values o slot point) digest sig → IsValid (row_at d slot point) slot point digest sig
