-- What signs a text by the values of a deal, at any point of any slot.
use Rattle.std.specs.Prelude.{ℕ, List, flat_map}
use Rattle.fw_list.specs.Lists.{numbers_from}
use Rattle.fw_base.specs.declared.slot.Slot.{Slot}
use Rattle.fw_text.specs.Texts.{Text, hash}
use Rattle.fw_text.specs.Bits.{place_on}
use Rattle.fw_secret.specs.Dealt.{Origin, dealt}

-- the dealt value on the side of a bit of a digest
abbrev pub value_on : Origin → Slot → ℕ → List ℕ → ℕ → List ℕ
value_on o slot point digest b = dealt o (place_on slot point digest b)

-- those of all bits in turn
unfoldable pub values_for : Origin → Slot → ℕ → List ℕ → List ℕ
values_for o slot point digest = flat_map (value_on o slot point digest) (numbers_from 0 256)

abbrev pub signature_of : Origin → Slot → ℕ → Text → List ℕ
signature_of o slot point text = values_for o slot point (hash text)
