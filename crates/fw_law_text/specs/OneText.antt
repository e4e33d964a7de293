-- Which texts their spelling tells apart: those whose numbers fit in four bytes and whose listed digests have 32. What stands
-- at the end of a text may have any length.
use Rattle.std.specs.Prelude.{◌≡◌, ℕ, ◌^◌, Bool, true, ◌&&◌, nat_eq, nat_lt, nat_le, List, [], ◌∷◌, length, IsTrue}
use Rattle.std.specs.List.{list_all}
use Rattle.fw_base.specs.declared.slot.Place.{Place}
use Rattle.fw_base.specs.Places.{slot_name}
use Rattle.fw_text.specs.Texts.{Text, Value, Asked, Nothing, Voted, Changed, Begun, Answered, Listed, Heading, text_bytes}

-- a number that four bytes hold
abbrev pub number_fits : ℕ → Bool
number_fits n = nat_lt n (2 ^ 32)

-- a digest of SHA-256 has 32 bytes
abbrev pub digest_fits : List ℕ → Bool
digest_fits digest = nat_eq (length digest) 32

-- the numbers that the text of a place spells beside its slot's kind
abbrev pub place_numbers : Place → List ℕ
place_numbers place =
    let name = slot_name place.slot in
    name.a ∷ name.b ∷ name.c ∷ place.bit ∷ place.side ∷ place.point ∷ []

abbrev pub listed_fits : Listed → Bool
listed_fits l = number_fits l.view && number_fits l.number && digest_fits l.digest

abbrev pub heading_fits : Heading → Bool
heading_fits h = number_fits h.agree && digest_fits h.digest

-- of a vote the phase is 0 or 1
abbrev pub text_fits : Text → Bool
text_fits (Value place value) = list_all number_fits (place_numbers place)
text_fits (Asked client stamp body) = number_fits client && number_fits stamp
text_fits Nothing = true
text_fits (Voted phase view number digest) = nat_le phase 1 && number_fits view && number_fits number
text_fits (Changed view agree proofs) = number_fits view && number_fits agree && number_fits (length proofs) && list_all listed_fits proofs
text_fits (Begun view changes) = number_fits view && number_fits (length changes) && list_all heading_fits changes
text_fits (Answered number client stamp body) = number_fits number && number_fits client && number_fits stamp

-- two texts that fit and have the same bytes are the same text
abbrev pub OneText : Type 0
OneText = (one other : Text) → IsTrue (text_fits one) → IsTrue (text_fits other) → text_bytes one ≡ text_bytes other → one ≡ other
