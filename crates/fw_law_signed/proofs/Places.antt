-- What is signed with dealt values has, value by value, the digests of the directory.
use Rattle.std.proofs.Common.{ℕ, ◌+◌, ◌*◌, ◌/◌, ◌%◌, ◌<◌, ◌≤◌, ◌≡◌, ◌∙◌, sym, ap, arith, List, IsTrue}
use Rattle.fw_base.specs.declared.slot.Slot.{Slot}
use Rattle.fw_base.specs.declared.slot.Place.{Place}
use Rattle.fw_base.specs.Places.{slot_fits, last_point}
use Rattle.fw_text.specs.Bits.{bit_of, place_on, value_at}
use Rattle.fw_text.specs.Texts.{hash, Value}
use Rattle.fw_lamport.specs.Signature.{place_at, side_of, IsSigned, IsValid}
use Rattle.fw_secret.specs.Dealt.{Origin, dealt, slot_values}
use Rattle.fw_secret.proofs.Secrets.{dealt_at}
use Rattle.fw_directory.specs.Directories.{PlainDirectory, row_at}
use Rattle.fw_directory.proofs.Bounds.{place_at-fits}
use Rattle.fw_directory.proofs.Rows.{value_at-row_at}
use Rattle.fw_deal.specs.Deals.{IsDirectoryOf}

bit-below : (n : ℕ) → n % 2 < 2
bit-below n = omega arith

half : (b side : ℕ) → side < 2 → (2 * b + side) / 2 ≡ b
half b side small = omega arith

rest : (b side : ℕ) → side < 2 → (2 * b + side) % 2 ≡ side
rest b side small = omega arith

abbrev made : Slot → ℕ → ℕ → ℕ → Place
made slot bit side point = record { slot = slot; bit = bit; side = side; point = point }

-- the place on a bit's side is the one at its place among the 512
place_on-side : (slot : Slot) (point : ℕ) (digest : List ℕ) (b : ℕ) → place_at slot point (side_of digest b) ≡ place_on slot point digest b
place_on-side slot point digest b =
    let small : bit_of digest b < 2 = bit-below _ in
    ap (λ x. made slot x ((2 * b + bit_of digest b) % 2) point) (half b (bit_of digest b) small)
    ∙ ap (λ x. made slot b x point) (rest b (bit_of digest b) small)

side-below : (b side : ℕ) → b < 256 → side < 2 → 2 * b + side < 512
side-below b side low small = omega arith

pub signed_is_valid : (o : Origin) (d : PlainDirectory) (slot : Slot) (point : ℕ) (digest sig : List ℕ) → IsDirectoryOf o d → IsTrue (slot_fits o.params slot) → point ≤ last_point o.params slot → IsSigned (slot_values o slot point) digest sig → IsValid (row_at d slot point) slot point digest sig
signed_is_valid o d slot point digest sig deal fits at signed = λ b low.
    let small : bit_of digest b < 2 = bit-below _ in
    let k : ℕ = side_of digest b in
    let below : k < 512 = side-below b (bit_of digest b) low small in
    let value : value_at sig b ≡ dealt o (place_at slot point k) = signed b low ∙ dealt_at o slot point k below in
    let place : place_at slot point k ≡ place_on slot point digest b = place_on-side slot point digest b in
    let listed : value_at (row_at d slot point) k ≡ hash (Value (place_at slot point k) (dealt o (place_at slot point k))) =
    value_at-row_at d slot point k below ∙ deal.each (place_at slot point k) (place_at-fits o.params slot point k fits at below) in
    ap (λ v. hash (Value (place_on slot point digest b) v)) value
    ∙ ap (λ z. hash (Value z (dealt o (place_at slot point k)))) (sym place)
    ∙ sym listed
