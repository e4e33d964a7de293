-- Each place of a deployment has its digest within the directory.
use Rattle.std.proofs.Common.{ℕ, ◌+◌, ◌*◌, ◌/◌, ◌%◌, ◌<◌, ◌≤◌, arith, length, IsTrue, nat_le}
use Rattle.std.proofs.lemmas.Bool.{lt-ltb, le-leb, and_from}
use Rattle.fw_list.specs.declared.limits.TheConstants.{ROW_LEN}
use Rattle.fw_base.specs.declared.params.Params.{Params}
use Rattle.fw_base.specs.declared.slot.Slot.{Slot}
use Rattle.fw_base.specs.declared.slot.Place.{Place}
use Rattle.fw_base.specs.Places.{slot_fits, last_point, place_fits, row_index, place_index}
use Rattle.fw_base.proofs.Placing.{row_below, fitting}
use Rattle.fw_lamport.specs.Signature.{place_at}
use Rattle.fw_directory.specs.Directories.{PlainDirectory, IsDirectory, rows}

-- a digest of 32 bytes within a row of 512, and a whole row
digest_in_rows : (row bit side all : ℕ) → row < all → bit < 256 → side < 2 → 32 * (row * 512 + 2 * bit + side) + 32 ≤ 16384 * all
digest_in_rows row bit side all less b s = omega arith

row_in_rows : (row all : ℕ) → row < all → 32 * (row * 512) + 16384 ≤ 16384 * all
row_in_rows row all less = omega arith

place_in_rows : (row bit side all : ℕ) → row < all → bit < 256 → side < 2 → row * 512 + 2 * bit + side < 512 * all
place_in_rows row bit side all less b s = omega arith

-- each place has an index below 512 for each row
pub place_below : (p : Params) (place : Place) → IsTrue (place_fits p place) → place_index p place < 512 * rows p
place_below p place fits =
    let f = fitting p place fits in
    place_in_rows (row_index p place.slot place.point) place.bit place.side (rows p) (row_below p place.slot place.point f.slot f.point) f.bit f.side

-- each place's digest is within the directory
pub digest_inside : (d : PlainDirectory) (place : Place) → IsDirectory d → IsTrue (place_fits d.params place) → 32 * place_index d.params place + 32 ≤ length d.digests
digest_inside d place whole fits =
    let f = fitting d.params place fits in
    rw whole.whole (digest_in_rows (row_index d.params place.slot place.point) place.bit place.side (rows d.params) (row_below d.params place.slot place.point f.slot f.point) f.bit f.side)

-- and so are all 512 of a slot at a point
pub row_inside : (d : PlainDirectory) (slot : Slot) (point : ℕ) → IsDirectory d → IsTrue (slot_fits d.params slot) → point ≤ last_point d.params slot → 32 * place_index d.params (place_at slot point 0) + ROW_LEN ≤ length d.digests
row_inside d slot point whole fits at =
    let inside = row_in_rows (row_index d.params slot point) (rows d.params) (row_below d.params slot point fits at) in
    rw whole.whole (first (row_index d.params slot point) (rows d.params) inside)
  where
    first : (row all : ℕ) → 32 * (row * 512) + 16384 ≤ 16384 * all → 32 * (row * 512 + 2 * 0 + 0) + 16384 ≤ 16384 * all
    first row all inside = omega arith

-- the places of a slot at a point are places of the deployment
pub place_at-fits : (p : Params) (slot : Slot) (point k : ℕ) → IsTrue (slot_fits p slot) → point ≤ last_point p slot → k < 512 → IsTrue (place_fits p (place_at slot point k))
place_at-fits p slot point k fits at small =
    let bit : k / 2 < 256 = omega arith in
    let side : k % 2 < 2 = omega arith in
    and_from _ _ (and_from _ _ (and_from _ _ fits (lt-ltb (k / 2) 256 bit)) (lt-ltb (k % 2) 2 side)) (and_from (nat_le 0 point) (nat_le point (last_point p slot)) (le-leb 0 point (omega arith)) (le-leb point (last_point p slot) at))
