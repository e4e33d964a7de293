-- A valid signature shows the place of each bit of its text's digest. So the digest is that of the text which the owner signed; both texts
-- are kept, so they are one.
use Rattle.std.proofs.Common.{ℕ, ◌+◌, ◌*◌, ◌/◌, ◌%◌, ◌<◌, ◌≡◌, true, List, sym, ◌∙◌, ap, subst, arith, Option, Some, None, IsTrue, refl}
use Rattle.std.specs.Prelude.{option_and_then, bytes_eq}
use Rattle.std.proofs.lemmas.Option.{none-some, same_Some}
use Rattle.fw_list.specs.Lists.{numbers_from}
use Rattle.fw_base.specs.declared.seat.Seat.{Seat}
use Rattle.fw_base.specs.declared.slot.Slot.{Slot}
use Rattle.fw_base.specs.declared.slot.Place.{Place}
use Rattle.fw_text.specs.Texts.{Text, hash, Value}
use Rattle.fw_text.specs.Bits.{bit_of, place_on, value_at}
use Rattle.fw_op.specs.declared.op.Op.{Op}
use Rattle.fw_trace.specs.declared.Sent.{Sent}
use Rattle.fw_trace.specs.Lists.{In}
use Rattle.fw_trace.specs.Trace.{Event, history}
use Rattle.fw_lamport.specs.Signature.{place_at, side_of}
use Rattle.fw_frame.specs.Frames.{PlainFrame}
use Rattle.fw_frame.specs.Parts.{Part, PlainPart, parts, with_digest, digested, digested_parts, shown_at, shown_of}
use Rattle.fw_frame.specs.Ranges.{frame_fits}
use Rattle.fw_frame.specs.View.{Frame, viewed, plain_of}
use Rattle.fw_frame.specs.Undoing.{frame_in}
use Rattle.fw_frame.proofs.Undoing.{frame_in-only}
use Rattle.fw_frame.proofs.View.{plain_of-viewed}
use Rattle.fw_directory.specs.Directories.{PlainDirectory, digest_at, row_at}
use Rattle.fw_directory.proofs.Rows.{value_at-row_at}
use Rattle.fw_means.specs.Means.{is_listed, is_valid_part, is_valid, if_valid, valid_in}
use Rattle.fw_valid.specs.Validity.{is_shown}
use Rattle.fw_law_text.specs.ByBits.{HaveSameBits}
use Rattle.fw_law_text.proofs.OneText.{one_text}
use Rattle.fw_law_text.proofs.ByBits.{fixed_by_bits}
use Rattle.fw_law_text.proofs.Digests.{hash_is_digest}
use Rattle.fw_law_words.proofs.Tests.{when-some}
use Rattle.fw_law_words.proofs.Lists.{numbers-In}
use Rattle.fw_law_frames.proofs.Lists.{all_at}
use Rattle.fw_fair.specs.Showing.{kept_in}
use Rattle.fw_fair.specs.Faults.{kept}
use Rattle.fw_fair.specs.Hostile.{Hostile}
use Rattle.fw_law_agree.specs.Runs.{FairRun, trace_after}
use Rattle.fw_law_agree.specs.Signed.{Signed}
use Rattle.fw_law_agree.specs.OneSignature.{IsOwned, Shows}
use Rattle.fw_law_agree.specs.Genuine.{IsPooledPart, Genuine}
use Rattle.fw_law_agree.proofs.Listed.{flat-In, map-In}
use Rattle.fw_law_agree.proofs.Once.{signed_once}
use Rattle.fw_law_agree.proofs.Showing.{IsOf, shows_again, keeps_text}
use Rattle.fw_law_agree.proofs.Fitting.{are_few, part_fits}
use Rattle.fw_law_agree.proofs.Apart.{kept_apart}
use Rattle.fw_law_agree.proofs.Releasing.{IsReleased}
use Rattle.fw_law_agree.proofs.OneSignature.{shown_released}

-- ---- what a valid frame shows

pub record IsValidRead (d : PlainDirectory) (bytes : List ℕ) (v : Frame) : Type 0 where
  pub read : frame_in d.params bytes ≡ Some (plain_of v)
  pub valid : is_valid d (plain_of v) ≡ true
  pub fits : IsTrue (frame_fits d.params (plain_of v))

valid_read : (d : PlainDirectory) (bytes : List ℕ) (v : Frame) → valid_in d bytes ≡ Some v → IsValidRead d bytes v
valid_read d bytes v e = by (frame_in d.params bytes) refl e
  where
    by : (o : Option PlainFrame) → frame_in d.params bytes ≡ o → option_and_then (if_valid d) o ≡ Some v → IsValidRead d bytes v
    by None q h = absurd (none-some v h)
    by (Some f) q h =
        let fit = (frame_in-only d.params bytes f q).fits in
        let w = when-some (is_valid d f) (Some (viewed f)) v h in
        let same : f ≡ plain_of v = sym (plain_of-viewed d.params f fit) ∙ ap plain_of (same_Some (viewed f) v w.1) in
        record {
          read = q ∙ ap (λ (g : PlainFrame). Some g) same;
          valid = subst (λ (g : PlainFrame). is_valid d g ≡ true) same w.0;
          fits = subst (λ (g : PlainFrame). IsTrue (frame_fits d.params g)) same fit;
        }

bit_small : (n : ℕ) → n % 2 < 2
bit_small n = omega arith

half : (b side : ℕ) → side < 2 → (2 * b + side) / 2 ≡ b
half b side small = omega arith

rest : (b side : ℕ) → side < 2 → (2 * b + side) % 2 ≡ side
rest b side small = omega arith

side_below : (b side : ℕ) → b < 256 → side < 2 → 2 * b + side < 512
side_below b side low small = omega arith

abbrev made : Slot → ℕ → ℕ → ℕ → Place
made slot bit side point = record { slot = slot; bit = bit; side = side; point = point }

side_place : (slot : Slot) (point : ℕ) (digest : List ℕ) (b : ℕ) → place_at slot point (side_of digest b) ≡ place_on slot point digest b
side_place slot point digest b =
    let small : bit_of digest b < 2 = bit_small _ in
    ap (λ x. made slot x ((2 * b + bit_of digest b) % 2) point) (half b (bit_of digest b) small)
    ∙ ap (λ x. made slot b x point) (rest b (bit_of digest b) small)

listed_digest : (d : PlainDirectory) (slot : Slot) (point : ℕ) (digest : List ℕ) (b : ℕ) → b < 256 → value_at (row_at d slot point) (side_of digest b) ≡ digest_at d (place_on slot point digest b)
listed_digest d slot point digest b low =
    value_at-row_at d slot point (side_of digest b) (side_below b (bit_of digest b) low (bit_small _)) ∙ ap (λ (z : Place). digest_at d z) (side_place slot point digest b)

bit_shown : (d : PlainDirectory) (part : PlainPart) → is_valid_part d part ≡ true → (b : ℕ) → b < 256 → is_shown d (shown_at part b) ≡ true
bit_shown d part valid b low =
    let listed : is_listed d part b ≡ true = all_at (is_listed d part) (numbers_from 0 256) b valid (numbers-In b 0 256 (omega arith) (omega (arith, low))) in
    subst (λ (digest : List ℕ). bytes_eq (hash (Value (place_on part.slot part.point part.digest b) (value_at part.values b))) digest ≡ true) (listed_digest d part.slot part.point part.digest b low) listed

bit_of_part : (d : PlainDirectory) (part : Part) → is_valid_part d (digested hash part) ≡ true → (b : ℕ) → b < 256 → IsOf d (shown_at (digested hash part) b) part
unfolding shown_of
bit_of_part d part valid b low =
    (map-In (shown_at (digested hash part)) (numbers_from 0 256) b (numbers-In b 0 256 (omega arith) (omega (arith, low))), bit_shown d (digested hash part) valid b low)

part_shows : (d : PlainDirectory) (bytes : List ℕ) (v : Frame) → IsValidRead d bytes v → (part : Part) → In part (parts d.params hash (plain_of v)) → (b : ℕ) → b < 256 → Shows d bytes (place_on part.slot part.point (hash part.text) b)
part_shows d bytes v r part among b low =
    let valid = all_at (is_valid_part d) (digested_parts d.params hash (plain_of v)) (digested hash part) r.valid (map-In (digested hash) (parts d.params hash (plain_of v)) part among) in
    (shown_at (digested hash part) b, shows_again d bytes (plain_of v) (shown_at (digested hash part) b) part r.read among (bit_of_part d part valid b low), refl)

-- ---- whose it is

module _ (w : Hostile) (events : List (Event (List ℕ) Op)) (run : FairRun w events) (part : Part) (seat : Seat) (owned : IsOwned w part.slot seat) (at : IsPooledPart w (trace_after w events) part) where
  it_reads : IsValidRead w.directory at.sent.message at.frame
  it_reads = valid_read w.directory at.sent.message at.frame at.read

  released : (b : ℕ) → b < 256 → IsReleased w (trace_after w events) seat (place_on part.slot part.point (hash part.text) b)
  released b low =
      shown_released w events run (place_on part.slot part.point (hash part.text) b) (at.sent, at.pooled, part_shows w.directory at.sent.message at.frame it_reads part at.among b low) seat owned

  first : IsReleased w (trace_after w events) seat (place_on part.slot part.point (hash part.text) 0)
  first = released 0 (omega arith)

  same_bits : HaveSameBits (hash part.text) (hash first.on.text)
  same_bits b low =
      let one = released b low in
      one.on.side ∙ ap (λ (text : Text). bit_of (hash text) b) (signed_once w seat (history seat (trace_after w events).log) part.slot one.on.text first.on.text one.on.signed first.on.signed)

  same_digest : hash part.text ≡ hash first.on.text
  same_digest = fixed_by_bits (hash part.text) (hash first.on.text) (hash_is_digest part.text) (hash_is_digest first.on.text) same_bits

  part_kept : In (with_digest hash part.text) (kept w.deal.origin w.directory (trace_after w events).pool)
  part_kept =
      flat-In (λ (s : Sent (List ℕ)). kept_in w.deal.origin w.directory s.message) (trace_after w events).pool at.sent (with_digest hash part.text) at.pooled
      (keeps_text w.deal.origin w.directory at.sent.message (plain_of at.frame) part it_reads.read at.among)

  same_text : part.text ≡ first.on.text
  same_text =
      let fits = part_fits w.directory.params (are_few w.directory.params run.deployment.directory.whole.sizes) (plain_of at.frame) it_reads.fits part at.among in
      one_text part.text first.on.text fits first.fits
      (kept_apart w events run.fair (with_digest hash part.text) (with_digest hash first.on.text) part_kept first.on.kept same_digest)

  it_signed : Signed w (trace_after w events) seat part.slot part.text
  it_signed = subst (λ (text : Text). Signed w (trace_after w events) seat part.slot text) (sym same_text) first.on.signed

pub genuine : (w : Hostile) (events : List (Event (List ℕ) Op)) → FairRun w events → Genuine w (trace_after w events)
genuine w events run part seat owned at = it_signed w events run part seat owned at
