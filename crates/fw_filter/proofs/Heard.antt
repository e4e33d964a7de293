-- What a frame from a seat is.
use Rattle.std.proofs.Common.{◌≡◌, ℕ, Bool, true, false, nat_eq, List, Option, Some, None, refl, sym, ap, ◌∙◌}
use Rattle.std.specs.Prelude.{option_and_then}
use Rattle.std.proofs.lemmas.Bool.{eq-eqb}
use Rattle.fw_base.specs.declared.params.Params.{Params}
use Rattle.fw_base.specs.declared.seat.Seat.{Seat}
use Rattle.fw_base.specs.declared.seat.Seat.TheVariants as seats
use Rattle.fw_frame.specs.View.{Frame}
use Rattle.fw_directory.specs.Directories.{PlainDirectory}
use Rattle.fw_means.specs.Means.{when, admitted_by}
use Rattle.fw_base.specs.Seats.{above}
use Rattle.fw_trace.specs.declared.Input.TheVariants.{Heard}
use Rattle.fw_trace.specs.Filter as filters
use Rattle.fw_frame.specs.View.{Shares}
use Rattle.fw_frame.specs.View as view
use Rattle.fw_hand.specs.Hands.{PlainHand}
use Rattle.fw_node.specs.Histories.{Out}
use Rattle.fw_rules.specs.Roles.{agreed_number, replied_number, share_from}
use Rattle.fw_lengths.proofs.Admitted.{admitted-shows}
use Rattle.fw_share.specs.Shares.{IsSeen, share_in}
use Rattle.fw_filter.specs.Sifting.{Keeps, Speech, SpeaksIn, Does, does_with}
use Rattle.fw_filter.specs.Standing.{next_of, speech_of}

-- it is seen as one of the deployment
pub admitted-seen : (d : PlainDirectory) (own from : Seat) (bytes : List ℕ) (v : Frame) → admitted_by d own from bytes ≡ Some v → IsSeen d.params v
admitted-seen d own from bytes v e = let shown = (admitted-shows d own from bytes v e).1 in (shown.frame, shown.fits, shown.seen)

-- ---- what a filter does with it

-- a share from its executor is heard as such
pub shared-alone : (p : Params) (r c : ℕ) (sp : Speech) (x : Keeps) (from : Seat) (m : List ℕ) (v : Frame) (one : ℕ) (s : view.Share) (keeps : Keeps) (old new : Out) → from ≡ seats.Exec one → v ≡ Shares s → s.exec ≡ one
    → Does keeps old new (filters.hear_share sp x (share_in v))
    → Does keeps old new (does_with sp x from m (agreed_number (seats.Filter r c) from v) (when (above p (seats.Filter r c) from) (replied_number from v)) (share_from from v))
shared-alone p r c sp x from m v one s keeps old new from-is v-is same does =
    let test = eq-eqb s.exec one same in
    let heard = rw v-is at does in
    rw (from-is, v-is) (by (nat_eq r p.h) (nat_eq s.exec one) test heard)
  where
    by : (b t : Bool) → t ≡ true → Does keeps old new (filters.hear_share sp x (share_in (Shares s)))
        → Does keeps old new (does_with sp x (seats.Exec one) m None (when b None) (when t (share_in (Shares s))))
    by true true e h = h
    by false true e h = h
    by b false e h = absurd (let no : ⊥ = cc in no)

-- by the frame that the bytes are
pub heard-so : (p : Params) (d : PlainDirectory) (hand : PlainHand) (r c : ℕ) (x : Keeps) (from : Seat) (m : List ℕ) (v : Frame) → d.params ≡ p → Some v ≡ admitted_by d (seats.Filter r c) from m
    → does_with (speech_of r c hand d) x from m (agreed_number (seats.Filter r c) from v) (when (above p (seats.Filter r c) from) (replied_number from v)) (share_from from v) ≡ next_of (speech_of r c hand d) x (Heard from m)
heard-so p d hand r c x from m v sizes found =
    ap (λ (q : Params). does_with (speech_of r c hand d) x from m (agreed_number (seats.Filter r c) from v) (when (above q (seats.Filter r c) from) (replied_number from v)) (share_from from v)) (sym sizes)
    ∙ ap (λ (o : Option Frame). does_with (speech_of r c hand d) x from m (option_and_then (agreed_number (seats.Filter r c) from) o) (when (above d.params (seats.Filter r c) from) (option_and_then (replied_number from) o)) (option_and_then (share_from from) o)) found

-- it speaks as its row does
pub speaks-in : (d : PlainDirectory) (hand : PlainHand) (r c : ℕ) → SpeaksIn d.params r (speech_of r c hand d)
speaks-in d hand r c = record { ups = refl; downs = refl; combined = λ n kept. refl }
