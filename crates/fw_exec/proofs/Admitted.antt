-- What is admitted is a frame whose entry can be kept.
use Rattle.std.proofs.Common.{◌≡◌, ℕ, List, Some, None, refl, subst, IsTrue}
use Rattle.fw_base.specs.declared.params.Params.{Params}
use Rattle.fw_base.specs.declared.seat.Seat.{Seat}
use Rattle.fw_frame.specs.Frames.{PlainEntry, PlainFrame}
use Rattle.fw_frame.specs.Frames as frames
use Rattle.fw_frame.specs.Ranges.{view_fits, number_fits, entry_fits, signers_fit, frame_fits}
use Rattle.fw_frame.specs.View.{Frame, viewed, viewed_entry, plain_entry_of, is_single_entry}
use Rattle.fw_frame.proofs.Fields.{four}
use Rattle.fw_directory.specs.Directories.{PlainDirectory}
use Rattle.fw_means.specs.Means.{admitted_by}
use Rattle.fw_lengths.proofs.Admitted.{admitted-shows}
use Rattle.fw_exec.specs.Kept.{IsKeepable}

-- ---- what it agrees can be kept

same_entry : (entry : PlainEntry) → plain_entry_of (viewed_entry entry) ≡ entry
same_entry None = refl
same_entry (Some r) = refl

one_entry : (entry : PlainEntry) → IsTrue (is_single_entry (viewed_entry entry))
one_entry None = refl
one_entry (Some r) = refl

keepable : (p : Params) (f : PlainFrame) → IsTrue (frame_fits p f) → IsKeepable p (viewed f)
keepable p (frames.Request r) fit = tt
keepable p (frames.Propose view number entry sig) fit = tt
keepable p (frames.Vote phase view number agree digest sig) fit = tt
keepable p (frames.Change c) fit = tt
keepable p (frames.NewView view changes sig) fit = tt
keepable p (frames.Agreed view number entry signers) fit =
    let h = four (view_fits p view) (number_fits p number) (entry_fits p entry) (signers_fit p signers) fit in
    record { ranged = h.1; single = one_entry entry; fits = rw (same_entry entry) h.2 }
keepable p (frames.Share number exec client stamp body shares) fit = tt
keepable p (frames.Reply number client stamp body secrets) fit = tt
keepable p (frames.Want number) fit = tt

-- what is admitted is a frame whose entry can be kept
pub admitted_keepable : (d : PlainDirectory) (own from : Seat) (bytes : List ℕ) (v : Frame) → admitted_by d own from bytes ≡ Some v → IsKeepable d.params v
admitted_keepable d own from bytes v found =
    let shown = (admitted-shows d own from bytes v found).1 in
    subst (IsKeepable d.params) shown.seen (keepable d.params shown.frame shown.fits)
