-- The replies of a deployment can be opened.
use Rattle.std.proofs.Common.{◌≡◌, ℕ, zero, suc, ◌≤◌, true, ◌&&◌, nat_le, List, [], length, Some, sym, arith, IsTrue, subst}
use Rattle.std.proofs.lemmas.Bool.{and_parts, leb-true, eqb-true}
use Rattle.std.proofs.lemmas.List.Elements.{All-head}
use Rattle.fw_list.specs.declared.limits.TheConstants.{BODY_LEN}
use Rattle.fw_base.specs.declared.params.Params.{Params}
use Rattle.fw_base.specs.Sizes.{accepted}
use Rattle.fw_frame.specs.Frames.{PlainFrame}
use Rattle.fw_frame.specs.Frames as frames
use Rattle.fw_frame.specs.Ranges.{number_fits, answer_fits, body_fits, values_fit, frame_fits}
use Rattle.fw_frame.specs.View.{Given, Frame, viewed}
use Rattle.fw_base.specs.declared.seat.Seat.{Seat}
use Rattle.fw_directory.specs.Directories.{PlainDirectory}
use Rattle.fw_means.specs.Means.{admitted_by}
use Rattle.fw_lengths.proofs.Pieces.{numbers-few}
use Rattle.fw_lengths.proofs.Short.{each-answer}
use Rattle.fw_lengths.proofs.Admitted.{admitted-shows}
use Rattle.fw_client.specs.Hearing.{IsOpenable}

-- a frame of the deployment
pub openable : (p : Params) → p.numbers ≤ 64 → (f : PlainFrame) → frame_fits p f ≡ true → IsOpenable (viewed f)
openable p few (frames.Request r) fit = tt
openable p few (frames.Propose view number entry sig) fit = tt
openable p few (frames.Vote phase view number agree digest sig) fit = tt
openable p few (frames.Change c) fit = tt
openable p few (frames.NewView view changes sig) fit = tt
openable p few (frames.Agreed view number entry signers) fit = tt
openable p few (frames.Share number exec client stamp body shares) fit = tt
openable p few (frames.Want number) fit = tt
openable p few (frames.Reply number client stamp body secrets) fit =
    let whole = and_parts (number_fits p number && answer_fits p client stamp body) (values_fit secrets) fit in
    let both = and_parts (number_fits p number) (answer_fits p client stamp body) whole.0 in
    let within = and_parts (nat_le 1 number) (nat_le number p.numbers) both.0 in
    let small : number ≤ p.numbers = leb-true number p.numbers within.1 in
    let long = eqb-true (length body) BODY_LEN (and_parts (body_fits body) _ both.1).0 in
    (omega arith, each-answer (λ (g : Given). length g.body ≡ BODY_LEN) client stamp body long)

-- a deployment has few stamps
pub stamps-few : (p : Params) → IsTrue (accepted p) → p.stamps ≤ 16
stamps-few p sizes = grind arith

-- a frame that is admitted
pub admitted-open : (d : PlainDirectory) (own from : Seat) (bytes : List ℕ) (v : Frame) → IsTrue (accepted d.params) → Some v ≡ admitted_by d own from bytes → IsOpenable v
admitted-open d own from bytes v sizes found =
    let shown = (admitted-shows d own from bytes v (sym found)).1 in
    subst IsOpenable shown.seen (openable d.params (numbers-few d.params sizes) shown.frame shown.fits)

-- the body of a reply
pub open-body : (number client stamp : ℕ) (body secrets : List ℕ) → IsOpenable (viewed (frames.Reply number client stamp body secrets)) → 1 ≤ stamp → length body ≡ BODY_LEN
open-body number client zero body secrets opens some = absurd (omega arith)
open-body number client (suc n) body secrets opens some = All-head (λ (g : Given). length g.body ≡ BODY_LEN) (record { client = client; stamp = suc n; body = body }) [] opens.1
