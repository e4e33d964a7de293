-- Where the signatures and shares come from of what a correct seat sends: it signed them, or heard them, or nobody owns their slot. Or it
-- passes on what it heard.
use Rattle.std.proofs.Common.{ℕ, ◌<◌, ◌≡◌, ◌⊎◌, ◌&&◌, inl, inr, List, [], ◌∷◌, refl, sym, ◌∙◌, ap, subst, Option, Some, None, IsTrue, arith}
use Rattle.std.specs.Prelude.{option_and_then}
use Rattle.std.proofs.lemmas.Bool.{ltb-true}
use Rattle.std.proofs.lemmas.Option.{none-some, same_Some}
use Rattle.fw_base.specs.declared.params.Params.{Params}
use Rattle.fw_base.specs.declared.seat.Seat.{Seat}
use Rattle.fw_base.specs.declared.seat.Seat.TheVariants as seats
use Rattle.fw_base.specs.Places.{owner}
use Rattle.fw_base.specs.Seats.{fits, linked}
use Rattle.fw_base.specs.Sizes.{accepted, agreements, executors}
use Rattle.fw_text.specs.Texts.{hash}
use Rattle.fw_trace.specs.declared.Input.TheVariants.{Heard, Tick, Submitted}
use Rattle.fw_trace.specs.Lists.{In}
use Rattle.fw_node.specs.Histories.{Taken, History}
use Rattle.fw_frame.specs.Frames.{PlainFrame}
use Rattle.fw_frame.specs.Parts.{Part, parts}
use Rattle.fw_frame.specs.View.{Frame, viewed, plain_of}
use Rattle.fw_frame.specs.Undoing.{frame_in}
use Rattle.fw_frame.proofs.Undoing.{frame_in-only, frame_in-each}
use Rattle.fw_frame.proofs.View.{plain_of-viewed}
use Rattle.fw_directory.specs.Directories.{PlainDirectory}
use Rattle.fw_means.specs.Means.{is_valid, if_valid, valid_in, written}
use Rattle.fw_deal.specs.Deals.{hand_of}
use Rattle.fw_deal.proofs.Seats.{hand_is_in}
use Rattle.fw_rules.specs.Means.{Means}
use Rattle.fw_rules.specs.Deployed.{rule_by}
use Rattle.fw_law_words.proofs.Tests.{when-some}
use Rattle.fw_law_filter.specs.Heard as filters
use Rattle.fw_law_node.specs.Sources as nodes
use Rattle.fw_law_sources.specs.Sources.{IsPassed, IsRequestFrame, IsShareFrame, IsReplyFrame, IsWantFrame, IsAgreedFrame, IsAgreedOrReplyFrame}
use Rattle.fw_law_sources.specs.Asked.{IsOwnRequest}
use Rattle.fw_law_sources.specs.Executed.{IsOwnShare}
use Rattle.fw_law_sources.specs.Joined.{IsJoined}
use Rattle.fw_law_frames.specs.Plain.{IsPlain, MakesPlain, SealsWhole}
use Rattle.fw_law_frames.specs.Sent.{IsPlainMade, IsPlainBare}
use Rattle.fw_law_frames.proofs.Sending.{sent_plain}
use Rattle.fw_law_frames.proofs.Asking.{client_plain}
use Rattle.fw_law_frames.proofs.Sharing.{executor_plain}
use Rattle.fw_law_frames.proofs.Joining.{filter_plain}
use Rattle.fw_law_frames.proofs.Deployed.{makes_plain, seals_whole}
use Rattle.fw_fair.specs.Hostile.{Hostile}
use Rattle.fw_law_agree.specs.Runs.{IsDeployment}
use Rattle.fw_law_agree.specs.Signed.{means_at, bodies_at, node_at, SignedBy}

-- a message of a history is a frame that has this part
pub record FromHeard (d : PlainDirectory) (h : History) (part : Part) : Type 0 where
  pub from : Seat
  pub bytes : List ℕ
  pub heard : In (Heard from bytes) h
  pub frame : PlainFrame
  pub read : frame_in d.params bytes ≡ Some frame
  pub among : In part (parts d.params hash frame)

-- the seat signed it, nobody owns its slot, or it was heard
abbrev pub IsFrom : Hostile → Seat → History → Part → Type 0
IsFrom w seat h part = SignedBy w seat h part.slot part.text ⊎ ((owner part.slot ≡ None) ⊎ FromHeard w.directory h part)

pub record IsMadeFrom (w : Hostile) (seat : Seat) (h : History) (m : List ℕ) : Type 0 where
  pub frame : PlainFrame
  pub read : frame_in w.directory.params m ≡ Some frame
  pub each : (part : Part) → In part (parts w.directory.params hash frame) → IsFrom w seat h part

-- a message was heard from some seat
abbrev pub WasHeard : History → List ℕ → Type 0
WasHeard h m = (from : Seat) × In (Heard from m) h

-- ---- what was heard

read_valid : (d : PlainDirectory) (bytes : List ℕ) (v : Frame) → valid_in d bytes ≡ Some v → frame_in d.params bytes ≡ Some (plain_of v)
read_valid d bytes v e = by (frame_in d.params bytes) refl e
  where
    by : (o : Option PlainFrame) → frame_in d.params bytes ≡ o → option_and_then (if_valid d) o ≡ Some v → frame_in d.params bytes ≡ Some (plain_of v)
    by None q h = absurd (none-some v h)
    by (Some f) q h =
        let fit = (frame_in-only d.params bytes f q).fits in
        let seen : viewed f ≡ v = same_Some (viewed f) v (when-some (is_valid d f) (Some (viewed f)) v h).1 in
        q ∙ ap (λ (g : PlainFrame). Some g) (sym (plain_of-viewed d.params f fit) ∙ ap plain_of seen)

heard_before : (d : PlainDirectory) (i : Taken) (h : History) (part : Part) → FromHeard d h part → FromHeard d (i ∷ h) part
heard_before d i h part a = record { from = a.from; bytes = a.bytes; heard = inr a.heard; frame = a.frame; read = a.read; among = a.among }

heard_by_node : (w : Hostile) (i : ℕ) (h : History) (part : Part) → nodes.WasHeard (node_at w i) h part → FromHeard w.directory h part
heard_by_node w i [] part a = absurd a
heard_by_node w i (Heard from m ∷ h) part (inl a) = record {
  from = from;
  bytes = m;
  heard = inl refl;
  frame = plain_of a.frame;
  read = read_valid w.directory m a.frame (when-some (fits w.directory.params from && linked w.directory.params from (seats.Agree i)) (valid_in w.directory m) a.frame a.read).1;
  among = a.among;
}
heard_by_node w i (Heard from m ∷ h) part (inr a) = heard_before w.directory (Heard from m) h part (heard_by_node w i h part a)
heard_by_node w i (Tick ∷ h) part a = heard_before w.directory Tick h part (heard_by_node w i h part a)
heard_by_node w i (Submitted op ∷ h) part a = heard_before w.directory (Submitted op) h part (heard_by_node w i h part a)

passed_on : (k : Means (List ℕ)) (seat : Seat) (Kind : Frame → Type 0) (h : History) (m : List ℕ) → filters.WasHeard (IsPassed k seat Kind m) h → WasHeard h m
passed_on k seat Kind [] m a = absurd a
passed_on k seat Kind (Heard from x ∷ h) m (inl a) = (from, inl (ap (λ (y : List ℕ). Heard from y) (sym a.same)))
passed_on k seat Kind (Tick ∷ h) m (inl a) = absurd a
passed_on k seat Kind (Submitted op ∷ h) m (inl a) = absurd a
passed_on k seat Kind (i ∷ h) m (inr a) = let rest = passed_on k seat Kind h m a in (rest.0, inr rest.1)

-- ---- by the kind of the seat

read_written : (p : Params) → IsTrue (accepted p) → (m : List ℕ) (frame : Frame) → m ≡ written frame → IsPlain p frame → frame_in p m ≡ Some (plain_of frame)
read_written p ok m frame is plain = frame_in-each p ok m (plain_of frame) (record { spelled = is; fits = plain.fits })

some_view : (p : Params) → IsTrue (accepted p) → 0 < p.views
some_view p ok = grind arith

module _ (w : Hostile) (ok : IsTrue (accepted w.directory.params)) where
  node_sends : (i : ℕ) → MakesPlain (means_at w (seats.Agree i)) (seats.Agree i) → i < agreements w.directory.params → (h : History) (o : Seat × List ℕ) → In o (rule_by w.directory (hand_of w.deal (seats.Agree i)) h) → IsMadeFrom w (seats.Agree i) h o.1
  node_sends i makes small h o there =
      let sent = sent_plain (node_at w i) makes small (some_view w.directory.params ok) h o there in
      record {
        frame = plain_of sent.frame;
        read = read_written w.directory.params ok o.1 sent.frame sent.written sent.plain;
        each = λ part j. elim (sent.sourced part j) [ inl own ↦ inl own.named | inr heard ↦ inr (inr (heard_by_node w i h part heard)) ];
      }

  -- a frame with one part that the seat made
  made_from : (seat : Seat) (Kind : Frame → Type 0) (Own : Part → Type 0) (h : History) (m : List ℕ) → IsPlainMade (means_at w seat) Kind Own m → ((part : Part) → Own part → IsFrom w seat h part) → IsMadeFrom w seat h m
  made_from seat Kind Own h m a source = record {
    frame = plain_of a.made.frame;
    read = read_written w.directory.params ok m a.made.frame a.made.written a.plain;
    each = λ part j. elim (subst (In part) a.made.one j) [
      | inl e ↦ subst (IsFrom w seat h) (sym e) (source a.made.part a.made.own)
      | inr none ↦ absurd none
    ];
  }

  bare_from : (seat : Seat) (Kind : Frame → Type 0) (h : History) (m : List ℕ) → IsPlainBare (means_at w seat) Kind m → IsMadeFrom w seat h m
  bare_from seat Kind h m a = record {
    frame = plain_of a.made.frame;
    read = read_written w.directory.params ok m a.made.frame a.made.written a.plain;
    each = λ part j. (let none : In part [] = subst (In part) a.made.bare j in absurd none);
  }

  request_from : (c : ℕ) (h : History) (part : Part) → IsOwnRequest (means_at w (seats.Client c)) (bodies_at w (seats.Client c)) c h part → IsFrom w (seats.Client c) h part
  request_from c h part a = inl (record { stamp = a.stamp; op = a.op; asked = a.asked; at = ap (λ (z : Part). z.slot) a.is; is = ap (λ (z : Part). z.text) a.is })

  share_from : (j : ℕ) (h : History) (part : Part) → IsOwnShare (means_at w (seats.Exec j)) (bodies_at w (seats.Exec j)) (hand_of w.deal (seats.Exec j)).starts j h part → IsFrom w (seats.Exec j) h part
  share_from j h part a = inr (inl (ap (λ (z : Part). owner z.slot) a.is))

  joined_from : (r c : ℕ) (h : History) (part : Part) → IsJoined (means_at w (seats.Filter r c)) r c h part → IsFrom w (seats.Filter r c) h part
  joined_from r c h part a = inr (inl (ap (λ (z : Part). owner z.slot) a.is))

  -- what the rule of a seat sends
  rule_sends : (seat : Seat) → MakesPlain (means_at w seat) seat → SealsWhole w.directory.params (bodies_at w seat) seat → IsTrue (fits w.directory.params seat) → (h : History) (o : Seat × List ℕ) → In o (rule_by w.directory (hand_of w.deal seat) h)
      → IsMadeFrom w seat h o.1 ⊎ WasHeard h o.1
  rule_sends (seats.Agree i) makes seals fit h o there = inl (node_sends i makes (ltb-true i (agreements w.directory.params) fit) h o there)
  rule_sends (seats.Client c) makes seals fit h o there =
      let seat = seats.Client c in
      inl (made_from seat IsRequestFrame (IsOwnRequest (means_at w seat) (bodies_at w seat) c h) h o.1
      (client_plain (means_at w seat) (bodies_at w seat) c makes seals (ltb-true c w.directory.params.clients fit) h o there) (request_from c h))
  rule_sends (seats.Exec j) makes seals fit h o there =
      let seat = seats.Exec j in
      let starts = (hand_of w.deal seat).starts in
      elim (executor_plain (means_at w seat) (bodies_at w seat) starts j makes seals (ltb-true j (executors w.directory.params) fit) h o there) [
        | inl a ↦ inl (made_from seat IsShareFrame (IsOwnShare (means_at w seat) (bodies_at w seat) starts j h) h o.1 a (share_from j h))
        | inr (inl a) ↦ inl (bare_from seat IsWantFrame h o.1 a)
        | inr (inr a) ↦ inr (passed_on (means_at w seat) seat IsAgreedFrame h o.1 a)
      ]
  rule_sends (seats.Filter r c) makes seals fit h o there =
      let seat = seats.Filter r c in
      elim (filter_plain (means_at w seat) r c makes h o there) [
        | inl a ↦ inl (made_from seat IsReplyFrame (IsJoined (means_at w seat) r c h) h o.1 a (joined_from r c h))
        | inr a ↦ inr (passed_on (means_at w seat) seat IsAgreedOrReplyFrame h o.1 a)
      ]

-- of a deployment's seat
pub seat_sends : (w : Hostile) → IsDeployment w → (seat : Seat) → IsTrue (fits w.directory.params seat) → (h : History) (o : Seat × List ℕ) → In o (rule_by w.directory (hand_of w.deal seat) h) → IsMadeFrom w seat h o.1 ⊎ WasHeard h o.1
seat_sends w k seat fit h o there =
    let ok = k.directory.whole.sizes in
    let dealt = hand_is_in w.deal w.directory seat k.directory k.starts (subst (λ (p : Params). IsTrue (fits p seat)) k.directory.sizes fit) in
    rule_sends w ok seat (makes_plain w.directory (hand_of w.deal seat) dealt) (seals_whole w.directory (hand_of w.deal seat) dealt) fit h o there
