-- All that the rule of a seat sends are frames of the deployment, and reading their bytes gives them back.
use Rattle.std.proofs.Common.{ℕ, ◌<◌, ◌≡◌, ◌&&◌, inl, inr, List, [], ◌∷◌, IsTrue, arith, sym, ap}
use Rattle.std.proofs.lemmas.Bool.{ltb-true}
use Rattle.fw_base.specs.declared.params.Params.{Params}
use Rattle.fw_base.specs.declared.seat.Seat.{Seat}
use Rattle.fw_base.specs.declared.seat.Seat.TheVariants as seats
use Rattle.fw_base.specs.Seats.{fits, linked}
use Rattle.fw_base.specs.Sizes.{accepted, agreements, executors}
use Rattle.fw_op.specs.declared.op.Op.{Op}
use Rattle.fw_record.specs.Records.{starts_fit}
use Rattle.fw_trace.specs.declared.Input.{Input}
use Rattle.fw_trace.specs.declared.Input.TheVariants.{Heard, Tick, Submitted}
use Rattle.fw_trace.specs.Lists.{In}
use Rattle.fw_frame.specs.View.{Reply, Frame, Replies}
use Rattle.fw_directory.specs.Directories.{PlainDirectory}
use Rattle.fw_hand.specs.Hands.{PlainHand, IsHandIn}
use Rattle.fw_deal.specs.Deals.{PlainDeal, IsDirectoryOf, hand_of}
use Rattle.fw_deal.proofs.Seats.{hand_is_in}
use Rattle.fw_law_words.proofs.Tests.{when-some}
use Rattle.fw_law_node.specs.Once.{node_after}
use Rattle.fw_law_node.specs.Remembered.{WasAdmitted}
use Rattle.fw_law_node.proofs.Remembered.{remembered}
use Rattle.fw_law_filter.specs.Heard.{WasHeard}
use Rattle.fw_law_sources.specs.Sources.{IsAgreedFrame, IsAgreedOrReplyFrame, IsPassed}
use Rattle.fw_law_sources.proofs.Passing.{passed_heard}
use Rattle.fw_means.specs.Means.{valid_in, written}
use Rattle.fw_rules.specs.Roles.{rule_of}
use Rattle.fw_rules.specs.Deployed.{means_of, bodies_of, rule_by}
use Rattle.fw_law_frames.specs.Plain.{IsPlain, MakesPlain, SealsWhole}
use Rattle.fw_law_frames.specs.Sent.{ReadsBack, node_of, IsHeardAgain}
use Rattle.fw_law_frames.proofs.Sending.{sent_plain}
use Rattle.fw_law_frames.proofs.Asking.{client_plain}
use Rattle.fw_law_frames.proofs.Sharing.{executor_plain}
use Rattle.fw_law_frames.proofs.Joining.{filter_plain}
use Rattle.fw_law_frames.proofs.Deployed.{reads_back, spelled_again, admitted_back, makes_plain, seals_whole}

some_view : (p : Params) → IsTrue (accepted p) → 0 < p.views
some_view p ok = grind arith

-- what is passed on was admitted
passed_back : {O : Type 0} (d : PlainDirectory) (hand : PlainHand) → IsTrue (accepted d.params) → (seat : Seat) (Kind : Frame → Type 0) (h : List (Input (List ℕ) O)) (m : List ℕ) → WasHeard (IsPassed (means_of d hand) seat Kind m) h → ReadsBack d.params m
passed_back d hand ok seat Kind h m w = let heard = passed_heard (means_of d hand) seat Kind h m w in admitted_back d ok m heard.frame heard.read

module _ (d : PlainDirectory) (hand : PlainHand) (ok : IsTrue (accepted d.params)) where
  written_back : (m : List ℕ) (frame : Frame) → m ≡ written frame → IsPlain d.params frame → ReadsBack d.params m
  written_back m frame is plain = reads_back d.params ok m frame is plain

  rule_back : (seat : Seat) → MakesPlain (means_of d hand) seat → SealsWhole d.params (bodies_of hand) seat → IsTrue (fits d.params seat) → (h : List (Input (List ℕ) Op)) (o : Seat × List ℕ) → In o (rule_of (means_of d hand) (bodies_of hand) hand.starts seat h) → ReadsBack d.params o.1
  rule_back (seats.Agree i) makes seals fit h o there =
      let sent = sent_plain (record { own = i; means = means_of d hand }) makes (ltb-true i (agreements d.params) fit) (some_view d.params ok) h o there in
      written_back o.1 sent.frame sent.written sent.plain
  rule_back (seats.Exec j) makes seals fit h o there = elim (executor_plain (means_of d hand) (bodies_of hand) hand.starts j makes seals (ltb-true j (executors d.params) fit) h o there) [
    | inl w ↦ written_back o.1 w.made.frame w.made.written w.plain
    | inr (inl w) ↦ written_back o.1 w.made.frame w.made.written w.plain
    | inr (inr w) ↦ passed_back d hand ok (seats.Exec j) IsAgreedFrame h o.1 w
  ]
  rule_back (seats.Filter r c) makes seals fit h o there = elim (filter_plain (means_of d hand) r c makes h o there) [
    | inl w ↦ written_back o.1 w.made.frame w.made.written w.plain
    | inr w ↦ passed_back d hand ok (seats.Filter r c) IsAgreedOrReplyFrame h o.1 w
  ]
  rule_back (seats.Client c) makes seals fit h o there =
      let sent = client_plain (means_of d hand) (bodies_of hand) c makes seals (ltb-true c d.params.clients fit) h o there in
      written_back o.1 sent.made.frame sent.made.written sent.plain

pub hand_reads_back : (d : PlainDirectory) (hand : PlainHand) → IsTrue (accepted d.params) → IsHandIn d hand → (h : List (Input (List ℕ) Op)) (o : Seat × List ℕ) → In o (rule_by d hand h) → ReadsBack d.params o.1
hand_reads_back d hand ok k h o there = rule_back d hand ok hand.seat (makes_plain d hand k) (seals_whole d hand k) k.seat h o there

pub deal_reads_back : (deal : PlainDeal) (d : PlainDirectory) → IsTrue (accepted d.params) → IsDirectoryOf deal.origin d → IsTrue (starts_fit deal.origin.params.clients deal.starts) → (seat : Seat) → IsTrue (fits deal.origin.params seat)
    → (h : List (Input (List ℕ) Op)) (o : Seat × List ℕ) → In o (rule_by d (hand_of deal seat) h) → ReadsBack d.params o.1
deal_reads_back deal d ok of starts seat fit h o there = hand_reads_back d (hand_of deal seat) ok (hand_is_in deal d seat of starts fit) h o there

-- ---- what a node remembers, spelled again

heard_again : {O : Type 0} (d : PlainDirectory) (hand : PlainHand) (i : ℕ) (h : List (Input (List ℕ) O)) (frame : Frame) → WasAdmitted (node_of d hand i) h frame → IsHeardAgain h frame
heard_again d hand i [] frame w = absurd w
heard_again {O = O} d hand i (Heard from m ∷ h) frame (inl e) =
    let read = (when-some (fits d.params from && linked d.params from (seats.Agree i)) (valid_in d m) frame e).1 in
    let input : List ℕ → Input (List ℕ) O = λ bytes. Heard from bytes in
    record { from = from; there = inl (ap input (sym (spelled_again d m frame read))) }
heard_again d hand i (Heard from m ∷ h) frame (inr w) = let was = heard_again d hand i h frame w in record { from = was.from; there = inr was.there }
heard_again d hand i (Tick ∷ h) frame w = let was = heard_again d hand i h frame w in record { from = was.from; there = inr was.there }
heard_again d hand i (Submitted op ∷ h) frame w = let was = heard_again d hand i h frame w in record { from = was.from; there = inr was.there }

-- each reply that it holds is spelled as it was heard
pub held_again : {O : Type 0} (d : PlainDirectory) (hand : PlainHand) (i : ℕ) (h : List (Input (List ℕ) O)) (r : Reply) → In r (node_after (node_of d hand i) h).heard.held → IsHeardAgain h (Replies r)
held_again d hand i h r there = heard_again d hand i h (Replies r) ((remembered (node_of d hand i) h).held r there)
