-- What an executor sends: frames of some bytes and not too many, to seats of the deployment.
use Rattle.std.proofs.Common.{◌≡◌, ℕ, zero, suc, ◌+◌, Bool, true, false, ◌&&◌, not, nat_eq, nat_le, List, [], ◌∷◌, length, map, All, Option, Some, None, sym, subst, arith, IsTrue}
use Rattle.std.specs.Prelude.{filter, is_some, IfSome, if◌then◌else◌}
use Rattle.std.proofs.lemmas.Bool.{lt-ltb}
use Rattle.std.proofs.lemmas.List.Elements.{All-nil, All-cons, All-map, All-filter}
use Rattle.fw_list.specs.Lists.{numbers_from}
use Rattle.fw_base.specs.declared.params.Params.{Params}
use Rattle.fw_base.specs.declared.seat.Seat.{Seat}
use Rattle.fw_base.specs.declared.seat.Seat.TheVariants as seats
use Rattle.fw_base.specs.declared.slot.Slot.TheVariants as slots
use Rattle.fw_base.specs.Sizes.{accepted, executors}
use Rattle.fw_base.specs.Seats.{fits}
use Rattle.fw_text.specs.Texts.{hash}
use Rattle.fw_seal.specs.declared.types.Direction.TheVariants as way
use Rattle.fw_op.specs.Replies.{reply_bytes}
use Rattle.fw_trace.specs.declared.Input.TheVariants.{Heard, Tick, Submitted}
use Rattle.fw_trace.specs.Executor as roles
use Rattle.fw_trace.specs.Lists.{first_at}
use Rattle.fw_trace.specs.Client.{to_all}
use Rattle.fw_trace.specs.Role.{kept, sends}
use Rattle.fw_directory.specs.Directories.{PlainDirectory}
use Rattle.fw_hand.specs.Hands.{PlainHand, key_in}
use Rattle.fw_frame.specs.View.{Entry}
use Rattle.fw_ref.specs.Reference.{Replied}
use Rattle.fw_rules.specs.Deployed.{means_of, bodies_of}
use Rattle.fw_rules.specs.Roles.{given, share_of, agreed_frame, want_frame}
use Rattle.fw_rules.specs.Signing.{reply_text}
use Rattle.fw_node.specs.Histories.{Taken, History, Out, AreSendable}
use Rattle.fw_node.proofs.Sendable as sendable
use Rattle.fw_node.proofs.Sendable.{AllFit}
use Rattle.fw_lengths.specs.Lengths.{HasFrameLength}
use Rattle.fw_lengths.proofs.Options.{all_below, first_at-if}
use Rattle.fw_lengths.proofs.Pieces.{IsShortGiven, shares-long, wants-long}
use Rattle.fw_lengths.proofs.Admitted.{made-sendable}
use Rattle.fw_lengths.proofs.Signed.{signed-most, sealed_by-most}
use Rattle.fw_exec.specs.Kept.{Keeps, Speech, next}
use Rattle.fw_exec.specs.Standing.{Executing, speech_of, speech, rule_of}
use Rattle.fw_exec.proofs.Turns.{turned}

-- ---- whatever it says, if what it says has the size of a frame and goes to seats of the deployment

pub record IsSaying (p : Params) (sp : Speech) : Type 0 where
  pub filters : AllFit p sp.filters
  pub others : AllFit p sp.others
  pub share : (n : ℕ) (a : List Replied) → HasFrameLength (sp.share n a)
  pub want : (n : ℕ) → HasFrameLength (sp.want n)
  pub agreed : (from : Seat) (m : List ℕ) → IfSome (sp.agreed from m) (λ _. IsTrue (fits p from) × HasFrameLength m)
  pub wanted : (from : Seat) (m : List ℕ) → IfSome (sp.wanted from m) (λ _. IsTrue (fits p from) × HasFrameLength m)

-- what is kept has the size of a frame
pub record IsStored (x : Keeps) : Type 0 where
  pub frames : All (λ k. HasFrameLength k.2) x.kept
  pub shares : All (λ s. HasFrameLength s.1) x.shares

-- what it keeps then, and what it sends
abbrev pub IsFine : Params → Keeps × Out → Type 0
IsFine p r = IsStored r.0 × AreSendable p r.1

all_sent : (p : Params) (to : List Seat) (bytes : List ℕ) → AllFit p to → HasFrameLength bytes → AreSendable p (to_all to bytes)
all_sent p to bytes fit size = sendable.to_all p to bytes fit size.0 size.1

turn_fine : (p : Params) (sp : Speech) → IsSaying p sp → (most : ℕ) → ((y : Keeps) → IsStored y → IsFine p (roles.execute_on sp most y))
    → (x : Keeps) → IsStored x → (o : Option Entry) → IsFine p (turned sp most x o)
turn_fine p sp says most rest x stored None = (stored, All-nil _)
turn_fine p sp says most rest x stored (Some e) =
    let n = x.done + 1 in
    let r = sp.step x.state e in
    let share = sp.share n r.0 in
    let size : HasFrameLength share = says.share n r.0 in
    let one : Keeps = record x { done = n; state = r.1; shares = (n, share) ∷ x.shares } in
    let left = rest one (record { frames = stored.frames; shares = All-cons (λ (s : ℕ × List ℕ). HasFrameLength s.1) (n, share) x.shares size stored.shares }) in
    (left.0, sendable.both p (to_all sp.filters share) _ (all_sent p sp.filters share says.filters size) left.1)

turns_fine : (p : Params) (sp : Speech) → IsSaying p sp → (most : ℕ) (x : Keeps) → IsStored x → IsFine p (roles.execute_on sp most x)
turns_fine p sp says zero x stored = (stored, All-nil _)
turns_fine p sp says (suc most) x stored = turn_fine p sp says most (turns_fine p sp says most) x stored (roles.entry_of x.kept (x.done + 1))

-- what is found in a list of such frames is one
frame_sized : (kept : List (ℕ × Entry × List ℕ)) (n : ℕ) → All (λ k. HasFrameLength k.2) kept → IfSome (roles.frame_of kept n) HasFrameLength
frame_sized kept n all =
    first_at-if (λ (k : ℕ × Entry × List ℕ). (k.0, k.2)) (λ (k : ℕ × Entry × List ℕ). HasFrameLength k.2) HasFrameLength (λ k size. size) n kept all

share_sized : (shares : List (ℕ × List ℕ)) (n : ℕ) → All (λ s. HasFrameLength s.1) shares → IfSome (first_at (λ s. Some s) shares n) HasFrameLength
share_sized shares n all = first_at-if (λ (s : ℕ × List ℕ). s) (λ (s : ℕ × List ℕ). HasFrameLength s.1) HasFrameLength (λ s size. size) n shares all

option_fine : (p : Params) (seat : Seat) (o : Option (List ℕ)) → IsTrue (fits p seat) → IfSome o HasFrameLength → AreSendable p (roles.option_sends seat o)
option_fine p seat None fit size = All-nil _
option_fine p seat (Some m) fit size = sendable.to_one p seat m fit size.0 size.1

keep_sized : (kept : List (ℕ × Entry × List ℕ)) (new : ℕ × Entry × List ℕ) → All (λ k. HasFrameLength k.2) kept → HasFrameLength new.2 → All (λ k. HasFrameLength k.2) (roles.keep kept new)
keep_sized kept new all here =
    elim (is_some (roles.entry_of kept new.0)) as (λ t. All (λ (k : ℕ × Entry × List ℕ). HasFrameLength k.2) (if t then kept else new ∷ kept)) [
      | true ↦ all
      | false ↦ All-cons (λ (k : ℕ × Entry × List ℕ). HasFrameLength k.2) new kept here all
    ]

if_fine : (p : Params) (t : Bool) (out : Out) → AreSendable p out → AreSendable p (if t then out else [])
if_fine p true out fine = fine
if_fine p false out fine = All-nil _

agreed_fine : (p : Params) (sp : Speech) → IsSaying p sp → (x : Keeps) → IsStored x → (seat : Seat) (m : List ℕ) (o : Option (ℕ × Entry))
    → IfSome o (λ _. IsTrue (fits p seat) × HasFrameLength m) → IsFine p (roles.hear_agreed sp x seat m o)
agreed_fine p sp says x stored seat m None here = (stored, All-nil _)
agreed_fine p sp says x stored seat m (Some a) here =
    let again = sp.is_filter seat && nat_le a.0 x.done && roles.sent_before x.from seat a.0 in
    let kept = roles.keep x.kept (a.0, a.1, m) in
    let noted : Keeps = record x { kept = kept; from = if sp.is_filter seat then (seat, a.0) ∷ x.from else x.from } in
    let ran = turns_fine p sp says (suc (length kept)) noted (record { frames = keep_sized x.kept (a.0, a.1, m) stored.frames here.1; shares = stored.shares }) in
    (ran.0, sendable.both p _ _ ran.1 (if_fine p again _ (option_fine p seat _ here.0 (share_sized x.shares a.0 stored.shares))))

want_fine : (p : Params) (x : Keeps) → IsStored x → (seat : Seat) (m : List ℕ) (o : Option ℕ) → IfSome o (λ _. IsTrue (fits p seat) × HasFrameLength m) → AreSendable p (roles.hear_want x seat o)
want_fine p x stored seat m None here = All-nil _
want_fine p x stored seat m (Some n) here = option_fine p seat _ here.0 (frame_sized x.kept n stored.frames)

next_fine : (p : Params) (sp : Speech) → IsSaying p sp → (x : Keeps) → IsStored x → (i : Taken) → IsFine p (next sp x i)
next_fine p sp says x stored (Heard from m) =
    let heard = agreed_fine p sp says x stored from m (sp.agreed from m) (says.agreed from m) in
    (heard.0, sendable.both p _ _ heard.1 (want_fine p x stored from m (sp.wanted from m) (says.wanted from m)))
next_fine p sp says x stored Tick = (stored, if_fine p _ _ (all_sent p sp.others (sp.want (x.done + 1)) says.others (says.want (x.done + 1))))
next_fine p sp says x stored (Submitted op) = (stored, All-nil _)

stored_after : (p : Params) (sp : Speech) → IsSaying p sp → (h : History) → IsStored (kept (roles.executor_role sp) h)
stored_after p sp says [] = record { frames = All-nil _; shares = All-nil _ }
stored_after p sp says (i ∷ h) = (next_fine p sp says (kept (roles.executor_role sp) h) (stored_after p sp says h) i).0

fine_after : (p : Params) (sp : Speech) → IsSaying p sp → (h : History) → AreSendable p (sends (roles.executor_role sp) h)
fine_after p sp says [] = All-nil _
fine_after p sp says (i ∷ h) = (next_fine p sp says (kept (roles.executor_role sp) h) (stored_after p sp says h) i).1

-- ---- what the executor of a hand says

given-short : (hand : PlainHand) (n : ℕ) (replies : List Replied) → All IsShortGiven (map (given (bodies_of hand) n) replies)
given-short hand n [] = All-nil IsShortGiven
given-short hand n (a ∷ replies) =
    All-cons IsShortGiven (given (bodies_of hand) n a) (map (given (bodies_of hand) n) replies) (sealed_by-most (key_in hand.keys a.client) way.Reply a.client n (reply_bytes a.reply)) (given-short hand n replies)

share-long : (j : ℕ) (hand : PlainHand) (d : PlainDirectory) (n : ℕ) (replies : List Replied) → HasFrameLength ((speech_of j hand d).share n replies)
share-long j hand d n replies =
    shares-long (share_of (means_of d hand) (bodies_of hand) j n replies) (given-short hand n replies)
    (signed-most hand (slots.Reply n) (hash (reply_text n (map (given (bodies_of hand) n) replies))))

-- the other executors are seats of the deployment
others-fit : (p : Params) (j : ℕ) → AllFit p (map seats.Exec (filter (λ i. not (nat_eq i j)) (numbers_from 0 (executors p))))
others-fit p j =
    let fit : ℕ → Type 0 = λ i. IsTrue (fits p (seats.Exec i)) in
    let numbers = numbers_from 0 (executors p) in
    All-map (λ (s : Seat). IsTrue (fits p s)) seats.Exec (filter (λ i. not (nat_eq i j)) numbers)
    (All-filter (λ i. not (nat_eq i j)) fit numbers (all_below fit (executors p) (λ k below. lt-ltb k (executors p) below) 0 (executors p) (omega arith)))

says : (j : ℕ) (hand : PlainHand) (d : PlainDirectory) → IsTrue (accepted d.params) → IsSaying d.params (speech_of j hand d)
says j hand d sizes = record {
  filters = sendable.row_fit d.params d.params.h (omega arith);
  others = others-fit d.params j;
  share = share-long j hand d;
  want = wants-long;
  agreed = λ from m. made-sendable d (seats.Exec j) from m (agreed_frame from) sizes;
  wanted = λ from m. made-sendable d (seats.Exec j) from m (want_frame from) sizes;
}

-- each frame that an executor sends can be sent
pub all_sendable : (n : Executing) (d : PlainDirectory) (h : History) → IsTrue (accepted n.params) → d.params ≡ n.params → AreSendable n.params (rule_of n d h)
all_sendable n d h sizes same =
    subst (λ p. AreSendable p (rule_of n d h)) same
    (fine_after d.params (speech n d) (says n.exec n.hand d (subst (λ p. IsTrue (accepted p)) (sym same) sizes)) h)
