-- What a filter sends: frames of some bytes and not too many, to seats of the deployment.
use Rattle.std.proofs.Common.{◌≡◌, ℕ, zero, suc, ◌+◌, ◌<◌, ◌||◌, not, nat_eq, List, [], ◌∷◌, ◌++◌, All, Option, Some, None, sym, arith, subst, IsTrue, inl, inr}
use Rattle.std.specs.Prelude.{option_and_then, is_some, IfSome}
use Rattle.std.proofs.lemmas.Bool.{cases_Bool, eqb-false}
use Rattle.std.proofs.lemmas.List.Elements.{All-nil, All-cons}
use Rattle.fw_base.specs.declared.params.Params.{Params}
use Rattle.fw_base.specs.declared.seat.Seat.{Seat}
use Rattle.fw_base.specs.declared.seat.Seat.TheVariants as seats
use Rattle.fw_base.specs.Sizes.{accepted, width}
use Rattle.fw_base.specs.Seats.{fits, above}
use Rattle.fw_trace.specs.declared.Input.TheVariants.{Heard, Tick, Submitted}
use Rattle.fw_trace.specs.Filter as filters
use Rattle.fw_trace.specs.Executor.{sent_before}
use Rattle.fw_trace.specs.Client as clients
use Rattle.fw_trace.specs.Role.{kept}
use Rattle.fw_directory.specs.Directories.{PlainDirectory}
use Rattle.fw_hand.specs.Hands.{PlainHand}
use Rattle.fw_means.specs.Means.{admitted_by}
use Rattle.fw_node.specs.Histories.{Taken, History, AreSendable}
use Rattle.fw_node.proofs.Sendable.{AllFit, to_one, to_all, both, agreements_fit, executors_fit, row_fit}
use Rattle.fw_rules.specs.Roles.{ups, downs, agreed_number, replied_number, share_from}
use Rattle.fw_lengths.specs.Lengths.{HasFrameLength}
use Rattle.fw_lengths.proofs.Options.{when-if, first_at-if, all_more}
use Rattle.fw_lengths.proofs.Admitted.{made-sendable, made-short}
use Rattle.fw_share.specs.Shares.{Share}
use Rattle.fw_filter.specs.Sifting.{Keeps, Speech, SpeaksIn}
use Rattle.fw_filter.specs.Standing.{Sifter, IsFilters, next_of, rule_of, speech_of}
use Rattle.fw_filter.proofs.Heard.{speaks-in}
use Rattle.fw_filter.proofs.Short.{HasShortAnswers, combined-short, share-short}

-- the seat is one of the deployment, and the bytes can be sent
abbrev CanBeAnswered : Params → Seat → List ℕ → Type 0
CanBeAnswered p from m = IsTrue (fits p from) × HasFrameLength m

-- the replies that are held are short, and so are the bodies of the shares' answers
pub record AreShort (x : Keeps) : Type 0 where
  pub replies : All (λ (h : ℕ × List ℕ). HasFrameLength h.1) x.held
  pub bodies : All HasShortAnswers x.shares

-- ---- the seats

ups-fit : (p : Params) (row : ℕ) → row < width p → AllFit p (ups p row)
ups-fit p row within = elim (cases_Bool (nat_eq row p.h)) [
  | inl last ↦ rw last (executors_fit p)
  | inr other ↦ let apart = eqb-false row p.h other in rw other (row_fit p (row + 1) (omega arith))
]

downs-fit : (p : Params) (row : ℕ) → row < width p → AllFit p (downs p row)
downs-fit p zero within = agreements_fit p
downs-fit p (suc r) within = row_fit p r (omega arith)

-- ---- a step

held-short : (held : List (ℕ × List ℕ)) (n : ℕ) → All (λ (h : ℕ × List ℕ). HasFrameLength h.1) held → IfSome (filters.held_of held n) HasFrameLength
held-short held n all = first_at-if (λ (h : ℕ × List ℕ). h) (λ (h : ℕ × List ℕ). HasFrameLength h.1) HasFrameLength (λ h short. short) n held all

module _ (p : Params) (row : ℕ) (within : row < width p) (sp : Speech) (speaks : SpeaksIn p row sp) where
  up : (m : List ℕ) → HasFrameLength m → AreSendable p (clients.to_all sp.ups m)
  up m short = to_all p sp.ups m (subst (AllFit p) (sym speaks.ups) (ups-fit p row within)) short.0 short.1

  down : (m : List ℕ) → HasFrameLength m → AreSendable p (clients.to_all sp.downs m)
  down m short = to_all p sp.downs m (subst (AllFit p) (sym speaks.downs) (downs-fit p row within)) short.0 short.1

  went-up : (x : Keeps) (from : Seat) (n : ℕ) (m : List ℕ) → HasFrameLength m → AreSendable p (filters.went_up sp x from n m)
  went-up x from n m short = elim (cases_Bool (not (filters.asked_at_all x.asked n) || sent_before x.asked from n)) [
    | inl goes ↦ rw goes (up m short)
    | inr stays ↦ rw stays (All-nil _)
  ]

  answered : (x : Keeps) (from : Seat) (n : ℕ) (m : List ℕ) (o : Option (List ℕ)) → CanBeAnswered p from m → IfSome o HasFrameLength → AreSendable p (filters.answers sp x from n m o)
  answered x from n m None can held = went-up x from n m can.1
  answered x from n m (Some reply) can held = to_one p from reply can.0 held.0 held.1

  agreed-sends : (x : Keeps) (from : Seat) (m : List ℕ) (o : Option ℕ) → AreShort x → IfSome o (λ _. CanBeAnswered p from m)
      → AreShort (filters.hear_agreed sp x from m o).0 × AreSendable p (filters.hear_agreed sp x from m o).1
  agreed-sends x from m None short can = (short, All-nil _)
  agreed-sends x from m (Some n) short can = (
    record { replies = short.replies; bodies = short.bodies },
    answered x from n m (filters.held_of x.held n) can (held-short x.held n short.replies),
  )

  hold-sends : (x : Keeps) (n : ℕ) (m : List ℕ) → AreShort x → HasFrameLength m → AreShort (filters.hold sp x n m).0 × AreSendable p (filters.hold sp x n m).1
  hold-sends x n m short is = elim (cases_Bool (is_some (filters.held_of x.held n))) [
    | inl held ↦ rw held (short, All-nil _)
    | inr new ↦ rw new (
      record { replies = All-cons (λ (r : ℕ × List ℕ). HasFrameLength r.1) (n, m) x.held is short.replies; bodies = short.bodies },
      elim (cases_Bool (filters.asked_at_all x.asked n)) [
        | inl asked ↦ rw asked (down m is)
        | inr unasked ↦ rw unasked (All-nil _)
      ],
    )
  ]

  reply-sends : (x : Keeps) (from : Seat) (m : List ℕ) (o : Option ℕ) → AreShort x → IfSome o (λ _. CanBeAnswered p from m) → AreShort (filters.hear_reply sp x m o).0 × AreSendable p (filters.hear_reply sp x m o).1
  reply-sends x from m None short can = (short, All-nil _)
  reply-sends x from m (Some n) short can = hold-sends x n m short can.1

  made-sends : (x : Keeps) (n : ℕ) (o : Option (List ℕ)) → AreShort x → IfSome o HasFrameLength → AreShort (filters.hold_made sp x n o).0 × AreSendable p (filters.hold_made sp x n o).1
  made-sends x n None short long = (short, All-nil _)
  made-sends x n (Some m) short long = hold-sends x n m short long

  share-sends : (x : Keeps) (o : Option Share) → AreShort x → IfSome o HasShortAnswers → AreShort (filters.hear_share sp x o).0 × AreSendable p (filters.hear_share sp x o).1
  share-sends x None short answers = (short, All-nil _)
  share-sends x (Some s) short answers = elim (cases_Bool (filters.has_share x.shares s.number s.exec)) [
    | inl has ↦ rw has (short, All-nil _)
    | inr first ↦ rw first
        (let y : Keeps = record x { shares = x.shares ++ s ∷ [] } in
        let all = all_more HasShortAnswers x.shares s short.bodies answers in
        made-sends y s.number (sp.combined s.number y.shares) (record { replies = short.replies; bodies = all })
        (subst (λ (o : Option (List ℕ)). IfSome o HasFrameLength) (sym (speaks.combined s.number y.shares)) (combined-short p s.number y.shares all)))
  ]

-- ---- what is heard

module _ (d : PlainDirectory) (hand : PlainHand) (r c : ℕ) (sizes : IsTrue (accepted d.params)) (within : r < width d.params) where
  step-sends : (x : Keeps) (i : Taken) → AreShort x → AreShort (next_of (speech_of r c hand d) x i).0 × AreSendable d.params (next_of (speech_of r c hand d) x i).1
  step-sends x (Heard from m) short =
      let p = d.params in
      let own = seats.Filter r c in
      let sp = speech_of r c hand d in
      let speaks = speaks-in d hand r c in
      let replied = when-if (λ _. CanBeAnswered p from m) (above p own from) (option_and_then (replied_number from) (admitted_by d own from m)) (made-sendable d own from m (replied_number from) sizes) in
      let a = agreed-sends p r within sp speaks x from m (sp.agreed from m) short (made-sendable d own from m (agreed_number own from) sizes) in
      let b = reply-sends p r within sp speaks _ from m (sp.replied from m) a.0 replied in
      let e = share-sends p r within sp speaks _ (sp.shared from m) b.0 (made-short d own from m (share_from from) HasShortAnswers (share-short p from)) in
      (e.0, both p _ _ (both p _ _ a.1 b.1) e.1)
  step-sends x Tick short = (short, All-nil _)
  step-sends x (Submitted op) short = (short, All-nil _)

  short-after : (h : History) → AreShort (kept (filters.filter_role (speech_of r c hand d)) h)
  short-after [] = record { replies = All-nil _; bodies = All-nil _ }
  short-after (i ∷ h) = (step-sends (kept (filters.filter_role (speech_of r c hand d)) h) i (short-after h)).0

-- each frame that a filter sends can be sent
pub all_sendable : (n : Sifter) → IsFilters n.params n.row n.column n.hand → (d : PlainDirectory) (h : History) → d.params ≡ n.params → AreSendable n.params (rule_of n d h)
all_sendable n is d [] same = All-nil _
all_sendable n is d (i ∷ h) same =
    let sizes : IsTrue (accepted d.params) = subst (λ p. IsTrue (accepted p)) (sym same) is.sizes in
    let within : n.row < width d.params = subst (λ p. n.row < width p) (sym same) is.row in
    subst (λ p. AreSendable p (rule_of n d (i ∷ h))) same
    (step-sends d n.hand n.row n.column sizes within (kept (filters.filter_role (speech_of n.row n.column n.hand d)) h) i (short-after d n.hand n.row n.column sizes within h)).1
