-- What is settled after each message: a number that was asked for went up or is held, and one that the kept shares make is held.
use Rattle.std.proofs.Common.{ℕ, ◌≡◌, ◌⊎◌, inl, inr, Bool, true, false, cond, ◌||◌, not, nat_eq, List, [], ◌∷◌, ◌++◌, Option, Some, None, is_some, refl, sym, ◌∙◌, ap, subst}
use Rattle.std.proofs.lemmas.Bool.{eqb-true}
use Rattle.std.proofs.lemmas.Option.{none-some}
use Rattle.fw_base.specs.declared.seat.Seat.{Seat}
use Rattle.fw_trace.specs.declared.Input.{Input}
use Rattle.fw_trace.specs.declared.Input.TheVariants.{Heard, Tick, Submitted}
use Rattle.fw_trace.specs.declared.Share.{Share}
use Rattle.fw_trace.specs.Role.{kept}
use Rattle.fw_trace.specs.Client.{to_all}
use Rattle.fw_trace.specs.Executor.{Sends, sent_before}
use Rattle.fw_trace.specs.Filter.{Speech, Filter, held_of, asked_at_all, answers, hear_agreed, hold, hear_reply, has_share, hold_made, hear_share, filter_role}
use Rattle.fw_trace.specs.Lists.{In}
use Rattle.fw_trace.proofs.Words.{In-left}
use Rattle.fw_law_filter.specs.Heard.{WasHeard, IsAgreed, CombinesByNumber}
use Rattle.fw_law_filter.specs.Passed.{WentUp}
use Rattle.fw_law_filter.proofs.Steps.{with_share, downwards, hold-keeps, on_message, message_keeps}
use Rattle.fw_law_filter.proofs.Holding.{held-in, some_held, still_held, newest_held, number_asked_is, held_next}
use Rattle.fw_law_filter.proofs.Sending.{to_all-In}

-- ---- what was asked for

module _ {M V : Type 0} (sp : Speech M V) where
  -- what an agreed frame makes a filter send is among what the message makes it send
  first_sent : (x : Filter M V) (from : Seat) (m : M) (o : Seat × M) → In o (hear_agreed sp x from m (sp.agreed from m)).1 → In o (on_message sp x from m).1
  first_sent x from m o there =
      let inside : Filter M V → Sends M → Type 0 = λ y out. In o out in
      message_keeps sp from m inside inside inside (record {
        known = λ y out k a. a;
        replied = λ y out n e u a. In-left o out (downwards sp y n m) a;
        done = λ y out k b. b;
        shared = λ y out s e u b. b;
        made = λ y out n reply e u c. In-left o out (downwards sp y n reply) c;
      }) x there

  -- the first agreed frame of a number goes up, if no reply is held
  goes_up : (x : Filter M V) (from : Seat) (m : M) (n : ℕ) → sp.agreed from m ≡ Some n → held_of x.held n ≡ None → asked_at_all x.asked n ≡ false → (seat : Seat) → In seat sp.ups → In (seat, m) (on_message sp x from m).1
  goes_up x from m n e u new seat above =
      first_sent x from m (seat, m)
      (subst (λ (o : Option ℕ). In (seat, m) (hear_agreed sp x from m o).1) (sym e)
      (subst (λ (r : Option M). In (seat, m) (answers sp x from n m r)) (sym u)
      (subst (λ (b : Bool). In (seat, m) (cond (not b || sent_before x.asked from n) (to_all sp.ups m) [])) (sym new) (to_all-In sp.ups m seat above))))

module _ {M O V : Type 0} (sp : Speech M V) where
  up_or_held : (i : Input M O) (h : List (Input M O)) (n : ℕ) → ((reply : M) × In (n, reply) (kept (filter_role sp) h).held) ⊎ WentUp sp n h → ((reply : M) × In (n, reply) (kept (filter_role sp) (i ∷ h)).held) ⊎ WentUp sp n (i ∷ h)
  up_or_held i h n (inl r) = inl (r.0, held_next sp i h n r.0 r.1)
  up_or_held i h n (inr w) = inr (record { frame = w.frame; heard = inr w.heard; sent = λ seat above. inr (w.sent seat above) })

  -- a number that was asked for is held, or went up
  pub asked_goes_up : (h : List (Input M O)) (n : ℕ) → WasHeard (IsAgreed sp n) h → ((reply : M) × In (n, reply) (kept (filter_role sp) h).held) ⊎ WentUp sp n h
  asked_goes_up [] n w = absurd w
  asked_goes_up (Heard from m ∷ h) n (inr was) = up_or_held (Heard from m) h n (asked_goes_up h n was)
  asked_goes_up (Heard from m ∷ h) n (inl now) = by (asked_at_all (kept (filter_role sp) h).asked n) refl (held_of (kept (filter_role sp) h).held n) refl (asked_goes_up h n)
    where
      by : (b : Bool) → asked_at_all (kept (filter_role sp) h).asked n ≡ b → (r : Option M) → held_of (kept (filter_role sp) h).held n ≡ r → (WasHeard (IsAgreed sp n) h → ((reply : M) × In (n, reply) (kept (filter_role sp) h).held) ⊎ WentUp sp n h)
          → ((reply : M) × In (n, reply) (kept (filter_role sp) (Heard from m ∷ h)).held) ⊎ WentUp sp n (Heard from m ∷ h)
      by true e r f before = up_or_held (Heard from m) h n (before ((number_asked_is sp h n).0 e))
      by false e (Some reply) f before = up_or_held (Heard from m) h n (inl (reply, held-in (kept (filter_role sp) h).held n reply f))
      by false e None f before = inr (record { frame = m; heard = inl (refl, now); sent = λ seat above. inl (goes_up sp (kept (filter_role sp) h) from m n now f e seat above) })
  asked_goes_up (Tick ∷ h) n w = elim w [ inl a ↦ absurd a | inr was ↦ up_or_held Tick h n (asked_goes_up h n was) ]
  asked_goes_up (Submitted op ∷ h) n w = elim w [ inl a ↦ absurd a | inr was ↦ up_or_held (Submitted op) h n (asked_goes_up h n was) ]

-- ---- what the kept shares make

module _ {M V : Type 0} (sp : Speech M V) (by_number : CombinesByNumber sp) where
  -- each number that they make is held
  abbrev AreMade : Filter M V → Type 0
  AreMade x = (n : ℕ) (reply : M) → sp.combined n x.shares ≡ Some reply → is_some (held_of x.held n) ≡ true

  abbrev Holds : ℕ → Filter M V → Sends M → Type 0
  Holds k y out = is_some (held_of y.held k) ≡ true

  hold_shares : (x : Filter M V) (n : ℕ) (reply : M) → (hold sp x n reply).0.shares ≡ x.shares
  hold_shares x n reply = let same : Filter M V → Sends M → Type 0 = λ y out. y.shares ≡ x.shares in hold-keeps sp same x [] n reply (λ old. refl) (λ new. refl)

  made_hold : (x : Filter M V) (n : ℕ) (reply : M) → ((k : ℕ) (r : M) → nat_eq n k ≡ false → sp.combined k x.shares ≡ Some r → is_some (held_of x.held k) ≡ true) → AreMade (hold sp x n reply).0
  made_hold x n reply others k r e = by (nat_eq n k) refl
    where
      made : sp.combined k x.shares ≡ Some r
      made = ap (sp.combined k) (sym (hold_shares x n reply)) ∙ e

      by : (b : Bool) → nat_eq n k ≡ b → is_some (held_of (hold sp x n reply).0.held k) ≡ true
      by true g = hold-keeps sp (Holds k) x [] n reply (λ old. subst (λ (j : ℕ). is_some (held_of x.held j) ≡ true) (eqb-true n k g) old) (λ new. subst (λ (j : ℕ). is_some (held_of ((n, reply) ∷ x.held) j) ≡ true) (eqb-true n k g) (newest_held n reply x.held))
      by false g = hold-keeps sp (Holds k) x [] n reply (λ old. others k r g made) (λ new. still_held n reply x.held k (others k r g made))

  made_agreed : (x : Filter M V) (from : Seat) (m : M) (o : Option ℕ) → AreMade x → AreMade (hear_agreed sp x from m o).0
  made_agreed x from m None a = a
  made_agreed x from m (Some n) a = a

  made_reply : (x : Filter M V) (m : M) (o : Option ℕ) → AreMade x → AreMade (hear_reply sp x m o).0
  made_reply x m None a = a
  made_reply x m (Some n) a = made_hold x n m (λ k r g e. a k r e)

  made_share : (x : Filter M V) (o : Option (Share V)) → AreMade x → AreMade (hear_share sp x o).0
  made_share x None a = a
  made_share x (Some s) a = by (has_share x.shares s.number s.exec)
    where
      number : (k : ℕ) (r : M) → sp.combined k (x.shares ++ s ∷ []) ≡ Some r → sp.combined s.number (x.shares ++ s ∷ []) ≡ None → (b : Bool) → nat_eq s.number k ≡ b → is_some (held_of x.held k) ≡ true
      number k r e c true g = absurd (none-some r (sym c ∙ ap (λ (j : ℕ). sp.combined j (x.shares ++ s ∷ [])) (eqb-true s.number k g) ∙ e))
      number k r e c false g = a k r (sym (by_number.others k x.shares s g) ∙ e)

      combined : (o : Option M) → sp.combined s.number (x.shares ++ s ∷ []) ≡ o → AreMade (hold_made sp (with_share x s) s.number o).0
      combined (Some reply) c = made_hold (with_share x s) s.number reply (λ k r g e. a k r (sym (by_number.others k x.shares s g) ∙ e))
      combined None c = λ k r e. number k r e c (nat_eq s.number k) refl

      by : (b : Bool) → AreMade (cond b (x, []) (hold_made sp (with_share x s) s.number (sp.combined s.number (x.shares ++ s ∷ [])))).0
      by true = a
      by false = combined (sp.combined s.number (x.shares ++ s ∷ [])) refl

module _ {M O V : Type 0} (sp : Speech M V) (by_number : CombinesByNumber sp) where
  are_made : (h : List (Input M O)) → AreMade sp by_number (kept (filter_role sp) h)
  are_made [] = λ n reply e. absurd (none-some reply (sym (by_number.nothing n) ∙ e))
  are_made (Heard from m ∷ h) =
      let heard = hear_agreed sp (kept (filter_role sp) h) from m (sp.agreed from m) in
      let told = hear_reply sp heard.0 m (sp.replied from m) in
      made_share sp by_number told.0 (sp.shared from m) (made_reply sp by_number heard.0 m (sp.replied from m) (made_agreed sp by_number (kept (filter_role sp) h) from m (sp.agreed from m) (are_made h)))
  are_made (Tick ∷ h) = are_made h
  are_made (Submitted op ∷ h) = are_made h

  -- a number that the kept shares make is held
  pub made_held : (h : List (Input M O)) (n : ℕ) (reply : M) → sp.combined n (kept (filter_role sp) h).shares ≡ Some reply → (r : M) × In (n, r) (kept (filter_role sp) h).held
  made_held h n reply e =
      let r = some_held (held_of (kept (filter_role sp) h).held n) (are_made h n reply e) in
      (r.0, held-in (kept (filter_role sp) h).held n r.0 r.1)
