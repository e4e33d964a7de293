-- What a filter sends: agreed frames upwards as they were heard, and held replies downwards where they are owed.
use Rattle.std.proofs.Common.{ℕ, ◌≡◌, ◌⊎◌, inl, inr, Bool, true, false, cond, ◌||◌, not, List, [], ◌∷◌, ◌++◌, Option, Some, None, refl, sym, ◌∙◌, ap, subst}
use Rattle.std.proofs.lemmas.Bool.{}
use Rattle.fw_base.specs.declared.seat.Seat.{Seat}
use Rattle.fw_trace.specs.declared.Input.{Input}
use Rattle.fw_trace.specs.declared.Input.TheVariants.{Heard, Tick, Submitted}
use Rattle.fw_trace.specs.declared.Share.{Share}
use Rattle.fw_trace.specs.Role.{kept, sends}
use Rattle.fw_trace.specs.Client.{to_all}
use Rattle.fw_trace.specs.Executor.{Sends, sent_before}
use Rattle.fw_trace.specs.Filter.{Speech, Filter, held_of, asked_at_all, answers, hear_agreed, filter_role}
use Rattle.fw_trace.specs.Lists.{In}
use Rattle.fw_trace.proofs.Words.{In-append, In-left}
use Rattle.fw_source.specs.Sources.{Hears, AllHeard, EverSent}
use Rattle.fw_source.proofs.Listed.{In-to_all}
use Rattle.fw_law_filter.specs.Heard.{HeardNow, WasHeard, IsAgreed, IsAgreedBy, IsThisReply, IsShare, WasMade, AreApart}
use Rattle.fw_law_filter.specs.Passed.{GoesUp, GoesDown, Owes, IsOwed}
use Rattle.fw_law_filter.proofs.Steps.{with_held, downwards, on_message, message_keeps}
use Rattle.fw_law_filter.proofs.Holding.{held-in, in-held, unheld-front, In-right, asked_after, agreed_held, held_grows, asked_is, number_asked_is, shares_heard, shares_apart, held_comes, held_once}

pub to_all-In : {M : Type 0} (seats : List Seat) (m : M) (seat : Seat) → In seat seats → In (seat, m) (to_all seats m)
to_all-In [] m seat i = absurd i
to_all-In (s ∷ seats) m seat (inl e) = inl (ap (λ (x : Seat). (x, m)) e)
to_all-In (s ∷ seats) m seat (inr i) = inr (to_all-In seats m seat i)

owes_agreed : {M V : Type 0} (sp : Speech M V) (n : ℕ) (seat : Seat) (r : Option M) (from : Seat) (m : M) → Owes sp n seat r from m → IsAgreed sp n from m
owes_agreed sp n seat None from m w = w.0
owes_agreed sp n seat (Some reply) from m w = w.0

-- what holds of all that was heard holds of what was heard so
pub heard_holds : {M O : Type 0} (K P : Seat → M → Type 0) (T : Type 0) → ((from : Seat) (m : M) → K from m → P from m → T) → (h : List (Input M O)) → AllHeard K h → WasHeard P h → T
heard_holds K P T f [] k w = absurd w
heard_holds K P T f (Heard from m ∷ h) k (inl now) = f from m k.0 now
heard_holds K P T f (Tick ∷ h) k (inl now) = absurd now
heard_holds K P T f (Submitted op ∷ h) k (inl now) = absurd now
heard_holds K P T f (i ∷ h) k (inr was) = heard_holds K P T f h k.1 was

-- G: it goes up; C: it goes down
abbrev pub FilterOut : {M V : Type 0} → Speech M V → (M → Type 0) → (M → Type 0) → Seat × M → Type 0
FilterOut sp G C o = (In o.0 sp.ups × G o.1) ⊎ C o.1

module _ {M O V : Type 0} (sp : Speech M V) where
  -- ---- what is sent

  -- of what was sent so far on a message, while so much is held
  record Sent (from : Seat) (m : M) (h : List (Input M O)) (y : Filter M V) (out : Sends M) : Type 0 where
    asked : y.asked ≡ (kept (filter_role sp) (Heard from m ∷ h)).asked
    outs : (o : Seat × M) → In o out → GoesUp sp (kept (filter_role sp) h) o from m ⊎ ((n : ℕ) × In (n, o.1) y.held × WasHeard (IsAgreed sp n) (Heard from m ∷ h) × (In o.0 sp.downs ⊎ IsAgreedBy sp o.0 n from m))

  sent_down : (from : Seat) (m : M) (h : List (Input M O)) (y : Filter M V) (out : Sends M) (n : ℕ) (reply : M) → Sent from m h y out → Sent from m h (with_held y n reply) (out ++ downwards sp y n reply)
  sent_down from m h y out n reply s = record {
    asked = s.asked;
    outs = λ o i. elim (In-append o out (downwards sp y n reply) i) [
      | inl j ↦ elim (s.outs o j) [ inl up ↦ inl up | inr down ↦ inr (down.0, inr down.1, down.2, down.3) ]
      | inr j ↦ inr (by (asked_at_all y.asked n) refl o j)
    ];
  }
    where
      by : (b : Bool) → asked_at_all y.asked n ≡ b → (o : Seat × M) → In o (cond b (to_all sp.downs reply) []) → (k : ℕ) × In (k, o.1) ((n, reply) ∷ y.held) × WasHeard (IsAgreed sp k) (Heard from m ∷ h) × (In o.0 sp.downs ⊎ IsAgreedBy sp o.0 k from m)
      by true e o j =
          let to = In-to_all sp.downs reply o j in
          let asked : asked_at_all (kept (filter_role sp) (Heard from m ∷ h)).asked n ≡ true = ap (λ (asked : List (Seat × ℕ)). asked_at_all asked n) (sym s.asked) ∙ e in
          (n, inl (ap (λ (r : M). (n, r)) to.1), (number_asked_is sp (Heard from m ∷ h) n).0 asked, inl to.0)
      by false e o j = absurd j

  sent_agreed : (from : Seat) (m : M) (h : List (Input M O)) (o : Option ℕ) → sp.agreed from m ≡ o
      → Sent from m h (hear_agreed sp (kept (filter_role sp) h) from m (sp.agreed from m)).0 (hear_agreed sp (kept (filter_role sp) h) from m o).1
  sent_agreed from m h o e = record { asked = sym (asked_after sp (kept (filter_role sp) h) from m); outs = outs o e }
    where
      x : Filter M V
      x = kept (filter_role sp) h

      up : (n : ℕ) → sp.agreed from m ≡ Some n → held_of (kept (filter_role sp) h).held n ≡ None → (b : Bool) → (not (asked_at_all (kept (filter_role sp) h).asked n) || sent_before (kept (filter_role sp) h).asked from n) ≡ b
          → (p : Seat × M) → In p (cond b (to_all sp.ups m) []) → GoesUp sp (kept (filter_role sp) h) p from m
      up n e u true f p i = let to = In-to_all sp.ups m p i in record { number = n; agreed = e; unheld = u; first = f; to = to.0; same = to.1 }
      up n e u false f p i = absurd i

      outs : (o : Option ℕ) → sp.agreed from m ≡ o → (p : Seat × M) → In p (hear_agreed sp (kept (filter_role sp) h) from m o).1
          → GoesUp sp (kept (filter_role sp) h) p from m ⊎ ((n : ℕ) × In (n, p.1) (hear_agreed sp (kept (filter_role sp) h) from m (sp.agreed from m)).0.held × WasHeard (IsAgreed sp n) (Heard from m ∷ h) × (In p.0 sp.downs ⊎ IsAgreedBy sp p.0 n from m))
      outs None e p i = absurd i
      outs (Some n) e p i = answered (held_of (kept (filter_role sp) h).held n) refl p i
        where
          answered : (r : Option M) → held_of (kept (filter_role sp) h).held n ≡ r → (p : Seat × M) → In p (answers sp (kept (filter_role sp) h) from n m r)
              → GoesUp sp (kept (filter_role sp) h) p from m ⊎ ((n : ℕ) × In (n, p.1) (hear_agreed sp (kept (filter_role sp) h) from m (sp.agreed from m)).0.held × WasHeard (IsAgreed sp n) (Heard from m ∷ h) × (In p.0 sp.downs ⊎ IsAgreedBy sp p.0 n from m))
          answered None u p i = inl (up n e u (not (asked_at_all (kept (filter_role sp) h).asked n) || sent_before (kept (filter_role sp) h).asked from n) refl p i)
          answered (Some reply) u p (inl s) =
              let held : In (n, reply) (hear_agreed sp (kept (filter_role sp) h) from m (sp.agreed from m)).0.held = subst (In (n, reply)) (sym (agreed_held sp (kept (filter_role sp) h) from m (sp.agreed from m))) (held-in (kept (filter_role sp) h).held n reply u) in
              inr (n, subst (λ (r : M). In (n, r) (hear_agreed sp (kept (filter_role sp) h) from m (sp.agreed from m)).0.held) (sym (ap (λ (q : Seat × M). q.1) s)) held, inl e, inr (sym (ap (λ (q : Seat × M). q.0) s), e))
          answered (Some reply) u p (inr i) = absurd i

  sent_message : (from : Seat) (m : M) (h : List (Input M O)) → Sent from m h (on_message sp (kept (filter_role sp) h) from m).0 (on_message sp (kept (filter_role sp) h) from m).1
  sent_message from m h =
      let sent : Filter M V → Sends M → Type 0 = λ y out. Sent from m h y out in
      message_keeps sp from m sent sent sent (record {
        known = λ y out k a. a;
        replied = λ y out n e u a. sent_down from m h y out n m a;
        done = λ y out k b. b;
        shared = λ y out s e u b. record { asked = b.asked; outs = b.outs };
        made = λ y out n reply e u c. sent_down from m h y out n reply c;
      }) (kept (filter_role sp) h) (sent_agreed from m h (sp.agreed from m) refl)

  -- all that is sent goes up as it was heard, or is a held reply that goes down after it was asked for
  pub sends_are : (i : Input M O) (h : List (Input M O)) (o : Seat × M) → In o (sends (filter_role sp) (i ∷ h)) → HeardNow (GoesUp sp (kept (filter_role sp) h) o) i ⊎ GoesDown sp i h o
  sends_are (Heard from m) h o there = elim ((sent_message from m h).outs o there) [
    | inl up ↦ inl up
    | inr down ↦ inr (record { number = down.0; held = down.1; asked = down.2; to = down.3 })
  ]
  sends_are Tick h o there = absurd there
  sends_are (Submitted op) h o there = absurd there

  -- ---- what is owed

  owed_now : (from : Seat) (m : M) (h : List (Input M O)) (n : ℕ) (seat : Seat) → held_of (kept (filter_role sp) h).held n ≡ None → IsOwed sp n seat (Heard from m ∷ h) → (IsOwed sp n seat h → In seat sp.downs) → In seat sp.downs
  owed_now from m h n seat u (inl now) was = (subst (λ (r : Option M). Owes sp n seat r from m) u now).1
  owed_now from m h n seat u (inr w) was = was w

  -- a reply that isn't held is owed to the seats below alone
  owed_below : (h : List (Input M O)) (n : ℕ) (seat : Seat) → held_of (kept (filter_role sp) h).held n ≡ None → IsOwed sp n seat h → In seat sp.downs
  owed_below [] n seat u w = absurd w
  owed_below (Heard from m ∷ h) n seat u w =
      let g = held_grows sp (kept (filter_role sp) h) from m in
      let before : held_of (kept (filter_role sp) h).held n ≡ None = unheld-front g.0 (kept (filter_role sp) h).held n (sym (ap (λ (held : List (ℕ × M)). held_of held n) g.1) ∙ u) in
      owed_now from m h n seat before w (owed_below h n seat before)
  owed_below (Tick ∷ h) n seat u w = elim w [ inl a ↦ absurd a | inr was ↦ owed_below h n seat u was ]
  owed_below (Submitted op ∷ h) n seat u w = elim w [ inl a ↦ absurd a | inr was ↦ owed_below h n seat u was ]

  owed_asked : (h : List (Input M O)) (n : ℕ) (seat : Seat) → IsOwed sp n seat h → WasHeard (IsAgreed sp n) h
  owed_asked [] n seat w = absurd w
  owed_asked (Heard from m ∷ h) n seat w = elim w [ inl now ↦ inl (owes_agreed sp n seat (held_of (kept (filter_role sp) h).held n) from m now) | inr was ↦ inr (owed_asked h n seat was) ]
  owed_asked (Tick ∷ h) n seat w = elim w [ inl a ↦ absurd a | inr was ↦ inr (owed_asked h n seat was) ]
  owed_asked (Submitted op ∷ h) n seat w = elim w [ inl a ↦ absurd a | inr was ↦ inr (owed_asked h n seat was) ]

  -- of what was sent so far on a message, or before it
  record Paid (from : Seat) (m : M) (h : List (Input M O)) (y : Filter M V) (out : Sends M) : Type 0 where
    asked : y.asked ≡ (kept (filter_role sp) (Heard from m ∷ h)).asked
    unheld : (n : ℕ) → held_of y.held n ≡ None → held_of (kept (filter_role sp) h).held n ≡ None
    paid : (n : ℕ) (reply : M) (seat : Seat) → In (n, reply) y.held → IsOwed sp n seat (Heard from m ∷ h) → In (seat, reply) out ⊎ EverSent (sends (filter_role sp)) h (seat, reply)

  paid_agreed : (from : Seat) (m : M) (h : List (Input M O)) → ((n : ℕ) (reply : M) (seat : Seat) → In (n, reply) (kept (filter_role sp) h).held → IsOwed sp n seat h → EverSent (sends (filter_role sp)) h (seat, reply))
      → Paid from m h (hear_agreed sp (kept (filter_role sp) h) from m (sp.agreed from m)).0 (hear_agreed sp (kept (filter_role sp) h) from m (sp.agreed from m)).1
  paid_agreed from m h before = record {
    asked = sym (asked_after sp (kept (filter_role sp) h) from m);
    unheld = λ n u. ap (λ (held : List (ℕ × M)). held_of held n) (sym same) ∙ u;
    paid = λ n reply seat i w. (
        let held : In (n, reply) (kept (filter_role sp) h).held = subst (In (n, reply)) same i in
        elim w [ inl now ↦ inl (pays n reply seat held now) | inr was ↦ inr (before n reply seat held was) ]);
  }
    where
      same : (hear_agreed sp (kept (filter_role sp) h) from m (sp.agreed from m)).0.held ≡ (kept (filter_role sp) h).held
      same = agreed_held sp (kept (filter_role sp) h) from m (sp.agreed from m)

      pays : (n : ℕ) (reply : M) (seat : Seat) → In (n, reply) (kept (filter_role sp) h).held → Owes sp n seat (held_of (kept (filter_role sp) h).held n) from m → In (seat, reply) (hear_agreed sp (kept (filter_role sp) h) from m (sp.agreed from m)).1
      pays n reply seat i now =
          let x = kept (filter_role sp) h in
          let held : held_of x.held n ≡ Some reply = in-held x.held n reply (held_once sp h) i in
          let owes : Owes sp n seat (Some reply) from m = subst (λ (r : Option M). Owes sp n seat r from m) held now in
          subst (λ (o : Option ℕ). In (seat, reply) (hear_agreed sp x from m o).1) (sym owes.0)
          (subst (λ (r : Option M). In (seat, reply) (answers sp x from n m r)) (sym held) (inl (ap (λ (s : Seat). (s, reply)) (sym owes.1))))

  paid_down : (from : Seat) (m : M) (h : List (Input M O)) (y : Filter M V) (out : Sends M) (n : ℕ) (reply : M) → held_of y.held n ≡ None → Paid from m h y out → Paid from m h (with_held y n reply) (out ++ downwards sp y n reply)
  paid_down from m h y out n reply u p = record {
    asked = p.asked;
    unheld = λ k e. p.unheld k (unheld-front ((n, reply) ∷ []) y.held k e);
    paid = λ k r seat i w. elim i [
      | inl e ↦
          let owed : IsOwed sp n seat (Heard from m ∷ h) = subst (λ (j : ℕ). IsOwed sp j seat (Heard from m ∷ h)) (ap (λ (v : ℕ × M). v.0) e) w in
          let below = owed_now from m h n seat (p.unheld n u) owed (owed_below h n seat (p.unheld n u)) in
          let asked : asked_at_all y.asked n ≡ true = ap (λ (asked : List (Seat × ℕ)). asked_at_all asked n) p.asked ∙ (number_asked_is sp (Heard from m ∷ h) n).1 (owed_asked (Heard from m ∷ h) n seat owed) in
          let down : In (seat, reply) (downwards sp y n reply) = subst (λ (b : Bool). In (seat, reply) (cond b (to_all sp.downs reply) [])) (sym asked) (to_all-In sp.downs reply seat below) in
          inl (subst (λ (v : M). In (seat, v) (out ++ downwards sp y n reply)) (sym (ap (λ (v : ℕ × M). v.1) e)) (In-right (seat, reply) out (downwards sp y n reply) down))
      | inr there ↦ elim (p.paid k r seat there w) [ inl j ↦ inl (In-left (seat, r) out (downwards sp y n reply) j) | inr s ↦ inr s ]
    ];
  }

  -- each reply that is held was sent to each seat that it is owed to
  pub owed_sent : (h : List (Input M O)) (n : ℕ) (reply : M) (seat : Seat) → In (n, reply) (kept (filter_role sp) h).held → IsOwed sp n seat h → EverSent (sends (filter_role sp)) h (seat, reply)
  owed_sent [] n reply seat i w = absurd w
  owed_sent (Heard from m ∷ h) n reply seat i w =
      let paid : Filter M V → Sends M → Type 0 = λ y out. Paid from m h y out in
      let all = message_keeps sp from m paid paid paid (record {
        known = λ y out k a. a;
        replied = λ y out k e u a. paid_down from m h y out k m u a;
        done = λ y out k b. b;
        shared = λ y out s e u b. record { asked = b.asked; unheld = b.unheld; paid = b.paid };
        made = λ y out k r e u c. paid_down from m h y out k r u c;
      }) (kept (filter_role sp) h) (paid_agreed from m h (owed_sent h)) in
      all.paid n reply seat i w
  owed_sent (Tick ∷ h) n reply seat i w = elim w [ inl a ↦ absurd a | inr was ↦ inr (owed_sent h n reply seat i was) ]
  owed_sent (Submitted op ∷ h) n reply seat i w = elim w [ inl a ↦ absurd a | inr was ↦ inr (owed_sent h n reply seat i was) ]

  below_owed : (h : List (Input M O)) (n : ℕ) (seat : Seat) → In seat sp.downs → WasHeard (IsAgreedBy sp seat n) h → IsOwed sp n seat h
  below_owed [] n seat below w = absurd w
  below_owed (Heard from m ∷ h) n seat below w = elim w [ inl now ↦ inl (by (held_of (kept (filter_role sp) h).held n) now) | inr was ↦ inr (below_owed h n seat below was) ]
    where
      by : (r : Option M) → IsAgreedBy sp seat n from m → Owes sp n seat r from m
      by None now = (now.1, below)
      by (Some reply) now = (now.1, now.0)
  below_owed (Tick ∷ h) n seat below w = elim w [ inl a ↦ absurd a | inr was ↦ inr (below_owed h n seat below was) ]
  below_owed (Submitted op ∷ h) n seat below w = elim w [ inl a ↦ absurd a | inr was ↦ inr (below_owed h n seat below was) ]

  -- a reply that is held was sent to each seat below that has asked for it
  pub asked_was_answered : (h : List (Input M O)) (n : ℕ) (reply : M) (seat : Seat) → In (n, reply) (kept (filter_role sp) h).held → In seat sp.downs → In (seat, n) (kept (filter_role sp) h).asked → EverSent (sends (filter_role sp)) h (seat, reply)
  asked_was_answered h n reply seat held below asked = owed_sent h n reply seat held (below_owed h n seat below ((asked_is sp h seat n).0 asked))

  -- ---- what holds of all that is sent

  module _ (G C : M → Type 0) (S : Share V → Type 0) (combined : (n : ℕ) (shares : List (Share V)) (m : M) → ((s : Share V) → In s shares → S s) → AreApart shares → sp.combined n shares ≡ Some m → C m)
      (K : Seat → M → Type 0) (up : (from : Seat) (m : M) (n : ℕ) → K from m → sp.agreed from m ≡ Some n → G m) (down : (from : Seat) (m : M) (n : ℕ) → K from m → sp.replied from m ≡ Some n → C m)
      (shared : (from : Seat) (m : M) (s : Share V) → K from m → sp.shared from m ≡ Some s → S s) where
    made_holds : (h : List (Input M O)) → AllHeard K h → (n : ℕ) (reply : M) → WasMade sp n reply h → C reply
    made_holds [] k n reply w = absurd w
    made_holds (i ∷ h) k n reply (inl now) =
        combined n (kept (filter_role sp) (i ∷ h)).shares reply
        (λ s there. heard_holds K (IsShare sp s) (S s) (λ from m a e. shared from m s a e) (i ∷ h) k (shares_heard sp (i ∷ h) s there)) (shares_apart sp (i ∷ h)) now
    made_holds (i ∷ h) k n reply (inr was) = made_holds h k.1 n reply was

    -- each reply that is held is one that may go down
    pub held_holds : (h : List (Input M O)) → AllHeard K h → (n : ℕ) (reply : M) → In (n, reply) (kept (filter_role sp) h).held → C reply
    held_holds h k n reply i = elim (held_comes sp h n reply i) [
      | inl w ↦ heard_holds K (IsThisReply sp n reply) (C reply) (λ from m a e. subst C e.0 (down from m n a e.1)) h k w
      | inr made ↦ made_holds h k n reply made
    ]

    up_holds : (x : Filter M V) (o : Seat × M) (i : Input M O) → Hears K i → HeardNow (GoesUp sp x o) i → FilterOut sp G C o
    up_holds x o (Heard from m) k g = inl (g.to, subst G (sym g.same) (up from m g.number k g.agreed))
    up_holds x o Tick k g = absurd g
    up_holds x o (Submitted op) k g = absurd g

    pub filter_sends : (h : List (Input M O)) → AllHeard K h → (o : Seat × M) → In o (sends (filter_role sp) h) → FilterOut sp G C o
    filter_sends [] k o there = absurd there
    filter_sends (i ∷ h) k o there = elim (sends_are i h o there) [
      | inl g ↦ up_holds (kept (filter_role sp) h) o i k.0 g
      | inr g ↦ inr (held_holds (i ∷ h) k g.number o.1 g.held)
    ]
