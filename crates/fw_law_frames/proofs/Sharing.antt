-- All that an executor sends are shares and wants of the deployment, and agreed frames as it heard them.
use Rattle.std.proofs.Common.{ℕ, suc, ◌+◌, ◌<◌, ◌≤◌, ◌≡◌, ◌⊎◌, ◌&&◌, inl, inr, Bool, true, false, cond, not, nat_lt, nat_le, List, [], ◌∷◌, length, map, Option, Some, None, is_some, IsTrue, arith, refl, sym, ap, subst}
use Rattle.std.proofs.lemmas.Bool.{and_parts, and_from, or_left, or_right, or_cases, lt-ltb, ltb-true, le-leb, leb-true, eq-eqb}
use Rattle.std.proofs.lemmas.Option.{none-some, same_Some}
use Rattle.fw_list.specs.declared.limits.TheConstants.{BODY_LEN, SIGNATURE_LEN}
use Rattle.fw_list.specs.Numbers.{within}
use Rattle.fw_base.specs.declared.params.Params.{Params}
use Rattle.fw_base.specs.declared.seat.Seat.{Seat}
use Rattle.fw_base.specs.declared.seat.Seat.TheVariants as seats
use Rattle.fw_base.specs.declared.slot.Slot.TheVariants as slots
use Rattle.fw_base.specs.Seats.{fits, linked}
use Rattle.fw_base.specs.Sizes.{executors}
use Rattle.fw_op.specs.declared.op.Op.{Op}
use Rattle.fw_op.specs.declared.start.Start.{Start}
use Rattle.fw_trace.specs.declared.Input.{Input}
use Rattle.fw_trace.specs.declared.Input.TheVariants.{Heard, Tick, Submitted}
use Rattle.fw_trace.specs.Lists.{In, first_at}
use Rattle.fw_trace.specs.Role.{sends}
use Rattle.fw_trace.specs.Client.{to_all}
use Rattle.fw_trace.specs.Executor.{Executor, entry_of, frame_of, option_sends, keep, execute_on, sent_before, hear_agreed, hear_want, keeps_above, executor_role}
use Rattle.fw_trace.proofs.Words.{In-append}
use Rattle.fw_source.specs.Sources.{AllHeard}
use Rattle.fw_source.proofs.Source.{AllHeard-weaken}
use Rattle.fw_source.proofs.Listed.{first_at-in, In-to_all}
use Rattle.fw_frame.specs.Ranges.{asker_fits, body_fits, values_fit, view_fits, number_fits, entry_fits, signers_fit, answer_fits}
use Rattle.fw_frame.specs.View.{Entry, Frame, Agrees, Shares, Wants, plain_entry_of, plain_signer_of, null_body}
use Rattle.fw_frame.proofs.Fields.{three, four}
use Rattle.fw_ref.specs.Reference.{Reference, Replied}
use Rattle.fw_law_words.proofs.Tests.{when-some}
use Rattle.fw_law_words.proofs.Lists.{numbers-In}
use Rattle.fw_law_words.proofs.Roles.{admits}
use Rattle.fw_law_exec.specs.Executed.{state_of, fold_of}
use Rattle.fw_law_exec.proofs.Folds as folds
use Rattle.fw_law_exec.proofs.Kept.{count_of}
use Rattle.fw_law_exec.proofs.Turns.{ran}
use Rattle.fw_law_exec.proofs.Histories.{executes_always, heard_always, stays_always}
use Rattle.fw_law_exec.proofs.Telling.{entry_told, frame_told}
use Rattle.fw_rules.specs.Means.{Means, Bodies}
use Rattle.fw_rules.specs.Roles.{share_of, step_all, agreed_frame, executor_speech}
use Rattle.fw_law_filter.specs.Heard.{WasHeard}
use Rattle.fw_law_sources.specs.Sources.{IsAgreedFrame, IsShareFrame, IsWantFrame, IsPassed}
use Rattle.fw_law_sources.specs.Executed.{share_part, IsOwnShare}
use Rattle.fw_law_sources.proofs.Passing.{was_heard}
use Rattle.fw_law_frames.specs.Plain.{IsPlain, MakesPlain, SealsWhole}
use Rattle.fw_law_frames.specs.Sent.{IsPlainMade, IsPlainBare}
use Rattle.fw_law_frames.proofs.Fitting.{IsFit, single, plain_from}

-- ---- words

-- all of a history stands in it
all_there : {M O : Type 0} (h : List (Input M O)) → AllHeard (λ from m. In (Heard from m) h) h
all_there [] = tt
all_there (Heard from m ∷ h) =
    (inl refl, AllHeard-weaken (λ f n. In (Heard f n) h) (λ f n. In (Heard f n) (Heard from m ∷ h)) (λ f n i. inr i) h (all_there h))
all_there (Tick ∷ h) = (tt, AllHeard-weaken (λ f n. In (Heard f n) h) (λ f n. In (Heard f n) (Tick ∷ h)) (λ f n i. inr i) h (all_there h))
all_there (Submitted op ∷ h) =
    (tt, AllHeard-weaken (λ f n. In (Heard f n) h) (λ f n. In (Heard f n) (Submitted op ∷ h)) (λ f n i. inr i) h (all_there h))

option_out : {M : Type 0} (seat : Seat) (found : Option M) (o : Seat × M) → In o (option_sends seat found) → found ≡ Some o.1
option_out seat None o i = absurd i
option_out seat (Some m) o (inl e) = sym (ap (λ (u : Seat × _). Some u.1) e)
option_out seat (Some m) o (inr i) = absurd i

-- one above a number is kept
above_in : {M E : Type 0} (kept : List (ℕ × E × M)) (n : ℕ) → keeps_above kept n ≡ true → (u : ℕ × E × M) × In u kept × (n < u.0)
above_in [] n e = cc
above_in (u ∷ kept) n e = elim (or_cases (nat_lt n u.0) (keeps_above kept n) e) [
  | inl t ↦ (u, inl refl, ltb-true n u.0 t)
  | inr t ↦ let rest = above_in kept n t in (rest.0, inr rest.1, rest.2)
]

-- the null answer
null_fits : (p : Params) → IsTrue (answer_fits p 0 0 null_body)
unfolding null_body
null_fits p = and_from (body_fits null_body) _ refl (or_right (asker_fits p 0 0) _ refl)

-- a number of the list, and an entry in range
abbrev At : Params → ℕ → Entry → Type 0
At p n entry = IsTrue (number_fits p n) × IsFit p entry

agreed_kind : (from : Seat) (v : Frame) (a : ℕ × Entry) → agreed_frame from v ≡ Some a → IsAgreedFrame v
agreed_kind (seats.Filter r c) (Agrees x) a e = (x, refl)
agreed_kind (seats.Exec j) (Agrees x) a e = (x, refl)
agreed_kind _ _ a e = absurd (none-some a e)

agreed_at : (p : Params) (from : Seat) (v : Frame) (a : ℕ × Entry) → IsPlain p v → agreed_frame from v ≡ Some a → At p a.0 a.1
agreed_at p (seats.Filter r c) (Agrees x) a plain e =
    let f = four (view_fits p x.view) (number_fits p x.number) (entry_fits p (plain_entry_of x.entry)) (signers_fit p (map plain_signer_of x.signers)) plain.fits in
    subst (λ (u : ℕ × Entry). At p u.0 u.1) (same_Some (x.number, x.entry) a e) (f.1, (single p (Agrees x) plain, f.2))
agreed_at p (seats.Exec j) (Agrees x) a plain e =
    let f = four (view_fits p x.view) (number_fits p x.number) (entry_fits p (plain_entry_of x.entry)) (signers_fit p (map plain_signer_of x.signers)) plain.fits in
    subst (λ (u : ℕ × Entry). At p u.0 u.1) (same_Some (x.number, x.entry) a e) (f.1, (single p (Agrees x) plain, f.2))
agreed_at p _ _ a plain e = absurd (none-some a e)

module _ {M : Type 0} (k : Means M) (b : Bodies) (starts : List Start) (j : ℕ) (makes : MakesPlain k (seats.Exec j)) (seals : SealsWhole k.params b (seats.Exec j)) (small : j < executors k.params) where
  -- ---- shares

  values_whole : (n : ℕ) (text : _) → IsTrue (number_fits k.params n) → IsTrue (values_fit (k.sign (slots.Reply n) (j + 1) text))
  values_whole n text number = eq-eqb (length (k.sign (slots.Reply n) (j + 1) text)) SIGNATURE_LEN (makes.signs (slots.Reply n) (j + 1) text number refl)

  share_plain : (n : ℕ) (m : Reference) (entry : Entry) → At k.params n entry → IsPlain k.params (Shares (share_of k b j n (step_all b m entry).0))
  share_plain n m [] at =
      plain_from k.params (Shares (share_of k b j n (step_all b m []).0))
      (and_from _ _
      (and_from _ _ (and_from _ _ at.0 (lt-ltb j (executors k.params) small)) (null_fits k.params))
      (values_whole n _ at.0)) refl
  share_plain n m (r ∷ []) at =
      let p = k.params in
      let f = three (asker_fits p r.client r.stamp) (body_fits r.body) (values_fit r.sig) at.1.1 in
      let asker = and_parts (nat_lt r.client p.clients) (within 1 r.stamp p.stamps) f.0 in
      let below = ltb-true r.client p.clients asker.0 in
      let sealed = seals.replies r.client n _ (numbers-In r.client 0 p.clients (omega arith) (omega (arith, below))) in
      plain_from p (Shares (share_of k b j n (step_all b m (r ∷ [])).0))
      (and_from _ _
      (and_from _ _ (and_from _ _ at.0 (lt-ltb j (executors p) small)) (and_from _ _ (eq-eqb _ BODY_LEN sealed) (or_left (asker_fits p r.client r.stamp) _ f.0)))
      (values_whole n _ at.0))
      (and_from (nat_le 1 r.stamp) true (and_parts (nat_le 1 r.stamp) (nat_le r.stamp p.stamps) asker.1).0 refl)
  share_plain n m (r ∷ s ∷ rs) at = absurd (omega (arith, leb-true (length (r ∷ s ∷ rs)) 1 at.1.0))

  want_plain : (n most : ℕ) → 1 ≤ n → n < most → IsTrue (number_fits k.params most) → IsPlain k.params (Wants n)
  want_plain n most low high number =
      let top = leb-true most k.params.numbers (and_parts (nat_le 1 most) (nat_le most k.params.numbers) number).1 in
      record { fits = and_from _ _ (le-leb 1 n low) (le-leb n k.params.numbers (omega (arith, high, top))); seen = refl }

  -- ---- what it heard

  -- a message that it passes on as it heard it
  abbrev Passed : List (Input M Op) → M → Type 0
  Passed h m = WasHeard (IsPassed k (seats.Exec j) IsAgreedFrame m) h

  telling : (h : List (Input M Op)) (from : Seat) (m : M) (a : ℕ × Entry) → In (Heard from m) h → (executor_speech k b starts j).agreed from m ≡ Some a → At k.params a.0 a.1 × Passed h m
  telling h from m a there e =
      let w = admits k (seats.Exec j) from m (agreed_frame from) a e in
      let plain = makes.reads m w.frame (when-some (fits k.params from && linked k.params from (seats.Exec j)) (k.read m) w.frame w.read).1 in (
        agreed_at k.params from w.frame a plain w.gives,
        was_heard (IsPassed k (seats.Exec j) IsAgreedFrame m) h from m (record { same = refl; frame = w.frame; read = w.read; kind = agreed_kind from w.frame a w.gives }) there,
      )

  -- ---- what it sends

  abbrev Share : List (Input M Op) → M → Type 0
  Share h m = IsPlainMade k IsShareFrame (IsOwnShare k b starts j h) m

  share_out : (h : List (Input M Op)) (s : ℕ × M) → In s (state_of (executor_speech k b starts j) h).shares → Share h s.1
  share_out h s i =
      let sp = executor_speech k b starts j in
      let x = state_of sp h in
      let r = folds.share_of sp (entry_of x.kept) x.done s (subst (In s) (executes_always sp h).shares i) in
      let at = entry_told sp (At k.params) (Passed h) (λ from m. In (Heard from m) h) (telling h) h (all_there h) (r.before + 1) r.entry r.there in
      let replies = (step_all b (fold_of sp (entry_of x.kept) r.before) r.entry).0 in
      let share = share_of k b j (r.before + 1) replies in
      let part = share_part k b j (r.before + 1) replies in
      record {
        made = record {
          frame = Shares share;
          written = r.is;
          kind = (share, refl {a = Shares share});
          part = part;
          one = refl {a = part ∷ []};
          own = record { before = r.before; entry = r.entry; executed = r.within; there = r.there; is = refl {a = part} };
        };
        plain = share_plain (r.before + 1) _ r.entry at;
      }

  -- a share of before, after one more input
  share_again : (i : Input M Op) (h : List (Input M Op)) (seat : Seat) (n : ℕ) (o : Seat × M) → In o (option_sends seat (first_at (λ (s : ℕ × M). Some s) (state_of (executor_speech k b starts j) h).shares n)) → Share (i ∷ h) o.1
  share_again i h seat n o there =
      let sp = executor_speech k b starts j in
      let shares = (state_of sp h).shares in
      let at = first_at-in (λ (s : ℕ × M). Some s) shares n o.1 (option_out seat (first_at (λ (s : ℕ × M). Some s) shares n) o there) in
      share_out (i ∷ h) (n, o.1) ((stays_always sp (i ∷ []) h).shares (n, o.1) (subst (λ (s : ℕ × M). In s shares) (same_Some at.item (n, o.1) at.read) at.inside))

  by_test : (i : Input M Op) (h : List (Input M Op)) (seat : Seat) (n : ℕ) (o : Seat × M) (again : Bool) → In o (cond again (option_sends seat (first_at (λ (s : ℕ × M). Some s) (state_of (executor_speech k b starts j) h).shares n)) []) → Share (i ∷ h) o.1
  by_test i h seat n o true there = share_again i h seat n o there
  by_test i h seat n o false there = absurd there

  agreed_out : (h : List (Input M Op)) (from : Seat) (m : M) (o : Seat × M) (a : Option (ℕ × Entry)) → (executor_speech k b starts j).agreed from m ≡ a → In o (hear_agreed (executor_speech k b starts j) (state_of (executor_speech k b starts j) h) from m a).1 → Share (Heard from m ∷ h) o.1
  agreed_out h from m o None e i = absurd i
  agreed_out h from m o (Some a) e i =
      let sp = executor_speech k b starts j in
      let x = state_of sp h in
      let noted : Executor M Entry (List Replied) Reference = record x { kept = keep x.kept (a.0, a.1, m); from = cond (sp.is_filter from) ((from, a.0) ∷ x.from) x.from } in
      let turns = suc (count_of noted.kept) in
      let again = sp.is_filter from && nat_le a.0 x.done && sent_before x.from from a.0 in
      elim (In-append o (execute_on sp turns noted).1 (cond again (option_sends from (first_at (λ (s : ℕ × M). Some s) x.shares a.0)) []) i) [
        | inl new ↦
            let s = (ran sp turns noted).outs o new in
            share_out (Heard from m ∷ h) (s.1.0, o.1) (subst (λ (found : Option (ℕ × Entry)). In (s.1.0, o.1) (hear_agreed sp x from m found).0.shares) (sym e) s.1.1)
        | inr old ↦ by_test (Heard from m) h from a.0 o again old
      ]

  want_out : (h : List (Input M Op)) (from : Seat) (o : Seat × M) (n : Option ℕ) → In o (hear_want (state_of (executor_speech k b starts j) h) from n) → Passed h o.1
  want_out h from o None i = absurd i
  want_out h from o (Some n) i =
      let sp = executor_speech k b starts j in
      frame_told sp (At k.params) (Passed h) (λ from m. In (Heard from m) h) (telling h) h (all_there h) n o.1 (option_out from (frame_of (state_of sp h).kept n) o i)

  tick_out : (h : List (Input M Op)) (o : Seat × M) (test : Bool) → (not (is_some (entry_of (state_of (executor_speech k b starts j) h).kept ((state_of (executor_speech k b starts j) h).done + 1))) && keeps_above (state_of (executor_speech k b starts j) h).kept ((state_of (executor_speech k b starts j) h).done + 1)) ≡ test
      → In o (cond test (to_all (executor_speech k b starts j).others ((executor_speech k b starts j).want ((state_of (executor_speech k b starts j) h).done + 1))) []) → IsPlainBare k IsWantFrame o.1
  tick_out h o false e i = absurd i
  tick_out h o true e i =
      let sp = executor_speech k b starts j in
      let x = state_of sp h in
      let n = x.done + 1 in
      let over = above_in x.kept n (and_parts (not (is_some (entry_of x.kept n))) (keeps_above x.kept n) e).1 in
      let was = heard_always sp h over.0 over.1 in
      let at = (telling h was.0 over.0.2 (over.0.0, over.0.1) was.1 was.2).0 in
      record {
        made = record { frame = Wants n; written = (In-to_all sp.others (sp.want n) o i).1; kind = (n, refl); bare = refl };
        plain = want_plain n over.0.0 (omega arith) over.2 at.0;
      }

  pub executor_plain : (h : List (Input M Op)) (o : Seat × M) → In o (sends (executor_role (executor_speech k b starts j)) h)
      → IsPlainMade k IsShareFrame (IsOwnShare k b starts j h) o.1 ⊎ (IsPlainBare k IsWantFrame o.1 ⊎ WasHeard (IsPassed k (seats.Exec j) IsAgreedFrame o.1) h)
  executor_plain [] o i = absurd i
  executor_plain (Submitted op ∷ h) o i = absurd i
  executor_plain (Tick ∷ h) o i = inr (inl (tick_out h o _ refl i))
  executor_plain (Heard from m ∷ h) o i =
      let sp = executor_speech k b starts j in
      let x = state_of sp h in
      elim (In-append o (hear_agreed sp x from m (sp.agreed from m)).1 (hear_want x from (sp.wanted from m)) i) [
        | inl new ↦ inl (agreed_out h from m o (sp.agreed from m) refl new)
        | inr frame ↦ inr (inr (inr (want_out h from o (sp.wanted from m) frame)))
      ]
