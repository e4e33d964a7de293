-- Each list of shares that an executor sends is its own, of a number that it executed, or stood in an agreed frame that it passes on.
use Rattle.std.proofs.Common.{ℕ, ◌+◌, ◌≡◌, ◌⊎◌, inl, inr, List, [], ◌∷◌, Some, refl, subst}
use Rattle.std.proofs.lemmas.Option.{none-some, same_Some}
use Rattle.fw_base.specs.declared.seat.Seat.{Seat}
use Rattle.fw_base.specs.declared.seat.Seat.TheVariants as seats
use Rattle.fw_op.specs.declared.op.Op.{Op}
use Rattle.fw_op.specs.declared.start.Start.{Start}
use Rattle.fw_trace.specs.declared.Input.{Input}
use Rattle.fw_trace.specs.Lists.{In}
use Rattle.fw_trace.specs.Role.{sends}
use Rattle.fw_trace.specs.Executor.{entry_of, executor_role}
use Rattle.fw_source.proofs.Listed.{first_at-in}
use Rattle.fw_frame.specs.View.{Entry, Frame, Agrees, Shares, Wants}
use Rattle.fw_rules.specs.Means.{Means, Bodies}
use Rattle.fw_rules.specs.Roles.{share_of, step_all, agreed_frame, executor_speech}
use Rattle.fw_law_words.proofs.Roles.{admits}
use Rattle.fw_law_filter.specs.Heard.{WasHeard}
use Rattle.fw_law_exec.specs.Executed.{state_of, fold_of, SendsOnly}
use Rattle.fw_law_exec.proofs.Folds as folds
use Rattle.fw_law_exec.proofs.Histories.{executes_always, heard_always, all_sent}
use Rattle.fw_law_sources.specs.Sources.{IsAgreedFrame, IsShareFrame, IsWantFrame, IsPassed, IsMade, IsBare, IsSourcedOrPassed}
use Rattle.fw_law_sources.specs.Executed.{share_part, IsOwnShare}
use Rattle.fw_law_sources.proofs.Passing.{was_heard, made_sourced, bare_sourced}

is_agreement : (from : Seat) (v : Frame) (a : ℕ × Entry) → agreed_frame from v ≡ Some a → IsAgreedFrame v
is_agreement (seats.Filter r c) (Agrees x) a e = (x, refl)
is_agreement (seats.Exec j) (Agrees x) a e = (x, refl)
is_agreement _ _ a e = absurd (none-some a e)

module _ {M : Type 0} (k : Means M) (b : Bodies) (starts : List Start) (j : ℕ) where
  -- a share that it made, a want, or an agreed frame as it was heard
  abbrev Sends : List (Input M Op) → M → Type 0
  Sends h m = IsMade k IsShareFrame (IsOwnShare k b starts j h) m ⊎ (IsBare k IsWantFrame m ⊎ WasHeard (IsPassed k (seats.Exec j) IsAgreedFrame m) h)

  share_made : (h : List (Input M Op)) (s : ℕ × M) → In s (state_of (executor_speech k b starts j) h).shares → IsMade k IsShareFrame (IsOwnShare k b starts j h) s.1
  share_made h s i =
      let sp = executor_speech k b starts j in
      let x = state_of sp h in
      let r = folds.share_of sp (entry_of x.kept) x.done s (subst (In s) (executes_always sp h).shares i) in
      let replies = (step_all b (fold_of sp (entry_of x.kept) r.before) r.entry).0 in
      record {
        frame = Shares (share_of k b j (r.before + 1) replies);
        written = r.is;
        kind = (share_of k b j (r.before + 1) replies, refl);
        part = share_part k b j (r.before + 1) replies;
        one = refl;
        own = record { before = r.before; entry = r.entry; executed = r.within; there = r.there; is = refl };
      }

  frame_passed : (h : List (Input M Op)) (p : ℕ × Entry × M) → In p (state_of (executor_speech k b starts j) h).kept → WasHeard (IsPassed k (seats.Exec j) IsAgreedFrame p.2) h
  frame_passed h p i =
      let w = heard_always (executor_speech k b starts j) h p i in
      let a = admits k (seats.Exec j) w.0 p.2 (agreed_frame w.0) (p.0, p.1) w.2 in
      was_heard (IsPassed k (seats.Exec j) IsAgreedFrame p.2) h w.0 p.2 (record { same = refl; frame = a.frame; read = a.read; kind = is_agreement w.0 a.frame (p.0, p.1) a.gives }) w.1

  only_sends : (h : List (Input M Op)) (o : Seat × M) → SendsOnly (executor_speech k b starts j) h (state_of (executor_speech k b starts j) h) o → Sends h o.1
  only_sends h o (inl t) = inl (share_made h (t.number, o.1) t.share)
  only_sends h o (inr (inl t)) =
      let at = first_at-in (λ (p : ℕ × Entry × M). Some (p.0, p.2)) (state_of (executor_speech k b starts j) h).kept t.number o.1 t.kept in
      let same : (at.item.0, at.item.2) ≡ (t.number, o.1) = same_Some (at.item.0, at.item.2) (t.number, o.1) at.read in
      inr (inr (subst (λ (u : ℕ × M). WasHeard (IsPassed k (seats.Exec j) IsAgreedFrame u.1) h) same (frame_passed h at.item at.inside)))
  only_sends h o (inr (inr t)) = inr (inl (record { frame = Wants t.number; written = t.is; kind = (t.number, refl); bare = refl }))

  pub executor_sends : (h : List (Input M Op)) (o : Seat × M) → In o (sends (executor_role (executor_speech k b starts j)) h) → Sends h o.1
  executor_sends [] o i = absurd i
  executor_sends (i ∷ h) o there = only_sends (i ∷ h) o (all_sent (executor_speech k b starts j) (i ∷ h) o (inl there))

  pub executor_sourced : (h : List (Input M Op)) (o : Seat × M) → In o (sends (executor_role (executor_speech k b starts j)) h) → IsSourcedOrPassed k (seats.Exec j) (IsOwnShare k b starts j h) IsAgreedFrame h o.1
  executor_sourced h o there = elim (executor_sends h o there) [
    | inl a ↦ inl (made_sourced k (seats.Exec j) IsShareFrame (IsOwnShare k b starts j h) h o.1 a)
    | inr (inl a) ↦ inl (bare_sourced k (seats.Exec j) IsWantFrame (IsOwnShare k b starts j h) h o.1 a)
    | inr (inr a) ↦ inr a
  ]
