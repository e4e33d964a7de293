-- What an executor sends, where all agreed frames that it hears have a property: shares of entries that have it, each after those before
-- it, frames that it heard, and wants.
use Rattle.std.proofs.Common.{ℕ, ◌+◌, ◌≡◌, ◌⊎◌, inl, inr, List, [], ◌∷◌, ◌++◌, length, ◌∙◌, ap, subst, Some, arith}
use Rattle.std.proofs.lemmas.Option.{same_Some}
use Rattle.fw_base.specs.declared.seat.Seat.{Seat}
use Rattle.fw_trace.specs.declared.Input.{Input}
use Rattle.fw_trace.specs.Lists.{In}
use Rattle.fw_trace.specs.Role.{sends}
use Rattle.fw_trace.specs.Executor.{Speech, entry_of, frame_of, executor_role}
use Rattle.fw_source.specs.Sources.{AllHeard}
use Rattle.fw_source.proofs.Listed.{EachFrom, EachFrom-push, EachFrom-weaken, first_at-in}
use Rattle.fw_law_exec.specs.Executed.{state_of, HasSent, fold_of, SendsOnly}
use Rattle.fw_law_exec.proofs.Folds.{share_of, listed, after_all}
use Rattle.fw_law_exec.proofs.Histories.{heard_has, executes_always, heard_always, all_sent}

-- the share of an entry behind others, all of which have A
pub record IsShare {M E R X : Type 0} (sp : Speech M E R X) (A : ℕ → E → Type 0) (m : M) : Type 0 where
  pub before : List E
  pub entry : E
  pub each : EachFrom A 1 (before ++ entry ∷ [])
  pub is : m ≡ sp.share (length before + 1) (sp.step (after_all sp sp.begin before) entry).0

abbrev pub ExecOut : {M E R X : Type 0} → Speech M E R X → (ℕ → E → Type 0) → (M → Type 0) → M → Type 0
ExecOut sp A F m = IsShare sp A m ⊎ (F m ⊎ ((n : ℕ) × (m ≡ sp.want n)))

-- K is such that each agreed frame that is heard has A, and may be sent on
module _ {M E R X : Type 0} (sp : Speech M E R X) (A : ℕ → E → Type 0) (F : M → Type 0)
    {O : Type 0} (K : Seat → M → Type 0) (telling : (from : Seat) (m : M) (a : ℕ × E) → K from m → sp.agreed from m ≡ Some a → A a.0 a.1 × F m) where
  kept_told : (h : List (Input M O)) → AllHeard K h → (k : ℕ × E × M) → In k (state_of sp h).kept → A k.0 k.1 × F k.2
  kept_told h all k i = let w = heard_always sp h k i in telling w.0 k.2 (k.0, k.1) (heard_has K h w.0 k.2 all w.1) w.2

  -- what is kept at a number has A, and its frame has F
  pub entry_told : (h : List (Input M O)) → AllHeard K h → (n : ℕ) (e : E) → entry_of (state_of sp h).kept n ≡ Some e → A n e
  entry_told h all n e q =
      let at = first_at-in (λ (k : ℕ × E × M). Some (k.0, k.1)) (state_of sp h).kept n e q in
      let same : (at.item.0, at.item.1) ≡ (n, e) = same_Some (at.item.0, at.item.1) (n, e) at.read in
      subst (λ (u : ℕ × E). A u.0 u.1) same (kept_told h all at.item at.inside).0

  pub frame_told : (h : List (Input M O)) → AllHeard K h → (n : ℕ) (m : M) → frame_of (state_of sp h).kept n ≡ Some m → F m
  frame_told h all n m q =
      let at = first_at-in (λ (k : ℕ × E × M). Some (k.0, k.2)) (state_of sp h).kept n m q in
      let same : (at.item.0, at.item.2) ≡ (n, m) = same_Some (at.item.0, at.item.2) (n, m) at.read in
      subst (λ (u : ℕ × M). F u.1) same (kept_told h all at.item at.inside).1

  share_told : (h : List (Input M O)) → AllHeard K h → (s : ℕ × M) → In s (state_of sp h).shares → IsShare sp A s.1
  share_told h all s i =
      let x = state_of sp h in
      let c = executes_always sp h in
      let r = share_of sp (entry_of x.kept) x.done s (subst (In s) c.shares i) in
      let w = r.within in
      let l = listed sp (entry_of x.kept) r.before (λ k low up. c.each k low (omega arith)) in
      let n = l.count in
      let place : r.before + 1 ≡ 1 + length l.list = omega arith in
      let number : r.before + 1 ≡ length l.list + 1 = omega arith in
      let each = EachFrom-weaken (λ k e. entry_of x.kept k ≡ Some e) A (entry_told h all) 1 l.list l.each in
      record {
        before = l.list;
        entry = r.entry;
        each = EachFrom-push A 1 l.list r.entry each (subst (λ (k : ℕ). A k r.entry) place (entry_told h all (r.before + 1) r.entry r.there));
        is = r.is
            ∙ ap (λ (k : ℕ). sp.share k (sp.step (fold_of sp (entry_of x.kept) r.before) r.entry).0) number
            ∙ ap (λ (y : X). sp.share (length l.list + 1) (sp.step y r.entry).0) l.fold;
      }

  out_told : (h : List (Input M O)) → AllHeard K h → (o : Seat × M) → SendsOnly sp h (state_of sp h) o → ExecOut sp A F o.1
  out_told h all o (inl t) = inl (share_told h all (t.number, o.1) t.share)
  out_told h all o (inr (inl t)) = inr (inl (frame_told h all t.number o.1 t.kept))
  out_told h all o (inr (inr t)) = inr (inr (t.number, t.is))

  pub executor_sent : (h : List (Input M O)) → AllHeard K h → (o : Seat × M) → HasSent sp h o → ExecOut sp A F o.1
  executor_sent h all o s = out_told h all o (all_sent sp h o s)

  pub executor_sends : (h : List (Input M O)) → AllHeard K h → (o : Seat × M) → In o (sends (executor_role sp) h) → ExecOut sp A F o.1
  executor_sends [] all o s = absurd s
  executor_sends (i ∷ h) all o s = executor_sent (i ∷ h) all o (inl s)
