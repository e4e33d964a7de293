-- What holds of an executor after every history, and of all that it ever sent.
use Rattle.std.proofs.Common.{ℕ, ◌+◌, ◌≡◌, ◌≤◌, inl, inr, Bool, true, false, nat_le, List, [], ◌∷◌, ◌++◌, refl, sym, ◌∙◌, ap, subst, Option, Some, arith}
use Rattle.std.specs.Prelude.{option_map}
use Rattle.std.specs.Option.{option_or}
use Rattle.std.proofs.lemmas.Bool.{leb-true, leb-false}
use Rattle.std.proofs.lemmas.Option.{none-some, same_Some}
use Rattle.fw_base.specs.declared.seat.Seat.{Seat}
use Rattle.fw_trace.specs.declared.Input.{Input}
use Rattle.fw_trace.specs.declared.Input.TheVariants.{Heard, Tick}
use Rattle.fw_trace.specs.Lists.{In, first_at}
use Rattle.fw_trace.specs.Role.{sends}
use Rattle.fw_trace.specs.Executor.{Speech, Executor, entry_of, frame_of, keeps_above, executor_next, executor_role}
use Rattle.fw_source.specs.Sources.{Hears, AllHeard, EverSent}
use Rattle.fw_source.proofs.Source.{AllHeard-weaken}
use Rattle.fw_source.proofs.Listed.{first_at-in}
use Rattle.fw_law_exec.specs.Executed.{state_of, HasSent, fold_of, share_at, shares_to, told_in, first_heard, KeepsFirst, IsKept, Executes, Waits, OnePerNumber, WasHeard, Asked, Remembered, Stays, SendsOnly}
use Rattle.fw_law_exec.proofs.Folds.{SameUpTo, fold_same, shares_same, share_first}
use Rattle.fw_law_exec.proofs.Kept.{value_of, value_part}
use Rattle.fw_law_exec.proofs.Inputs.{Becomes, Took, took, answers_want, answers_tick, answers_again}

-- what was heard has what all that was heard has
pub heard_has : {M O : Type 0} (K : Seat → M → Type 0) (h : List (Input M O)) (from : Seat) (m : M) → AllHeard K h → In (Heard from m) h → K from m
heard_has K [] from m all i = absurd i
heard_has K (i ∷ h) from m all (inl e) = subst (Hears K) (sym e) all.0
heard_has K (i ∷ h) from m all (inr j) = heard_has K h from m all.1 j

-- what was sent was sent after longer histories too
pub sent_still : {M O : Type 0} (rule : List (Input M O) → List (Seat × M)) (more h : List (Input M O)) (o : Seat × M) → EverSent rule h o → EverSent rule (more ++ h) o
sent_still rule [] h o s = s
sent_still rule (i ∷ more) h o s = inr (sent_still rule more h o s)

module _ {M E A X O : Type 0} (sp : Speech M E A X) where
  took_one : (i : Input M O) (h : List (Input M O)) → Took sp i h (state_of sp h) (state_of sp (i ∷ h)) (executor_next sp (state_of sp h) i).1
  took_one i h = took sp h i (state_of sp h)

  becomes_one : (i : Input M O) (h : List (Input M O)) → Becomes sp i h (state_of sp h) (state_of sp (i ∷ h))
  becomes_one i h = (took_one i h).becomes

  -- ---- what is executed

  pub executes_always : (h : List (Input M O)) → Executes sp (state_of sp h)
  executes_always [] = record { each = λ n l u. absurd (omega (arith, l, u)); state = refl; shares = refl }
  executes_always (i ∷ h) = (becomes_one i h).executes (executes_always h)

  pub waits_always : (h : List (Input M O)) → Waits (state_of sp h)
  waits_always [] = refl
  waits_always (i ∷ h) = (becomes_one i h).waits (waits_always h)

  -- so all numbers from 1 that are kept are executed
  pub executes_kept : (h : List (Input M O)) (n : ℕ) → ((k : ℕ) → 1 ≤ k → k ≤ n → IsKept (state_of sp h).kept k) → n ≤ (state_of sp h).done
  executes_kept h n all = by (nat_le n (state_of sp h).done) refl
    where
      by : (b : Bool) → nat_le n (state_of sp h).done ≡ b → n ≤ (state_of sp h).done
      by true q = leb-true n (state_of sp h).done q
      by false q = let l = leb-false n (state_of sp h).done q in let k = all ((state_of sp h).done + 1) (omega arith) (omega arith) in absurd (none-some k.0 (sym (waits_always h) ∙ k.1))

  -- where each kept entry stands in another numbering too, the state and the shares are those of that one
  pub executes_same : (h : List (Input M O)) (also : ℕ → Option E) → ((n : ℕ) (e : E) → entry_of (state_of sp h).kept n ≡ Some e → also n ≡ Some e)
      → ((state_of sp h).state ≡ fold_of sp also (state_of sp h).done) × ((state_of sp h).shares ≡ shares_to sp also (state_of sp h).done)
  executes_same h also there =
      let x = state_of sp h in
      let c = executes_always h in
      let same : SameUpTo (entry_of x.kept) also x.done = λ k l u. (let e = c.each k l u in e.1 ∙ sym (there k e.0 e.1)) in
      (c.state ∙ fold_same sp (entry_of x.kept) also x.done same, c.shares ∙ shares_same sp (entry_of x.kept) also x.done same)

  pub once_always : (h : List (Input M O)) → OnePerNumber (state_of sp h).kept
  once_always [] = tt
  once_always (i ∷ h) = (becomes_one i h).once (once_always h)

  first_item : (h : List (Input M O)) (n : ℕ) → value_of (λ k. (k.1, k.2)) (state_of sp h).kept n ≡ first_heard sp h n
  first_item [] n = refl
  first_item (i ∷ h) n = (becomes_one i h).first n ∙ ap (λ (o : Option (E × M)). option_or o (told_in sp i n)) (first_item h n)

  pub first_always : (h : List (Input M O)) (n : ℕ) → KeepsFirst sp h (state_of sp h) n
  first_always h n =
      let ks = (state_of sp h).kept in (
        value_part (λ k. (k.1, k.2)) (λ p. p.0) ks n ∙ ap (option_map (λ (p : E × M). p.0)) (first_item h n),
        value_part (λ k. (k.1, k.2)) (λ p. p.1) ks n ∙ ap (option_map (λ (p : E × M). p.1)) (first_item h n),
      )

  -- ---- what stays

  pub stays_always : (more h : List (Input M O)) → Stays (state_of sp h) (state_of sp (more ++ h))
  stays_always [] h = record { entries = λ n e q. q; frames = λ n m q. q; done = omega arith; shares = λ s i. i; from = λ f i. i }
  stays_always (i ∷ more) h =
      let a = stays_always more h in
      let b = (becomes_one i (more ++ h)).stays in
      let u = a.done in
      let v = b.done in
      record {
        entries = λ n e q. b.entries n e (a.entries n e q);
        frames = λ n m q. b.frames n m (a.frames n m q);
        done = omega arith;
        shares = λ s j. b.shares s (a.shares s j);
        from = λ f j. b.from f (a.from f j);
      }

  -- ---- what is kept and noted was heard, and what was heard is kept and noted

  pub heard_always : (h : List (Input M O)) (k : ℕ × E × M) → In k (state_of sp h).kept → WasHeard sp h k
  heard_always [] k i = absurd i
  heard_always (i ∷ h) k j = elim ((becomes_one i h).heard k j) [
    | inl l ↦ let w = heard_always h k l in (w.0, inr w.1, w.2)
    | inr w ↦ w
  ]

  pub asked_always : (h : List (Input M O)) (f : Seat × ℕ) → In f (state_of sp h).from → Asked sp h f
  asked_always [] f i = absurd i
  asked_always (i ∷ h) f j = elim ((becomes_one i h).asked f j) [
    | inl l ↦ let w = asked_always h f l in record { filter = w.filter; message = w.message; entry = w.entry; heard = inr w.heard; agreed = w.agreed }
    | inr w ↦ w
  ]

  pub remembers_always : (h : List (Input M O)) → AllHeard (Remembered sp (state_of sp h)) h
  remembers_always [] = tt
  remembers_always (i ∷ h) =
      let t = becomes_one i h in
      let still : (from : Seat) (m : M) → Remembered sp (state_of sp h) from m → Remembered sp (state_of sp (i ∷ h)) from m =
      λ from m r n e q. (let both = r n e q in ((both.0.0, t.stays.entries n both.0.0 both.0.1), λ f. t.stays.from (from, n) (both.1 f))) in
      (t.remembers, AllHeard-weaken (Remembered sp (state_of sp h)) (Remembered sp (state_of sp (i ∷ h))) still h (remembers_always h))

  -- ---- what was sent

  pub shares_sent : (h : List (Input M O)) (s : ℕ × M) (seat : Seat) → In s (state_of sp h).shares → In seat sp.filters → HasSent sp h (seat, s.1)
  shares_sent [] s seat i f = absurd i
  shares_sent (i ∷ h) s seat j f = elim ((took_one i h).sent s j) [
    | inl k ↦ inr (shares_sent h s seat k f)
    | inr g ↦ inl (g seat f)
  ]

  -- the share of a number that is executed is among the shares, and was sent to each filter of the row
  pub share_found : (h : List (Input M O)) (n : ℕ) (m : M) → n ≤ (state_of sp h).done → share_at sp (entry_of (state_of sp h).kept) n ≡ Some m → first_at (λ s. Some s) (state_of sp h).shares n ≡ Some m
  share_found h n m u q =
      let x = state_of sp h in
      ap (λ (l : List (ℕ × M)). first_at (λ s. Some s) l n) (executes_always h).shares ∙ share_first sp (entry_of x.kept) x.done n m u q

  pub executed_sent : (h : List (Input M O)) (n : ℕ) (m : M) (seat : Seat) → n ≤ (state_of sp h).done → share_at sp (entry_of (state_of sp h).kept) n ≡ Some m → In seat sp.filters → HasSent sp h (seat, m)
  executed_sent h n m seat u q f =
      let x = state_of sp h in
      let at = first_at-in (λ (s : ℕ × M). Some s) x.shares n m (share_found h n m u q) in
      shares_sent h (n, m) seat (subst (λ (s : ℕ × M). In s x.shares) (same_Some at.item (n, m) at.read) at.inside) f

  -- a want of a number that was kept was answered by its frame, a tick asked for a number that was missing, and an agreed frame that a filter
  -- sent again was answered by the share
  pub want_answered : (more h : List (Input M O)) (from : Seat) (m f : M) (n : ℕ) → sp.wanted from m ≡ Some n → frame_of (state_of sp h).kept n ≡ Some f → HasSent sp (more ++ Heard from m ∷ h) (from, f)
  want_answered more h from m f n wants there = sent_still (sends (executor_role sp)) more (Heard from m ∷ h) (from, f) (inl (answers_want sp h (state_of sp h) from m f n wants there))

  pub tick_asks : (more h : List (Input M O)) (seat : Seat) → keeps_above (state_of sp h).kept ((state_of sp h).done + 1) ≡ true → In seat sp.others → HasSent sp (more ++ Tick ∷ h) (seat, sp.want ((state_of sp h).done + 1))
  tick_asks more h seat over i = sent_still (sends (executor_role sp)) more (Tick ∷ h) (seat, sp.want ((state_of sp h).done + 1)) (inl (answers_tick sp h (state_of sp h) seat (waits_always h) over i))

  pub again_answered : (more h : List (Input M O)) (from : Seat) (m s : M) (n : ℕ) (e : E) → sp.agreed from m ≡ Some (n, e) → sp.is_filter from ≡ true → In (from, n) (state_of sp h).from
      → n ≤ (state_of sp h).done → share_at sp (entry_of (state_of sp h).kept) n ≡ Some s → HasSent sp (more ++ Heard from m ∷ h) (from, s)
  again_answered more h from m s n e reads filter before done share =
      sent_still (sends (executor_role sp)) more (Heard from m ∷ h) (from, s) (inl (answers_again sp h (state_of sp h) from m s (n, e) reads filter before done (share_found h n s done share)))

  sent_later : (i : Input M O) (h : List (Input M O)) (x y : Executor M E A X) (o : Seat × M) → Stays x y → SendsOnly sp h x o → SendsOnly sp (i ∷ h) y o
  sent_later i h x y o s (inl t) = inl (record { number = t.number; share = s.shares (t.number, o.1) t.share; to = elim t.to [ inl f ↦ inl f | inr f ↦ inr (s.from (o.0, t.number) f) ] })
  sent_later i h x y o s (inr (inl t)) = inr (inl (record { number = t.number; message = t.message; heard = inr t.heard; wanted = t.wanted; kept = s.frames t.number o.1 t.kept }))
  sent_later i h x y o s (inr (inr t)) = inr (inr t)

  pub all_sent : (h : List (Input M O)) (o : Seat × M) → HasSent sp h o → SendsOnly sp h (state_of sp h) o
  all_sent [] o s = absurd s
  all_sent (i ∷ h) o (inl s) = (took_one i h).outs o s
  all_sent (i ∷ h) o (inr s) = sent_later i h (state_of sp h) (state_of sp (i ∷ h)) o (becomes_one i h).stays (all_sent h o s)
