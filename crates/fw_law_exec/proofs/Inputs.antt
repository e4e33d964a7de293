-- What one input changes of an executor, and what is sent on it.
use Rattle.std.proofs.Common.{ℕ, suc, ◌+◌, ◌≡◌, ◌≤◌, ◌⊎◌, inl, inr, Bool, true, false, cond, ◌&&◌, not, nat_le, nat_eq, List, [], ◌∷◌, ◌++◌, refl, sym, ◌∙◌, ap, subst, Option, Some, None, is_some, arith}
use Rattle.std.specs.Option.{option_or}
use Rattle.std.proofs.lemmas.Bool.{and_parts, and_from, or_cases, or_left, or_right, eqb-true, eq-eqb, le-leb}
use Rattle.std.proofs.lemmas.Option.{none-some, same_Some}
use Rattle.fw_base.specs.declared.seat.Seat.{Seat}
use Rattle.fw_base.specs.Seats.{seat_eq}
use Rattle.fw_trace.specs.declared.Input.{Input}
use Rattle.fw_trace.specs.declared.Input.TheVariants.{Heard, Tick, Submitted}
use Rattle.fw_trace.specs.Lists.{In, first_at}
use Rattle.fw_trace.specs.Client.{to_all}
use Rattle.fw_trace.specs.Executor.{Speech, Executor, Sends, entry_of, frame_of, keep, execute_on, sent_before, option_sends, hear_agreed, hear_want, keeps_above, executor_next}
use Rattle.fw_trace.proofs.Words.{In-append, In-left, seat_eq-same, seat_eq-refl}
use Rattle.fw_source.specs.Sources.{Hears}
use Rattle.fw_source.proofs.Listed.{first_at-in, In-to_all}
use Rattle.fw_law_exec.specs.Executed.{told_by, told_in, IsKept, Executes, Waits, OnePerNumber, WasHeard, Asked, Remembered, Stays, SendsOnly}
use Rattle.fw_law_exec.proofs.Kept.{value_of, or_none, keep_first, keep_stays, keep_at, keep_in, keep_once, count_of, above, above_all}
use Rattle.fw_law_exec.proofs.Turns.{In-right, to_all-In, Ran, ran, executes_still}

-- x comes to be y on the input i behind h
pub record Becomes {M E A X O : Type 0} (sp : Speech M E A X) (i : Input M O) (h : List (Input M O)) (x y : Executor M E A X) : Type 0 where
  pub executes : Executes sp x → Executes sp y
  pub waits : Waits x → Waits y
  pub once : OnePerNumber x.kept → OnePerNumber y.kept
  pub stays : Stays x y
  pub first : (n : ℕ) → value_of (λ k. (k.1, k.2)) y.kept n ≡ option_or (value_of (λ k. (k.1, k.2)) x.kept n) (told_in sp i n)
  pub heard : (k : ℕ × E × M) → In k y.kept → In k x.kept ⊎ WasHeard sp (i ∷ h) k
  pub asked : (f : Seat × ℕ) → In f y.from → In f x.from ⊎ Asked sp (i ∷ h) f
  pub remembers : Hears (Remembered sp y) i

-- and out is sent on it
pub record Took {M E A X O : Type 0} (sp : Speech M E A X) (i : Input M O) (h : List (Input M O)) (x y : Executor M E A X) (out : Sends M) : Type 0 where
  pub becomes : Becomes sp i h x y
  pub sent : (s : ℕ × M) → In s y.shares → In s x.shares ⊎ ((seat : Seat) → In seat sp.filters → In (seat, s.1) out)
  pub outs : (o : Seat × M) → In o out → SendsOnly sp (i ∷ h) y o

-- all that is found in option_sends
option_out : {M : Type 0} (seat : Seat) (found : Option M) (o : Seat × M) → In o (option_sends seat found) → (o.0 ≡ seat) × (found ≡ Some o.1)
option_out seat None o i = absurd i
option_out seat (Some m) o (inl e) = (ap (λ (u : Seat × _). u.0) e, sym (ap (λ (u : Seat × _). Some u.1) e))
option_out seat (Some m) o (inr i) = absurd i

-- noted: by the test, and in the list
pub sent_before-In : (from : List (Seat × ℕ)) (seat : Seat) (n : ℕ) → sent_before from seat n ≡ true → In (seat, n) from
sent_before-In [] seat n h = cc
sent_before-In (f ∷ from) seat n h = elim (or_cases (seat_eq f.0 seat && nat_eq f.1 n) (sent_before from seat n) h) [
  | inl t ↦
      let both = and_parts (seat_eq f.0 seat) (nat_eq f.1 n) t in
      inl (ap (λ (s : Seat). (s, n)) (sym (seat_eq-same f.0 seat both.0)) ∙ ap (λ (k : ℕ). (f.0, k)) (sym (eqb-true f.1 n both.1)))
  | inr t ↦ inr (sent_before-In from seat n t)
]

pub In-sent_before : (from : List (Seat × ℕ)) (seat : Seat) (n : ℕ) → In (seat, n) from → sent_before from seat n ≡ true
In-sent_before [] seat n i = absurd i
In-sent_before (f ∷ from) seat n (inl e) =
    or_left (seat_eq f.0 seat && nat_eq f.1 n) (sent_before from seat n)
    (and_from (seat_eq f.0 seat) (nat_eq f.1 n) (ap (λ (g : Seat × ℕ). seat_eq f.0 g.0) e ∙ seat_eq-refl f.0) (ap (λ (g : Seat × ℕ). nat_eq f.1 g.1) e ∙ eq-eqb f.1 f.1 refl))
In-sent_before (f ∷ from) seat n (inr i) = or_right (seat_eq f.0 seat && nat_eq f.1 n) (sent_before from seat n) (In-sent_before from seat n i)

module _ {M E A X O : Type 0} (sp : Speech M E A X) (h : List (Input M O)) where
  -- an input that changes nothing
  idle : (i : Input M O) (x : Executor M E A X) (out : Sends M) → ((n : ℕ) → told_in sp i n ≡ None) → Hears (Remembered sp x) i → ((o : Seat × M) → In o out → SendsOnly sp (i ∷ h) x o) → Took sp i h x x out
  idle i x out tells remembers outs = record { becomes = becomes; sent = λ s j. inl j; outs = outs }
    where
      becomes : Becomes sp i h x x
      becomes = record {
        executes = λ c. c;
        waits = λ w. w;
        once = λ c. c;
        stays = record { entries = λ n e q. q; frames = λ n m q. q; done = omega arith; shares = λ s j. j; from = λ f j. j };
        first = λ n. sym (or_none (value_of (λ k. (k.1, k.2)) x.kept n)) ∙ ap (option_or (value_of (λ k. (k.1, k.2)) x.kept n)) (sym (tells n));
        heard = λ k j. inl j;
        asked = λ f j. inl j;
        remembers = remembers;
      }

  -- something sent besides
  and_sends : (i : Input M O) (x y : Executor M E A X) (out more : Sends M) → Took sp i h x y out → ((o : Seat × M) → In o more → SendsOnly sp (i ∷ h) y o) → Took sp i h x y (out ++ more)
  and_sends i x y out more t outs = record {
    becomes = t.becomes;
    sent = λ s j. elim (t.sent s j) [ inl k ↦ inl k | inr g ↦ inr (λ seat f. In-left (seat, s.1) out more (g seat f)) ];
    outs = λ o j. elim (In-append o out more j) [ inl k ↦ t.outs o k | inr k ↦ outs o k ];
  }

  -- an agreed frame of entry a.1 at number a.0
  module _ (x : Executor M E A X) (seat : Seat) (m : M) (a : ℕ × E) (reads : sp.agreed seat m ≡ Some a) where
    abbrev now : Executor M E A X
    now = record x { kept = keep x.kept (a.0, a.1, m); from = cond (sp.is_filter seat) ((seat, a.0) ∷ x.from) x.from }

    noted_stays : (b : Bool) (f : Seat × ℕ) → In f x.from → In f (cond b ((seat, a.0) ∷ x.from) x.from)
    noted_stays true f i = inr i
    noted_stays false f i = i

    noted_is : (b : Bool) (f : Seat × ℕ) → sp.is_filter seat ≡ b → In f (cond b ((seat, a.0) ∷ x.from) x.from) → In f x.from ⊎ Asked sp (Heard seat m ∷ h) f
    noted_is false f q i = inl i
    noted_is true f q (inr i) = inl i
    noted_is true f q (inl e) = inr (subst (Asked sp (Heard seat m ∷ h)) (sym e) (record { filter = q; message = m; entry = a.1; heard = inl refl; agreed = reads }))

    noted_at : (b : Bool) → b ≡ true → In (seat, a.0) (cond b ((seat, a.0) ∷ x.from) x.from)
    noted_at true q = inl refl
    noted_at false q = cc

    abbrev run : Executor M E A X × Sends M
    run = execute_on sp (suc (count_of now.kept)) now

    executing : Took sp (Heard seat m) h x run.0 run.1
    executing = record { becomes = becomes; sent = r.sent; outs = λ o i. (let s = r.outs o i in inl (record { number = s.1.0; share = s.1.1; to = inl s.0 })) }
      where
        r : Ran sp (suc (count_of now.kept)) now run
        r = ran sp (suc (count_of now.kept)) now

        at : IsKept run.0.kept a.0
        at = subst (λ (l : List (ℕ × E × M)). IsKept l a.0) (sym r.kept) (keep_at x.kept (a.0, a.1, m))

        by : sp.is_filter seat ≡ true → In (seat, a.0) run.0.from
        by t = subst (In (seat, a.0)) (sym r.from) (noted_at (sp.is_filter seat) t)

        remembers : Remembered sp run.0 seat m
        remembers n e q =
            let number : a.0 ≡ n = ap (λ (b : ℕ × E). b.0) (same_Some a (n, e) (sym reads ∙ q)) in
            subst (λ (k : ℕ). IsKept run.0.kept k × (sp.is_filter seat ≡ true → In (seat, k) run.0.from)) number (at, by)

        becomes : Becomes sp (Heard seat m) h x run.0
        becomes = record {
          executes = λ c. r.executes (executes_still sp x now.kept now.from (λ n e q. keep_stays (λ k. k.1) x.kept (a.0, a.1, m) n e q) c);
          waits = λ w. r.waits (let u : above now.done now.kept ≤ count_of now.kept = above_all now.done now.kept in omega arith);
          once = λ c. subst OnePerNumber (sym r.kept) (keep_once x.kept (a.0, a.1, m) c);
          stays = record {
            entries = λ n e q. ap (λ (l : List (ℕ × E × M)). entry_of l n) r.kept ∙ keep_stays (λ k. k.1) x.kept (a.0, a.1, m) n e q;
            frames = λ n e q. ap (λ (l : List (ℕ × E × M)). frame_of l n) r.kept ∙ keep_stays (λ k. k.2) x.kept (a.0, a.1, m) n e q;
            done = r.done;
            shares = r.shares;
            from = λ f i. subst (In f) (sym r.from) (noted_stays (sp.is_filter seat) f i);
          };
          first = λ n. ap (λ (l : List (ℕ × E × M)). value_of (λ k. (k.1, k.2)) l n) r.kept
              ∙ keep_first (λ k. (k.1, k.2)) x.kept (a.0, a.1, m) n
              ∙ ap (λ (o : Option (ℕ × E)). option_or (value_of (λ k. (k.1, k.2)) x.kept n) (told_by m o n)) (sym reads);
          heard = λ k i. elim (keep_in x.kept (a.0, a.1, m) k (subst (In k) r.kept i)) [
            | inl j ↦ inl j
            | inr e ↦ inr (subst (WasHeard sp (Heard seat m ∷ h)) (sym e) (seat, inl refl, reads))
          ];
          asked = λ f i. noted_is (sp.is_filter seat) f refl (subst (In f) r.from i);
          remembers = remembers;
        }

    -- the share again, where the filter sent such a frame before
    again_out : (again : Bool) → (sp.is_filter seat && nat_le a.0 x.done && sent_before x.from seat a.0) ≡ again → (o : Seat × M) → In o (cond again (option_sends seat (first_at (λ (s : ℕ × M). Some s) x.shares a.0)) [])
        → SendsOnly sp (Heard seat m ∷ h) run.0 o
    again_out false q o i = absurd i
    again_out true q o i =
        let out = option_out seat (first_at (λ (s : ℕ × M). Some s) x.shares a.0) o i in
        let at = first_at-in (λ (s : ℕ × M). Some s) x.shares a.0 o.1 out.1 in
        let there : In (a.0, o.1) x.shares = subst (λ (s : ℕ × M). In s x.shares) (same_Some at.item (a.0, o.1) at.read) at.inside in
        let before = sent_before-In x.from seat a.0 (and_parts (sp.is_filter seat && nat_le a.0 x.done) (sent_before x.from seat a.0) q).1 in
        inl (record {
          number = a.0;
          share = executing.becomes.stays.shares (a.0, o.1) there;
          to = inr (subst (λ (f : Seat). In (f, a.0) run.0.from) (sym out.0) (executing.becomes.stays.from (seat, a.0) before));
        })

    hearing : Took sp (Heard seat m) h x run.0 (hear_agreed sp x seat m (Some a)).1
    hearing =
        let again = sp.is_filter seat && nat_le a.0 x.done && sent_before x.from seat a.0 in
        and_sends (Heard seat m) x run.0 run.1 (cond again (option_sends seat (first_at (λ (s : ℕ × M). Some s) x.shares a.0)) []) executing (again_out again refl)

  hearing_any : (x : Executor M E A X) (seat : Seat) (m : M) (a : Option (ℕ × E)) → sp.agreed seat m ≡ a → Took sp (Heard seat m) h x (hear_agreed sp x seat m a).0 (hear_agreed sp x seat m a).1
  hearing_any x seat m None q = idle (Heard seat m) x [] (λ n. ap (λ (o : Option (ℕ × E)). told_by m o n) q) (λ n e r. absurd (none-some (n, e) (sym q ∙ r))) (λ o i. absurd i)
  hearing_any x seat m (Some a) q = hearing x seat m a q

  want_out : (x y : Executor M E A X) (seat : Seat) (m : M) (n : Option ℕ) → sp.wanted seat m ≡ n → Stays x y → (o : Seat × M) → In o (hear_want x seat n) → SendsOnly sp (Heard seat m ∷ h) y o
  want_out x y seat m None q stays o i = absurd i
  want_out x y seat m (Some n) q stays o i =
      let out = option_out seat (frame_of x.kept n) o i in
      inr (inl (record {
        number = n;
        message = m;
        heard = inl (ap (λ (f : Seat). Heard f m) out.0);
        wanted = ap (λ (f : Seat). sp.wanted f m) out.0 ∙ q;
        kept = stays.frames n o.1 out.1;
      }))

  ticking : (x : Executor M E A X) (b : Bool) (o : Seat × M) → In o (cond b (to_all sp.others (sp.want (x.done + 1))) []) → SendsOnly sp (Tick ∷ h) x o
  ticking x true o i = let t = In-to_all sp.others (sp.want (x.done + 1)) o i in inr (inr (record { number = x.done + 1; is = t.1; to = t.0 }))
  ticking x false o i = absurd i

  pub took : (i : Input M O) (x : Executor M E A X) → Took sp i h x (executor_next sp x i).0 (executor_next sp x i).1
  took (Heard from m) x =
      let r = hear_agreed sp x from m (sp.agreed from m) in
      let heard = hearing_any x from m (sp.agreed from m) refl in
      and_sends (Heard from m) x r.0 r.1 (hear_want x from (sp.wanted from m)) heard (want_out x r.0 from m (sp.wanted from m) refl heard.becomes.stays)
  took Tick x = idle Tick x _ (λ n. refl) tt (ticking x (not (is_some (entry_of x.kept (x.done + 1))) && keeps_above x.kept (x.done + 1)))
  took (Submitted op) x = idle (Submitted op) x [] (λ n. refl) tt (λ o i. absurd i)

  -- a want of a kept number is answered by the kept frame
  pub answers_want : (x : Executor M E A X) (from : Seat) (m f : M) (n : ℕ) → sp.wanted from m ≡ Some n → frame_of x.kept n ≡ Some f → In (from, f) (executor_next {O = O} sp x (Heard from m)).1
  answers_want x from m f n wants there = In-right (from, f) (hear_agreed sp x from m (sp.agreed from m)).1 (hear_want x from (sp.wanted from m)) (subst (λ (o : Option ℕ). In (from, f) (hear_want x from o)) (sym wants) (found (frame_of x.kept n) there))
    where
      found : (o : Option M) → o ≡ Some f → In (from, f) (option_sends from o)
      found o q = subst (λ (p : Option M). In (from, f) (option_sends from p)) (sym q) (inl refl)

  -- an agreed frame that a filter sends again is answered by the share, where it is executed
  pub answers_again : (x : Executor M E A X) (from : Seat) (m s : M) (a : ℕ × E) → sp.agreed from m ≡ Some a → sp.is_filter from ≡ true → In (from, a.0) x.from → a.0 ≤ x.done → first_at (λ t. Some t) x.shares a.0 ≡ Some s
      → In (from, s) (executor_next {O = O} sp x (Heard from m)).1
  answers_again x from m s a reads filter before done share =
      In-left (from, s) (hear_agreed sp x from m (sp.agreed from m)).1 (hear_want x from (sp.wanted from m))
      (subst (λ (o : Option (ℕ × E)). In (from, s) (hear_agreed sp x from m o).1) (sym reads)
      (In-right (from, s) (run x from m a reads).1 _ (subst (λ (b : Bool). In (from, s) (cond b (option_sends from (first_at (λ (t : ℕ × M). Some t) x.shares a.0)) [])) (sym test) found)))
    where
      test : (sp.is_filter from && nat_le a.0 x.done && sent_before x.from from a.0) ≡ true
      test = and_from (sp.is_filter from && nat_le a.0 x.done) (sent_before x.from from a.0) (and_from (sp.is_filter from) (nat_le a.0 x.done) filter (le-leb a.0 x.done done)) (In-sent_before x.from from a.0 before)

      found : In (from, s) (option_sends from (first_at (λ (t : ℕ × M). Some t) x.shares a.0))
      found = subst (λ (p : Option M). In (from, s) (option_sends from p)) (sym share) (inl refl)

  -- a tick asks for the next number, where one above it is kept
  pub answers_tick : (x : Executor M E A X) (seat : Seat) → Waits x → keeps_above x.kept (x.done + 1) ≡ true → In seat sp.others → In (seat, sp.want (x.done + 1)) (executor_next {O = O} sp x Tick).1
  answers_tick x seat waits over i =
      let test : (not (is_some (entry_of x.kept (x.done + 1))) && keeps_above x.kept (x.done + 1)) ≡ true =
      and_from (not (is_some (entry_of x.kept (x.done + 1)))) (keeps_above x.kept (x.done + 1)) (ap (λ (o : Option E). not (is_some o)) waits) over in
      subst (λ (b : Bool). In (seat, sp.want (x.done + 1)) (cond b (to_all sp.others (sp.want (x.done + 1))) [])) (sym test) (to_all-In sp.others (sp.want (x.done + 1)) seat i)
