-- How many copies of a reply a filter sends to a seat.
use Rattle.std.proofs.Common.{ℕ, ◌+◌, ◌≤◌, ◌≡◌, inl, inr, Bool, true, false, cond, ◌&&◌, ◌||◌, not, nat_eq, List, [], ◌∷◌, ◌++◌, Option, Some, None, refl, sym, ◌∙◌, ap, subst, arith, true≢false}
use Rattle.std.proofs.lemmas.Bool.{eqb-true, eq-eqb}
use Rattle.std.proofs.lemmas.Option.{none-some}
use Rattle.fw_base.specs.declared.seat.Seat.{Seat}
use Rattle.fw_base.specs.Seats.{seat_eq}
use Rattle.fw_trace.specs.declared.Input.{Input}
use Rattle.fw_trace.specs.declared.Input.TheVariants.{Heard, Tick, Submitted}
use Rattle.fw_trace.specs.Role.{kept, sends}
use Rattle.fw_trace.specs.Client.{to_all}
use Rattle.fw_trace.specs.Executor.{Sends, sent_before}
use Rattle.fw_trace.specs.Filter.{Speech, Filter, held_of, asked_at_all, answers, hear_agreed, filter_role}
use Rattle.fw_trace.specs.Lists.{In}
use Rattle.fw_trace.proofs.Words.{seat_eq-same}
use Rattle.fw_law_filter.specs.Heard.{WasHeard, IsAgreed}
use Rattle.fw_law_filter.specs.Copies.{TellsReplies, one_if, count_to, copies, is_number, agreed_from, times_in}
use Rattle.fw_law_filter.proofs.Steps.{with_held, downwards, on_message, message_keeps}
use Rattle.fw_law_filter.proofs.Holding.{or_false, held-in, number_asked_is}

-- ---- counts

count-append : {M : Type 0} (test : M → Bool) (seat : Seat) (out more : Sends M) → count_to test seat (out ++ more) ≡ count_to test seat out + count_to test seat more
count-append test seat [] more = omega arith
count-append test seat (o ∷ out) more = let rest = count-append test seat out more in omega (arith, rest)

one : (a b : Bool) → one_if (a && b) ≤ one_if a
one true true = omega arith
one true false = omega arith
one false b = omega arith

count-all : {M : Type 0} (test : M → Bool) (seat : Seat) (seats : List Seat) (m : M) → count_to test seat (to_all seats m) ≤ times_in seat seats
count-all test seat [] m = omega arith
count-all test seat (s ∷ seats) m =
    let rest = count-all test seat seats m in
    let here = one (seat_eq s seat) (test m) in
    omega (arith, rest, here)

count-failed : {M : Type 0} (test : M → Bool) (seat : Seat) (seats : List Seat) (m : M) → test m ≡ false → count_to test seat (to_all seats m) ≡ 0
count-failed test seat [] m e = refl
count-failed test seat (s ∷ seats) m e =
    let rest = count-failed test seat seats m e in
    let here : one_if (seat_eq s seat && test m) ≡ 0 = ap (λ (b : Bool). one_if (seat_eq s seat && b)) e ∙ none (seat_eq s seat) in
    omega (arith, rest, here)
  where
    none : (a : Bool) → one_if (a && false) ≡ 0
    none true = refl
    none false = refl

count-elsewhere : {M : Type 0} (test : M → Bool) (seat : Seat) (seats : List Seat) (m : M) → (In seat seats → ⊥) → count_to test seat (to_all seats m) ≡ 0
count-elsewhere test seat [] m away = refl
count-elsewhere test seat (s ∷ seats) m away = by (seat_eq s seat) refl (count-elsewhere test seat seats m (λ i. away (inr i)))
  where
    by : (b : Bool) → seat_eq s seat ≡ b → count_to test seat (to_all seats m) ≡ 0 → one_if (b && test m) + count_to test seat (to_all seats m) ≡ 0
    by true e rest = absurd (away (inl (sym (seat_eq-same s seat e))))
    by false e rest = omega (arith, rest)

-- ---- on one message

module _ {M V : Type 0} (sp : Speech M V) (n : ℕ) (test : M → Bool) (tells : TellsReplies sp n test) (seat : Seat) (below : In seat sp.ups → ⊥) where
  -- with what was sent before, and the agreed frames that came
  record Counted (before frames : ℕ) (y : Filter M V) (out : Sends M) : Type 0 where
    tested : (k : ℕ) (m : M) → In (k, m) y.held → test m ≡ true → k ≡ n
    unheld : held_of y.held n ≡ None → count_to test seat out + before ≡ 0
    unasked : asked_at_all y.asked n ≡ false → count_to test seat out + before ≡ 0
    bound : count_to test seat out + before ≤ times_in seat sp.downs + frames

  down-all : (y : Filter M V) (k : ℕ) (reply : M) → count_to test seat (downwards sp y k reply) ≤ times_in seat sp.downs
  down-all y k reply = by (asked_at_all y.asked k)
    where
      by : (b : Bool) → count_to test seat (cond b (to_all sp.downs reply) []) ≤ times_in seat sp.downs
      by true = count-all test seat sp.downs reply
      by false = omega arith

  down-failed : (y : Filter M V) (k : ℕ) (reply : M) → test reply ≡ false → count_to test seat (downwards sp y k reply) ≡ 0
  down-failed y k reply e = by (asked_at_all y.asked k)
    where
      by : (b : Bool) → count_to test seat (cond b (to_all sp.downs reply) []) ≡ 0
      by true = count-failed test seat sp.downs reply e
      by false = refl

  counted_down : (before frames : ℕ) (y : Filter M V) (out : Sends M) (k : ℕ) (reply : M) → (test reply ≡ true → k ≡ n) → held_of y.held k ≡ None → Counted before frames y out → Counted before frames (with_held y k reply) (out ++ downwards sp y k reply)
  counted_down before frames y out k reply told u c = by (nat_eq k n) refl
    where
      sum : count_to test seat (out ++ downwards sp y k reply) ≡ count_to test seat out + count_to test seat (downwards sp y k reply)
      sum = count-append test seat out (downwards sp y k reply)

      tested : (j : ℕ) (m : M) → In (j, m) ((k, reply) ∷ y.held) → test m ≡ true → j ≡ n
      tested j m (inl e) t = ap (λ (v : ℕ × M). v.0) e ∙ told (ap (λ (v : ℕ × M). test v.1) (sym e) ∙ t)
      tested j m (inr i) t = c.tested j m i t

      failed : (b : Bool) → test reply ≡ b → nat_eq k n ≡ false → test reply ≡ false
      failed true e f = absurd (true≢false (sym (eq-eqb k n (told e)) ∙ f))
      failed false e f = e

      by : (b : Bool) → nat_eq k n ≡ b → Counted before frames (with_held y k reply) (out ++ downwards sp y k reply)
      by true e =
          let same : k ≡ n = eqb-true k n e in
          let none = c.unheld (subst (λ (j : ℕ). held_of y.held j ≡ None) same u) in
          let most = down-all y k reply in
          record {
            tested = tested;
            unheld = λ f. absurd (none-some reply (sym f ∙ ap (λ (b : Bool). cond b (Some reply) (held_of y.held n)) e));
            unasked = λ f. (let quiet : count_to test seat (downwards sp y k reply) ≡ 0 = ap (λ (b : Bool). count_to test seat (cond b (to_all sp.downs reply) [])) (ap (asked_at_all y.asked) same ∙ f) in omega (arith, sum, none, quiet));
            bound = omega (arith, sum, none, most);
          }
      by false e =
          let quiet = down-failed y k reply (failed (test reply) refl e) in
          let bound = c.bound in
          record {
            tested = tested;
            unheld = λ f. (let none = c.unheld (sym (ap (λ (b : Bool). cond b (Some reply) (held_of y.held n)) e) ∙ f) in omega (arith, sum, none, quiet));
            unasked = λ f. (let none = c.unasked f in omega (arith, sum, none, quiet));
            bound = omega (arith, sum, bound, quiet);
          }

  -- an agreed frame that is answered with the reply that is held
  counted_answer : (before frames : ℕ) (x : Filter M V) (from : Seat) (k : ℕ) (reply : M) → held_of x.held k ≡ Some reply → Counted before frames x []
      → Counted before (one_if (seat_eq from seat && nat_eq k n) + frames) (record x { asked = (from, k) ∷ x.asked }) ((from, reply) ∷ [])
  counted_answer before frames x from k reply held c = by (test reply) refl
    where
      bound : before ≤ times_in seat sp.downs + frames
      bound = let b = c.bound in omega (arith, b)

      none : (a : Bool) → one_if (a && false) ≡ 0
      none true = refl
      none false = refl

      by : (b : Bool) → test reply ≡ b → Counted before (one_if (seat_eq from seat && nat_eq k n) + frames) (record x { asked = (from, k) ∷ x.asked }) ((from, reply) ∷ [])
      by true e =
          let same : k ≡ n = c.tested k reply (held-in x.held k reply held) e in
          let number : nat_eq k n ≡ true = eq-eqb k n same in
          let count : one_if (seat_eq from seat && test reply) ≡ one_if (seat_eq from seat && nat_eq k n) = ap (λ (b : Bool). one_if (seat_eq from seat && b)) (e ∙ sym number) in
          record {
            tested = c.tested;
            unheld = λ f. absurd (none-some reply (sym f ∙ ap (held_of x.held) (sym same) ∙ held));
            unasked = λ f. absurd (true≢false (sym number ∙ (or_false (nat_eq k n) (asked_at_all x.asked n) f).0));
            bound = omega (arith, count, bound);
          }
      by false e =
          let count : one_if (seat_eq from seat && test reply) ≡ 0 = ap (λ (b : Bool). one_if (seat_eq from seat && b)) e ∙ none (seat_eq from seat) in
          record {
            tested = c.tested;
            unheld = λ f. (let zero = c.unheld f in omega (arith, count, zero));
            unasked = λ f. (let zero = c.unasked (or_false (nat_eq k n) (asked_at_all x.asked n) f).1 in omega (arith, count, zero));
            bound = omega (arith, count, bound);
          }

  counted_up : (before frames more : ℕ) (x : Filter M V) (from : Seat) (m : M) (k : ℕ) (b : Bool) → Counted before frames x []
      → Counted before (more + frames) (record x { asked = (from, k) ∷ x.asked }) (cond b (to_all sp.ups m) [])
  counted_up before frames more x from m k b c = record {
    tested = c.tested;
    unheld = λ f. (let none = c.unheld f in omega (arith, quiet b, none));
    unasked = λ f. (let none = c.unasked (or_false (nat_eq k n) (asked_at_all x.asked n) f).1 in omega (arith, quiet b, none));
    bound = let bound = c.bound in omega (arith, quiet b, bound);
  }
    where
      quiet : (b : Bool) → count_to test seat (cond b (to_all sp.ups m) []) ≡ 0
      quiet true = count-elsewhere test seat sp.ups m below
      quiet false = refl

  counted_agreed : (before frames : ℕ) (x : Filter M V) (from : Seat) (m : M) (o : Option ℕ) → Counted before frames x []
      → Counted before (one_if (seat_eq from seat && is_number o n) + frames) (hear_agreed sp x from m o).0 (hear_agreed sp x from m o).1
  counted_agreed before frames x from m None c = record { tested = c.tested; unheld = c.unheld; unasked = c.unasked; bound = let bound = c.bound in omega (arith, bound) }
  counted_agreed before frames x from m (Some k) c = by (held_of x.held k) refl
    where
      by : (r : Option M) → held_of x.held k ≡ r → Counted before (one_if (seat_eq from seat && nat_eq k n) + frames) (record x { asked = (from, k) ∷ x.asked }) (answers sp x from k m r)
      by None e = counted_up before frames (one_if (seat_eq from seat && nat_eq k n)) x from m k (not (asked_at_all x.asked k) || sent_before x.asked from k) c
      by (Some reply) e = counted_answer before frames x from k reply e c

  counted_message : (before frames : ℕ) (x : Filter M V) (from : Seat) (m : M) → Counted before frames x []
      → Counted before (one_if (seat_eq from seat && is_number (sp.agreed from m) n) + frames) (on_message sp x from m).0 (on_message sp x from m).1
  counted_message before frames x from m c =
      let all : ℕ = one_if (seat_eq from seat && is_number (sp.agreed from m) n) + frames in
      let counted : Filter M V → Sends M → Type 0 = λ y out. Counted before all y out in
      message_keeps sp from m counted counted counted (record {
        known = λ y out k a. a;
        replied = λ y out k e u a. counted_down before all y out k m (tells.heard from m k e) u a;
        done = λ y out k b. b;
        shared = λ y out s e u b. record { tested = b.tested; unheld = b.unheld; unasked = b.unasked; bound = b.bound };
        made = λ y out k reply e u d. counted_down before all y out k reply (tells.made y.shares reply k e) u d;
      }) x (counted_agreed before frames x from m (sp.agreed from m) c)

  absorbed : (before frames : ℕ) (y : Filter M V) (out : Sends M) → Counted before frames y out → Counted (count_to test seat out + before) frames y []
  absorbed before frames y out c = record {
    tested = c.tested;
    unheld = λ f. (let zero = c.unheld f in omega (arith, zero));
    unasked = λ f. (let zero = c.unasked f in omega (arith, zero));
    bound = let bound = c.bound in omega (arith, bound);
  }

  unchanged : (before frames : ℕ) (y : Filter M V) → Counted before frames y [] → Counted (0 + before) (0 + frames) y []
  unchanged before frames y c = record {
    tested = c.tested;
    unheld = λ f. (let zero = c.unheld f in omega (arith, zero));
    unasked = λ f. (let zero = c.unasked f in omega (arith, zero));
    bound = let bound = c.bound in omega (arith, bound);
  }

-- ---- on every history

module _ {M O V : Type 0} (sp : Speech M V) (n : ℕ) (test : M → Bool) (tells : TellsReplies sp n test) (seat : Seat) (below : In seat sp.ups → ⊥) where
  counted : (h : List (Input M O)) → Counted sp n test tells seat below (copies (sends (filter_role sp)) test seat h) (agreed_from sp seat n h) (kept (filter_role sp) h) []
  counted [] = record { tested = λ k m i. absurd i; unheld = λ f. refl; unasked = λ f. refl; bound = omega arith }
  counted (Heard from m ∷ h) =
      let x = kept (filter_role sp) h in
      let before = copies (sends (filter_role sp)) test seat h in
      absorbed sp n test tells seat below before (agreed_from sp seat n (Heard from m ∷ h)) (on_message sp x from m).0 (on_message sp x from m).1
      (counted_message sp n test tells seat below before (agreed_from sp seat n h) x from m (counted h))
  counted (Tick ∷ h) = unchanged sp n test tells seat below (copies (sends (filter_role sp)) test seat h) (agreed_from sp seat n h) (kept (filter_role sp) h) (counted h)
  counted (Submitted op ∷ h) = unchanged sp n test tells seat below (copies (sends (filter_role sp)) test seat h) (agreed_from sp seat n h) (kept (filter_role sp) h) (counted h)

  -- no more copies than agreed frames, and one more where all replies go to the seat
  pub few_copies : (h : List (Input M O)) → copies (sends (filter_role sp)) test seat h ≤ times_in seat sp.downs + agreed_from sp seat n h
  few_copies h = let bound = (counted h).bound in omega (arith, bound)

  -- and none where no agreed frame was heard
  pub no_copies : (h : List (Input M O)) → (WasHeard (IsAgreed sp n) h → ⊥) → copies (sends (filter_role sp)) test seat h ≡ 0
  no_copies h unheard = by (asked_at_all (kept (filter_role sp) h).asked n) refl
    where
      by : (b : Bool) → asked_at_all (kept (filter_role sp) h).asked n ≡ b → copies (sends (filter_role sp)) test seat h ≡ 0
      by true e = absurd (unheard ((number_asked_is sp h n).0 e))
      by false e = let zero = (counted h).unasked e in omega (arith, zero)
