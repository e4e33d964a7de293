-- The same of the one agreement node where views change and its clock counts: it turns its view by itself, sends nothing to another
-- node, and what goes up again is what it committed.
use Rattle.std.proofs.Common.{ℕ, ◌+◌, ◌≡◌, ◌≤◌, inl, inr, Bool, true, false, nat_le, List, [], ◌∷◌, ◌++◌, refl, sym, ◌∙◌, ap, subst, Option, Some, None}
use Rattle.std.specs.Prelude.{option_and_then}
use Rattle.std.proofs.lemmas.Bool.{cond_both}
use Rattle.fw_base.specs.declared.seat.Seat.{Seat}
use Rattle.fw_base.specs.declared.seat.Seat.TheVariants.{Agree, Filter}
use Rattle.fw_trace.specs.declared.Input.{Input}
use Rattle.fw_trace.specs.declared.Input.TheVariants.{Heard, Tick, Submitted}
use Rattle.fw_trace.specs.Lists.{In, first_at}
use Rattle.fw_trace.specs.Role.{kept, sends}
use Rattle.fw_trace.proofs.Words.{In-append}
use Rattle.fw_source.specs.Sources.{Hears, AllHeard, EverSent}
use Rattle.fw_frame.specs.View.{Entry, Change, Agreed, Reply, Frame, Proposes, Votes, Changes, Begins, Agrees}
use Rattle.fw_rules.specs.Signing.{entry_digest}
use Rattle.fw_rules.specs.Choices.{first_some, admitted}
use Rattle.fw_rules.specs.Agree.{Node, Self, Step, Sends, own_vote, own_proposal, cast_at, pledge_at, agreed_at, is_primary, numbers, replied, to_row0}
use Rattle.fw_rules.specs.Views.{Turn, Adopt, Start, Make, turned, single, adopts, joins, makes, changes_view, passes, hears_all, resends, resends_at, resends_cast, resends_pledge, resends_change, change_if, uncommitted, agreed_again, starts_change, waits_by, waits, ticks, passes_after, agree_next, agree_role, own_change, own_new_view}
use Rattle.fw_lengths.proofs.Options.{when-some}
use Rattle.fw_law_words.proofs.Lists.{In-map}
use Rattle.fw_law_node.proofs.Begun.{are_committed}
use Rattle.fw_law_node.proofs.Found.{agreed_in}
use Rattle.fw_law_honest.proofs.Agreeing.{Grows, agreed_number, HeardReply, SentDown, AgreeOut, out_later, Going, no_out, goes_on, passes-is, HeldHeard, MayHear, hears-is, Goes}

-- it commits at numbers of the list alone
abbrev Few : {M : Type 0} → Self M → Node → Type 0
Few me x = (n : ℕ) (a : Agreed) → agreed_at x n ≡ Some a → n ≤ me.means.params.numbers

-- nothing is sent
abbrev Silent : {M : Type 0} → Sends M → Type 0
Silent out = (o : Seat × _) → In o out → ⊥

silent-append : {M : Type 0} (xs ys : Sends M) → Silent xs → Silent ys → Silent (xs ++ ys)
silent-append xs ys a b o i = elim (In-append o xs ys i) [ inl j ↦ a o j | inr j ↦ b o j ]

module _ {M : Type 0} (me : Self M) (own : me.own ≡ 0) (one : me.means.params.f ≡ 0) where
  module _ (D : M → Type 0) (x0 : Node) where
    -- ---- turns: the view is turned, and nobody hears of it

    turn-is : (s : Step M) (turn : Turn) → Going me D x0 s → Going me D x0 (turned me s (Some turn))
    turn-is s (Adopt view changes) g = goes_on me own one D x0 s _ [] g (λ n a h. h) refl (λ o i. absurd i)
    turn-is s (Start view) g =
        goes_on me own one D x0 s _ _ g (λ n a h. h) refl (λ o i. absurd (no_out me own one (Changes (own_change me s.0 view)) o i))
    turn-is s (Make changes) g =
        goes_on me own one D x0 s _ _ g (λ n a h. h) refl (λ o i. absurd (no_out me own one (Begins (own_new_view me s.0.own.view changes)) o i))

    turned-is : (s : Step M) (o : Option Turn) → Going me D x0 s → Going me D x0 (turned me s o)
    turned-is s None g = g
    turned-is s (Some turn) g = turn-is s turn g

    single-is : (chooses : Node → Option Turn) (s : Step M) → Going me D x0 s → Going me D x0 (single me chooses s)
    single-is chooses s g = turned-is s (chooses s.0) g

    all_passes : (s : Step M) → Going me D x0 s → Going me D x0 (passes me s)
    all_passes s g =
        passes-is me own one D x0 (changes_view me s)
        (single-is (makes me) (single me (joins me) (single me (adopts me) s)) (single-is (joins me) (single me (adopts me) s) (single-is (adopts me) s g)))

  -- ---- a tick: nothing is sent again to another node

  silent_change : (o : Option Change) → Silent (resends_change me o)
  silent_change None = λ o i. absurd i
  silent_change (Some change) = no_out me own one (Changes change)

  silent_pledge : (x : Node) (m : ℕ) (o : Option (List ℕ)) → Silent (resends_pledge me x m o)
  silent_pledge x m None = λ o i. absurd i
  silent_pledge x m (Some digest) = no_out me own one (Votes (own_vote me 1 x.own.view m digest))

  silent_cast : (x : Node) (m : ℕ) (o : Option Entry) → Silent (resends_cast me x m o)
  silent_cast x m None = λ o i. absurd i
  silent_cast x m (Some entry) =
      cond_both (is_primary me x) _ _ Silent
      (λ e. no_out me own one (Proposes (own_proposal me x.own.view m entry)))
      (λ e. no_out me own one (Votes (own_vote me 0 x.own.view m (entry_digest me.means.hash entry))))

  silent_at : (x : Node) (o : Option ℕ) → Silent (resends_at me x o)
  silent_at x None = λ o i. absurd i
  silent_at x (Some m) =
      silent-append (resends_cast me x m (cast_at x x.own.view m)) (resends_pledge me x m (pledge_at x x.own.view m))
      (silent_cast x m (cast_at x x.own.view m)) (silent_pledge x m (pledge_at x x.own.view m))

  silent : (x : Node) → Silent (resends me x)
  silent x =
      cond_both x.own.active (resends_at me x (first_some (uncommitted x) (numbers me))) (resends_change me (first_some (change_if x.own.view me.own) x.own.moves)) Silent
      (λ e. silent_at x (first_some (uncommitted x) (numbers me)))
      (λ e. silent_change (first_some (change_if x.own.view me.own) x.own.moves))

  -- a change that starts, or what is owed
  record Waiting (x : Node) (s : Step M) : Type 0 where
    committed : s.0.committed ≡ x.committed
    held : s.0.heard.held ≡ x.heard.held
    outs : Silent s.1

  waits-is : (x : Node) (b : Bool) → Waiting x (waits_by me x b)
  waits-is x true = record { committed = refl; held = refl; outs = no_out me own one (Changes (own_change me (record x { idle = 0 }) (x.own.view + 1))) }
  waits-is x false = record { committed = refl; held = refl; outs = silent x }

  again-is : (D : M → Type 0) (x : Node) (n : ℕ) → Few me x → (o : Option Agreed) → agreed_at x n ≡ o → (q : Seat × M) → In q (agreed_again me x o) → AgreeOut me D x q.1
  again-is D x n few None e = λ q i. absurd i
  again-is D x n few (Some a) e =
      cond_both (nat_le a.number x.up) (to_row0 me (Agrees a)) [] (λ (out : Sends M). (q : Seat × M) → In q out → AgreeOut me D x q.1)
      (λ t q i. inl (record {
        agreed = a;
        there = ap (agreed_at x) number ∙ e;
        few = subst (λ (k : ℕ). k ≤ me.means.params.numbers) (sym number) (few n a e);
        is = ap (λ (u : Seat × M). u.1) (In-map (λ (k : ℕ). (Filter 0 k, me.means.write (Agrees a))) _ q i).2;
      }))
      (λ t q i. absurd i)
    where
      number : a.number ≡ n
      number = agreed_number x n a e

  ticks-is : (D : M → Type 0) (x : Node) → Few me x → Going me D x (ticks me x)
  ticks-is D x few =
      let s = waits me x in
      let w = waits-is x (starts_change me x) in
      let same : (n : ℕ) → agreed_at s.0 n ≡ agreed_at x n = λ n. ap (λ (l : List Agreed). first_at (λ (b : Agreed). Some (b.number, b)) l n) w.committed in
      let start : Going me D x s = record { grows = λ n a h. same n ∙ h; held = w.held; outs = λ o i. absurd (w.outs o i) } in
      goes_on me own one D x s s.0 (agreed_again me s.0 (agreed_at s.0 (replied me s.0 + 1))) start (λ n a h. h) refl
      (again-is D s.0 (replied me s.0 + 1) (λ n a h. few n a (sym (same n) ∙ h)) (agreed_at s.0 (replied me s.0 + 1)) refl)

  -- ---- what it hears

  module _ (K : Seat → M → Type 0) where
    all_hears : (x : Node) (from : Seat) (m : M) (frame : Frame) → K from m → me.means.read m ≡ Some frame → HeldHeard me own one K x → MayHear me own one K x (hears_all me x from frame)
    all_hears x (Agree i) m (Changes c) k e h = record { committed = refl; held = h; outs = λ o i. absurd i }
    all_hears x (Agree i) m (Begins n) k e h = record { committed = refl; held = h; outs = λ o i. absurd i }
    all_hears x from m frame k e h = hears-is me own one K x from m frame k e h

    -- from a step whose sends are such on
    ends : (x : Node) (s : Step M) → HeldHeard me own one K s.0 → Grows x s.0 → ((o : Seat × M) → In o s.1 → AgreeOut me (SentDown me K) s.0 o.1) → Goes me own one K x (passes me s)
    ends x s held grows outs =
        let start : Going me (SentDown me K) s.0 s = record { grows = λ n a e. e; held = refl; outs = outs } in
        let end = all_passes (SentDown me K) s.0 s start in
        record {
          grows = λ n a e. end.grows n a (grows n a e);
          held = subst (λ (l : List Reply). (r : Reply) → In r l → HeardReply me K r) (sym end.held) held;
          outs = end.outs;
        }

    after-is : (x : Node) (o : Option (Step M)) → MayHear me own one K x o → HeldHeard me own one K x → Goes me own one K x (passes_after me x o)
    after-is x None c h = record { grows = λ n a e. e; held = h; outs = λ o i. absurd i }
    after-is x (Some s) c h =
        ends x s c.held (λ n a e. ap (λ (l : List Agreed). first_at (λ (b : Agreed). Some (b.number, b)) l n) c.committed ∙ e) (λ o i. inr (c.outs o i))

    tick-is : (x : Node) → Few me x → HeldHeard me own one K x → Goes me own one K x (passes me (ticks me x))
    tick-is x few h =
        let t = ticks-is (SentDown me K) x few in
        ends x (ticks me x) (subst (λ (l : List Reply). (r : Reply) → In r l → HeardReply me K r) (sym t.held) h) t.grows t.outs

    next-is : {O : Type 0} (x : Node) (i : Input M O) → Hears K i → Few me x → HeldHeard me own one K x → Goes me own one K x (agree_next me x i)
    next-is x (Heard from m) k few h = after-is x _ (by (admitted me.means (Agree me.own) from m) refl) h
      where
        by : (o : Option Frame) → admitted me.means (Agree me.own) from m ≡ o → MayHear me own one K x (option_and_then (hears_all me x from) o)
        by None e = tt
        by (Some frame) e = all_hears x from m frame k ((when-some _ (me.means.read m) frame e).1) h
    next-is x Tick k few h = tick-is x few h
    next-is x (Submitted op) k few h = record { grows = λ n a e. e; held = h; outs = λ o i. absurd i }

    few_always : {O : Type 0} (h : List (Input M O)) → Few me (kept (agree_role me) h)
    few_always h n a e =
        let place = (are_committed me h).places a (agreed_in (kept (agree_role me) h) n a e) in
        subst (λ (k : ℕ). k ≤ me.means.params.numbers) (agreed_number (kept (agree_role me) h) n a e) place.1.1

    pub held_always_views : {O : Type 0} (h : List (Input M O)) → AllHeard K h → HeldHeard me own one K (kept (agree_role me) h)
    held_always_views [] a = λ r i. absurd i
    held_always_views (i ∷ h) a = (next-is (kept (agree_role me) h) i a.0 (few_always h) (held_always_views h a.1)).held

    -- what was sent ever, by what is committed now
    pub agree_sent_views : {O : Type 0} (h : List (Input M O)) → AllHeard K h → (o : Seat × M) → EverSent (sends (agree_role me)) h o → AgreeOut me (SentDown me K) (kept (agree_role me) h) o.1
    agree_sent_views [] a o s = absurd s
    agree_sent_views (i ∷ h) a o (inl s) = (next-is (kept (agree_role me) h) i a.0 (few_always h) (held_always_views h a.1)).outs o s
    agree_sent_views (i ∷ h) a o (inr s) =
        out_later me (SentDown me K) (kept (agree_role me) h) (kept (agree_role me) (i ∷ h)) o.1
        (next-is (kept (agree_role me) h) i a.0 (few_always h) (held_always_views h a.1)).grows (agree_sent_views h a.1 o s)
