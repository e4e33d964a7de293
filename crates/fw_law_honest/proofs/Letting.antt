-- Each reply that a filter lets down is the certificate of its number of the agreed list.
use Rattle.std.proofs.Common.{ℕ, zero, suc, ◌+◌, ◌<◌, ◌≤◌, ◌≡◌, inl, inr, Bool, true, false, cond, ◌&&◌, nat_eq, List, [], ◌∷◌, ◌++◌, map, length, take, Some, None, refl, sym, ◌∙◌, ap, subst, arith, IsTrue, append_assoc}
use Rattle.std.specs.Prelude.{option_and_then, filter}
use Rattle.std.proofs.lemmas.Bool.{and_parts, and_from, eqb-true, eq-eqb, ltb-true, false≢true}
use Rattle.std.proofs.lemmas.Option.{none-some}
use Rattle.std.proofs.lemmas.List.{length-map, length-take}
use Rattle.fw_list.specs.Lists.{numbers_from}
use Rattle.fw_base.specs.declared.params.Params.{Params}
use Rattle.fw_base.specs.declared.seat.Seat.{Seat}
use Rattle.fw_base.specs.declared.seat.Seat.TheVariants.{Agree, Exec, Filter, Client}
use Rattle.fw_base.specs.Seats.{fits, below, above}
use Rattle.fw_base.specs.Sizes.{accepted, executors, width}
use Rattle.fw_trace.specs.declared.Share as shares
use Rattle.fw_trace.specs.Filter.{has_share}
use Rattle.fw_trace.specs.Run.{NoLies}
use Rattle.fw_trace.specs.Lists.{In}
use Rattle.fw_trace.proofs.Words.{In-filter}
use Rattle.fw_source.specs.Sources.{Pooled, AllPooled}
use Rattle.fw_source.proofs.Source.{sent_holds}
use Rattle.fw_frame.specs.View.{Entry, Given, Share, Frame, Shares, Replies}
use Rattle.fw_directory.specs.Directories.{PlainDirectory}
use Rattle.fw_shamir.specs.Polynomial.{IsAbsent, AreDistinct}
use Rattle.fw_deal.specs.Deals.{PlainDeal, hand_of}
use Rattle.fw_ref.specs.declared.replica.Answer.{Answer}
use Rattle.fw_ref.specs.Certificates.{secrets_for, certificate}
use Rattle.fw_means.specs.Means.{valid_in, written, joined_values}
use Rattle.fw_rules.specs.Means.{Means}
use Rattle.fw_rules.specs.Roles.{Valued, is_equal, same_answers, joined, filter_speech, row_of, ups}
use Rattle.fw_rules.specs.Deployed.{bodies_of}
use Rattle.fw_rules.specs.World.{rule_at, rules, trace_after, agreed, agreed_frame, agreed_in}
use Rattle.fw_law_honest.specs.Laws.{OneDecides, deployed}
use Rattle.fw_law_honest.proofs.Within.{Known, SendsSuch, all_such}
use Rattle.fw_source.proofs.Listed.{EachFrom-weaken}
use Rattle.fw_law_honest.proofs.Frames.{Reads, valid_reads, agreed_is, agreed_fits, agreed_seen, kind_in, share_kind}
use Rattle.fw_law_exec.proofs.Telling.{ExecOut, executor_sends}
use Rattle.fw_law_filter.specs.Heard.{AreApart}
use Rattle.fw_law_filter.proofs.Holding.{or_false, false_or}
use Rattle.fw_law_filter.proofs.Sending.{FilterOut, filter_sends}
use Rattle.fw_law_words.proofs.Lists.{In-map, In-take}
use Rattle.fw_law_words.proofs.Roles.{Combines, combines}
use Rattle.fw_law_honest.proofs.Speaking.{agreed-heard, FromAbove, replied-heard, FromExec, shared-heard}
use Rattle.fw_law_honest.proofs.OneList.{Events, pool_of, inputs, means, AgreedIn, at_seat, heard, ever_sent, longer}
use Rattle.fw_law_honest.proofs.Values.{values_on, AreValues, joined-values}
use Rattle.fw_law_honest.proofs.Told.{IsTold, one_told, digest_of, answers_of, share_by, Certified, certificate-is, share-read}
use Rattle.fw_law_honest.proofs.Sharing.{IsEntry, exec_speech, SharesTold, share_told}

-- ---- shares that are apart

filtered_share : (test : shares.Share Valued → Bool) (ss : List (shares.Share Valued)) (n j : ℕ) → has_share ss n j ≡ false → has_share (filter test ss) n j ≡ false
filtered_share test [] n j h = refl
filtered_share test (s ∷ ss) n j h =
    let both = or_false (nat_eq s.number n && nat_eq s.exec j) (has_share ss n j) h in
    by (test s) both.0 (filtered_share test ss n j both.1)
  where
    by : (b : Bool) → (nat_eq s.number n && nat_eq s.exec j) ≡ false → has_share (filter test ss) n j ≡ false → has_share (cond b (s ∷ filter test ss) (filter test ss)) n j ≡ false
    by true one more = false_or (nat_eq s.number n && nat_eq s.exec j) (has_share (filter test ss) n j) one more
    by false one more = more

filtered_apart : (test : shares.Share Valued → Bool) (ss : List (shares.Share Valued)) → AreApart ss → AreApart (filter test ss)
filtered_apart test [] a = tt
filtered_apart test (s ∷ ss) a = by (test s) (filtered_share test ss s.number s.exec a.0) (filtered_apart test ss a.1)
  where
    by : (b : Bool) → has_share (filter test ss) s.number s.exec ≡ false → AreApart (filter test ss) → AreApart (cond b (s ∷ filter test ss) (filter test ss))
    by true one more = (one, more)
    by false one more = more

taken_share : (k : ℕ) (ss : List (shares.Share Valued)) (n j : ℕ) → has_share ss n j ≡ false → has_share (take k ss) n j ≡ false
taken_share zero ss n j h = refl
taken_share (suc k) [] n j h = refl
taken_share (suc k) (s ∷ ss) n j h =
    let both = or_false (nat_eq s.number n && nat_eq s.exec j) (has_share ss n j) h in
    false_or (nat_eq s.number n && nat_eq s.exec j) (has_share (take k ss) n j) both.0 (taken_share k ss n j both.1)

taken_apart : (k : ℕ) (ss : List (shares.Share Valued)) → AreApart ss → AreApart (take k ss)
taken_apart zero ss a = tt
taken_apart (suc k) [] a = tt
taken_apart (suc k) (s ∷ ss) a = (taken_share k ss s.number s.exec a.0, taken_apart k ss a.1)

-- the points of shares of one number
abbrev pointed : List (shares.Share Valued) → List (ℕ × List ℕ)
pointed ss = map (λ s. (s.exec + 1, s.value.1)) ss

absent_point : (n j : ℕ) (ss : List (shares.Share Valued)) → ((s : shares.Share Valued) → In s ss → s.number ≡ n) → has_share ss n j ≡ false → IsAbsent (j + 1) (map (λ s. s.0) (pointed ss))
absent_point n j [] all h = tt
absent_point n j (s ∷ ss) all h =
    let both = or_false (nat_eq s.number n && nat_eq s.exec j) (has_share ss n j) h in (
      λ e. false≢true (sym both.0 ∙ and_from (nat_eq s.number n) (nat_eq s.exec j) (eq-eqb s.number n (all s (inl refl))) (eq-eqb s.exec j (omega (arith, e)))),
      absent_point n j ss (λ t i. all t (inr i)) both.1,
    )

distinct_points : (n : ℕ) (ss : List (shares.Share Valued)) → ((s : shares.Share Valued) → In s ss → s.number ≡ n) → AreApart ss → AreDistinct (map (λ s. s.0) (pointed ss))
distinct_points n [] all a = tt
distinct_points n (s ∷ ss) all a =
    (absent_point n s.exec ss (λ t i. all t (inr i)) (subst (λ (k : ℕ). has_share ss k s.exec ≡ false) (all s (inl refl)) a.0), distinct_points n ss (λ t i. all t (inr i)) a.1)

-- ---- the reply that shares make

-- the share is of the answer at its number, at its executor's point
pub record IsGood (deal : PlainDeal) (list : List Entry) (s : shares.Share Valued) : Type 0 where
  pub answer : Answer
  pub told : IsTold deal list s.number answer
  pub exec : s.exec < executors deal.origin.params
  pub value : s.value ≡ (answers_of answer, values_on deal.origin s.number (digest_of s.number answer) (s.exec + 1))

few_executors : (p : Params) → IsTrue (accepted p) → executors p ≤ 7
few_executors p sizes = grind arith

module _ (deal : PlainDeal) (list : List Entry) (sizes : IsTrue (accepted deal.origin.params)) where
  good_values : (n : ℕ) (a : Answer) → IsTold deal list n a → (ss : List (shares.Share Valued)) → ((s : shares.Share Valued) → In s ss → IsGood deal list s) → ((s : shares.Share Valued) → In s ss → s.number ≡ n)
      → AreValues deal.origin n (digest_of n a) (pointed ss)
  good_values n a told [] good all = tt
  good_values n a told (s ∷ ss) good all =
      let g = good s (inl refl) in
      let number = all s (inl refl) in
      let small = few_executors deal.origin.params sizes in
      let same : g.answer ≡ a = one_told deal list n g.answer a (subst (λ (k : ℕ). IsTold deal list k g.answer) number g.told) told in
      let values : s.value.1 ≡ values_on deal.origin n (digest_of n a) (s.exec + 1) =
      ap (λ (v : Valued). v.1) g.value
      ∙ ap (λ (k : ℕ). values_on deal.origin k (digest_of k g.answer) (s.exec + 1)) number
      ∙ ap (λ (b : Answer). values_on deal.origin n (digest_of n b) (s.exec + 1)) same in
      ((omega (arith, g.exec, small), values), good_values n a told ss (λ t i. good t (inr i)) (λ t i. all t (inr i)))

  combined_certified : (k : Means (List ℕ)) (n : ℕ) (kept : List (shares.Share Valued)) (m : List ℕ) → k.params ≡ deal.origin.params → k.join ≡ joined_values → k.write ≡ written
      → ((s : shares.Share Valued) → In s kept → IsGood deal list s) → AreApart kept → Combines k n kept m → Certified deal list m
  combined_certified k n kept m params join write good apart c = record { number = n; answer = a; told = told; is = spelled }
    where
      a : Answer
      a = (good c.share c.there).answer

      told : IsTold deal list n a
      told = subst (λ (i : ℕ). IsTold deal list i a) c.number (good c.share c.there).told

      equal : List (shares.Share Valued)
      equal = filter (is_equal n c.share) kept

      some : List (shares.Share Valued)
      some = take (k.params.g + 1) equal

      in_kept : (s : shares.Share Valued) → In s some → In s kept × (is_equal n c.share s ≡ true)
      in_kept s i = In-filter (is_equal n c.share) s kept (In-take (k.params.g + 1) equal s i)

      numbered : (s : shares.Share Valued) → In s some → s.number ≡ n
      numbered s i = eqb-true s.number n (and_parts (nat_eq s.number n) (same_answers s.value.0 c.share.value.0) (in_kept s i).1).0

      count : length (pointed some) ≡ deal.origin.params.g + 1
      count =
          let long = length-take (k.params.g + 1) equal in
          let enough = c.enough in
          length-map some (λ s. (s.exec + 1, s.value.1)) ∙ omega (arith, long, enough) ∙ ap (λ (p : Params). p.g + 1) params

      distinct : AreDistinct (map (λ s. s.0) (pointed some))
      distinct = distinct_points n _ numbered (taken_apart (k.params.g + 1) equal (filtered_apart (is_equal n c.share) kept apart))

      values : AreValues deal.origin n (digest_of n a) (pointed some)
      values = good_values n a told _ (λ s i. good s (in_kept s i).0) numbered

      secrets : k.join (pointed some) ≡ secrets_for deal.origin n (digest_of n a)
      secrets = ap (λ (f : List (ℕ × List ℕ) → List ℕ). f (pointed some)) join
          ∙ joined-values deal.origin n (digest_of n a) _ count distinct values

      answers : c.share.value.0 ≡ answers_of a
      answers = ap (λ (v : Valued). v.0) (good c.share c.there).value

      spelled : m ≡ certificate deal.origin n a
      spelled =
          c.is
          ∙ ap (λ (f : Frame → List ℕ). f (Replies (joined k n c.share.value.0 equal))) write
          ∙ ap (λ (gs : List Given). written (Replies (record { number = n; answers = gs; values = k.join (pointed some) }))) answers
          ∙ certificate-is deal list sizes n a told _ secrets

-- ---- in every trace

-- a message that a filter doesn't send up is a certificate
abbrev pub Down : Params → PlainDeal → List Entry → Seat → Seat → List ℕ → Type 0
Down p deal list to (Filter r c) m = above p (Filter r c) to ≡ false → Certified deal list m
Down p deal list to (Agree i) m = Unit {0}
Down p deal list to (Exec j) m = Unit {0}
Down p deal list to (Client c) m = Unit {0}

-- the seats above a filter
above_row : (p : Params) (r c : ℕ) (b : Bool) (to : Seat) → nat_eq r p.h ≡ b → In to (cond b (map Exec (numbers_from 0 (executors p))) (row_of p (r + 1))) → above p (Filter r c) to ≡ true
above_row p r c true to e i =
    let x = In-map Exec (numbers_from 0 (executors p)) to i in
    ap (above p (Filter r c)) x.2 ∙ e
above_row p r c false to e i =
    let x = In-map (Filter (r + 1)) (numbers_from 0 (width p)) to i in
    ap (above p (Filter r c)) x.2 ∙ eq-eqb (r + 1) (r + 1) refl

up_above : (p : Params) (r c : ℕ) (to : Seat) → In to (ups p r) → above p (Filter r c) to ≡ true
up_above p r c to i = above_row p r c (nat_eq r p.h) to refl i

-- no seat below a filter is above it
pub below_not_above : (p : Params) (r c : ℕ) (to : Seat) → below (Filter r c) to ≡ true → above p (Filter r c) to ≡ false
below_not_above p r c (Agree i) e = refl
below_not_above p r c (Exec j) e = absurd (false≢true e)
below_not_above p r c (Client k) e = refl
below_not_above p r c (Filter s k) e = by (nat_eq s (r + 1)) refl
  where
    by : (b : Bool) → nat_eq s (r + 1) ≡ b → nat_eq s (r + 1) ≡ false
    by true q = absurd (omega (arith, eqb-true r (s + 1) e, eqb-true s (r + 1) q))
    by false q = q

module _ (deal : PlainDeal) (d : PlainDirectory) (dealt : OneDecides deal d) (events : Events) (honest : NoLies events) where
  abbrev list : List Entry
  list = agreed (deployed deal d) (trace_after (deployed deal d) events)

  pub own_sizes : IsTrue (accepted deal.origin.params)
  own_sizes = subst (λ (p : Params). IsTrue (accepted p)) dealt.directory.sizes dealt.directory.whole.sizes

  entry_is : (n : ℕ) (e : Entry) → AgreedIn d (pool_of deal d events) n e → IsEntry deal.origin.params n e
  entry_is n e a =
      let is = agreed_is d a.sent.message n e a.reads in
      let fit = agreed_fits d.params a.sent.message n e is in
      subst (λ (p : Params). IsEntry p n e) dealt.directory.sizes (record { number = fit.0; plain = is.entry; fits = fit.1; seen = is.seen })

  abbrev Forwards : List ℕ → Type 0
  Forwards m = (a : ℕ × Entry) × (agreed_in d m ≡ Some a)

  from_exec : (j : ℕ) (to : Seat) (m : List ℕ) → Pooled (pool_of deal d events) to (Exec j) m → (fits d.params (Exec j) ≡ true) × ExecOut (exec_speech deal d j) (AgreedIn d (pool_of deal d events)) Forwards m
  from_exec j to m there =
      sent_holds (Pooled (pool_of deal d events) (Exec j)) (rule_at (deployed deal d) (Exec j))
      (λ o. (fits d.params (Exec j) ≡ true) × ExecOut (exec_speech deal d j) (AgreedIn d (pool_of deal d events)) Forwards o.1)
      (λ i h a o s. (let own = at_seat deal d (Exec j) (i ∷ h) o s in
      (own.0, executor_sends (exec_speech deal d j) (AgreedIn d (pool_of deal d events)) Forwards (Pooled (pool_of deal d events) (Exec j)) tells (i ∷ h) a o own.1)))
      (inputs deal d events (Exec j)) (heard deal d dealt events honest (Exec j)) (to, m) (ever_sent deal d dealt events honest to (Exec j) m there)
    where
      tells : (from : Seat) (k : List ℕ) (a : ℕ × Entry) → Pooled (pool_of deal d events) (Exec j) from k → (exec_speech deal d j).agreed from k ≡ Some a → AgreedIn d (pool_of deal d events) a.0 a.1 × Forwards k
      tells from k a s e =
          let x = agreed-heard (means deal d (Exec j)) (bodies_of (hand_of deal (Exec j))) deal.starts j from k a e in
          let reads : agreed_in d k ≡ Some a = agreed_seen d k x.frame a x.read x.gives in
          (record { sent = record { from = from; to = Exec j; message = k }; in_pool = s; reads = reads }, (a, reads))

  -- a share that an executor sent
  pub shares_told : (j : ℕ) (to : Seat) (m : List ℕ) (s : Share) → Pooled (pool_of deal d events) to (Exec j) m → valid_in d m ≡ Some (Shares s)
      → (j < executors deal.origin.params) × SharesTold deal d dealt own_sizes j list m
  shares_told j to m s there read = let x = from_exec j to m there in (ltb-true j (executors deal.origin.params) (own x.0), by x.0 x.1)
    where
      own : fits d.params (Exec j) ≡ true → fits deal.origin.params (Exec j) ≡ true
      own f = subst (λ (p : Params). fits p (Exec j) ≡ true) dealt.directory.sizes f

      kind : kind_in m ≡ 7
      kind = share_kind d.params m s (valid_reads d m (Shares s) read)

      by : fits d.params (Exec j) ≡ true → ExecOut (exec_speech deal d j) (AgreedIn d (pool_of deal d events)) Forwards m → SharesTold deal d dealt own_sizes j list m
      by f (inl share) =
          let entries = EachFrom-weaken (AgreedIn d (pool_of deal d events)) (IsEntry deal.origin.params) entry_is 1 (share.before ++ share.entry ∷ []) share.each in
          let long = longer deal d dealt events honest (share.before ++ share.entry ∷ []) share.each in
          subst (λ (l : List Entry). SharesTold deal d dealt own_sizes j l m) (sym (long.1 ∙ append_assoc share.before (share.entry ∷ []) long.0))
          (share_told deal d dealt own_sizes j m share.before long.0 share.entry (own f) entries share.is)
      by f (inr (inl forwards)) =
          let none : None ≡ Some forwards.0 = sym (ap (λ o. option_and_then agreed_frame o) read) ∙ forwards.1 in
          absurd (none-some forwards.0 none)
      by f (inr (inr want)) = absurd (omega (arith, kind, ap (λ (xs : List ℕ). kind_in xs) want.1))

  -- a share that a filter keeps
  good_share : (r c : ℕ) (from : Seat) (m : List ℕ) (s : shares.Share Valued) → Pooled (pool_of deal d events) (Filter r c) from m → FromExec (means deal d (Filter r c)) from m s → IsGood deal list s
  good_share r c from m s there x =
      let told = shares_told x.exec (Filter r c) m x.share (subst (λ (f : Seat). Pooled (pool_of deal d events) (Filter r c) f m) x.own there) x.read in
      let t = told.1 in
      let reads = valid_reads d m (Shares x.share) x.read in
      let same : x.share ≡ share_by deal.origin x.exec t.number t.answer =
      share-read deal list own_sizes t.number t.answer t.told x.exec m x.share told.0 t.is (subst (λ (p : Params). Reads p m (Shares x.share)) dealt.directory.sizes reads) in
      let is : s ≡ record { number = t.number; exec = x.exec; value = (answers_of t.answer, values_on deal.origin t.number (digest_of t.number t.answer) (x.exec + 1)) } =
      x.same ∙ ap (λ (y : Share). record { number = y.number; exec = y.exec; value = (y.answers, y.values) }) same in
      subst (IsGood deal list) (sym is) (record { answer = t.answer; told = t.told; exec = told.0; value = refl })

  abbrev DownOf : Seat → Seat → List ℕ → Type 0
  DownOf to from m = Down d.params deal list to from m

  -- a reply from above
  from_above : (r c : ℕ) (from : Seat) (m : List ℕ) → DownOf (Filter r c) from m → FromAbove (means deal d (Filter r c)) (Filter r c) from m → Certified deal list m
  from_above r c from m down x =
      let there : DownOf (Filter r c) (Filter x.row x.column) m = subst (λ (f : Seat). DownOf (Filter r c) f m) x.filter down in
      there (below_not_above d.params x.row x.column (Filter r c) (subst (λ (f : Seat). above d.params (Filter r c) f ≡ true) x.filter x.over))

  filter_down : (r c : ℕ) (o : Seat × List ℕ) → FilterOut (filter_speech (means deal d (Filter r c)) r c) (λ m. Unit {0}) (Certified deal list) o → DownOf o.0 (Filter r c) o.1
  filter_down r c o (inl up) under = absurd (false≢true (sym under ∙ up_above d.params r c o.0 up.0))
  filter_down r c o (inr down) under = down

  sends_down : SendsSuch (rules (deployed deal d)) (pool_of deal d events) DownOf
  sends_down (Agree i) h a o s there = tt
  sends_down (Exec j) h a o s there = tt
  sends_down (Client c) h a o s there = tt
  sends_down (Filter r c) h a o s there =
      filter_down r c o
      (filter_sends (filter_speech (means deal d (Filter r c)) r c) (λ m. Unit {0}) (Certified deal list) (IsGood deal list)
      (λ n kept m all apart made. combined_certified deal list own_sizes (means deal d (Filter r c)) n kept m dealt.directory.sizes refl refl all apart (combines (means deal d (Filter r c)) n kept m made))
      (Known (pool_of deal d events) DownOf (Filter r c))
      (λ from m n k e. tt)
      (λ from m n k e. from_above r c from m k.1 (replied-heard (means deal d (Filter r c)) r c from m n e))
      (λ from m x k e. good_share r c from m x k.0 (shared-heard (means deal d (Filter r c)) r c from m x e))
      h a o (at_seat deal d (Filter r c) h o s).1)

  pub all_down : AllPooled DownOf (pool_of deal d events)
  all_down = all_such (rules (deployed deal d)) DownOf events honest sends_down
