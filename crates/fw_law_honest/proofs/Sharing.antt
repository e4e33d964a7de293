-- Each share that an executor sends is of the answer at its number of the agreed list, at the executor's point.
use Rattle.std.proofs.Common.{ℕ, zero, suc, ◌+◌, ◌-◌, ◌<◌, ◌≤◌, ◌≡◌, Bool, true, false, cond, nat_eq, List, [], ◌∷◌, ◌++◌, map, length, Option, Some, None, refl, sym, ◌∙◌, ap, subst, arith, IsTrue, length-append}
use Rattle.std.specs.Prelude.{slice_get, option_and_then}
use Rattle.std.proofs.lemmas.Bool.{eqb-true, eqb-false}
use Rattle.std.proofs.lemmas.List.{map-append, length-map}
use Rattle.fw_list.specs.Lists.{numbers_from}
use Rattle.fw_base.specs.declared.params.Params.{Params}
use Rattle.fw_base.specs.declared.seat.Seat.TheVariants.{Exec}
use Rattle.fw_base.specs.declared.slot.Slot.TheVariants as slots
use Rattle.fw_base.specs.Seats.{fits}
use Rattle.fw_base.specs.Sizes.{accepted}
use Rattle.fw_text.specs.Texts.{hash, Answered}
use Rattle.fw_seal.specs.declared.types.BodyKey.{BodyKey}
use Rattle.fw_seal.specs.declared.types.Direction.TheVariants as way
use Rattle.fw_op.specs.Reading.{op_in}
use Rattle.fw_op.specs.Replies.{reply_bytes}
use Rattle.fw_trace.specs.Executor.{Speech}
use Rattle.fw_frame.specs.Frames.{PlainRequest, PlainEntry}
use Rattle.fw_frame.specs.Ranges.{asker_fits, body_fits, values_fit, number_fits, request_fits, entry_fits}
use Rattle.fw_frame.proofs.Fields.{three}
use Rattle.fw_frame.specs.View.{Entry, Given, Shares, viewed_request, viewed_entry, viewed_answers, plain_entry_of}
use Rattle.fw_directory.specs.Directories.{PlainDirectory}
use Rattle.fw_hand.specs.Hands.{key_in}
use Rattle.fw_secret.specs.Dealt.{Origin, body_key}
use Rattle.fw_deal.specs.Deals.{PlainDeal, hand_of, key_of}
use Rattle.fw_ref.specs.declared.replica.Answer.{Answer}
use Rattle.fw_ref.specs.Reference.{Reference, Replied, Opened, at_start, step, folded}
use Rattle.fw_ref.specs.Bodies as bodies
use Rattle.fw_ref.specs.Certificates.{keys_of}
use Rattle.fw_means.specs.Means.{written, opened_by, sealed_by, signed_by}
use Rattle.fw_rules.specs.Roles.{request_opened, given, step_all, executor_speech}
use Rattle.fw_rules.specs.Signing.{reply_text}
use Rattle.fw_rules.specs.Deployed.{bodies_of}
use Rattle.fw_law_honest.specs.Laws.{OneDecides}
use Rattle.fw_source.proofs.Listed.{EachFrom, EachFrom-left, EachFrom-last}
use Rattle.fw_law_exec.proofs.Folds.{after_all}
use Rattle.fw_law_honest.proofs.OneList.{means}
use Rattle.fw_law_honest.proofs.Values.{values_on, signed-values}
use Rattle.fw_law_honest.proofs.Replying.{Keeps, start-keeps, step-keeps, Fits, own_key, entry-answer, told_all, told-behind, asker_parts}
use Rattle.fw_law_honest.proofs.Told.{begins, IsTold, digest_of, answers_of, share_by, first-is}

-- ---- an executor's keys

key_among : (o : Origin) (c first count : ℕ) → first ≤ c → c < first + count → key_in (map (key_of o) (numbers_from first count)) c ≡ Some (body_key o c)
key_among o c first zero from below = absurd (omega (arith, from, below))
key_among o c first (suc count) from below = by (nat_eq first c) refl (λ apart. key_among o c (first + 1) count (omega (arith, from, apart)) (omega (arith, below)))
  where
    by : (b : Bool) → nat_eq first c ≡ b → ((first ≡ c → ⊥) → key_in (map (key_of o) (numbers_from (first + 1) count)) c ≡ Some (body_key o c))
        → cond b (Some (body_key o first)) (key_in (map (key_of o) (numbers_from (first + 1) count)) c) ≡ Some (body_key o c)
    by true e more = ap (λ (k : ℕ). Some (body_key o k)) (eqb-true first c e)
    by false e more = more (eqb-false first c e)

-- an entry of the deployment, as it is seen
pub record IsEntry (p : Params) (n : ℕ) (e : Entry) : Type 0 where
  pub number : IsTrue (number_fits p n)
  pub plain : PlainEntry
  pub fits : IsTrue (entry_fits p plain)
  pub seen : viewed_entry plain ≡ e

plain_again : (e : PlainEntry) → plain_entry_of (viewed_entry e) ≡ e
plain_again None = refl
plain_again (Some r) = refl

number_small : (p : Params) (n : ℕ) → IsTrue (accepted p) → IsTrue (number_fits p n) → (1 ≤ n) × (n ≤ 64)
number_small p n sizes fits = (grind arith, grind arith)

-- what executor j says
abbrev pub exec_speech : (deal : PlainDeal) (d : PlainDirectory) (j : ℕ) → Speech (List ℕ) Entry (List Replied) Reference
exec_speech deal d j = executor_speech (means deal d (Exec j)) (bodies_of (hand_of deal (Exec j))) deal.starts j

abbrev entry_in : PlainDeal → PlainEntry → Option Opened
entry_in deal e = bodies.entry_opened (keys_of deal.origin) e

abbrev plains : List Entry → List PlainEntry
plains es = map plain_entry_of es

module _ (deal : PlainDeal) (d : PlainDirectory) (dealt : OneDecides deal d) (sizes : IsTrue (accepted deal.origin.params)) (j : ℕ) where
  key_is : (c : ℕ) → c < deal.origin.params.clients → key_in (hand_of deal (Exec j)).keys c ≡ Some (body_key deal.origin c)
  key_is c below = key_among deal.origin c 0 deal.origin.params.clients (omega arith) (omega (arith, below))

  opened_is : (r : PlainRequest) → r.client < deal.origin.params.clients → request_opened (bodies_of (hand_of deal (Exec j))) (viewed_request r) ≡ bodies.request_opened (keys_of deal.origin) r
  opened_is r below =
      ap (λ (key : Option BodyKey). record { client = r.client; stamp = r.stamp; op = option_and_then op_in (opened_by key way.Request r.client r.stamp r.body) })
      (key_is r.client below ∙ ap Some (sym (own_key deal.origin r.client below)))

  client_small : (r : PlainRequest) → IsTrue (request_fits deal.origin.params r) → (r.client < deal.origin.params.clients) × (1 ≤ r.stamp)
  client_small r fits = asker_parts deal.origin.params r.client r.stamp (three (asker_fits deal.origin.params r.client r.stamp) (body_fits r.body) (values_fit r.sig) fits).0

  -- the reference after an entry, and what is given
  step_after : (m : Reference) (e : PlainEntry) → IsTrue (entry_fits deal.origin.params e) → (step_all (bodies_of (hand_of deal (Exec j))) m (viewed_entry e)).1 ≡ (step m (entry_in deal e)).1
  step_after m None fits = refl
  step_after m (Some r) fits = ap (λ (o : Opened). (step m (Some o)).1) (opened_is r (client_small r fits).0)

  one_given : (client stamp : ℕ) (body : List ℕ) → 1 ≤ stamp → viewed_answers client stamp body ≡ record { client = client; stamp = stamp; body = body } ∷ []
  one_given client zero body from = absurd (omega (arith, from))
  one_given client (suc n) body from = refl

  step_given : (n : ℕ) (m : Reference) (e : PlainEntry) → IsTrue (entry_fits deal.origin.params e) → Fits deal.origin n (bodies.told (keys_of deal.origin) n (step m (entry_in deal e)).0)
      → map (given (bodies_of (hand_of deal (Exec j))) n) (step_all (bodies_of (hand_of deal (Exec j))) m (viewed_entry e)).0 ≡ answers_of (bodies.told (keys_of deal.origin) n (step m (entry_in deal e)).0)
  step_given n m None fits good = refl
  step_given n m (Some r) fits good =
      let small = client_small r fits in
      let reply = (step m (entry_in deal (Some r))).0.reply in
      ap (λ (o : Opened). given (bodies_of (hand_of deal (Exec j))) n (step m (Some o)).0 ∷ []) (opened_is r small.0)
      ∙ ap (λ (key : Option BodyKey). record { client = r.client; stamp = r.stamp; body = sealed_by key way.Reply r.client n (reply_bytes reply) } ∷ []) (key_is r.client small.0)
      ∙ ap (λ (xs : List ℕ). record { client = r.client; stamp = r.stamp; body = xs } ∷ []) (sym (good.body small.1))
      ∙ sym (one_given r.client r.stamp _ small.1)

  -- after entries one after another
  all_after : (n : ℕ) (m : Reference) (es : List Entry) → EachFrom (IsEntry deal.origin.params) n es → after_all (exec_speech deal d j) m es ≡ folded m (map (entry_in deal) (plains es))
  all_after n m [] each = refl
  all_after n m (e ∷ es) each =
      let next : (step_all (bodies_of (hand_of deal (Exec j))) m e).1 ≡ (step m (entry_in deal (plain_entry_of e))).1 =
      subst (λ (x : Entry). (step_all (bodies_of (hand_of deal (Exec j))) m x).1 ≡ (step m (entry_in deal (plain_entry_of x))).1) each.0.seen
      (step_after m each.0.plain each.0.fits ∙ ap (λ (x : PlainEntry). (step m (entry_in deal x)).1) (sym (plain_again each.0.plain))) in
      ap (λ (x : Reference). after_all (exec_speech deal d j) x es) next
      ∙ all_after (n + 1) (step m (entry_in deal (plain_entry_of e))).1 es each.1

  all_keep : (k : ℕ) (m : Reference) (es : List Entry) → Keeps k m → EachFrom (IsEntry deal.origin.params) (k + 1) es → Keeps (k + length es) (folded m (map (entry_in deal) (plains es)))
  all_keep k m [] h each = let z : k ≡ k + 0 = omega arith in subst (λ (i : ℕ). Keeps i m) z h
  all_keep k m (e ∷ es) h each =
      let z : k + 1 + length es ≡ k + suc (length es) = omega arith in
      let small = number_small deal.origin.params (k + 1) sizes each.0.number in
      let fits : IsTrue (entry_fits deal.origin.params (plain_entry_of e)) =
      subst (λ (x : Entry). IsTrue (entry_fits deal.origin.params (plain_entry_of x))) each.0.seen (ap (entry_fits deal.origin.params) (plain_again each.0.plain) ∙ each.0.fits) in
      let next = step-keeps deal.origin.params (keys_of deal.origin) k m (plain_entry_of e) sizes (omega (arith, small.1)) h fits in
      subst (λ (i : ℕ). Keeps i (folded (step m (entry_in deal (plain_entry_of e))).1 (map (entry_in deal) (plains es)))) z
      (all_keep (k + 1) (step m (entry_in deal (plain_entry_of e))).1 es next each.1)

  -- ---- a share of entries that stand in front of a list

  -- what a message is: the share of the answer at a number of a list
  pub record SharesTold (list : List Entry) (m : List ℕ) : Type 0 where
    pub number : ℕ
    pub answer : Answer
    pub told : IsTold deal list number answer
    pub is : m ≡ written (Shares (share_by deal.origin j number answer))

  pub share_told : (m : List ℕ) (before more : List Entry) (entry : Entry) → fits deal.origin.params (Exec j) ≡ true → EachFrom (IsEntry deal.origin.params) 1 (before ++ entry ∷ [])
      → m ≡ (exec_speech deal d j).share (length before + 1) ((exec_speech deal d j).step (after_all (exec_speech deal d j) (exec_speech deal d j).begin before) entry).0
      → SharesTold (before ++ entry ∷ more) m
  share_told m before more entry fit each is = record { number = n; answer = a; told = told; is = spelled }
    where
      o : Origin
      o = deal.origin

      n : ℕ
      n = length before + 1

      front : EachFrom (IsEntry o.params) 1 before
      front = EachFrom-left (IsEntry o.params) 1 before (entry ∷ []) each

      place : 1 + length before ≡ length before + 1
      place = omega arith

      last : IsEntry o.params (length before + 1) entry
      last = subst (λ (k : ℕ). IsEntry o.params k entry) place (EachFrom-last (IsEntry o.params) 1 before entry each)

      m0 : Reference
      m0 = folded (at_start deal.starts) (map (entry_in deal) (plains before))

      a : Answer
      a = bodies.told (keys_of o) n (step m0 (entry_in deal last.plain)).0

      keeps : Keeps (0 + length before) m0
      keeps = all_keep 0 (at_start deal.starts) before (start-keeps o.params deal.starts sizes dealt.starts) front

      few : n ≤ 64
      few = (number_small o.params n sizes last.number).1

      good : Fits o n a
      good = entry-answer o (0 + length before) n m0 last.plain sizes (omega (arith, few)) keeps last.fits

      plain_last : plain_entry_of entry ≡ last.plain
      plain_last = ap plain_entry_of (sym last.seen) ∙ plain_again last.plain

      whole : plains (before ++ entry ∷ more) ≡ plains before ++ last.plain ∷ plains more
      whole = map-append plain_entry_of before (entry ∷ more) ∙ ap (λ (x : PlainEntry). plains before ++ x ∷ plains more) plain_last

      there : slice_get (told_all (keys_of o) (begins deal) (plains (before ++ entry ∷ more))) (n - 1)
          ≡ Some a
      there =
          let index : n - 1 ≡ length (plains before) = omega (arith, length-map before plain_entry_of) in
          let number : 0 + 1 + length (plains before) ≡ n = omega (arith, length-map before plain_entry_of) in
          ap (λ (es : List PlainEntry). slice_get (told_all (keys_of o) (begins deal) es) (n - 1)) whole
          ∙ ap (λ (k : ℕ). slice_get (told_all (keys_of o) (begins deal) (plains before ++ last.plain ∷ plains more)) k) index
          ∙ told-behind (keys_of o) (begins deal) (plains before) (plains more) last.plain
          ∙ ap (λ (k : ℕ). Some (bodies.told (keys_of o) k (step m0 (entry_in deal last.plain)).0)) number

      told : IsTold deal (before ++ entry ∷ more) n a
      told = record {
        from = omega arith;
        within = omega (arith, length-append before (entry ∷ more));
        number = last.number;
        there = there;
        fits = good;
      }

      -- what is shared
      replies : map (given (bodies_of (hand_of deal (Exec j))) n) (step_all (bodies_of (hand_of deal (Exec j))) (after_all (exec_speech deal d j) (at_start deal.starts) before) entry).0 ≡ answers_of a
      replies =
          ap (λ (x : Reference). map (given (bodies_of (hand_of deal (Exec j))) n) (step_all (bodies_of (hand_of deal (Exec j))) x entry).0) (all_after 1 (at_start deal.starts) before front)
          ∙ ap (λ (e : Entry). map (given (bodies_of (hand_of deal (Exec j))) n) (step_all (bodies_of (hand_of deal (Exec j))) m0 e).0) (sym last.seen)
          ∙ step_given n m0 last.plain last.fits good

      values : signed_by (hand_of deal (Exec j)) (slots.Reply n) (hash (reply_text n (answers_of a))) ≡ values_on o n (digest_of n a) (j + 1)
      values =
          ap (λ (g : Given). signed_by (hand_of deal (Exec j)) (slots.Reply n) (hash (Answered n g.client g.stamp g.body))) (first-is deal (before ++ entry ∷ more) sizes n a told)
          ∙ signed-values deal j n (digest_of n a) fit last.number

      spelled : m ≡ written (Shares (share_by o j n a))
      spelled =
          is
          ∙ ap (λ (gs : List Given). written (Shares (record { number = length before + 1; exec = j; answers = gs; values = signed_by (hand_of deal (Exec j)) (slots.Reply n) (hash (reply_text n gs)) }))) replies
          ∙ ap (λ (vs : List ℕ). written (Shares (record { number = length before + 1; exec = j; answers = answers_of a; values = vs }))) values
