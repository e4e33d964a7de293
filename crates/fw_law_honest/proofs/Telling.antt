-- Each reply that a client has accepted is the answer at its number of the agreed list.
use Rattle.std.proofs.Common.{ℕ, zero, suc, ◌≤◌, ◌≡◌, inl, inr, Bool, cond, nat_eq, List, [], ◌∷◌, Option, Some, None, refl, sym, ◌∙◌, ap, subst, arith}
use Rattle.std.specs.Prelude.{option_and_then, option_map}
use Rattle.std.proofs.lemmas.Bool.{eqb-true, eq-eqb}
use Rattle.std.proofs.lemmas.Option.{same_Some}
use Rattle.fw_base.specs.declared.params.Params.{Params}
use Rattle.fw_base.specs.declared.seat.Seat.{Seat}
use Rattle.fw_base.specs.declared.seat.Seat.TheVariants.{Agree, Filter, Client}
use Rattle.fw_seal.specs.declared.types.BodyKey.{BodyKey}
use Rattle.fw_seal.specs.declared.types.Direction.TheVariants as way
use Rattle.fw_seal.specs.Seal.{sealed, Opens}
use Rattle.fw_seal.proofs.Opened.{opened_from_opens}
use Rattle.fw_op.specs.declared.reply.Reply as said
use Rattle.fw_op.specs.Replies.{reply_bytes}
use Rattle.fw_op.specs.Reading.{reply_in}
use Rattle.fw_op.proofs.Lengths.{short_reply}
use Rattle.fw_op.proofs.Reading.{reply_in-reply_bytes}
use Rattle.fw_trace.specs.declared.Told.{Told}
use Rattle.fw_trace.specs.Run.{NoLies}
use Rattle.fw_trace.specs.Role.{kept}
use Rattle.fw_trace.specs.Client.{client_role}
use Rattle.fw_trace.specs.Lists.{In}
use Rattle.fw_source.specs.Sources.{EverSent, Pooled}
use Rattle.fw_frame.specs.View.{Entry, Given, Reply, Replies, viewed_answers}
use Rattle.fw_directory.specs.Directories.{PlainDirectory}
use Rattle.fw_hand.specs.Hands.{key_in}
use Rattle.fw_secret.specs.Dealt.{body_key}
use Rattle.fw_deal.specs.Deals.{PlainDeal, hand_of}
use Rattle.fw_ref.specs.declared.replica.Answer.{Answer}
use Rattle.fw_ref.specs.Certificates.{secrets_for}
use Rattle.fw_means.specs.Means.{valid_in, opened_by}
use Rattle.fw_node.specs.Histories.{Taken}
use Rattle.fw_rules.specs.Roles.{told_one, client_speech}
use Rattle.fw_rules.specs.Deployed.{bodies_of}
use Rattle.fw_rules.specs.World.{rule_at, trace_after, agreed}
use Rattle.fw_law_honest.specs.Laws.{OneDecides, deployed}
use Rattle.fw_law_honest.proofs.Frames.{Reads, valid_reads, kind_in, reply_kind, written_again}
use Rattle.fw_lengths.proofs.Options.{when-some}
use Rattle.fw_law_honest.proofs.Agreeing.{SentDown, AgreeOut}
use Rattle.fw_law_client.proofs.Accepted.{client_accepts}
use Rattle.fw_law_honest.proofs.Speaking.{FromNode, told-heard}
use Rattle.fw_law_honest.proofs.OneList.{Events, pool_of, inputs, means, node_of, state_of, at_seat, heard, ever_sent, from_node, first_node, one_fault_less}
use Rattle.fw_law_honest.proofs.Replying.{Fits}
use Rattle.fw_law_honest.proofs.Told.{IsTold, digest_of, answers_of, Certified, certificate-read}
use Rattle.fw_law_honest.proofs.Letting.{own_sizes, all_down}

-- ---- a body opened

pub opens_again : (deal : PlainDeal) (n c : ℕ) (a : Answer) → Fits deal.origin n a → 1 ≤ a.stamp → a.client ≡ c → (bodies_of (hand_of deal (Client c))).open_reply c n a.body.bytes ≡ Some a.reply
opens_again deal n c a fits from own =
    let reply = fits.reply from in
    let key = body_key deal.origin c in
    let own_key : key_in (hand_of deal (Client c)).keys c ≡ Some key = ap (λ (b : Bool). cond b (Some key) None) (eq-eqb c c refl) in
    let body : a.body.bytes ≡ sealed key way.Reply c n (reply_bytes a.reply) = fits.body from ∙ ap (λ (k : ℕ). sealed (body_key deal.origin k) way.Reply k n (reply_bytes a.reply)) own in
    let opens : Opens key way.Reply c n a.body.bytes (reply_bytes a.reply) = record { short = short_reply a.reply reply.0; same = body } in
    ap (λ (k : Option BodyKey). option_and_then reply_in (opened_by k way.Reply c n a.body.bytes)) own_key
    ∙ ap (option_and_then reply_in) (opened_from_opens key way.Reply c n a.body.bytes (reply_bytes a.reply) opens)
    ∙ reply_in-reply_bytes a.reply reply.0 reply.1

-- what an answer tells a client
told_again : (deal : PlainDeal) (n c : ℕ) (a : Answer) (g : Given) (t : Told said.Reply) → Fits deal.origin n a → In g (answers_of a) → told_one (bodies_of (hand_of deal (Client c))) c n g ≡ Some t
    → (a.client ≡ c) × (record { number = n; stamp = a.stamp; reply = a.reply } ≡ t)
told_again deal n c a g t fits there tells = by a.stamp refl there
  where
    at : (stamp : ℕ) → a.stamp ≡ stamp → 1 ≤ stamp → g ≡ record { client = a.client; stamp = stamp; body = a.body.bytes } → (a.client ≡ c) × (record { number = n; stamp = a.stamp; reply = a.reply } ≡ t)
    at stamp same from is =
        let told : told_one (bodies_of (hand_of deal (Client c))) c n (record { client = a.client; stamp = stamp; body = a.body.bytes }) ≡ Some t =
        subst (λ (x : Given). told_one (bodies_of (hand_of deal (Client c))) c n x ≡ Some t) is tells in
        let own : a.client ≡ c = eqb-true a.client c ((when-some (nat_eq a.client c) (option_map (λ r. record { number = n; stamp = stamp; reply = r }) ((bodies_of (hand_of deal (Client c))).open_reply c n a.body.bytes)) t told).0) in
        let opened_is = opens_again deal n c a fits (omega (arith, same, from)) own in
        let value : Some (record { number = n; stamp = stamp; reply = a.reply }) ≡ Some t =
        sym (ap (option_map (λ r. record { number = n; stamp = stamp; reply = r })) opened_is) ∙ (when-some (nat_eq a.client c) (option_map (λ r. record { number = n; stamp = stamp; reply = r }) ((bodies_of (hand_of deal (Client c))).open_reply c n a.body.bytes)) t told).1 in
        (own, ap (λ (s : ℕ). record { number = n; stamp = s; reply = a.reply }) same ∙ same_Some (record { number = n; stamp = stamp; reply = a.reply }) t value)

    by : (stamp : ℕ) → a.stamp ≡ stamp → In g (viewed_answers a.client stamp a.body.bytes) → (a.client ≡ c) × (record { number = n; stamp = a.stamp; reply = a.reply } ≡ t)
    by zero same i = absurd i
    by (suc k) same (inl e) = at (suc k) same (omega arith) e
    by (suc k) same (inr i) = absurd i

-- a client was told the answer at a number of a list
pub record ToldIn (deal : PlainDeal) (list : List Entry) (c : ℕ) (t : Told said.Reply) : Type 0 where
  pub answer : Answer
  pub told : IsTold deal list t.number answer
  pub own : answer.client ≡ c
  pub stamp : answer.stamp ≡ t.stamp
  pub reply : answer.reply ≡ t.reply

-- ---- in every trace

module _ (deal : PlainDeal) (d : PlainDirectory) (dealt : OneDecides deal d) (events : Events) (honest : NoLies events) where
  abbrev list : List Entry
  list = agreed (deployed deal d) (trace_after (deployed deal d) events)

  node_fits : (i : ℕ) (h : List Taken) (o : Seat × List ℕ) → EverSent (rule_at (deployed deal d) (Agree i)) h o → i ≡ 0
  node_fits i [] o s = absurd s
  node_fits i (x ∷ h) o (inl s) = first_node d.params i (one_fault_less deal d dealt) (at_seat deal d (Agree i) (x ∷ h) o s).0
  node_fits i (x ∷ h) o (inr s) = node_fits i h o s

  -- what an agreement node sends and is read as a reply
  node_certified : (i : ℕ) (to : Seat) (m : List ℕ) (r : Reply) → Pooled (pool_of deal d events) to (Agree i) m → valid_in d m ≡ Some (Replies r) → Certified deal list m
  node_certified i to m r there read =
      let own = node_fits i (inputs deal d events (Agree i)) (to, m) (ever_sent deal d dealt events honest to (Agree i) m there) in
      by (from_node deal d dealt events honest i to m own there)
    where
      kind : kind_in m ≡ 8
      kind = reply_kind d.params m r (valid_reads d m (Replies r) read)

      by : AgreeOut (node_of deal d i) (SentDown (node_of deal d i) (Pooled (pool_of deal d events) (Agree i))) (state_of deal d events i) m → Certified deal list m
      by (inl up) = absurd (omega (arith, kind, ap (λ (xs : List ℕ). kind_in xs) up.is))
      by (inr down) =
          let h = down.heard in
          let same : m ≡ h.message = down.is ∙ written_again d.params h.message (Replies down.reply) (valid_reads d h.message (Replies down.reply) h.read) in
          subst (Certified deal list) (sym same) (all_down deal d dealt events honest (record { from = Filter 0 h.column; to = Agree i; message = h.message }) h.heard refl)

  told_in : (c : ℕ) (from : Seat) (m : List ℕ) (t : Told said.Reply) → Pooled (pool_of deal d events) (Client c) from m
      → FromNode (means deal d (Client c)) (bodies_of (hand_of deal (Client c))) c from m t → ToldIn deal list c t
  told_in c from m t there x =
      let certified = node_certified x.node (Client c) m x.reply (subst (λ (f : Seat). Pooled (pool_of deal d events) (Client c) f m) x.own there) x.read in
      let n = certified.number in
      let a = certified.answer in
      let reads = subst (λ (p : Params). Reads p m (Replies x.reply)) dealt.directory.sizes (valid_reads d m (Replies x.reply) x.read) in
      let reply : x.reply ≡ record { number = n; answers = answers_of a; values = secrets_for deal.origin n (digest_of n a) } =
      certificate-read deal list (own_sizes deal d dealt events honest) n a certified.told m x.reply certified.is reads in
      let there_in : In x.given (answers_of a) = subst (λ (y : Reply). In x.given y.answers) reply x.there in
      let tells : told_one (bodies_of (hand_of deal (Client c))) c n x.given ≡ Some t = subst (λ (y : Reply). told_one (bodies_of (hand_of deal (Client c))) c y.number x.given ≡ Some t) reply x.tells in
      let told = told_again deal n c a x.given t certified.told.fits there_in tells in
      record {
        answer = a;
        told = subst (λ (k : ℕ). IsTold deal list k a) (ap (λ (y : Told said.Reply). y.number) told.1) certified.told;
        own = told.0;
        stamp = ap (λ (y : Told said.Reply). y.stamp) told.1;
        reply = ap (λ (y : Told said.Reply). y.reply) told.1;
      }

  pub accepted_told : (c : ℕ) (t : Told said.Reply) → In t (kept (client_role (client_speech (means deal d (Client c)) (bodies_of (hand_of deal (Client c))) c)) (inputs deal d events (Client c))).accepted → ToldIn deal list c t
  accepted_told c t i =
      client_accepts (client_speech (means deal d (Client c)) (bodies_of (hand_of deal (Client c))) c) (ToldIn deal list c) (Pooled (pool_of deal d events) (Client c))
      (λ from m u k e. told_in c from m u k (told-heard (means deal d (Client c)) (bodies_of (hand_of deal (Client c))) c from m u e))
      (inputs deal d events (Client c)) (heard deal d dealt events honest (Client c)) t i
