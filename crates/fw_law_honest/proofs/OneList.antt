-- In every trace of the deployment: all agreed frames of one number are one frame, and so a number is agreed for one entry.
use Rattle.std.proofs.Common.{ℕ, ◌+◌, ◌*◌, ◌≡◌, ◌≢◌, ◌≤◌, inl, inr, Bool, true, false, cond, List, [], ◌∷◌, ◌++◌, length, refl, sym, ◌∙◌, ap, subst, Some, arith, IsTrue}
use Rattle.std.proofs.lemmas.Bool.{ltb-true}
use Rattle.std.proofs.lemmas.Option.{same_Some}
use Rattle.fw_base.specs.declared.params.Params.{Params}
use Rattle.fw_base.specs.declared.seat.Seat.{Seat}
use Rattle.fw_base.specs.declared.seat.Seat.TheVariants.{Agree, Exec, Filter, Client}
use Rattle.fw_base.specs.Seats.{fits}
use Rattle.fw_base.specs.Sizes.{accepted}
use Rattle.fw_op.specs.declared.op.Op.{Op}
use Rattle.fw_trace.specs.declared.Sent.{Sent}
use Rattle.fw_trace.specs.Lists.{In, greatest_of}
use Rattle.fw_trace.specs.Trace.{Event, history}
use Rattle.fw_trace.specs.Run.{NoLies, entry_at}
use Rattle.fw_trace.specs.Role.{kept}
use Rattle.fw_source.specs.Sources.{AllHeard, EverSent, Pooled, AllPooled}
use Rattle.fw_source.proofs.Source.{traced_without_lies}
use Rattle.fw_frame.specs.View.{Entry, Agreed, Agrees}
use Rattle.fw_directory.specs.Directories.{PlainDirectory}
use Rattle.fw_deal.specs.Deals.{PlainDeal, hand_of}
use Rattle.fw_means.specs.Means.{written}
use Rattle.fw_node.specs.Histories.{Taken}
use Rattle.fw_rules.specs.Means.{Means}
use Rattle.fw_rules.specs.Agree.{Node, Self, agreed_at}
use Rattle.fw_rules.specs.Views.{agree_role}
use Rattle.fw_rules.specs.Roles.{client_speech, executor_speech, filter_speech}
use Rattle.fw_rules.specs.Deployed.{means_of, bodies_of, rule_by}
use Rattle.fw_rules.specs.World.{rule_at, rules, trace_after, agreed, agreed_in}
use Rattle.fw_law_honest.specs.Laws.{OneDecides, deployed}
use Rattle.fw_law_honest.proofs.Within.{Known, SendsSuch, all_such}
use Rattle.fw_source.proofs.Listed.{EachFrom, EachFrom-weaken, EachFrom-below, first_at-found, greatest_of-above, front_longer}
use Rattle.fw_law_honest.proofs.Frames.{agreed_is, same_number, kind_in, other_kind}
use Rattle.fw_law_honest.proofs.Agreeing.{SentDown, AgreeOut}
use Rattle.fw_law_honest.proofs.Ticking.{agree_sent_views}
use Rattle.fw_law_exec.proofs.Telling.{ExecOut, executor_sends}
use Rattle.fw_law_filter.proofs.Sending.{FilterOut, filter_sends}
use Rattle.fw_law_client.proofs.Asked.{client_sends}
use Rattle.fw_law_words.proofs.Roles.{combines}

abbrev pub Events : Type 0
Events = List (Event (List ℕ) Op)

abbrev pub pool_of : PlainDeal → PlainDirectory → Events → List (Sent (List ℕ))
pool_of deal d events = (trace_after (deployed deal d) events).pool

abbrev pub inputs : PlainDeal → PlainDirectory → Events → Seat → List Taken
inputs deal d events seat = history seat (trace_after (deployed deal d) events).log

abbrev pub means : PlainDeal → PlainDirectory → Seat → Means (List ℕ)
means deal d seat = means_of d (hand_of deal seat)

abbrev pub node_of : PlainDeal → PlainDirectory → ℕ → Self (List ℕ)
node_of deal d i = record { own = i; means = means deal d (Agree i) }

abbrev pub state_of : PlainDeal → PlainDirectory → Events → ℕ → Node
state_of deal d events i = kept (agree_role (node_of deal d i)) (inputs deal d events (Agree i))

-- the message is the frame of what is committed at the number
pub record Origin (x : Node) (m : List ℕ) (n : ℕ) : Type 0 where
  pub agreed : Agreed
  pub there : agreed_at x n ≡ Some agreed
  pub is : m ≡ written (Agrees agreed)

one_origin : (x : Node) (m k : List ℕ) (n : ℕ) → Origin x m n → Origin x k n → m ≡ k
one_origin x m k n a b =
    let same : a.agreed ≡ b.agreed = same_Some a.agreed b.agreed (sym a.there ∙ b.there) in
    a.is ∙ ap (λ (y : Agreed). written (Agrees y)) same ∙ sym b.is

-- the entry was agreed at this number
pub record AgreedIn (d : PlainDirectory) (pool : List (Sent (List ℕ))) (n : ℕ) (e : Entry) : Type 0 where
  pub sent : Sent (List ℕ)
  pub in_pool : In sent pool
  pub reads : agreed_in d sent.message ≡ Some (n, e)

-- ---- who sends what

-- a seat that sends is one of the deployment
pub at_seat : (deal : PlainDeal) (d : PlainDirectory) (seat : Seat) (h : List Taken) (o : Seat × List ℕ) → In o (rule_at (deployed deal d) seat h) → (fits d.params seat ≡ true) × In o (rule_by d (hand_of deal seat) h)
at_seat deal d seat h o i = by (fits d.params seat) refl i
  where
    by : (b : Bool) → fits d.params seat ≡ b → In o (cond b (rule_by d (hand_of deal seat) h) []) → (fits d.params seat ≡ true) × In o (rule_by d (hand_of deal seat) h)
    by true e i = (e, i)
    by false e i = absurd i

pub ever_at_seat : (deal : PlainDeal) (d : PlainDirectory) (seat : Seat) (h : List Taken) (o : Seat × List ℕ) → EverSent (rule_at (deployed deal d) seat) h o → EverSent (rule_by d (hand_of deal seat)) h o
ever_at_seat deal d seat [] o s = absurd s
ever_at_seat deal d seat (i ∷ h) o (inl s) = inl (at_seat deal d seat (i ∷ h) o s).1
ever_at_seat deal d seat (i ∷ h) o (inr s) = inr (ever_at_seat deal d seat h o s)

pub one_fault_less : (deal : PlainDeal) (d : PlainDirectory) → OneDecides deal d → d.params.f ≡ 0
one_fault_less deal d dealt = ap (λ (p : Params). p.f) dealt.directory.sizes ∙ dealt.one

pub first_node : (p : Params) (i : ℕ) → p.f ≡ 0 → fits p (Agree i) ≡ true → i ≡ 0
first_node p i none fit = omega (arith, none, ltb-true i (3 * p.f + 1) fit)

module _ (deal : PlainDeal) (d : PlainDirectory) (dealt : OneDecides deal d) (events : Events) (honest : NoLies events) where
  pub heard : (seat : Seat) → AllHeard (Pooled (pool_of deal d events) seat) (inputs deal d events seat)
  heard = (traced_without_lies (rules (deployed deal d)) events honest).heard

  pub ever_sent : (to from : Seat) (m : List ℕ) → Pooled (pool_of deal d events) to from m → EverSent (rule_at (deployed deal d) from) (inputs deal d events from) (to, m)
  ever_sent to from m i = (traced_without_lies (rules (deployed deal d)) events honest).sent (record { from = from; to = to; message = m }) i refl

  -- what an agreement node sent
  pub from_node : (i : ℕ) (to : Seat) (m : List ℕ) → i ≡ 0 → Pooled (pool_of deal d events) to (Agree i) m
      → AgreeOut (node_of deal d i) (SentDown (node_of deal d i) (Pooled (pool_of deal d events) (Agree i))) (state_of deal d events i) m
  from_node i to m own there =
      agree_sent_views (node_of deal d i) own (one_fault_less deal d dealt) (Pooled (pool_of deal d events) (Agree i)) (inputs deal d events (Agree i)) (heard (Agree i)) (to, m)
      (ever_at_seat deal d (Agree i) (inputs deal d events (Agree i)) (to, m) (ever_sent to (Agree i) m there))

  -- each agreed frame is that of what the first node committed
  abbrev Committed : List ℕ → Type 0
  Committed m = (n : ℕ) (e : Entry) → agreed_in d m ≡ Some (n, e) → Origin (state_of deal d events 0) m n

  abbrev FromCommitted : Seat → Seat → List ℕ → Type 0
  FromCommitted to from m = Committed m

  sizes : IsTrue (accepted d.params)
  sizes = dealt.directory.whole.sizes

  no_agreed : (m : List ℕ) (n kind : ℕ) (e : Entry) → kind_in m ≡ kind → kind ≢ 6 → agreed_in d m ≡ Some (n, e) → Origin (state_of deal d events 0) m n
  no_agreed m n kind e same other q = absurd (other_kind d.params m n kind e (agreed_is d m n e q) same other)

  node_such : (i : ℕ) (m : List ℕ) → i ≡ 0 → AgreeOut (node_of deal d i) (SentDown (node_of deal d i) (Pooled (pool_of deal d events) (Agree i))) (state_of deal d events i) m → Committed m
  node_such i m own (inl up) n e q =
      let number : n ≡ up.agreed.number = same_number d.params m n e up.agreed sizes (agreed_is d m n e q) up.few up.is in
      let origin : Origin (state_of deal d events i) m n = record { agreed = up.agreed; there = ap (agreed_at (state_of deal d events i)) number ∙ up.there; is = up.is } in
      subst (λ (k : ℕ). Origin (state_of deal d events k) m n) own origin
  node_such i m own (inr down) n e q = no_agreed m n 8 e (ap (λ (xs : List ℕ). kind_in xs) down.is) (λ k. omega (arith, k)) q

  exec_such : (j : ℕ) (m : List ℕ) → ExecOut (executor_speech (means deal d (Exec j)) (bodies_of (hand_of deal (Exec j))) deal.starts j) (λ n e. Unit {0}) Committed m → Committed m
  exec_such j m (inl share) n e q = no_agreed m n 7 e (ap (λ (xs : List ℕ). kind_in xs) share.is) (λ k. omega (arith, k)) q
  exec_such j m (inr (inl same)) n e q = same n e q
  exec_such j m (inr (inr want)) n e q = no_agreed m n 9 e (ap (λ (xs : List ℕ). kind_in xs) want.1) (λ k. omega (arith, k)) q

  filter_such : (r c : ℕ) (o : Seat × List ℕ) → FilterOut (filter_speech (means deal d (Filter r c)) r c) Committed Committed o → Committed o.1
  filter_such r c o (inl up) = up.1
  filter_such r c o (inr down) = down

  sends_such : SendsSuch (rules (deployed deal d)) (pool_of deal d events) FromCommitted
  sends_such (Agree i) h a o s there =
      let own = first_node d.params i (one_fault_less deal d dealt) (at_seat deal d (Agree i) h o s).0 in
      node_such i o.1 own (from_node i o.0 o.1 own there)
  sends_such (Exec j) h a o s there =
      exec_such j o.1
      (executor_sends (executor_speech (means deal d (Exec j)) (bodies_of (hand_of deal (Exec j))) deal.starts j) (λ n e. Unit {0}) Committed
      (Known (pool_of deal d events) FromCommitted (Exec j)) (λ from m b k e. (tt, k.1)) h a o (at_seat deal d (Exec j) h o s).1)
  sends_such (Filter r c) h a o s there =
      filter_such r c o
      (filter_sends (filter_speech (means deal d (Filter r c)) r c) Committed Committed (λ x. Unit {0})
      (λ n kept m all apart made. (let made_of = combines (means deal d (Filter r c)) n kept m made in λ k e q. no_agreed m k 8 e (ap (λ (xs : List ℕ). kind_in xs) made_of.is) (λ z. omega (arith, z)) q))
      (Known (pool_of deal d events) FromCommitted (Filter r c)) (λ from m n k e. k.1) (λ from m n k e. k.1) (λ from m x k e. tt) h a o (at_seat deal d (Filter r c) h o s).1)
  sends_such (Client c) h a o s there =
      let asks = client_sends (client_speech (means deal d (Client c)) (bodies_of (hand_of deal (Client c))) c) h o (at_seat deal d (Client c) h o s).1 in
      λ n e q. no_agreed o.1 n 1 e (ap (λ (xs : List ℕ). kind_in xs) asks.2) (λ k. omega (arith, k)) q

  committed : AllPooled FromCommitted (pool_of deal d events)
  committed = all_such (rules (deployed deal d)) FromCommitted events honest sends_such

  origin_of : (n : ℕ) (e : Entry) (a : AgreedIn d (pool_of deal d events) n e) → Origin (state_of deal d events 0) a.sent.message n
  origin_of n e a = committed a.sent a.in_pool n e a.reads

  -- all agreed frames of a number are one
  pub one_frame : (n : ℕ) (e g : Entry) (a : AgreedIn d (pool_of deal d events) n e) (b : AgreedIn d (pool_of deal d events) n g) → a.sent.message ≡ b.sent.message
  one_frame n e g a b = one_origin (state_of deal d events 0) a.sent.message b.sent.message n (origin_of n e a) (origin_of n g b)

  -- and so a number is agreed for one entry
  pub one_entry : (n : ℕ) (e g : Entry) → AgreedIn d (pool_of deal d events) n e → AgreedIn d (pool_of deal d events) n g → e ≡ g
  one_entry n e g a b =
      ap (λ (u : ℕ × Entry). u.1) (same_Some (n, e) (n, g) (sym a.reads ∙ ap (agreed_in d) (one_frame n e g a b) ∙ b.reads))

  -- entries that were agreed at 1, 2, .. stand in front of the agreed list
  pub longer : (list : List Entry) → EachFrom (AgreedIn d (pool_of deal d events)) 1 list → (rest : List Entry) × (agreed (deployed deal d) (trace_after (deployed deal d) events) ≡ list ++ rest)
  longer list each = front_longer (entry_at (agreed_in d) (pool_of deal d events)) 1 most list entries (omega (arith, below))
    where
      most : ℕ
      most = greatest_of (λ s. agreed_in d s.message) (pool_of deal d events)

      entries : EachFrom (λ k e. entry_at (agreed_in d) (pool_of deal d events) k ≡ Some e) 1 list
      entries = EachFrom-weaken (AgreedIn d (pool_of deal d events)) (λ k e. entry_at (agreed_in d) (pool_of deal d events) k ≡ Some e) (λ k e y.
          let f = first_at-found (λ (s : Sent (List ℕ)). agreed_in d s.message) (pool_of deal d events) y.sent k e y.in_pool y.reads in
          f.first ∙ ap Some (one_entry k f.value e (record { sent = f.item; in_pool = f.in_list; reads = f.read }) y)) 1 list each

      below : 1 + length list ≤ most + 1
      below = EachFrom-below (AgreedIn d (pool_of deal d events)) most (λ k e y. greatest_of-above (λ (s : Sent (List ℕ)). agreed_in d s.message) (pool_of deal d events) y.sent k e y.in_pool y.reads) 1 list each (omega arith)
