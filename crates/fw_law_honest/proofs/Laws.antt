-- The laws, over events and over runs.
use Rattle.std.proofs.Common.{ℕ, ◌+◌, ◌-◌, ◌≡◌, true, ◌&&◌, List, map, Some, refl, sym, ◌∙◌, ap, subst, arith, Ok, false, IsTrue}
use Rattle.std.specs.Prelude.{reverse}
use Rattle.std.proofs.lemmas.Bool.{and_parts, false≢true}
use Rattle.fw_base.specs.declared.seat.Seat.{Seat}
use Rattle.fw_base.specs.declared.seat.Seat.TheVariants.{Agree, Exec, Filter, Client}
use Rattle.fw_base.specs.Seats.{below, above}
use Rattle.fw_base.specs.Sizes.{accepted}
use Rattle.fw_frame.specs.Frames.{Reply}
use Rattle.fw_frame.specs.Ranges.{IsFrame}
use Rattle.fw_op.specs.declared.op.Op.{Op}
use Rattle.fw_op.specs.declared.reply.Reply as said
use Rattle.fw_trace.specs.declared.Told.{Told}
use Rattle.fw_trace.specs.declared.Sent.{Sent}
use Rattle.fw_trace.specs.Trace.{Trace}
use Rattle.fw_trace.specs.Run.{Step, run, NoLies}
use Rattle.fw_trace.specs.Role.{kept}
use Rattle.fw_trace.specs.Client.{client_role}
use Rattle.fw_trace.proofs.Words.{In-filter, In-reverse, Contains-In}
use Rattle.fw_source.specs.Sources.{Pooled}
use Rattle.fw_source.proofs.Reached.{run_without_lies}
use Rattle.fw_frame.specs.View.{Entry, plain_entry_of}
use Rattle.fw_directory.specs.Directories.{PlainDirectory}
use Rattle.fw_deal.specs.Deals.{PlainDeal, hand_of}
use Rattle.fw_ref.specs.Certificates.{keys_of, secrets_for, certificate}
use Rattle.fw_rules.specs.Roles.{client_speech}
use Rattle.fw_rules.specs.Deployed.{bodies_of}
use Rattle.fw_rules.specs.World.{Deployed, world, trace_after, agreed, in_row, let_down}
use Rattle.fw_law_honest.specs.Laws.{OneDecides, deployed, IsAnswer, AcceptsAnswers, IsCertificate, LetsDownCertificates, SendsCertificates, AgreesOnce}
use Rattle.fw_law_honest.proofs.OneList.{Events, pool_of, inputs, means, one_frame}
use Rattle.fw_law_honest.proofs.Replying.{certificate-at, reply-at}
use Rattle.fw_law_honest.proofs.Told.{begins, digest_of, Certified, certificate-frame}
use Rattle.fw_law_honest.proofs.Letting.{own_sizes, below_not_above, all_down}
use Rattle.fw_law_honest.proofs.Telling.{ToldIn, accepted_told}

answer_is : (deal : PlainDeal) (list : List Entry) (c : ℕ) (t : Told said.Reply) → ToldIn deal list c t → IsAnswer deal list c t
answer_is deal list c t x = record {
  from = x.told.from;
  within = x.told.within;
  is = reply-at (keys_of deal.origin) (begins deal) (map plain_entry_of list) (t.number - 1) x.answer x.told.there
      ∙ ap (λ (k : ℕ). Some (record { client = k; stamp = x.answer.stamp; reply = x.answer.reply })) x.own
      ∙ ap (λ (s : ℕ). Some (record { client = c; stamp = s; reply = x.answer.reply })) x.stamp
      ∙ ap (λ (r : said.Reply). Some (record { client = c; stamp = t.stamp; reply = r })) x.reply;
}

pub accepts : (deal : PlainDeal) (d : PlainDirectory) → OneDecides deal d → (events : Events) → NoLies events → AcceptsAnswers deal d (trace_after (deployed deal d) events)
accepts deal d dealt events honest c told there =
    let all = (kept (client_role (client_speech (means deal d (Client c)) (bodies_of (hand_of deal (Client c))) c)) (inputs deal d events (Client c))).accepted in
    answer_is deal (agreed (deployed deal d) (trace_after (deployed deal d) events)) c told
    (accepted_told deal d dealt events honest c told (In-reverse told all (Contains-In (reverse all) told there)))

certificate_is : (deal : PlainDeal) (list : List Entry) (m : List ℕ) → IsTrue (accepted deal.origin.params) → Certified deal list m → IsCertificate deal list m
certificate_is deal list m sizes x = record {
  number = x.number;
  from = x.told.from;
  within = x.told.within;
  is = (let place : 0 + 1 + (x.number - 1) ≡ x.number = omega (arith, x.told.from) in
      certificate-at deal.origin (begins deal) (map plain_entry_of list) (x.number - 1) x.answer x.told.there
      ∙ ap (λ (n : ℕ). Some (certificate deal.origin n x.answer)) place ∙ ap Some (sym x.is));
  reply = record {
    client = x.answer.client;
    stamp = x.answer.stamp;
    body = x.answer.body.bytes;
    secrets = secrets_for deal.origin x.number (digest_of x.number x.answer);
    frame = subst (λ (bytes : List ℕ). IsFrame deal.origin.params bytes (Reply x.number x.answer.client x.answer.stamp x.answer.body.bytes (secrets_for deal.origin x.number (digest_of x.number x.answer)))) (sym x.is)
        (certificate-frame deal list sizes x.number x.answer x.told);
  };
}

-- what a filter sends to a seat that isn't above it
not_up : (deal : PlainDeal) (d : PlainDirectory) → OneDecides deal d → (events : Events) → NoLies events → (r c : ℕ) (to : Seat) (m : List ℕ) → above d.params (Filter r c) to ≡ false
    → Pooled (pool_of deal d events) to (Filter r c) m → IsCertificate deal (agreed (deployed deal d) (trace_after (deployed deal d) events)) m
not_up deal d dealt events honest r c to m under i =
    certificate_is deal (agreed (deployed deal d) (trace_after (deployed deal d) events)) m (own_sizes deal d dealt events honest)
    (all_down deal d dealt events honest (record { from = Filter r c; to = to; message = m }) i under)

row_sent : (deal : PlainDeal) (d : PlainDirectory) → OneDecides deal d → (events : Events) → NoLies events → (r : ℕ) (from to : Seat) (m : List ℕ) → (in_row r from && below from to) ≡ true
    → Pooled (pool_of deal d events) to from m → IsCertificate deal (agreed (deployed deal d) (trace_after (deployed deal d) events)) m
row_sent deal d dealt events honest r (Filter s c) to m e i = not_up deal d dealt events honest s c to m (below_not_above d.params s c to (and_parts _ _ e).1) i
row_sent deal d dealt events honest r (Agree k) to m e i = absurd (false≢true e)
row_sent deal d dealt events honest r (Exec k) to m e i = absurd (false≢true e)
row_sent deal d dealt events honest r (Client k) to m e i = absurd (false≢true e)

pub lets_down : (deal : PlainDeal) (d : PlainDirectory) → OneDecides deal d → (events : Events) → NoLies events → LetsDownCertificates deal d (trace_after (deployed deal d) events)
lets_down deal d dealt events honest r s there =
    let i = In-filter (λ (x : Sent (List ℕ)). in_row r x.from && below x.from x.to) s (pool_of deal d events) (Contains-In (let_down r (trace_after (deployed deal d) events)) s there) in
    row_sent deal d dealt events honest r s.from s.to s.message i.1 i.0

pub sends_down : (deal : PlainDeal) (d : PlainDirectory) → OneDecides deal d → (events : Events) → NoLies events → SendsCertificates deal d (trace_after (deployed deal d) events)
sends_down deal d dealt events honest r c i m there =
    not_up deal d dealt events honest r c (Agree i) m refl (Contains-In (pool_of deal d events) (record { from = Filter r c; to = Agree i; message = m }) there)

pub agrees_once : (deal : PlainDeal) (d : PlainDirectory) → OneDecides deal d → (events : Events) → NoLies events → AgreesOnce deal d (trace_after (deployed deal d) events)
agrees_once deal d dealt events honest s u n e g first second reads again =
    one_frame deal d dealt events honest n e g
    (record { sent = s; in_pool = Contains-In (pool_of deal d events) s first; reads = reads })
    (record { sent = u; in_pool = Contains-In (pool_of deal d events) u second; reads = again })

-- a run is the trace of events without lies
pub run_events : (d : Deployed) (steps : List (Step Op ⊥)) (t : Trace (List ℕ) Op) → run (world d) steps ≡ Ok t → (events : Events) × NoLies events × (t ≡ trace_after d events)
run_events d steps t h = run_without_lies (world d) (λ l pool. refl) steps t h

pub run_accepts : (deal : PlainDeal) (d : PlainDirectory) → OneDecides deal d → (steps : List (Step Op ⊥)) (t : Trace (List ℕ) Op) → run (world (deployed deal d)) steps ≡ Ok t → AcceptsAnswers deal d t
run_accepts deal d dealt steps t h = let e = run_events (deployed deal d) steps t h in subst (AcceptsAnswers deal d) (sym e.2) (accepts deal d dealt e.0 e.1)

pub run_lets_down : (deal : PlainDeal) (d : PlainDirectory) → OneDecides deal d → (steps : List (Step Op ⊥)) (t : Trace (List ℕ) Op) → run (world (deployed deal d)) steps ≡ Ok t → LetsDownCertificates deal d t
run_lets_down deal d dealt steps t h = let e = run_events (deployed deal d) steps t h in subst (LetsDownCertificates deal d) (sym e.2) (lets_down deal d dealt e.0 e.1)

pub run_sends_down : (deal : PlainDeal) (d : PlainDirectory) → OneDecides deal d → (steps : List (Step Op ⊥)) (t : Trace (List ℕ) Op) → run (world (deployed deal d)) steps ≡ Ok t → SendsCertificates deal d t
run_sends_down deal d dealt steps t h = let e = run_events (deployed deal d) steps t h in subst (SendsCertificates deal d) (sym e.2) (sends_down deal d dealt e.0 e.1)

pub run_agrees_once : (deal : PlainDeal) (d : PlainDirectory) → OneDecides deal d → (steps : List (Step Op ⊥)) (t : Trace (List ℕ) Op) → run (world (deployed deal d)) steps ≡ Ok t → AgreesOnce deal d t
run_agrees_once deal d dealt steps t h = let e = run_events (deployed deal d) steps t h in subst (AgreesOnce deal d) (sym e.2) (agrees_once deal d dealt e.0 e.1)
