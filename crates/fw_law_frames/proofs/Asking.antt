-- All that a client sends are requests of the deployment.
use Rattle.std.proofs.Common.{ℕ, ◌-◌, ◌<◌, ◌≤◌, inl, List, length, reverse, arith, IsTrue, refl, ap, length-append}
use Rattle.std.proofs.lemmas.Bool.{and_from, lt-ltb, le-leb, eq-eqb}
use Rattle.std.proofs.lemmas.List.{length-take}
use Rattle.std.proofs.lemmas.Option.{slice_get_within}
use Rattle.fw_list.specs.declared.limits.TheConstants.{BODY_LEN, SIGNATURE_LEN}
use Rattle.fw_base.specs.declared.seat.Seat.{Seat}
use Rattle.fw_base.specs.declared.seat.Seat.TheVariants as seats
use Rattle.fw_base.specs.declared.slot.Slot.TheVariants as slots
use Rattle.fw_op.specs.declared.op.Op.{Op}
use Rattle.fw_trace.specs.declared.Input.{Input}
use Rattle.fw_trace.specs.Lists.{In}
use Rattle.fw_trace.specs.Role.{kept, sends}
use Rattle.fw_trace.specs.Client.{Speech, client_role}
use Rattle.fw_frame.specs.Ranges.{asker_fits}
use Rattle.fw_frame.specs.View.{Asks}
use Rattle.fw_law_client.specs.Asking.{submitted, IsAsked}
use Rattle.fw_law_client.proofs.Asked.{takes_the_first, sends_requests}
use Rattle.fw_rules.specs.Means.{Means, Bodies}
use Rattle.fw_rules.specs.Roles.{request_of, client_speech}
use Rattle.fw_law_sources.specs.Sources.{IsRequestFrame}
use Rattle.fw_law_sources.specs.Asked.{request_part, IsOwnRequest}
use Rattle.fw_law_frames.specs.Plain.{IsPlain, MakesPlain, SealsWhole}
use Rattle.fw_law_frames.specs.Sent.{IsPlainMade}

-- no stamp is asked above the last
asked_within : {M O R : Type 0} (sp : Speech M O R) (h : List (Input M O)) (s : ℕ) (op : O) → IsAsked (kept (client_role sp) h) s op → s ≤ sp.most
asked_within sp h s op a =
    let c = kept (client_role sp) h in
    let below = slice_get_within (reverse c.asked) (s - 1) op a.is in
    let from = a.from in
    let long = ap length (takes_the_first sp h) in
    let parts = length-append (reverse c.asked) c.waiting in
    let most = length-take sp.most (submitted h) in
    omega (arith, below, from, long, parts, most)

module _ {M : Type 0} (k : Means M) (b : Bodies) (c : ℕ) (makes : MakesPlain k (seats.Client c)) (seals : SealsWhole k.params b (seats.Client c)) (small : c < k.params.clients) where
  request_plain : (s : ℕ) (op : Op) → 1 ≤ s → s ≤ k.params.stamps → IsPlain k.params (Asks (request_of k b c s op))
  request_plain s op low high =
      let p = k.params in
      let asker : IsTrue (asker_fits p c s) = and_from _ _ (lt-ltb c p.clients small) (and_from _ _ (le-leb 1 s low) (le-leb s p.stamps high)) in
      let r = request_of k b c s op in
      record {
        fits = and_from _ _
            (and_from _ _ asker (eq-eqb (length r.body) BODY_LEN (seals.ops c s op (inl refl))))
            (eq-eqb (length r.sig) SIGNATURE_LEN (makes.signs (slots.Request c s) 0 _ asker (eq-eqb c c refl)));
        seen = refl;
      }

  pub client_plain : (h : List (Input M Op)) (o : Seat × M) → In o (sends (client_role (client_speech k b c)) h) → IsPlainMade k IsRequestFrame (IsOwnRequest k b c h) o.1
  client_plain h o i =
      let r = sends_requests (client_speech k b c) h o i in
      record {
        made = record {
          frame = Asks (request_of k b c r.number r.op);
          written = r.is;
          kind = (request_of k b c r.number r.op, refl);
          part = request_part k b c r.number r.op;
          one = refl;
          own = record { stamp = r.number; op = r.op; asked = r.asked; is = refl };
        };
        plain = request_plain r.number r.op r.asked.from (asked_within (client_speech k b c) h r.number r.op r.asked);
      }
