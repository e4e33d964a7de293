-- What the check leaves to show of `permitted`.
use Rattle.std.proofs.Common.{◌≡◌, ℕ, ◌+◌, ◌<◌, ◌≤◌, List, ◌++◌, length, map, drop, get_or, ap, ◌∙◌, arith}
use Rattle.std.specs.List.{list_all}
use Rattle.fw_op.specs.declared.start.Start.{Start}
use Rattle.fw_frame.specs.declared.frame.Entry.{Entry}
use Rattle.fw_frame.specs.declared.frame.Entry.TheVariants.{Null}
use Rattle.fw_frame.specs.Frames.{PlainEntry}
use Rattle.fw_frame.specs.Ranges.{entry_fits}
use Rattle.fw_frame.specs.Plain.{plain_entry}
use Rattle.fw_seal.specs.declared.types.BodyKey.{BodyKey}
use Rattle.fw_secret.specs.Dealt.{Origin}
use Rattle.fw_store.specs.Store.{ordered}
use Rattle.fw_ref.specs.Reference.{at_start}
use Rattle.fw_ref.specs.Ranges.{is_stored}
use Rattle.fw_ref.specs.Bodies.{PlainReplica, next_answer, after_entry}
use Rattle.fw_ref.specs.Certificates.{certificate, certificates, keys_of}
use Rattle.fw_ref.proofs.Growing.{CanStart, can_start}
use Rattle.fw_ref.proofs.Listing.{few_clients, asked_by_keys, few_keys, passes, split, left_after, few_after, started, all_listed}
use Rattle.fw_ref.proofs.certificates.permitted.Goals as goal

pub new-replica-requires : goal.new-replica-requires
new-replica-requires c =
    let o : Origin = c.args.deal.now.origin in
    let can : CanStart c.args.starts.now = can_start o.params.clients c.args.starts.now (few_clients o.params c.in_ok-keys.ensures.sizes) c.requires.starts in
    ap (list_all is_stored) c.in_ok-new.ensures.records ∙ can.stored

pub loop-entry-init : goal.loop-entry-init
loop-entry-init c =
    let o : Origin = c.args.deal.now.origin in
    let starts : List Start = c.args.starts.now in
    let all : List PlainEntry = map plain_entry c.args.list.now in
    let can : CanStart starts = can_start o.params.clients starts (few_clients o.params c.in_ok-keys.ensures.sizes) c.requires.starts in
    let r : PlainReplica = c.new-replica.result in
    let first : PlainReplica = record { done = 0; reference = at_start starts } in
    let same : r ≡ first = started starts c.in_ok-new.field-0 r c.in_ok-new.ensures.records c.new-replica.ensures in
    let records : length r.reference.records ≡ length (ordered starts) = ap (λ (q : PlainReplica). length q.reference.records) same in
    record {
      done = ap (λ (q : PlainReplica). q.done) same;
      few = omega (arith, records, can.few);
      left = ap (λ (certs : List (List ℕ)). certs ++ certificates o r all) c.new-certs.ensures ∙ ap (λ (q : PlainReplica). certificates o q all) same;
    }

pub execute-requires-clause-keys : goal.execute-requires-clause-keys
execute-requires-clause-keys c = few_keys c.args.deal.now.origin c.in_ok-keys.keys c.in_ok-keys.ensures.keys c.in_ok-keys.ensures.sizes

pub execute-requires-clause-asked : goal.execute-requires-clause-asked
execute-requires-clause-asked c =
    let o : Origin = c.args.deal.now.origin in
    let es : List Entry = c.args.list.now in
    let k : ℕ = c.loop-entry.entry-index in
    let inside : k < length es = omega arith in
    asked_by_keys o c.in_ok-keys.keys (plain_entry (get_or es k Null)) c.in_ok-keys.ensures.keys c.in_ok-keys.ensures.sizes (passes plain_entry (entry_fits o.params) es k Null c.requires.entries inside)

pub loop-entry-preserved : goal.loop-entry-preserved
loop-entry-preserved c =
    let o : Origin = c.args.deal.now.origin in
    let es : List Entry = c.args.list.now in
    let k : ℕ = c.loop-entry.entry-index in
    let inside : k < length es = omega arith in
    let e : PlainEntry = plain_entry (get_or es k Null) in
    let r : PlainReplica = c.loop-entry.replica in
    let next : PlainReplica = c.execute.new.self in
    let keys : c.in_ok-keys.keys ≡ keys_of o = c.in_ok-keys.ensures.keys in
    let after : next ≡ after_entry (keys_of o) r e = c.in_ok-answer.ensures.after ∙ ap (λ (ks : List BodyKey). after_entry ks r e) keys in
    let answer : c.in_ok-answer.answer ≡ next_answer (keys_of o) r e = c.in_ok-answer.ensures.answer ∙ ap (λ (ks : List BodyKey). next_answer ks r e) keys in
    let cert : c.in_ok-certificate.field-0 ≡ certificate o (r.done + 1) (next_answer (keys_of o) r e) =
    c.in_ok-certificate.ensures
    ∙ ap (λ (n : ℕ). certificate o (n + 1) c.in_ok-answer.answer) c.done-number.ensures
    ∙ ap (certificate o (r.done + 1)) answer in
    record {
      done = ap (λ (q : PlainReplica). q.done) after ∙ ap (λ (n : ℕ). n + 1) c.loop-entry.invariant.done;
      few = few_after (keys_of o) r next e k after c.loop-entry.invariant.few;
      left = left_after o r next (get_or es k Null) (drop (k + 1) es) (drop k es) c.loop-entry.certs c.push.new.self _ c.in_ok-certificate.field-0
          cert after c.in_ok-push.ensures.ok (split es k Null inside) c.loop-entry.invariant.left;
    }

pub returns : goal.returns
returns c =
    let es : List Entry = c.args.list.now in
    let k : ℕ = c.loop-entry.entry-index in
    let last : length es ≤ k = omega arith in
    all_listed c.args.deal.now.origin c.loop-entry.replica c.loop-entry.certs _ es k last c.loop-entry.invariant.left
