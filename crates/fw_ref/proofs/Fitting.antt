-- What a replica reads and keeps is within its ranges.
use Rattle.std.proofs.Common.{◌≡◌, ℕ, zero, suc, true, ◌||◌, nat_eq, List, [], ◌∷◌, set, Some, None, Ok, Err, sym, ap, ◌∙◌}
use Rattle.std.specs.Prelude.{Option, option_and_then, IfSome, Result, IfOk, OnOk, OnErr}
use Rattle.std.specs.List.{list_all}
use Rattle.std.proofs.lemmas.Bool.{and_parts, and_from, or_right}
use Rattle.fw_list.specs.declared.memory.Memory.{Memory}
use Rattle.fw_op.specs.declared.op.Op.{Op}
use Rattle.fw_op.specs.declared.reply.Reply.{Reply}
use Rattle.fw_op.specs.declared.start.Start.{Start}
use Rattle.fw_op.specs.Ops.{op_fits}
use Rattle.fw_op.specs.Replies.{reply_fits, has_bytes}
use Rattle.fw_op.specs.Reading.{op_in}
use Rattle.fw_op.proofs.Reading.{op_in_where}
use Rattle.fw_seal.specs.declared.types.BodyKey.{BodyKey}
use Rattle.fw_seal.specs.declared.types.Direction.TheVariants as way
use Rattle.fw_seal.specs.Seal.{opened}
use Rattle.fw_frame.specs.Frames.{PlainRequest}
use Rattle.fw_store.specs.Store.{applied}
use Rattle.fw_ref.specs.declared.replica.Last.{Last}
use Rattle.fw_ref.specs.Bodies.{op_of}
use Rattle.fw_ref.specs.Ranges.{is_stored, is_tellable}
use Rattle.fw_ref.proofs.Kept.{IsKept}

-- an operation that bytes spell fits
spelled-fits : (text : Option (List ℕ)) (o : Option Op) → o ≡ option_and_then op_in text → IfSome o (λ op. op_fits 8 op ≡ true)
spelled-fits text None e = tt
spelled-fits None (Some op) e = cc
spelled-fits (Some bytes) (Some op) e = ((op_in_where bytes op).1 (sym e)).1

-- so does one that a body opens to
pub opened-fits : (key : BodyKey) (r : PlainRequest) (o : Option Op) → o ≡ op_of key r → IfSome o (λ op. op_fits 8 op ≡ true)
opened-fits key r o e = spelled-fits (opened key way.Request r.client r.stamp r.body) o e

pub fits-at : (o : Option Op) (op : Op) → o ≡ Some op → IfSome o (λ op. op_fits 8 op ≡ true) → op_fits 8 op ≡ true
fits-at None op e fits = cc
fits-at (Some one) op e fits = let same : one ≡ op = cc in ap (op_fits 8) (sym same) ∙ fits

-- after want of memory the records are as before
pub stored-after : (result : Result Reply Memory) (x : ℕ) (op : Op) (rs after : List Start) → IsKept (applied x op rs) → list_all is_stored rs ≡ true → OnOk result (after ≡ (applied x op rs).1) → OnErr result (after ≡ rs) → list_all is_stored after ≡ true
stored-after (Ok reply) x op rs after kept all ok err = ap (list_all is_stored) ok ∙ kept.stored
stored-after (Err e) x op rs after kept all ok err = ap (list_all is_stored) err ∙ all

pub fits-after : (result : Result Reply Memory) (x : ℕ) (op : Op) (rs : List Start) → IsKept (applied x op rs) → IfOk result (λ reply. reply ≡ (applied x op rs).0) → IfOk result (λ reply. reply_fits 8 reply ≡ true)
fits-after (Ok reply) x op rs kept told = ap (reply_fits 8) told ∙ kept.fits
fits-after (Err e) x op rs kept told = told

-- a reply that is kept
pub tellable-new : (stamp : ℕ) (reply kept : Reply) → kept ≡ reply → reply_fits 8 reply ≡ true → has_bytes reply ≡ true → is_tellable (record { stamp = stamp; reply = kept }) ≡ true
tellable-new stamp reply kept same fits some =
    and_from (reply_fits 8 kept) (nat_eq stamp 0 || has_bytes kept) (ap (reply_fits 8) same ∙ fits) (or_right (nat_eq stamp 0) (has_bytes kept) (ap has_bytes same ∙ some))

pub tellable-set : (last : List Last) (k : ℕ) (new : Last) → is_tellable new ≡ true → list_all is_tellable last ≡ true → list_all is_tellable (set last k new) ≡ true
tellable-set [] k new here all = all
tellable-set (l ∷ last) zero new here all = and_from (is_tellable new) (list_all is_tellable last) here (and_parts (is_tellable l) (list_all is_tellable last) all).1
tellable-set (l ∷ last) (suc k) new here all =
    let parts = and_parts (is_tellable l) (list_all is_tellable last) all in
    and_from (is_tellable l) (list_all is_tellable (set last k new)) parts.0 (tellable-set last k new here parts.1)
