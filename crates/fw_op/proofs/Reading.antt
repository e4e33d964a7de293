-- What stands in the bytes of an operation or a reply is that operation or reply, and what bytes spell is a function of them.
use Rattle.std.proofs.Common.{◌≡◌, ℕ, ◌^◌, true, ◌&&◌, nat_le, List, [], ◌∷◌, ◌++◌, length, take, drop, Some, refl, sym, ap, ap₂, ◌∙◌, arith, append_assoc}
use Rattle.std.specs.Prelude.{◌↔◌, bytes_eq}
use Rattle.std.specs.Bool.{Decides}
use Rattle.std.proofs.Math.Seq.{take-append_seam, drop-append_seam, take-length}
use Rattle.std.proofs.lemmas.Bool.{and_parts, and_from, leb-true, ltb-true}
use Rattle.std.proofs.lemmas.Bool.Decides.{Decides-and}
use Rattle.std.proofs.lemmas.List.{append-nil}
use Rattle.std.proofs.lemmas.Nat.{from_be_bytes-to_be_bytes_2, from_be_bytes-to_be_bytes_4}
use Rattle.std.proofs.lemmas.Slice.Eq.{bytes_eq-Decides}
use Rattle.std.specs.List.{list_all, flat_map}
use Rattle.std.specs.Int.{w16, to_be_bytes, from_be_bytes}
use Rattle.fw_list.specs.Numbers.{within}
use Rattle.fw_op.specs.declared.op.Op.{Op}
use Rattle.fw_op.specs.declared.op.Op.TheVariants as ops
use Rattle.fw_op.specs.declared.reply.Name.{Name}
use Rattle.fw_op.specs.declared.reply.Reply.{Reply}
use Rattle.fw_op.specs.declared.reply.Reply.TheVariants as replies
use Rattle.fw_op.specs.Keys.{is_key, is_value_byte, is_value, key_bytes, value_bytes}
use Rattle.fw_op.specs.Ops.{op_bytes, op_fits, IsOpBytes}
use Rattle.fw_op.specs.Replies.{name_bytes, reply_bytes, reply_fits, has_bytes, IsReplyBytes}
use Rattle.fw_op.specs.Reading.{key_at, after_key, value_at, after_value, byte_at, names_at, op_of_kind, op_at, are_op_bytes, op_in, reply_of_kind, reply_at, are_reply_bytes, reply_in}
use Rattle.fw_op.proofs.Each.{meant_where}

key_first : (k r : List ℕ) → key_at (key_bytes k ++ r) ≡ k
key_first k r = take-append_seam k r

key_rest : (k r : List ℕ) → after_key (key_bytes k ++ r) ≡ r
key_rest k r = drop-append_seam k r

key_last : (k : List ℕ) → key_at (key_bytes k) ≡ k
key_last k = take-length k

value_size : (v : List ℕ) → is_value v ≡ true → from_be_bytes w16 (to_be_bytes w16 (length v)) ≡ length v
value_size v fits =
    let few = leb-true (length v) 480 (and_parts (nat_le 1 (length v)) (nat_le (length v) 480) (and_parts (within 1 (length v) 480) (list_all is_value_byte v) fits).0).1 in
    from_be_bytes-to_be_bytes_2 (length v) (omega arith)

value_first : (v r : List ℕ) → is_value v ≡ true → value_at (value_bytes v ++ r) ≡ v
value_first v r fits = ap (λ n. take n (v ++ r)) (value_size v fits) ∙ take-append_seam v r

value_rest : (v r : List ℕ) → is_value v ≡ true → after_value (value_bytes v ++ r) ≡ r
value_rest v r fits = ap (λ n. drop n (v ++ r)) (value_size v fits) ∙ drop-append_seam v r

value_last : (v : List ℕ) → is_value v ≡ true → value_at (value_bytes v) ≡ v
value_last v fits = ap (λ (bs : List ℕ). value_at bs) (sym (append-nil (value_bytes v))) ∙ value_first v [] fits

-- what stands in an operation's bytes is that operation
pub op_at-op_bytes : (op : Op) → op_fits 8 op ≡ true → op_at (op_bytes op) ≡ op
unfolding op_of_kind
op_at-op_bytes (ops.Put key value) fits =
    let both = and_parts (is_key key) (is_value value) fits in
    ap₂ (λ (k v : List ℕ). ops.Put k v) (key_first key (value_bytes value)) (ap (λ (bs : List ℕ). value_at bs) (key_rest key (value_bytes value)) ∙ value_last value both.1)
op_at-op_bytes (ops.Get owner key) fits = ap (λ k. ops.Get owner k) (key_last key)
op_at-op_bytes (ops.Del key) fits = ap (λ k. ops.Del k) (key_last key)
op_at-op_bytes (ops.Cas key old new) fits =
    let abc = and_parts (is_key key && is_value old && is_value new) (nat_le (length (op_bytes (ops.Cas key old new))) 510) fits in
    let ab = and_parts (is_key key && is_value old) (is_value new) abc.0 in
    let a = and_parts (is_key key) (is_value old) ab.0 in
    let after = value_bytes old ++ value_bytes new in
    let split : op_bytes (ops.Cas key old new) ≡ 4 ∷ (key_bytes key ++ after) = append_assoc (4 ∷ key_bytes key) (value_bytes old) (value_bytes new) in
    let one = key_first key after in
    let two = ap (λ (bs : List ℕ). value_at bs) (key_rest key after) ∙ value_first old (value_bytes new) a.1 in
    let three = ap (λ bs. value_at (after_value bs)) (key_rest key after) ∙ ap (λ (bs : List ℕ). value_at bs) (value_rest old (value_bytes new) a.1) ∙ value_last new ab.1 in
    ap (λ (bs : List ℕ). op_at bs) split ∙ ap₂ (λ (k v : List ℕ). ops.Cas k v (value_at (after_value (after_key (key_bytes key ++ after))))) one two ∙ ap (λ w. ops.Cas key old w) three
op_at-op_bytes (ops.Grant key client) fits =
    ap₂ (λ (k cs : List ℕ). ops.Grant k (byte_at cs)) (key_first key (client ∷ [])) (key_rest key (client ∷ []))
op_at-op_bytes (ops.Revoke key client) fits =
    ap₂ (λ (k cs : List ℕ). ops.Revoke k (byte_at cs)) (key_first key (client ∷ [])) (key_rest key (client ∷ []))
op_at-op_bytes ops.Count fits = refl
op_at-op_bytes ops.Keys fits = refl

-- the test says what is meant by an operation's bytes
decides_op : (bytes : List ℕ) (op : Op) → Decides (are_op_bytes bytes op) (IsOpBytes bytes op)
decides_op bytes op = Decides-and (bytes_eq bytes (op_bytes op)) (op_fits 8 op) (bytes_eq-Decides bytes (op_bytes op)) (λ e. e, λ e. e)

-- bytes are an operation's exactly where the function gives that one
pub op_in_where : (bytes : List ℕ) (op : Op) → IsOpBytes bytes op ↔ (op_in bytes ≡ Some op)
unfolding op_in
op_in_where bytes op =
    meant_where (λ (a : Op). IsOpBytes bytes a) (λ (a : Op). are_op_bytes bytes a) (op_at bytes) (decides_op bytes) (λ a is. ap (λ (bs : List ℕ). op_at bs) is.0 ∙ op_at-op_bytes a is.1) op

-- what is spelled is read again
pub op_in-op_bytes : (op : Op) → op_fits 8 op ≡ true → op_in (op_bytes op) ≡ Some op
op_in-op_bytes op fits = (op_in_where (op_bytes op) op).0 (refl, fits)

-- what stands in the bytes of names is those names
names_at-names : (names : List Name) → names_at (length names) (flat_map name_bytes names) ≡ names
unfolding names_at
names_at-names [] = refl
names_at-names (name ∷ names) =
    let rest = flat_map name_bytes names in
    let first : record { owner = name.owner; key = key_at (key_bytes name.key ++ rest) } ≡ name = ap (λ (k : List ℕ). record { owner = name.owner; key = k }) (key_first name.key rest) in
    let later : names_at (length names) (after_key (key_bytes name.key ++ rest)) ≡ names = ap (names_at (length names)) (key_rest name.key rest) ∙ names_at-names names in
    ap₂ (λ (n : Name) (ns : List Name). n ∷ ns) first later

-- what stands in a reply's bytes is that reply
pub reply_at-reply_bytes : (reply : Reply) → reply_fits 8 reply ≡ true → has_bytes reply ≡ true → reply_at (reply_bytes reply) ≡ reply
unfolding reply_of_kind
reply_at-reply_bytes replies.Done fits some = refl
reply_at-reply_bytes (replies.Value value) fits some = ap (λ v. replies.Value v) (value_last value fits)
reply_at-reply_bytes replies.Absent fits some = refl
reply_at-reply_bytes replies.Differs fits some = refl
reply_at-reply_bytes (replies.Count count) fits some = ap (λ n. replies.Count n) (from_be_bytes-to_be_bytes_4 count (ltb-true count (2 ^ 32) fits))
reply_at-reply_bytes (replies.Keys names) fits some = ap (λ ns. replies.Keys ns) (names_at-names names)
reply_at-reply_bytes replies.Bad fits some = refl
reply_at-reply_bytes replies.Old fits some = refl
reply_at-reply_bytes replies.Null fits some = cc

-- the test says what is meant by a reply's bytes
decides_reply : (bytes : List ℕ) (reply : Reply) → Decides (are_reply_bytes bytes reply) (IsReplyBytes bytes reply)
decides_reply bytes reply =
    let spelled = bytes_eq bytes (reply_bytes reply) in
    let same = bytes_eq-Decides bytes (reply_bytes reply) in (
      λ e. let both = and_parts (spelled && reply_fits 8 reply) (has_bytes reply) e in let first = and_parts spelled (reply_fits 8 reply) both.0 in (same.0 first.0, first.1, both.1),
      λ is. and_from (spelled && reply_fits 8 reply) (has_bytes reply) (and_from spelled (reply_fits 8 reply) (same.1 is.0) is.1) is.2,
    )

-- bytes are a reply's exactly where the function gives that one
pub reply_in_where : (bytes : List ℕ) (reply : Reply) → IsReplyBytes bytes reply ↔ (reply_in bytes ≡ Some reply)
unfolding reply_in
reply_in_where bytes reply =
    meant_where (λ (a : Reply). IsReplyBytes bytes a) (λ (a : Reply). are_reply_bytes bytes a) (reply_at bytes) (decides_reply bytes) (λ a is. ap (λ (bs : List ℕ). reply_at bs) is.0 ∙ reply_at-reply_bytes a is.1 is.2) reply

-- what is spelled is read again
pub reply_in-reply_bytes : (reply : Reply) → reply_fits 8 reply ≡ true → has_bytes reply ≡ true → reply_in (reply_bytes reply) ≡ Some reply
reply_in-reply_bytes reply fits some = (reply_in_where (reply_bytes reply) reply).0 (refl, fits, some)
