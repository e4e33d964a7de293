-- The words of an operation or a reply that follow others of their line are a blank and its text.
use Rattle.std.proofs.Common.{◌≡◌, ℕ, List, [], ◌∷◌, ◌++◌, map, refl, sym, ap, append_assoc, codes, decimal}
use Rattle.std.proofs.lemmas.List.{append-nil}
use Rattle.fw_op.specs.declared.op.Op.{Op}
use Rattle.fw_op.specs.declared.op.Op.TheVariants as ops
use Rattle.fw_op.specs.declared.reply.Reply.{Reply}
use Rattle.fw_op.specs.declared.reply.Reply.TheVariants as replies
use Rattle.fw_op.specs.Words.{sentence, following, client_word}
use Rattle.fw_op.specs.Ops.{op_words, op_text}
use Rattle.fw_op.specs.Replies.{name_word, reply_words, reply_text}
use Rattle.fw_op.proofs.Sentences.{sentence-cons}
use Rattle.fw_report.specs.Report.{line}

spoken : (word : List ℕ) (words : List (List ℕ)) → following (word ∷ words) ≡ 32 ∷ sentence (word ∷ words)
spoken word words = ap (λ rest. 32 ∷ rest) (sym (sentence-cons word words))

pub following-op_words : (op : Op) → following (op_words op) ≡ 32 ∷ op_text op
following-op_words (ops.Put key value) = spoken (codes "put") (key ∷ value ∷ [])
following-op_words (ops.Get owner key) = spoken (codes "get") (client_word owner ∷ key ∷ [])
following-op_words (ops.Del key) = spoken (codes "del") (key ∷ [])
following-op_words (ops.Cas key old new) = spoken (codes "cas") (key ∷ old ∷ new ∷ [])
following-op_words (ops.Grant key client) = spoken (codes "grant") (key ∷ client_word client ∷ [])
following-op_words (ops.Revoke key client) = spoken (codes "revoke") (key ∷ client_word client ∷ [])
following-op_words ops.Count = spoken (codes "count") []
following-op_words ops.Keys = spoken (codes "keys") []

pub following-reply_words : (reply : Reply) → following (reply_words reply) ≡ 32 ∷ reply_text reply
following-reply_words replies.Done = spoken (codes "done") []
following-reply_words (replies.Value value) = spoken (codes "value") (value ∷ [])
following-reply_words replies.Absent = spoken (codes "none") []
following-reply_words replies.Differs = spoken (codes "differs") []
following-reply_words (replies.Count count) = spoken (codes "count") (decimal count ∷ [])
following-reply_words (replies.Keys names) = spoken (codes "keys") (map name_word names)
following-reply_words replies.Bad = spoken (codes "bad") []
following-reply_words replies.Old = spoken (codes "old") []
following-reply_words replies.Null = spoken (codes "null") []

-- a line of a first word, three more, and others, as it is put together
pub line_of_parts : (old one two three four five w a b c : List ℕ) (ws : List (List ℕ)) → one ≡ old ++ w → two ≡ one ++ following (a ∷ []) → three ≡ two ++ following (b ∷ [])
    → four ≡ three ++ following (c ∷ []) → five ≡ four ++ following ws → five ++ 10 ∷ [] ≡ old ++ line (w ∷ a ∷ b ∷ c ∷ ws)
line_of_parts old one two three four five w a b c ws e1 e2 e3 e4 e5 =
    let last : List ℕ = 10 ∷ [] in
    let from_c = c ++ following ws in
    let from_b = b ++ 32 ∷ from_c in
    rw (e5, e4, e3, e2, e1, sentence-cons w (a ∷ b ∷ c ∷ ws))
    (simp (append_assoc, append-nil) (rw (append_assoc a (32 ∷ from_b) last, append_assoc b (32 ∷ from_c) last, append_assoc c (following ws) last) refl))
