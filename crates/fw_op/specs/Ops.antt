-- The spelling of operations in words and in bytes.
use Rattle.std.specs.Prelude.{◌≡◌, ℕ, Bool, true, false, ◌&&◌, nat_lt, nat_le, List, [], ◌∷◌, ◌++◌, length, codes, IsTrue}
use Rattle.fw_list.specs.declared.limits.TheConstants.{LONGEST_TEXT}
use Rattle.fw_op.specs.declared.op.Op.{Op}
use Rattle.fw_op.specs.declared.op.Op.TheVariants.{Put, Get, Del, Cas, Grant, Revoke, Count, Keys}
use Rattle.fw_op.specs.Keys.{is_key, is_value, key_bytes, value_bytes}
use Rattle.fw_op.specs.Words.{sentence, client_word}

abbrev pub op_words : Op → List (List ℕ)
op_words (Put key value) = codes "put" ∷ key ∷ value ∷ []
op_words (Get owner key) = codes "get" ∷ client_word owner ∷ key ∷ []
op_words (Del key) = codes "del" ∷ key ∷ []
op_words (Cas key old new) = codes "cas" ∷ key ∷ old ∷ new ∷ []
op_words (Grant key client) = codes "grant" ∷ key ∷ client_word client ∷ []
op_words (Revoke key client) = codes "revoke" ∷ key ∷ client_word client ∷ []
op_words Count = codes "count" ∷ []
op_words Keys = codes "keys" ∷ []

-- the one text of an operation
abbrev pub op_text : Op → List ℕ
op_text op = sentence (op_words op)

-- the kind of an operation, and its parts
abbrev pub op_bytes : Op → List ℕ
op_bytes (Put key value) = 1 ∷ key_bytes key ++ value_bytes value
op_bytes (Get owner key) = 2 ∷ owner ∷ key_bytes key
op_bytes (Del key) = 3 ∷ key_bytes key
op_bytes (Cas key old new) = 4 ∷ key_bytes key ++ value_bytes old ++ value_bytes new
op_bytes (Grant key client) = 5 ∷ key_bytes key ++ client ∷ []
op_bytes (Revoke key client) = 6 ∷ key_bytes key ++ client ∷ []
op_bytes Count = 7 ∷ []
op_bytes Keys = 8 ∷ []

-- the operation can be asked where there are this many clients: its clients, keys and values are such, and it has at most
-- `LONGEST_TEXT` bytes, of which `cas` alone can have more
abbrev pub op_fits : ℕ → Op → Bool
op_fits clients (Put key value) = is_key key && is_value value
op_fits clients (Get owner key) = nat_lt owner clients && is_key key
op_fits clients (Del key) = is_key key
op_fits clients (Cas key old new) = is_key key && is_value old && is_value new && nat_le (length (op_bytes (Cas key old new))) LONGEST_TEXT
op_fits clients (Grant key client) = is_key key && nat_lt client clients
op_fits clients (Revoke key client) = is_key key && nat_lt client clients
op_fits clients Count = true
op_fits clients Keys = true

-- an operation with a key: to have it is to have copied something
abbrev pub is_keyed : Op → Bool
is_keyed Count = false
is_keyed Keys = false
is_keyed _ = true

-- the text is this operation's, where there are 8 clients
abbrev pub IsOpText : List ℕ → Op → Type 0
IsOpText text op = (text ≡ op_text op) × IsTrue (op_fits 8 op)

-- the bytes are this operation's, where there are 8 clients
abbrev pub IsOpBytes : List ℕ → Op → Type 0
IsOpBytes bytes op = (bytes ≡ op_bytes op) × IsTrue (op_fits 8 op)

-- the words are those of an operation with a key, where there are this many clients
abbrev pub AreOfKeyedOp : ℕ → List (List ℕ) → Type 0
AreOfKeyedOp clients words = (op : Op) × (words ≡ op_words op) × IsTrue (op_fits clients op) × IsTrue (is_keyed op)

-- the text is that of an operation with a key, where there are 8 clients
abbrev pub IsKeyedText : List ℕ → Type 0
IsKeyedText text = (op : Op) × IsOpText text op × IsTrue (is_keyed op)

-- the bytes are those of an operation with a key, where there are 8 clients
abbrev pub AreOfKeyed : List ℕ → Type 0
AreOfKeyed bytes = (op : Op) × IsOpBytes bytes op × IsTrue (is_keyed op)
