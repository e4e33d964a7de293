-- The spelling of replies in words and in bytes.
use Rattle.std.specs.Prelude.{◌≡◌, ℕ, ◌^◌, Bool, true, false, ◌&&◌, nat_lt, nat_le, List, [], ◌∷◌, ◌++◌, length, map, codes, decimal, IsTrue}
use Rattle.std.specs.List.{list_all, flat_map}
use Rattle.std.specs.Int.{w32, to_be_bytes}
use Rattle.fw_op.specs.declared.reply.Name.{Name}
use Rattle.fw_op.specs.declared.reply.Reply.{Reply}
use Rattle.fw_op.specs.declared.reply.Reply.TheVariants.{Done, Value, Absent, Differs, Count, Keys, Bad, Old, Null}
use Rattle.fw_op.specs.declared.limits.TheConstants.{MOST_NAMES}
use Rattle.fw_op.specs.Keys.{is_key, is_value, key_bytes, value_bytes}
use Rattle.fw_op.specs.Words.{sentence, client_word}

-- the owner's word, a slash and the key
abbrev pub name_word : Name → List ℕ
name_word name = client_word name.owner ++ 47 ∷ name.key

abbrev pub reply_words : Reply → List (List ℕ)
reply_words Done = codes "done" ∷ []
reply_words (Value value) = codes "value" ∷ value ∷ []
reply_words Absent = codes "none" ∷ []
reply_words Differs = codes "differs" ∷ []
reply_words (Count count) = codes "count" ∷ decimal count ∷ []
reply_words (Keys names) = codes "keys" ∷ map name_word names
reply_words Bad = codes "bad" ∷ []
reply_words Old = codes "old" ∷ []
reply_words Null = codes "null" ∷ []

-- the one text of a reply
abbrev pub reply_text : Reply → List ℕ
reply_text reply = sentence (reply_words reply)

abbrev pub name_bytes : Name → List ℕ
name_bytes name = name.owner ∷ key_bytes name.key

-- the kind of a reply, and its parts; the reply to nothing has no bytes
abbrev pub reply_bytes : Reply → List ℕ
reply_bytes Done = 1 ∷ []
reply_bytes (Value value) = 2 ∷ value_bytes value
reply_bytes Absent = 3 ∷ []
reply_bytes Differs = 4 ∷ []
reply_bytes (Count count) = 5 ∷ to_be_bytes w32 count
reply_bytes (Keys names) = 6 ∷ length names ∷ flat_map name_bytes names
reply_bytes Bad = 7 ∷ []
reply_bytes Old = 8 ∷ []
reply_bytes Null = []

-- each reply but the one to nothing has bytes
abbrev pub has_bytes : Reply → Bool
has_bytes Null = false
has_bytes _ = true

-- the name of a record where there are this many clients
abbrev pub name_fits : ℕ → Name → Bool
name_fits clients name = nat_lt name.owner clients && is_key name.key

-- such names, up to the most
abbrev pub names_fit : ℕ → List Name → Bool
names_fit clients names = nat_le (length names) MOST_NAMES && list_all (name_fits clients) names

-- the reply can be given where there are this many clients
abbrev pub reply_fits : ℕ → Reply → Bool
reply_fits clients (Value value) = is_value value
reply_fits clients (Count count) = nat_lt count (2 ^ 32)
reply_fits clients (Keys names) = names_fit clients names
reply_fits clients _ = true

-- a reply with a value or names: to have it is to have copied something
abbrev pub is_telling : Reply → Bool
is_telling (Value value) = true
is_telling (Keys names) = true
is_telling _ = false

-- the text is this reply's, where there are 8 clients
abbrev pub IsReplyText : List ℕ → Reply → Type 0
IsReplyText text reply = (text ≡ reply_text reply) × IsTrue (reply_fits 8 reply)

-- the bytes are this reply's, where there are 8 clients
abbrev pub IsReplyBytes : List ℕ → Reply → Type 0
IsReplyBytes bytes reply = (bytes ≡ reply_bytes reply) × IsTrue (reply_fits 8 reply) × IsTrue (has_bytes reply)

-- the words are those of a reply with a value or names, where there are this many clients
abbrev pub AreOfTellingReply : ℕ → List (List ℕ) → Type 0
AreOfTellingReply clients words = (reply : Reply) × (words ≡ reply_words reply) × IsTrue (reply_fits clients reply) × IsTrue (is_telling reply)

-- the text is that of a reply with a value or names, where there are 8 clients
abbrev pub IsTellingText : List ℕ → Type 0
IsTellingText text = (reply : Reply) × IsReplyText text reply × IsTrue (is_telling reply)

-- the bytes are those of a reply with a value or names, where there are 8 clients
abbrev pub AreOfTelling : List ℕ → Type 0
AreOfTelling bytes = (reply : Reply) × IsReplyBytes bytes reply × IsTrue (is_telling reply)

-- the bytes are so many names
abbrev pub AreNames : ℕ → List ℕ → Type 0
AreNames count bytes = (names : List Name) × (bytes ≡ flat_map name_bytes names) × (length names ≡ count) × IsTrue (list_all (name_fits 8) names)

-- the bytes are a count and that many names
abbrev pub AreCountedNames : List ℕ → Type 0
AreCountedNames bytes = (names : List Name) × (bytes ≡ length names ∷ flat_map name_bytes names) × IsTrue (names_fit 8 names)

-- the words are names, where there are this many clients
abbrev pub AreNameWords : ℕ → List (List ℕ) → Type 0
AreNameWords clients words = (names : List Name) × (words ≡ map name_word names) × IsTrue (names_fit clients names)
