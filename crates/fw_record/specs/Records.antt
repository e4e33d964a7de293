-- The records that a service starts with: how each is spelled, in words and in bytes, and which lists of them there may be.
use Rattle.std.specs.Prelude.{ℕ, Bool, ◌&&◌, nat_lt, nat_le, List, ◌∷◌, ◌++◌, length, map}
use Rattle.std.specs.List.{list_all, flat_map}
use Rattle.fw_list.specs.Numbers.{u32, ascending}
use Rattle.fw_op.specs.declared.start.Start.{Start}
use Rattle.fw_op.specs.Keys.{is_key, is_value, key_bytes, value_bytes}
use Rattle.fw_op.specs.Words.{client_word, sentence}
use Rattle.fw_store.specs.Store.{name_of, is_other, are_distinct}
use Rattle.fw_record.specs.declared.limits.TheConstants.{MOST_RECORDS}

-- the owner, the key, the value and the readers
abbrev pub start_words : Start → List (List ℕ)
start_words s = client_word s.owner ∷ s.key ∷ s.value ∷ map client_word s.readers

-- the one text of a record
abbrev pub start_text : Start → List ℕ
start_text s = sentence (start_words s)

-- the owner, the key and the value after their lengths, and the readers after their count
abbrev pub start_bytes : Start → List ℕ
start_bytes s = s.owner ∷ (key_bytes s.key ++ value_bytes s.value ++ length s.readers ∷ s.readers)

-- records after their count
abbrev pub starts_bytes : List Start → List ℕ
starts_bytes starts = u32 (length starts) ++ flat_map start_bytes starts

-- the record is one where there are this many clients: its owner and its readers, who ascend, are such clients
abbrev pub start_fits : ℕ → Start → Bool
start_fits clients s =
    nat_lt s.owner clients && is_key s.key && is_value s.value && list_all (λ c. nat_lt c clients) s.readers && ascending s.readers

-- none of the records has this one's name
abbrev pub is_new : List Start → Start → Bool
is_new before s = list_all (is_other (name_of s)) before

-- a list of records that a service can start with: at most so many, each fits, and none has the name of another
abbrev pub starts_fit : ℕ → List Start → Bool
starts_fit clients starts = nat_le (length starts) MOST_RECORDS && list_all (start_fits clients) starts && are_distinct starts
