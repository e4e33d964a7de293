-- Which bytes are a key and which a value, and how each is spelled in bytes.
use Rattle.std.specs.Prelude.{ℕ, Bool, ◌&&◌, ◌||◌, nat_eq, List, ◌∷◌, ◌++◌, length}
use Rattle.std.specs.List.{list_all}
use Rattle.std.specs.Int.{w16, to_be_bytes}
use Rattle.fw_list.specs.Numbers.{within}
use Rattle.fw_op.specs.declared.limits.TheConstants.{LONGEST_KEY, LONGEST_VALUE}

-- a letter from a to z, a digit or a dash
abbrev pub is_key_byte : ℕ → Bool
is_key_byte b = within 97 b 122 || within 48 b 57 || nat_eq b 45

-- such bytes, from 1 to the longest key
abbrev pub is_key : List ℕ → Bool
is_key key = within 1 (length key) LONGEST_KEY && list_all is_key_byte key

-- a byte that shows and isn't blank
abbrev pub is_value_byte : ℕ → Bool
is_value_byte b = within 0x21 b 0x7e

-- such bytes, from 1 to the longest value
abbrev pub is_value : List ℕ → Bool
is_value value = within 1 (length value) LONGEST_VALUE && list_all is_value_byte value

-- a key after its length, one byte
abbrev pub key_bytes : List ℕ → List ℕ
key_bytes key = length key ∷ key

-- a value after its length, two bytes, the high one first
abbrev pub value_bytes : List ℕ → List ℕ
value_bytes value = to_be_bytes w16 (length value) ++ value
