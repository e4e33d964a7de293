-- How long replies are.
use Rattle.std.proofs.Common.{◌≡◌, ℕ, ◌*◌, ◌≤◌, true, nat_lt, nat_le, List, [], ◌∷◌, length, arith, length-append, lit≤}
use Rattle.std.proofs.lemmas.Bool.{and_parts, leb-true}
use Rattle.std.specs.List.{list_all, flat_map}
use Rattle.fw_list.specs.Numbers.{within}
use Rattle.fw_op.specs.declared.reply.Name.{Name}
use Rattle.fw_op.specs.declared.reply.Reply.{Reply}
use Rattle.fw_op.specs.declared.reply.Reply.TheVariants.{Done, Value, Absent, Differs, Count, Keys, Bad, Old, Null}
use Rattle.fw_op.specs.Keys.{is_key_byte, is_key, is_value_byte, is_value}
use Rattle.fw_op.specs.Replies.{name_bytes, name_fits, reply_bytes, reply_fits}

key_size : (key : List ℕ) → is_key key ≡ true → length key ≤ 16
key_size key fits = leb-true (length key) 16 (and_parts (nat_le 1 (length key)) (nat_le (length key) 16) (and_parts (within 1 (length key) 16) (list_all is_key_byte key) fits).0).1

value_size : (value : List ℕ) → is_value value ≡ true → length value ≤ 480
value_size value fits = leb-true (length value) 480 (and_parts (nat_le 1 (length value)) (nat_le (length value) 480) (and_parts (within 1 (length value) 480) (list_all is_value_byte value) fits).0).1

-- a name has at most 18 bytes
names_size : (names : List Name) → list_all (name_fits 8) names ≡ true → length (flat_map name_bytes names) ≤ 18 * length names
names_size [] fits = lit≤ tt
names_size (name ∷ names) fits =
    let both = and_parts (name_fits 8 name) (list_all (name_fits 8) names) fits in
    let key = key_size name.key (and_parts (nat_lt name.owner 8) (is_key name.key) both.0).1 in
    let rest = names_size names both.1 in
    let split = length-append (name_bytes name) (flat_map name_bytes names) in
    omega (arith, split, key, rest)

pub short_reply : (reply : Reply) → reply_fits 8 reply ≡ true → length (reply_bytes reply) ≤ 510
short_reply Done fits = lit≤ tt
short_reply (Value value) fits = let size = value_size value fits in omega (arith, size)
short_reply Absent fits = lit≤ tt
short_reply Differs fits = lit≤ tt
short_reply (Count count) fits = lit≤ tt
short_reply (Keys names) fits =
    let both = and_parts (nat_le (length names) 24) (list_all (name_fits 8) names) fits in
    let size = names_size names both.1 in
    let few = leb-true (length names) 24 both.0 in
    omega (arith, size, few)
short_reply Bad fits = lit≤ tt
short_reply Old fits = lit≤ tt
short_reply Null fits = lit≤ tt
