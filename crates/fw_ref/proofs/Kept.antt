-- What an operation that fits makes of records within their ranges is within them, and so is the reply.
use Rattle.std.proofs.Common.{◌≡◌, ℕ, zero, suc, ◌<◌, ◌≤◌, ◌^◌, Bool, true, false, ◌&&◌, nat_lt, nat_le, List, [], ◌∷◌, length, take, map, Some, None, refl, ap, ◌∙◌, arith, lit≤}
use Rattle.std.specs.Prelude.{Option, filter, bytes_eq, if◌then◌else◌}
use Rattle.std.specs.List.{list_all}
use Rattle.std.proofs.lemmas.Bool.{and_parts, and_from, lt-ltb, le-leb}
use Rattle.fw_op.specs.declared.op.Op.{Op}
use Rattle.fw_op.specs.declared.op.Op.TheVariants as ops
use Rattle.fw_op.specs.declared.reply.Name.{Name}
use Rattle.fw_op.specs.declared.reply.Reply.{Reply}
use Rattle.fw_op.specs.declared.reply.Reply.TheVariants as replies
use Rattle.fw_op.specs.declared.start.Start.{Start}
use Rattle.fw_op.specs.Keys.{is_key, is_value}
use Rattle.fw_op.specs.Ops.{op_bytes, op_fits}
use Rattle.fw_op.specs.Replies.{name_fits, reply_fits}
use Rattle.fw_store.specs.Store.{name_of, is_named, is_other, added, may_see, shown_to, visible, record_of, changed_if, changed_at, changed, without, with_value, with_reader, without_reader, unread, value_seen, own, swapped, most_names, applied}
use Rattle.fw_store.proofs.Order.{all-added, all-filter}
use Rattle.fw_ref.specs.Ranges.{is_stored}

-- the reply fits, and a client may have put each of the records
pub record IsKept (o : Reply × List Start) : Type 0 where
  pub fits : reply_fits 8 o.0 ≡ true
  pub stored : list_all is_stored o.1 ≡ true

-- records that are changed
stored-if : (how : Start → Start) → ((r : Start) → is_stored r ≡ true → is_stored (how r) ≡ true) → (t : Bool) (r : Start) → is_stored r ≡ true → is_stored (changed_if how t r) ≡ true
stored-if how keeps true r stored = keeps r stored
stored-if how keeps false r stored = stored

stored-changed : (how : Start → Start) → ((r : Start) → is_stored r ≡ true → is_stored (how r) ≡ true) → (n : Name) (rs : List Start) → list_all is_stored rs ≡ true → list_all is_stored (changed how n rs) ≡ true
stored-changed how keeps n [] all = refl
stored-changed how keeps n (r ∷ rs) all =
    let parts = and_parts (is_stored r) (list_all is_stored rs) all in
    and_from (is_stored (changed_at how n r)) (list_all is_stored (changed how n rs)) (stored-if how keeps (is_named n r) r parts.0) (stored-changed how keeps n rs parts.1)

stored-value : (value : List ℕ) → is_value value ≡ true → (r : Start) → is_stored r ≡ true → is_stored (with_value value r) ≡ true
stored-value value fits r stored =
    let named = nat_lt r.owner 8 && is_key r.key in
    and_from named (is_value value) (and_parts named (is_value r.value) stored).0 fits

-- the value that is told
fits-value : (x : ℕ) (n : Name) (rs : List Start) → list_all is_stored rs ≡ true → reply_fits 8 (value_seen x (record_of n rs)) ≡ true
fits-value x n [] all = refl
fits-value x n (r ∷ rs) all =
    let parts = and_parts (is_stored r) (list_all is_stored rs) all in
    let value : is_value r.value ≡ true = (and_parts (nat_lt r.owner 8 && is_key r.key) (is_value r.value) parts.0).1 in
    elim (is_named n r) as (λ t. reply_fits 8 (value_seen x (if t then Some r else record_of n rs)) ≡ true) [
      | true ↦ elim (may_see x r) as (λ s. reply_fits 8 (if s then replies.Value r.value else replies.Absent) ≡ true) [ true ↦ value | false ↦ refl ]
      | false ↦ fits-value x n rs parts.1
    ]

-- how many records are seen
few-seen : (p : Start → Bool) (g : Start → Start) (rs : List Start) → length (map g (filter p rs)) ≤ length rs
few-seen p g [] = lit≤ tt
few-seen p g (r ∷ rs) =
    let rest = few-seen p g rs in
    elim (p r) as (λ t. length (map g (if t then r ∷ filter p rs else filter p rs)) ≤ length (r ∷ rs)) [ true ↦ omega (arith, rest) | false ↦ omega (arith, rest) ]

-- the names that are told
fit-names : (p : Start → Bool) (g : Start → Start) → ((r : Start) → name_of (g r) ≡ name_of r) → (rs : List Start) → list_all is_stored rs ≡ true → list_all (name_fits 8) (map name_of (map g (filter p rs))) ≡ true
fit-names p g same [] all = refl
fit-names p g same (r ∷ rs) all =
    let parts = and_parts (is_stored r) (list_all is_stored rs) all in
    let rest = fit-names p g same rs parts.1 in
    let name : name_fits 8 (name_of r) ≡ true = (and_parts (nat_lt r.owner 8 && is_key r.key) (is_value r.value) parts.0).0 in
    elim (p r) as (λ t. list_all (name_fits 8) (map name_of (map g (if t then r ∷ filter p rs else filter p rs))) ≡ true) [
      | true ↦ and_from (name_fits 8 (name_of (g r))) (list_all (name_fits 8) (map name_of (map g (filter p rs)))) (ap (name_fits 8) (same r) ∙ name) rest
      | false ↦ rest
    ]

all-take : (p : Name → Bool) (k : ℕ) (ns : List Name) → list_all p ns ≡ true → list_all p (take k ns) ≡ true
all-take p zero ns all = refl
all-take p (suc k) [] all = refl
all-take p (suc k) (n ∷ ns) all =
    let parts = and_parts (p n) (list_all p ns) all in
    and_from (p n) (list_all p (take k ns)) parts.0 (all-take p k ns parts.1)

few-taken : (k : ℕ) (ns : List Name) → length (take k ns) ≤ k
few-taken zero ns = lit≤ tt
few-taken (suc k) [] = omega arith
few-taken (suc k) (n ∷ ns) = let rest = few-taken k ns in omega (arith, rest)

-- the outcome by the record of the name
kept-own : (o : Option Start) (a d : Reply × List Start) → IsKept a → IsKept d → IsKept (own o a d)
kept-own None a d absent present = absent
kept-own (Some r) a d absent present = present

kept-swapped : (o : Option Start) (old : List ℕ) (a d c : Reply × List Start) → IsKept a → IsKept d → IsKept c → IsKept (swapped o old a d c)
kept-swapped None old a d c absent differs done = absent
kept-swapped (Some r) old a d c absent differs done = elim (bytes_eq r.value old) as (λ t. IsKept (if t then c else d)) [ true ↦ done | false ↦ differs ]

pub kept : (x : ℕ) (op : Op) (rs : List Start) → x < 8 → op_fits 8 op ≡ true → list_all is_stored rs ≡ true → length rs < 2 ^ 31 → IsKept (applied x op rs)
kept x (ops.Put key value) rs client fits all few =
    let n : Name = record { owner = x; key = key } in
    let both = and_parts (is_key key) (is_value value) fits in
    let new : is_stored (unread n value) ≡ true = and_from (nat_lt x 8 && is_key key) (is_value value) (and_from (nat_lt x 8) (is_key key) (lt-ltb x 8 client) both.0) both.1 in
    kept-own (record_of n rs) (replies.Done, added (unread n value) rs) (replies.Done, changed (with_value value) n rs)
    (record { fits = refl; stored = all-added is_stored (unread n value) rs all new })
    (record { fits = refl; stored = stored-changed (with_value value) (stored-value value both.1) n rs all })
kept x (ops.Get owner key) rs client fits all few = record { fits = fits-value x (record { owner = owner; key = key }) rs all; stored = all }
kept x (ops.Del key) rs client fits all few =
    let n : Name = record { owner = x; key = key } in
    kept-own (record_of n rs) (replies.Absent, rs) (replies.Done, without n rs)
    (record { fits = refl; stored = all })
    (record { fits = refl; stored = all-filter (is_other n) is_stored rs all })
kept x (ops.Cas key old new) rs client fits all few =
    let n : Name = record { owner = x; key = key } in
    let short = and_parts (is_key key && is_value old && is_value new) (nat_le (length (op_bytes (ops.Cas key old new))) 510) fits in
    let both = and_parts (is_key key && is_value old) (is_value new) short.0 in
    kept-swapped (record_of n rs) old (replies.Absent, rs) (replies.Differs, rs) (replies.Done, changed (with_value new) n rs)
    (record { fits = refl; stored = all })
    (record { fits = refl; stored = all })
    (record { fits = refl; stored = stored-changed (with_value new) (stored-value new both.1) n rs all })
kept x (ops.Grant key client) rs here fits all few =
    let n : Name = record { owner = x; key = key } in
    kept-own (record_of n rs) (replies.Absent, rs) (replies.Done, changed (with_reader client) n rs)
    (record { fits = refl; stored = all })
    (record { fits = refl; stored = stored-changed (with_reader client) (λ r stored. stored) n rs all })
kept x (ops.Revoke key client) rs here fits all few =
    let n : Name = record { owner = x; key = key } in
    kept-own (record_of n rs) (replies.Absent, rs) (replies.Done, changed (without_reader client) n rs)
    (record { fits = refl; stored = all })
    (record { fits = refl; stored = stored-changed (without_reader client) (λ r stored. stored) n rs all })
kept x ops.Count rs client fits all few =
    let seen = few-seen (may_see x) (shown_to x) rs in
    record { fits = lt-ltb (length (visible x rs)) (2 ^ 32) (omega (arith, seen, few)); stored = all }
kept x ops.Keys rs client fits all few =
    let names = map name_of (visible x rs) in
    record {
      fits = and_from (nat_le (length (take most_names names)) 24) (list_all (name_fits 8) (take most_names names))
          (le-leb (length (take most_names names)) 24 (few-taken most_names names))
          (all-take (name_fits 8) most_names names (fit-names (may_see x) (shown_to x) (λ r. refl) rs all));
      stored = all;
    }
