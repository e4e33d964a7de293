-- How many records there are, and that those to start with are such as a client may have put.
use Rattle.std.proofs.Common.{◌≡◌, ℕ, ◌+◌, ◌≤◌, Bool, true, false, ◌&&◌, nat_lt, nat_le, nat_eq, List, [], ◌∷◌, length, map, Option, Some, None, refl, arith}
use Rattle.std.specs.Prelude.{fold, filter, bytes_eq, slice_index_or, if◌then◌else◌}
use Rattle.std.specs.List.{list_all}
use Rattle.std.proofs.lemmas.Bool.{and_parts, and_from, lt-ltb, ltb-true, leb-true}
use Rattle.fw_list.specs.Numbers.{ascending}
use Rattle.fw_op.specs.declared.op.Op.{Op}
use Rattle.fw_op.specs.declared.op.Op.TheVariants as ops
use Rattle.fw_op.specs.declared.reply.Name.{Name}
use Rattle.fw_op.specs.declared.reply.Reply.{Reply}
use Rattle.fw_op.specs.declared.reply.Reply.TheVariants as replies
use Rattle.fw_op.specs.declared.start.Start.{Start}
use Rattle.fw_op.specs.Keys.{is_key, is_value}
use Rattle.fw_record.specs.Records.{start_fits, starts_fit}
use Rattle.fw_store.specs.Store.{is_before, is_other, are_distinct, added, with_added, ordered, record_of, changed_at, changed, without, with_value, with_reader, without_reader, unread, own, swapped, applied}
use Rattle.fw_store.proofs.Order.{all-added}
use Rattle.fw_ref.specs.declared.replica.Last.{Last}
use Rattle.fw_ref.specs.Reference.{Reference, Opened, unasked, answered, renewed, replied, step}
use Rattle.fw_ref.specs.Ranges.{is_stored}

-- ---- an operation adds at most one record

few-added : (new : Start) (rs : List Start) → length (added new rs) ≤ length rs + 1
few-added new [] = omega arith
few-added new (r ∷ rs) =
    let rest = few-added new rs in
    elim (is_before new r) as (λ t. length (if t then new ∷ r ∷ rs else r ∷ added new rs) ≤ length (r ∷ rs) + 1) [ true ↦ omega arith | false ↦ omega (arith, rest) ]

few-mapped : (f : Start → Start) (rs : List Start) → length (map f rs) ≤ length rs + 1
few-mapped f [] = omega arith
few-mapped f (r ∷ rs) = let rest = few-mapped f rs in omega (arith, rest)

few-left : (p : Start → Bool) (rs : List Start) → length (filter p rs) ≤ length rs + 1
few-left p [] = omega arith
few-left p (r ∷ rs) =
    let rest = few-left p rs in
    elim (p r) as (λ t. length (if t then r ∷ filter p rs else filter p rs) ≤ length (r ∷ rs) + 1) [ true ↦ omega (arith, rest) | false ↦ omega (arith, rest) ]

few-own : (o : Option Start) (a d : Reply × List Start) (k : ℕ) → length a.1 ≤ k → length d.1 ≤ k → length (own o a d).1 ≤ k
few-own None a d k absent present = absent
few-own (Some r) a d k absent present = present

few-swapped : (o : Option Start) (old : List ℕ) (a d c : Reply × List Start) (k : ℕ) → length a.1 ≤ k → length d.1 ≤ k → length c.1 ≤ k → length (swapped o old a d c).1 ≤ k
few-swapped None old a d c k absent differs done = absent
few-swapped (Some r) old a d c k absent differs done = elim (bytes_eq r.value old) as (λ t. length (if t then c else d).1 ≤ k) [ true ↦ done | false ↦ differs ]

same_few : (rs : List Start) → length rs ≤ length rs + 1
same_few rs = omega arith

few-applied : (x : ℕ) (op : Op) (rs : List Start) → length (applied x op rs).1 ≤ length rs + 1
few-applied x (ops.Put key value) rs =
    let n : Name = record { owner = x; key = key } in
    few-own (record_of n rs) (replies.Done, added (unread n value) rs) (replies.Done, changed (with_value value) n rs) (length rs + 1)
    (few-added (unread n value) rs) (few-mapped (changed_at (with_value value) n) rs)
few-applied x (ops.Get owner key) rs = same_few rs
few-applied x (ops.Del key) rs =
    let n : Name = record { owner = x; key = key } in
    few-own (record_of n rs) (replies.Absent, rs) (replies.Done, without n rs) (length rs + 1) (same_few rs) (few-left (is_other n) rs)
few-applied x (ops.Cas key old new) rs =
    let n : Name = record { owner = x; key = key } in
    few-swapped (record_of n rs) old (replies.Absent, rs) (replies.Differs, rs) (replies.Done, changed (with_value new) n rs) (length rs + 1)
    (same_few rs) (same_few rs) (few-mapped (changed_at (with_value new) n) rs)
few-applied x (ops.Grant key client) rs =
    let n : Name = record { owner = x; key = key } in
    few-own (record_of n rs) (replies.Absent, rs) (replies.Done, changed (with_reader client) n rs) (length rs + 1)
    (same_few rs) (few-mapped (changed_at (with_reader client) n) rs)
few-applied x (ops.Revoke key client) rs =
    let n : Name = record { owner = x; key = key } in
    few-own (record_of n rs) (replies.Absent, rs) (replies.Done, changed (without_reader client) n rs) (length rs + 1)
    (same_few rs) (few-mapped (changed_at (without_reader client) n) rs)
few-applied x ops.Count rs = same_few rs
few-applied x ops.Keys rs = same_few rs

few-answered : (x : ℕ) (op : Option Op) (rs : List Start) → length (answered x op rs).1 ≤ length rs + 1
few-answered x None rs = same_few rs
few-answered x (Some op) rs = few-applied x op rs

few-replied : (o : Opened) (last : Last) (m : Reference) → length (replied o last m).1.records ≤ length m.records + 1
few-replied o last m =
    let new = renewed o (answered o.client o.op m.records) m in
    elim (nat_lt o.stamp last.stamp) as (λ t. length (if t then (replies.Old, m) else (if nat_eq o.stamp last.stamp then (last.reply, m) else new)).1.records ≤ length m.records + 1) [
      | true ↦ same_few m.records
      | false ↦ elim (nat_eq o.stamp last.stamp) as (λ t. length (if t then (last.reply, m) else new).1.records ≤ length m.records + 1) [
        | true ↦ same_few m.records
        | false ↦ few-answered o.client o.op m.records
      ]
    ]

pub few-step : (m : Reference) (e : Option Opened) → length (step m e).1.records ≤ length m.records + 1
few-step m None = same_few m.records
few-step m (Some o) = few-replied o (slice_index_or m.last o.client unasked) m

-- ---- the records to start with

few-folded : (rs starts : List Start) → length (fold with_added rs starts) ≤ length rs + length starts
few-folded rs [] = omega arith
few-folded rs (s ∷ starts) =
    let next = few-added s rs in
    let rest = few-folded (added s rs) starts in
    omega (arith, next, rest)

stored-folded : (rs starts : List Start) → list_all is_stored rs ≡ true → list_all is_stored starts ≡ true → list_all is_stored (fold with_added rs starts) ≡ true
stored-folded rs [] all new = all
stored-folded rs (s ∷ starts) all new =
    let parts = and_parts (is_stored s) (list_all is_stored starts) new in
    stored-folded (added s rs) starts (all-added is_stored s rs all parts.0) parts.1

stored-start : (clients : ℕ) (s : Start) → clients ≤ 8 → start_fits clients s ≡ true → is_stored s ≡ true
stored-start clients s few fits =
    let named : Bool = nat_lt s.owner clients && is_key s.key in
    let readers : Bool = list_all (λ c. nat_lt c clients) s.readers in
    let all = and_parts (named && is_value s.value && readers) (ascending s.readers) fits in
    let first = and_parts (named && is_value s.value) readers all.0 in
    let valued = and_parts named (is_value s.value) first.0 in
    let both = and_parts (nat_lt s.owner clients) (is_key s.key) valued.0 in
    let owner = lt-ltb s.owner 8 (omega (arith, few, ltb-true s.owner clients both.0)) in
    and_from (nat_lt s.owner 8 && is_key s.key) (is_value s.value) (and_from (nat_lt s.owner 8) (is_key s.key) owner both.1) valued.1

stored-starts : (clients : ℕ) (starts : List Start) → clients ≤ 8 → list_all (start_fits clients) starts ≡ true → list_all is_stored starts ≡ true
stored-starts clients [] few fits = refl
stored-starts clients (s ∷ starts) few fits =
    let parts = and_parts (start_fits clients s) (list_all (start_fits clients) starts) fits in
    and_from (is_stored s) (list_all is_stored starts) (stored-start clients s few parts.0) (stored-starts clients starts few parts.1)

-- what a store and a replica ask of the records to start with
pub record CanStart (starts : List Start) : Type 0 where
  pub distinct : are_distinct starts ≡ true
  pub stored : list_all is_stored (ordered starts) ≡ true
  pub few : length (ordered starts) ≤ 256

pub can_start : (clients : ℕ) (starts : List Start) → clients ≤ 8 → starts_fit clients starts ≡ true → CanStart starts
can_start clients starts small fits =
    let all = and_parts (nat_le (length starts) 256 && list_all (start_fits clients) starts) (are_distinct starts) fits in
    let both = and_parts (nat_le (length starts) 256) (list_all (start_fits clients) starts) all.0 in
    let most = leb-true (length starts) 256 both.0 in
    let folded = few-folded [] starts in
    record {
      distinct = all.1;
      stored = stored-folded [] starts refl (stored-starts clients starts small both.1);
      few = omega (arith, most, folded);
    }
