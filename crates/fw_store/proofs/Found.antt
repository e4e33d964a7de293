-- The place of a record among others in order.
use Rattle.std.proofs.Common.{◌≡◌, ℕ, suc, ◌+◌, ◌<◌, ◌≤◌, Bool, true, false, not, ◌&&◌, List, [], ◌∷◌, ◌++◌, length, take, drop, get_or, set, Some, None, refl, sym, ap, ◌∙◌, arith, drop-cons}
use Rattle.std.specs.Prelude.{find, if◌then◌else◌}
use Rattle.std.specs.List.{list_all}
use Rattle.std.specs.Ordering.{is_lt, is_eq}
use Rattle.std.specs.declared.cmp.Ordering.TheVariants.{Less, Equal, Greater}
use Rattle.std.proofs.lemmas.Bool.{and_parts, and_from}
use Rattle.std.proofs.lemmas.List.{set_split, get_or_default, take-append-drop, take_more}
use Rattle.std.proofs.lemmas.List.Folds.{list_all-append}
use Rattle.fw_op.specs.declared.reply.Name.{Name}
use Rattle.fw_op.specs.declared.start.Start.{Start}
use Rattle.fw_store.specs.Store.{name_cmp, name_of, is_before, is_named, is_other, are_ordered, added, changed, without, record_of}
use Rattle.fw_store.specs.Places.{StandsAt, IsMissingAt}
use Rattle.fw_store.proofs.Names.{lt-is, less-less, equal-less, less-equal, greater-less, less-greater, equal-equal}
use Rattle.fw_store.proofs.Order.{all-imp, filter-all, before-take, after-drop}

-- the record's name comes before the name, or after it
abbrev pub is_below : Name → Start → Bool
is_below n r = is_lt (name_cmp (name_of r) n)

abbrev pub is_above : Name → Start → Bool
is_above n r = is_lt (name_cmp n (name_of r))

below-other : (n : Name) (r : Start) → is_below n r ≡ true → is_other n r ≡ true
below-other n r h = ap (λ o. not (is_eq o)) (lt-is (name_cmp (name_of r) n) h)

above-other : (n : Name) (r : Start) → is_above n r ≡ true → is_other n r ≡ true
above-other n r h = ap (λ o. not (is_eq o)) (less-greater n (name_of r) (lt-is (name_cmp n (name_of r)) h))

pub find-here : (p : Start → Bool) (xs : List Start) (r : Start) (ys : List Start) → list_all (λ x. not (p x)) xs ≡ true → p r ≡ true → find p (xs ++ r ∷ ys) ≡ Some r
find-here p [] r ys others named = grind (arith)
find-here p (x ∷ xs) r ys others named = grind (arith, find-here p xs r ys, and_parts (not (p x)) (list_all (λ x. not (p x)) xs) others)

pub find-none : (p : Start → Bool) (xs : List Start) → list_all (λ x. not (p x)) xs ≡ true → find p xs ≡ None
find-none p [] others = refl
find-none p (x ∷ xs) others = grind (arith, find-none p xs, and_parts (not (p x)) (list_all (λ x. not (p x)) xs) others)

pub others-none : (p : Start → Bool) (xs : List Start) → find p xs ≡ None → list_all (λ x. not (p x)) xs ≡ true
others-none p [] none = refl
others-none p (x ∷ xs) none =
    elim (p x) as (λ t. (if t then Some x else find p xs) ≡ None → not t && list_all (λ x. not (p x)) xs ≡ true) [ true ↦ λ e. cc | false ↦ λ e. others-none p xs e ] none

pub map-others : (how : Start → Start) (n : Name) (xs : List Start) → list_all (is_other n) xs ≡ true → changed how n xs ≡ xs
map-others how n [] others = refl
map-others how n (x ∷ xs) others = grind (arith, map-others how n xs, and_parts (is_other n x) (list_all (is_other n) xs) others)

map-here : (how : Start → Start) (n : Name) (xs : List Start) (r : Start) (ys : List Start) → list_all (is_other n) xs ≡ true → is_named n r ≡ true → list_all (is_other n) ys ≡ true → changed how n (xs ++ r ∷ ys) ≡ xs ++ how r ∷ ys
map-here how n [] r ys front named behind = grind (arith, map-others how n ys behind)
map-here how n (x ∷ xs) r ys front named behind = grind (arith, map-here how n xs r ys, and_parts (is_other n x) (list_all (is_other n) xs) front)

filter-here : (n : Name) (xs : List Start) (r : Start) (ys : List Start) → list_all (is_other n) xs ≡ true → is_named n r ≡ true → list_all (is_other n) ys ≡ true → without n (xs ++ r ∷ ys) ≡ xs ++ ys
filter-here n [] r ys front named behind = grind (arith, filter-all (is_other n) ys behind)
filter-here n (x ∷ xs) r ys front named behind = grind (arith, filter-here n xs r ys, and_parts (is_other n x) (list_all (is_other n) xs) front)

-- all in front of a record of the name are below the name, and all behind it above
pub front-below : (n : Name) (rs : List Start) (k : ℕ) (d : Start) → are_ordered rs ≡ true → k < length rs → name_cmp (name_of (get_or rs k d)) n ≡ Equal → list_all (is_below n) (take k rs) ≡ true
front-below n rs k d order inside named =
    let r = get_or rs k d in
    all-imp (λ q. is_before q r) (is_below n) (λ q h. ap is_lt (less-equal (name_of q) (name_of r) n (lt-is (name_cmp (name_of q) (name_of r)) h) named)) (take k rs) (before-take rs k d order inside)

pub behind-above : (n : Name) (rs : List Start) (k : ℕ) (d : Start) → are_ordered rs ≡ true → k < length rs → name_cmp (name_of (get_or rs k d)) n ≡ Equal → list_all (is_above n) (drop (suc k) rs) ≡ true
behind-above n rs k d order inside named =
    let r = get_or rs k d in
    all-imp (is_before r) (is_above n) (λ q h. ap is_lt (equal-less n (name_of r) (name_of q) (equal-equal (name_of r) n named) (lt-is (name_cmp (name_of r) (name_of q)) h))) (drop (suc k) rs) (after-drop rs k d order inside)

-- a record below the name, and all in front of it
pub upto-below : (n : Name) (rs : List Start) (k : ℕ) (d : Start) → are_ordered rs ≡ true → k < length rs → name_cmp (name_of (get_or rs k d)) n ≡ Less → list_all (is_below n) (take (k + 1) rs) ≡ true
upto-below n rs k d order inside less =
    let r = get_or rs k d in
    let front : list_all (is_below n) (take k rs) ≡ true = all-imp (λ q. is_before q r) (is_below n) (λ q h. ap is_lt (less-less (name_of q) (name_of r) n (lt-is (name_cmp (name_of q) (name_of r)) h) less)) (take k rs) (before-take rs k d order inside) in
    ap (list_all (is_below n)) (take_more rs k d inside) ∙ list_all-append (is_below n) (take k rs) (r ∷ []) ∙ and_from (list_all (is_below n) (take k rs)) (list_all (is_below n) (r ∷ [])) front (and_from (is_below n r) true (ap is_lt less) refl)

-- a record above the name, and all behind it
pub from-above : (n : Name) (rs : List Start) (k : ℕ) (d : Start) → are_ordered rs ≡ true → k < length rs → name_cmp (name_of (get_or rs k d)) n ≡ Greater → list_all (is_above n) (drop k rs) ≡ true
from-above n rs k d order inside greater =
    let r = get_or rs k d in
    let less : name_cmp n (name_of r) ≡ Less = greater-less (name_of r) n greater in
    let behind : list_all (is_above n) (drop (suc k) rs) ≡ true = all-imp (is_before r) (is_above n) (λ q h. ap is_lt (less-less n (name_of r) (name_of q) less (lt-is (name_cmp (name_of r) (name_of q)) h))) (drop (suc k) rs) (after-drop rs k d order inside) in
    ap (list_all (is_above n)) (drop-cons rs k d inside) ∙ and_from (is_above n r) (list_all (is_above n) (drop (suc k) rs)) (ap is_lt less) behind

pub stands-at : (n : Name) (rs : List Start) (k : ℕ) (d : Start) → are_ordered rs ≡ true → k < length rs → name_cmp (name_of (get_or rs k d)) n ≡ Equal → StandsAt n rs k
stands-at n rs k d order inside named =
    let r = get_or rs k d in
    let front : list_all (is_other n) (take k rs) ≡ true = all-imp (is_below n) (is_other n) (below-other n) (take k rs) (front-below n rs k d order inside named) in
    let behind : list_all (is_other n) (drop (suc k) rs) ≡ true = all-imp (is_above n) (is_other n) (above-other n) (drop (suc k) rs) (behind-above n rs k d order inside named) in
    let split : rs ≡ take k rs ++ r ∷ drop (suc k) rs = sym (take-append-drop k rs) ∙ ap (λ (zs : List Start). take k rs ++ zs) (drop-cons rs k d inside) in
    let here : is_named n r ≡ true = ap is_eq named in
    record {
      within = inside;
      finds = λ e. ap (record_of n) split ∙ find-here (is_named n) (take k rs) r (drop (suc k) rs) front here ∙ ap (λ (q : Start). Some q) (get_or_default rs k d e inside);
      changes = λ how e. ap (changed how n) split ∙ map-here how n (take k rs) r (drop (suc k) rs) front here behind ∙ sym (set_split rs k (how r) inside) ∙ ap (λ (q : Start). set rs k (how q)) (get_or_default rs k d e inside);
      removes = ap (without n) split ∙ filter-here n (take k rs) r (drop (suc k) rs) front here behind;
    }

-- a new record of the name stands between those below and those above
added-between : (n : Name) (new : Start) (xs ys : List Start) → name_of new ≡ n → list_all (is_below n) xs ≡ true → list_all (is_above n) ys ≡ true → added new (xs ++ ys) ≡ xs ++ new ∷ ys
added-between n new [] [] named below above = refl
added-between n new [] (y ∷ ys) named below above =
    let first : is_before new y ≡ true = ap (λ m. is_lt (name_cmp m (name_of y))) named ∙ (and_parts (is_above n y) (list_all (is_above n) ys) above).0 in
    rw first
added-between n new (x ∷ xs) ys named below above =
    let parts = and_parts (is_below n x) (list_all (is_below n) xs) below in
    let later : is_before new x ≡ false = ap (λ m. is_lt (name_cmp m (name_of x))) named ∙ ap is_lt (less-greater (name_of x) n (lt-is (name_cmp (name_of x) n) parts.0)) in
    rw (later, added-between n new xs ys named parts.1 above)

others-append : (p : Start → Bool) (xs ys : List Start) → list_all p xs ≡ true → list_all p ys ≡ true → list_all p (xs ++ ys) ≡ true
others-append p xs ys one two = list_all-append p xs ys ∙ and_from (list_all p xs) (list_all p ys) one two

pub missing-at : (n : Name) (rs : List Start) (k : ℕ) → k ≤ length rs → list_all (is_below n) (take k rs) ≡ true → list_all (is_above n) (drop k rs) ≡ true → IsMissingAt n rs k
missing-at n rs k inside below above =
    let front : list_all (is_other n) (take k rs) ≡ true = all-imp (is_below n) (is_other n) (below-other n) (take k rs) below in
    let behind : list_all (is_other n) (drop k rs) ≡ true = all-imp (is_above n) (is_other n) (above-other n) (drop k rs) above in
    let split : rs ≡ take k rs ++ drop k rs = sym (take-append-drop k rs) in
    record {
      within = inside;
      none = find-none (is_named n) rs (ap (list_all (is_other n)) split ∙ others-append (is_other n) (take k rs) (drop k rs) front behind);
      adds = λ new named. ap (added new) split ∙ added-between n new (take k rs) (drop k rs) named below above;
    }
