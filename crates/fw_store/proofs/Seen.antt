-- What is seen of a list of records: those that pass a test p, each as g shows it.
use Rattle.std.proofs.Common.{◌≡◌, Bool, true, false, not, ◌&&◌, List, [], ◌∷◌, map, Some, None, refl, sym, ap, ◌∙◌, arith}
use Rattle.std.specs.Prelude.{Option, filter, find, if◌then◌else◌}
use Rattle.std.specs.List.{list_all}
use Rattle.std.specs.Ordering.{is_lt, is_eq}
use Rattle.std.proofs.lemmas.Bool.{and_parts, and_from}
use Rattle.fw_op.specs.declared.reply.Name.{Name}
use Rattle.fw_op.specs.declared.reply.Reply.{Reply}
use Rattle.fw_op.specs.declared.reply.Reply.TheVariants as replies
use Rattle.fw_op.specs.declared.start.Start.{Start}
use Rattle.fw_store.specs.Store.{name_cmp, name_of, is_before, is_named, is_other, are_ordered, added, changed, without, record_of}
use Rattle.fw_store.proofs.Names.{lt-is, eq-is, equal-less, less-greater, equal-equal, before-before}
use Rattle.fw_store.proofs.Order.{all-imp, all-filter, all_before-map, filter-all}
use Rattle.fw_store.proofs.Found.{find-none, map-others}

-- a change that the test doesn't notice, and that is made alike to what is shown
pub seen-map : (p : Start → Bool) (g f : Start → Start) → ((r : Start) → p (f r) ≡ p r) → ((r : Start) → g (f r) ≡ f (g r)) → (rs : List Start) → map g (filter p (map f rs)) ≡ map f (map g (filter p rs))
seen-map p g f test show [] = refl
seen-map p g f test show (r ∷ rs) = grind (arith, test r, show r, seen-map p g f test show rs)

-- a change that isn't seen
pub seen-same : (p : Start → Bool) (g f : Start → Start) → ((r : Start) → p (f r) ≡ p r) → ((r : Start) → g (f r) ≡ g r) → (rs : List Start) → map g (filter p (map f rs)) ≡ map g (filter p rs)
seen-same p g f test show [] = refl
seen-same p g f test show (r ∷ rs) = grind (arith, test r, show r, seen-same p g f test show rs)

-- a removal of what a test tells, which answers alike for what is shown
pub seen-filter : (p q : Start → Bool) (g : Start → Start) → ((r : Start) → q (g r) ≡ q r) → (rs : List Start) → map g (filter p (filter q rs)) ≡ filter q (map g (filter p rs))
seen-filter p q g same [] = refl
seen-filter p q g same (r ∷ rs) = grind (arith, same r, seen-filter p q g same rs)

-- a change that hides what a test refuses
pub seen-hidden : (p q : Start → Bool) (g f : Start → Start) → ((r : Start) → p (f r) ≡ (p r && q r)) → ((r : Start) → g (f r) ≡ g r) → ((r : Start) → q (g r) ≡ q r) → (rs : List Start) → map g (filter p (map f rs)) ≡ filter q (map g (filter p rs))
seen-hidden p q g f test show same [] = refl
seen-hidden p q g f test show same (r ∷ rs) = grind (arith, test r, show r, same r, seen-hidden p q g f test show same rs)

-- what is always seen, as it is, is found among what is seen
pub seen-find : (p q : Start → Bool) (g : Start → Start) → ((r : Start) → q r ≡ true → p r ≡ true) → ((r : Start) → q r ≡ true → g r ≡ r) → ((r : Start) → q (g r) ≡ q r) → (rs : List Start) → find q (map g (filter p rs)) ≡ find q rs
seen-find p q g sees shows same [] = refl
seen-find p q g sees shows same (r ∷ rs) =
    elim (q r) as (λ t. q r ≡ t → find q (map g (filter p (r ∷ rs))) ≡ (if t then Some r else find q rs)) [
      | true ↦ λ e. grind (arith, e, same r, sees r e, shows r e)
      | false ↦ λ e. grind (arith, e, same r, seen-find p q g sees shows same rs)
    ] refl

-- a hidden record that is added
pub seen-added_hidden : (p : Start → Bool) (g : Start → Start) (new : Start) → p new ≡ false → (rs : List Start) → map g (filter p (added new rs)) ≡ map g (filter p rs)
seen-added_hidden p g new hidden [] = grind (arith)
seen-added_hidden p g new hidden (r ∷ rs) =
    elim (is_before new r) as (λ t. map g (filter p (if t then new ∷ r ∷ rs else r ∷ added new rs)) ≡ map g (filter p (r ∷ rs))) [
      | true ↦ rw hidden
      | false ↦ let rest = seen-added_hidden p g new hidden rs in elim (p r) as (λ t. map g (if t then r ∷ filter p (added new rs) else filter p (added new rs)) ≡ map g (if t then r ∷ filter p rs else filter p rs)) [ true ↦ ap (λ (zs : List Start). g r ∷ zs) rest | false ↦ rest ]
    ]

added-first : (new : Start) (rs : List Start) → list_all (is_before new) rs ≡ true → added new rs ≡ new ∷ rs
added-first new [] all = refl
added-first new (r ∷ rs) all = rw ((and_parts (is_before new r) (list_all (is_before new) rs) all).0)

-- what comes before all comes before all that is seen
all_before-seen : (p : Start → Bool) (g : Start → Start) → ((r : Start) → name_of (g r) ≡ name_of r) → (q : Start) (rs : List Start) → list_all (is_before q) rs ≡ true → list_all (is_before q) (map g (filter p rs)) ≡ true
all_before-seen p g same q rs all = all_before-map g same q (filter p rs) ∙ all-filter p (is_before q) rs all

-- a record that is seen as it is and added
pub seen-added : (p : Start → Bool) (g : Start → Start) → ((r : Start) → name_of (g r) ≡ name_of r) → (new : Start) → p new ≡ true → g new ≡ new → (rs : List Start) → are_ordered rs ≡ true → map g (filter p (added new rs)) ≡ added new (map g (filter p rs))
seen-added p g same new sees shows [] order = rw (sees, shows)
seen-added p g same new sees shows (r ∷ rs) order =
    let parts = and_parts (list_all (is_before r) rs) (are_ordered rs) order in
    let rest = seen-added p g same new sees shows rs parts.1 in
    let name : is_before new (g r) ≡ is_before new r = ap (λ (n : Name). is_lt (name_cmp (name_of new) n)) (same r) in
    elim (is_before new r) as (λ t. is_before new r ≡ t → map g (filter p (if t then new ∷ r ∷ rs else r ∷ added new rs)) ≡ added new (map g (filter p (r ∷ rs)))) [
      | true ↦ λ e.
          let all : list_all (is_before new) (r ∷ rs) ≡ true = and_from (is_before new r) (list_all (is_before new) rs) e (all-imp (is_before r) (is_before new) (λ q. before-before new r q e) rs parts.0) in
          rw (sees, shows) (sym (added-first new (map g (filter p (r ∷ rs))) (all_before-seen p g same new (r ∷ rs) all)))
      | false ↦ λ e. elim (p r) as (λ t. map g (if t then r ∷ filter p (added new rs) else filter p (added new rs)) ≡ added new (map g (if t then r ∷ filter p rs else filter p rs))) [
        | true ↦ rw (name, e) (ap (λ (zs : List Start). g r ∷ zs) rest)
        | false ↦ rest
      ]
    ] refl

-- in order, no record behind one of the name has the name
named-others : (n : Name) (r : Start) (rs : List Start) → is_named n r ≡ true → list_all (is_before r) rs ≡ true → list_all (is_other n) rs ≡ true
named-others n r rs named all =
    all-imp (is_before r) (is_other n) (λ q h.
    ap (λ o. not (is_eq o)) (less-greater n (name_of q) (equal-less n (name_of r) (name_of q) (equal-equal (name_of r) n (eq-is (name_cmp (name_of r) n) named)) (lt-is (name_cmp (name_of r) (name_of q)) h)))) rs all

found-passes : (p q : Start → Bool) (rs : List Start) (r : Start) → find q rs ≡ Some r → list_all p rs ≡ true → p r ≡ true
found-passes p q [] r found all = cc
found-passes p q (s ∷ rs) r found all =
    let parts = and_parts (p s) (list_all p rs) all in
    elim (q s) as (λ t. (if t then Some s else find q rs) ≡ Some r → p r ≡ true) [
      | true ↦ λ e. let same : s ≡ r = cc in ap p (sym same) ∙ parts.0
      | false ↦ λ e. found-passes p q rs r e parts.1
    ] found

others-seen : (p : Start → Bool) (g : Start → Start) (n : Name) → ((r : Start) → name_of (g r) ≡ name_of r) → (rs : List Start) → list_all (is_other n) rs ≡ true → list_all (is_other n) (map g (filter p rs)) ≡ true
others-seen p g n same [] all = refl
others-seen p g n same (r ∷ rs) all =
    let parts = and_parts (is_other n r) (list_all (is_other n) rs) all in
    let rest = others-seen p g n same rs parts.1 in
    elim (p r) as (λ t. list_all (is_other n) (map g (if t then r ∷ filter p rs else filter p rs)) ≡ true) [
      | true ↦ and_from (is_other n (g r)) (list_all (is_other n) (map g (filter p rs))) (ap (λ (m : Name). not (is_eq (name_cmp m n))) (same r) ∙ parts.0) rest
      | false ↦ rest
    ]

-- the value of a record that is seen
abbrev pub told : Option Start → Reply
told None = replies.Absent
told (Some r) = replies.Value r.value

-- the value of a record, or nothing where it isn't seen
abbrev pub told_if : (Start → Bool) → Option Start → Reply
told_if p None = replies.Absent
told_if p (Some r) = if p r then replies.Value r.value else replies.Absent

pub seen-value : (p : Start → Bool) (g : Start → Start) → ((r : Start) → name_of (g r) ≡ name_of r) → ((r : Start) → (g r).value ≡ r.value) → (n : Name) (rs : List Start) → are_ordered rs ≡ true → told_if p (record_of n rs) ≡ told (record_of n (map g (filter p rs)))
seen-value p g same value n [] order = refl
seen-value p g same value n (r ∷ rs) order =
    let parts = and_parts (list_all (is_before r) rs) (are_ordered rs) order in
    let rest = seen-value p g same value n rs parts.1 in
    let name : is_named n (g r) ≡ is_named n r = ap (λ (m : Name). is_eq (name_cmp m n)) (same r) in
    elim (is_named n r) as (λ t. is_named n r ≡ t → told_if p (if t then Some r else record_of n rs) ≡ told (record_of n (map g (filter p (r ∷ rs))))) [
      | true ↦ λ e. elim (p r) as (λ t. (if t then replies.Value r.value else replies.Absent) ≡ told (record_of n (map g (if t then r ∷ filter p rs else filter p rs)))) [
        | true ↦ rw (name, e, value r)
        | false ↦ rw (find-none (is_named n) (map g (filter p rs)) (others-seen p g n same rs (named-others n r rs e parts.0)))
      ]
      | false ↦ λ e. elim (p r) as (λ t. told_if p (record_of n rs) ≡ told (record_of n (map g (if t then r ∷ filter p rs else filter p rs)))) [
        | true ↦ rw (name, e) rest
        | false ↦ rest
      ]
    ] refl

-- a change that shows the record of a name, which is shown otherwise as before
pub seen-shown : (p : Start → Bool) (g how : Start → Start) (n : Name) → ((r : Start) → name_of (g r) ≡ name_of r) → ((r : Start) → is_named n r ≡ true → p (how r) ≡ true) → ((r : Start) → is_named n r ≡ true → g (how r) ≡ g r) → (rs : List Start) → are_ordered rs ≡ true → (one : Start) → record_of n rs ≡ Some one → map g (filter p (changed how n rs)) ≡ added (g one) (without n (map g (filter p rs)))
seen-shown p g how n same sees shows [] order one found = cc
seen-shown p g how n same sees shows (r ∷ rs) order one found =
    let parts = and_parts (list_all (is_before r) rs) (are_ordered rs) order in
    let name : is_named n (g r) ≡ is_named n r = ap (λ (m : Name). is_eq (name_cmp m n)) (same r) in
    elim (is_named n r) as (λ t. is_named n r ≡ t → (if t then Some r else record_of n rs) ≡ Some one → map g (filter p ((if t then how r else r) ∷ changed how n rs)) ≡ added (g one) (without n (map g (filter p (r ∷ rs))))) [
      | true ↦ λ e f.
          let here : r ≡ one = cc in
          let others = named-others n r rs e parts.0 in
          let seen : List Start = map g (filter p rs) in
          let all : list_all (is_before (g r)) seen ≡ true = ap (λ (m : Name). list_all (λ q. is_lt (name_cmp m (name_of q))) seen) (same r) ∙ all_before-seen p g same r rs parts.0 in
          let kept : without n seen ≡ seen = filter-all (is_other n) seen (others-seen p g n same rs others) in
          let rest : without n (map g (filter p (r ∷ rs))) ≡ seen = elim (p r) as (λ t. without n (map g (if t then r ∷ filter p rs else filter p rs)) ≡ seen) [ true ↦ rw (name, e) kept | false ↦ kept ] in
          rw (sees r e, shows r e, map-others how n rs others, ← here, rest) (sym (added-first (g r) seen all))
      | false ↦ λ e f.
          let rest = seen-shown p g how n same sees shows rs parts.1 one f in
          let after : is_before (g one) (g r) ≡ false =
          ap (λ (m : Name). is_lt (name_cmp m (name_of (g r)))) (same one) ∙ ap (λ (m : Name). is_lt (name_cmp (name_of one) m)) (same r)
          ∙ ap is_lt (less-greater (name_of r) (name_of one) (lt-is (name_cmp (name_of r) (name_of one)) (found-passes (is_before r) (is_named n) rs one f parts.0))) in
          elim (p r) as (λ t. map g (if t then r ∷ filter p (changed how n rs) else filter p (changed how n rs)) ≡ added (g one) (without n (map g (if t then r ∷ filter p rs else filter p rs)))) [
            | true ↦ rw (name, e, after) (ap (λ (zs : List Start). g r ∷ zs) rest)
            | false ↦ rest
          ]
    ] refl found
