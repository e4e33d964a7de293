-- Who sent changes, counted one node after another, and views tried from the greatest down.
use Rattle.std.proofs.Common.{◌≡◌, ℕ, zero, suc, ◌+◌, ◌-◌, ◌<◌, ◌≤◌, List, [], ◌∷◌, Bool, true, false, ◌&&◌, ◌||◌, nat_eq, nat_le, length, map, filter, Some, None, refl, sym, ap, ◌∙◌, inl, inr, arith}
use Rattle.std.specs.Prelude.{is_some, All}
use Rattle.std.specs.List.{find, list_any}
use Rattle.std.proofs.lemmas.Bool.{cases_Bool, eqb-true, eqb-false, lt-leb, le-leb, leb-true, leb-false}
use Rattle.std.proofs.lemmas.List.Elements.{All-head, All-tail}
use Rattle.fw_list.specs.Lists.{numbers_from}
use Rattle.fw_base.specs.declared.params.Params.{Params}
use Rattle.fw_view.specs.declared.changes.KeptChange.{KeptChange}
use Rattle.fw_view.specs.Counted.{frame_among, added_of, sent_for, views_down}
use Rattle.fw_view.proofs.Frames.{counted}

-- ---- nodes counted

pub one_more : (p : ℕ → Bool) (k end count whole : ℕ) → k < end → p k ≡ true → count + length (filter p (numbers_from k (end - k))) ≡ whole
    → count + 1 + length (filter p (numbers_from (k + 1) (end - (k + 1)))) ≡ whole
one_more p k end count whole below is before =
    let left : end - k ≡ suc (end - (k + 1)) = omega arith in
    let rest = length (filter p (numbers_from (k + 1) (end - (k + 1)))) in
    let next : length (filter p (numbers_from k (end - k))) ≡ suc rest = rw left (rw is refl) in
    omega arith

pub none_more : (p : ℕ → Bool) (k end count whole : ℕ) → k < end → p k ≡ false → count + length (filter p (numbers_from k (end - k))) ≡ whole
    → count + length (filter p (numbers_from (k + 1) (end - (k + 1)))) ≡ whole
none_more p k end count whole below is before =
    let left : end - k ≡ suc (end - (k + 1)) = omega arith in
    let next : length (filter p (numbers_from k (end - k))) ≡ length (filter p (numbers_from (k + 1) (end - (k + 1)))) = rw left (rw is refl) in
    ap (λ n. count + n) (sym next) ∙ before

-- ---- who sent for a view or for more

or_middle : (a b c d : Bool) → ((a || b) || (c || d)) ≡ ((a || c) || (b || d))
or_middle true b c d = refl
or_middle false true true d = refl
or_middle false true false d = refl
or_middle false false c d = refl

any_or : (f g h : ℕ → Bool) → ((n : ℕ) → f n ≡ (g n || h n)) → (ns : List ℕ) → list_any f ns ≡ (list_any g ns || list_any h ns)
any_or f g h is [] = refl
any_or f g h is (n ∷ ns) = rw (is n, any_or f g h is ns) (or_middle (g n) (h n) (list_any g ns) (list_any h ns))

none_any : (ns : List ℕ) → false ≡ list_any (λ v. false) ns
none_any [] = refl
none_any (n ∷ ns) = none_any ns

and_none : (b : Bool) → false ≡ (b && false)
and_none true = refl
and_none false = refl

itself : (b : Bool) → (b || b && false) ≡ (b && true)
itself true = refl
itself false = refl

elsewhere : (w x : ℕ) → (x ≡ w → ⊥) → nat_le (w + 1) x ≡ nat_le w x
elsewhere w x other = elim (cases_Bool (nat_le w x)) [
  | inl fits ↦
      let at : w ≤ x = leb-true _ _ fits in
      le-leb (w + 1) x (omega (arith, other)) ∙ sym fits
  | inr over ↦
      let at : x < w = leb-false _ _ over in
      lt-leb (w + 1) x (omega arith) ∙ sym over
]

-- one view is among those from a first one on
in_range : (x : ℕ) (b : Bool) (w n : ℕ) → x < w + n → list_any (λ v. nat_eq x v && b) (numbers_from w n) ≡ (b && nat_le w x)
in_range x b w zero below =
    let over : nat_le w x ≡ false = lt-leb w x (omega arith) in
    rw over (and_none b)
in_range x b w (suc n) below =
    let rest : list_any (λ v. nat_eq x v && b) (numbers_from (w + 1) n) ≡ (b && nat_le (w + 1) x) = in_range x b (w + 1) n (omega arith) in
    elim (cases_Bool (nat_eq x w)) [
      | inl is ↦
          let same : x ≡ w = eqb-true _ _ is in
          let over : nat_le (w + 1) x ≡ false = lt-leb (w + 1) x (omega arith) in
          let fits : nat_le w x ≡ true = le-leb w x (omega arith) in
          rw is (rw rest (rw (over, fits) (itself b)))
      | inr other ↦ rw other (rest ∙ ap (λ t. b && t) (elsewhere w x (eqb-false _ _ other)))
    ]

-- an item of this view or of one above it is an item of one of the views from this one on
pub each_view : {T : Type 0} (view agree : T → ℕ) (xs : List T) (views w i : ℕ) → All (λ x. view x < views) xs
    → list_any (λ x. nat_eq (agree x) i && nat_le w (view x)) xs ≡ list_any (λ v. list_any (λ x. nat_eq (view x) v && nat_eq (agree x) i) xs) (numbers_from w (views - w))
each_view view agree [] views w i below = none_any (numbers_from w (views - w))
each_view {T} view agree (x ∷ xs) views w i below =
    let from = numbers_from w (views - w) in
    let head : view x < views = All-head (λ (y : T). view y < views) x xs below in
    let rest = each_view view agree xs views w i (All-tail (λ (y : T). view y < views) x xs below) in
    let here : list_any (λ v. nat_eq (view x) v && nat_eq (agree x) i) from ≡ (nat_eq (agree x) i && nat_le w (view x)) = in_range (view x) (nat_eq (agree x) i) w (views - w) (omega arith) in
    ap (λ r. nat_eq (agree x) i && nat_le w (view x) || r) rest
    ∙ ap (λ r. r || list_any (λ v. list_any (λ y. nat_eq (view y) v && nat_eq (agree y) i) xs) from) (sym here)
    ∙ sym (any_or (λ v. list_any (λ y. nat_eq (view y) v && nat_eq (agree y) i) (x ∷ xs)) (λ v. nat_eq (view x) v && nat_eq (agree x) i) (λ v. list_any (λ y. nat_eq (view y) v && nat_eq (agree y) i) xs)
    (λ v. refl) from)

any_some : (kept : List KeptChange) (v i : ℕ) → list_any (λ k. nat_eq k.view v && nat_eq k.agree i) kept ≡ is_some (frame_among (map added_of kept) v i)
any_some [] v i = refl
any_some (k ∷ kept) v i = elim (cases_Bool (nat_eq k.view v && nat_eq k.agree i)) [ inl is ↦ rw is refl | inr other ↦ rw other (any_some kept v i) ]

pub any_same : (f g : ℕ → Bool) → ((n : ℕ) → f n ≡ g n) → (ns : List ℕ) → list_any f ns ≡ list_any g ns
any_same f g same [] = refl
any_same f g same (n ∷ ns) = rw (same n, any_same f g same ns) refl

-- what is looked for in the list is what is looked up for each view
pub sent : (p : Params) (kept : List KeptChange) (w i : ℕ) → All (λ k. k.view < p.views) kept → list_any (λ k. nat_eq k.agree i && nat_le w k.view) kept ≡ sent_for (counted p kept) w i
sent p kept w i below =
    each_view (λ k. k.view) (λ k. k.agree) kept p.views w i below
    ∙ any_same (λ v. list_any (λ k. nat_eq k.view v && nat_eq k.agree i) kept) (λ v. is_some (frame_among (map added_of kept) v i)) (λ v. any_some kept v i) (numbers_from w (p.views - w))

-- ---- views from the greatest down

pub next_view : (p : ℕ → Bool) (views k : ℕ) → k < views → p (views - 1 - k) ≡ false → find p (views_down (views - (k + 1))) ≡ find p (views_down (views - k))
next_view p views k below is =
    let left : views - k ≡ suc (views - 1 - k) = omega arith in
    let same : views - (k + 1) ≡ views - 1 - k = omega arith in
    rw (left, same) (rw is refl)

pub this_view : (p : ℕ → Bool) (views k : ℕ) → k < views → p (views - 1 - k) ≡ true → Some (views - 1 - k) ≡ find p (views_down (views - k))
this_view p views k below is =
    let left : views - k ≡ suc (views - 1 - k) = omega arith in
    rw left (rw is refl)

pub no_view : (p : ℕ → Bool) (views k : ℕ) → k ≡ views → None ≡ find p (views_down (views - k))
no_view p views k end =
    let left : views - k ≡ 0 = omega arith in
    rw left refl
