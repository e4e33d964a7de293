-- The rule's turns, from what each look-up found.
use Rattle.std.proofs.Common.{◌≡◌, ℕ, zero, suc, ◌-◌, ◌+◌, ◌<◌, List, Bool, true, false, ◌&&◌, ◌||◌, not, Option, Some, None, refl, sym, ap, ◌∙◌, nat_eq, nat_lt, map, length, reverse, arith}
use Rattle.std.specs.Prelude.{is_some}
use Rattle.std.specs.List.{find}
use Rattle.std.specs.Option.{option_map}
use Rattle.std.proofs.lemmas.Bool.{eq-eqb, ne_eqb}
use Rattle.fw_means.specs.Means.{when}
use Rattle.fw_rules.specs.Agree.{Self, Node}
use Rattle.fw_rules.specs.Choices.{first_some}
use Rattle.fw_rules.specs.Views as views
use Rattle.fw_heard.specs.Changed.{first_of}
use Rattle.fw_owned.specs.declared.owned.OwnedChange.{OwnedChange}
use Rattle.fw_owned.specs.declared.owned.OwnedNewView.{OwnedNewView}
use Rattle.fw_owned.specs.Pieces.{change_of, new_view_of}
use Rattle.fw_owned.proofs.Found.{passed, taken, found, newest_found}
use Rattle.fw_kept.specs.declared.keeps.Keeps.{Keeps}
use Rattle.fw_kept.specs.Kept.{node_of}

-- ---- views from the greatest down

pub next_view : {B : Type 0} (f : ℕ → Option B) (count k : ℕ) → k < count → is_some (f (count - 1 - k)) ≡ false → first_some f (views.views_down (count - (k + 1))) ≡ first_some f (views.views_down (count - k))
next_view f count k below none =
    let left : count - k ≡ suc (count - 1 - k) = omega arith in
    let same : count - (k + 1) ≡ count - 1 - k = omega arith in
    rw (left, same) (passed (f (count - 1 - k)) (first_some f (views.views_down (count - 1 - k))) none)

pub this_view : {B : Type 0} (f : ℕ → Option B) (count k : ℕ) → k < count → is_some (f (count - 1 - k)) ≡ true → f (count - 1 - k) ≡ first_some f (views.views_down (count - k))
this_view f count k below some =
    let left : count - k ≡ suc (count - 1 - k) = omega arith in
    rw left (taken (f (count - 1 - k)) (first_some f (views.views_down (count - 1 - k))) some)

-- ---- a new view that is adopted

pub adopted_first : (k : Keeps) (v : ℕ) (o : Option OwnedNewView) → (nat_lt k.view v || (nat_eq v k.view && not k.active)) ≡ true → o ≡ find (λ n. nat_eq n.view v) k.new_views
    → option_map (λ n. views.Adopt v (map change_of n.changes)) o ≡ views.adopts_at (node_of k) v
adopted_first k v o may is =
    rw may
    (ap (option_map (λ (n : OwnedNewView). views.Adopt v (map change_of n.changes))) is
    ∙ found new_view_of (views.adopts_one v) (λ n. nat_eq n.view v) (λ n. views.Adopt v (map change_of n.changes)) (λ n. refl) k.new_views)

-- ---- a view that is joined

start_below : (b : Bool) (w n : ℕ) (rest : Option views.Turn) → (Some (views.Start w) ≡ rest → w < n) → Some (views.Start w) ≡ elim (when b (Some (views.Start n))) [ Some y ↦ Some y | None ↦ rest ] → w < suc n
start_below true w n rest more e =
    let same : w ≡ n = cc in
    omega arith
start_below false w n rest more e =
    let below : w < n = more e in
    omega arith

-- what is joined is one of the views
pub joined_below : {M : Type 0} (me : Self M) (x : Node) (w count : ℕ) → Some (views.Start w) ≡ first_some (views.joins_at me x) (views.views_down count) → w < count
joined_below me x w zero e = absurd (let no : ⊥ = cc in no)
joined_below me x w (suc n) e =
    start_below (nat_lt x.own.view n && nat_lt me.means.params.f (length (views.others_for me x n))) w n (first_some (views.joins_at me x) (views.views_down n)) (joined_below me x w n) e

-- ---- a node's first change to the view

pub own_change : {M : Type 0} (me : Self M) (k : Keeps) (i own : ℕ) (o : Option OwnedChange) (items : List OwnedChange) → me.own ≡ own → i ≡ own → items ≡ reverse k.moves → o ≡ find (λ c. nat_eq c.view k.view && nat_eq c.agree i) (reverse items)
    → option_map change_of o ≡ views.change_of me (node_of k) k.view i
own_change me k i own o items e here oldest is =
    let one : nat_eq i me.own ≡ true = eq-eqb i me.own (here ∙ sym e) in
    rw one (newest_found change_of (views.change_if k.view i) (λ c. nat_eq c.view k.view && nat_eq c.agree i) change_of o items k.moves (λ c. refl) oldest is)

pub other_change : {M : Type 0} (me : Self M) (k : Keeps) (i own : ℕ) (o : Option OwnedChange) → me.own ≡ own → (i ≡ own → ⊥) → o ≡ first_of k.changes.changes k.view i
    → option_map change_of o ≡ views.change_of me (node_of k) k.view i
other_change me k i own o e other is =
    let far : nat_eq i me.own ≡ false = ne_eqb i me.own (λ here. other (here ∙ e)) in
    rw far (ap (option_map change_of) is ∙ found change_of (views.change_if k.view i) (λ c. nat_eq c.view k.view && nat_eq c.agree i) change_of (λ c. refl) k.changes.changes)
