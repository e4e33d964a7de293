-- After the passes that turn the view there is nothing left to adopt, to join or to make.
use Rattle.std.proofs.Common.{ℕ, zero, suc, ◌<◌, ◌≤◌, ◌≡◌, inl, inr, Bool, true, false, ◌&&◌, ◌||◌, not, nat_eq, nat_lt, List, length, arith, refl, sym, ◌∙◌, subst, Option, Some, None, filter_map}
use Rattle.std.proofs.lemmas.Bool.{cases_Bool, and_parts, and_from, and_left, or_cases, or_left, ltb-true, lt-ltb, eqb-true, false≢true, eqb-false}
use Rattle.std.proofs.lemmas.Option.{none-some, same_Some}
use Rattle.fw_frame.specs.View.{Change}
use Rattle.fw_rules.specs.Choices.{first_some}
use Rattle.fw_rules.specs.Agree.{Self, Node, Step, Act, Offer, Prepare, Pledge_to, Commit, Up, performs, enough, nodes, is_primary}
use Rattle.fw_means.specs.Means.{when}
use Rattle.fw_rules.specs.Views.{Turn, Adopt, Start, Make, turns, single, changes_view, views_down, adopts, adopts_at, adopts_one, joins, joins_at, others_for, makes, make_of, change_of}
use Rattle.fw_law_words.proofs.Tests.{when-some, when-false, when-less, when-nothing}
use Rattle.fw_law_words.proofs.Firsts.{first_some-in, first_some-skip}
use Rattle.fw_law_quiet.specs.Quiet.{IsTurned}
use Rattle.fw_law_quiet.proofs.Settling.{single_settled, single_stays}

-- ---- views from the greatest down

-- the view at which something is found first, and none above it
record Greatest {B : Type 0} (f : ℕ → Option B) (views : ℕ) (y : B) : Type 0 where
  view : ℕ
  found : f view ≡ Some y
  above : (w : ℕ) → view < w → w < views → f w ≡ None

first_down : {B : Type 0} (f : ℕ → Option B) (views : ℕ) (y : B) → first_some f (views_down views) ≡ Some y → Greatest f views y
first_down f zero y e = absurd (none-some y e)
first_down {B = B} f (suc k) y e = at_head (f k) refl e (first_down f k y)
  where
    later : f k ≡ None → Greatest f k y → Greatest f (suc k) y
    later d g = record {
      view = g.view;
      found = g.found;
      above = λ w low high. elim (cases_Bool (nat_eq w k)) [
        | inl s ↦ subst (λ (v : ℕ). f v ≡ None) (sym (eqb-true w k s)) d
        | inr s ↦ g.above w low (let differ = eqb-false w k s in omega arith)
      ];
    }

    at_head : (o : Option B) → f k ≡ o → ◌≡◌ {A = Option B} (elim o [ Some z ↦ Some z | None ↦ first_some f (views_down k) ]) (Some y) → (first_some f (views_down k) ≡ Some y → Greatest f k y) → Greatest f (suc k) y
    at_head (Some z) d h rest = record { view = k; found = d ∙ h; above = λ w low high. absurd (omega arith) }
    at_head None d h rest = later d (rest h)

pub none_down : {B : Type 0} (f : ℕ → Option B) (views : ℕ) → ((w : ℕ) → w < views → f w ≡ None) → first_some f (views_down views) ≡ None
none_down f zero none = refl
none_down f (suc k) none = first_some-skip f k (views_down k) (none k (omega arith)) (none_down f k (λ w low. none w (omega arith)))

down-none : {B : Type 0} (f : ℕ → Option B) (views : ℕ) → first_some f (views_down views) ≡ None → (w : ℕ) → w < views → f w ≡ None
down-none f zero e w low = absurd (omega arith)
down-none {B = B} f (suc k) e w low = at_head (f k) refl e (down-none f k)
  where
    at_head : (o : Option B) → f k ≡ o → ◌≡◌ {A = Option B} (elim o [ Some z ↦ Some z | None ↦ first_some f (views_down k) ]) None → (first_some f (views_down k) ≡ None → (v : ℕ) → v < k → f v ≡ None) → f w ≡ None
    at_head (Some z) d h rest = absurd (none-some z (sym h))
    at_head None d h rest = elim (cases_Bool (nat_eq w k)) [
      | inl s ↦ subst (λ (v : ℕ). f v ≡ None) (sym (eqb-true w k s)) d
      | inr s ↦ rest h w (let differ = eqb-false w k s in omega arith)
    ]

-- ---- adopting

-- when a view may be adopted
abbrev may : ℕ → Bool → ℕ → Bool
may view active w = nat_lt view w || (nat_eq w view && not active)

above_may : (view : ℕ) (active : Bool) (w : ℕ) → view < w → may view active w ≡ true
above_may view active w low = or_left (nat_lt view w) (nat_eq w view && not active) (lt-ltb view w low)

may_low : (view : ℕ) (active : Bool) (w : ℕ) → may view active w ≡ true → view ≤ w
may_low view active w e = elim (or_cases (nat_lt view w) (nat_eq w view && not active) e) [
  | inl h ↦ let low = ltb-true view w h in omega arith
  | inr h ↦ let same = eqb-true w view (and_parts (nat_eq w view) (not active) h).0 in omega arith
]

-- in its view, being active, it may adopt those above alone
active_may : (view w : ℕ) → may view true w ≡ true → view < w
active_may view w e = elim (or_cases (nat_lt view w) (nat_eq w view && false) e) [
  | inl h ↦ ltb-true view w h
  | inr h ↦ absurd (false≢true ((and_parts (nat_eq w view) false h).1))
]

adopts_less : {M : Type 0} (me : Self M) (x : Node) (view : ℕ) (active : Bool) → ((w : ℕ) → may view active w ≡ true → x.own.view < w) → adopts me x ≡ None → first_some (λ w. when (may view active w) (first_some (adopts_one w) x.heard.new_views)) (views_down me.means.params.views) ≡ None
adopts_less me x view active less none =
    none_down _ me.means.params.views (λ w low. when-less (may x.own.view x.own.active w) (may view active w) (first_some (adopts_one w) x.heard.new_views) (λ t. above_may x.own.view x.own.active w (less w t))
    (down-none (adopts_at x) me.means.params.views none w low))

adopts_is : {M : Type 0} (me : Self M) (x : Node) (turn : Turn) → adopts me x ≡ Some turn → (v : ℕ) × (changes : List Change) × (turn ≡ Adopt v changes) × (x.own.view ≤ v) × ((w : ℕ) → v < w → w < me.means.params.views → adopts_at x w ≡ None)
adopts_is me x turn e =
    let g = first_down (adopts_at x) me.means.params.views turn e in
    let w = when-some (may x.own.view x.own.active g.view) (first_some (adopts_one g.view) x.heard.new_views) turn g.found in
    let n = first_some-in (adopts_one g.view) x.heard.new_views turn w.1 in
    let k = when-some (nat_eq n.0.view g.view) (Some (Adopt g.view n.0.changes)) turn n.2 in
    (g.view, n.0.changes, sym (same_Some (Adopt g.view n.0.changes) turn k.1), may_low x.own.view x.own.active g.view w.0, g.above)

adopts_settle : {M : Type 0} (me : Self M) (x : Node) (turn : Turn) → adopts me x ≡ Some turn → adopts me (turns me x turn).0 ≡ None
adopts_settle me x turn e =
    let i = adopts_is me x turn e in
    let high = i.3 in
    subst (λ (t : Turn). adopts me (turns me x t).0 ≡ None) (sym i.2)
    (none_down (adopts_at (turns me x (Adopt i.0 i.1)).0) me.means.params.views (λ w low. elim (cases_Bool (may i.0 true w)) [
      | inl t ↦
          let above = active_may i.0 w t in
          when-nothing (may i.0 true w) (first_some (adopts_one w) x.heard.new_views)
          (when-true (may x.own.view x.own.active w) (first_some (adopts_one w) x.heard.new_views) (above_may x.own.view x.own.active w (omega arith)) (i.4 w above low))
      | inr t ↦ when-false (may i.0 true w) (first_some (adopts_one w) x.heard.new_views) t
    ]))
  where
    when-true : {A : Type 0} (b : Bool) (o : Option A) → b ≡ true → when b o ≡ None → o ≡ None
    when-true true o t h = h
    when-true false o t h = absurd (false≢true t)

-- ---- joining

joins_is : {M : Type 0} (me : Self M) (x : Node) (turn : Turn) → joins me x ≡ Some turn → (v : ℕ) × (turn ≡ Start v) × (x.own.view < v) × ((w : ℕ) → v < w → w < me.means.params.views → joins_at me x w ≡ None)
joins_is me x turn e =
    let g = first_down (joins_at me x) me.means.params.views turn e in
    let w = when-some (nat_lt x.own.view g.view && nat_lt me.means.params.f (length (others_for me x g.view))) (Some (Start g.view)) turn g.found in
    let p = and_parts (nat_lt x.own.view g.view) (nat_lt me.means.params.f (length (others_for me x g.view))) w.0 in
    (g.view, sym (same_Some (Start g.view) turn w.1), ltb-true x.own.view g.view p.0, g.above)

joins_settle : {M : Type 0} (me : Self M) (x : Node) (turn : Turn) → joins me x ≡ Some turn → joins me (turns me x turn).0 ≡ None
joins_settle me x turn e =
    let i = joins_is me x turn e in
    let above = i.2 in
    subst (λ (t : Turn). joins me (turns me x t).0 ≡ None) (sym i.1)
    (none_down (joins_at me (turns me x (Start i.0)).0) me.means.params.views (λ w low. elim (cases_Bool (nat_lt i.0 w)) [
      | inl t ↦
          let further = ltb-true i.0 w t in
          let higher = lt-ltb x.own.view w (omega arith) in
          let many = nat_lt me.means.params.f (length (others_for me x w)) in
          when-less (nat_lt x.own.view w && many) (nat_lt i.0 w && many) (Some (Start w)) (λ b. and_from (nat_lt x.own.view w) many higher (and_parts (nat_lt i.0 w) many b).1) (i.3 w further low)
      | inr t ↦ when-false _ (Some (Start w)) (and_left (nat_lt i.0 w) (nat_lt me.means.params.f (length (others_for me x w))) t)
    ]))

-- ---- making

make_of_is : (o : Option (List Change)) (turn : Turn) → make_of o ≡ Some turn → (changes : List Change) × (turn ≡ Make changes)
make_of_is None turn e = absurd (none-some turn e)
make_of_is (Some changes) turn e = (changes, sym (same_Some (Make changes) turn e))

makes_is : {M : Type 0} (me : Self M) (x : Node) (turn : Turn) → makes me x ≡ Some turn → (changes : List Change) × (turn ≡ Make changes)
makes_is me x turn e =
    let w = when-some (not x.own.active && is_primary me x) (make_of (enough me (filter_map (change_of me x x.own.view) (nodes me.means.params)))) turn e in
    make_of_is (enough me (filter_map (change_of me x x.own.view) (nodes me.means.params))) turn w.1

makes_settle : {M : Type 0} (me : Self M) (x : Node) (turn : Turn) → makes me x ≡ Some turn → makes me (turns me x turn).0 ≡ None
makes_settle me x turn e = let i = makes_is me x turn e in subst (λ (t : Turn). makes me (turns me x t).0 ≡ None) (sym i.1) refl

-- ---- later turns leave what was settled

start_adopts : {M : Type 0} (me : Self M) (x : Node) (turn : Turn) → joins me x ≡ Some turn → adopts me x ≡ None → adopts me (turns me x turn).0 ≡ None
start_adopts me x turn e none =
    let i = joins_is me x turn e in
    let above = i.2 in
    subst (λ (t : Turn). adopts me (turns me x t).0 ≡ None) (sym i.1)
    (adopts_less me x i.0 false (λ w t. let low = may_low i.0 false w t in omega arith) none)

make_adopts : {M : Type 0} (me : Self M) (x : Node) (turn : Turn) → makes me x ≡ Some turn → adopts me x ≡ None → adopts me (turns me x turn).0 ≡ None
make_adopts me x turn e none =
    let i = makes_is me x turn e in
    subst (λ (t : Turn). adopts me (turns me x t).0 ≡ None) (sym i.1) (adopts_less me x x.own.view true (λ w t. active_may x.own.view w t) none)

make_joins : {M : Type 0} (me : Self M) (x : Node) (turn : Turn) → makes me x ≡ Some turn → joins me x ≡ None → joins me (turns me x turn).0 ≡ None
make_joins me x turn e none =
    let i = makes_is me x turn e in
    subst (λ (t : Turn). joins me (turns me x t).0 ≡ None) (sym i.1) none

pub view_turned : {M : Type 0} (me : Self M) (s : Step M) → IsTurned me (changes_view me s).0
view_turned me s =
    let adopted = single me (adopts me) s in
    let joined = single me (joins me) adopted in
    record {
      adopts = single_stays me (λ x. adopts me x ≡ None) (makes me) (make_adopts me) joined
          (single_stays me (λ x. adopts me x ≡ None) (joins me) (start_adopts me) adopted (single_settled me (adopts me) (adopts_settle me) s));
      joins = single_stays me (λ x. joins me x ≡ None) (makes me) (make_joins me) joined (single_settled me (joins me) (joins_settle me) adopted);
      makes = single_settled me (makes me) (makes_settle me) joined;
    }

-- acts leave it so
pub act_turned : {M : Type 0} (me : Self M) (x : Node) (act : Act) → IsTurned me x → IsTurned me (performs me x act).0
act_turned me x (Offer n entry) t = record { adopts = t.adopts; joins = t.joins; makes = t.makes }
act_turned me x (Prepare n entry) t = record { adopts = t.adopts; joins = t.joins; makes = t.makes }
act_turned me x (Pledge_to n entry signers) t = record { adopts = t.adopts; joins = t.joins; makes = t.makes }
act_turned me x (Commit a) t = record { adopts = t.adopts; joins = t.joins; makes = t.makes }
act_turned me x (Up a) t = record { adopts = t.adopts; joins = t.joins; makes = t.makes }
