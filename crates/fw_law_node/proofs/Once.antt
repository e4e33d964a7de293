-- A node casts, pledges, moves and adopts once at most at each place.
use Rattle.std.proofs.Common.{ℕ, ◌<◌, ◌≤◌, ◌≡◌, inl, inr, Bool, true, false, nat_eq, List, [], ◌∷◌, arith, refl, sym, ◌∙◌, ap, subst, None, max, map, filter}
use Rattle.std.proofs.lemmas.Bool.{cases_Bool, ne_eqb, eq-eqb, and_left, and_right, and_from, false≢true}
use Rattle.fw_trace.specs.declared.Input.{Input}
use Rattle.fw_trace.specs.Lists.{In}
use Rattle.fw_frame.specs.View.{Change}
use Rattle.fw_rules.specs.Choices.{first_some}
use Rattle.fw_rules.specs.Agree.{Self, Own, Node, Cast, Pledge, Adopted, Act, Offer, Prepare, Pledge_to, Commit, Up, greatest, cast_if, pledge_if, performs, new_node}
use Rattle.fw_rules.specs.Views.{Turn, Adopt, Start, Make, turns}
use Rattle.fw_law_node.specs.Once.{Once, cast_place, pledge_place, change_place, adopted_place, DidOnce, own_after}
use Rattle.fw_law_words.proofs.Tests.{when-false, when-none}
use Rattle.fw_law_words.proofs.Firsts.{first_some-none, first_some-skip}
use Rattle.fw_law_words.proofs.Lists.{filter-here, filter-skip}
use Rattle.fw_law_node.proofs.Acts.{MayTurn, MayAct}
use Rattle.fw_law_node.proofs.Own.{kept_always}

-- two at one place are one
pub once_same : {A K : Type 0} (place : A → K) (xs : List A) (a b : A) → Once place xs → In a xs → In b xs → place a ≡ place b → a ≡ b
once_same place [] a b once i j e = absurd i
once_same place (x ∷ xs) a b once (inl s) (inl t) e = s ∙ sym t
once_same place (x ∷ xs) a b once (inl s) (inr j) e = absurd (once.0 b j (sym e ∙ ap place s))
once_same place (x ∷ xs) a b once (inr i) (inl t) e = absurd (once.0 a i (e ∙ ap place t))
once_same place (x ∷ xs) a b once (inr i) (inr j) e = once_same place xs a b once.1 i j e

abbrev pub is_in : ℕ → Cast → Bool
is_in view c = nat_eq c.view view

abbrev pub casts_of : ℕ → List Cast → List ℕ
casts_of view casts = map (λ (c : Cast). c.number) (filter (is_in view) casts)

-- there is no cast above the greatest
cast_above : (casts : List Cast) (view n : ℕ) → greatest (casts_of view casts) < n → first_some (cast_if view n) casts ≡ None
cast_above [] view n h = refl
cast_above (c ∷ casts) view n h = elim (cases_Bool (is_in view c)) [
  | inl e ↦
      let most : max c.number (greatest (casts_of view casts)) < n = subst (λ (cs : List Cast). greatest (map (λ (d : Cast). d.number) cs) < n) (filter-here (is_in view) c casts e) h in
      first_some-skip (cast_if view n) c casts (when-false _ _ (and_right _ _ (ne_eqb c.number n (λ k. omega arith)))) (cast_above casts view n (omega arith))
  | inr e ↦
      first_some-skip (cast_if view n) c casts (when-false _ _ (and_left _ _ e))
      (cast_above casts view n (subst (λ (cs : List Cast). greatest (map (λ (d : Cast). d.number) cs) < n) (filter-skip (is_in view) c casts e) h))
]

-- where none is found at a place, none is of it
fresh_cast : (casts : List Cast) (view n : ℕ) → first_some (cast_if view n) casts ≡ None → (c : Cast) → In c casts → cast_place c ≡ (view, n) → ⊥
fresh_cast casts view n none c i same =
    let off = when-none _ c.entry (first_some-none (cast_if view n) casts c none i) in
    let v : c.view ≡ view = ap (λ (p : ℕ × ℕ). p.0) same in
    let k : c.number ≡ n = ap (λ (p : ℕ × ℕ). p.1) same in
    false≢true (sym off ∙ and_from _ _ (eq-eqb c.view view v) (eq-eqb c.number n k))

fresh_pledge : (pledges : List Pledge) (view n : ℕ) → first_some (pledge_if view n) pledges ≡ None → (c : Pledge) → In c pledges → pledge_place c ≡ (view, n) → ⊥
fresh_pledge pledges view n none c i same =
    let off = when-none _ c.digest (first_some-none (pledge_if view n) pledges c none i) in
    let v : c.view ≡ view = ap (λ (p : ℕ × ℕ). p.0) same in
    let k : c.number ≡ n = ap (λ (p : ℕ × ℕ). p.1) same in
    false≢true (sym off ∙ and_from _ _ (eq-eqb c.view view v) (eq-eqb c.number n k))

-- what stays so: a view change is to a greater view, and so is a new view, or the node wasn't active in its view
record Stays (own : Own) : Type 0 where
  once : DidOnce own
  moved : (m : Change) → In m own.moves → m.view ≤ own.view
  began : (a : Adopted) → In a own.adopted → a.view ≤ own.view
  waits : own.active ≡ false → (a : Adopted) → In a own.adopted → a.view < own.view

adopt_stays : (own : Own) (view : ℕ) (changes : List Change) → own.view ≤ view → ((a : Adopted) → In a own.adopted → a.view < view) → Stays own → Stays (record own { view = view; active = true; adopted = record { view = view; changes = changes } ∷ own.adopted })
adopt_stays own view changes high below k = record {
  once = record {
    casts = k.once.casts;
    pledges = k.once.pledges;
    moves = k.once.moves;
    adopted = (λ a i same. let low = below a i in omega arith, k.once.adopted);
  };
  moved = λ m i. let low = k.moved m i in omega arith;
  began = λ a i. elim i [ inl s ↦ let same = ap adopted_place s in omega arith | inr j ↦ let low = k.began a j in omega arith ];
  waits = λ e. absurd (let differ : ⊥ = cc in differ);
}

stays_turn : {M : Type 0} (me : Self M) (x : Node) (turn : Turn) → MayTurn me x turn → Stays x.own → Stays (turns me x turn).0.own
stays_turn me x (Adopt view changes) m k = elim m.later [
  | inl h ↦ adopt_stays x.own view changes (omega arith) (λ a i. let low = k.began a i in omega arith) k
  | inr h ↦ adopt_stays x.own view changes (let same = h.0 in omega arith) (λ a i. let low = k.waits h.1 a i in let same = h.0 in omega arith) k
]
stays_turn me x (Start view) m k =
    let above = m.above in
    record {
      once = record {
        casts = k.once.casts;
        pledges = k.once.pledges;
        moves = (λ c i same. let low = k.moved c i in omega arith, k.once.moves);
        adopted = k.once.adopted;
      };
      moved = λ c i. elim i [ inl s ↦ let same = ap change_place s in omega arith | inr j ↦ let low = k.moved c j in omega arith ];
      began = λ a i. let low = k.began a i in omega arith;
      waits = λ e a i. let low = k.began a i in omega arith;
    }
stays_turn me x (Make changes) m k = adopt_stays x.own x.own.view changes (omega arith) (λ a i. k.waits m.idle a i) k

cast_stays : (own : Own) (c : Cast) → ((b : Cast) → In b own.casts → cast_place b ≡ cast_place c → ⊥) → Stays own → Stays (record own { casts = c ∷ own.casts })
cast_stays own c fresh k = record {
  once = record { casts = (fresh, k.once.casts); pledges = k.once.pledges; moves = k.once.moves; adopted = k.once.adopted };
  moved = k.moved;
  began = k.began;
  waits = k.waits;
}

stays_act : {M : Type 0} (me : Self M) (x : Node) (act : Act) → MayAct me x act → Stays x.own → Stays (performs me x act).0.own
stays_act me x (Offer n entry) m k =
    cast_stays x.own (record { view = x.own.view; number = n; entry = entry })
    (fresh_cast x.own.casts x.own.view n (elim m.source [ inl h ↦ h.1 | inr h ↦ cast_above x.own.casts x.own.view n (let next = h.3 in omega arith) ])) k
stays_act me x (Prepare n entry) m k =
    cast_stays x.own (record { view = x.own.view; number = n; entry = entry }) (fresh_cast x.own.casts x.own.view n m.fresh) k
stays_act me x (Pledge_to n entry signers) m k = record {
  once = record { casts = k.once.casts; pledges = (fresh_pledge x.own.pledges x.own.view n m.fresh, k.once.pledges); moves = k.once.moves; adopted = k.once.adopted };
  moved = k.moved;
  began = k.began;
  waits = k.waits;
}
stays_act me x (Commit a) m k = k
stays_act me x (Up a) m k = k

start_stays : Stays (new_node).own
start_stays = record {
  once = record { casts = tt; pledges = tt; moves = tt; adopted = tt };
  moved = λ m i. absurd i;
  began = λ a i. absurd i;
  waits = λ e a i. absurd i;
}

stays_always : {M O : Type 0} (me : Self M) (h : List (Input M O)) → Stays (own_after me h)
stays_always me h = kept_always me Stays (record { turn = stays_turn me; act = stays_act me }) start_stays h

pub did_once : {M O : Type 0} (me : Self M) (h : List (Input M O)) → DidOnce (own_after me h)
did_once me h = (stays_always me h).once
