-- What turns an agreement node's view keeps what it keeps short, and sends what can be sent: its view change has a proof for each
-- number at most, and a new view that it makes has as many view changes as a quorum has.
use Rattle.std.proofs.Common.{◌≡◌, ℕ, zero, suc, ◌+◌, ◌≤◌, Bool, true, false, cond, nat_eq, List, [], ◌∷◌, length, filter_map, All, Option, Some, None, refl, ap, arith}
use Rattle.std.specs.Prelude.{IfSome}
use Rattle.std.specs.List.{cons_option}
use Rattle.std.proofs.lemmas.List.Elements.{All-nil, All-cons, All-filter}
use Rattle.fw_list.specs.Lists.{numbers_from}
use Rattle.fw_base.specs.declared.params.Params.{Params}
use Rattle.fw_base.specs.declared.slot.Slot.TheVariants as slots
use Rattle.fw_base.specs.Sizes.{quorum}
use Rattle.fw_frame.specs.View.{Proof, Change, Changes, Begins}
use Rattle.fw_node.proofs.Sendable.{both}
use Rattle.fw_rules.specs.Signing.{change_text, new_view_text}
use Rattle.fw_rules.specs.Choices.{first_some}
use Rattle.fw_rules.specs.Agree.{Node, Self, Step, nodes, numbers, enough, best, proofs_of}
use Rattle.fw_rules.specs.Views.{Turn, Adopt, Start, Make, best_proofs, bare_change, own_change, bare_new_view, own_new_view, adopt, moves_to, turns, turned, single, views_down, adopts_one, adopts_at, adopts, joins_at, joins, change_if, changes_by, change_of, make_of, makes, changes_view}
use Rattle.fw_lengths.proofs.Pieces.{IsShortProof, IsShortChange}
use Rattle.fw_lengths.proofs.Options.{all_any, when-if, first_some-if, found-all}
use Rattle.fw_lengths.proofs.Signed.{IsShortMeans}
use Rattle.fw_sendable.proofs.Fitting.{IsShortNewView, IsShortAdopted, Fitting, enough-if, best-if}
use Rattle.fw_sendable.proofs.Stepping.{FitStep, others-sendable}

-- ---- lists

-- one of two lists
pub either-all : {A : Type 0} (P : A → Type 0) (b : Bool) (xs ys : List A) → All P xs → All P ys → All P (cond b xs ys)
either-all P true xs ys one other = one
either-all P false xs ys one other = other

length_numbers : (first count : ℕ) → length (numbers_from first count) ≡ count
length_numbers first zero = refl
length_numbers first (suc count) = ap suc (length_numbers (first + 1) count)

cons-most : {A : Type 0} (o : Option A) (xs : List A) (most : ℕ) → length xs ≤ most → length (cons_option o xs) ≤ suc most
cons-most None xs most few = omega arith
cons-most (Some x) xs most few = omega arith

-- one is found of each at most
found-most : {A B : Type 0} (f : A → Option B) (xs : List A) → length (filter_map f xs) ≤ length xs
found-most f [] = omega arith
found-most f (x ∷ xs) = cons-most (f x) (filter_map f xs) (length xs) (found-most f xs)

-- ---- its own view change

-- a proof for each number at most
best_proofs-short : (me : Self (List ℕ)) (x : Node) → Fitting me.means.params x → (length (best_proofs me x) ≤ me.means.params.numbers) × All (IsShortProof me.means.params) (best_proofs me x)
best_proofs-short me x f =
    let p = me.means.params in
    let best_at : ℕ → Option Proof = λ n. best (proofs_of n x.own.proofs) in
    let few = found-most best_at (numbers me) in
    let count = length_numbers 1 p.numbers in (
      omega arith,
      found-all best_at (IsShortProof p) (λ n. best-if p (proofs_of n x.own.proofs) (All-filter (λ q. nat_eq q.number n) (IsShortProof p) x.own.proofs f.proofs)) (numbers me),
    )

own_change-short : (me : Self (List ℕ)) → IsShortMeans me.means → (x : Node) → Fitting me.means.params x → (view : ℕ) → IsShortChange me.means.params (own_change me x view)
own_change-short me k x f view =
    let proofs = best_proofs-short me x f in
    (proofs.0, proofs.1, k.signs (slots.Change view me.own) 0 (change_text me.means.hash (bare_change me x view)))

-- ---- turns

-- what a turn is about is short
abbrev pub FitTurn : Params → Turn → Type 0
FitTurn p (Adopt view changes) = All (IsShortChange p) changes
FitTurn p (Start view) = Unit {0}
FitTurn p (Make changes) = (length changes ≤ quorum p) × All (IsShortChange p) changes

adopt-fit : (p : Params) (x : Node) → Fitting p x → (view : ℕ) (changes : List Change) → All (IsShortChange p) changes → Fitting p (adopt x view changes)
adopt-fit p x f view changes short = record {
  requests = f.requests;
  proposals = f.proposals;
  changes = f.changes;
  new_views = f.new_views;
  held = f.held;
  casts = f.casts;
  pledges = f.pledges;
  proofs = f.proofs;
  moves = f.moves;
  adopted = All-cons (IsShortAdopted p) (record { view = view; changes = changes }) x.own.adopted short f.adopted;
  votes = f.votes;
  seen = f.seen;
  committed = f.committed;
}

moves_to-fit : (p : Params) (x : Node) → Fitting p x → (view : ℕ) (change : Change) → IsShortChange p change → Fitting p (moves_to x view change)
moves_to-fit p x f view change short = record {
  requests = f.requests;
  proposals = f.proposals;
  changes = f.changes;
  new_views = f.new_views;
  held = f.held;
  casts = f.casts;
  pledges = f.pledges;
  proofs = f.proofs;
  moves = All-cons (IsShortChange p) change x.own.moves short f.moves;
  adopted = f.adopted;
  votes = f.votes;
  seen = f.seen;
  committed = f.committed;
}

start-fit : (me : Self (List ℕ)) → IsShortMeans me.means → (x : Node) → Fitting me.means.params x → (view : ℕ) → FitStep me.means.params (turns me x (Start view))
start-fit me k x f view =
    let change = own_change me x view in
    let short = own_change-short me k x f view in
    (moves_to-fit me.means.params x f view change short, others-sendable me (Changes change) (k.writes (Changes change) short))

make-fit : (me : Self (List ℕ)) → IsShortMeans me.means → (x : Node) → Fitting me.means.params x → (changes : List Change) → FitTurn me.means.params (Make changes) → FitStep me.means.params (turns me x (Make changes))
make-fit me k x f changes fit =
    let made = own_new_view me x.own.view changes in
    let signed = k.signs (slots.NewView x.own.view me.own) 0 (new_view_text me.means.hash (bare_new_view x.own.view changes)) in
    (adopt-fit me.means.params x f x.own.view changes fit.1, others-sendable me (Begins made) (k.writes (Begins made) (fit.0, fit.1, signed)))

pub turns-fit : (me : Self (List ℕ)) → IsShortMeans me.means → (x : Node) → Fitting me.means.params x → (turn : Turn) → FitTurn me.means.params turn → FitStep me.means.params (turns me x turn)
turns-fit me k x f (Adopt view changes) fit = (adopt-fit me.means.params x f view changes fit, All-nil _)
turns-fit me k x f (Start view) fit = start-fit me k x f view
turns-fit me k x f (Make changes) fit = make-fit me k x f changes fit

-- ---- the turns that it chooses

-- a turn, if one is chosen, is about what is short
abbrev pub FitTurnChoice : Params → Option Turn → Type 0
FitTurnChoice p o = IfSome o (FitTurn p)

adopts_at-fit : (p : Params) (x : Node) → Fitting p x → (v : ℕ) → FitTurnChoice p (adopts_at x v)
adopts_at-fit p x f v =
    when-if (FitTurn p) _ (first_some (adopts_one v) x.heard.new_views)
    (first_some-if (adopts_one v) (IsShortNewView p) (FitTurn p) (λ n short. when-if (FitTurn p) _ (Some (Adopt v n.changes)) short.1) x.heard.new_views f.new_views)

adopts-fit : (me : Self (List ℕ)) (x : Node) → Fitting me.means.params x → FitTurnChoice me.means.params (adopts me x)
adopts-fit me x f =
    let views = views_down me.means.params.views in
    first_some-if (adopts_at x) (λ _. Unit {0}) (FitTurn me.means.params) (λ v _. adopts_at-fit me.means.params x f v) views (all_any views)

joins-fit : (me : Self (List ℕ)) (x : Node) → FitTurnChoice me.means.params (joins me x)
joins-fit me x =
    let views = views_down me.means.params.views in
    first_some-if (joins_at me x) (λ _. Unit {0}) (FitTurn me.means.params) (λ w _. when-if (FitTurn me.means.params) _ (Some (Start w)) tt) views (all_any views)

-- the first view change of a view by a node
pub change-if : (p : Params) (view i : ℕ) (changes : List Change) → All (IsShortChange p) changes → IfSome (first_some (change_if view i) changes) (IsShortChange p)
change-if p view i changes short =
    first_some-if (change_if view i) (IsShortChange p) (IsShortChange p) (λ c one. when-if (IsShortChange p) _ (Some c) one) changes short

change_of-if : (me : Self (List ℕ)) (x : Node) → Fitting me.means.params x → (view i : ℕ) → IfSome (change_of me x view i) (IsShortChange me.means.params)
change_of-if me x f view i =
    change-if me.means.params view i (changes_by me x i)
    (either-all (IsShortChange me.means.params) (nat_eq i me.own) x.own.moves x.heard.changes f.moves f.changes)

make_of-fit : (p : Params) (o : Option (List Change)) → IfSome o (λ changes. (length changes ≤ quorum p) × All (IsShortChange p) changes) → FitTurnChoice p (make_of o)
make_of-fit p None short = tt
make_of-fit p (Some changes) short = short

makes-fit : (me : Self (List ℕ)) (x : Node) → Fitting me.means.params x → FitTurnChoice me.means.params (makes me x)
makes-fit me x f =
    let p = me.means.params in
    let found = filter_map (change_of me x x.own.view) (nodes p) in
    when-if (FitTurn p) _ (make_of (enough me found))
    (make_of-fit p (enough me found) (enough-if me (IsShortChange p) found (found-all (change_of me x x.own.view) (IsShortChange p) (change_of-if me x f x.own.view) (nodes p))))

-- ---- the passes that turn the view

turned-fit : (me : Self (List ℕ)) → IsShortMeans me.means → (s : Step (List ℕ)) → FitStep me.means.params s → (o : Option Turn) → FitTurnChoice me.means.params o → FitStep me.means.params (turned me s o)
turned-fit me k s f None fit = f
turned-fit me k s f (Some turn) fit =
    let next = turns-fit me k s.0 f.0 turn fit in
    (next.0, both me.means.params s.1 (turns me s.0 turn).1 f.1 next.1)

single-fit : (me : Self (List ℕ)) → IsShortMeans me.means → (chooses : Node → Option Turn) → ((x : Node) → Fitting me.means.params x → FitTurnChoice me.means.params (chooses x)) → (s : Step (List ℕ)) → FitStep me.means.params s → FitStep me.means.params (single me chooses s)
single-fit me k chooses each s f = turned-fit me k s f (chooses s.0) (each s.0 f.0)

pub changes_view-fit : (me : Self (List ℕ)) → IsShortMeans me.means → (s : Step (List ℕ)) → FitStep me.means.params s → FitStep me.means.params (changes_view me s)
changes_view-fit me k s f =
    let adopted = single-fit me k (adopts me) (adopts-fit me) s f in
    let joined = single-fit me k (joins me) (λ x _. joins-fit me x) (single me (adopts me) s) adopted in
    single-fit me k (makes me) (makes-fit me) (single me (joins me) (single me (adopts me) s)) joined
