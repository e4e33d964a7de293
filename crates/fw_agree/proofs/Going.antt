-- One choice after another, and what was sent before them.
use Rattle.std.proofs.Common.{◌≡◌, ℕ, zero, suc, ◌+◌, ◌-◌, ◌<◌, ◌≤◌, List, [], ◌∷◌, ◌++◌, length, map, drop, Option, Some, None, refl, sym, ap, ◌∙◌, arith, append_assoc}
use Rattle.std.specs.Prelude.{slice_get}
use Rattle.std.proofs.lemmas.List.{length-map}
use Rattle.std.proofs.Math.ListN.{drop_of_length-le}
use Rattle.fw_list.specs.Lists.{numbers_from}
use Rattle.fw_node.specs.Histories.{Out}
use Rattle.fw_frame.specs.View.{Request}
use Rattle.fw_rules.specs.Agree as agree
use Rattle.fw_rules.specs.Agree.{Node, Self, Step, acted, for_each}
use Rattle.fw_rules.specs.Views as views
use Rattle.fw_agree.specs.Steps.{behind}

abbrev pub Chooses : Type 0 → Type 0
Chooses A = Node → A → Option agree.Act

-- ---- the next one

-- the next number
pub each_next : (me : Self (List ℕ)) (f : Chooses ℕ) (k end : ℕ) (s : Step (List ℕ)) → k < end → for_each me f (numbers_from (k + 1) (end - k)) s ≡ for_each me f (numbers_from (k + 1 + 1) (end - (k + 1))) (acted me s (f s.0 (k + 1)))
each_next me f k end s below =
    let left : end - k ≡ suc (end - (k + 1)) = omega arith in
    ap (λ n. for_each me f (numbers_from (k + 1) n) s) left

-- the next of a list
place_of : {A B : Type 0} (view : A → B) (xs : List A) (k : ℕ) (x : A) → slice_get xs k ≡ Some x → drop k (map view xs) ≡ view x ∷ drop (suc k) (map view xs)
place_of view [] k x found = absurd (let no : ⊥ = cc in no)
place_of view (y ∷ ys) zero x found = let same : y ≡ x = cc in ap (λ z. view z ∷ map view ys) same
place_of view (y ∷ ys) (suc k) x found = place_of view ys k x found

pub place_next : {A B : Type 0} (view : A → B) (xs : List A) (k : ℕ) (x : A) → slice_get xs k ≡ Some x → drop k (map view xs) ≡ view x ∷ drop (k + 1) (map view xs)
place_next view xs k x found =
    let more : suc k ≡ k + 1 = omega arith in
    place_of view xs k x found ∙ ap (λ n. view x ∷ drop n (map view xs)) more

pub place_inside : {A : Type 0} (xs : List A) (k : ℕ) → slice_get xs k ≡ None → k < length xs → ⊥
place_inside [] k none below = omega arith
place_inside (y ∷ ys) zero none below = cc
place_inside (y ∷ ys) (suc k) none below = place_inside ys k none (omega arith)

pub offered_next : (me : Self (List ℕ)) (requests : List Request) (k : ℕ) (r : Request) (s : Step (List ℕ)) (x : Node) (act : Option agree.Act) → drop k requests ≡ r ∷ drop (k + 1) requests → s.0 ≡ x → act ≡ agree.offers_request me x r
    → for_each me (agree.offers_request me) (drop k requests) s ≡ for_each me (agree.offers_request me) (drop (k + 1) requests) (acted me s act)
offered_next me requests k r s x act found same chosen =
    ap (λ xs. for_each me (agree.offers_request me) xs s) found
    ∙ ap (λ a. for_each me (agree.offers_request me) (drop (k + 1) requests) (acted me s a)) (ap (λ y. agree.offers_request me y r) same ∙ sym chosen)

-- no request is left
pub offered_last : {A : Type 0} (me : Self (List ℕ)) (view : A → Request) (xs : List A) (k : ℕ) (s all : Step (List ℕ)) → length xs ≤ k → for_each me (agree.offers_request me) (drop k (map view xs)) s ≡ all → s ≡ all
offered_last me view xs k s all over leads =
    let long = length-map xs view in
    let past : length (map view xs) ≤ k = omega (arith, long, over) in
    let none : drop k (map view xs) ≡ [] = drop_of_length-le (map view xs) past in
    ap (λ l. for_each me (agree.offers_request me) l s) (sym none) ∙ leads

-- ---- what was sent before

pub acted_behind : (me : Self (List ℕ)) (act : Option agree.Act) (out : Out) (s : Step (List ℕ)) → acted me (behind out s) act ≡ behind out (acted me s act)
acted_behind me None out s = refl
acted_behind me (Some act) out s = ap (λ (sent : Out). ((agree.performs me s.0 act).0, sent)) (append_assoc out s.1 (agree.performs me s.0 act).1)

pub each_behind : {A : Type 0} (me : Self (List ℕ)) (f : Chooses A) (xs : List A) (out : Out) (s : Step (List ℕ)) → for_each me f xs (behind out s) ≡ behind out (for_each me f xs s)
each_behind me f [] out s = refl
each_behind me f (x ∷ xs) out s = ap (for_each me f xs) (acted_behind me (f s.0 x) out s) ∙ each_behind me f xs out (acted me s (f s.0 x))

offers_behind : (me : Self (List ℕ)) (out : Out) (s : Step (List ℕ)) → agree.makes_offers me (behind out s) ≡ behind out (agree.makes_offers me s)
offers_behind me out s =
    ap (for_each me (agree.offers_request me) s.0.heard.requests) (each_behind me (agree.offers_choice me) (agree.numbers me) out s)
    ∙ each_behind me (agree.offers_request me) s.0.heard.requests out (for_each me (agree.offers_choice me) (agree.numbers me) s)

two_behind : (me : Self (List ℕ)) (f g : Chooses ℕ) (out : Out) (s : Step (List ℕ)) → for_each me g (agree.numbers me) (for_each me f (agree.numbers me) (behind out s)) ≡ behind out (for_each me g (agree.numbers me) (for_each me f (agree.numbers me) s))
two_behind me f g out s =
    ap (for_each me g (agree.numbers me)) (each_behind me f (agree.numbers me) out s)
    ∙ each_behind me g (agree.numbers me) out (for_each me f (agree.numbers me) s)

pub passes_behind : (me : Self (List ℕ)) (out : Out) (s : Step (List ℕ)) → agree.passes me (behind out s) ≡ behind out (agree.passes me s)
passes_behind me out s =
    ap (λ t. agree.commits_and_sends me (agree.casts_votes me t)) (offers_behind me out s)
    ∙ ap (agree.commits_and_sends me) (two_behind me (agree.prepares me) (agree.pledges me) out (agree.makes_offers me s))
    ∙ two_behind me (agree.commits me) (agree.goes_up me) out (agree.casts_votes me (agree.makes_offers me s))

-- ---- what turns the view

turned_behind : (me : Self (List ℕ)) (turn : Option views.Turn) (out : Out) (s : Step (List ℕ)) → views.turned me (behind out s) turn ≡ behind out (views.turned me s turn)
turned_behind me None out s = refl
turned_behind me (Some turn) out s = ap (λ (sent : Out). ((views.turns me s.0 turn).0, sent)) (append_assoc out s.1 (views.turns me s.0 turn).1)

single_behind : (me : Self (List ℕ)) (f : Node → Option views.Turn) (out : Out) (s : Step (List ℕ)) → views.single me f (behind out s) ≡ behind out (views.single me f s)
single_behind me f out s = turned_behind me (f s.0) out s

changes_behind : (me : Self (List ℕ)) (out : Out) (s : Step (List ℕ)) → views.changes_view me (behind out s) ≡ behind out (views.changes_view me s)
changes_behind me out s =
    let adopts : Node → Option views.Turn = views.adopts me in
    let joins : Node → Option views.Turn = views.joins me in
    let makes : Node → Option views.Turn = views.makes me in
    ap (λ (t : Step (List ℕ)). views.single me makes (views.single me joins t)) (single_behind me adopts out s)
    ∙ ap (λ (t : Step (List ℕ)). views.single me makes t) (single_behind me joins out (views.single me adopts s))
    ∙ single_behind me makes out (views.single me joins (views.single me adopts s))

pub views_behind : (me : Self (List ℕ)) (out : Out) (s : Step (List ℕ)) → views.passes me (behind out s) ≡ behind out (views.passes me s)
views_behind me out s = ap (λ (t : Step (List ℕ)). agree.passes me t) (changes_behind me out s) ∙ passes_behind me out (views.changes_view me s)

pub turned_chain : (me : Self (List ℕ)) (s s0 s1 s2 : Step (List ℕ)) → s0 ≡ views.single me (views.adopts me) s → s1 ≡ views.single me (views.joins me) s0 → s2 ≡ views.single me (views.makes me) s1 → s2 ≡ views.changes_view me s
turned_chain me s s0 s1 s2 e0 e1 e2 =
    e2 ∙ ap (λ (t : Step (List ℕ)). views.single me (views.makes me) t) e1
    ∙ ap (λ (t : Step (List ℕ)). views.single me (views.makes me) (views.single me (views.joins me) t)) e0

pub all_chain : (me : Self (List ℕ)) (s t u : Step (List ℕ)) → t ≡ views.changes_view me s → u ≡ agree.passes me t → u ≡ views.passes me s
all_chain me s t u turned ordered = ordered ∙ ap (λ (x : Step (List ℕ)). agree.passes me x) turned

-- a turn, done
pub turned_so : (me : Self (List ℕ)) (x y : Node) (turn : views.Turn) (out new : Out) → y ≡ (views.turns me x turn).0 → new ≡ out ++ (views.turns me x turn).1 → (y, new) ≡ views.turned me (x, out) (Some turn)
turned_so me x y turn out new kept sent = ap (λ (z : Node). (z, new)) kept ∙ ap (λ (o : Out). ((views.turns me x turn).0, o)) sent

-- a tick, and the passes after it
pub ticked_then : (me : Self (List ℕ)) (x y : Node) (out new : Out) (t : Step (List ℕ)) → y ≡ (views.ticks me x).0 → new ≡ out ++ (views.ticks me x).1 → t ≡ views.passes me (y, new) → t ≡ behind out (views.passes me (views.ticks me x))
ticked_then me x y out new t kept sent all =
    let pair : (y, new) ≡ behind out (views.ticks me x) = ap (λ (z : Node). (z, new)) kept ∙ ap (λ (o : Out). ((views.ticks me x).0, o)) sent in
    all ∙ ap (λ (s : Step (List ℕ)). views.passes me s) pair ∙ views_behind me out (views.ticks me x)

-- ---- all passes, one after another

pub passes_chain : (me : Self (List ℕ)) (s s0 s1 s2 s3 s4 s5 : Step (List ℕ)) → s0 ≡ for_each me (agree.offers_choice me) (agree.numbers me) s → s1 ≡ for_each me (agree.offers_request me) s.0.heard.requests s0
    → s2 ≡ for_each me (agree.prepares me) (agree.numbers me) s1 → s3 ≡ for_each me (agree.pledges me) (agree.numbers me) s2 → s4 ≡ for_each me (agree.commits me) (agree.numbers me) s3 → s5 ≡ for_each me (agree.goes_up me) (agree.numbers me) s4
    → s5 ≡ agree.passes me s
passes_chain me s s0 s1 s2 s3 s4 s5 e0 e1 e2 e3 e4 e5 =
    e5 ∙ ap (for_each me (agree.goes_up me) (agree.numbers me)) e4
    ∙ ap (agree.commits_and_sends me) (e3 ∙ ap (for_each me (agree.pledges me) (agree.numbers me)) e2)
    ∙ ap (λ t. agree.commits_and_sends me (agree.casts_votes me t)) (e1 ∙ ap (for_each me (agree.offers_request me) s.0.heard.requests) e0)

-- what is offered leaves the requests
pub acted_requests : (me : Self (List ℕ)) (s : Step (List ℕ)) (act : Option agree.Act) → (acted me s act).0.heard.requests ≡ s.0.heard.requests
acted_requests me s None = refl
acted_requests me s (Some (agree.Offer n entry)) = refl
acted_requests me s (Some (agree.Prepare n entry)) = refl
acted_requests me s (Some (agree.Pledge_to n entry signers)) = refl
acted_requests me s (Some (agree.Commit agreed)) = refl
acted_requests me s (Some (agree.Up agreed)) = refl

pub each_requests : {A : Type 0} (me : Self (List ℕ)) (f : Chooses A) (xs : List A) (s : Step (List ℕ)) → (for_each me f xs s).0.heard.requests ≡ s.0.heard.requests
each_requests me f [] s = refl
each_requests me f (x ∷ xs) s = each_requests me f xs (acted me s (f s.0 x)) ∙ acted_requests me s (f s.0 x)
