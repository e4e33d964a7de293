-- After the pass of proposals there is nothing left to propose.
use Rattle.std.proofs.Common.{ℕ, ◌≤◌, ◌≡◌, inl, inr, Bool, true, false, ◌&&◌, not, nat_eq, nat_le, List, [], ◌∷◌, arith, refl, sym, ◌∙◌, ap, subst, Some, None, is_some, max, map}
use Rattle.std.specs.List.{list_any}
use Rattle.std.proofs.lemmas.Bool.{cases_Bool, and_parts, and_from, and_left, and_right, or_left, or_right, not_from_true, eq-eqb, leb-true, le-leb, false≢true}
use Rattle.std.proofs.lemmas.Option.{same_Some}
use Rattle.fw_list.specs.Lists.{numbers_from}
use Rattle.fw_trace.specs.Lists.{In}
use Rattle.fw_means.specs.Means.{when}
use Rattle.fw_frame.specs.View.{Request, Entry}
use Rattle.fw_rules.specs.Agree.{Self, Node, Step, Cast, Act, Offer, Prepare, Pledge_to, Commit, Up, performs, for_each, makes_offers, numbers, offers_choice, offers_request, is_primary, is_waiting, has_request, top, choice, chosen, cast_at, cast_if, greatest, next_number, reply_to}
use Rattle.fw_law_words.proofs.Tests.{when-some, when-false, is_some-none, when-less, when-never, none-not_some, some-not_none}
use Rattle.fw_law_words.proofs.Firsts.{first_some-tail, first_some-here}
use Rattle.fw_law_words.proofs.Lists.{filter-here, filter-skip}
use Rattle.fw_law_node.proofs.Once.{is_in, casts_of}
use Rattle.fw_law_quiet.specs.Quiet.{HasOffered}
use Rattle.fw_law_quiet.proofs.Settling.{all_later, settled, for_each_stays}

-- ---- one prepare vote more

-- a node with one more
abbrev pub with_cast : Node → ℕ → Entry → Node
with_cast x n entry = record x { own = record x.own { casts = record { view = x.own.view; number = n; entry = entry } ∷ x.own.casts } }

-- where none stands there now, none stood before
pub cast_before : (x : Node) (a b : ℕ) (entry : Entry) → not (is_some (cast_at (with_cast x b entry) x.own.view a)) ≡ true → not (is_some (cast_at x x.own.view a)) ≡ true
cast_before x a b entry t =
    none-not_some (cast_at x x.own.view a)
    (first_some-tail (cast_if x.own.view a) (record { view = x.own.view; number = b; entry = entry }) x.own.casts (is_some-none (cast_at (with_cast x b entry) x.own.view a) t))

pub cast_here : (x : Node) (n : ℕ) (entry : Entry) → cast_at (with_cast x n entry) x.own.view n ≡ Some entry
cast_here x n entry =
    first_some-here (cast_if x.own.view n) (record { view = x.own.view; number = n; entry = entry }) x.own.casts entry
    (ap (λ (b : Bool). when b (Some entry)) (and_from (nat_eq x.own.view x.own.view) (nat_eq n n) (eq-eqb x.own.view x.own.view refl) (eq-eqb n n refl)))

-- ---- the choice

choice_less : {M : Type 0} (me : Self M) (x : Node) (a b : ℕ) (entry : Entry) → offers_choice me x a ≡ None → offers_choice me (with_cast x b entry) a ≡ None
choice_less me x a b entry h =
    when-less (x.own.active && is_primary me x && nat_le a (top (chosen x)) && not (is_some (cast_at x x.own.view a)))
    (x.own.active && is_primary me x && nat_le a (top (chosen x)) && not (is_some (cast_at (with_cast x b entry) x.own.view a))) (Some (Offer a (choice (chosen x) a)))
    (λ t.
    let p = and_parts (x.own.active && is_primary me x && nat_le a (top (chosen x))) (not (is_some (cast_at (with_cast x b entry) x.own.view a))) t in
    and_from (x.own.active && is_primary me x && nat_le a (top (chosen x))) (not (is_some (cast_at x x.own.view a))) p.0 (cast_before x a b entry p.1)) h

-- each act leaves nothing to propose of the choice where there was nothing
pub act_choice : {M : Type 0} (me : Self M) (n : ℕ) (x : Node) (act : Act) → Unit {0} → offers_choice me x n ≡ None → offers_choice me (performs me x act).0 n ≡ None
act_choice me n x (Offer b entry) k h = choice_less me x n b entry h
act_choice me n x (Prepare b entry) k h = choice_less me x n b entry h
act_choice me n x (Pledge_to b entry signers) k h = h
act_choice me n x (Commit a) k h = h
act_choice me n x (Up a) k h = h

choice_is : {M : Type 0} (me : Self M) (x : Node) (n : ℕ) (act : Act) → offers_choice me x n ≡ Some act → act ≡ Offer n (choice (chosen x) n)
choice_is me x n act e =
    sym (same_Some (Offer n (choice (chosen x) n)) act (when-some (x.own.active && is_primary me x && nat_le n (top (chosen x)) && not (is_some (cast_at x x.own.view n))) (Some (Offer n (choice (chosen x) n))) act e).1)

choice_settles : {M : Type 0} (me : Self M) (x : Node) (n : ℕ) (act : Act) → offers_choice me x n ≡ Some act → offers_choice me (performs me x act).0 n ≡ None
choice_settles me x n act e =
    let entry : Entry = choice (chosen x) n in
    subst (λ (z : Act). offers_choice me (performs me x z).0 n ≡ None) (sym (choice_is me x n act e))
    (when-false (x.own.active && is_primary me x && nat_le n (top (chosen x)) && not (is_some (cast_at (with_cast x n entry) x.own.view n))) (Some (Offer n entry))
    (and_right (x.own.active && is_primary me x && nat_le n (top (chosen x))) (not (is_some (cast_at (with_cast x n entry) x.own.view n))) (some-not_none (cast_at (with_cast x n entry) x.own.view n) entry (cast_here x n entry))))

-- ---- requests

-- whether a prepare vote of a view is for a client's stamp
abbrev is_cast : ℕ → Request → Cast → Bool
is_cast view r c = nat_eq c.view view && has_request r.client r.stamp c.entry

greatest_more : (view : ℕ) (c : Cast) (casts : List Cast) → greatest (casts_of view casts) ≤ greatest (casts_of view (c ∷ casts))
greatest_more view c casts = elim (cases_Bool (is_in view c)) [
  | inl e ↦
      let most : greatest (casts_of view casts) ≤ max c.number (greatest (casts_of view casts)) = omega arith in
      subst (λ (cs : List Cast). greatest (casts_of view casts) ≤ greatest (map (λ (d : Cast). d.number) cs)) (sym (filter-here (is_in view) c casts e)) most
  | inr e ↦
      subst (λ (cs : List Cast). greatest (casts_of view casts) ≤ greatest (map (λ (d : Cast). d.number) cs)) (sym (filter-skip (is_in view) c casts e)) (omega arith)
]

-- the four parts of a request that waits
abbrev waits : Bool → Bool → Bool → Bool → Bool
waits cast taken committed answered = not cast && not taken && not committed && not answered

waits_less : (cast more taken committed many answered : Bool) → (cast ≡ true → more ≡ true) → (committed ≡ true → many ≡ true) → waits more taken many answered ≡ true → waits cast taken committed answered ≡ true
waits_less cast more taken committed many answered one two t =
    let p = and_parts (not more && not taken && not many) (not answered) t in
    let q = and_parts (not more && not taken) (not many) p.0 in
    let r = and_parts (not more) (not taken) q.0 in
    and_from (not cast && not taken && not committed) (not answered)
    (and_from (not cast && not taken) (not committed) (and_from (not cast) (not taken) (before cast more one r.0) r.1) (before committed many two q.1)) p.1
  where
    before : (a b : Bool) → (a ≡ true → b ≡ true) → not b ≡ true → not a ≡ true
    before false b f n = refl
    before true b f n = absurd (false≢true (sym (not_from_true b (f refl)) ∙ n))

-- what is asked of the rest of a node
abbrev is_taken : Node → Request → Bool
is_taken x r = list_any (λ n. has_request r.client r.stamp (choice (chosen x) n)) (numbers_from 1 (top (chosen x)))

abbrev is_committed : Node → Request → Bool
is_committed x r = list_any (λ a. has_request r.client r.stamp a.entry) x.committed

abbrev is_answered : {M : Type 0} → Self M → Node → Request → Bool
is_answered me x r = is_some (reply_to me x r.client r.stamp)

request_less : {M : Type 0} (me : Self M) (r : Request) (x : Node) (b : ℕ) (entry : Entry) → offers_request me x r ≡ None → offers_request me (with_cast x b entry) r ≡ None
request_less me r x b entry h =
    let y = with_cast x b entry in
    let c : Cast = record { view = x.own.view; number = b; entry = entry } in
    let lead = x.own.active && is_primary me x in
    let most = me.means.params.numbers in
    when-never (lead && is_waiting me x r && nat_le (next_number x) most) (lead && is_waiting me y r && nat_le (next_number y) most) (Offer (next_number x) (r ∷ [])) (Offer (next_number y) (r ∷ []))
    (λ t.
    let p = and_parts (lead && is_waiting me y r) (nat_le (next_number y) most) t in
    let q = and_parts lead (is_waiting me y r) p.0 in
    let more = greatest_more x.own.view c x.own.casts in
    let room = leb-true (next_number y) most p.1 in
    let waiting = waits_less (list_any (is_cast x.own.view r) x.own.casts) (list_any (is_cast x.own.view r) (c ∷ x.own.casts)) (is_taken x r) (is_committed x r) (is_committed x r) (is_answered me x r) (λ one. or_right (is_cast x.own.view r c) (list_any (is_cast x.own.view r) x.own.casts) one) (λ one. one) q.1 in
    and_from (lead && is_waiting me x r) (nat_le (next_number x) most) (and_from lead (is_waiting me x r) q.0 waiting) (le-leb (next_number x) most (omega arith))) h

-- each act leaves nothing to propose for a request where there was nothing
pub act_request : {M : Type 0} (me : Self M) (r : Request) (x : Node) (act : Act) → Unit {0} → offers_request me x r ≡ None → offers_request me (performs me x act).0 r ≡ None
act_request me r x (Offer b entry) k h = request_less me r x b entry h
act_request me r x (Prepare b entry) k h = request_less me r x b entry h
act_request me r x (Pledge_to b entry signers) k h = h
act_request me r x (Commit a) k h =
    let y = (performs me x (Commit a)).0 in
    let lead = x.own.active && is_primary me x in
    let room = nat_le (next_number x) me.means.params.numbers in
    when-less (lead && is_waiting me x r && room) (lead && is_waiting me y r && room) (Some (Offer (next_number x) (r ∷ [])))
    (λ t.
    let p = and_parts (lead && is_waiting me y r) room t in
    let q = and_parts lead (is_waiting me y r) p.0 in
    let cast = list_any (is_cast x.own.view r) x.own.casts in
    let waiting = waits_less cast cast (is_taken x r) (is_committed x r) (is_committed y r) (is_answered me x r) (λ one. one) (λ one. or_right (has_request r.client r.stamp a.entry) (is_committed x r) one) q.1 in
    and_from (lead && is_waiting me x r) room (and_from lead (is_waiting me x r) q.0 waiting) p.1) h
act_request me r x (Up a) k h = h

request_is : {M : Type 0} (me : Self M) (x : Node) (r : Request) (act : Act) → offers_request me x r ≡ Some act → act ≡ Offer (next_number x) (r ∷ [])
request_is me x r act e =
    sym (same_Some (Offer (next_number x) (r ∷ [])) act (when-some (x.own.active && is_primary me x && is_waiting me x r && nat_le (next_number x) me.means.params.numbers) (Some (Offer (next_number x) (r ∷ []))) act e).1)

not_waiting : (cast taken committed answered : Bool) → cast ≡ true → waits cast taken committed answered ≡ false
not_waiting cast taken committed answered e =
    and_left (not cast && not taken && not committed) (not answered)
    (and_left (not cast && not taken) (not committed) (and_left (not cast) (not taken) (not_from_true cast e)))

request_settles : {M : Type 0} (me : Self M) (x : Node) (r : Request) (act : Act) → offers_request me x r ≡ Some act → offers_request me (performs me x act).0 r ≡ None
request_settles me x r act e =
    let n = next_number x in
    let y = with_cast x n (r ∷ []) in
    let c : Cast = record { view = x.own.view; number = n; entry = r ∷ [] } in
    let lead = x.own.active && is_primary me x in
    let same = and_from (nat_eq r.client r.client) (nat_eq r.stamp r.stamp) (eq-eqb r.client r.client refl) (eq-eqb r.stamp r.stamp refl) in
    let asks = or_left (nat_eq r.client r.client && nat_eq r.stamp r.stamp) false same in
    let cast = and_from (nat_eq x.own.view x.own.view) (has_request r.client r.stamp (r ∷ [])) (eq-eqb x.own.view x.own.view refl) asks in
    let found = or_left (is_cast x.own.view r c) (list_any (is_cast x.own.view r) x.own.casts) cast in
    let waiting : is_waiting me y r ≡ false = not_waiting (list_any (is_cast x.own.view r) (c ∷ x.own.casts)) (is_taken x r) (is_committed x r) (is_answered me x r) found in
    subst (λ (z : Act). offers_request me (performs me x z).0 r ≡ None) (sym (request_is me x r act e))
    (when-false (lead && is_waiting me y r && nat_le (next_number y) me.means.params.numbers) (Some (Offer (next_number y) (r ∷ [])))
    (and_left (lead && is_waiting me y r) (nat_le (next_number y) me.means.params.numbers) (and_right lead (is_waiting me y r) waiting)))

-- ---- the pass

act_requests : {M : Type 0} (me : Self M) (requests : List Request) (x : Node) (act : Act) → Unit {0} → x.heard.requests ≡ requests → (performs me x act).0.heard.requests ≡ requests
act_requests me requests x (Offer n e) k h = h
act_requests me requests x (Prepare n e) k h = h
act_requests me requests x (Pledge_to n e s) k h = h
act_requests me requests x (Commit a) k h = h
act_requests me requests x (Up a) k h = h

pub all_offered : {M : Type 0} (me : Self M) (s : Step M) → HasOffered me (makes_offers me s).0
all_offered {M = M} me s =
    let requests : List Request = s.0.heard.requests in
    let chose = for_each me (offers_choice me) (numbers me) s in
    let any = λ (x : Node) (r : Request) (act : Act) (e : offers_request me x r ≡ Some act). tt in
    let requests_at = λ (a b : Request) (x : Node) (act : Act) (e : offers_request me x b ≡ Some act) (h : offers_request me x a ≡ None). act_request me a x act tt h in
    let choices_at = λ (a b : ℕ) (x : Node) (act : Act) (e : offers_choice me x b ≡ Some act) (h : offers_choice me x a ≡ None). act_choice me a x act tt h in
    let same = for_each_stays me (λ x. x.heard.requests ≡ requests) (λ act. Unit {0}) (act_requests me requests) (offers_request me) any requests chose
    (for_each_stays me (λ x. x.heard.requests ≡ requests) (λ act. Unit {0}) (act_requests me requests) (offers_choice me) (λ x n act e. tt) (numbers me) s refl) in
    record {
      choices = λ n i. for_each_stays me (λ x. offers_choice me x n ≡ None) (λ act. Unit {0}) (act_choice me n) (offers_request me) any requests chose
          (settled me (offers_choice me) (numbers me) (choice_settles me) (all_later _ (numbers me) choices_at) s n i);
      requests = λ r i. settled me (offers_request me) requests (request_settles me) (all_later _ requests requests_at) chose r (subst (In r) same i);
    }

-- acts leave it so
pub act_offered : {M : Type 0} (me : Self M) (x : Node) (act : Act) → HasOffered me x → HasOffered me (performs me x act).0
act_offered me x act o = record {
  choices = λ n i. act_choice me n x act tt (o.choices n i);
  requests = λ r i. act_request me r x act tt (o.requests r (subst (In r) (act_requests me x.heard.requests x act tt refl) i));
}
