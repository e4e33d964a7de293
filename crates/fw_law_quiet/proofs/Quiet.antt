-- After every history a node is quiet.
use Rattle.std.proofs.Common.{ℕ, ◌≡◌, ◌∙◌, true, false, ◌&&◌, ◌||◌, not, nat_eq, nat_lt, nat_le, List, [], ◌∷◌, length, arith, refl, ap, Option, Some, None}
use Rattle.std.specs.Prelude.{option_and_then, is_some}
use Rattle.std.proofs.lemmas.Bool.{and_left, and_right, le-ltb, lt-leb}
use Rattle.fw_base.specs.declared.seat.Seat.TheVariants.{Agree}
use Rattle.fw_list.specs.Lists.{numbers_from}
use Rattle.fw_trace.specs.declared.Input.{Input}
use Rattle.fw_trace.specs.declared.Input.TheVariants.{Heard, Tick, Submitted}
use Rattle.fw_trace.specs.Lists.{In}
use Rattle.fw_rules.specs.Choices.{admitted}
use Rattle.fw_rules.specs.Agree.{Self, Node, Step, Act, performs, for_each, new_node, numbers, nodes, is_primary, makes_offers, casts_votes, commits_and_sends, offers_choice, offers_request, prepares, pledges, commits, commits_in, goes_up, cast_at, choice, chosen, Offer, Pledge_to, Prepare, Commit, Up}
use Rattle.fw_rules.specs.Views.{passes, passes_after, changes_view, hears_all, ticks, adopts_at, joins_at, others_for, sent_for, Start}
use Rattle.fw_law_node.specs.Once.{node_after}
use Rattle.fw_law_words.proofs.Tests.{when-false, when-nothing}
use Rattle.fw_law_words.proofs.Firsts.{first_some-nowhere}
use Rattle.fw_law_words.proofs.Lists.{In-numbers, filter-nothing}
use Rattle.fw_law_quiet.specs.Quiet.{IsTurned, HasOffered, IsQuiet}
use Rattle.fw_law_quiet.proofs.Settling.{for_each_stays}
use Rattle.fw_law_quiet.proofs.Turning.{none_down, view_turned, act_turned}
use Rattle.fw_law_quiet.proofs.Offering.{all_offered, act_offered}
use Rattle.fw_law_quiet.proofs.Voting.{CastsNone, act_prepares, all_prepared, act_pledges, all_pledged}
use Rattle.fw_law_quiet.proofs.Committing.{VotesNone, act_commits, all_committed, commits_none, all_up, goes_up_none}

-- ---- after the passes

abbrev Any : Act → Type 0
Any act = Unit {0}

-- what each act leaves so, passes leave so
module _ {M : Type 0} (me : Self M) (P : Node → Type 0) (keep : (x : Node) (act : Act) → Any act → P x → P (performs me x act).0) where
  offers_stay : (s : Step M) → P s.0 → P (makes_offers me s).0
  offers_stay s p =
      for_each_stays me P Any keep (offers_request me) (λ x r act e. tt) s.0.heard.requests (for_each me (offers_choice me) (numbers me) s)
      (for_each_stays me P Any keep (offers_choice me) (λ x n act e. tt) (numbers me) s p)

  votes_stay : (s : Step M) → P s.0 → P (casts_votes me s).0
  votes_stay s p =
      for_each_stays me P Any keep (pledges me) (λ x n act e. tt) (numbers me) (for_each me (prepares me) (numbers me) s)
      (for_each_stays me P Any keep (prepares me) (λ x n act e. tt) (numbers me) s p)

  commits_stay : (s : Step M) → P s.0 → P (commits_and_sends me s).0
  commits_stay s p =
      for_each_stays me P Any keep (goes_up me) (λ x n act e. tt) (numbers me) (for_each me (commits me) (numbers me) s)
      (for_each_stays me P Any keep (commits me) (λ x n act e. tt) (numbers me) s p)

casts_none : (act : Act) → VotesNone act → CastsNone act
casts_none (Offer n e) k = absurd k
casts_none (Prepare n e) k = absurd k
casts_none (Pledge_to n e s) k = tt
casts_none (Commit a) k = tt
casts_none (Up a) k = tt

pub passes_quiet : {M : Type 0} (me : Self M) (s : Step M) → IsQuiet me (passes me s).0
passes_quiet me s =
    let viewed = changes_view me s in
    let offered = makes_offers me viewed in
    let prepared = for_each me (prepares me) (numbers me) offered in
    let voted = for_each me (pledges me) (numbers me) prepared in
    let done = for_each me (commits me) (numbers me) voted in
    record {
      turned = commits_stay me (IsTurned me) (λ x act k t. act_turned me x act t) voted
          (votes_stay me (IsTurned me) (λ x act k t. act_turned me x act t) offered (offers_stay me (IsTurned me) (λ x act k t. act_turned me x act t) viewed (view_turned me s)));
      offered = commits_stay me (HasOffered me) (λ x act k o. act_offered me x act o) voted
          (votes_stay me (HasOffered me) (λ x act k o. act_offered me x act o) offered (all_offered me viewed));
      prepares = λ n i. commits_stay me (λ x. prepares me x n ≡ None) (act_prepares me n) voted
          (for_each_stays me (λ x. prepares me x n ≡ None) Any (act_prepares me n) (pledges me) (λ x m act e. tt) (numbers me) prepared (all_prepared me offered n i));
      pledges = λ n i. for_each_stays me (λ x. pledges me x n ≡ None) CastsNone (act_pledges me n) (goes_up me) (λ x m act e. casts_none act (goes_up_none me x m act e)) (numbers me) done
          (for_each_stays me (λ x. pledges me x n ≡ None) CastsNone (act_pledges me n) (commits me) (λ x m act e. casts_none act (commits_none me x m act e)) (numbers me) voted (all_pledged me prepared n i));
      commits = λ n i. for_each_stays me (λ x. commits me x n ≡ None) VotesNone (act_commits me n) (goes_up me) (λ x m act e. goes_up_none me x m act e) (numbers me) done (all_committed me voted n i);
      goes_up = λ n i. all_up me done n i;
    }

-- ---- before all inputs

none_sent : {M : Type 0} (me : Self M) (w : ℕ) → others_for me new_node w ≡ []
none_sent me w =
    filter-nothing (λ i. not (nat_eq i me.own) && sent_for new_node w i) (nodes me.means.params) (λ i. and_right (not (nat_eq i me.own)) false refl)

new_joins : {M : Type 0} (me : Self M) (w : ℕ) → joins_at me new_node w ≡ None
new_joins me w =
    let many = nat_lt me.means.params.f (length (others_for me new_node w)) in
    let few : many ≡ false = ap (λ (l : List ℕ). nat_lt me.means.params.f (length l)) (none_sent me w) ∙ le-ltb me.means.params.f 0 (omega arith) in
    when-false (nat_lt 0 w && many) (Some (Start w)) (and_right (nat_lt 0 w) many few)

new_choice : {M : Type 0} (me : Self M) (n : ℕ) → In n (numbers me) → offers_choice me new_node n ≡ None
new_choice me n i =
    let low = (In-numbers n 1 me.means.params.numbers i).0 in
    let lead = true && is_primary me new_node in
    let fresh = not (is_some (cast_at new_node 0 n)) in
    when-false (lead && nat_le n 0 && fresh) (Some (Offer n (choice (chosen new_node) n))) (and_left (lead && nat_le n 0) fresh (and_right lead (nat_le n 0) (lt-leb n 0 (omega arith))))

pub new_quiet : {M : Type 0} (me : Self M) → IsQuiet me new_node
new_quiet me = record {
  turned = record {
    adopts = none_down (adopts_at new_node) me.means.params.views (λ w low. when-nothing (nat_lt 0 w || (nat_eq w 0 && not true)) None refl);
    joins = none_down (joins_at me new_node) me.means.params.views (λ w low. new_joins me w);
    makes = refl;
  };
  offered = record { choices = new_choice me; requests = λ r i. absurd i };
  prepares = λ n i. when-nothing (true && not (is_primary me new_node) && not (is_some (cast_at new_node 0 n))) None refl;
  pledges = λ n i. refl;
  commits = λ n i. first_some-nowhere (commits_in me new_node n) (numbers_from 0 me.means.params.views) (λ v. refl);
  goes_up = λ n i. when-nothing _ None refl;
}

-- ---- after every history

after_quiet : {M : Type 0} (me : Self M) (x : Node) (o : Option (Step M)) → IsQuiet me x → IsQuiet me (passes_after me x o).0
after_quiet me x None q = q
after_quiet me x (Some s) q = passes_quiet me s

pub quiet : {M O : Type 0} (me : Self M) (h : List (Input M O)) → IsQuiet me (node_after me h)
quiet me [] = new_quiet me
quiet me (Submitted op ∷ h) = quiet me h
quiet me (Tick ∷ h) = passes_quiet me (ticks me (node_after me h))
quiet me (Heard from m ∷ h) = after_quiet me (node_after me h) (option_and_then (hears_all me (node_after me h) from) (admitted me.means (Agree me.own) from m)) (quiet me h)
