-- What the rule owes, from what each look-up found.
use Rattle.std.proofs.Common.{length, drop, get_or, drop-cons, add-one, ◌∷◌, ◌≡◌, ℕ, ◌+◌, ◌<◌, ◌≤◌, ◌++◌, ◌∙◌, arith, List, [], Bool, true, false, ◌&&◌, not, Option, Some, None, refl, sym, ap, nat_eq, nat_le, nat_lt, map, inl, inr}
use Rattle.std.specs.Prelude.{is_some}
use Rattle.std.specs.Borrow.{Bor}
use Rattle.std.specs.List.{list_any}
use Rattle.std.specs.Option.{option_map, option_copied}
use Rattle.std.proofs.lemmas.Bool.{and_parts, cases_Bool, eqb-true, ltb-true, ltb-false, le-leb, lt-leb}
use Rattle.std.proofs.lemmas.Option.{same_Some}
use Rattle.fw_list.specs.Lists.{numbers_from}
use Rattle.fw_base.specs.declared.params.Params.{Params}
use Rattle.fw_directory.specs.Directories.{PlainDirectory}
use Rattle.fw_hand.specs.Hands.{PlainHand}
use Rattle.fw_frame.specs.View.{Frame, Entry, Change, Agrees, Votes, Proposes, Changes}
use Rattle.fw_rules.specs.Signing.{entry_digest}
use Rattle.fw_means.specs.Means.{written}
use Rattle.std.proofs.lemmas.List.{append-nil, drop_all}
use Rattle.fw_rules.specs.Choices.{first_some}
use Rattle.fw_rules.specs.Agree as rules
use Rattle.fw_rules.specs.Views as views
use Rattle.fw_kept.specs.declared.keeps.Keeps.{Keeps}
use Rattle.fw_kept.specs.Kept.{self_of, node_of}
use Rattle.fw_owned.specs.declared.owned.OwnedAgreed.{OwnedAgreed}
use Rattle.fw_owned.specs.Pieces.{agreed_of, reply_of}
use Rattle.fw_owned.proofs.Found.{copied_some, found_passes}
use Rattle.fw_settled.specs.Queued.{SettledNumbers, agreed_in, replied_in, again}
use Rattle.fw_choose.proofs.Choosing.{agreed_same}
use Rattle.fw_clock.proofs.Sending.{two_sent}

-- whether a number is committed
pub committed_is : (k : Keeps) (n : ℕ) (o : Option (Bor OwnedAgreed)) → option_copied o ≡ agreed_in k.settled.committed n → is_some (rules.agreed_at (node_of k) n) ≡ is_some o
committed_is k n o e = ap is_some (sym (ap (option_map agreed_of) e ∙ agreed_same k.settled.committed n)) ∙ copied_some agreed_of o

pub open_some : (x : rules.Node) (n : ℕ) → is_some (rules.agreed_at x n) ≡ false → Some n ≡ views.uncommitted x n
open_some x n e = rw e refl

pub shut_none : (x : rules.Node) (n : ℕ) → is_some (rules.agreed_at x n) ≡ true → is_some (views.uncommitted x n) ≡ false
shut_none x n e = rw e refl

-- ---- the agreed frame that waits for its reply

again_not : (s : SettledNumbers) → again s ≡ None → nat_lt (replied_in s) s.up ≡ false
again_not s e = elim (cases_Bool (nat_lt (replied_in s) s.up)) [
  | inl below ↦
      let no : Some (replied_in s + 1) ≡ None = rw below at e in
      absurd (let no2 : ⊥ = cc in no2)
  | inr above ↦ above
]

again_parts : (s : SettledNumbers) (n : ℕ) → again s ≡ Some n → (n ≡ replied_in s + 1) × (nat_lt (replied_in s) s.up ≡ true)
again_parts s n e = elim (cases_Bool (nat_lt (replied_in s) s.up)) [
  | inl below ↦
      let is : Some (replied_in s + 1) ≡ Some n = rw below at e in
      (sym (same_Some _ _ is), below)
  | inr above ↦
      let no : None ≡ Some n = rw above at e in
      absurd (let no2 : ⊥ = cc in no2)
]

at_number : (committed : List OwnedAgreed) (n : ℕ) (a : OwnedAgreed) → Some a ≡ agreed_in committed n → a.number ≡ n
at_number committed n a is = eqb-true _ _ (found_passes (λ b. nat_eq b.number n) committed a is)

nothing_above : {M : Type 0} (me : rules.Self M) (x : rules.Node) (n : ℕ) (o : Option OwnedAgreed) → ((a : OwnedAgreed) → Some a ≡ o → a.number ≡ n) → nat_le n x.up ≡ false → views.agreed_again me x (option_map agreed_of o) ≡ []
nothing_above me x n None at above = refl
nothing_above me x n (Some a) at above =
    let test : nat_le a.number x.up ≡ false = ap (λ m. nat_le m x.up) (at a refl) ∙ above in
    rw test refl

sent_within : {M : Type 0} (me : rules.Self M) (x : rules.Node) (n : ℕ) (a : OwnedAgreed) → a.number ≡ n → nat_le n x.up ≡ true → rules.to_row0 me (Agrees (agreed_of a)) ≡ views.agreed_again me x (Some (agreed_of a))
sent_within me x n a at within =
    let test : nat_le a.number x.up ≡ true = ap (λ m. nat_le m x.up) at ∙ within in
    rw test refl

-- how far the replies go, by the sizes
replied_is : (d : PlainDirectory) (hand : PlainHand) (own : ℕ) (k : Keeps) → k.settled.params ≡ d.params → replied_in k.settled ≡ rules.replied (self_of d hand own) (node_of k)
replied_is d hand own k sizes = ap (λ (p : Params). rules.replied_up_to (map reply_of k.settled.held) 0 (numbers_from 1 p.numbers)) sizes

pub again_none : (d : PlainDirectory) (hand : PlainHand) (own : ℕ) (k : Keeps) → k.settled.params ≡ d.params → again k.settled ≡ None
    → views.agreed_again (self_of d hand own) (node_of k) (rules.agreed_at (node_of k) (rules.replied (self_of d hand own) (node_of k) + 1)) ≡ []
again_none d hand own k sizes e =
    let me = self_of d hand own in
    let x = node_of k in
    let far : k.settled.up ≤ replied_in k.settled = ltb-false _ _ (again_not k.settled e) in
    let above : nat_le (replied_in k.settled + 1) k.settled.up ≡ false = lt-leb _ _ (omega (arith, far)) in
    ap (λ n. views.agreed_again me x (rules.agreed_at x (n + 1))) (sym (replied_is d hand own k sizes))
    ∙ ap (views.agreed_again me x) (sym (agreed_same k.settled.committed (replied_in k.settled + 1)))
    ∙ nothing_above me x (replied_in k.settled + 1) (agreed_in k.settled.committed (replied_in k.settled + 1)) (at_number k.settled.committed (replied_in k.settled + 1)) above

-- what is owed at the number that is next
again_at : (d : PlainDirectory) (hand : PlainHand) (own : ℕ) (k : Keeps) (n : ℕ) → k.settled.params ≡ d.params → again k.settled ≡ Some n
    → views.agreed_again (self_of d hand own) (node_of k) (option_map agreed_of (agreed_in k.settled.committed n)) ≡ views.agreed_again (self_of d hand own) (node_of k) (rules.agreed_at (node_of k) (rules.replied (self_of d hand own) (node_of k) + 1))
again_at d hand own k n sizes e =
    let me = self_of d hand own in
    let x = node_of k in
    let same : n ≡ rules.replied me x + 1 = (again_parts k.settled n e).0 ∙ ap (λ m. m + 1) (replied_is d hand own k sizes) in
    ap (views.agreed_again me x) (agreed_same k.settled.committed n) ∙ ap (λ m. views.agreed_again me x (rules.agreed_at x m)) same

within_up : (s : SettledNumbers) (n : ℕ) → again s ≡ Some n → nat_le n s.up ≡ true
within_up s n e =
    let parts = again_parts s n e in
    let below : replied_in s < s.up = ltb-true _ _ parts.1 in
    let same : n ≡ replied_in s + 1 = parts.0 in
    le-leb _ _ (omega (arith, below, same))

framed : {M : Type 0} (me : rules.Self M) (x : rules.Node) (n : ℕ) (o : Option OwnedAgreed) (frame : List ℕ) (out new : rules.Sends M) → Some frame ≡ option_map (λ a. written (Agrees (agreed_of a))) o → ((a : OwnedAgreed) → Some a ≡ o → a.number ≡ n) → nat_le n x.up ≡ true
    → ((f : Frame) → frame ≡ written f → new ≡ out ++ rules.to_row0 me f) → new ≡ out ++ views.agreed_again me x (option_map agreed_of o)
framed me x n None frame out new is at within sent = absurd (let no : ⊥ = cc in no)
framed me x n (Some a) frame out new is at within sent =
    sent (Agrees (agreed_of a)) (same_Some _ _ is) ∙ ap (λ more. out ++ more) (sent_within me x n a (at a refl) within)

pub again_some : (d : PlainDirectory) (hand : PlainHand) (own : ℕ) (k : Keeps) (n : ℕ) (frame : List ℕ) (out new : rules.Sends (List ℕ)) → k.settled.params ≡ d.params → again k.settled ≡ Some n
    → Some frame ≡ option_map (λ a. written (Agrees (agreed_of a))) (agreed_in k.settled.committed n) → ((f : Frame) → frame ≡ written f → new ≡ out ++ rules.to_row0 (self_of d hand own) f)
    → new ≡ out ++ views.agreed_again (self_of d hand own) (node_of k) (rules.agreed_at (node_of k) (rules.replied (self_of d hand own) (node_of k) + 1))
again_some d hand own k n frame out new sizes e is sent =
    framed (self_of d hand own) (node_of k) n (agreed_in k.settled.committed n) frame out new is (at_number k.settled.committed n) (within_up k.settled n e) sent
    ∙ ap (λ more. out ++ more) (again_at d hand own k n sizes e)

unframed : {M : Type 0} (me : rules.Self M) (x : rules.Node) (o : Option OwnedAgreed) → None ≡ option_map (λ a. written (Agrees (agreed_of a))) o → views.agreed_again me x (option_map agreed_of o) ≡ []
unframed me x None is = refl
unframed me x (Some a) is = absurd (let no : ⊥ = cc in no)

pub again_lost : (d : PlainDirectory) (hand : PlainHand) (own : ℕ) (k : Keeps) (n : ℕ) → k.settled.params ≡ d.params → again k.settled ≡ Some n → None ≡ option_map (λ a. written (Agrees (agreed_of a))) (agreed_in k.settled.committed n)
    → views.agreed_again (self_of d hand own) (node_of k) (rules.agreed_at (node_of k) (rules.replied (self_of d hand own) (node_of k) + 1)) ≡ []
again_lost d hand own k n sizes e is = sym (again_at d hand own k n sizes e) ∙ unframed (self_of d hand own) (node_of k) (agreed_in k.settled.committed n) is

-- ---- what is sent again, from what was found

pub sent_nothing : {A : Type 0} (out more : List A) → [] ≡ more → out ≡ out ++ more
sent_nothing out more e = rw (sym e) (sym (append-nil out))

pub pledge_sent : {M : Type 0} (me : rules.Self M) (x : rules.Node) (n : ℕ) (o : Option (List ℕ)) (digest : List ℕ) (out new : rules.Sends M) → Some digest ≡ o → new ≡ out ++ rules.to_others me (Votes (rules.own_vote me 1 x.own.view n digest)) → new ≡ out ++ views.resends_pledge me x n o
pledge_sent me x n o digest out new e sent = rw (sym e) sent

pub pledge_none : {M : Type 0} (me : rules.Self M) (x : rules.Node) (n : ℕ) (o : Option (List ℕ)) → None ≡ o → [] ≡ views.resends_pledge me x n o
pledge_none me x n o e = rw (sym e) refl

pub cast_offered : {M : Type 0} (me : rules.Self M) (x : rules.Node) (n : ℕ) (o : Option Entry) (entry : Entry) (out new : rules.Sends M) → Some entry ≡ o → rules.is_primary me x ≡ true → new ≡ out ++ rules.to_others me (Proposes (rules.own_proposal me x.own.view n entry)) → new ≡ out ++ views.resends_cast me x n o
cast_offered me x n o entry out new e first sent = rw (sym e) (rw first sent)

pub cast_voted : {M : Type 0} (me : rules.Self M) (x : rules.Node) (n : ℕ) (o : Option Entry) (entry : Entry) (out new : rules.Sends M) → Some entry ≡ o → rules.is_primary me x ≡ false → new ≡ out ++ rules.to_others me (Votes (rules.own_vote me 0 x.own.view n (entry_digest me.means.hash entry))) → new ≡ out ++ views.resends_cast me x n o
cast_voted me x n o entry out new e other sent = rw (sym e) (rw other sent)

pub cast_none : {M : Type 0} (me : rules.Self M) (x : rules.Node) (n : ℕ) (o : Option Entry) → None ≡ o → [] ≡ views.resends_cast me x n o
cast_none me x n o e = rw (sym e) refl

pub change_sent : {M : Type 0} (me : rules.Self M) (o : Option Change) (change : Change) (out new : rules.Sends M) → Some change ≡ o → new ≡ out ++ rules.to_others me (Changes change) → new ≡ out ++ views.resends_change me o
change_sent me o change out new e sent = rw (sym e) sent

pub change_none : {M : Type 0} (me : rules.Self M) (o : Option Change) → None ≡ o → [] ≡ views.resends_change me o
change_none me o e = rw (sym e) refl

pub owed_votes : {M : Type 0} (me : rules.Self M) (x : rules.Node) (o : Option ℕ) (out new : rules.Sends M) → x.own.active ≡ true → o ≡ first_some (views.uncommitted x) (rules.numbers me) → new ≡ out ++ views.resends_at me x o → new ≡ out ++ views.resends me x
owed_votes me x o out new active e sent = rw (active, sym e) sent

pub owed_change : {M : Type 0} (me : rules.Self M) (x : rules.Node) (out new : rules.Sends M) → x.own.active ≡ false → new ≡ out ++ views.resends_change me (first_some (views.change_if x.own.view me.own) x.own.moves) → new ≡ out ++ views.resends me x
owed_change me x out new active sent = rw active sent

-- ---- waiting

pub waits_as : {M : Type 0} (me : rules.Self M) (x : rules.Node) (idle : ℕ) (b : Bool) → idle ≡ views.idle_now me x → b ≡ (nat_eq idle views.PATIENCE && nat_lt (x.own.view + 1) me.means.params.views) → views.waits_by me x b ≡ views.waits me x
waits_as me x idle b e is = ap (views.waits_by me x) (is ∙ ap (λ i. nat_eq i views.PATIENCE && nat_lt (x.own.view + 1) me.means.params.views) e)

-- a change of view
pub waits_start : {M : Type 0} (me : rules.Self M) (x : rules.Node) (idle : ℕ) (b : Bool) → idle ≡ views.idle_now me x → b ≡ (nat_eq idle views.PATIENCE && nat_lt (x.own.view + 1) me.means.params.views) → b ≡ true → views.waits_by me x true ≡ views.waits me x
waits_start me x idle b e is start = ap (views.waits_by me x) (sym start) ∙ waits_as me x idle b e is

-- no change of view
abbrev pub still : {M : Type 0} → rules.Self M → rules.Node → ℕ → rules.Step M
still me x idle = (record x { idle = views.idle_after idle }, views.resends me x)

pub waits_still : {M : Type 0} (me : rules.Self M) (x : rules.Node) (idle : ℕ) (b : Bool) → idle ≡ views.idle_now me x → b ≡ (nat_eq idle views.PATIENCE && nat_lt (x.own.view + 1) me.means.params.views) → b ≡ false → still me x idle ≡ views.waits me x
waits_still me x idle b e is stay = ap (still me x) e ∙ ap (views.waits_by me x) (sym stay) ∙ waits_as me x idle b e is

-- for how long it has waited
pub behind_idle : {M : Type 0} (me : rules.Self M) (x : rules.Node) → views.is_behind me x ≡ true → x.idle + 1 ≡ views.idle_now me x
behind_idle me x e = rw e refl

pub ahead_idle : {M : Type 0} (me : rules.Self M) (x : rules.Node) → views.is_behind me x ≡ false → x.idle ≡ views.idle_now me x
ahead_idle me x e = rw e refl

-- whether a request is open
pub not_is : (b some : Bool) → some ≡ not b → b ≡ not some
not_is true some e = rw e refl
not_is false some e = rw e refl

-- a tick reminds after it has waited
pub ticks_sent : {M : Type 0} (me : rules.Self M) (between : rules.Node) (s : rules.Step M) (out middle new : rules.Sends M) → between ≡ s.0 → middle ≡ out ++ s.1 → new ≡ middle ++ views.agreed_again me between (rules.agreed_at between (rules.replied me between + 1)) → new ≡ out ++ (views.reminds me s).1
ticks_sent me between s out middle new kept first second =
    two_sent out middle new s.1 (views.agreed_again me s.0 (rules.agreed_at s.0 (rules.replied me s.0 + 1))) first
    (second ∙ ap (λ (y : rules.Node). middle ++ views.agreed_again me y (rules.agreed_at y (rules.replied me y + 1))) kept)

-- the items that are left of a list: the first of them isn't one
pub any_next : {A B : Type 0} (view : A → B) (p : B → Bool) (xs : List A) (k : ℕ) (d : A) → k < length xs → p (view (get_or xs k d)) ≡ false → list_any p (map view (drop k xs)) ≡ list_any p (map view (drop (k + 1) xs))
any_next view p xs k d below none =
    let next : drop k xs ≡ get_or xs k d ∷ drop (k + 1) xs = rw (add-one k) (drop-cons xs k d below) in
    rw next (rw none refl)

-- it is
pub any_here : {A B : Type 0} (view : A → B) (p : B → Bool) (xs : List A) (k : ℕ) (d : A) → k < length xs → p (view (get_or xs k d)) ≡ true → list_any p (map view (drop k xs)) ≡ true
any_here view p xs k d below some =
    let next : drop k xs ≡ get_or xs k d ∷ drop (k + 1) xs = rw (add-one k) (drop-cons xs k d below) in
    rw next (rw some refl)

-- none is left
pub any_end : {A B : Type 0} (view : A → B) (p : B → Bool) (xs : List A) (k : ℕ) → length xs ≤ k → list_any p (map view (drop k xs)) ≡ false
any_end view p xs k over =
    let none : drop k xs ≡ [] = drop_all k xs over in
    rw none refl

-- there is a next view
pub next_below : (idle next end : ℕ) (b : Bool) → b ≡ (nat_eq idle views.PATIENCE && nat_lt next end) → b ≡ true → next < end
next_below idle next end b e is = ltb-true _ _ (and_parts (nat_eq idle views.PATIENCE) (nat_lt next end) (sym e ∙ is)).1
