-- The frames of what is agreed or answered, and of one more.
use Rattle.std.proofs.Common.{◌≡◌, ℕ, ◌+◌, List, [], ◌∷◌, Bool, true, false, nat_eq, map, None, refl, sym, ap, ◌∙◌, inl, inr}
use Rattle.std.specs.Prelude.{is_some, if◌then◌else◌}
use Rattle.std.specs.List.{find}
use Rattle.std.specs.Option.{option_map}
use Rattle.std.proofs.lemmas.Bool.{cases_Bool, eqb-true}
use Rattle.fw_list.specs.Lists.{numbers_from}
use Rattle.fw_queue.specs.Backlogs.{Backlog, Numbered, frame_at, frame_with, up_to, ready, replied}
use Rattle.fw_queue.specs.Backlogs as queue
use Rattle.fw_rules.specs.Agree.{replied_up_to}
use Rattle.fw_rules.specs.Agree as agree
use Rattle.fw_owned.specs.declared.owned.OwnedReply.{OwnedReply}
use Rattle.fw_owned.specs.Pieces.{reply_of}
use Rattle.fw_owned.specs.declared.owned.OwnedAgreed.{OwnedAgreed}
use Rattle.fw_settled.specs.Queued.{AreQueued, agreed_in, reply_in, next_up, again}
use Rattle.fw_owned.proofs.Found.{mapped_some}

pub queued : {Kept : Type 0} (number : Kept → ℕ) (written : Kept → List ℕ) (frames : List Numbered) (kept : List Kept) (one : Kept) (frame : List ℕ)
    → ((n : ℕ) → frame_at frames n ≡ option_map written (find (λ k. nat_eq (number k) n) kept)) → find (λ k. nat_eq (number k) (number one)) kept ≡ None → frame ≡ written one
    → (n : ℕ) → frame_with frames (number one) frame n ≡ option_map written (find (λ k. nat_eq (number k) n) (one ∷ kept))
queued number written frames kept one frame all first is n = elim (cases_Bool (nat_eq (number one) n)) [
  | inl here ↦
      let same : number one ≡ n = eqb-true _ _ here in
      let none : frame_at frames n ≡ None = all n ∙ ap (λ m. option_map written (find (λ k. nat_eq (number k) m) kept)) (sym same) ∙ ap (option_map written) first in
      rw (here, none, is) refl
  | inr there ↦ rw there (all n)
]

-- whether a reply of a number is held
held : (replies : List OwnedReply) (n : ℕ) → is_some (reply_in replies n) ≡ is_some (agree.reply_of (map reply_of replies) n)
held [] n = refl
held (r ∷ replies) n = elim (cases_Bool (nat_eq r.number n)) [ inl is ↦ rw is refl | inr other ↦ rw other (held replies n) ]

step : (go stop go' stop' : ℕ) (b c : Bool) → b ≡ c → go ≡ go' → stop ≡ stop' → (if b then go else stop) ≡ elim c [ true ↦ go' | false ↦ stop' ]
step go stop go' stop' true true e one other = one
step go stop go' stop' false false e one other = other
step go stop go' stop' true false e one other = absurd (let no : ⊥ = cc in no)
step go stop go' stop' false true e one other = absurd (let no : ⊥ = cc in no)

-- how far the replies go
pub replied_same : (has : ℕ → Bool) (replies : List OwnedReply) → ((n : ℕ) → has n ≡ is_some (reply_in replies n)) → (k : ℕ) (ns : List ℕ) → up_to has k ns ≡ replied_up_to (map reply_of replies) k ns
replied_same has replies all k [] = refl
replied_same has replies all k (n ∷ ns) =
    step (up_to has n ns) k (replied_up_to (map reply_of replies) n ns) k (has n) (is_some (agree.reply_of (map reply_of replies) n)) (all n ∙ held replies n) (replied_same has replies all n ns) refl

-- the queue has how far the replies go, and which number may go up
pub replied_is : (q : Backlog) (committed : List OwnedAgreed) (replies : List OwnedReply) → AreQueued q committed replies → replied q ≡ replied_up_to (map reply_of replies) 0 (numbers_from 1 q.params.numbers)
replied_is q committed replies all =
    replied_same (λ n. is_some (frame_at q.replies n)) replies (λ n. ap is_some (all.replies n) ∙ mapped_some _ (reply_in replies n)) 0 (numbers_from 1 q.params.numbers)

pub ready_is : (q : Backlog) (committed : List OwnedAgreed) (replies : List OwnedReply) → AreQueued q committed replies → ready q ≡ next_up (record { params = q.params; committed = committed; held = replies; up = q.gone })
ready_is q committed replies all =
    let some : is_some (frame_at q.agreed (q.gone + 1)) ≡ is_some (agreed_in committed (q.gone + 1)) = ap is_some (all.agreed (q.gone + 1)) ∙ mapped_some _ (agreed_in committed (q.gone + 1)) in
    rw (some, replied_is q committed replies all) refl

pub again_is : (q : Backlog) (committed : List OwnedAgreed) (replies : List OwnedReply) → AreQueued q committed replies → queue.again q ≡ again (record { params = q.params; committed = committed; held = replies; up = q.gone })
again_is q committed replies all = rw (replied_is q committed replies all) refl
