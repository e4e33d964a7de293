-- What toys send can be sent; the one node of a kind stands at its place, and is new; one seat and one step more fit.
use Rattle.std.proofs.Common.{◌≡◌, ℕ, zero, suc, Bool, true, false, List, [], ◌∷◌, ◌++◌, length, Some, slice_get, refl, sym, ap, ◌∙◌, subst, IsTrue}
use Rattle.std.specs.List.{list_all}
use Rattle.std.proofs.lemmas.Bool.{and_from}
use Rattle.std.proofs.lemmas.List.Folds.{list_all-append}
use Rattle.std.proofs.lemmas.List.Elements.{All-nil, All-cons, All-append}
use Rattle.fw_base.specs.declared.params.Params.{Params}
use Rattle.fw_base.specs.declared.seat.Seat.{Seat}
use Rattle.fw_base.specs.Seats.{fits}
use Rattle.fw_step.specs.declared.step.Step.{Step}
use Rattle.fw_step.specs.Fitting.{is_honest, step_fits}
use Rattle.fw_directory.specs.Directories.{PlainDirectory}
use Rattle.fw_node.specs.Histories.{History, AreSendable}
use Rattle.fw_node.proofs.Sendable.{AllFit, to_all}
use Rattle.fw_grid.specs.Nodes.{AreSeated, AreStanding}
use Rattle.try_limits.specs.Toys.{Echoer, IsSound, StandsFor, rule_of}
use Rattle.try_limits.specs.Casts.{IsOnly}

-- ---- what a toy sends

pub all_sendable : (p : Params) (own : Seat) (to : List Seat) (frame : List ℕ) (stopped : Bool) (n : Echoer) → record { params = p; own = own; to = to; frame = frame; stopped = stopped } ≡ n → IsSound p own to frame
    → (d : PlainDirectory) (h : History) → d.params ≡ n.params → AreSendable n.params (rule_of n d h)
all_sendable p own to frame stopped n is sound =
    subst (λ (m : Echoer). (d : PlainDirectory) (h : History) → d.params ≡ m.params → AreSendable m.params (rule_of m d h)) is
    (λ d h same. to_all p to frame sound.all_fit sound.some sound.most)

-- ---- one more

pub fit_more : (p : Params) (seats : List Seat) (seat : Seat) → AllFit p seats → IsTrue (fits p seat) → AllFit p (seats ++ seat ∷ [])
fit_more p seats seat all one = All-append (λ s. IsTrue (fits p s)) seats (seat ∷ []) all (All-cons (λ s. IsTrue (fits p s)) seat [] one (All-nil _))

pub steps_more : (p : Params) (steps : List Step) (step : Step) → IsTrue (list_all (step_fits p []) steps) → IsTrue (step_fits p [] step) → IsTrue (list_all (step_fits p []) (steps ++ step ∷ []))
steps_more p steps step all one =
    list_all-append (step_fits p []) steps (step ∷ []) ∙ and_from (list_all (step_fits p []) steps) (list_all (step_fits p []) (step ∷ [])) all (and_from (step_fits p [] step) true one refl)

pub honest_more : (steps : List Step) (step : Step) → IsTrue (list_all is_honest steps) → IsTrue (is_honest step) → IsTrue (list_all is_honest (steps ++ step ∷ []))
honest_more steps step all one = list_all-append is_honest steps (step ∷ []) ∙ and_from (list_all is_honest steps) (list_all is_honest (step ∷ [])) all (and_from (is_honest step) true one refl)

-- ---- the one node of a kind

pub is_only : (p : Params) (own : Seat) (n : Echoer) (old nodes : List Echoer) → old ≡ [] → nodes ≡ old ++ n ∷ [] → n.params ≡ p → n.own ≡ own → n.stopped ≡ false → IsOnly p own nodes
is_only p own n old nodes empty grown sizes seat running =
    (n, grown ∙ ap (λ l. l ++ n ∷ []) empty, record { sizes = sizes; seat_is = seat; running = running })

-- the only item of a list is found at the front alone
found_only : (n node : Echoer) (k : ℕ) → slice_get (n ∷ []) k ≡ Some node → (k ≡ 0) × (n ≡ node)
found_only n node zero found = (refl, (let same : n ≡ node = cc in same))
found_only n node (suc k) found = absurd (cc)

pub only_seated : (p : Params) (own : Seat) (seat_at : ℕ → Seat) (nodes : List Echoer) → IsOnly p own nodes → seat_at 0 ≡ own → AreSeated (λ (n : Echoer). n.params) (λ (n : Echoer). n.own) p seat_at 1 nodes
only_seated p own seat_at nodes only same = record {
  many = ap length only.1;
  sizes = λ k node found.
      let is = found_only only.0 node k (subst (λ l. slice_get l k ≡ Some node) only.1 found) in
      ap (λ (n : Echoer). n.params) (sym is.1) ∙ only.2.sizes;
  seats = λ k node found.
      let is = found_only only.0 node k (subst (λ l. slice_get l k ≡ Some node) only.1 found) in
      ap (λ (n : Echoer). n.own) (sym is.1) ∙ only.2.seat_is ∙ sym same ∙ ap seat_at (sym is.0);
}

pub only_standing : (p : Params) (own : Seat) (nodes : List Echoer) (d : PlainDirectory) → IsOnly p own nodes → AreStanding StandsFor (λ (n : Echoer). n.stopped) d (λ k. []) nodes
only_standing p own nodes d only = λ k node found.
    let is = found_only only.0 node k (subst (λ l. slice_get l k ≡ Some node) only.1 found) in
    (ap (λ (n : Echoer). n.stopped) (sym is.1) ∙ only.2.running, tt)
