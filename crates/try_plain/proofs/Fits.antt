-- Single steps fit, and what they ask can be asked.
use Rattle.std.proofs.Common.{◌≡◌, ℕ, ◌<◌, ◌+◌, Bool, true, ◌&&◌, List, [], ◌∷◌, ◌++◌, take, length, get_or, All, refl, sym, ◌∙◌, subst, IsTrue}
use Rattle.std.specs.Prelude.{Result, Ok, Err, OnOk}
use Rattle.std.specs.List.{list_all}
use Rattle.std.proofs.lemmas.Bool.{and_parts, and_from}
use Rattle.std.proofs.lemmas.List.Elements.{All-nil, All-cons}
use Rattle.std.proofs.lemmas.List.Folds.{list_all-append, list_all_more}
use Rattle.fw_base.specs.declared.params.Params.{Params}
use Rattle.fw_base.specs.declared.seat.Seat.{Seat}
use Rattle.fw_base.specs.declared.seat.Seat.TheVariants as seats
use Rattle.fw_base.specs.Sizes.{accepted}
use Rattle.fw_op.specs.Ops.{op_fits}
use Rattle.fw_step.specs.declared.step.Step.{Step}
use Rattle.fw_step.specs.declared.step.Step.TheVariants.{Submit, Deliver, Flush, Tick, Lie}
use Rattle.fw_step.specs.Fitting.{is_correct, step_fits}
use Rattle.fw_sched.specs.declared.plan.Plan.{Plan}
use Rattle.fw_grid.proofs.Asking.{op_more, few_clients}
use Rattle.try_plain.specs.Turns.{IsAskable}

-- what follows from what holds of a success
pub on_ok : {A E : Type 0} (r : Result A E) (P Q : Type 0) → (P → Q) → OnOk r P → OnOk r Q
on_ok (Ok x) P Q then p = then p
on_ok (Err e) P Q then p = tt

-- one more that passes
pub one_more : {A : Type 0} (f : A → Bool) (xs : List A) (x : A) → list_all f xs ≡ true → f x ≡ true → list_all f (xs ++ x ∷ []) ≡ true
one_more f xs x all one = list_all-append f xs (x ∷ []) ∙ and_from (list_all f xs) (f x && true) all (and_from (f x) true one refl)

askable : (p : Params) (s : Step) → IsTrue (accepted p) → IsTrue (step_fits p [] s) → IsAskable s
askable p (Submit c op) sizes fit = op_more p.clients op (few_clients p sizes) (and_parts (is_correct p [] (seats.Client c)) (op_fits p.clients op) fit).1
askable p (Deliver k) sizes fit = tt
askable p (Flush k) sizes fit = tt
askable p (Tick s) sizes fit = tt
askable p (Lie from to lie) sizes fit = tt

pub are_askable : (p : Params) (steps : List Step) → IsTrue (accepted p) → IsTrue (list_all (step_fits p []) steps) → All IsAskable steps
are_askable p [] sizes fit = All-nil IsAskable
are_askable p (s ∷ steps) sizes fit =
    let both = and_parts (step_fits p [] s) (list_all (step_fits p []) steps) fit in
    All-cons IsAskable s steps (askable p s sizes both.0) (are_askable p steps sizes both.1)

-- the steps of a plan in which nobody is faulty
pub own_steps : (p : Plan) → p.faulty ≡ [] → IsTrue (list_all (step_fits p.params p.faulty) p.steps) → IsTrue (list_all (step_fits p.params []) p.steps)
own_steps p nobody fit = subst (λ (f : List Seat). list_all (step_fits p.params f) p.steps ≡ true) nobody fit

-- the steps of the first items fit, and the next one does
pub next_fits : (p : Params) (steps : List Step) (k : ℕ) (d : Step) → k < length steps → IsTrue (list_all (step_fits p []) (take (k + 1) steps)) → IsTrue (list_all (step_fits p []) (take k steps)) × IsTrue (step_fits p [] (get_or steps k d))
next_fits p steps k d inside fit = and_parts (list_all (step_fits p []) (take k steps)) (step_fits p [] (get_or steps k d)) (sym (list_all_more (step_fits p []) steps k d inside) ∙ fit)
