-- The answers to the front of a list.
use Rattle.std.proofs.Common.{suc, List, [], ◌∷◌, refl, ap}
use Rattle.fw_ref.specs.Reference.{Replied, step}
use Rattle.fw_law_ref.specs.Front.{FrontIsFixed, GoesOn, OneForEach, AnswerThere}

pub front_is_fixed : FrontIsFixed
front_is_fixed m [] rest = refl
front_is_fixed m (e ∷ front) rest = ap (λ (all : List Replied). (step m e).0 ∷ all) (front_is_fixed (step m e).1 front rest)

pub goes_on : GoesOn
goes_on m [] rest = refl
goes_on m (e ∷ front) rest = goes_on (step m e).1 front rest

pub one_for_each : OneForEach
one_for_each m [] = refl
one_for_each m (e ∷ entries) = ap suc (one_for_each (step m e).1 entries)

pub answer_there : AnswerThere
answer_there m [] rest e = refl
answer_there m (x ∷ front) rest e = answer_there (step m x).1 front rest e
