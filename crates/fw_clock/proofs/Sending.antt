-- What is sent, one after another.
use Rattle.std.proofs.Common.{◌≡◌, List, ◌++◌, length, take, drop, sym, ap, ◌∙◌}
use Rattle.std.specs.Prelude.{Result, Ok, Err, OnOk, OnErr}
use Rattle.std.proofs.Math.Seq.{take-append_seam, take-length}
use Rattle.std.proofs.lemmas.List.{append_assoc, take-append-drop}

-- what is sent stands after what was there
pub begins : {A E X : Type 0} (r : Result A E) (a b more : List X) → OnOk r (b ≡ a ++ more) → OnErr r (b ≡ a) → take (length a) b ≡ a
begins (Ok x) a b more sent err = ap (take (length a)) sent ∙ take-append_seam a more
begins (Err e) a b more sent err = ap (take (length a)) err ∙ take-length a

-- of two in a row
pub begins_over : {X : Type 0} (a b c : List X) → take (length a) b ≡ a → take (length b) c ≡ b → take (length a) c ≡ a
begins_over a b c one other =
    let first : b ≡ a ++ drop (length a) b = sym (take-append-drop (length a) b) ∙ ap (λ front. front ++ drop (length a) b) one in
    let second : c ≡ b ++ drop (length b) c = sym (take-append-drop (length b) c) ∙ ap (λ front. front ++ drop (length b) c) other in
    let all : c ≡ a ++ (drop (length a) b ++ drop (length b) c) = second ∙ ap (λ front. front ++ drop (length b) c) first ∙ append_assoc a (drop (length a) b) (drop (length b) c) in
    ap (take (length a)) all ∙ take-append_seam a (drop (length a) b ++ drop (length b) c)

pub begins_same : {X : Type 0} (a b : List X) → b ≡ a → take (length a) b ≡ a
begins_same a b same = ap (take (length a)) same ∙ take-length a

pub begins_with : {X : Type 0} (a b more : List X) → b ≡ a ++ more → take (length a) b ≡ a
begins_with a b more sent = ap (take (length a)) sent ∙ take-append_seam a more

pub two_sent : {X : Type 0} (a b c first second : List X) → b ≡ a ++ first → c ≡ b ++ second → c ≡ a ++ (first ++ second)
two_sent a b c first second one other = other ∙ ap (λ front. front ++ second) one ∙ append_assoc a first second
