-- A front of a text was written.
use Rattle.std.proofs.Common.{◌≡◌, ℕ, ◌+◌, ◌-◌, List, ◌++◌, length, take, drop, Option, None, Some, IfSome, arith, append_assoc, length-drop}
use Rattle.std.proofs.Math.Seq.{take-add}
use Rattle.std.proofs.lemmas.List.{take_all}

-- a write that took n bytes of the rest has made the front longer by n
pub written_more : (at n : ℕ) (text : List ℕ) (start now after : Option (List ℕ)) → IfSome start (λ bytes. now ≡ Some (bytes ++ take at text)) → IfSome now (λ bytes. after ≡ Some (bytes ++ take n (take (length text - at) (drop at text)))) → IfSome start (λ bytes. after ≡ Some (bytes ++ take (at + n) text))
written_more at n text None now after told wrote = tt
written_more at n text (Some bytes) now after told wrote =
    let rest : take (length text - at) (drop at text) ≡ drop at text = take_all (length text - at) (drop at text) (simp length-drop (omega arith)) in
    let here : after ≡ Some ((bytes ++ take at text) ++ take n (take (length text - at) (drop at text))) = rw told at wrote in
    let short : after ≡ Some ((bytes ++ take at text) ++ take n (drop at text)) = rw rest at here in
    rw (take-add at n text, ← append_assoc) short
