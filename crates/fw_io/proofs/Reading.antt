-- A part of all bytes was read, and the rest is left.
use Rattle.std.proofs.Common.{◌≡◌, ℕ, ◌+◌, ◌<◌, ◌≤◌, List, ◌++◌, length, drop, Option, None, Some, IfSome, ap, ◌∙◌, sym, arith, length-append}
use Rattle.std.proofs.Math.Seq.{drop-append_seam, drop-append-add}
use Rattle.fw_io.specs.Source.{Fills, ReadsUpTo, ReadsPast}

-- the bytes so far and what is left are all
abbrev pub AreAll : List ℕ → Option (List ℕ) → List ℕ → Type 0
AreAll bytes left all = (rest : List ℕ) × (left ≡ Some rest) × (bytes ++ rest ≡ all)

-- a read that failed has read nothing more
pub failed_up_to : (most : ℕ) (start now after : Option (List ℕ)) (bytes : List ℕ) → length bytes ≤ most → IfSome start (AreAll bytes now) → IfSome now (λ left. after ≡ Some left) → IfSome start (λ all. ReadsUpTo most all after)
failed_up_to most None now after bytes fits told read = tt
failed_up_to most (Some all) now after bytes fits told read =
    let here : after ≡ Some told.0 = rw told.1 at read in
    let rest : drop (length bytes) all ≡ told.0 = rw (← told.2) (drop-append_seam bytes told.0) in
    (length bytes, fits, here ∙ ap Some (sym rest))

-- a read that gave n bytes has read n more
pub read_up_to : (most n : ℕ) (start now after : Option (List ℕ)) (bytes buffer filled : List ℕ) → length bytes + n ≤ most → IfSome start (AreAll bytes now) → IfSome now (λ left. Fills left buffer n after filled) → IfSome start (λ all. ReadsUpTo most all after)
read_up_to most n None now after bytes buffer filled fits told read = tt
read_up_to most n (Some all) now after bytes buffer filled fits told read =
    let here : Fills told.0 buffer n after filled = rw told.1 at read in
    let rest : drop (length bytes + n) all ≡ drop n told.0 = rw (← told.2) (drop-append-add bytes told.0 n) in
    (length bytes + n, fits, here.left_over ∙ ap Some (sym rest))

-- a read that gave one byte more than the limit leaves has read past it
pub read_past : (limit n : ℕ) (start now after : Option (List ℕ)) (bytes buffer filled : List ℕ) → length bytes + n ≡ limit + 1 → IfSome start (AreAll bytes now) → IfSome now (λ left. Fills left buffer n after filled) → IfSome start (λ all. ReadsPast limit all after)
read_past limit n None now after bytes buffer filled over told read = tt
read_past limit n (Some all) now after bytes buffer filled over told read =
    let here : Fills told.0 buffer n after filled = rw told.1 at read in
    let rest : drop (limit + 1) all ≡ drop n told.0 = rw (← over, ← told.2) (drop-append-add bytes told.0 n) in
    let size : length bytes + length told.0 ≡ length all = sym (length-append bytes told.0) ∙ ap length told.2 in
    let enough : n ≤ length told.0 = here.within in
    (omega arith, here.left_over ∙ ap Some (sym rest))

-- where a read gave a byte, there was one
pub some_there : (n : ℕ) (start now after : Option (List ℕ)) (bytes buffer filled : List ℕ) → 0 < n → IfSome start (AreAll bytes now) → IfSome now (λ left. Fills left buffer n after filled) → IfSome start (λ all. 0 < length all)
some_there n None now after bytes buffer filled some told read = tt
some_there n (Some all) now after bytes buffer filled some told read =
    let here : Fills told.0 buffer n after filled = rw told.1 at read in
    let size : length bytes + length told.0 ≡ length all = sym (length-append bytes told.0) ∙ ap length told.2 in
    let enough : n ≤ length told.0 = here.within in
    omega arith
