-- Bytes that begin with a head and a directory.
use Rattle.std.proofs.Common.{◌≡◌, ◌≤◌, ◌+◌, ◌*◌, ℕ, List, ◌++◌, length, Result, Ok, Err, OnErr, ap, ◌∙◌, arith, length-append}
use Rattle.fw_list.specs.declared.limits.TheConstants.{ROW_LEN}
use Rattle.fw_base.specs.declared.params.Params.{Params}
use Rattle.fw_directory.specs.Directories.{PlainDirectory, rows}
use Rattle.fw_hand.specs.Reading.{IsDirectoryFor}

-- where a directory was found, as many bytes stood there as it has
pub long : (rest more : List ℕ) (p : Params) (d : PlainDirectory) → (rest ≡ d.digests ++ more) × IsDirectoryFor p d → ROW_LEN * rows p ≤ length rest
long rest more p d found =
    let whole : length d.digests ≡ ROW_LEN * rows p = found.1.1.whole ∙ ap (λ (q : Params). ROW_LEN * rows q) found.1.0 in
    let both : length rest ≡ length d.digests + length more = ap length found.0 ∙ length-append d.digests more in
    omega (arith, whole, both)

-- what holds holds after an error
pub after_error : {A E : Type 0} (r : Result A E) (P : Type 0) → P → OnErr r P
after_error (Ok x) P p = tt
after_error (Err e) P p = p
