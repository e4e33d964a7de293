use Rattle.std.proofs.Common.{◌≡◌, ◌≤◌, length, take, drop, ◌+◌, ◌-◌, ◌*◌, ◌∙◌, ap, subst, arith}
use Rattle.fw_list.specs.declared.limits.TheConstants.{ROW_LEN}
use Rattle.fw_base.specs.Places.{place_index}
use Rattle.fw_lamport.specs.Signature.{place_at}
use Rattle.fw_directory.specs.Directories.{PlainDirectory, IsDirectory, row_at}
use Rattle.fw_directory.proofs.Bounds.{row_inside}
use Rattle.fw_directory.proofs.directory.Directory.rows.Goals as goal

-- the digests of the slot's places are within the directory
pub slice_bounds-result-end : goal.slice_bounds-result-end
slice_bounds-result-end c =
    let whole : IsDirectory c.args.self.now = subst IsDirectory c.self.view_is c.self.invariant in
    let index : c.place_index.result ≡ place_index c.args.self.now.params (place_at c.args.slot c.args.point 0) = c.place_index.ensures.value ∙ ap (λ (d : PlainDirectory). place_index d.params (place_at c.args.slot c.args.point 0)) c.self.view_is in
    let all : length c.items.result.now ≡ length c.args.self.now.digests = ap length (c.items.ensures ∙ ap (λ (d : PlainDirectory). d.digests) c.self.view_is) in
    let inside : 32 * place_index c.args.self.now.params (place_at c.args.slot c.args.point 0) + 16384 ≤ length c.args.self.now.digests = row_inside c.args.self.now c.args.slot c.args.point whole c.requires.fits c.requires.point in
    omega (arith, inside, index, all)

pub returns-clause-rows : goal.returns-clause-rows
returns-clause-rows c =
    let count : 32 * c.place_index.result + 16384 - 32 * c.place_index.result ≡ ROW_LEN = omega arith in
    ap (λ n. take n (drop (32 * c.place_index.result) c.items.result.now)) count
    ∙ ap (λ xs. take ROW_LEN (drop (32 * c.place_index.result) xs)) c.items.ensures
    ∙ ap (λ k. take ROW_LEN (drop (32 * k) c.self.inside.digests)) c.place_index.ensures.value
    ∙ ap (λ (d : PlainDirectory). row_at d c.args.slot c.args.point) c.self.view_is
